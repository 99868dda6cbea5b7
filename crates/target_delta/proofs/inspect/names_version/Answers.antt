use Rattle.std.proofs.Common.{List, ℕ, sym, subst}
use Rattle.std.specs.Prelude.{Contains}
use Rattle.std.proofs.lemmas.Bool.{false≢true}
use Rattle.target_delta.proofs.inspect.names_version.Goals as goal
use Rattle.lake_basics.proofs.Lists.{all_taken}

pub returns : goal.returns
returns c = (
  λ no. absurd (false≢true no),
  λ named. absurd (c.loop-name.invariant named.0 (subst (λ (l : List (List ℕ)). Contains l named.0) (sym (all_taken c.args.names.now c.loop-name.name-index c.loop-name.auto.name-index-end c.loop-name-test.false)) named.1) named.2),
)
