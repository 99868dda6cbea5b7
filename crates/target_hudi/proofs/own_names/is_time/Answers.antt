use Rattle.std.proofs.Common.{List, MatchOption, subst}
use Rattle.std.specs.Prelude.{ℕ, ℤ}
use Rattle.hudi_names.specs.Time.{IsTime}
use Rattle.target_hudi.proofs.OwnNameLemmas.{time_decided}
use Rattle.target_hudi.proofs.own_names.is_time.Goals as goal

pub returns : goal.returns
returns c = time_decided c.read_time.result c.is_some.result c.args.time.now c.is_some.ensures
    (subst (λ (t : List ℕ). MatchOption c.read_time.result ((ms : ℤ) → IsTime t ms → ⊥) (λ ms. IsTime t ms)) c.as_bytes.ensures.value c.read_time.ensures)
