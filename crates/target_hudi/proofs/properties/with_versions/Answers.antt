use Rattle.std.proofs.Common.{◌≡◌, ℕ, List, subst}
use Rattle.std.specs.Prelude.{IfOk}
use Rattle.target_hudi.proofs.PairLemmas.{four_behind}
use Rattle.target_hudi.proofs.properties.with_versions.Goals as goal

pub returns : goal.returns
returns c = subst (λ (l : List (List ℕ × List ℕ)). IfOk c.with_pair-4.result (λ more. more ≡ l)) (four_behind c.args.pairs c.in_ok-pairs.pairs c.in_ok-pairs-2.pairs c.in_ok-pairs-3.pairs _ _ _ _ c.in_ok-pairs.ensures c.in_ok-pairs-2.ensures c.in_ok-pairs-3.ensures) c.with_pair-4.ensures
