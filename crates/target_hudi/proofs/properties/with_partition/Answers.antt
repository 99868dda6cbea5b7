use Rattle.std.proofs.Common.{◌≡◌, ◌++◌, ℕ, List, subst}
use Rattle.std.specs.Prelude.{IfOk}
use Rattle.target_hudi.proofs.PairLemmas.{partition_pair}
use Rattle.target_hudi.proofs.properties.with_partition.Goals as goal

pub returns : goal.returns
returns c = subst (λ (l : List (List ℕ × List ℕ)). IfOk c.with_pair.result (λ more. more ≡ c.args.pairs ++ l)) (partition_pair c.args.partition.now c.first-item.result c.first-item.result c.as_str.result.now c.in_ok-names.names c.in-len1-up.len_at_least c.first-item.is c.in_ok-names.ensures c.as_str.ensures.value) c.with_pair.ensures
