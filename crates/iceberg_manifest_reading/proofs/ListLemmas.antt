-- A row of a list from its parts.
use Rattle.std.proofs.Common.{◌≡◌, ℕ, ℤ, List, Ok, refl}
use Rattle.avro_value.specs.ValueTree.{ValueTree, ValueTrees}
use Rattle.iceberg_manifest.specs.Values.{required_text, record_value}
use Rattle.iceberg_manifest.specs.ListReading.{content_at, numbers_at, counts_at, info_of, list_row}
use Rattle.iceberg_manifest.specs.declared.info.ManifestInfo.{ManifestInfo}
use Rattle.iceberg_manifest.specs.declared.list.ListPlan.{ListPlan}
use Rattle.iceberg_manifest.specs.declared.list.Counts.{Counts}
use Rattle.iceberg_manifest.specs.declared.list.RowNumbers.{RowNumbers}

pub row_is : (plan : ListPlan) (k : ℕ) (v : ValueTree) (vs : ValueTrees) (path : List ℕ) (content : ℤ) (numbers : RowNumbers) (counts : Counts) (i : ManifestInfo) → record_value v ≡ Ok vs → required_text vs plan.path ≡ Ok path → content_at plan vs ≡ Ok content → numbers_at plan vs ≡ Ok numbers → counts_at content plan.counts vs ≡ Ok counts → i ≡ info_of path content numbers counts k → list_row plan k v ≡ Ok i
unfolding list_row
row_is plan k v vs path content numbers counts i a b c d e is = rw (a, b, c, d, e, is) refl
