use Rattle.std.proofs.Common.{◌≡◌, ◌∙◌, List, ap}
use Rattle.table_history.specs.Row.{Row}
use Rattle.table_history.specs.declared.row.PartValue.{PartValue}
use Rattle.partition_map.specs.Kind.{IsOfKind}
use Rattle.iceberg_manifest.specs.Lists.{AreEach}
use Rattle.iceberg_manifest.specs.declared.partition.PartColumn.{PartColumn}
use Rattle.iceberg_rows.specs.declared.samples.TheConstants.{COLUMNS as columns}
use Rattle.iceberg_rows.proofs.samples.manifest.Goals as goal

of_kinds : (cs : List PartColumn) (kept given : List PartValue) → kept ≡ given → AreEach (λ c v. IsOfKind c.kind v) cs given → AreEach (λ c v. IsOfKind c.kind v) cs kept
of_kinds cs kept given is kinds = rw is kinds

abbrev values_in : Row → List PartValue
values_in row = row.values

pub manifest_of-requires-clause-values : goal.manifest_of-requires-clause-values
manifest_of-requires-clause-values c = λ front. (
  of_kinds columns _ _ (ap values_in c.deleted.ensures ∙ c.in_ok-first.ensures) (tt, (tt, tt)),
  (
    of_kinds columns _ _ (ap values_in c.existing.ensures ∙ c.in_ok-second.ensures) (tt, (tt, tt)),
    (of_kinds columns _ _ (ap values_in c.added.ensures ∙ c.in_ok-third.ensures) (tt, (tt, tt)), tt),
  ),
)
