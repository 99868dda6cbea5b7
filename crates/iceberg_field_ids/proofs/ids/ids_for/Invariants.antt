use Rattle.std.proofs.Common.{◌≡◌, drop}
use Rattle.iceberg_field_ids.specs.Ids.{ids_for}
use Rattle.schema_map.specs.IcebergFits.{AreIds}
use Rattle.iceberg_field_ids.proofs.IdsFor.{with_ids}
use Rattle.iceberg_field_ids.proofs.ids.ids_for.Given as goal

abbrev pub invariant-loop-path : goal.invariant-loop-path
invariant-loop-path l = record {
  given : with_ids l.ids.items (ids_for l.known.pairs l.last (drop l.path-index l.paths)) ≡ ids_for l.known.pairs l.known.last l.paths;
  are : AreIds l.ids.items;
}
