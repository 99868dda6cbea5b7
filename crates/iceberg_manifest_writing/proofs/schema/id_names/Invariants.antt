use Rattle.std.proofs.Common.{◌≡◌, take, map}
use Rattle.iceberg_manifest.specs.WrittenTypes.{id_name}
use Rattle.iceberg_manifest_writing.proofs.schema.id_names.Given as goal

abbrev pub invariant-loop-column : goal.invariant-loop-column
invariant-loop-column l = l.names.items ≡ map id_name (take l.column-index l.columns)
