use Rattle.std.proofs.Common.{◌≡◌, ◌++◌, drop, map}
use Rattle.std.specs.List.{AllByRecursion}
use Rattle.serde_json.specs.View.{view}
use Rattle.iceberg_metadata.specs.Writing.{schema_data, SchemaFits}
use Rattle.iceberg_metadata_writing.proofs.writing.schema_values.Given as goal

abbrev pub invariant-loop-schema : goal.invariant-loop-schema
invariant-loop-schema l = record {
  value : map view l.values.items ++ map schema_data (drop l.schema-index l.schemas) ≡ map schema_data l.schemas;
  fit : AllByRecursion SchemaFits (drop l.schema-index l.schemas) → AllByRecursion SchemaFits l.schemas;
}
