use Rattle.std.proofs.Common.{◌≡◌, ◌++◌, drop, map}
use Rattle.std.specs.List.{AllByRecursion}
use Rattle.serde_json.specs.View.{view}
use Rattle.iceberg_metadata.specs.Writing.{spec_data, SpecFits}
use Rattle.iceberg_metadata_writing.proofs.writing.spec_values.Given as goal

abbrev pub invariant-loop-spec : goal.invariant-loop-spec
invariant-loop-spec l = record {
  value : map view l.values.items ++ map spec_data (drop l.spec-index l.specs) ≡ map spec_data l.specs;
  fit : AllByRecursion SpecFits (drop l.spec-index l.specs) → AllByRecursion SpecFits l.specs;
}
