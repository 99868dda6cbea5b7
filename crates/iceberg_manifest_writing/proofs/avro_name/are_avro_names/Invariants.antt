use Rattle.std.proofs.Common.{◌≡◌, drop}
use Rattle.std.specs.List.{list_all}
use Rattle.schema_map.specs.Image.{is_avro_name}
use Rattle.iceberg_manifest_writing.proofs.avro_name.are_avro_names.Given as goal

abbrev pub invariant-loop-name : goal.invariant-loop-name
invariant-loop-name l = list_all is_avro_name (drop l.name-index l.names) ≡ list_all is_avro_name l.names
