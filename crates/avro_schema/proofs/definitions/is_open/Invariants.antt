use Rattle.std.proofs.Common.{◌≡◌, drop}
use Rattle.std.specs.List.{list_any}
use Rattle.std.specs.Str.{bytes_eq}
use Rattle.avro_schema.proofs.definitions.is_open.Given as goal

abbrev pub invariant-loop-open_name : goal.invariant-loop-open_name
invariant-loop-open_name l = list_any (bytes_eq l.name) (drop l.open_name-index l.names.open_names.items) ≡ list_any (bytes_eq l.name) l.names.open_names.items
