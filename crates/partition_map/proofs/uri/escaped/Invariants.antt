use Rattle.std.proofs.Common.{◌≡◌, take, string_bytes}
use Rattle.partition_map.specs.Uri.{escaped_path}
use Rattle.partition_map.proofs.uri.escaped.Given as goal

abbrev pub invariant-loop-byte : goal.invariant-loop-byte
invariant-loop-byte l = string_bytes l.uri ≡ escaped_path (take l.byte-index l.byte-items)
