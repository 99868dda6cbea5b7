use Rattle.std.proofs.Common.{◌≡◌, take, map}
use Rattle.table_lines.specs.Lines.{printed}
use Rattle.table_lines.proofs.line.line_of_text.Given as goal

abbrev pub invariant-loop-byte : goal.invariant-loop-byte
invariant-loop-byte l = l.out.items ≡ map printed (take l.byte-index l.byte-items)
