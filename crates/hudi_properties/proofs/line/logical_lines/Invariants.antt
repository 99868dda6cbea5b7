use Rattle.std.proofs.Common.{◌≡◌, ℕ, ◌+◌, ◌≤◌, ◌++◌, List, length, option_map, Bor}
use Rattle.lake_basics.proofs.Lines.{left}
use Rattle.hudi_properties.specs.Lines.{logical_from, logical_lines, lines_in}
use Rattle.hudi_properties.proofs.line.logical_lines.Given as goal

abbrev pub invariant-lines : goal.invariant-lines
invariant-lines l = record {
  so_far : l.lines.items ++ logical_from (l.number + 1) l.front (lines_in (option_map (λ (s : Bor (List ℕ)). s.now) l.rest)) ≡ logical_lines l.fn.bytes;
  numbers : l.number + left (option_map (λ (s : Bor (List ℕ)). s.now) l.rest) ≤ length l.fn.bytes + 1;
}

abbrev pub decreases-lines : goal.decreases-lines
decreases-lines l = left (option_map (λ (s : Bor (List ℕ)). s.now) l.rest)
