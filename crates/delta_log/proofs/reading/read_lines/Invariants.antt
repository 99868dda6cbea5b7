use Rattle.std.proofs.Common.{◌≡◌, ℕ, ◌+◌, ◌≤◌, List, length, option_map, Bor}
use Rattle.lake_basics.proofs.Lines.{left}
use Rattle.delta_log.specs.Judging.{with_lines, lines_in, commit_of}
use Rattle.delta_log.specs.Sound.{IsWritable}
use Rattle.delta_log.proofs.reading.read_lines.Given as goal

abbrev pub invariant-lines : goal.invariant-lines
invariant-lines l = record {
  so_far : with_lines (l.number + 1) l.reading (lines_in (option_map (λ (s : Bor (List ℕ)). s.now) l.rest)) ≡ commit_of l.bytes;
  sound : IsWritable l.reading;
  numbers : l.number + left (option_map (λ (s : Bor (List ℕ)). s.now) l.rest) ≤ length l.bytes + 1;
}

abbrev pub decreases-lines : goal.decreases-lines
decreases-lines l = left (option_map (λ (s : Bor (List ℕ)). s.now) l.rest)
