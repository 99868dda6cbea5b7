use Rattle.std.proofs.Common.{ℕ, ◌+◌, ◌≤◌, List, length, option_map, Bor}
use Rattle.lake_basics.proofs.Lines.{left}
use Rattle.delta_compaction.proofs.NewestLemmas.{SoFar}
use Rattle.delta_compaction.proofs.newest.with_lines.Given as goal

abbrev pub invariant-lines : goal.invariant-lines
invariant-lines l = record {
  so_far : SoFar l.bytes l.fn.before l.number (option_map (λ (s : Bor (List ℕ)). s.now) l.rest) l.newest;
  numbers : l.number + left (option_map (λ (s : Bor (List ℕ)). s.now) l.rest) ≤ length l.bytes + 1;
}

abbrev pub decreases-lines : goal.decreases-lines
decreases-lines l = left (option_map (λ (s : Bor (List ℕ)). s.now) l.rest)
