use Rattle.std.proofs.Common.{◌^◌, drop, pos}
use Rattle.std.specs.Prelude.{◌+ℤ◌, ◌≤ℤ◌}
use Rattle.target_iceberg.specs.Fitting.{state_of}
use Rattle.target_iceberg.specs.Newest.{shape_at}
use Rattle.target_iceberg.proofs.FollowLemmas.{AtCommit}
use Rattle.target_iceberg.proofs.fitting.first_passed.Given as goal

abbrev pub invariant-loop-place : goal.invariant-loop-place
invariant-loop-place l = record {
  at : AtCommit (state_of l.kept) l.kept.table.schema l.place (shape_at l.held.newest) l.held.current l.held.count l.commits (drop l.place l.commits);
  few : l.held.count ≤ℤ (pos (2 ^ 61) +ℤ pos l.place);
}
