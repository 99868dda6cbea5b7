use Rattle.std.proofs.Common.{◌≡◌, ◌++◌, ◌≤◌, map}
use Rattle.conformance.specs.Drill.{removed_file, numbers_under}
use Rattle.conformance.proofs.file.push_removed.Given as goal

abbrev pub invariant-loop-place : goal.invariant-loop-place
invariant-loop-place l = record {
  files : l.files.items ≡ l.fn.files.items ++ map (removed_file l.number l.commit) (numbers_under l.place);
  bound : l.place ≤ 50;
}
