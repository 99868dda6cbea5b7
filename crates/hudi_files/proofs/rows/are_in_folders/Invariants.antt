use Rattle.std.proofs.Common.{◌≡◌, true, take}
use Rattle.hudi_files.specs.Values.{are_in_folders}
use Rattle.hudi_files.proofs.rows.are_in_folders.Given as goal

abbrev pub invariant-loop-row : goal.invariant-loop-row
invariant-loop-row l = are_in_folders l.style l.names (take l.row-index l.rows) ≡ true
