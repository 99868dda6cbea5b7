use Rattle.std.proofs.Common.{◌≤◌, length}
use Rattle.lake_system.proofs.files.fill.Given as goal

abbrev pub invariant-reads : goal.invariant-reads
invariant-reads g l = l.filled ≤ length l.buffer
