use Rattle.std.proofs.Common.{◌≤◌, vec_len}
use Rattle.lake_system.proofs.files.names_in.Given as goal

abbrev pub invariant-entries : goal.invariant-entries
invariant-entries g l = vec_len l.names ≤ 2000000
