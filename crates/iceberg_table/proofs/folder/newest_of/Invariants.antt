use Rattle.std.proofs.Common.{◌≤◌, length}
use Rattle.iceberg_table.proofs.FolderLaws.{IsNamedBefore, IsNewestOf}
use Rattle.iceberg_table.proofs.folder.newest_of.Given as goal

abbrev pub invariant-loop-name : goal.invariant-loop-name
invariant-loop-name l = record { within : l.name-index ≤ length l.names; seen : IsNewestOf (IsNamedBefore l.names l.name-index) l.newest }
