use Rattle.std.proofs.Common.{◌↔◌, map}
use Rattle.partition_map.specs.Folder.{EachCarries}
use Rattle.partition_map.proofs.FolderLemmas.{now_of, RestCarries}
use Rattle.partition_map.proofs.folder.each_carries.Given as goal

abbrev pub invariant-loop-i : goal.invariant-loop-i
invariant-loop-i l = EachCarries l.columns (map now_of l.components) l.values ↔ RestCarries l.columns l.components l.values l.i
