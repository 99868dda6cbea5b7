-- What a store in memory was before each of its calls.
use Rattle.std.specs.Prelude.{ℕ, List, [], ◌∷◌}
use Rattle.std.specs.FinMap as map
use Rattle.std.specs.FinSet as set
use Rattle.lake_store.specs.Disk.{Disk, Files, Paths, with_file, with_path}
use Rattle.lake_store.specs.Memory.{Memory}
use Rattle.lake_store.specs.declared.memory.Change.{Change}
use Rattle.lake_store.specs.declared.memory.Change.TheVariants.{At, Crashed, Moved, Synced}

-- the files, where those at these paths are the ones that were kept
abbrev pub put_back : Files → Files → List (List ℕ) → Files
put_back files kept [] = files
put_back files kept (path ∷ paths) = with_file (put_back files kept paths) path (map.get kept path)

-- the disk before a change
abbrev pub disk_before : Change → Disk → Disk
disk_before (At path bytes dirty) disk = record { files = with_file disk.files path bytes; dirty = with_path disk.dirty path dirty }
disk_before (Moved from to dirty) disk = record { files = with_file (map.remove disk.files to) from (map.get disk.files to); dirty = with_path disk.dirty to dirty }
disk_before (Synced dirty) disk = record { files = disk.files; dirty = dirty }
disk_before (Crashed files dirty) disk = record { files = put_back disk.files files (set.items dirty); dirty = dirty }

-- the disks before the changes, of which the newest is the first
abbrev pub disks_before : Disk → List Change → List Disk
disks_before disk [] = []
disks_before disk (change ∷ past) = disk_before change disk ∷ disks_before (disk_before change disk) past

abbrev pub memory_of : Files → Paths → List Change → Memory
memory_of files dirty past = record { disk = record { files = files; dirty = dirty }; past = disks_before (record { files = files; dirty = dirty }) past }
