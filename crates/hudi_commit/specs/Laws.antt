-- What holds of a timeline's files, whatever writes and reads them.
use Rattle.lake_store.specs.Disk.{Disk, Files}
use Rattle.lake_store.specs.Runs.{IsIn, KeepsImage}
use Rattle.hudi_commit.specs.Names.{timeline_folder}
use Rattle.hudi_commit.specs.Orderly.{IsAlike, IsFaultless, IsOrderly, IsReadAlike, IsSameTimeline}
use Rattle.hudi_commit.specs.Settled.{Stands, StandsAt}

-- Orderly files with the same completed instants and properties are read alike, whatever else is pending or claimed, since neither have a fault.
abbrev pub ReadingLemma : Type 0
ReadingLemma = (a b : Files) → IsOrderly a → IsOrderly b → IsSameTimeline a b → IsReadAlike a b × IsFaultless a × IsFaultless b

-- Files that differ in leftovers alone have the same completed instants and properties.
abbrev pub AlikeIsSame : Type 0
AlikeIsSame = (a b : Files) → IsAlike a b → IsSameTimeline a b

-- A crash leaves the files of a settled disk orderly and alike.
abbrev pub CrashIsSafe : Type 0
CrashIsSafe = (base : Files) (disk : Disk) → Stands base disk → (image : Files) → KeepsImage (IsIn timeline_folder) disk image → StandsAt base image
