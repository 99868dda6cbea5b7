-- The folders of the formats' metadata, and files that differ outside of one alone.
use Rattle.std.specs.Prelude.{◌≡◌, ℕ, List, codes}
use Rattle.std.specs.FinMap as map
use Rattle.std.specs.FinSet as set
use Rattle.lake_store.specs.Disk.{Disk, Files}
use Rattle.lake_store.specs.Runs.{IsIn, KeepsImage}
use Rattle.table_history.specs.declared.kind.Kind.{Kind}
use Rattle.table_history.specs.declared.kind.Kind.TheVariants.{Delta, Iceberg, Hudi}

-- the folder that all metadata of a format lies in, in the table's folder
abbrev pub folder_of : Kind → List ℕ
folder_of Delta = codes "_delta_log"
folder_of Iceberg = codes "metadata"
folder_of Hudi = codes ".hoodie"

-- no path lies in both
abbrev pub AreApart : List ℕ → List ℕ → Type 0
AreApart a b = (path : List ℕ) → IsIn a path → IsIn b path → ⊥

-- the files in this folder are the same
abbrev pub SameIn : List ℕ → Files → Files → Type 0
SameIn folder a b = (path : List ℕ) → IsIn folder path → map.get b path ≡ map.get a path

-- A crash may leave this in the folder.
abbrev pub MayLeaveIn : List ℕ → Disk → Files → Type 0
MayLeaveIn folder disk image = KeepsImage (IsIn folder) disk image

-- the files that a crash has left, of which another one can damage none
abbrev pub after_crash : Files → Disk
after_crash image = record { files = image; dirty = set.empty }
