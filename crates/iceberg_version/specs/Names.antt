-- The names in an Iceberg table's folder `metadata` (Iceberg specification, "File System Tables") that a commit of this program is written under.
use Rattle.std.specs.Prelude.{ℕ, List, ◌++◌, codes}
use Rattle.std.specs.Fmt.{decimal}

-- the name that a version's metadata is staged under
abbrev pub staged_name : ℕ → List ℕ
staged_name version = codes "lb-v-" ++ (decimal version ++ codes ".json")

-- the name of the manifest list of a version
abbrev pub list_name : ℕ → List ℕ
list_name version = codes "lb-s-" ++ (decimal version ++ codes ".avro")

-- the name of a version's manifest of this number, from 0 in the order of its list
abbrev pub manifest_name : ℕ → ℕ → List ℕ
manifest_name version number = codes "lb-m-" ++ (decimal version ++ (codes "-" ++ (decimal number ++ codes ".avro")))
