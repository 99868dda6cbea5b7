-- The grammar of a completed commit or replacecommit (Hudi technical specification, commit metadata): which JSON states which instant.
use Rattle.std.specs.Prelude.{◌≡◌, ℕ, ◌<◌, ◌^◌, ◌⊎◌, List, [], ◌∷◌, ◌++◌, codes, Option, Some, None, IsSome, option_and_then}
use Rattle.serde_json.specs.Data.{Data, Items, Members}
use Rattle.serde_json.specs.Find.{get, as_str, as_array, as_object}
use Rattle.json_reading.specs.Json.{present, count, items, pairs, text_member, count_member, object_member}
use Rattle.table_history.specs.Path.{IsPathOfAnyLength}
use Rattle.hudi_instant.specs.declared.instant.Instant.{Instant}
use Rattle.hudi_instant.specs.declared.instant.Stat.{Stat}

-- A size that isn't stated is 0.
abbrev pub IsSize : Option Data → ℕ → Type 0
IsSize None size = size ≡ 0
IsSize (Some d) size = (count d ≡ Some size) × (size < 2 ^ 63)

-- a write stat that names a file
pub record IsStat (d : Data) (s : Stat) : Type 0 where
  pub path : text_member (codes "path") d ≡ Some s.path
  pub form : IsPathOfAnyLength s.path
  pub file_id : text_member (codes "fileId") d ≡ Some s.file_id
  pub partition_path : text_member (codes "partitionPath") d ≡ Some s.partition_path
  pub writes : count_member (codes "numWrites") d ≡ Some s.writes
  pub small : s.writes < 2 ^ 63
  pub size : IsSize (get (codes "fileSizeInBytes") d) s.size

-- a write stat whose path is absent or null, which names none
pub record IsSkipped (d : Data) : Type 0 where
  pub shape : IsSome (as_object d)
  pub path : present (codes "path") d ≡ None

-- the files that the stats of an array name, in its order
abbrev pub AreStats : List Data → List Stat → Type 0
AreStats [] found = found ≡ []
AreStats (d ∷ ds) found = (IsSkipped d × AreStats ds found) ⊎ ((s : Stat) × (rest : List Stat) × IsStat d s × AreStats ds rest × (found ≡ s ∷ rest))

-- the same of an object's arrays, in the order of its members
abbrev pub ArraysHoldStats : List (List ℕ × Data) → List Stat → Type 0
ArraysHoldStats [] found = found ≡ []
ArraysHoldStats (p ∷ ps) found =
    (list : Items) × (front : List Stat) × (rest : List Stat) × (as_array p.1 ≡ Some list) × AreStats (items list) front × ArraysHoldStats ps rest × (found ≡ front ++ rest)

-- the file ids that an array replaces in a partition
abbrev pub AreIds : List ℕ → List Data → List (List ℕ × List ℕ) → Type 0
AreIds partition [] found = found ≡ []
AreIds partition (d ∷ ds) found = (id : List ℕ) × (rest : List (List ℕ × List ℕ)) × (as_str d ≡ Some id) × AreIds partition ds rest × (found ≡ (partition, id) ∷ rest)

abbrev pub ArraysHoldIds : List (List ℕ × Data) → List (List ℕ × List ℕ) → Type 0
ArraysHoldIds [] found = found ≡ []
ArraysHoldIds (p ∷ ps) found =
    (list : Items) × (front : List (List ℕ × List ℕ)) × (rest : List (List ℕ × List ℕ)) × (as_array p.1 ≡ Some list) × AreIds p.0 (items list) front × ArraysHoldIds ps rest × (found ≡ front ++ rest)

-- Where the member is absent or null, nothing is replaced.
abbrev pub AreReplaced : Option Data → List (List ℕ × List ℕ) → Type 0
AreReplaced None found = found ≡ []
AreReplaced (Some d) found = (members : Members) × (as_object d ≡ Some members) × ArraysHoldIds (pairs members) found

abbrev pub IsTextOrNone : Option Data → Option (List ℕ) → Type 0
IsTextOrNone None text = text ≡ None
IsTextOrNone (Some d) text = (stated : List ℕ) × (as_str d ≡ Some stated) × (text ≡ Some stated)

-- a text of the extra metadata, where there is such
abbrev pub IsExtraText : Option Data → List ℕ → Option (List ℕ) → Type 0
IsExtraText None name text = text ≡ None
IsExtraText (Some extra) name text = IsSome (as_object extra) × IsTextOrNone (present name extra) text

-- The mark that stands in the extra metadata. What isn't a text there is none, since the marks of a table's targets are no part of the format.
abbrev pub mark_in : Option Data → Option (List ℕ)
mark_in extra = option_and_then (text_member (codes "lakebridge.mark")) extra

-- the JSON of an instant
pub record StatesInstant (d : Data) (i : Instant) : Type 0 where
  pub partitions : Members
  pub has_stats : object_member (codes "partitionToWriteStats") d ≡ Some partitions
  pub stats : ArraysHoldStats (pairs partitions) i.stats
  pub replaced : AreReplaced (present (codes "partitionToReplaceFileIds") d) i.replaced
  pub schema : IsExtraText (present (codes "extraMetadata") d) (codes "schema") i.schema
  pub mark : i.mark ≡ mark_in (present (codes "extraMetadata") d)
