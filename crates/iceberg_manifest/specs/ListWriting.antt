-- Manifest lists as they are written (Iceberg specification, "Manifest Lists").
use Rattle.std.specs.Prelude.{◌≡◌, ℕ, ◌+◌, ◌*◌, ◌≤◌, ◌⊎◌, ℤ, pos, List, [], ◌∷◌, length, Option, Some, None, codes, FitsSigned}
use Rattle.std.specs.Fmt.{signed_decimal}
use Rattle.std.specs.Int.{w32}
use Rattle.std.specs.List.{AllByRecursion}
use Rattle.avro_value.specs.ValueTree.{ValueTree, values_of}
use Rattle.avro_container.specs.Format.{Pairs}
use Rattle.iceberg_manifest.specs.declared.info.ManifestInfo.{ManifestInfo}

-- the marker between blocks
abbrev pub marker : List ℕ
marker = codes "lakebridge-sync!"

abbrev pub info_trees : ManifestInfo → List ValueTree
info_trees i = ValueTree.text i.manifest_path ∷ ValueTree.long i.manifest_length ∷ ValueTree.int i.partition_spec_id ∷ ValueTree.int i.content ∷ ValueTree.long i.sequence_number ∷ ValueTree.long i.min_sequence_number ∷ ValueTree.long i.added_snapshot_id ∷ ValueTree.int i.added_files_count ∷ ValueTree.int i.existing_files_count ∷ ValueTree.int i.deleted_files_count ∷ ValueTree.long i.added_rows_count ∷ ValueTree.long i.existing_rows_count ∷ ValueTree.long i.deleted_rows_count ∷ []

-- a row's value
abbrev pub info_tree : ManifestInfo → ValueTree
info_tree i = ValueTree.record_of (values_of (info_trees i))

-- The rows have their places in the list, from k.
abbrev pub HavePlaces : ℕ → List ManifestInfo → Type 0
HavePlaces k [] = Unit {0}
HavePlaces k (i ∷ is) = (i.place ≡ k) × HavePlaces (k + 1) is

-- The manifest has data or deletes.
abbrev pub HasContent : ManifestInfo → Type 0
HasContent i = (i.content ≡ pos 0) ⊎ (i.content ≡ pos 1)

-- The rows are those of a list, and with all their values no more than the limit.
pub record IsWritableList (limit : ℕ) (infos : List ManifestInfo) : Type 0 where
  pub places : HavePlaces 0 infos
  pub contents : AllByRecursion HasContent infos
  pub few : 14 * length infos ≤ limit

-- The numbers that are written as ints are of 32 bits.
abbrev pub HasInts : ManifestInfo → Type 0
HasInts i = FitsSigned w32 i.partition_spec_id × FitsSigned w32 i.added_files_count × FitsSigned w32 i.existing_files_count × FitsSigned w32 i.deleted_files_count

abbrev pub parent_text : Option ℤ → List ℕ
parent_text None = codes "null"
parent_text (Some id) = signed_decimal id

-- the metadata of the container
abbrev pub list_meta : ℤ → Option ℤ → ℤ → Pairs
list_meta snapshot parent sequence = (codes "format-version", codes "2") ∷ (codes "parent-snapshot-id", parent_text parent) ∷ (codes "sequence-number", signed_decimal sequence) ∷ (codes "snapshot-id", signed_decimal snapshot) ∷ []
