-- What of an entry is in range, where its values are sound.
use Rattle.std.proofs.Common.{◌+◌, ◌<◌, ◌^◌, ℕ, List, [], ◌∷◌, ◌++◌, length, map, arith}
use Rattle.std.proofs.lemmas.List.{length-append}
use Rattle.std.proofs.lemmas.Str.{IsUtf8-append}
use Rattle.std.specs.List.{AllByRecursion}
use Rattle.std.specs.Str.{IsUtf8}
use Rattle.avro_value.specs.Fitting.{IsSound, AreSound, IsText}
use Rattle.avro_value.specs.ValueTree.{values_of}
use Rattle.partition_map.specs.Avro.{avro_value_of}
use Rattle.table_history.specs.declared.row.PartValue.{PartValue}
use Rattle.table_history.specs.declared.row.PartValue.TheVariants as value
use Rattle.iceberg_manifest.specs.Entry.{EntryData}
use Rattle.iceberg_manifest.specs.ManifestWriting.{entry_tree, HasInt, HasRanges}
use Rattle.iceberg_manifest_writing.specs.RowEntries.{status_number}
use Rattle.iceberg_manifest_writing.specs.declared.row_entry.EntryStatus.{EntryStatus}
use Rattle.iceberg_manifest_writing.specs.declared.row_entry.EntryStatus.TheVariants.{Added, Deleted, Existing}

has_int : (v : PartValue) → IsSound (avro_value_of v) → HasInt v
has_int value.Null sound = tt
has_int (value.Boolean b) sound = tt
has_int (value.Int n) sound = sound.1
has_int (value.Long n) sound = tt
has_int (value.Text t) sound = tt
has_int (value.Date n) sound = sound.1

has_ints : (vs : List PartValue) → AreSound (values_of (map avro_value_of vs)) → AllByRecursion HasInt vs
has_ints [] sound = tt
has_ints (v ∷ vs) sound = (has_int v sound.0, has_ints vs sound.1)

pub has_ranges : (e : EntryData) → e.status < 3 → IsSound (entry_tree e) → HasRanges e
has_ranges e small sound = (small, has_ints e.values sound.1.1.1.1.0.1.1.1.0)

pub known_status : (s : EntryStatus) → status_number s < 3
known_status Existing = omega arith
known_status Added = omega arith
known_status Deleted = omega arith

-- Two texts are one where memory holds both.
pub joined_text : (a b : List ℕ) → IsUtf8 a → IsUtf8 b → length a + length b < 2 ^ 63 → IsText (a ++ b)
joined_text a b utf8_a utf8_b short = let long = length-append a b in (IsUtf8-append a b utf8_a utf8_b, omega (arith, long, short))
