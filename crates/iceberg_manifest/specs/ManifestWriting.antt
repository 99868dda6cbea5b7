-- Manifests as they are written (Iceberg specification, "Manifests" and "Manifest Entry Fields").
use Rattle.std.specs.Prelude.{◌≡◌, ℕ, ◌+◌, ◌*◌, ◌≤◌, ◌<◌, ℤ, pos, List, [], ◌∷◌, length, map, Option, Some, None, codes, FitsSigned}
use Rattle.std.specs.Fmt.{signed_decimal}
use Rattle.std.specs.Int.{w32}
use Rattle.std.specs.List.{AllByRecursion, IsDistinct}
use Rattle.std.specs.Ordering.{int_eq}
use Rattle.std.specs.Str.{bytes_eq}
use Rattle.lake_basics.specs.declared.limits.TheConstants.{MAX_PARTITION_COLUMNS}
use Rattle.avro_value.specs.ValueTree.{ValueTree, values_of}
use Rattle.avro_container.specs.Format.{Pairs}
use Rattle.partition_map.specs.Avro.{avro_value_of}
use Rattle.partition_map.specs.Kind.{IsOfKind}
use Rattle.table_history.specs.declared.row.PartValue.{PartValue}
use Rattle.table_history.specs.declared.row.PartValue.TheVariants as value
use Rattle.iceberg_manifest.specs.Entry.{EntryData}
use Rattle.iceberg_manifest.specs.Lists.{AreEach}
use Rattle.iceberg_manifest.specs.WrittenTypes.{part_names}
use Rattle.iceberg_manifest.specs.declared.partition.PartColumn.{PartColumn}

-- ---- values

-- a value of the union of null and long
abbrev pub whole_tree : Option ℤ → ValueTree
whole_tree None = ValueTree.union_of 0 ValueTree.null
whole_tree (Some n) = ValueTree.union_of 1 (ValueTree.long n)

-- a data file: content 0 and the format Parquet
abbrev pub file_trees : EntryData → List ValueTree
file_trees e = ValueTree.int (pos 0) ∷ ValueTree.text e.path ∷ ValueTree.text (codes "PARQUET") ∷ ValueTree.record_of (values_of (map avro_value_of e.values)) ∷ ValueTree.long (pos e.count) ∷ ValueTree.long (pos e.size) ∷ []

abbrev pub entry_trees : EntryData → List ValueTree
entry_trees e = ValueTree.int (pos e.status) ∷ whole_tree e.snapshot ∷ whole_tree e.sequence ∷ whole_tree e.file_sequence ∷ ValueTree.record_of (values_of (file_trees e)) ∷ []

-- an entry's value: its numbers stand as they are, whatever its status
abbrev pub entry_tree : EntryData → ValueTree
entry_tree e = ValueTree.record_of (values_of (entry_trees e))

-- ---- which entries are written

abbrev pub field_ids : List PartColumn → List ℤ
field_ids columns = map (λ c. c.field_id) columns

-- The entry has a value of each partition column, which is null or of its kind.
abbrev pub HasValues : List PartColumn → EntryData → Type 0
HasValues columns e = AreEach (λ c v. IsOfKind c.kind v) columns e.values

-- The partition columns have names, and ids of which no two are one; no two of their fields are written
-- under one name. The entries have their values, and with all their Avro values are no more than the limit.
pub record IsWritableManifest (limit : ℕ) (columns : List PartColumn) (names : List (List ℕ)) (entries : List EntryData) : Type 0 where
  pub named : length names ≡ length columns
  pub own_names : IsDistinct bytes_eq (part_names columns names)
  pub own_ids : IsDistinct int_eq (field_ids columns)
  pub few_columns : length columns ≤ MAX_PARTITION_COLUMNS
  pub values : AllByRecursion (HasValues columns) entries
  pub few : (15 + 2 * length columns) * length entries ≤ limit

-- ---- what their Rust types make true

abbrev pub HasId : PartColumn → Type 0
HasId c = FitsSigned w32 c.field_id

-- What is written as an int is of 32 bits.
abbrev pub HasInt : PartValue → Type 0
HasInt (value.Int n) = FitsSigned w32 n
HasInt (value.Date n) = FitsSigned w32 n
HasInt _ = Unit {0}

abbrev pub HasRanges : EntryData → Type 0
HasRanges e = (e.status < 3) × AllByRecursion HasInt e.values

-- ---- the metadata of the container

abbrev pub manifest_meta : List ℕ → ℤ → List ℕ → Pairs
manifest_meta schema schema_id spec = (codes "content", codes "data") ∷ (codes "format-version", codes "2") ∷ (codes "partition-spec", spec) ∷ (codes "partition-spec-id", codes "0") ∷ (codes "schema", schema) ∷ (codes "schema-id", signed_decimal schema_id) ∷ []
