-- The Avro types that are written (Iceberg specification, "Manifests", "Manifest Lists" and "Avro").
use Rattle.std.specs.Prelude.{ℕ, pos, List, [], ◌∷◌, ◌++◌, map, Some, None, codes, if◌then◌else◌}
use Rattle.std.specs.Fmt.{signed_decimal}
use Rattle.std.specs.List.{list_all}
use Rattle.avro_schema.specs.Tree.{SchemaTree, schema_tree, ShapeTree, branch, no_branches, FieldTree, fields_of}
use Rattle.partition_map.specs.declared.kind.PartKind.{PartKind}
use Rattle.partition_map.specs.declared.kind.PartKind.TheVariants.{Boolean, Int, Long, Text, Date}
use Rattle.schema_map.specs.Image.{is_avro_name}
use Rattle.iceberg_manifest.specs.declared.partition.PartColumn.{PartColumn}

abbrev pub plain_type : ShapeTree → SchemaTree
plain_type shape = schema_tree shape None None None

-- the union of null and the type
abbrev pub nullable_type : SchemaTree → SchemaTree
nullable_type t = plain_type (ShapeTree.union_of (branch (plain_type ShapeTree.null) (branch t no_branches)))

abbrev pub record_type : List ℕ → List FieldTree → SchemaTree
record_type name fields = plain_type (ShapeTree.record_of name (fields_of fields))

abbrev pub int_type : SchemaTree
int_type = plain_type ShapeTree.int

abbrev pub long_type : SchemaTree
long_type = plain_type ShapeTree.long

abbrev pub text_type : SchemaTree
text_type = plain_type ShapeTree.text

abbrev pub list_fields : List FieldTree
list_fields = (codes "manifest_path", text_type, Some (pos 500)) ∷ (codes "manifest_length", long_type, Some (pos 501)) ∷ (codes "partition_spec_id", int_type, Some (pos 502)) ∷ (codes "content", int_type, Some (pos 517)) ∷ (codes "sequence_number", long_type, Some (pos 515)) ∷ (codes "min_sequence_number", long_type, Some (pos 516)) ∷ (codes "added_snapshot_id", long_type, Some (pos 503)) ∷ (codes "added_files_count", int_type, Some (pos 504)) ∷ (codes "existing_files_count", int_type, Some (pos 505)) ∷ (codes "deleted_files_count", int_type, Some (pos 506)) ∷ (codes "added_rows_count", long_type, Some (pos 512)) ∷ (codes "existing_rows_count", long_type, Some (pos 513)) ∷ (codes "deleted_rows_count", long_type, Some (pos 514)) ∷ []

-- the type of a manifest list's rows
abbrev pub list_type : SchemaTree
list_type = record_type (codes "manifest_file") list_fields

-- ---- manifests

-- the type of a partition column's values: a date is the int of its days after 1970-01-01
abbrev pub kind_type : PartKind → SchemaTree
kind_type Boolean = plain_type ShapeTree.boolean
kind_type Int = int_type
kind_type Long = long_type
kind_type Text = text_type
kind_type Date = schema_tree ShapeTree.int (Some (codes "date")) None None

-- a field of a partition column, which may be null
abbrev pub part_field : PartColumn → List ℕ → FieldTree
part_field c name = (name, nullable_type (kind_type c.kind), Some c.field_id)

abbrev pub part_fields : List PartColumn → List (List ℕ) → List FieldTree
part_fields [] names = []
part_fields (c ∷ cs) [] = []
part_fields (c ∷ cs) (name ∷ names) = part_field c name ∷ part_fields cs names

-- `p` and the id of the field
abbrev pub id_name : PartColumn → List ℕ
id_name c = codes "p" ++ signed_decimal c.field_id

-- the names of the fields: those of the columns where each is an Avro name, else the fields' ids
abbrev pub part_names : List PartColumn → List (List ℕ) → List (List ℕ)
part_names columns names = if list_all is_avro_name names then names else map id_name columns

-- the fields of `data_file`, where the partition has that type
abbrev pub file_fields : SchemaTree → List FieldTree
file_fields partition = (codes "content", int_type, Some (pos 134)) ∷ (codes "file_path", text_type, Some (pos 100)) ∷ (codes "file_format", text_type, Some (pos 101)) ∷ (codes "partition", partition, Some (pos 102)) ∷ (codes "record_count", long_type, Some (pos 103)) ∷ (codes "file_size_in_bytes", long_type, Some (pos 104)) ∷ []

-- the fields of `manifest_entry`, where the file has that type
abbrev pub entry_fields : SchemaTree → List FieldTree
entry_fields file = (codes "status", int_type, Some (pos 0)) ∷ (codes "snapshot_id", nullable_type long_type, Some (pos 1)) ∷ (codes "sequence_number", nullable_type long_type, Some (pos 3)) ∷ (codes "file_sequence_number", nullable_type long_type, Some (pos 4)) ∷ (codes "data_file", file, Some (pos 2)) ∷ []

-- the type of a manifest's entries, where the partition has these fields
abbrev pub entry_type : List FieldTree → SchemaTree
entry_type parts = record_type (codes "manifest_entry") (entry_fields (record_type (codes "r2") (file_fields (record_type (codes "r102") parts))))

-- the same by the partition columns and their names
abbrev pub manifest_type : List PartColumn → List (List ℕ) → SchemaTree
manifest_type columns names = entry_type (part_fields columns (part_names columns names))
