-- The partition columns of a table in one of its schemas (Iceberg specification, "Partitioning").
use Rattle.std.specs.Prelude.{ℕ, List, [], ◌∷◌, Option, None, option_map, option_and_then, Result}
use Rattle.lake_basics.specs.Outcome.{each, required}
use Rattle.partition_map.specs.Columns.{column_kind}
use Rattle.schema_map.specs.Paths.{Path}
use Rattle.table_history.specs.TypeTree.{ColumnTrees}
use Rattle.iceberg_metadata.specs.Paths.{path_of, path_ids, default_fields}
use Rattle.iceberg_metadata.specs.Schemas.{HeldSchema}
use Rattle.iceberg_columns.specs.declared.columns.SourceColumn.{SourceColumn}
use Rattle.iceberg_metadata.specs.declared.error.MetadataError.{MetadataError}
use Rattle.iceberg_metadata.specs.declared.error.MetadataError.TheVariants.{PartitionType}
use Rattle.iceberg_metadata.specs.declared.metadata.Metadata.{Metadata}
use Rattle.iceberg_metadata.specs.declared.metadata.SpecField.{SpecField}

-- the column of this name, where it has a kind
abbrev pub named_column : ColumnTrees → SpecField → List ℕ → Option SourceColumn
named_column schema f name = option_map (λ kind. record { field_id = f.field_id; name = name; kind = kind }) (column_kind schema name)

-- the column at this path, where it is a top-level one
abbrev pub top_column : ColumnTrees → SpecField → Path → Option SourceColumn
top_column schema f [] = None
top_column schema f (name ∷ []) = named_column schema f name
top_column schema f (name ∷ (part ∷ path)) = None

-- The top-level column of which a field of a spec is made, with the kind of its values. A field that isn't made of such a column isn't supported.
abbrev pub column_of : HeldSchema → SpecField → Result SourceColumn MetadataError
column_of s f = required PartitionType (option_and_then (top_column s.1 f) (path_of (path_ids s) f.source_id))

-- the columns of the default spec, in the order of its fields
abbrev pub columns_of : Metadata → HeldSchema → Result (List SourceColumn) MetadataError
columns_of m s = each (column_of s) (default_fields m)
