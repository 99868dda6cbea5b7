-- The words and the numbers that are printed for formats, features and limits.
use Rattle.std.specs.Prelude.{ℕ, List, Option, Some, None, codes, if◌then◌else◌}
use Rattle.std.specs.Str.{bytes_eq}
use Rattle.table_history.specs.declared.kind.Kind.{Kind}
use Rattle.table_history.specs.declared.kind.Kind.TheVariants.{Delta, Iceberg, Hudi}
use Rattle.table_history.specs.declared.feature.Feature.{Feature}
use Rattle.table_history.specs.declared.feature.Feature.TheVariants as feature
use Rattle.table_history.specs.declared.limit.LimitKind.{LimitKind}
use Rattle.table_history.specs.declared.limit.LimitKind.TheVariants as limit
use Rattle.lake_basics.specs.declared.limits.TheConstants.{MAX_FILE_BYTES, MAX_NAMES, MAX_LIVE_FILES, MAX_COMMITS, MAX_PUBLISHED_COMMITS, MAX_ACTIONS, MAX_AVRO_VALUES, MAX_PATH_BYTES, MAX_PARTITION_COLUMNS, MAX_COLUMNS, MAX_SCHEMA_LEVELS, MAX_DELTA_VERSION, MAX_ICEBERG_VERSION, MAX_HUDI_YEAR}

abbrev pub kind_word : Kind → List ℕ
kind_word Delta = codes "delta"
kind_word Iceberg = codes "iceberg"
kind_word Hudi = codes "hudi"

-- the kind that a word names
abbrev pub kind_named : List ℕ → Option Kind
kind_named word =
    if bytes_eq word (codes "delta") then Some Delta
    else (if bytes_eq word (codes "iceberg") then Some Iceberg
    else (if bytes_eq word (codes "hudi") then Some Hudi else None))

abbrev pub feature_word : Feature → List ℕ
feature_word feature.NeedsCheckpoint = codes "NeedsCheckpoint"
feature_word feature.NeedsArchive = codes "NeedsArchive"
feature_word feature.ReaderVersion = codes "ReaderVersion"
feature_word feature.ReaderFeature = codes "ReaderFeature"
feature_word feature.ColumnMapping = codes "ColumnMapping"
feature_word feature.DeletionVector = codes "DeletionVector"
feature_word feature.OutsideTable = codes "OutsideTable"
feature_word feature.NoRecordCount = codes "NoRecordCount"
feature_word feature.FileFormat = codes "FileFormat"
feature_word feature.SchemaType = codes "SchemaType"
feature_word feature.AvroName = codes "AvroName"
feature_word feature.PartitionType = codes "PartitionType"
feature_word feature.PartitionChange = codes "PartitionChange"
feature_word feature.PartitionValue = codes "PartitionValue"
feature_word feature.PartitionPath = codes "PartitionPath"
feature_word feature.ValueForm = codes "ValueForm"
feature_word feature.AvroCodec = codes "AvroCodec"
feature_word feature.CompressedMetadata = codes "CompressedMetadata"
feature_word feature.CatalogNames = codes "CatalogNames"
feature_word feature.FormatVersion = codes "FormatVersion"
feature_word feature.Transform = codes "Transform"
feature_word feature.PartitionSpecs = codes "PartitionSpecs"
feature_word feature.Renamed = codes "Renamed"
feature_word feature.NoSchemaId = codes "NoSchemaId"
feature_word feature.RowDeletes = codes "RowDeletes"
feature_word feature.SharedFile = codes "SharedFile"
feature_word feature.TypeChange = codes "TypeChange"
feature_word feature.HudiType = codes "HudiType"
feature_word feature.HudiVersion = codes "HudiVersion"
feature_word feature.KeyGenerator = codes "KeyGenerator"
feature_word feature.MergeOnRead = codes "MergeOnRead"
feature_word feature.Restore = codes "Restore"
feature_word feature.UnknownAction = codes "UnknownAction"
feature_word feature.FileId = codes "FileId"
feature_word feature.ExternalFile = codes "ExternalFile"
feature_word feature.NoSchema = codes "NoSchema"
feature_word feature.CompactAction = codes "CompactAction"

abbrev pub limit_word : LimitKind → List ℕ
limit_word limit.File = codes "File"
limit_word limit.Names = codes "Names"
limit_word limit.LiveFiles = codes "LiveFiles"
limit_word limit.Commits = codes "Commits"
limit_word limit.Publish = codes "Publish"
limit_word limit.Actions = codes "Actions"
limit_word limit.Values = codes "Values"
limit_word limit.Path = codes "Path"
limit_word limit.PartitionColumns = codes "PartitionColumns"
limit_word limit.Columns = codes "Columns"
limit_word limit.Depth = codes "Depth"
limit_word limit.Versions = codes "Versions"

abbrev pub version_number : Kind → ℕ
version_number Delta = MAX_DELTA_VERSION
version_number Iceberg = MAX_ICEBERG_VERSION
version_number Hudi = MAX_HUDI_YEAR

-- the number that is printed, in a table of that format
abbrev pub limit_number : Kind → LimitKind → ℕ
limit_number format limit.File = MAX_FILE_BYTES
limit_number format limit.Names = MAX_NAMES
limit_number format limit.LiveFiles = MAX_LIVE_FILES
limit_number format limit.Commits = MAX_COMMITS
limit_number format limit.Publish = MAX_PUBLISHED_COMMITS
limit_number format limit.Actions = MAX_ACTIONS
limit_number format limit.Values = MAX_AVRO_VALUES
limit_number format limit.Path = MAX_PATH_BYTES
limit_number format limit.PartitionColumns = MAX_PARTITION_COLUMNS
limit_number format limit.Columns = MAX_COLUMNS
limit_number format limit.Depth = MAX_SCHEMA_LEVELS
limit_number format limit.Versions = version_number format
