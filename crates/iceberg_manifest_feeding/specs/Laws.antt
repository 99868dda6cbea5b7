-- What a refusal in reading order says of a manifest's bytes.
use Rattle.std.specs.Prelude.{◌≡◌, ℕ, List, ◌++◌}
use Rattle.avro_value.specs.declared.api.TheConstants.{MAX_VALUES}
use Rattle.table_history.specs.declared.limit.LimitKind.{LimitKind}
use Rattle.table_history.specs.declared.limit.LimitKind.TheVariants.{Values}
use Rattle.iceberg_manifest.specs.Containers.{StandsFor}
use Rattle.iceberg_manifest.specs.Entry.{EntryData}
use Rattle.iceberg_manifest.specs.Scans.{entries_of}
use Rattle.iceberg_manifest.specs.declared.error.ManifestError.{ManifestError}
use Rattle.iceberg_manifest.specs.declared.error.ManifestError.TheVariants as errors
use Rattle.iceberg_manifest.specs.declared.partition.PartColumn.{PartColumn}
use Rattle.iceberg_manifest_feeding.specs.Feeding.{HasRead, SoFar}
use Rattle.iceberg_manifest_feeding.specs.Order.{IsFaultWithin, IsRefusedInOrder}

-- What stands for entries isn't refused.
abbrev pub IsReadOrRefused : Type 0
IsReadOrRefused = (columns : List PartColumn) (bytes : List ℕ) (entries : List EntryData) (e : ManifestError)
    → StandsFor MAX_VALUES (entries_of columns) bytes entries → IsRefusedInOrder columns bytes e → ⊥

-- Bytes are refused in one way.
abbrev pub IsRefusedOnce : Type 0
IsRefusedOnce = (columns : List PartColumn) (bytes : List ℕ) (d e : ManifestError) → IsRefusedInOrder columns bytes d → IsRefusedInOrder columns bytes e → d ≡ e

-- Bytes that have been read have no fault that shows whatever bytes follow.
abbrev pub IsReadSound : Type 0
IsReadSound = (columns : List PartColumn) (bytes : List ℕ) (now : SoFar) (e : ManifestError) → HasRead columns bytes now → IsFaultWithin columns bytes e → ⊥

-- A fault stays the first one, whatever bytes follow.
abbrev pub IsFaultForGood : Type 0
IsFaultForGood = (columns : List PartColumn) (bytes more : List ℕ) (e : ManifestError) → IsFaultWithin columns bytes e → IsFaultWithin columns (bytes ++ more) e

-- The only number that a refusal says is passed is that of Avro values.
abbrev pub IsLimitOfValues : Type 0
IsLimitOfValues = (columns : List PartColumn) (bytes : List ℕ) (which : LimitKind) → IsRefusedInOrder columns bytes (errors.Limit which) → which ≡ Values
