-- A manifest's file that is read in pieces.
use Rattle.std.specs.Prelude.{◌≡◌, ℕ, ◌+◌, ◌*◌, ◌-◌, ◌≤◌, ◌<◌, List, ◌++◌, None, length, take, Bool, true, false}
use Rattle.std.specs.FinMap as map
use Rattle.lake_basics.specs.declared.limits.TheConstants.{MAX_FILE_BYTES}
use Rattle.lake_store.specs.Disk.{Files}
use Rattle.iceberg_manifest.specs.declared.partition.PartColumn.{PartColumn}
use Rattle.iceberg_manifest_feeding.specs.Feeding.{HasRead, so_far}
use Rattle.iceberg_manifest_feeding.specs.declared.feeder.ManifestFeeder.{ManifestFeeder}
use Rattle.iceberg_table.specs.Files.{HoldsFile}
use Rattle.iceberg_table.specs.Manifests.{IsLargeManifest, IsShownWithin}
use Rattle.iceberg_table.specs.declared.error.IcebergError.{IcebergError}
use Rattle.iceberg_table.specs.declared.error.IcebergError.TheVariants as error
use Rattle.iceberg_table.specs.declared.pieces.Pieces.{Pieces}
use Rattle.iceberg_table.specs.declared.pieces.TheConstants.{PIECE_BYTES}

-- how many bytes may still be read, and one more for the end
abbrev pub left : Bool → ℕ → ℕ
left true read = 0
left false read = MAX_FILE_BYTES + 1 - read

-- All pieces but the last have one length.
abbrev pub IsFullSoFar : Pieces → Type 0
IsFullSoFar p = p.is_whole ≡ false → (count : ℕ) × (p.read ≡ count * PIECE_BYTES)

-- The pieces have been these bytes.
pub record AreTaken (columns : List PartColumn) (bytes : List ℕ) (p : Pieces) : Type 0 where
  pub fed : HasRead columns bytes (so_far p.feeder)
  pub read : p.read ≡ length bytes

-- They have been some bytes, whatever the store tells.
abbrev pub AreSomeTaken : List PartColumn → Pieces → Type 0
AreSomeTaken columns p = (bytes : List ℕ) × AreTaken columns bytes p

-- Some bytes have been read, and no more than are read of a file.
abbrev pub HasReadSome : List PartColumn → ManifestFeeder → Type 0
HasReadSome columns feeder = (bytes : List ℕ) × (length bytes ≤ MAX_FILE_BYTES) × HasRead columns bytes (so_far feeder)

-- What has been read is the front of the manifest's file, or all of it.
pub record IsReadSoFar (files : Files) (columns : List PartColumn) (path : List ℕ) (p : Pieces) : Type 0 where
  pub bytes : List ℕ
  pub taken : AreTaken columns bytes p
  pub front : (all : List ℕ) → HoldsFile files path all → bytes ≡ take p.read all
  pub whole : p.is_whole ≡ true → HoldsFile files path bytes
  pub full : IsFullSoFar p

-- All of the manifest's file has been read, and it isn't too large.
pub record IsReadWhole (files : Files) (columns : List PartColumn) (path : List ℕ) (feeder : ManifestFeeder) : Type 0 where
  pub bytes : List ℕ
  pub holds : HoldsFile files path bytes
  pub short : length bytes ≤ MAX_FILE_BYTES
  pub fed : HasRead columns bytes (so_far feeder)

-- A piece more has been read.
pub record IsOneMore (columns : List PartColumn) (p : Pieces) (piece : List ℕ) (next : Pieces) : Type 0 where
  pub fed : (bytes : List ℕ) → AreTaken columns bytes p → HasRead columns (bytes ++ piece) (so_far next.feeder)
  pub read : next.read ≡ p.read + length piece
  pub within : next.read ≤ MAX_FILE_BYTES
  pub last : next.is_whole ≡ true → length piece < PIECE_BYTES
  pub full : next.is_whole ≡ false → PIECE_BYTES ≤ length piece

-- The piece is one too many, or has a block at fault.
abbrev pub IsRefusedPiece : List PartColumn → List ℕ → Pieces → List ℕ → IcebergError → Type 0
IsRefusedPiece columns path p piece error.Memory = Unit {0}
IsRefusedPiece columns path p piece error.StoreFault = ⊥
IsRefusedPiece columns path p piece error.ManyNames = ⊥
IsRefusedPiece columns path p piece (error.Missing q) = ⊥
IsRefusedPiece columns path p piece (error.Large q) = (q ≡ path) × (MAX_FILE_BYTES < p.read + length piece)
IsRefusedPiece columns path p piece (error.Refused q f) = (q ≡ path) × (p.read + length piece ≤ MAX_FILE_BYTES) × ((bytes : List ℕ) → AreTaken columns bytes p → IsShownWithin columns (bytes ++ piece) f)

-- The manifest at this path isn't there, is too large, or has a fault within the bytes that are read.
abbrev pub IsUnread : Files → List PartColumn → List ℕ → IcebergError → Type 0
IsUnread files columns path error.Memory = ⊥
IsUnread files columns path error.StoreFault = ⊥
IsUnread files columns path error.ManyNames = ⊥
IsUnread files columns path (error.Missing p) = (p ≡ path) × (map.get files path ≡ None)
IsUnread files columns path (error.Large p) = (p ≡ path) × IsLargeManifest files columns path
IsUnread files columns path (error.Refused p f) = (p ≡ path) × (bytes : List ℕ) × HoldsFile files path bytes × IsShownWithin columns (take MAX_FILE_BYTES bytes) f
