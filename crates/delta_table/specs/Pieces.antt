-- A version's file that is read in pieces.
use Rattle.std.specs.Prelude.{◌≡◌, ℕ, ◌+◌, ◌*◌, ◌-◌, ◌≤◌, ◌<◌, List, length, take, Bool, true, false, Ok, Err}
use Rattle.lake_basics.specs.declared.limits.TheConstants.{MAX_FILE_BYTES}
use Rattle.lake_store.specs.Disk.{Files}
use Rattle.delta_feeding.specs.Feeding.{State, SoFar, nothing_read, fed}
use Rattle.delta_table.specs.Versions.{HoldsVersion}
use Rattle.delta_table.specs.declared.error.LogError.{LogError}
use Rattle.delta_table.specs.declared.error.LogError.TheVariants as error
use Rattle.delta_table.specs.declared.pieces.Pieces.{Pieces}
use Rattle.delta_table.specs.declared.pieces.TheConstants.{PIECE_BYTES}

-- Nothing has been refused.
abbrev pub IsGoing : State → Type 0
IsGoing state = (s : SoFar) × (state ≡ Ok s)

-- how many bytes may still be read, and one more for the end
abbrev pub left : Bool → ℕ → ℕ
left true read = 0
left false read = MAX_FILE_BYTES + 1 - read

-- All pieces but the last have one length.
abbrev pub IsFullSoFar : Pieces → Type 0
IsFullSoFar p = p.is_whole ≡ false → (count : ℕ) × (p.read ≡ count * PIECE_BYTES)

-- What has been read is the front of the version's file, or all of it.
pub record IsReadSoFar (files : Files) (version : ℕ) (p : Pieces) : Type 0 where
  pub front : (bytes : List ℕ) → HoldsVersion files version bytes → p.feeder ≡ fed nothing_read (take p.read bytes)
  pub whole : p.is_whole ≡ true → (bytes : List ℕ) × HoldsVersion files version bytes × (length bytes ≤ p.read)
  pub full : IsFullSoFar p
  pub going : IsGoing p.feeder

-- All of the version's file has been read, and it isn't too large.
pub record IsReadWhole (files : Files) (version : ℕ) (state : State) : Type 0 where
  pub bytes : List ℕ
  pub holds : HoldsVersion files version bytes
  pub short : length bytes ≤ MAX_FILE_BYTES
  pub read : state ≡ fed nothing_read bytes

-- A piece more has been read.
pub record IsOneMore (p : Pieces) (piece : List ℕ) (next : Pieces) : Type 0 where
  pub fed : next.feeder ≡ fed p.feeder piece
  pub read : next.read ≡ p.read + length piece
  pub within : next.read ≤ MAX_FILE_BYTES
  pub last : next.is_whole ≡ true → length piece < PIECE_BYTES
  pub full : next.is_whole ≡ false → PIECE_BYTES ≤ length piece
  pub going : IsGoing next.feeder

-- The piece is one too many, or ends a line at fault.
abbrev pub IsRefusedPiece : ℕ → Pieces → List ℕ → LogError → Type 0
IsRefusedPiece version p piece error.Memory = Unit {0}
IsRefusedPiece version p piece error.StoreFault = ⊥
IsRefusedPiece version p piece error.ManyNames = ⊥
IsRefusedPiece version p piece error.ManyCommits = ⊥
IsRefusedPiece version p piece (error.Missing v) = ⊥
IsRefusedPiece version p piece (error.Large v) = (v ≡ version) × (MAX_FILE_BYTES < p.read + length piece)
IsRefusedPiece version p piece (error.Refused v e) = (v ≡ version) × (p.read + length piece ≤ MAX_FILE_BYTES) × (fed p.feeder piece ≡ Err e)
