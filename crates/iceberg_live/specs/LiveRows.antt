-- What `live_rows` gives and refuses.
use Rattle.std.specs.Prelude.{◌≡◌, ℕ, ◌<◌, ◌⊎◌, List, ◌∷◌, ◌++◌, length, None, Result}
use Rattle.std.specs.List.{filter}
use Rattle.lake_basics.specs.Outcome.{with_fault}
use Rattle.lake_basics.specs.declared.limits.TheConstants.{MAX_PATH_BYTES}
use Rattle.table_history.specs.Path.{IsPathOfAnyLength}
use Rattle.table_history.specs.declared.limit.LimitKind.TheVariants.{Path}
use Rattle.iceberg_manifest.specs.Entry.{EntryData}
use Rattle.iceberg_manifest.specs.Errors.{error_of}
use Rattle.iceberg_manifest.specs.Lists.{AreEach}
use Rattle.iceberg_live.specs.Live.{IsRowOf, rows_in}
use Rattle.iceberg_manifest.specs.Entry.{is_live}
use Rattle.iceberg_metadata.specs.Location.{front_of}
use Rattle.iceberg_manifest.specs.declared.error.ManifestError.{ManifestError}
use Rattle.iceberg_manifest.specs.declared.error.ManifestError.TheVariants as errors
use Rattle.iceberg_manifest.specs.declared.info.ManifestInfo.{ManifestInfo}
use Rattle.iceberg_live.specs.declared.live.LiveRow.{LiveRow}

-- These are the rows of the live entries, in their order.
abbrev pub AreLiveRows : List ℕ → ManifestInfo → List EntryData → List LiveRow → Type 0
AreLiveRows location info entries rows = AreEach (IsRowOf location info) (filter is_live entries) rows

-- ---- refusals

-- An existing entry has its three numbers.
abbrev pub LacksNumber : EntryData → Type 0
LacksNumber e = (e.status ≡ 0) × ((e.snapshot ≡ None) ⊎ ((e.sequence ≡ None) ⊎ (e.file_sequence ≡ None)))

-- The entry's file lies in the table's location, and this is its path there.
abbrev pub LiesAt : List ℕ → EntryData → List ℕ → Type 0
LiesAt location e rest = e.path ≡ front_of location ++ rest

-- The live entry is malformed: it lacks a number, or its path in the table is none for another cause than its length.
abbrev pub IsMalformed : List ℕ → EntryData → Type 0
IsMalformed location e = LacksNumber e ⊎ ((rest : List ℕ) × LiesAt location e rest × (IsPathOfAnyLength rest → ⊥))

-- The live entry has this fault. Malformed goes first.
abbrev pub HasFault : List ℕ → EntryData → ManifestError → Type 0
HasFault location e errors.Malformed = IsMalformed location e
HasFault location e errors.OutsideTable = (LacksNumber e → ⊥) × ((rest : List ℕ) → LiesAt location e rest → ⊥)
HasFault location e (errors.Limit which) = (LacksNumber e → ⊥) × (which ≡ Path) × ((rest : List ℕ) × LiesAt location e rest × IsPathOfAnyLength rest × (MAX_PATH_BYTES < length rest))
HasFault location e _ = ⊥

-- The live entries before one have rows, and that one has the fault.
pub record IsFirstFault (location : List ℕ) (info : ManifestInfo) (entries : List EntryData) (e : ManifestError) : Type 0 where
  pub before : List EntryData
  pub entry : EntryData
  pub after : List EntryData
  pub rows : List LiveRow
  pub split : filter is_live entries ≡ before ++ entry ∷ after
  pub are_rows : AreEach (IsRowOf location info) before rows
  pub fault : HasFault location entry e

-- what the call answers, as a function
abbrev pub live_rows_of : List ℕ → ManifestInfo → List EntryData → Result (List LiveRow) ManifestError
live_rows_of location info entries = with_fault error_of (rows_in (front_of location) info entries)
