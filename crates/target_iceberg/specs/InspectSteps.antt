-- What the steps of inspecting an Iceberg target find: in the names of its folder, in the mark of its newest version, in what its manifests say, and in why
-- it isn't read.
use Rattle.std.specs.Prelude.{◌≡◌, ◌≢◌, ◌<◌, ◌+◌, ◌^◌, ◌++◌, ◌∷◌, ℕ, List, length, map, codes, Contains, None, Some, Result, Ok, Err}
use Rattle.std.specs.Fmt.{decimal}
use Rattle.file_links.specs.Rows.{Entry, OwnedRows, Owns, rows_of}
use Rattle.table_history.specs.Words.{limit_number}
use Rattle.table_history.specs.declared.kind.Kind.{Kind}
use Rattle.table_history.specs.declared.kind.Kind.TheVariants.{Iceberg}
use Rattle.table_history.specs.declared.limit.LimitKind.{LimitKind}
use Rattle.table_history.specs.declared.limit.LimitKind.TheVariants as limit
use Rattle.iceberg_manifest.specs.Lists.{AreEach}
use Rattle.iceberg_live.specs.declared.live.LiveRow.{LiveRow}
use Rattle.iceberg_metadata.specs.declared.metadata.Metadata.{Metadata}
use Rattle.iceberg_table.specs.Folder.{path_of}
use Rattle.iceberg_table.specs.declared.error.Fault.{Fault}
use Rattle.iceberg_table.specs.declared.error.Fault.TheVariants as fault
use Rattle.iceberg_table.specs.declared.error.IcebergError.{IcebergError}
use Rattle.iceberg_table.specs.declared.error.IcebergError.TheVariants as error
use Rattle.iceberg_table.specs.declared.manifest.Manifest.{Manifest}
use Rattle.iceberg_table.specs.declared.snapshot.SnapshotTable.{SnapshotTable}
use Rattle.iceberg_commit.specs.NextVersion.{OwnEachRow}
use Rattle.target_iceberg.specs.Leftovers.{IsDecimal, IsLeftoverName}
use Rattle.iceberg_version.specs.declared.kept.IcebergKept.{IcebergKept}
use Rattle.iceberg_version.specs.declared.kept.KeptManifest.{KeptManifest}
use Rattle.target_core.specs.declared.mark.Mark.{Mark}
use Rattle.target_core.specs.declared.target.Seen.{Seen}
use Rattle.target_core.specs.declared.target.Seen.TheVariants.{Absent, Ours, Foreign}
use Rattle.target_core.specs.declared.target.TargetError.{TargetError}
use Rattle.target_core.specs.declared.target.TargetError.TheVariants as target
use Rattle.target_iceberg.specs.Form.{HasOwnForm}
use Rattle.target_iceberg.specs.Kept.{IsKeptOf, held_of}
use Rattle.target_iceberg.specs.Reading.{HasMark}

-- ---- names

-- the name is a decimal between these
pub record IsNumbered (front behind name : List ℕ) : Type 0 where
  pub number : List ℕ
  pub decimal : IsDecimal number
  pub is : name ≡ front ++ (number ++ behind)

-- two decimals with a hyphen between them
pub record AreNumbers (bytes : List ℕ) : Type 0 where
  pub version : List ℕ
  pub number : List ℕ
  pub first : IsDecimal version
  pub second : IsDecimal number
  pub is : bytes ≡ version ++ (codes "-" ++ number)

-- two such decimals between `lb-m-` and `.avro`
pub record IsManifestName (name : List ℕ) : Type 0 where
  pub numbers : List ℕ
  pub are : AreNumbers numbers
  pub is : name ≡ codes "lb-m-" ++ (numbers ++ codes ".avro")

-- the first of the names that no commit writes before it publishes
pub record IsFirstOf (names : List (List ℕ)) (name : List ℕ) : Type 0 where
  pub front : List (List ℕ)
  pub behind : List (List ℕ)
  pub split : names ≡ front ++ name ∷ behind
  pub earlier : (other : List ℕ) → Contains front other → IsLeftoverName other
  pub stray : ¬ IsLeftoverName name

-- What a target of these names, in byte order, stands at, of which none is a version's.
abbrev pub IsSeenIn : List (List ℕ) → Seen IcebergKept → Type 0
IsSeenIn names Absent = (name : List ℕ) → Contains names name → IsLeftoverName name
IsSeenIn names (Ours kept) = ⊥
IsSeenIn names (Foreign path) = (name : List ℕ) × IsFirstOf names name × (path ≡ path_of name)

-- ---- the newest version

-- The mark of the version's metadata names this version, from 1 on, and a source of this format.
pub record IsOwnMark (source : Kind) (version : ℕ) (m : Metadata) (mark : Mark) : Type 0 where
  pub first : 0 < version
  pub has : HasMark m mark
  pub at : mark.at ≡ decimal version
  pub source_is : mark.source ≡ source

-- Its form is also one that commits go on from.
abbrev pub IsOwnVersion : Kind → ℕ → Metadata → Mark → Type 0
IsOwnVersion source version m mark = IsOwnMark source version m mark × HasOwnForm version m

-- ---- its manifests

-- The owner, which had no row, has these in their order, and no other owner's have changed. Versions are whole numbers of 64 bits.
pub record FillsOwner (v v' : OwnedRows) (owner : ℕ) (rows : List LiveRow) : Type 0 where
  pub entries : List Entry
  pub here : rows_of v' owner ≡ Some entries
  pub same : map (λ e. e.held) entries ≡ map held_of rows
  pub others : (o : ℕ) → o ≢ owner → rows_of v' o ≡ rows_of v o
  pub owner_room : v'.owner_room ≡ v.owner_room
  pub room : v'.room + length rows ≡ v.room
  pub born : (e : Entry) → Contains entries e → e.held.born < 2 ^ 63

-- A new owner has the live rows of the manifest.
pub record LinksManifest (v v' : OwnedRows) (manifest : Manifest) (kept : KeptManifest) : Type 0 where
  pub is : IsKeptOf v' manifest kept
  pub free : rows_of v kept.owner ≡ None
  pub others : (o : ℕ) → o ≢ kept.owner → rows_of v' o ≡ rows_of v o
  pub owner_room : v'.owner_room + 1 ≡ v.owner_room
  pub room : v'.room + length manifest.rows ≡ v.room
  pub born : (e : Entry) → Owns v' kept.owner e → e.held.born < 2 ^ 63

-- This is kept of manifests: each has an owner of its live rows, and no row has another owner.
pub record AreLinked (manifests : List Manifest) (kept : List KeptManifest) (links : OwnedRows) : Type 0 where
  pub each : AreEach (IsKeptOf links) manifests kept
  pub own : OwnEachRow links kept
  pub born : (owner : ℕ) (e : Entry) → Owns links owner e → e.held.born < 2 ^ 63

-- This is kept of a version with this mark, of whose current snapshot this was read.
pub record IsKeptBy (version : ℕ) (m : Metadata) (mark : Mark) (read : SnapshotTable) (kept : IcebergKept) : Type 0 where
  pub version_is : kept.version ≡ version
  pub metadata : kept.metadata ≡ m
  pub marked : kept.mark ≡ Some mark
  pub table : kept.table ≡ read.table
  pub linked : AreLinked read.manifests kept.manifests kept.links

-- The version is ours, and this is kept of it.
abbrev pub IsOursBy : ℕ → Metadata → Mark → SnapshotTable → Seen IcebergKept → Type 0
IsOursBy version m mark read Absent = ⊥
IsOursBy version m mark read (Ours kept) = IsKeptBy version m mark read kept
IsOursBy version m mark read (Foreign path) = ⊥

-- ---- why a table isn't read

abbrev pub limit_of : LimitKind → TargetError
limit_of which = target.Limit which (limit_number Iceberg which)

-- what is told of a file with this fault
abbrev pub told_fault : List ℕ → Fault → Result (Seen IcebergKept) TargetError
told_fault path fault.Malformed = Ok (Foreign path)
told_fault path (fault.Unsupported feature) = Ok (Foreign path)
told_fault path (fault.Limit which) = Err (limit_of which)

-- what is told of a table that wasn't read
abbrev pub told_of : IcebergError → Result (Seen IcebergKept) TargetError
told_of error.Memory = Err target.Memory
told_of error.StoreFault = Err target.StoreFault
told_of error.ManyNames = Err (limit_of limit.Names)
told_of (error.Missing path) = Ok (Foreign path)
told_of (error.Large path) = Err (limit_of limit.File)
told_of (error.Refused path f) = told_fault path f
