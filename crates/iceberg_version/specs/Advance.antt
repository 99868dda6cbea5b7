-- What is kept of the rows and the manifests behind a commit.
use Rattle.std.specs.Prelude.{◌≡◌, ◌≢◌, ◌⊎◌, ◌<◌, ◌++◌, ℕ, List, [], ◌∷◌, None, Some, IsSome, Contains, map, nat_eq, not, option_map, slice_get, unwrap_or}
use Rattle.std.specs.List.{IsDistinct, filter}
use Rattle.table_history.specs.Row.{Row}
use Rattle.table_history.specs.Rows.{HasDistinctPaths}
use Rattle.file_links.specs.Rows.{Entry, Holds, HoldsPath, OwnedRows, Owns, rows_of}
use Rattle.file_links.specs.declared.slots.Held.{Held}
use Rattle.iceberg_version.specs.Carrying.{AreNext}
use Rattle.iceberg_version.specs.KeptEnd.{held_rows, live_manifest}
use Rattle.iceberg_version.specs.Manifests.{NextManifest, born_at, is_lost, new, stays}
pub use Rattle.iceberg_version.specs.Sound.{OwnEachPath}
use Rattle.iceberg_version.specs.declared.carrying.Next.{Next}
use Rattle.iceberg_version.specs.declared.carrying.Next.TheVariants.{Added, Anew, Stays}
use Rattle.iceberg_version.specs.declared.kept.KeptManifest.{KeptManifest}

-- ---- the new list

-- It names a place of the list before, which has so many manifests, or of so many parts.
abbrev pub IsPlaced : ℕ → ℕ → Next → Type 0
IsPlaced count parts (Stays place) = place < count
IsPlaced count parts (Anew place) = place < count
IsPlaced count parts (Added place) = place < parts

-- What a manifest of the new list has its rows from: the one at a place of the list before, or added rows.
pub data Source : Type 0 where
  before : ℕ → Source
  added : List Row → Source

abbrev pub source_of : List (List Row) → Next → Source
source_of parts (Stays place) = before place
source_of parts (Anew place) = before place
source_of parts (Added place) = added (unwrap_or (slice_get parts place) [])

-- the added rows that it has
abbrev pub new_rows : Source → List Row
new_rows (before place) = []
new_rows (added rows) = rows

-- the added rows of all of them, in their order
abbrev pub all_new : List Source → List Row
all_new [] = []
all_new (s ∷ sources) = new_rows s ++ all_new sources

abbrev pub added_rows : List (List Row) → List Next → List Row
added_rows parts next = all_new (map (source_of parts) next)

-- the live rows of a manifest of the new list
abbrev pub live_rows : NextManifest → List Held
live_rows (stays m) = m.rows
live_rows (new entries rows) = rows

-- ---- what is kept

abbrev pub owners_of : List KeptManifest → List ℕ
owners_of manifests = map (λ m. m.owner) manifests

-- The owner is one of a manifest of the list.
abbrev pub IsOfManifest : List KeptManifest → ℕ → Type 0
IsOfManifest manifests owner = (m : KeptManifest) × Contains manifests m × (m.owner ≡ owner)

-- All owners that have rows are of manifests of the list.
abbrev pub OwnAllRows : OwnedRows → List KeptManifest → Type 0
OwnAllRows links manifests = (owner : ℕ) (e : Entry) → Owns links owner e → IsOfManifest manifests owner

-- All owners are of manifests of the list.
abbrev pub AreAllOwners : OwnedRows → List KeptManifest → Type 0
AreAllOwners links manifests = (owner : ℕ) → IsSome (rows_of links owner) → IsOfManifest manifests owner

-- These manifests are kept behind the commit: each has an owner of its own, which has its live rows.
pub record Advances (removed : List (List ℕ)) (version : ℕ) (manifests : List KeptManifest) (parts : List (List Row)) (next : List Next) (old now : OwnedRows) (kept : List KeptManifest) : Type 0 where
  pub rows : (front : List ℕ) (are : List NextManifest) → AreNext front version removed (map (live_manifest old) manifests) parts next are → map (λ m. held_rows now m.owner) kept ≡ map live_rows are
  pub there : (m : KeptManifest) → Contains kept m → IsSome (rows_of now m.owner)
  pub distinct : IsDistinct nat_eq (owners_of kept)
  pub own : OwnAllRows old manifests → OwnAllRows now kept
  pub all : AreAllOwners old manifests → AreAllOwners now kept

-- The row is held.
abbrev pub IsHeldRow : OwnedRows → Held → Type 0
IsHeldRow links held = (slot : ℕ) × Holds links slot held

-- Each row that is held behind the commit was held before and isn't removed, or it is added.
abbrev pub HoldsJustBehind : List (List ℕ) → ℕ → List Row → OwnedRows → OwnedRows → Type 0
HoldsJustBehind removed version rows old now =
    (held : Held) → IsHeldRow now held → (IsHeldRow old held × ¬ Contains removed held.row.path) ⊎ ((row : Row) × Contains rows row × (held ≡ born_at version row))

-- ---- one step of it

-- Those of these owners that had no row are gone, and all others are as they were.
pub record EndsEmpty (owners : List ℕ) (old now : OwnedRows) : Type 0 where
  pub each : (owner : ℕ) → (rows_of now owner ≡ rows_of old owner) ⊎ ((rows_of old owner ≡ Some []) × (rows_of now owner ≡ None))
  pub others : (owner : ℕ) → ¬ Contains owners owner → rows_of now owner ≡ rows_of old owner
  pub empty : (owner : ℕ) → Contains owners owner → rows_of old owner ≡ Some [] → rows_of now owner ≡ None

-- Each owner has the rows that it had, without those of these paths.
abbrev pub LosesPaths : List (List ℕ) → OwnedRows → OwnedRows → Type 0
LosesPaths removed old now = (owner : ℕ) → rows_of now owner ≡ option_map (λ rows. filter (λ e. not (is_lost removed e.held)) rows) (rows_of old owner)

-- The rows may come: no two have one path, and none has that of a held row.
pub record AreFresh (links : OwnedRows) (rows : List Row) : Type 0 where
  pub distinct : HasDistinctPaths rows
  pub unheld : (row : Row) → Contains rows row → ¬ HoldsPath links row.path

-- These rows come behind the owner's, and all others are as they were.
pub record AppendsRows (owner : ℕ) (rows : List Held) (old now : OwnedRows) : Type 0 where
  pub there : IsSome (rows_of now owner)
  pub here : held_rows now owner ≡ held_rows old owner ++ rows
  pub others : (o : ℕ) → o ≢ owner → rows_of now o ≡ rows_of old o

-- A number that was no owner's is that of an owner of these rows.
pub record AddsRows (owner : ℕ) (rows : List Held) (old now : OwnedRows) : Type 0 where
  pub free : rows_of old owner ≡ None
  pub appends : AppendsRows owner rows old now

-- The manifest of the new list has this owner: that of the manifest before, or a new one of the added rows.
abbrev pub HasOwner : List KeptManifest → ℕ → Source → ℕ → OwnedRows → OwnedRows → Type 0
HasOwner manifests version (before place) owner old now = (slice_get (owners_of manifests) place ≡ Some owner) × (now ≡ old)
HasOwner manifests version (added rows) owner old now = AddsRows owner (map (born_at version) rows) old now

-- The manifests have these owners, which are given one by one.
abbrev pub HaveOwners : List KeptManifest → ℕ → List Source → List ℕ → OwnedRows → OwnedRows → Type 0
HaveOwners manifests version [] [] old now = now ≡ old
HaveOwners manifests version [] (owner ∷ owners) old now = ⊥
HaveOwners manifests version (s ∷ sources) [] old now = ⊥
HaveOwners manifests version (s ∷ sources) (owner ∷ owners) old now = (mid : OwnedRows) × HasOwner manifests version s owner old mid × HaveOwners manifests version sources owners mid now
