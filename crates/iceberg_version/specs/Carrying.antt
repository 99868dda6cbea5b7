-- What becomes of the manifests of a list at a commit, as it is decided one by one, before their entries are made.
use Rattle.std.specs.Prelude.{◌≡◌, ◌≢◌, ◌⊎◌, ◌+◌, ◌++◌, ℕ, List, [], ◌∷◌, map, Some, slice_get, if◌then◌else◌}
use Rattle.std.specs.Borrow.{Bor}
use Rattle.std.specs.List.{list_any, range_with_len}
use Rattle.table_history.specs.Row.{Row}
use Rattle.iceberg_manifest.specs.Lists.{AreEach}
use Rattle.iceberg_version.specs.Manifests.{LiveManifest, NextManifest, added_manifest, is_lost, left, new, rewritten_entries, stays}
use Rattle.iceberg_version.specs.declared.carrying.Next.{Next}
use Rattle.iceberg_version.specs.declared.carrying.Next.TheVariants.{Added, Anew, Stays}

-- the rows that these references are of
abbrev pub rows_at : Bor (List (Bor Row)) → List Row
rows_at rows = map (λ r. r.now) rows.now

-- the rows of the parts
abbrev pub parts_at : List (Bor (List (Bor Row))) → List (List Row)
parts_at parts = map rows_at parts

-- ---- the new list

-- The manifest of the new list is the one that stays at this place of the list before, or the one that is written anew there, or has these added
-- rows.
abbrev pub IsNextOf : List ℕ → ℕ → List (List ℕ) → List LiveManifest → List (List Row) → Next → NextManifest → Type 0
IsNextOf front version removed manifests parts (Stays place) next = (m : LiveManifest) × (slice_get manifests place ≡ Some m) × (next ≡ stays m)
IsNextOf front version removed manifests parts (Anew place) next = (m : LiveManifest) × (slice_get manifests place ≡ Some m) × (next ≡ new (rewritten_entries front version removed m.rows) (left removed m.rows))
IsNextOf front version removed manifests parts (Added place) next = (rows : List Row) × (slice_get parts place ≡ Some rows) × (next ≡ added_manifest front version rows)

-- These are the manifests of the new list, in their order.
abbrev pub AreNext : List ℕ → ℕ → List (List ℕ) → List LiveManifest → List (List Row) → List Next → List NextManifest → Type 0
AreNext front version removed manifests parts next are = AreEach (IsNextOf front version removed manifests parts) next are

-- ---- how it is decided

-- The manifest at this place has live rows, and becomes this: it is written anew where one of them is removed.
pub record IsCarriedOn (removed : List (List ℕ)) (place : ℕ) (m : LiveManifest) (next : Next) : Type 0 where
  pub rows : m.rows ≢ []
  pub is : next ≡ (if list_any (is_lost removed) m.rows then Anew place else Stays place)

-- The manifests from this place on become these, in their order: one without live rows is left out.
abbrev pub AreCarriedOn : List (List ℕ) → ℕ → List LiveManifest → List Next → Type 0
AreCarriedOn removed place [] next = next ≡ []
AreCarriedOn removed place (m ∷ ms) next =
    ((m.rows ≡ []) × AreCarriedOn removed (place + 1) ms next)
    ⊎ ((one : Next) × (rest : List Next) × (next ≡ one ∷ rest) × IsCarriedOn removed place m one × AreCarriedOn removed (place + 1) ms rest)

-- The manifests of the list before become the first of these, in their order, and the others have the parts of the added rows, of which there are so
-- many.
pub record IsNextList (removed : List (List ℕ)) (manifests : List LiveManifest) (count : ℕ) (next : List Next) : Type 0 where
  pub carried : List Next
  pub are : next ≡ carried ++ map (λ place. Added place) (range_with_len 0 count)
  pub before : AreCarriedOn removed 0 manifests carried
