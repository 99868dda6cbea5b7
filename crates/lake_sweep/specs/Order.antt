-- The order in which leftovers are removed.
use Rattle.std.specs.Prelude.{◌≡◌, ◌⊎◌, ℕ, List, [], ◌∷◌, Contains}
use Rattle.std.specs.Cmp.Lexicographic.{slice_cmp}
use Rattle.std.specs.Ordering.{nat_cmp}
use Rattle.std.specs.declared.cmp.Ordering.TheVariants.{Less}
use Rattle.table_history.specs.declared.kind.Kind.{Kind}
use Rattle.table_history.specs.declared.kind.Kind.TheVariants.{Delta, Hudi, Iceberg}
use Rattle.hudi_names.specs.Time.{IsDigits}
use Rattle.hudi_commit.specs.Names.{Inflight, Requested, claim_path, pending_path, staged_properties_path}

-- each item comes before all those after it
abbrev pub AreInOrder : {A : Type 0} → (A → A → Type 0) → List A → Type 0
AreInOrder IsBefore [] = Unit {0}
AreInOrder {A} IsBefore (x ∷ xs) = ((y : A) → Contains xs y → IsBefore x y) × AreInOrder IsBefore xs

-- byte order
abbrev pub IsLess : List ℕ → List ℕ → Type 0
IsLess a b = slice_cmp nat_cmp a b ≡ Less

-- ---- a Hudi timeline

-- what a stopped commit leaves of its instant: the two pending names and the claim
pub data Part : Type 0 where
  OfInflight : Part
  OfRequested : Part
  OfClaim : Part

abbrev pub path_of_part : Part → List ℕ → List ℕ
path_of_part OfInflight instant = pending_path Inflight instant
path_of_part OfRequested instant = pending_path Requested instant
path_of_part OfClaim instant = claim_path instant

-- the claim is the last, since without it the pending names are another's
abbrev pub IsEarlierPart : Part → Part → Type 0
IsEarlierPart OfInflight OfInflight = ⊥
IsEarlierPart OfInflight OfRequested = Unit {0}
IsEarlierPart OfInflight OfClaim = Unit {0}
IsEarlierPart OfRequested OfInflight = ⊥
IsEarlierPart OfRequested OfRequested = ⊥
IsEarlierPart OfRequested OfClaim = Unit {0}
IsEarlierPart OfClaim part = ⊥

-- the path is this part of an instant of 17 digits
pub record IsPartAt (path : List ℕ) : Type 0 where
  pub part : Part
  pub instant : List ℕ
  pub digits : IsDigits instant
  pub is : path ≡ path_of_part part instant

-- of an earlier instant, or an earlier part of the same
abbrev pub IsEarlier : {a b : List ℕ} → IsPartAt a → IsPartAt b → Type 0
IsEarlier one other = IsLess one.instant other.instant ⊎ ((one.instant ≡ other.instant) × IsEarlierPart one.part other.part)

-- The instants rise, each with its parts in their order. The staged properties are the last.
abbrev pub IsBeforeInTimeline : List ℕ → List ℕ → Type 0
IsBeforeInTimeline a b = (one : IsPartAt a) × ((b ≡ staged_properties_path) ⊎ ((other : IsPartAt b) × IsEarlier one other))

-- ---- any format

-- the first of the two is removed before the second
abbrev pub IsRemovedBefore : Kind → List ℕ → List ℕ → Type 0
IsRemovedBefore Delta a b = IsLess a b
IsRemovedBefore Iceberg a b = IsLess a b
IsRemovedBefore Hudi a b = IsBeforeInTimeline a b
