-- The versions of an Iceberg table in rising order, and the paths of a version's lists.
use Rattle.std.proofs.Common.{◌≡◌, ◌⊎◌, inl, inr, ⊎_elim, ℕ, suc, ◌+◌, ◌<◌, ◌≤◌, eqb, List, [], ◌∷◌, ◌++◌, length, take, drop, get_or, Contains, Option, None, Some, Result, Ok, Err, refl, sym, ap, subst, ◌∙◌, drop-cons, arith}
use Rattle.std.specs.Prelude.{◌↔◌, IfOk, MatchOption}
use Rattle.std.specs.List.{dedup}
use Rattle.std.specs.List.Retain.{DiffersFromLast, IsFiltered}
use Rattle.std.specs.List.Sorted.{IsPermutation, IsSorted, IsStrictlySortedBy}
use Rattle.std.specs.Ordering.{nat_cmp}
use Rattle.std.proofs.lemmas.List.Filters.{dedup_is}
use Rattle.std.proofs.lemmas.List.Kept.{Contains-dedup_nat, Contains-from_dedup}
use Rattle.std.proofs.lemmas.List.Sorted.{Contains-permutation, IsPermutation-sym}
use Rattle.std.proofs.lemmas.Map.Keys.{IsStrictlyIncreasing-dedup, sorted_from_strictly_increasing}
use Rattle.std.specs.declared.cmp.Ordering.TheVariants.{Less}
use Rattle.std.proofs.lemmas.Bool.Decides.{nat_tests}
use Rattle.std.proofs.lemmas.List.{take-append-drop, take_all, take_more}
use Rattle.std.proofs.lemmas.List.Elements.{Contains-append_left, Contains-append_cases, Contains-push, Contains-push_cases}
use Rattle.std.specs.List.{AllByRecursion}
use Rattle.table_history.proofs.RowListLemmas.{Contains-cases, Contains-none}
use Rattle.iceberg_live.specs.MetadataPaths.{IsMetadataPath}
use Rattle.iceberg_manifest.specs.Lists.{AreEach}
use Rattle.iceberg_manifest.specs.declared.error.ManifestError.{ManifestError}
use Rattle.iceberg_manifest.specs.declared.error.ManifestError.TheVariants as manifest
use Rattle.iceberg_metadata.specs.VersionName.{IsVersionName}
use Rattle.iceberg_metadata.specs.declared.metadata.Snapshot.{Snapshot}
use Rattle.iceberg_table.proofs.EachLaws.{each_push}
use Rattle.iceberg_table.specs.Folder.{IsNamed}
use Rattle.iceberg_table.proofs.FolderLaws.{one_version}
use Rattle.lake_sweep.specs.Order.{AreInOrder}
use Rattle.lake_sweep.specs.declared.error.SweepError.{SweepError}
use Rattle.lake_sweep.proofs.Lists.{order_after}

-- ---- the versions that names are of

-- the versions with that of a name which has none
pub with_none : (name : List ℕ) (versions : List ℕ) → ((v : ℕ) → ¬ IsVersionName name v) → (v : ℕ) → Contains versions v ↔ (Contains versions v ⊎ IsVersionName name v)
with_none name versions lacks v = (λ within. inl within, λ h. ⊎_elim (λ before. before) (λ named. absurd (lacks v named)) h)

-- and of a name which has one
pub with_one : (name : List ℕ) (versions after : List ℕ) (version : ℕ) → IsVersionName name version → after ≡ versions ++ version ∷ [] → (v : ℕ) → Contains after v ↔ (Contains versions v ⊎ IsVersionName name v)
with_one name versions after version is put v = subst (λ (l : List ℕ). Contains l v ↔ (Contains versions v ⊎ IsVersionName name v)) (sym put) (
  λ within. ⊎_elim inl (λ (same : version ≡ v). inr (subst (λ (w : ℕ). IsVersionName name w) same is)) (Contains-push_cases versions version v within),
  λ h. ⊎_elim
      (λ before. Contains-append_left versions (version ∷ []) v before)
      (λ named. subst (λ (w : ℕ). Contains (versions ++ version ∷ []) w) (one_version name version v is named) (Contains-push versions version))
      h,
)

abbrev AreOf : List (List ℕ) → List ℕ → Type 0
AreOf names versions = (v : ℕ) → Contains versions v ↔ IsNamed names v

pub none_named : AreOf [] []
none_named v = (λ none. absurd (Contains-none v none), λ h. absurd (Contains-none h.0 h.1))

pub named_more : (names : List (List ℕ)) (i : ℕ) (name : List ℕ) (versions after : List ℕ) → i < length names → name ≡ get_or names i name → AreOf (take i names) versions
    → ((v : ℕ) → Contains after v ↔ (Contains versions v ⊎ IsVersionName name v)) → AreOf (take (i + 1) names) after
named_more names i name versions after lt is so_far here v =
    let longer : take (i + 1) names ≡ take i names ++ name ∷ [] = take_more names i name lt ∙ ap (λ (n : List ℕ). take i names ++ n ∷ []) (sym is) in
    subst (λ (l : List (List ℕ)). Contains after v ↔ IsNamed l v) (sym longer) (
      λ within. ⊎_elim
          (λ before. let h = (so_far v).0 before in (h.0, Contains-append_left (take i names) (name ∷ []) h.0 h.1, h.2))
          (λ named. (name, Contains-push (take i names) name, named))
          ((here v).0 within),
      λ (h : IsNamed (take i names ++ name ∷ []) v). (here v).1 (⊎_elim
          (λ before. inl ((so_far v).1 (h.0, before, h.2)))
          (λ (same : name ≡ h.0). inr (subst (λ (n : List ℕ). IsVersionName n v) (sym same) h.2))
          (Contains-push_cases (take i names) name h.0 h.1)),
    )

pub named_all : (names : List (List ℕ)) (i : ℕ) (versions : List ℕ) → length names ≤ i → AreOf (take i names) versions → AreOf names versions
named_all names i versions past so_far = subst (λ (l : List (List ℕ)). AreOf l versions) (take_all i names past) so_far

-- ---- rising

less_of : (a b : ℕ) → nat_cmp a b ≡ Less → a < b
less_of a b is = grind (arith, nat_tests)

all_in : (P : ℕ → Type 0) (xs : List ℕ) → AllByRecursion P xs → (y : ℕ) → Contains xs y → P y
all_in P [] all y within = absurd (Contains-none y within)
all_in P (x ∷ xs) all y within = ⊎_elim (λ (same : x ≡ y). subst P same all.0) (λ later. all_in P xs all.1 y later) (Contains-cases x xs y within)

rising_order : (xs : List ℕ) → IsStrictlySortedBy nat_cmp xs → AreInOrder (λ (a b : ℕ). a < b) xs
unfolding IsStrictlySortedBy
rising_order [] sorted = tt
rising_order (x ∷ xs) sorted = (λ y within. less_of x y (all_in (λ (z : ℕ). nat_cmp x z ≡ Less) xs sorted.0 y within), rising_order xs sorted.1)

-- an earlier version stands before a place
pub earlier_before : (versions : List ℕ) (i : ℕ) → IsStrictlySortedBy nat_cmp versions → i < length versions → (v : ℕ) → Contains versions v → v < get_or versions i 0 → Contains (take i versions) v
earlier_before versions i rising lt v within less =
    let here = get_or versions i 0 in
    let split : versions ≡ take i versions ++ here ∷ drop (suc i) versions = sym (take-append-drop i versions) ∙ ap (λ (l : List ℕ). take i versions ++ l) (drop-cons versions i 0 lt) in
    ⊎_elim
    (λ before. before)
    (λ rest. ⊎_elim
    (λ (same : here ≡ v). absurd (omega (arith, less, same)))
    (λ later. let past = order_after (λ (a b : ℕ). a < b) (take i versions) here (drop (suc i) versions) (subst (λ (l : List ℕ). AreInOrder (λ (a b : ℕ). a < b) l) split (rising_order versions rising)) v later in absurd (omega (arith, less, past)))
    (Contains-cases here (drop (suc i) versions) v rest))
    (Contains-append_cases (take i versions) (here ∷ drop (suc i) versions) v (subst (λ (l : List ℕ). Contains l v) split within))

-- ---- sorting and dropping what stands twice

module _ (xs ys zs : List ℕ) (permuted : IsPermutation xs ys) (once : IsFiltered (DiffersFromLast eqb) [] ys zs) where
  made : zs ≡ dedup eqb ys
  made = dedup_is eqb ys zs once

  pub sorted_once : IsSorted nat_cmp ys → IsStrictlySortedBy nat_cmp zs
  sorted_once sorted = subst (IsStrictlySortedBy nat_cmp) (sym made) (sorted_from_strictly_increasing (dedup eqb ys) (IsStrictlyIncreasing-dedup ys sorted))

  pub same_versions : (v : ℕ) → Contains zs v ↔ Contains xs v
  same_versions v = (
    (λ within. Contains-permutation ys xs v (IsPermutation-sym xs ys permuted) (Contains-from_dedup eqb ys v (subst (λ (l : List ℕ). Contains l v) made within))),
    (λ within. subst (λ (l : List ℕ). Contains l v) (sym made) (Contains-dedup_nat ys v (Contains-permutation xs ys v permuted within))),
  )

-- ---- the lists of snapshots

-- where the only fault is want of memory, a name without that fault has no path
pub nothing_found : (location list : List ℕ) (e : ManifestError) (r : Result (Option (List ℕ)) SweepError) → ((path : List ℕ) → IsMetadataPath location list path → e ≡ manifest.Memory) → IfOk r (λ found. (found ≡ None) × ¬ (e ≡ manifest.Memory))
    → IfOk r (λ found. MatchOption found ((path : List ℕ) → ¬ IsMetadataPath location list path) (IsMetadataPath location list))
nothing_found location list e (Ok found) only h = subst (λ (o : Option (List ℕ)). MatchOption o ((path : List ℕ) → ¬ IsMetadataPath location list path) (IsMetadataPath location list)) (sym h.0) (λ path within. h.1 (only path within))
nothing_found location list e (Err x) only h = tt

-- where none was found
pub lacks_path : (location list : List ℕ) (found : Option (List ℕ)) → ((path : List ℕ) → found ≡ Some path → ⊥) → MatchOption found ((path : List ℕ) → ¬ IsMetadataPath location list path) (IsMetadataPath location list) → (path : List ℕ) → ¬ IsMetadataPath location list path
lacks_path location list None other lacks = lacks
lacks_path location list (Some path) other lacks = absurd (other path refl)

pub snapshot_there : (snapshots : List Snapshot) (i : ℕ) (s : Snapshot) → i < length snapshots → s ≡ get_or snapshots i s → Contains snapshots s
snapshot_there snapshots i s lt is = (i, lt, sym is)

pub snapshot_more : (location : List ℕ) (snapshots : List Snapshot) (i : ℕ) (s : Snapshot) → i < length snapshots → s ≡ get_or snapshots i s → (paths : List (List ℕ))
    → AreEach (λ (t : Snapshot). IsMetadataPath location t.list) (take i snapshots) paths → (path : List ℕ) → IsMetadataPath location s.list path → (after : List (List ℕ)) → after ≡ paths ++ path ∷ []
    → AreEach (λ (t : Snapshot). IsMetadataPath location t.list) (take (i + 1) snapshots) after
snapshot_more location snapshots i s lt is paths are path here after put =
    let P = λ (t : Snapshot) (p : List ℕ). IsMetadataPath location t.list p in
    let longer : take (i + 1) snapshots ≡ take i snapshots ++ s ∷ [] = take_more snapshots i s lt ∙ ap (λ (t : Snapshot). take i snapshots ++ t ∷ []) (sym is) in
    subst (λ (l : List (List ℕ)). AreEach P (take (i + 1) snapshots) l) (sym put)
    (subst (λ (l : List Snapshot). AreEach P l (paths ++ path ∷ [])) (sym longer) (each_push P (take i snapshots) paths s path are here))
