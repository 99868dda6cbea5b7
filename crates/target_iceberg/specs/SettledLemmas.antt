-- What an Iceberg target's files stand for lies in its folder, in what its versions reach, and stays through a crash.
use Rattle.std.proofs.Common.{◌≡◌, ◌⊎◌, inl, inr, ⊎_elim, ℕ, ◌≤◌, List, [], get_or, Option, Some, None, refl, sym, ap, subst, ◌∙◌, arith}
use Rattle.std.specs.Prelude.{IsSome}
use Rattle.std.proofs.lemmas.Bool.{false≢true}
use Rattle.std.specs.FinMap as map
use Rattle.std.specs.FinSet as set
use Rattle.std.specs.Ordering.{nat_cmp}
use Rattle.std.specs.Cmp.Lexicographic.{slice_cmp}
use Rattle.lake_store.specs.Disk.{Disk, Files, IsClean, IsDirty}
use Rattle.lake_store.proofs.OrderLaws.{names_in_listed}
use Rattle.lake_store.specs.Runs.{IsIn}
use Rattle.table_history.specs.declared.table.Change.{Change}
use Rattle.iceberg_table.specs.Folder.{HasVersion, metadata_folder, path_of, version_path}
use Rattle.target_iceberg.specs.Leftovers.{IsLeftover, IsLeftoverName}
use Rattle.target_core.specs.Folders.{MayLeaveIn, SameIn, after_crash}
use Rattle.target_core.specs.FolderLemmas.{same_back}
use Rattle.target_core.specs.Views.{Standing, View, absent}
use Rattle.target_core.proofs.StoreAnswers.{dirty_or_clean}
use Rattle.target_iceberg.specs.Reached.{IsReached, IsSettled}
use Rattle.target_iceberg.specs.Reading.{IsAbsent, IsCarried, Reads}
use Rattle.target_iceberg.specs.SameLemmas.{SameReached, carried_too, files_back, goes_on_too, has_too, newest_too, ours_too, reached_back, reached_in}
use Rattle.target_iceberg.specs.ViewLemmas.{is_absent}
use Rattle.lake_basics.proofs.Options.{none_there, some_there}

pub name_in : (name : List ℕ) → IsIn metadata_folder (path_of name)
name_in name = (name, refl)

-- Nothing is reached where there is no version.
pub nothing_reached : (files : Files) → ((version : ℕ) → ¬ HasVersion files version) → (path : List ℕ) → ¬ IsReached files path
nothing_reached files none path (IsReached.metadata version there is) = none version there
nothing_reached files none path (IsReached.list h) = none h.version h.there
nothing_reached files none path (IsReached.manifest h) = none h.names.version h.names.there

-- ---- the same folder

pub own_reached : (a b : Files) → SameIn metadata_folder a b → SameReached a b
own_reached a b same =
    let back = same_back metadata_folder a b same in
    record {
      files = λ path reached. same path (reached_in a path reached);
      versions = λ version there. has_own b a back version there;
    }
  where
    has_own : (c d : Files) → SameIn metadata_folder c d → (version : ℕ) → HasVersion c version → HasVersion d version
    has_own c d alike version there = has_too c d (λ path reached. alike path (reached_in c path reached)) version there

pub absent_own : (a b : Files) → SameIn metadata_folder a b → IsAbsent a → IsAbsent b
absent_own a b same h = record {
  versions = λ version there. h.versions version ((own_reached a b same).versions version there);
  names = λ name proper there. h.names name proper (subst (λ (o : Option (List ℕ)). IsSome o) (same (path_of name) (name_in name)) there);
}

pub reads_own : (a b : Files) (v : View) → SameIn metadata_folder a b → Reads a v → Reads b v
reads_own a b v same (inl h) = inl (absent_own a b same h.0, h.1)
reads_own a b v same (inr h) = inr (ours_too a b (own_reached a b same) v h)

pub carries_own : (new : List ℕ) (a b : Files) (number : ℕ) (change : Change) (s : Standing) → SameIn metadata_folder a b → IsCarried new a number change s → IsCarried new b number change s
carries_own new a b number change s same h = carried_too a b (own_reached a b same) new number change s h

-- ---- what is reached alone

module _ (a b : Files) (same : (path : List ℕ) → IsReached a path → map.get b path ≡ map.get a path) (none : (path : List ℕ) → IsIn metadata_folder path → (IsReached a path → ⊥) → map.get b path ≡ None) where
  -- A name that is there in the second files is there in the first.
  name_by : (name : List ℕ) (o : Option (List ℕ)) → map.get a (path_of name) ≡ o → IsSome (map.get b (path_of name)) → IsSome (map.get a (path_of name))
  name_by name (Some bytes) is there = some_there (map.get a (path_of name)) bytes is
  name_by name None is there =
      let unreached : IsReached a (path_of name) → ⊥ = λ reached. none_there (map.get b (path_of name)) (same (path_of name) reached ∙ is) there in
      absurd (none_there (map.get b (path_of name)) (none (path_of name) (name_in name) unreached) there)

  alone_versions : (version : ℕ) → HasVersion b version → HasVersion a version
  alone_versions version h =
      let is = ((names_in_listed b metadata_folder).members h.0).0 h.1 in
      (h.0, ((names_in_listed a metadata_folder).members h.0).1 (is.0, name_by h.0 (map.get a (path_of h.0)) refl is.1), h.2)

  alone_reached : SameReached a b
  alone_reached = record { files = same; versions = alone_versions }

  alone_absent : IsAbsent a → IsAbsent b
  alone_absent h = record {
    versions = λ version there. h.versions version (alone_versions version there);
    names = λ name proper there. absurd (none_there (map.get b (path_of name)) (none (path_of name) (name_in name) (nothing_reached a h.versions (path_of name))) there);
  }

  alone_reads : (v : View) → Reads a v → Reads b v
  alone_reads v (inl h) = inl (alone_absent h.0, h.1)
  alone_reads v (inr h) = inr (ours_too a b alone_reached v h)

pub reached_alone : (new : List ℕ) (a b : Files) (v : View) → ((path : List ℕ) → IsReached a path → map.get b path ≡ map.get a path) → ((path : List ℕ) → IsIn metadata_folder path → (IsReached a path → ⊥) → map.get b path ≡ None)
    → Reads a v → Reads b v × ((c : ℕ) (change : Change) (m : Standing) → c ≤ v.commits → IsCarried new a c change m → IsCarried new b c change m)
reached_alone new a b v same none reads = (alone_reads a b same none v reads, λ c change m le h. carried_too a b (alone_reached a b same none) new c change m h)

-- ---- settled

pub not_both : (disk : Disk) (path : List ℕ) → IsClean disk path → IsDirty disk path → ⊥
not_both disk path clean dirty = false≢true (sym clean ∙ dirty)

pub reached_clean : (disk : Disk) (path : List ℕ) → IsSettled disk → IsReached disk.files path → IsClean disk path
reached_clean disk path settled reached = ⊎_elim (λ dirty. absurd (settled.unreached path dirty reached)) (λ clean. clean) (dirty_or_clean disk path)

pub settled_absent : (disk : Disk) → Reads disk.files (absent []) → ((path : List ℕ) → IsIn metadata_folder path → IsClean disk path) → IsSettled disk
settled_absent disk reads clean =
    let none = is_absent disk.files [] reads in
    record {
      leftovers = λ path within dirty. absurd (not_both disk path (clean path within) dirty);
      unreached = λ path dirty reached. nothing_reached disk.files none.versions path reached;
      goes_on = λ newest is. absurd (none.versions newest is.there);
    }

module _ (a b : Disk) (same : SameIn metadata_folder a.files b.files) (fewer : (path : List ℕ) → IsIn metadata_folder path → IsClean a path → IsClean b path) (settled : IsSettled a) where
  dirty_too : (path : List ℕ) → IsIn metadata_folder path → IsDirty b path → IsDirty a path
  dirty_too path within dirty = ⊎_elim (λ was. was) (λ clean. absurd (not_both b path (fewer path within clean) dirty)) (dirty_or_clean a path)

  pub settled_own : IsSettled b
  settled_own =
      let reached = own_reached a.files b.files same in
      record {
        leftovers = λ path within dirty. settled.leftovers path within (dirty_too path within dirty);
        unreached = λ path dirty there.
            let was = reached_back a.files b.files reached path there in
            settled.unreached path (dirty_too path (reached_in a.files path was) dirty) was;
        goes_on = λ newest is.
            let was = newest_too b.files a.files (files_back a.files b.files reached) newest is in
            goes_on_too a.files b.files reached newest is.there (settled.goes_on newest was);
      }

-- ---- names

-- A version's name is none that a commit writes before it publishes.
pub never_leftover : (version : ℕ) → IsLeftover (version_path version) → ⊥
never_leftover version left = by left.name left.is left.leftover
  where
    -- the first byte of the name
    initial : (name : List ℕ) → version_path version ≡ path_of name → get_or name 0 0 ≡ 118
    initial name is = sym (ap (λ (path : List ℕ). get_or path 9 0) is)

    by : (name : List ℕ) → version_path version ≡ path_of name → IsLeftoverName name → ⊥
    by name is (IsLeftoverName.staged v d named) = let first = initial name is in let other : get_or name 0 0 ≡ 108 = ap (λ (n : List ℕ). get_or n 0 0) named in omega (arith, first, other)
    by name is (IsLeftoverName.list v d named) = let first = initial name is in let other : get_or name 0 0 ≡ 108 = ap (λ (n : List ℕ). get_or n 0 0) named in omega (arith, first, other)
    by name is (IsLeftoverName.manifest v n d e named) = let first = initial name is in let other : get_or name 0 0 ≡ 108 = ap (λ (m : List ℕ). get_or m 0 0) named in omega (arith, first, other)

same_name : (name other : List ℕ) → path_of name ≡ path_of other → name ≡ other
same_name name other is = cc

pub leftover_name : (name : List ℕ) → IsLeftover (path_of name) → IsLeftoverName name
leftover_name name left = subst (λ (n : List ℕ). IsLeftoverName n) (sym (same_name name left.name left.is)) left.leftover

-- ---- through a crash

module _ (disk : Disk) (image : Files) (settled : IsSettled disk) (left : MayLeaveIn metadata_folder disk image) where
  crash_name : (name : List ℕ) → IsSome (map.get image (path_of name)) → IsLeftoverName name ⊎ IsSome (map.get disk.files (path_of name))
  crash_name name there =
      ⊎_elim
      (λ dirty. inl (leftover_name name (settled.leftovers (path_of name) (name_in name) dirty)))
      (λ clean. inr (subst (λ (o : Option (List ℕ)). IsSome o) (left (path_of name) (name_in name) clean) there))
      (dirty_or_clean disk (path_of name))

  crash_versions : (version : ℕ) → HasVersion image version → HasVersion disk.files version
  crash_versions version h =
      let is = ((names_in_listed image metadata_folder).members h.0).0 h.1 in
      let was : IsSome (map.get disk.files (path_of h.0)) = ⊎_elim
      (λ leftover. absurd (never_leftover version (record { name = h.0; leftover = leftover; is = sym (ap path_of h.2.spelled) })))
      (λ was. was)
      (crash_name h.0 is.1) in
      (h.0, ((names_in_listed disk.files metadata_folder).members h.0).1 (is.0, was), h.2)

  pub crash_reached : SameReached disk.files image
  crash_reached = record {
    files = λ path reached. left path (reached_in disk.files path reached) (reached_clean disk path settled reached);
    versions = crash_versions;
  }

  crash_absent : IsAbsent disk.files → IsAbsent image
  crash_absent h = record {
    versions = λ version there. h.versions version (crash_versions version there);
    names = λ name proper there. ⊎_elim (λ leftover. leftover) (λ was. h.names name proper was) (crash_name name there);
  }

  pub crash_reads : (v : View) → Reads disk.files v → Reads image v
  crash_reads v (inl h) = inl (crash_absent h.0, h.1)
  crash_reads v (inr h) = inr (ours_too disk.files image crash_reached v h)

  pub crash_carries : (new : List ℕ) (number : ℕ) (change : Change) (s : Standing) → IsCarried new disk.files number change s → IsCarried new image number change s
  crash_carries new number change s h = carried_too disk.files image crash_reached new number change s h

  pub crash_settled : IsSettled (after_crash image)
  crash_settled = record {
    leftovers = λ path within dirty. absurd (not_both (after_crash image) path (set.contains-empty (slice_cmp nat_cmp) path) dirty);
    unreached = λ path dirty reached. not_both (after_crash image) path (set.contains-empty (slice_cmp nat_cmp) path) dirty;
    goes_on = λ newest is.
        let was = newest_too image disk.files (files_back disk.files image crash_reached) newest is in
        goes_on_too disk.files image crash_reached newest is.there (settled.goes_on newest was);
  }
