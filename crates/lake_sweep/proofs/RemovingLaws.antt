-- How files are removed one after the other.
use Rattle.std.proofs.Common.{◌≡◌, ◌⊎◌, inl, inr, ⊎_elim, ℕ, ◌+◌, ◌<◌, ◌≤◌, ◌==◌, Bool, true, false, List, [], ◌∷◌, ◌++◌, length, take, Contains, refl, sym, ap, subst, ◌∙◌, arith}
use Rattle.std.proofs.lemmas.Bool.Decides.{nat_tests}
use Rattle.std.proofs.lemmas.List.Elements.{Contains-append_left, Contains-push, Contains-push_cases}
use Rattle.std.specs.Prelude.{None}
use Rattle.std.specs.FinMap as map
use Rattle.lake_store.specs.Disk.{Disk, Files, IsClean, IsPartlySynced, MayLeave, removed, synced}
use Rattle.lake_store.specs.Moments.{Elapses}
use Rattle.lake_store.specs.Runs.{IsEachMoment, OnlyReads}
use Rattle.lake_store.specs.declared.store.Store.{Ghosts}
use Rattle.lake_store.proofs.DiskLaws.{clean-synced, get-remove_here, get-remove_other, path_cases, removed_elsewhere, contains-remove_here}
use Rattle.lake_store.proofs.MomentLaws.{goes_further, goes_on, started, weaker}
use Rattle.lake_store.proofs.RunLaws.{NowOnly}
use Rattle.table_history.proofs.RowListLemmas.{Contains-none}
use Rattle.lake_sweep.specs.Removing.{AreGone, AreSomeGone, IsUnderWay, Removes}

module _ (before : Files) where
  pub gone_none : AreGone [] before before
  gone_none = record { gone = λ q none. absurd (Contains-none q none); others = λ q lacks. refl }

  pub gone_same : (xs : List (List ℕ)) (a b : Files) → AreGone xs before a → ((q : List ℕ) → map.get b q ≡ map.get a q) → AreGone xs before b
  gone_same xs a b h same = record { gone = λ q within. same q ∙ h.gone q within; others = λ q lacks. same q ∙ h.others q lacks }

  pub gone_more : (xs : List (List ℕ)) (p : List ℕ) (a : Files) → AreGone xs before a → AreGone (xs ++ p ∷ []) before (map.remove a p)
  gone_more xs p a h = record {
    gone = λ q within. ⊎_elim
        (λ (is : q ≡ p). subst (λ (r : List ℕ). map.get (map.remove a p) r ≡ None) (sym is) (get-remove_here a p))
        (λ other. get-remove_other a p q other ∙ h.gone q (⊎_elim (λ here. here) (λ (is : p ≡ q). absurd (other (sym is))) (Contains-push_cases xs p q within)))
        (path_cases q p);
    others = λ q lacks.
        get-remove_other a p q (λ is. lacks (subst (λ (r : List ℕ). Contains (xs ++ p ∷ []) r) (sym is) (Contains-push xs p)))
        ∙ h.others q (λ within. lacks (Contains-append_left xs (p ∷ []) q within));
  }

removed_clean : (d : Disk) (p : List ℕ) → ((q : List ℕ) → IsClean d q) → (q : List ℕ) → IsClean (removed d p) q
removed_clean d p clean q = ⊎_elim
    (λ (is : q ≡ p). subst (λ (r : List ℕ). IsClean (removed d p) r) (sym is) (contains-remove_here d.dirty p))
    (λ other. (removed_elsewhere d p).dirty q other ∙ clean q)
    (path_cases q p)

-- The first n of the paths are gone, and no path is dirty.
pub record IsGoneTo {S : Type 0} (store : Ghosts S) (paths : List (List ℕ)) (old : S) (n : ℕ) (new : S) : Type 0 where
  pub within : n ≤ length paths
  pub gone : AreGone (take n paths) (store.disk old).files (store.disk new).files
  pub clean : (q : List ℕ) → IsClean (store.disk new) q
  pub moments : IsEachMoment store old new (IsUnderWay paths (store.disk old))

module _ {S : Type 0} (store : Ghosts S) (only_now : NowOnly store) (paths : List (List ℕ)) (old : S) where
  abbrev before : Disk
  before = store.disk old

  abbrev P : Files → Type 0
  P = IsUnderWay paths before

  moment_of : (n : ℕ) (d : Disk) (image : Files) → n ≤ length paths → AreGone (take n paths) before.files d.files → ((q : List ℕ) → IsClean d q) → MayLeave d image → P image
  moment_of n d image within gone clean may = inr (record { count = n; within = within; gone = gone_same before.files (take n paths) d.files image gone (λ q. may q (clean q)) })

  pub to_removes : (n : ℕ) (new : S) → IsGoneTo store paths old n new → Removes store paths old new
  to_removes n new h = record { files = record { count = n; within = h.within; gone = h.gone }; clean = λ q was. h.clean q; moments = h.moments }

  part_leaves : (e : Disk) (image : Files) → IsPartlySynced before e → MayLeave e image → MayLeave before image
  part_leaves e image part may q clean = may q (part.clean q clean) ∙ ap (λ (m : Files). map.get m q) part.files

  module _ (new : S) (told : store.tells) (part : IsPartlySynced before (store.disk new)) (call : Elapses store.disk store.time store.left_since old new) where
    waiting : IsEachMoment store old new P
    waiting = goes_on store old old new P (started store only_now old P (λ t image may. inl may)) (λ t. call) (λ t image may. inl (part_leaves (store.disk new) image part may)) told

    none_gone : AreGone [] before.files (store.disk new).files
    none_gone = subst (λ (m : Files). AreGone [] before.files m) (sym part.files) (gone_none before.files)

    -- a sync that may have failed
    pub not_synced : Removes store paths old new
    not_synced = record { files = record { count = 0; within = omega arith; gone = none_gone }; clean = part.clean; moments = waiting }

    pub synced_to : store.disk new ≡ synced before → IsGoneTo store paths old 0 new
    synced_to is = record { within = omega arith; gone = none_gone; clean = λ q. subst (λ (d : Disk). IsClean d q) (sym is) (clean-synced before q); moments = waiting }

  module _ (n : ℕ) (mid new : S) (told : store.tells) (so_far : IsGoneTo store paths old n mid) (call : Elapses store.disk store.time store.left_since mid new) where
    further : (m : ℕ) → m ≤ length paths → AreGone (take m paths) before.files (store.disk new).files → ((q : List ℕ) → IsClean (store.disk new) q) → IsGoneTo store paths old m new
    further m within gone clean = record {
      within = within;
      gone = gone;
      clean = clean;
      moments = goes_on store old mid new P (λ t. so_far.moments) (λ t. call) (λ t image may. moment_of m (store.disk new) image within gone clean may) told;
    }

    pub kept_to : store.disk new ≡ store.disk mid → IsGoneTo store paths old n new
    kept_to same = further n so_far.within (subst (λ (d : Disk). AreGone (take n paths) before.files d.files) (sym same) so_far.gone) (λ q. subst (λ (d : Disk). IsClean d q) (sym same) (so_far.clean q))

    pub removed_to : (p : List ℕ) → n < length paths → take (n + 1) paths ≡ take n paths ++ p ∷ [] → store.disk new ≡ removed (store.disk mid) p → IsGoneTo store paths old (n + 1) new
    removed_to p lt longer is = further (n + 1) (omega (arith, lt))
        (subst (λ (l : List (List ℕ)). AreGone l before.files (store.disk new).files) (sym longer)
        (subst (λ (d : Disk). AreGone (take n paths ++ p ∷ []) before.files d.files) (sym is) (gone_more before.files (take n paths) p (store.disk mid).files so_far.gone)))
        (λ q. subst (λ (d : Disk). IsClean d q) (sym is) (removed_clean (store.disk mid) p so_far.clean q))

    -- a removal that may have failed
    pub refused_to : (p : List ℕ) → n < length paths → take (n + 1) paths ≡ take n paths ++ p ∷ [] → (store.disk new ≡ store.disk mid) ⊎ (store.disk new ≡ removed (store.disk mid) p) → Removes store paths old new
    refused_to p lt longer cases = ⊎_elim (λ same. to_removes n new (kept_to same)) (λ is. to_removes (n + 1) new (removed_to p lt longer is)) cases

-- where there is nothing to remove
pub reading_removes : {S : Type 0} (store : Ghosts S) (paths : List (List ℕ)) (old new : S) → OnlyReads store old new → Removes store paths old new
reading_removes store paths old new only = record {
  files = record { count = 0; within = omega arith; gone = subst (λ (d : Disk). AreGone [] (store.disk old).files d.files) (sym only.disk) (gone_none (store.disk old).files) };
  clean = λ q was. subst (λ (d : Disk). IsClean d q) (sym only.disk) was;
  moments = record {
    later = only.moments.later;
    each = λ image left. inl (only.moments.each image left);
    before = λ t image le left. ⊎_elim inl (λ may. inr (inl may)) (only.moments.before t image le left);
  };
}

-- removing after reading
pub after_reading : {S : Type 0} (store : Ghosts S) (paths : List (List ℕ)) (old mid new : S) → store.tells → OnlyReads store old mid → Removes store paths mid new → Removes store paths old new
after_reading store paths old mid new told only run = record {
  files = subst (λ (d : Disk). AreSomeGone paths d.files (store.disk new).files) only.disk run.files;
  clean = λ q was. run.clean q (subst (λ (d : Disk). IsClean d q) (sym only.disk) was);
  moments = goes_further store old mid new (IsUnderWay paths (store.disk old)) (weaker store old mid (MayLeave (store.disk old)) (IsUnderWay paths (store.disk old)) (λ image may. inl may) (λ t. only.moments))
      (weaker store mid new (IsUnderWay paths (store.disk mid)) (IsUnderWay paths (store.disk old)) (λ image p. subst (λ (d : Disk). IsUnderWay paths d image) only.disk p) (λ t. run.moments)) told;
}

-- whether there is a path
no_length : (paths : List (List ℕ)) → length paths ≡ 0 → paths ≡ []
no_length [] is = refl
no_length (p ∷ paths) is = absurd (omega (arith, is))

pub no_paths : (paths : List (List ℕ)) (test : Bool) → test ≡ (length paths == 0) → test ≡ true → paths ≡ []
no_paths paths test is holds = no_length paths (grind (arith, nat_tests))

pub some_paths : (paths : List (List ℕ)) (test : Bool) → test ≡ (length paths == 0) → test ≡ false → paths ≡ [] → ⊥
some_paths paths test is fails none =
    let zero_long : length paths ≡ 0 = ap length none in
    grind (arith, nat_tests)
