-- The source's log while events are played: which versions are there, and with which bytes.
use Rattle.std.proofs.Common.{◌≡◌, ◌≢◌, ◌⊎◌, inl, inr, ⊎_elim, ℕ, zero, suc, ◌+◌, ◌≤◌, ◌<◌, max, List, [], ◌∷◌, ◌++◌, length, Option, Some, None, refl, sym, ap, subst, ◌∙◌, arith, codes}
use Rattle.std.specs.Prelude.{IsSome, slice_get}
use Rattle.std.specs.FinMap as map
use Rattle.std.specs.FinSet as set
use Rattle.std.specs.Ordering.{nat_cmp}
use Rattle.std.specs.Cmp.Lexicographic.{slice_cmp}
use Rattle.std.proofs.lemmas.Bool.{cases_lt}
use Rattle.std.proofs.lemmas.List.{append_cancel_left, length-append}
use Rattle.std.proofs.lemmas.Option.{none-some, same_Some}
use Rattle.lake_store.specs.Disk.{Disk, Files, IsClean, MayLeave, empty_disk, removed, synced, written}
use Rattle.lake_store.specs.Runs.{IsIn}
use Rattle.lake_store.proofs.DiskLaws.{clean-synced, contains-remove_here, contains-remove_other, get-insert_here, get-insert_other, get-remove_here, get-remove_other, path_cases}
use Rattle.delta_log.specs.VersionName.{IsVersionName}
use Rattle.delta_table.specs.SameVersions.{has_too, holds_too, own_versions, version_in, versions_sym}
use Rattle.delta_table.specs.Versions.{HasVersion, HoldsVersion, IsVersionPath, log_folder}
use Rattle.delta_table.proofs.PathLaws.{one_version, path_once}
use Rattle.target_core.specs.Folders.{SameIn}
use Rattle.lake_play.specs.Playing.{Sheds}
use Rattle.lake_play.specs.Standing.{HasVersionsAlone, HoldsFrom}
use Rattle.lake_basics.proofs.Options.{none_there}

-- ---- versions and their paths

pub one_path : (p : List ℕ) (v w : ℕ) → IsVersionPath p v → IsVersionPath p w → v ≡ w
one_path p v w a b =
    let same = append_cancel_left (codes "_delta_log/") a.name b.name (sym a.split ∙ b.split) in
    one_version b.name v w (subst (λ (n : List ℕ). IsVersionName n v) same a.named) b.named

-- ---- what is there

-- These are the commits so far. Those of them from the first version on are there, each at its version, and no other file, and no path of the log is dirty.
-- The newest is there, where there is one.
pub record HoldsCommits (commits : List (List ℕ)) (first : ℕ) (disk : Disk) : Type 0 where
  pub newest : ((first ≡ 0) × (length commits ≡ 0)) ⊎ (first < length commits)
  pub holds : (version : ℕ) (bytes : List ℕ) → first ≤ version → slice_get commits version ≡ Some bytes → HoldsVersion disk.files version bytes
  pub only : (version : ℕ) → HasVersion disk.files version → (first ≤ version) × (version < length commits)
  pub alone : HasVersionsAlone disk.files
  pub clean : (path : List ℕ) → IsIn log_folder path → IsClean disk path

-- what is there stays so in files that are the same in the log's folder
alone_too : (a b : Files) → SameIn log_folder a b → HasVersionsAlone a → HasVersionsAlone b
alone_too a b same alone path within there = alone path within (subst (λ (o : Option (List ℕ)). IsSome o) (same path within) there)

pub no_commits : HoldsCommits [] 0 empty_disk
no_commits = record {
  newest = inl (refl, refl);
  holds = λ version bytes from is. absurd (none-some bytes is);
  only = λ version has. absurd (none-some has.0 (sym (map.get-empty (slice_cmp nat_cmp) has.1.path) ∙ has.1.there));
  alone = λ path within there. absurd (none_there (map.get empty_disk.files path) (map.get-empty (slice_cmp nat_cmp) path) there);
  clean = λ path within. set.contains-empty (slice_cmp nat_cmp) path;
}

-- the log's folder alone
pub same_commits : (commits : List (List ℕ)) (first : ℕ) (a b : Disk) → SameIn log_folder a.files b.files → ((path : List ℕ) → IsIn log_folder path → IsClean a path → IsClean b path) → HoldsCommits commits first a → HoldsCommits commits first b
same_commits commits first a b same fewer h =
    let to = own_versions a.files b.files same in
    record {
      newest = h.newest;
      holds = λ version bytes from is. holds_too a.files b.files to version bytes (h.holds version bytes from is);
      only = λ version has. h.only version (has_too b.files a.files (versions_sym a.files b.files to) version has);
      alone = alone_too a.files b.files same h.alone;
      clean = λ path within. fewer path within (h.clean path within);
    }

-- what a crash may leave
pub left_commits : (commits : List (List ℕ)) (first : ℕ) (disk : Disk) (image : Files) → MayLeave disk image → HoldsCommits commits first disk → HoldsFrom first commits image
left_commits commits first disk image may h =
    let to = own_versions disk.files image (λ path within. may path (h.clean path within)) in
    record {
      holds = λ version bytes from is. holds_too disk.files image to version bytes (h.holds version bytes from is);
      only = λ version has. h.only version (has_too image disk.files (versions_sym disk.files image to) version has);
      alone = alone_too disk.files image (λ path within. may path (h.clean path within)) h.alone;
    }

-- ---- one commit more

at_end : {X : Type 0} (xs : List X) (x y : X) (i : ℕ) → slice_get (xs ++ x ∷ []) i ≡ Some y → ((i < length xs) × (slice_get xs i ≡ Some y)) ⊎ ((i ≡ length xs) × (x ≡ y))
at_end [] x y zero is = inr (refl, same_Some x y is)
at_end [] x y (suc i) is = absurd cc
at_end (z ∷ xs) x y zero is = inl (omega arith, is)
at_end (z ∷ xs) x y (suc i) is = ⊎_elim (λ before. let less = before.0 in inl (omega (arith, less), before.1)) (λ last. let here = last.0 in inr (omega (arith, here), last.1)) (at_end xs x y i is)

module _ (commits : List (List ℕ)) (first : ℕ) (old new : Disk) (path bytes : List ℕ) (is : IsVersionPath path (length commits)) (becomes : new ≡ synced (written old path bytes)) (h : HoldsCommits commits first old) where
  grown : length (commits ++ bytes ∷ []) ≡ length commits + 1
  grown = length-append commits (bytes ∷ [])

  abbrev after : Files
  after = (synced (written old path bytes)).files

  here : HoldsVersion after (length commits) bytes
  here = record { path = path; is = is; there = get-insert_here old.files path bytes }

  other_path : (version : ℕ) (p : List ℕ) → version < length commits → IsVersionPath p version → p ≢ path
  other_path version p less of same =
      let one = one_path path version (length commits) (subst (λ (q : List ℕ). IsVersionPath q version) same of) is in omega (arith, less, one)

  holds : (version : ℕ) (b : List ℕ) → first ≤ version → slice_get (commits ++ bytes ∷ []) version ≡ Some b → HoldsVersion after version b
  holds version b from at =
      ⊎_elim
      (λ (before : (version < length commits) × (slice_get commits version ≡ Some b)).
      let was = h.holds version b from before.1 in
      record { path = was.path; is = was.is; there = get-insert_other old.files path bytes was.path (other_path version was.path before.0 was.is) ∙ was.there })
      (λ (last : (version ≡ length commits) × (bytes ≡ b)). subst (λ (v : ℕ). HoldsVersion after v b) (sym last.0) (subst (λ (x : List ℕ). HoldsVersion after (length commits) x) last.1 here))
      (at_end commits bytes b version at)

  only : (version : ℕ) → HasVersion after version → (first ≤ version) × (version < length (commits ++ bytes ∷ []))
  only version has =
      ⊎_elim
      (λ (same : version ≡ length commits).
      ⊎_elim (λ (none : (first ≡ 0) × (length commits ≡ 0)). let zero_first = none.0 in (omega (arith, zero_first), omega (arith, same, grown))) (λ (less : first < length commits). (omega (arith, less, same), omega (arith, same, grown))) h.newest)
      (λ (other : version ≢ length commits).
      let off : has.1.path ≢ path = λ e. other (one_path path version (length commits) (subst (λ (q : List ℕ). IsVersionPath q version) e has.1.is) is) in
      let was = h.only version (has.0, record { path = has.1.path; is = has.1.is; there = sym (get-insert_other old.files path bytes has.1.path off) ∙ has.1.there }) in
      let from = was.0 in
      let less = was.1 in
      (from, omega (arith, less, grown)))
      (same_or version (length commits))
    where
      same_or : (a b : ℕ) → (a ≡ b) ⊎ (a ≢ b)
      same_or a b = ⊎_elim (λ less. inr (λ e. omega (arith, less, e))) (λ le. ⊎_elim (λ more. inr (λ e. omega (arith, more, e))) (λ ge. inl (omega (arith, le, ge))) (cases_lt b a)) (cases_lt a b)

  grown_alone : HasVersionsAlone after
  grown_alone p within there =
      ⊎_elim
      (λ (here : p ≡ path). (length commits, subst (λ (q : List ℕ). IsVersionPath q (length commits)) (sym here) is))
      (λ (off : p ≢ path). h.alone p within (subst (λ (o : Option (List ℕ)). IsSome o) (get-insert_other old.files path bytes p off) there))
      (path_cases p path)

  pub one_commit_more : HoldsCommits (commits ++ bytes ∷ []) first new
  one_commit_more = subst (HoldsCommits (commits ++ bytes ∷ []) first) (sym becomes) (record {
    newest = ⊎_elim (λ (none : (first ≡ 0) × (length commits ≡ 0)). let zero_first = none.0 in inr (omega (arith, zero_first, grown))) (λ (less : first < length commits). inr (omega (arith, less, grown))) h.newest;
    holds = holds;
    only = only;
    alone = grown_alone;
    clean = λ p within. clean-synced (written old path bytes) p;
  })

-- the other folders keep their files, and no path is dirty
pub extended_elsewhere : (old new : Disk) (path bytes : List ℕ) (p : List ℕ) → new ≡ synced (written old path bytes) → p ≢ path → map.get new.files p ≡ map.get old.files p
extended_elsewhere old new path bytes p becomes off = ap (λ (d : Disk). map.get d.files p) becomes ∙ get-insert_other old.files path bytes p off

pub extended_clean : (old new : Disk) (path bytes : List ℕ) (p : List ℕ) → new ≡ synced (written old path bytes) → IsClean new p
extended_clean old new path bytes p becomes = subst (λ (d : Disk). IsClean d p) (sym becomes) (clean-synced (written old path bytes) p)

-- ---- fewer versions

module _ (commits : List (List ℕ)) (first to : ℕ) (old new : Disk) (sheds : Sheds first to old new) (few : to < length commits) (h : HoldsCommits commits first old) where
  kept : (version : ℕ) (path : List ℕ) → to ≤ version → IsVersionPath path version → map.get new.files path ≡ map.get old.files path
  kept version path from is = sheds.others path (λ of.
      let one = one_path path of.0 version of.3 is in
      let below = of.2 in omega (arith, from, one, below))

  left : (version : ℕ) → HasVersion new.files version → (to ≤ version) × HasVersion old.files version
  left version has =
      ⊎_elim
      (λ (less : version < to). absurd (⊎_elim
      (λ (low : version < first). let was = h.only version (
        has.0,
        record {
          path = has.1.path;
          is = has.1.is;
          there = sym (sheds.others has.1.path (λ of.
              let one = one_path has.1.path of.0 version of.3 has.1.is in let from = of.1 in omega (arith, low, one, from))) ∙ has.1.there;
        },
      ) in let from = was.0 in omega (arith, low, from))
      (λ (from : first ≤ version). none-some has.0 (sym (sheds.gone has.1.path (version, from, less, has.1.is)) ∙ has.1.there))
      (cases_lt version first)))
      (λ (from : to ≤ version). (from, (has.0, record { path = has.1.path; is = has.1.is; there = sym (kept version has.1.path from has.1.is) ∙ has.1.there })))
      (cases_lt version to)

  -- a file that is there was there
  was_there : (path : List ℕ) → IsSome (map.get new.files path) → (o : Option (List ℕ)) → map.get old.files path ≡ o → IsSome o
  was_there path there (Some bytes) is = refl
  was_there path there None is =
      absurd (none_there (map.get new.files path) (sheds.others path (λ of. none_there (map.get new.files path) (sheds.gone path of) there) ∙ is) there)

  left_alone : HasVersionsAlone new.files
  left_alone path within there = h.alone path within (was_there path there (map.get old.files path) refl)

  pub fewer_commits : HoldsCommits commits (max first to) new
  fewer_commits = record {
    newest = ⊎_elim (λ (none : (first ≡ 0) × (length commits ≡ 0)). let no = none.1 in absurd (omega (arith, no, few))) (λ (less : first < length commits). inr (omega (arith, less, few))) h.newest;
    holds = λ version bytes from at.
        let was = h.holds version bytes (omega (arith, from)) at in
        record { path = was.path; is = was.is; there = kept version was.path (omega (arith, from)) was.is ∙ was.there };
    only = λ version has.
        let here = left version has in
        let from = here.0 in
        let was = h.only version here.1 in
        let low = was.0 in
        (omega (arith, from, low), was.1);
    alone = left_alone;
    clean = λ path within. sheds.clean path (h.clean path within);
  }

-- ---- sheds, one version after another

pub sheds_none : (from : ℕ) (disk : Disk) → Sheds from from disk disk
sheds_none from disk = record {
  gone = λ path of. let low = of.1 in let high = of.2 in absurd (omega (arith, low, high));
  others = λ path not. refl;
  clean = λ path is. is;
}

pub sheds_more : (from version : ℕ) (old mid new : Disk) (p : List ℕ) → from ≤ version → Sheds from version old mid → IsVersionPath p version → new ≡ removed mid p → Sheds from (version + 1) old new
sheds_more from version old mid new p low so_far is becomes = record {
  gone = λ path of. at path ∙ ⊎_elim
      (λ (here : path ≡ p). ap (map.get (map.remove mid.files p)) here ∙ get-remove_here mid.files p)
      (λ (off : path ≢ p).
      let below = of.2 in
      ⊎_elim
      (λ (less : of.0 < version). get-remove_other mid.files p path off ∙ so_far.gone path (of.0, of.1, less, of.3))
      (λ (last : version ≤ of.0).
      let same : of.0 ≡ version = omega (arith, last, below) in
      absurd (off (path_once version path p (subst (IsVersionPath path) same of.3) is)))
      (cases_lt of.0 version))
      (path_cases path p);
  others = λ path not.
      let off : path ≢ p = λ e. not (version, low, omega arith, subst (λ (q : List ℕ). IsVersionPath q version) (sym e) is) in
      at path ∙ get-remove_other mid.files p path off ∙ so_far.others path (λ of. let less = of.2 in not (of.0, of.1, omega (arith, less), of.3));
  clean = λ path was.
      let before = so_far.clean path was in
      subst (λ (d : Disk). IsClean d path) (sym becomes)
      (⊎_elim
      (λ (here : path ≡ p). ap (set.contains (set.remove mid.dirty p)) here ∙ contains-remove_here mid.dirty p)
      (λ (off : path ≢ p). contains-remove_other mid.dirty p path off ∙ before)
      (path_cases path p));
}
  where
    at : (path : List ℕ) → map.get new.files path ≡ map.get (map.remove mid.files p) path
    at path = ap (λ (d : Disk). map.get d.files path) becomes

-- paths that aren't the log's stay
pub shed_elsewhere : (from to : ℕ) (old new : Disk) (p : List ℕ) → Sheds from to old new → (IsIn log_folder p → ⊥) → map.get new.files p ≡ map.get old.files p
shed_elsewhere from to old new p sheds out = sheds.others p (λ of. out (version_in p of.0 of.3))

-- of no version none is gone
pub sheds_fewer : (from to : ℕ) (old new : Disk) → to ≤ from → Sheds from from old new → Sheds from to old new
sheds_fewer from to old new le sheds = record {
  gone = λ path of. let low = of.1 in let high = of.2 in absurd (omega (arith, low, high, le));
  others = λ path not. sheds.others path (λ of. let low = of.1 in let high = of.2 in omega (arith, low, high));
  clean = sheds.clean;
}
