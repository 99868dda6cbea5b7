-- What a target reads as while its leftovers are removed.
use Rattle.std.proofs.Common.{◌≡◌, ◌⊎◌, ⊎_elim, ℕ, zero, suc, ◌<◌, ◌≤◌, List, [], ◌∷◌, ◌++◌, length, take, drop, get_or, Contains, sym, ap, subst, ◌∙◌, drop-cons, arith}
use Rattle.std.proofs.Math.Seq.{take-suc}
use Rattle.std.proofs.lemmas.List.Elements.{Contains-append_left}
use Rattle.std.proofs.lemmas.List.{take-append-drop}
use Rattle.std.specs.FinMap as map
use Rattle.lake_store.specs.Disk.{Disk, Files, MayLeave}
use Rattle.lake_store.specs.Runs.{IsEachMoment, LeavesAlone, OnlyReads}
use Rattle.lake_store.specs.declared.store.Store.{Ghosts}
use Rattle.lake_store.proofs.MomentLaws.{weaker}
use Rattle.lake_store.proofs.RunLaws.{alone_by_reading}
use Rattle.table_history.specs.declared.kind.Kind.{Kind}
use Rattle.table_history.specs.declared.table.Change.{Change}
use Rattle.target_core.specs.Folders.{MayLeaveIn, SameIn, folder_of}
use Rattle.target_core.specs.Meaning.{Meaning}
use Rattle.target_core.specs.Step.{IsBefore}
use Rattle.target_core.specs.Views.{Standing, View}
use Rattle.target_leftovers.specs.Leftovers.{IsLeftover}
use Rattle.target_leftovers.specs.Loose.{ReadsWithoutLoose}
use Rattle.lake_sweep.specs.Plan.{IsPlan}
use Rattle.lake_sweep.specs.Removing.{AreGone, AreSomeGone, IsSwept, IsUnderWay, Removes, Sweeps}
use Rattle.lake_sweep.proofs.Lists.{in_list}
use Rattle.lake_sweep.proofs.LooseLaws.{loose_now, none_left}
use Rattle.lake_sweep.proofs.RemovingLaws.{gone_more, gone_none}

-- what a target reads as, and what its commits carry, depends on its folder alone
pub record IsOwn (target : Meaning) : Type 0 where
  pub reads : (a b : Files) (v : View) → SameIn (folder_of target.kind) a b → target.reads a v → target.reads b v
  pub carries : (a b : Files) (c : ℕ) (change : Change) (m : Standing) → SameIn (folder_of target.kind) a b → target.carries a c change m → target.carries b c change m

-- and a crash of a settled disk leaves both
pub record IsSafe (target : Meaning) : Type 0 where
  pub reads : (disk : Disk) (image : Files) (v : View) → target.settled disk → MayLeaveIn (folder_of target.kind) disk image → target.reads disk.files v → target.reads image v
  pub carries : (disk : Disk) (image : Files) (v : View) (c : ℕ) (change : Change) (m : Standing) → target.settled disk → MayLeaveIn (folder_of target.kind) disk image → target.reads disk.files v → c ≤ v.commits
      → target.carries disk.files c change m → target.carries image c change m

-- files where the same paths are gone are the same
gone_alike : (xs : List (List ℕ)) (before a b : Files) → AreGone xs before a → AreGone xs before b → (q : List ℕ) → map.get b q ≡ map.get a q
gone_alike xs before a b one other q = ⊎_elim (λ within. other.gone q within ∙ sym (one.gone q within)) (λ lacks. other.others q lacks ∙ sym (one.others q lacks)) (in_list xs q)

module _ (target : Meaning) (own : IsOwn target) (loose : ReadsWithoutLoose target) (files : Files) (paths : List (List ℕ)) (plan : IsPlan target.kind files paths) (view : View) (reads : target.reads files view) where
  -- from files to those that read the same
  on_to : (a b : Files) → IsBefore target view files a → IsBefore target view a b → IsBefore target view files b
  on_to a b one other = record { reads = other.reads; earlier = λ c change m le h. other.earlier c change m le (one.earlier c change m le h) }

  alike_to : (a b : Files) → ((q : List ℕ) → map.get b q ≡ map.get a q) → IsBefore target view files a → IsBefore target view files b
  alike_to a b same h = record {
    reads = own.reads a b view (λ q within. same q) h.reads;
    earlier = λ c change m le carried. own.carries a b c change m (λ q within. same q) (h.earlier c change m le carried);
  }

  -- the files without the first n of the paths
  at_count : (n : ℕ) → n ≤ length paths → (mid : Files) × AreGone (take n paths) files mid × IsBefore target view files mid
  at_count zero le = (files, gone_none files, record { reads = reads; earlier = λ c change m le h. h })
  at_count (suc n) le =
      let lt : n < length paths = omega (arith, le) in
      let so_far = at_count n (omega (arith, le)) in
      let p = get_or paths n [] in
      let split : paths ≡ take n paths ++ p ∷ drop (suc n) paths = sym (take-append-drop n paths) ∙ ap (λ (l : List (List ℕ)). take n paths ++ l) (drop-cons paths n [] lt) in
      let is_loose = loose_now target.kind files paths (take n paths) p (drop (suc n) paths) plan split so_far.0 so_far.1 in (
        map.remove so_far.0 p,
        subst (λ (l : List (List ℕ)). AreGone l files (map.remove so_far.0 p)) (sym (take-suc paths n [] lt)) (gone_more files (take n paths) p so_far.0 so_far.1),
        on_to so_far.0 (map.remove so_far.0 p) so_far.2 (loose so_far.0 view p so_far.2.reads is_loose),
      )

  pub some_gone_reads : (after : Files) → AreSomeGone paths files after → IsBefore target view files after
  some_gone_reads after h =
      let mid = at_count h.count h.within in
      alike_to mid.0 after (gone_alike (take h.count paths) files mid.0 after mid.1 h.gone) mid.2

crashed : (target : Meaning) → IsSafe target → (disk : Disk) (view : View) → target.settled disk → target.reads disk.files view → (image : Files) → MayLeave disk image → IsBefore target view disk.files image
crashed target safe disk view settled reads image may = record {
  reads = safe.reads disk image view settled (λ q within clean. may q clean) reads;
  earlier = λ c change m le h. safe.carries disk image view c change m settled (λ q within clean. may q clean) reads le h;
}

module _ {S : Type 0} (store : Ghosts S) (target : Meaning) (own : IsOwn target) (safe : IsSafe target) (loose : ReadsWithoutLoose target) (old new : S) (told : store.tells) (sweeps : Sweeps store target.kind old new) where
  abbrev before : Disk
  before = store.disk old

  pub reads_before : (view : View) → target.reads before.files view → IsBefore target view before.files (store.disk new).files
  reads_before view reads = ⊎_elim
      (λ (only : OnlyReads store old new). subst (λ (d : Disk). IsBefore target view before.files d.files) (sym only.disk) (record { reads = reads; earlier = λ c change m le h. h }))
      (λ (run : (paths : List (List ℕ)) × IsPlan target.kind before.files paths × Removes store paths old new). some_gone_reads target own loose before.files run.0 run.1 view reads (store.disk new).files run.2.files)
      sweeps

  pub moments_before : target.settled before → (view : View) → target.reads before.files view → IsEachMoment store old new (IsBefore target view before.files)
  moments_before settled view reads = ⊎_elim
      (λ (only : OnlyReads store old new). weaker store old new (MayLeave before) (IsBefore target view before.files) (λ image may. crashed target safe before view settled reads image may) (λ t. only.moments) told)
      (λ (run : (paths : List (List ℕ)) × IsPlan target.kind before.files paths × Removes store paths old new).
      weaker store old new (IsUnderWay run.0 before) (IsBefore target view before.files)
      (λ image under_way. ⊎_elim (λ may. crashed target safe before view settled reads image may) (λ some. some_gone_reads target own loose before.files run.0 run.1 view reads image some) under_way)
      (λ t. run.2.moments) told)
      sweeps

-- all but leftovers stays
module _ {S : Type 0} (store : Ghosts S) (kind : Kind) (old new : S) where
  abbrev Kept : List ℕ → Type 0
  Kept path = ¬ IsLeftover kind (store.disk old).files path

  module _ (paths : List (List ℕ)) (plan : IsPlan kind (store.disk old).files paths) where
    taken : (n : ℕ) (q : List ℕ) → Contains (take n paths) q → Contains paths q
    taken n q within = subst (λ (l : List (List ℕ)). Contains l q) (take-append-drop n paths) (Contains-append_left (take n paths) (drop n paths) q within)

    some_kept : (after : Files) → AreSomeGone paths (store.disk old).files after → (q : List ℕ) → Kept q → map.get after q ≡ map.get (store.disk old).files q
    some_kept after h q kept = h.gone.others q (λ within. kept ((plan.members q).0 (taken h.count q within)))

    removes_alone : store.tells → Removes store paths old new → LeavesAlone store Kept old new
    removes_alone told run = record {
      disk = record { files = λ q kept. some_kept (store.disk new).files run.files q kept; clean = λ q kept was. run.clean q was };
      moments = weaker store old new (IsUnderWay paths (store.disk old)) _
          (λ image under_way q kept clean. ⊎_elim (λ may. may q clean) (λ some. some_kept image some q kept) under_way) (λ t. run.moments) told;
    }

  pub sweeps_alone : store.tells → Sweeps store kind old new → LeavesAlone store Kept old new
  sweeps_alone told sweeps = ⊎_elim
      (λ (only : OnlyReads store old new). alone_by_reading store Kept old new only)
      (λ (run : (paths : List (List ℕ)) × IsPlan kind (store.disk old).files paths × Removes store paths old new). removes_alone run.0 run.1 told run.2)
      sweeps

-- ---- at the end

pub swept_after : {S : Type 0} (store : Ghosts S) (kind : Kind) (old mid new : S) (paths : List (List ℕ)) → OnlyReads store old mid → IsPlan kind (store.disk old).files paths → AreGone paths (store.disk mid).files (store.disk new).files
    → IsSwept kind (store.disk old).files (store.disk new).files paths
swept_after store kind old mid new paths only plan gone =
    let from_old : AreGone paths (store.disk old).files (store.disk new).files = subst (λ (d : Disk). AreGone paths d.files (store.disk new).files) only.disk gone in
    record { plan = plan; gone = from_old; none = none_left (store.disk old).files (store.disk new).files paths kind plan from_old }
