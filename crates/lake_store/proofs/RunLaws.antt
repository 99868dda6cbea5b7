-- How a run of store calls goes on under a fact of the disk, a line for each call. For the crates above too: `g.S.Store` is the store, and `g.met.S.Store.only_now` the law.
use Rattle.std.proofs.Common.{◌≡◌, ◌≢◌, ◌⊎◌, inl, inr, ⊎_elim, ℕ, List, refl, sym, ◌∙◌, ap, subst}
use Rattle.std.specs.Prelude.{Result, IsErrOf, OnErr, OnOk, Some}
use Rattle.std.specs.FinMap as map
use Rattle.lake_store.specs.Disk.{Disk, Files, IsClean, IsPartlySynced, MayLeave, Moves, SameElsewhere, moved, removed, stored, synced, written}
use Rattle.lake_store.specs.Moments.{Elapses}
use Rattle.lake_store.specs.Runs.{IsEachMoment, Keeps, KeepsImage, LeavesAlone, OnlyReads}
use Rattle.lake_store.specs.declared.store.Store.{Ghosts}
use Rattle.lake_store.specs.declared.store.StoreError.{StoreError}
use Rattle.lake_store.specs.declared.store.StoreError.TheVariants.{Taken}
use Rattle.lake_store.proofs.DiskLaws.{get-insert_other, get-remove_other, contains-remove_other, publish_leaves, remove_leaves, removed_elsewhere, stored_elsewhere, sync_leaves, write_leaves}
use Rattle.lake_store.proofs.MomentLaws.{goes_further, goes_on, started, weaker}

-- After a run the disk has I, and a crash at any moment since its start leaves files that have P.
pub record IsRun {S : Type 0} (store : Ghosts S) (I : Disk → Type 0) (P : Files → Type 0) (old new : S) : Type 0 where
  pub disk : I (store.disk new)
  pub moments : IsEachMoment store old new P

-- what holds of the moments of a store now
abbrev pub NowOnly : {S : Type 0} → Ghosts S → Type 0
NowOnly {S} store = (s : S) (image : Files) → store.tells → store.left_since s (store.time s) image → MayLeave (store.disk s) image

module _ {S : Type 0} (store : Ghosts S) (only_now : NowOnly store) (I : Disk → Type 0) (P : Files → Type 0) (crash : (d : Disk) (image : Files) → I d → MayLeave d image → P image) where
  -- before the first call
  pub begins : (s : S) → (store.tells → I (store.disk s)) → store.tells → IsRun store I P s s
  begins s here told = record { disk = here told; moments = started store only_now s P (λ t image may. crash (store.disk s) image (here t) may) told }

  -- one call more
  pub steps : (old mid new : S) → (store.tells → IsRun store I P old mid) → (store.tells → Elapses store.disk store.time store.left_since mid new) → (store.tells → I (store.disk mid) → I (store.disk new)) → store.tells → IsRun store I P old new
  steps old mid new so_far call kept told = record {
    disk = kept told (so_far told).disk;
    moments = goes_on store old mid new P (λ t. (so_far t).moments) call (λ t image may. crash (store.disk new) image (kept t (so_far t).disk) may) told;
  }

  module _ (old mid new : S) (so_far : store.tells → IsRun store I P old mid) (call : store.tells → Elapses store.disk store.time store.left_since mid new) where
    -- `list`, `read` and `read_part`
    pub reads : (store.tells → store.disk new ≡ store.disk mid) → store.tells → IsRun store I P old new
    reads same = steps old mid new so_far call (λ told i. subst I (sym (same told)) i)

    module _ {T : Type 0} (r : Result T StoreError) where
      pub writes : (p b : List ℕ) → (store.tells → OnOk r (store.disk new ≡ written (store.disk mid) p b)) → (store.tells → OnErr r (SameElsewhere p (store.disk mid) (store.disk new)))
          → ((d e : Disk) → I d → SameElsewhere p d e → I e) → store.tells → IsRun store I P old new
      writes p b ok err kept = steps old mid new so_far call (λ told i. kept (store.disk mid) (store.disk new) i (write_leaves r (store.disk mid) (store.disk new) p b (ok told) (err told)))

      pub syncs : (store.tells → OnOk r (store.disk new ≡ synced (store.disk mid))) → (store.tells → OnErr r (IsPartlySynced (store.disk mid) (store.disk new)))
          → ((d e : Disk) → I d → IsPartlySynced d e → I e) → store.tells → IsRun store I P old new
      syncs ok err kept = steps old mid new so_far call (λ told i. kept (store.disk mid) (store.disk new) i (sync_leaves r (store.disk mid) (store.disk new) (ok told) (err told)))

      pub removes : (p : List ℕ) → (store.tells → OnOk r (store.disk new ≡ removed (store.disk mid) p)) → (store.tells → OnErr r ((store.disk new ≡ store.disk mid) ⊎ (store.disk new ≡ removed (store.disk mid) p)))
          → ((d : Disk) → I d → I (removed d p)) → store.tells → IsRun store I P old new
      removes p ok err kept = steps old mid new so_far call (λ told i. ⊎_elim (λ same. subst I (sym same) i) (λ gone. subst I (sym gone) (kept (store.disk mid) i)) (remove_leaves r (store.disk mid) (store.disk new) p (ok told) (err told)))

      pub publishes : (from to : List ℕ) → (store.tells → OnOk r (Moves from to (store.disk mid) (store.disk new))) → (store.tells → IsErrOf r Taken → (b : List ℕ) × (store.disk new ≡ stored (store.disk mid) to b))
          → (store.tells → OnErr r ((IsErrOf r Taken → ⊥) → (store.disk new ≡ store.disk mid) ⊎ Moves from to (store.disk mid) (store.disk new)))
          → (store.tells → I (store.disk mid) → (b : List ℕ) → map.get (store.disk mid).files from ≡ Some b → I (moved (store.disk mid) from to b))
          → (store.tells → I (store.disk mid) → (b : List ℕ) → IsErrOf r Taken → I (stored (store.disk mid) to b)) → store.tells → IsRun store I P old new
      publishes from to ok taken err at_move at_contest = steps old mid new so_far call (λ told i. ⊎_elim
          (λ same. subst I (sym same) i)
          (λ others. ⊎_elim
          (λ (moves : Moves from to (store.disk mid) (store.disk new)). subst I (sym moves.2) (at_move told i moves.0 moves.1))
          (λ (contest : IsErrOf r Taken × ((b : List ℕ) × (store.disk new ≡ stored (store.disk mid) to b))). subst I (sym contest.1.1) (at_contest told i contest.1.0 contest.0)) others)
          (publish_three told))
        where
          regroup : {A B C : Type 0} → A ⊎ B ⊎ C → A ⊎ (B ⊎ C)
          regroup (inl a) = inl a
          regroup (inr (inl b)) = inr (inl b)
          regroup (inr (inr c)) = inr (inr c)

          publish_three : store.tells → (store.disk new ≡ store.disk mid) ⊎ (Moves from to (store.disk mid) (store.disk new) ⊎ (IsErrOf r Taken × ((b : List ℕ) × (store.disk new ≡ stored (store.disk mid) to b))))
          publish_three told = regroup (publish_leaves r (store.disk mid) (store.disk new) from to (ok told) (taken told) (err told))

-- paths that stay, from one disk to the next
module _ (Kept : List ℕ → Type 0) (first : Disk) where
  pub keeps_first : Keeps Kept first first
  keeps_first = record { files = λ q k. refl; clean = λ q k c. c }

  pub keeps_crash : (d : Disk) (image : Files) → Keeps Kept first d → MayLeave d image → KeepsImage Kept first image
  keeps_crash d image kept may q k c = may q (kept.clean q k c) ∙ kept.files q k

  pub keeps_elsewhere : (p : List ℕ) → (Kept p → ⊥) → (d e : Disk) → Keeps Kept first d → SameElsewhere p d e → Keeps Kept first e
  keeps_elsewhere p own d e kept same =
      let apart : (q : List ℕ) → Kept q → q ≢ p = λ q k is. own (subst Kept is k) in
      record { files = λ q k. same.files q (apart q k) ∙ kept.files q k; clean = λ q k c. same.dirty q (apart q k) ∙ kept.clean q k c }

  pub keeps_sync : (d e : Disk) → Keeps Kept first d → IsPartlySynced d e → Keeps Kept first e
  keeps_sync d e kept part = record { files = λ q k. ap (λ (m : Files). map.get m q) part.files ∙ kept.files q k; clean = λ q k c. part.clean q (kept.clean q k c) }

  pub keeps_removed : (p : List ℕ) → (Kept p → ⊥) → (d : Disk) → Keeps Kept first d → Keeps Kept first (removed d p)
  keeps_removed p own d kept = keeps_elsewhere p own d (removed d p) kept (removed_elsewhere d p)

  pub keeps_stored : (p b : List ℕ) → (Kept p → ⊥) → (d : Disk) → Keeps Kept first d → Keeps Kept first (stored d p b)
  keeps_stored p b own d kept = keeps_elsewhere p own d (stored d p b) kept (stored_elsewhere d p b)

  pub keeps_moved : (from to b : List ℕ) → (Kept from → ⊥) → (Kept to → ⊥) → (d : Disk) → Keeps Kept first d → Keeps Kept first (moved d from to b)
  keeps_moved from to b own_from own_to d kept =
      let off : (q p : List ℕ) → (Kept p → ⊥) → Kept q → q ≢ p = λ q p own k is. own (subst Kept is k) in
      record {
        files = λ q k. get-insert_other (map.remove d.files from) to b q (off q to own_to k) ∙ get-remove_other d.files from q (off q from own_from k) ∙ kept.files q k;
        clean = λ q k c. contains-remove_other d.dirty to q (off q to own_to k) ∙ kept.clean q k c;
      }

module _ {S : Type 0} (store : Ghosts S) where
  -- a run under `Keeps` leaves the paths alone
  pub alone_by_run : (Kept : List ℕ → Type 0) (old new : S) → IsRun store (Keeps Kept (store.disk old)) (KeepsImage Kept (store.disk old)) old new → LeavesAlone store Kept old new
  alone_by_run Kept old new run = record { disk = run.disk; moments = run.moments }

  -- two runs in a row
  pub alone_further : (Kept : List ℕ → Type 0) (old mid new : S) → (store.tells → LeavesAlone store Kept old mid) → (store.tells → LeavesAlone store Kept mid new) → store.tells → LeavesAlone store Kept old new
  alone_further Kept old mid new one two told = record {
    disk = record {
      files = λ q k. (two told).disk.files q k ∙ (one told).disk.files q k;
      clean = λ q k c. (two told).disk.clean q k ((one told).disk.clean q k c);
    };
    moments = goes_further store old mid new (KeepsImage Kept (store.disk old)) (λ t. (one t).moments)
        (weaker store mid new (KeepsImage Kept (store.disk mid)) (KeepsImage Kept (store.disk old)) (λ image kept q k c. kept q k ((one told).disk.clean q k c) ∙ (one told).disk.files q k) (λ t. (two t).moments)) told;
  }

  -- fewer paths
  pub alone_of_fewer : (Kept Fewer : List ℕ → Type 0) (old new : S) → ((path : List ℕ) → Fewer path → Kept path) → LeavesAlone store Kept old new → LeavesAlone store Fewer old new
  alone_of_fewer Kept Fewer old new fewer run = record {
    disk = record { files = λ q k. run.disk.files q (fewer q k); clean = λ q k c. run.disk.clean q (fewer q k) c };
    moments = record {
      later = run.moments.later;
      each = λ image left q k c. run.moments.each image left q (fewer q k) c;
      before = λ t image le left. ⊎_elim inl (λ kept. inr (λ q k c. kept q (fewer q k) c)) (run.moments.before t image le left);
    };
  }

  -- what only reads leaves all paths alone
  pub alone_by_reading : (Kept : List ℕ → Type 0) (old new : S) → OnlyReads store old new → LeavesAlone store Kept old new
  alone_by_reading Kept old new only = record {
    disk = record { files = λ q k. ap (λ (d : Disk). map.get d.files q) only.disk; clean = λ q k c. subst (λ d. IsClean d q) (sym only.disk) c };
    moments = record {
      later = only.moments.later;
      each = λ image left q k c. only.moments.each image left q c;
      before = λ t image le left. ⊎_elim inl (λ may. inr (λ q k c. may q c)) (only.moments.before t image le left);
    };
  }

  -- what only reads, a call or a run more
  module _ (only_now : NowOnly store) where
    pub reading_begins : (s : S) → store.tells → OnlyReads store s s
    reading_begins s told = record { disk = refl; moments = started store only_now s (MayLeave (store.disk s)) (λ t image may. may) told }

  pub reading_steps : (old mid new : S) → (store.tells → OnlyReads store old mid) → (store.tells → store.disk new ≡ store.disk mid) → (store.tells → Elapses store.disk store.time store.left_since mid new) → store.tells → OnlyReads store old new
  reading_steps old mid new so_far same call told =
      let all : store.tells → store.disk new ≡ store.disk old = λ t. same t ∙ (so_far t).disk in
      record { disk = all told; moments = goes_on store old mid new (MayLeave (store.disk old)) (λ t. (so_far t).moments) call (λ t image may. subst (λ d. MayLeave d image) (all t) may) told }

  pub reading_further : (old mid new : S) → (store.tells → OnlyReads store old mid) → (store.tells → OnlyReads store mid new) → store.tells → OnlyReads store old new
  reading_further old mid new one two told = record {
    disk = (two told).disk ∙ (one told).disk;
    moments = goes_further store old mid new (MayLeave (store.disk old)) (λ t. (one t).moments)
        (weaker store mid new (MayLeave (store.disk mid)) (MayLeave (store.disk old)) (λ image may. subst (λ d. MayLeave d image) (one told).disk may) (λ t. (two t).moments)) told;
  }
