-- How a run goes on in which the timeline reads as it did.
use Rattle.std.proofs.Common.{◌≡◌, ◌⊎◌, ⊎_elim, ℕ, List, sym, subst}
use Rattle.std.specs.Prelude.{Result, OnErr, OnOk}
use Rattle.lake_store.specs.Disk.{Files, IsPartlySynced, SameElsewhere, removed, synced, written}
use Rattle.lake_store.specs.Moments.{Elapses}
use Rattle.lake_store.specs.declared.store.Store.{Ghosts}
use Rattle.lake_store.specs.declared.store.StoreError.{StoreError}
use Rattle.lake_store.proofs.DiskLaws.{remove_leaves, sync_leaves, write_leaves}
use Rattle.lake_store.proofs.MomentLaws.{goes_further, goes_on, started}
use Rattle.lake_store.proofs.RunLaws.{NowOnly}
use Rattle.hudi_commit.specs.Runs.{StaysAlike}
use Rattle.hudi_commit.specs.Settled.{Stands, StandsAt}
use Rattle.hudi_commit.proofs.StepLaws.{crash_stands, sync_stands}

module _ {S : Type 0} (store : Ghosts S) (told : store.tells) (base : Files) where
  -- before the first call
  pub begun : NowOnly store → (s : S) → Stands base (store.disk s) → StaysAlike store base s s
  begun only_now s stands = record {
    disk = stands;
    moments = started store only_now s (StandsAt base) (λ t image may. crash_stands base (store.disk s) image stands may) told;
  }

  -- one call more
  pub keeps_on : (old mid new : S) → StaysAlike store base old mid → Elapses store.disk store.time store.left_since mid new → Stands base (store.disk new) → StaysAlike store base old new
  keeps_on old mid new so_far elapses stands = record {
    disk = stands;
    moments = goes_on store old mid new (StandsAt base) (λ t. so_far.moments) (λ t. elapses) (λ t image may. crash_stands base (store.disk new) image stands may) told;
  }

  -- a run more
  pub keeps_then : (old mid new : S) → StaysAlike store base old mid → StaysAlike store base mid new → StaysAlike store base old new
  keeps_then old mid new so_far more = record {
    disk = more.disk;
    moments = goes_further store old mid new (StandsAt base) (λ t. so_far.moments) (λ t. more.moments) told;
  }

  -- the next call is one that reads
  pub read_keeps : (old mid new : S) → StaysAlike store base old mid → store.disk new ≡ store.disk mid → Elapses store.disk store.time store.left_since mid new → StaysAlike store base old new
  read_keeps old mid new so_far same elapses = keeps_on old mid new so_far elapses (subst (Stands base) (sym same) so_far.disk)

  pub remove_keeps : (old mid new : S) → StaysAlike store base old mid → (p : List ℕ) → Stands base (removed (store.disk mid) p) → {T : Type 0} (r : Result T StoreError)
      → (store.tells → OnOk r (store.disk new ≡ removed (store.disk mid) p)) → (store.tells → OnErr r ((store.disk new ≡ store.disk mid) ⊎ (store.disk new ≡ removed (store.disk mid) p)))
      → (store.tells → Elapses store.disk store.time store.left_since mid new) → StaysAlike store base old new
  remove_keeps old mid new so_far p stands r ok err elapses = keeps_on old mid new so_far (elapses told) (⊎_elim
      (λ same. subst (Stands base) (sym same) so_far.disk)
      (λ gone. subst (Stands base) (sym gone) stands)
      (remove_leaves r (store.disk mid) (store.disk new) p (ok told) (err told)))

  pub sync_keeps : (old mid new : S) → StaysAlike store base old mid → {T : Type 0} (r : Result T StoreError)
      → (store.tells → OnOk r (store.disk new ≡ synced (store.disk mid))) → (store.tells → OnErr r (IsPartlySynced (store.disk mid) (store.disk new)))
      → (store.tells → Elapses store.disk store.time store.left_since mid new) → StaysAlike store base old new
  sync_keeps old mid new so_far r ok err elapses = keeps_on old mid new so_far (elapses told)
      (sync_stands base (store.disk mid) (store.disk new) so_far.disk (sync_leaves r (store.disk mid) (store.disk new) (ok told) (err told)))

  pub write_keeps : (old mid new : S) → StaysAlike store base old mid → (p b : List ℕ) → {T : Type 0} (r : Result T StoreError)
      → (SameElsewhere p (store.disk mid) (store.disk new) → Stands base (store.disk new))
      → (store.tells → OnOk r (store.disk new ≡ written (store.disk mid) p b)) → (store.tells → OnErr r (SameElsewhere p (store.disk mid) (store.disk new)))
      → (store.tells → Elapses store.disk store.time store.left_since mid new) → StaysAlike store base old new
  write_keeps old mid new so_far p b r stands ok err elapses = keeps_on old mid new so_far (elapses told)
      (stands (write_leaves r (store.disk mid) (store.disk new) p b (ok told) (err told)))

  -- the same, of a path that is known by another term
  pub write_keeps_at : (old mid new : S) → StaysAlike store base old mid → (q p b : List ℕ) → q ≡ p → {T : Type 0} (r : Result T StoreError)
      → (SameElsewhere p (store.disk mid) (store.disk new) → Stands base (store.disk new))
      → (store.tells → OnOk r (store.disk new ≡ written (store.disk mid) q b)) → (store.tells → OnErr r (SameElsewhere q (store.disk mid) (store.disk new)))
      → (store.tells → Elapses store.disk store.time store.left_since mid new) → StaysAlike store base old new
  write_keeps_at old mid new so_far q p b at r stands = write_keeps old mid new so_far q b r (λ same. stands (subst (λ x. SameElsewhere x (store.disk mid) (store.disk new)) at same))

  pub wrote : (mid new : S) (q p b : List ℕ) → q ≡ p → {T : Type 0} (r : Result T StoreError)
      → (store.tells → OnOk r (store.disk new ≡ written (store.disk mid) q b)) → (store.tells → OnErr r (SameElsewhere q (store.disk mid) (store.disk new))) → SameElsewhere p (store.disk mid) (store.disk new)
  wrote mid new q p b at r ok err = subst (λ x. SameElsewhere x (store.disk mid) (store.disk new)) at (write_leaves r (store.disk mid) (store.disk new) q b (ok told) (err told))
