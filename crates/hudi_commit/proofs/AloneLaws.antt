-- How a run goes on that leaves paths alone, a line for each call.
use Rattle.std.proofs.Common.{◌≡◌, ◌⊎◌, ℕ, List}
use Rattle.std.specs.Prelude.{Result, IsErrOf, OnErr, OnOk}
use Rattle.lake_store.specs.Disk.{Disk, Files, IsPartlySynced, Moves, SameElsewhere, removed, stored, synced, written}
use Rattle.lake_store.specs.Moments.{Elapses}
use Rattle.lake_store.specs.Runs.{Keeps, KeepsImage, LeavesAlone}
use Rattle.lake_store.specs.declared.store.Store.{Ghosts}
use Rattle.lake_store.specs.declared.store.StoreError.{StoreError}
use Rattle.lake_store.specs.declared.store.StoreError.TheVariants.{Taken}
use Rattle.lake_store.proofs.RunLaws.{IsRun, NowOnly, alone_by_run, begins, keeps_crash, keeps_elsewhere, keeps_first, keeps_moved, keeps_removed, keeps_stored, keeps_sync, publishes, reads, removes, syncs, writes}

module _ {S : Type 0} (store : Ghosts S) (told : store.tells) (only_now : NowOnly store) (Kept : List ℕ → Type 0) where
  pub alone_begun : (s : S) → LeavesAlone store Kept s s
  alone_begun s = alone_by_run store Kept s s (begins store only_now (Keeps Kept (store.disk s)) (KeepsImage Kept (store.disk s)) (keeps_crash Kept (store.disk s)) s (λ _. keeps_first Kept (store.disk s)) told)

  module _ (old mid new : S) (so_far : LeavesAlone store Kept old mid) (call : store.tells → Elapses store.disk store.time store.left_since mid new) where
    abbrev I : Disk → Type 0
    I = Keeps Kept (store.disk old)

    abbrev P : Files → Type 0
    P = KeepsImage Kept (store.disk old)

    run : store.tells → IsRun store I P old mid
    run t = record { disk = so_far.disk; moments = so_far.moments }

    pub alone_read : (store.tells → store.disk new ≡ store.disk mid) → LeavesAlone store Kept old new
    alone_read same = alone_by_run store Kept old new (reads store only_now I P (keeps_crash Kept (store.disk old)) old mid new run call same told)

    module _ {T : Type 0} (r : Result T StoreError) where
      pub alone_write : (p b : List ℕ) → (Kept p → ⊥) → (store.tells → OnOk r (store.disk new ≡ written (store.disk mid) p b)) → (store.tells → OnErr r (SameElsewhere p (store.disk mid) (store.disk new))) → LeavesAlone store Kept old new
      alone_write p b own ok err = alone_by_run store Kept old new (writes store only_now I P (keeps_crash Kept (store.disk old)) old mid new run call r p b ok err (keeps_elsewhere Kept (store.disk old) p own) told)

      pub alone_sync : (store.tells → OnOk r (store.disk new ≡ synced (store.disk mid))) → (store.tells → OnErr r (IsPartlySynced (store.disk mid) (store.disk new))) → LeavesAlone store Kept old new
      alone_sync ok err = alone_by_run store Kept old new (syncs store only_now I P (keeps_crash Kept (store.disk old)) old mid new run call r ok err (keeps_sync Kept (store.disk old)) told)

      pub alone_remove : (p : List ℕ) → (Kept p → ⊥) → (store.tells → OnOk r (store.disk new ≡ removed (store.disk mid) p)) → (store.tells → OnErr r ((store.disk new ≡ store.disk mid) ⊎ (store.disk new ≡ removed (store.disk mid) p))) → LeavesAlone store Kept old new
      alone_remove p own ok err = alone_by_run store Kept old new (removes store only_now I P (keeps_crash Kept (store.disk old)) old mid new run call r p ok err (keeps_removed Kept (store.disk old) p own) told)

      pub alone_publish : (from to : List ℕ) → (Kept from → ⊥) → (Kept to → ⊥) → (store.tells → OnOk r (Moves from to (store.disk mid) (store.disk new))) → (store.tells → IsErrOf r Taken → (b : List ℕ) × (store.disk new ≡ stored (store.disk mid) to b))
          → (store.tells → OnErr r ((IsErrOf r Taken → ⊥) → (store.disk new ≡ store.disk mid) ⊎ Moves from to (store.disk mid) (store.disk new))) → LeavesAlone store Kept old new
      alone_publish from to own_from own_to ok taken err = alone_by_run store Kept old new (publishes store only_now I P (keeps_crash Kept (store.disk old)) old mid new run call r from to ok taken err
          (λ t i b is. keeps_moved Kept (store.disk old) from to b own_from own_to (store.disk mid) i) (λ t i b contest. keeps_stored Kept (store.disk old) to b own_to (store.disk mid) i) told)
