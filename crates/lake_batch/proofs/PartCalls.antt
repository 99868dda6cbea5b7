-- What one call in a part leaves beside it.
use Rattle.std.proofs.Common.{◌≡◌, ◌⊎◌, ℕ, List}
use Rattle.std.specs.Prelude.{Result, IsErrOf, OnErr, OnOk}
use Rattle.lake_store.specs.Disk.{Disk, Files, IsPartlySynced, Moves, SameElsewhere, removed, stored, synced, written}
use Rattle.lake_store.specs.Moments.{Elapses}
use Rattle.lake_store.specs.Runs.{Keeps, KeepsImage}
use Rattle.lake_store.specs.declared.store.Store.{Ghosts}
use Rattle.lake_store.specs.declared.store.StoreError.{StoreError}
use Rattle.lake_store.specs.declared.store.StoreError.TheVariants.{Taken}
use Rattle.lake_store.proofs.RunLaws.{IsRun, NowOnly, alone_by_reading, alone_by_run, begins, keeps_crash, keeps_elsewhere, keeps_first, keeps_moved, keeps_removed, keeps_stored, keeps_sync, publishes, reading_begins, reading_steps, removes, syncs, writes}
use Rattle.lake_batch.specs.Part.{IsBeside, StaysBeside, path_in}

module _ {S : Type 0} (store : Ghosts S) (only_now : NowOnly store) (folder : List ℕ) where
  -- no call was made
  pub beside_still : (s : S) → StaysBeside store folder s s
  beside_still s told = alone_by_reading store (IsBeside folder) s s (reading_begins store only_now s told)

  module _ (old new : S) (call : store.tells → Elapses store.disk store.time store.left_since old new) where
    abbrev disk_keeps : Disk → Type 0
    disk_keeps = Keeps (IsBeside folder) (store.disk old)

    abbrev image_keeps : Files → Type 0
    image_keeps = KeepsImage (IsBeside folder) (store.disk old)

    first_run : store.tells → IsRun store disk_keeps image_keeps old old
    first_run = begins store only_now disk_keeps image_keeps (keeps_crash (IsBeside folder) (store.disk old)) old (λ told. keeps_first (IsBeside folder) (store.disk old))

    pub beside_read : (store.tells → store.disk new ≡ store.disk old) → StaysBeside store folder old new
    beside_read same told = alone_by_reading store (IsBeside folder) old new (reading_steps store old old new (reading_begins store only_now old) same call told)

    -- a path of the part isn't beside it
    not_beside : (whole p : List ℕ) → whole ≡ path_in folder p → IsBeside folder whole → ⊥
    not_beside whole p is beside = beside p is

    module _ {T : Type 0} (r : Result T StoreError) where
      pub beside_write : (whole p b : List ℕ) → whole ≡ path_in folder p → (store.tells → OnOk r (store.disk new ≡ written (store.disk old) whole b)) → (store.tells → OnErr r (SameElsewhere whole (store.disk old) (store.disk new))) → StaysBeside store folder old new
      beside_write whole p b is ok err told = alone_by_run store (IsBeside folder) old new
          (writes store only_now disk_keeps image_keeps (keeps_crash (IsBeside folder) (store.disk old)) old old new first_run call r whole b ok err
          (keeps_elsewhere (IsBeside folder) (store.disk old) whole (not_beside whole p is)) told)

      pub beside_sync : (store.tells → OnOk r (store.disk new ≡ synced (store.disk old))) → (store.tells → OnErr r (IsPartlySynced (store.disk old) (store.disk new))) → StaysBeside store folder old new
      beside_sync ok err told = alone_by_run store (IsBeside folder) old new
          (syncs store only_now disk_keeps image_keeps (keeps_crash (IsBeside folder) (store.disk old)) old old new first_run call r ok err
          (keeps_sync (IsBeside folder) (store.disk old)) told)

      pub beside_remove : (whole p : List ℕ) → whole ≡ path_in folder p → (store.tells → OnOk r (store.disk new ≡ removed (store.disk old) whole)) → (store.tells → OnErr r ((store.disk new ≡ store.disk old) ⊎ (store.disk new ≡ removed (store.disk old) whole))) → StaysBeside store folder old new
      beside_remove whole p is ok err told = alone_by_run store (IsBeside folder) old new
          (removes store only_now disk_keeps image_keeps (keeps_crash (IsBeside folder) (store.disk old)) old old new first_run call r whole ok err
          (keeps_removed (IsBeside folder) (store.disk old) whole (not_beside whole p is)) told)

      pub beside_publish : (whole_from from whole_to to : List ℕ) → whole_from ≡ path_in folder from → whole_to ≡ path_in folder to
          → (store.tells → OnOk r (Moves whole_from whole_to (store.disk old) (store.disk new)))
          → (store.tells → IsErrOf r Taken → (b : List ℕ) × (store.disk new ≡ stored (store.disk old) whole_to b))
          → (store.tells → OnErr r ((IsErrOf r Taken → ⊥) → (store.disk new ≡ store.disk old) ⊎ Moves whole_from whole_to (store.disk old) (store.disk new))) → StaysBeside store folder old new
      beside_publish whole_from from whole_to to from_is to_is ok taken err told = alone_by_run store (IsBeside folder) old new
          (publishes store only_now disk_keeps image_keeps (keeps_crash (IsBeside folder) (store.disk old)) old old new first_run call r whole_from whole_to ok taken err
          (λ t kept b is. keeps_moved (IsBeside folder) (store.disk old) whole_from whole_to b (not_beside whole_from from from_is) (not_beside whole_to to to_is) (store.disk old) kept)
          (λ t kept b is. keeps_stored (IsBeside folder) (store.disk old) whole_to b (not_beside whole_to to to_is) (store.disk old) kept) told)
