-- No call leaves a file that is longer than those before and what was to be written. For the crates above too.
use Rattle.std.proofs.Common.{◌≡◌, ◌≢◌, ◌⊎◌, inl, inr, ⊎_elim, ℕ, ◌≤◌, List, sym, ◌∙◌, ap, subst, arith}
use Rattle.std.specs.Prelude.{Some, Result, Ok, Err, IsErrOf, OnErr, OnOk, length}
use Rattle.std.specs.FinMap as map
use Rattle.std.proofs.lemmas.Option.{none-some}
use Rattle.lake_basics.specs.declared.limits.TheConstants.{MAX_FILE_BYTES}
use Rattle.lake_store.specs.Disk.{AddsShort, Disk, Files, IsPartlySynced, Moves, moved, removed, stored, synced, written}
use Rattle.lake_store.specs.Fuse.{counted, fuse_disk, inner_of, others_file}
use Rattle.lake_store.specs.Memory.{Memory, changed}
use Rattle.lake_store.specs.declared.fuse.FuseStore.{FuseStore}
use Rattle.lake_store.specs.declared.store.StoreError.{StoreError}
use Rattle.lake_store.specs.declared.store.StoreError.TheVariants.{Taken}
use Rattle.lake_store.proofs.DiskLaws.{get-insert_here, get-insert_other, get-remove_here, get-remove_other, path_cases, publish_leaves, remove_leaves, sync_leaves}

pub short_same : (most : ℕ) (old new : Files) → new ≡ old → AddsShort most old new
short_same most old new is path bytes there = inl (sym (ap (λ (m : Files). map.get m path) is) ∙ there)

pub short_then : (most : ℕ) (a b c : Files) → AddsShort most a b → AddsShort most b c → AddsShort most a c
short_then most a b c first second path bytes there = ⊎_elim (λ before. first path bytes before) (λ le. inr le) (second path bytes there)

pub short_wider : (few most : ℕ) (old new : Files) → few ≤ most → AddsShort few old new → AddsShort most old new
short_wider few most old new le short path bytes there = ⊎_elim (λ before. inl before) (λ at_most. inr (omega (arith, le, at_most))) (short path bytes there)

-- a file of these bytes is put at a path
inserted : (old : Files) (name bytes path other : List ℕ) → map.get (map.insert old name bytes) path ≡ Some other → (map.get old path ≡ Some other) ⊎ (other ≡ bytes)
inserted old name bytes path other there = ⊎_elim
    (λ (same : path ≡ name).
    let here : map.get (map.insert old name bytes) path ≡ Some bytes = ap (λ (p : List ℕ). map.get (map.insert old name bytes) p) same ∙ get-insert_here old name bytes in
    let both : Some other ≡ Some bytes = sym there ∙ here in
    inr (cc))
    (λ (apart : path ≢ name). inl (sym (get-insert_other old name bytes path apart) ∙ there))
    (path_cases path name)

pub short_insert : (most : ℕ) (old : Files) (name bytes : List ℕ) → length bytes ≤ most → AddsShort most old (map.insert old name bytes)
short_insert most old name bytes le path other there = ⊎_elim
    (λ before. inl before)
    (λ same. inr (subst (λ (b : List ℕ). length b ≤ most) (sym same) le))
    (inserted old name bytes path other there)

pub short_remove : (most : ℕ) (old : Files) (name : List ℕ) → AddsShort most old (map.remove old name)
short_remove most old name path bytes there = ⊎_elim
    (λ (same : path ≡ name). absurd (none-some bytes (sym (ap (λ (p : List ℕ). map.get (map.remove old name) p) same ∙ get-remove_here old name) ∙ there)))
    (λ (apart : path ≢ name). inl (sym (get-remove_other old name path apart) ∙ there))
    (path_cases path name)

-- another writer's file, in a fuse
pub short_contest : (old mid : FuseStore) (to : List ℕ) (inner : Memory) → mid ≡ counted old → inner ≡ changed mid.inner (stored mid.inner.disk to others_file) → AddsShort MAX_FILE_BYTES (fuse_disk old).files inner.disk.files
short_contest old mid to inner is file =
    let inside : mid.inner ≡ old.inner = ap inner_of is in
    let now : inner ≡ changed old.inner (stored old.inner.disk to others_file) = file ∙ ap (λ (m : Memory). changed m (stored m.disk to others_file)) inside in
    subst (λ (m : Memory). AddsShort MAX_FILE_BYTES old.inner.disk.files m.disk.files) (sym now) (short_insert MAX_FILE_BYTES old.inner.disk.files to others_file (omega arith))

-- a call that the store inside was asked for
pub short_by_script : {T : Type 0} (r : Result T StoreError) (most : ℕ) (old mid : FuseStore) (new : Files) → mid ≡ counted old → OnErr r (AddsShort most mid.inner.disk.files new) → OnErr r (AddsShort most (fuse_disk old).files new)
short_by_script r most old mid new is short = subst (λ (m : Memory). OnErr r (AddsShort most m.disk.files new)) (ap inner_of is) short

-- what each call leaves, whatever it answers
pub short_write : {T : Type 0} (r : Result T StoreError) (most : ℕ) (old new : Disk) (path bytes : List ℕ) → length bytes ≤ most → OnOk r (new ≡ written old path bytes) → OnErr r (AddsShort (length bytes) old.files new.files) → AddsShort most old.files new.files
short_write (Ok x) most old new path bytes le ok err = subst (λ (d : Disk). AddsShort most old.files d.files) (sym ok) (short_insert most old.files path bytes le)
short_write (Err e) most old new path bytes le ok err = short_wider (length bytes) most old.files new.files le err

pub short_sync : {T : Type 0} (r : Result T StoreError) (most : ℕ) (old new : Disk) → OnOk r (new ≡ synced old) → OnErr r (IsPartlySynced old new) → AddsShort most old.files new.files
short_sync r most old new ok err = short_same most old.files new.files (sync_leaves r old new ok err).files

pub short_removal : {T : Type 0} (r : Result T StoreError) (most : ℕ) (old new : Disk) (path : List ℕ) → OnOk r (new ≡ removed old path) → OnErr r ((new ≡ old) ⊎ (new ≡ removed old path)) → AddsShort most old.files new.files
short_removal r most old new path ok err = ⊎_elim
    (λ same. short_same most old.files new.files (ap (λ (d : Disk). d.files) same))
    (λ gone. subst (λ (d : Disk). AddsShort most old.files d.files) (sym gone) (short_remove most old.files path))
    (remove_leaves r old new path ok err)

-- the file that is published has these bytes
pub short_publish : {T : Type 0} (r : Result T StoreError) (old new : Disk) (from to bytes : List ℕ) → map.get old.files from ≡ Some bytes → length bytes ≤ MAX_FILE_BYTES
    → OnOk r (Moves from to old new) → (IsErrOf r Taken → (b : List ℕ) × (new ≡ stored old to b)) → OnErr r ((IsErrOf r Taken → ⊥) → (new ≡ old) ⊎ Moves from to old new)
    → (IsErrOf r Taken → AddsShort MAX_FILE_BYTES old.files new.files) → AddsShort MAX_FILE_BYTES old.files new.files
short_publish r old new from to bytes there le ok taken err short = ⊎_elim
    (λ same. short_same MAX_FILE_BYTES old.files new.files (ap (λ (d : Disk). d.files) same))
    (λ rest. ⊎_elim
    (λ moves.
    let both : Some moves.0 ≡ Some bytes = sym moves.1 ∙ there in
    let one : moves.0 ≡ bytes = cc in
    let few : length moves.0 ≤ MAX_FILE_BYTES = subst (λ (b : List ℕ). length b ≤ MAX_FILE_BYTES) (sym one) le in
    subst (λ (d : Disk). AddsShort MAX_FILE_BYTES old.files d.files) (sym moves.2)
    (short_then MAX_FILE_BYTES old.files (map.remove old.files from) (moved old from to moves.0).files (short_remove MAX_FILE_BYTES old.files from) (short_insert MAX_FILE_BYTES (map.remove old.files from) to moves.0 few)))
    (λ theirs. short theirs.0)
    rest)
    (publish_leaves r old new from to ok taken err)
