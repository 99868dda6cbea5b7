-- How a new version is published: what stands behind each store call.
use Rattle.std.proofs.Common.{◌≡◌, ◌≢◌, ◌⊎◌, inl, inr, ⊎_elim, ℕ, ◌+◌, ◌<◌, ◌≤◌, ◌^◌, Bool, true, false, List, [], ◌∷◌, ◌++◌, length, get_or, drop, Some, refl, sym, ap, subst, ◌∙◌, arith}
use Rattle.std.specs.Prelude.{Err, IsErrOf, Ok, OnErr, OnOk, Result, codes, is_ok, slice_get}
use Rattle.std.specs.Fmt.{decimal}
use Rattle.std.specs.FinMap as map
use Rattle.std.specs.FinSet as set
use Rattle.std.proofs.lemmas.Bool.{cases_lt, false≢true}
use Rattle.std.proofs.lemmas.Fmt.{decimal_injective}
use Rattle.std.proofs.lemmas.List.{append_cancel_left, append_cancel_right, get_or_default}
use Rattle.std.proofs.lemmas.Option.{slice_get-get_or}
use Rattle.lake_store.specs.Disk.{Disk, Files, IsClean, IsPartlySynced, MayLeave, Moves, SameElsewhere, stored, synced, written}
use Rattle.lake_store.specs.Moments.{Elapses}
use Rattle.lake_store.specs.Runs.{Keeps, KeepsImage, LeavesAlone}
use Rattle.lake_store.specs.declared.store.Store.{Ghosts}
use Rattle.lake_store.specs.declared.store.StoreError.{StoreError}
use Rattle.lake_store.specs.declared.store.StoreError.TheVariants.{Taken}
use Rattle.lake_store.proofs.DiskLaws.{clean-synced, contains-remove_here, contains-remove_other, get-insert_here, get-insert_other, get-remove_here, get-remove_other, path_cases, publish_leaves}
use Rattle.lake_store.proofs.MomentLaws.{goes_on, weaker}
use Rattle.lake_store.proofs.RunLaws.{IsRun, NowOnly, alone_by_run, alone_of_fewer, begins, keeps_crash, keeps_elsewhere, keeps_first, keeps_moved, keeps_stored, keeps_sync, publishes, syncs, writes}
use Rattle.table_history.specs.declared.kind.Kind.TheVariants.{Iceberg}
use Rattle.iceberg_commit.specs.NextVersion.{VersionFiles}
use Rattle.target_core.specs.OwnFiles.{IsIcebergFile, MayNotTouch, TouchesOwn}
use Rattle.target_core.specs.declared.target.TargetError.{TargetError}
use Rattle.target_core.specs.declared.target.TargetError.TheVariants.{Contested, Memory}
use Rattle.target_core.proofs.StoreAnswers.{ok_err, three}
use Rattle.iceberg_table.specs.Folder.{path_of, version_path}
use Rattle.iceberg_version.specs.Names.{list_name, manifest_name, staged_name}
use Rattle.target_iceberg.specs.Publishing.{AreApart, AreManifestPaths, HaveBytes, IsAside, IsDurable, IsForestalled, IsNoneOf, IsNotAside, IsOther, IsPublished, PublishesVersion}

-- ---- the names

module _ (version : ℕ) where
  one_manifest : (j k : ℕ) → j < 2 ^ 64 → k < 2 ^ 64 → path_of (manifest_name version j) ≡ path_of (manifest_name version k) → j ≡ k
  one_manifest j k small_j small_k same =
      let names : decimal version ++ (45 ∷ (decimal j ++ codes ".avro")) ≡ decimal version ++ (45 ∷ (decimal k ++ codes ".avro")) = ap (drop 14) same in
      let numbers : decimal j ++ codes ".avro" ≡ decimal k ++ codes ".avro" = ap (drop 1) (append_cancel_left (decimal version) (45 ∷ (decimal j ++ codes ".avro")) (45 ∷ (decimal k ++ codes ".avro")) names) in
      decimal_injective j k small_j small_k (append_cancel_right (decimal j) (decimal k) (codes ".avro") numbers)

  manifest_list : (k : ℕ) → path_of (manifest_name version k) ≢ path_of (list_name version)
  manifest_list k same = let no : 109 ≡ 115 = ap (λ (p : List ℕ). get_or p 12 0) same in absurd (omega (arith, no))

  manifest_staged : (k : ℕ) → path_of (manifest_name version k) ≢ path_of (staged_name version)
  manifest_staged k same = let no : 109 ≡ 118 = ap (λ (p : List ℕ). get_or p 12 0) same in absurd (omega (arith, no))

  list_staged : path_of (list_name version) ≢ path_of (staged_name version)
  list_staged same = let no : 115 ≡ 118 = ap (λ (p : List ℕ). get_or p 12 0) same in absurd (omega (arith, no))

  manifest_metadata : (k : ℕ) → path_of (manifest_name version k) ≢ version_path version
  manifest_metadata k same = let no : 108 ≡ 118 = ap (λ (p : List ℕ). get_or p 9 0) same in absurd (omega (arith, no))

  list_metadata : path_of (list_name version) ≢ version_path version
  list_metadata same = let no : 108 ≡ 118 = ap (λ (p : List ℕ). get_or p 9 0) same in absurd (omega (arith, no))

  staged_metadata : path_of (staged_name version) ≢ version_path version
  staged_metadata same = let no : 108 ≡ 118 = ap (λ (p : List ℕ). get_or p 9 0) same in absurd (omega (arith, no))

pub metadata_not_aside : (new : VersionFiles) → IsNotAside new (version_path new.version)
metadata_not_aside new (IsAside.manifest number lt is) = manifest_metadata new.version number (sym is)
metadata_not_aside new (IsAside.list is) = list_metadata new.version (sym is)
metadata_not_aside new (IsAside.staged is) = staged_metadata new.version (sym is)

aside_touched : (new : VersionFiles) (path : List ℕ) → IsAside new path → IsIcebergFile path
aside_touched new path (IsAside.manifest number lt is) = IsIcebergFile.manifest new.version number is
aside_touched new path (IsAside.list is) = IsIcebergFile.list new.version is
aside_touched new path (IsAside.staged is) = IsIcebergFile.staged new.version is

untouched_other : (new : VersionFiles) (path : List ℕ) → MayNotTouch Iceberg path → IsOther new path
untouched_other new path untouched = record {
  version = λ (is : path ≡ version_path new.version). untouched (IsIcebergFile.metadata new.version is);
  aside = λ of. untouched (aside_touched new path of);
}

pub touches_own : {S : Type 0} (store : Ghosts S) (new : VersionFiles) (old now : S) → LeavesAlone store (IsOther new) old now → TouchesOwn store Iceberg old now
touches_own store new old now alone = alone_of_fewer store (IsOther new) (MayNotTouch Iceberg) old now (untouched_other new) alone

pub apart_paths : (version count : ℕ) (paths : List (List ℕ)) → count ≤ 2 ^ 64 → AreManifestPaths version count paths → AreApart paths
apart_paths version count paths small are j k lt within same =
    let below : k < count = omega (arith, within, are.count_is) in
    let one = one_manifest version j k (omega (arith, lt, below, small)) (omega (arith, below, small)) (sym (are.at j (omega (arith, lt, below))) ∙ same ∙ are.at k below) in
    absurd (omega (arith, lt, one))

-- what no manifest's path is isn't aside
pub not_aside_none : (new : VersionFiles) (paths : List (List ℕ)) → AreManifestPaths new.version (length new.manifests) paths → (path : List ℕ) → IsNotAside new path → IsNoneOf paths path
not_aside_none new paths are path not k within same =
    let below : k < length new.manifests = omega (arith, within, are.count_is) in
    not (IsAside.manifest k below (same ∙ are.at k below))

-- ---- one call more, under which paths stay

module _ {S : Type 0} (store : Ghosts S) (told : store.tells) (only_now : NowOnly store) (Kept : List ℕ → Type 0) where
  pub alone_begun : (s : S) → LeavesAlone store Kept s s
  alone_begun s = alone_by_run store Kept s s (begins store only_now (Keeps Kept (store.disk s)) (KeepsImage Kept (store.disk s)) (keeps_crash Kept (store.disk s)) s (λ _. keeps_first Kept (store.disk s)) told)

  module _ (old mid new : S) (so_far : LeavesAlone store Kept old mid) (call : store.tells → Elapses store.disk store.time store.left_since mid new) where
    run : store.tells → IsRun store (Keeps Kept (store.disk old)) (KeepsImage Kept (store.disk old)) old mid
    run t = record { disk = so_far.disk; moments = so_far.moments }

    module _ {T : Type 0} (r : Result T StoreError) where
      pub alone_write : (p b : List ℕ) → (Kept p → ⊥) → (store.tells → OnOk r (store.disk new ≡ written (store.disk mid) p b)) → (store.tells → OnErr r (SameElsewhere p (store.disk mid) (store.disk new))) → LeavesAlone store Kept old new
      alone_write p b own ok err =
          alone_by_run store Kept old new (writes store only_now (Keeps Kept (store.disk old)) (KeepsImage Kept (store.disk old)) (keeps_crash Kept (store.disk old)) old mid new run call r p b ok err (keeps_elsewhere Kept (store.disk old) p own) told)

      pub alone_sync : (store.tells → OnOk r (store.disk new ≡ synced (store.disk mid))) → (store.tells → OnErr r (IsPartlySynced (store.disk mid) (store.disk new))) → LeavesAlone store Kept old new
      alone_sync ok err =
          alone_by_run store Kept old new (syncs store only_now (Keeps Kept (store.disk old)) (KeepsImage Kept (store.disk old)) (keeps_crash Kept (store.disk old)) old mid new run call r ok err (keeps_sync Kept (store.disk old)) told)

      pub alone_publish : (from to : List ℕ) → (Kept from → ⊥) → (Kept to → ⊥) → (store.tells → OnOk r (Moves from to (store.disk mid) (store.disk new))) → (store.tells → IsErrOf r Taken → (b : List ℕ) × (store.disk new ≡ stored (store.disk mid) to b))
          → (store.tells → OnErr r ((IsErrOf r Taken → ⊥) → (store.disk new ≡ store.disk mid) ⊎ Moves from to (store.disk mid) (store.disk new))) → LeavesAlone store Kept old new
      alone_publish from to own_from own_to ok taken err =
          alone_by_run store Kept old new (publishes store only_now (Keeps Kept (store.disk old)) (KeepsImage Kept (store.disk old)) (keeps_crash Kept (store.disk old)) old mid new run call r from to ok taken err
          (λ t i b is. keeps_moved Kept (store.disk old) from to b own_from own_to (store.disk mid) i) (λ t i b contest. keeps_stored Kept (store.disk old) to b own_to (store.disk mid) i) told)

-- ---- the manifests

pub one_more_written : (paths texts : List (List ℕ)) (i : ℕ) (p b path text : List ℕ) (before after : Disk) → length paths ≡ length texts → AreApart paths → i < length texts → p ≡ path → path ≡ get_or paths i path → b ≡ text → text ≡ get_or texts i text
    → after ≡ written before p b → ((k : ℕ) → k < i → map.get before.files (get_or paths k []) ≡ slice_get texts k) → (k : ℕ) → k < i + 1 → map.get after.files (get_or paths k []) ≡ slice_get texts k
one_more_written paths texts i p b path text before after same apart within p_is path_is b_is text_is is so_far k lt =
    let here : p ≡ get_or paths i [] = p_is ∙ path_is ∙ get_or_default paths i path [] (omega (arith, within, same)) in
    let bytes : Some b ≡ slice_get texts i = ap (λ x. Some x) (b_is ∙ text_is) ∙ sym (slice_get-get_or texts i text within) in
    ap (λ (d : Disk). map.get d.files (get_or paths k [])) is
    ∙ ⊎_elim
    (λ (less : k < i). get-insert_other before.files p b (get_or paths k []) (λ (one : get_or paths k [] ≡ p). apart k i less (omega (arith, within, same)) (one ∙ here)) ∙ so_far k less)
    (λ (ge : i ≤ k).
    let one : k ≡ i = omega (arith, ge, lt) in
    ap (λ (q : List ℕ). map.get (map.insert before.files p b) q) (ap (λ n. get_or paths n []) one ∙ sym here) ∙ get-insert_here before.files p b ∙ bytes ∙ ap (slice_get texts) (sym one))
    (cases_lt k i)

-- ---- what is written aside

-- The manifests, the list and the staged metadata have their bytes, and no path is dirty.
pub record IsWrittenAside (new : VersionFiles) (disk : Disk) : Type 0 where
  pub list : map.get disk.files (path_of (list_name new.version)) ≡ Some new.list
  pub manifests : (number : ℕ) → number < length new.manifests → map.get disk.files (path_of (manifest_name new.version number)) ≡ slice_get new.manifests number
  pub staged : map.get disk.files (path_of (staged_name new.version)) ≡ Some new.metadata
  pub clean : (path : List ℕ) → IsClean disk path

module _ (new : VersionFiles) (paths : List (List ℕ)) (are : AreManifestPaths new.version (length new.manifests) paths) (d₁ d₂ d₃ d₄ : Disk) (manifests : HaveBytes paths new.manifests d₁.files)
    (list_path list_bytes : List ℕ) (list_path_is : list_path ≡ path_of (list_name new.version)) (list_is : list_bytes ≡ new.list) (write_list : d₂ ≡ written d₁ list_path list_bytes)
    (staged_path staged_bytes : List ℕ) (staged_path_is : staged_path ≡ path_of (staged_name new.version)) (staged_is : staged_bytes ≡ new.metadata) (write_staged : d₃ ≡ written d₂ staged_path staged_bytes) (sync : d₄ ≡ synced d₃) where
  list : d₂ ≡ written d₁ (path_of (list_name new.version)) new.list
  list = write_list ∙ ap (λ (p : List ℕ). written d₁ p list_bytes) list_path_is ∙ ap (λ (b : List ℕ). written d₁ (path_of (list_name new.version)) b) list_is

  staged : d₃ ≡ written d₂ (path_of (staged_name new.version)) new.metadata
  staged = write_staged ∙ ap (λ (p : List ℕ). written d₂ p staged_bytes) staged_path_is ∙ ap (λ (b : List ℕ). written d₂ (path_of (staged_name new.version)) b) staged_is

  all_files : d₄.files ≡ map.insert (map.insert d₁.files (path_of (list_name new.version)) new.list) (path_of (staged_name new.version)) new.metadata
  all_files = ap (λ (d : Disk). d.files) sync ∙ ap (λ (d : Disk). d.files) staged ∙ ap (λ (d : Disk). map.insert d.files (path_of (staged_name new.version)) new.metadata) list

  at : (q : List ℕ) → map.get d₄.files q ≡ map.get (map.insert (map.insert d₁.files (path_of (list_name new.version)) new.list) (path_of (staged_name new.version)) new.metadata) q
  at q = ap (λ (m : Files). map.get m q) all_files

  pub written_aside : IsWrittenAside new d₄
  written_aside = record {
    list = at (path_of (list_name new.version)) ∙ get-insert_other (map.insert d₁.files (path_of (list_name new.version)) new.list) (path_of (staged_name new.version)) new.metadata (path_of (list_name new.version)) (list_staged new.version)
        ∙ get-insert_here d₁.files (path_of (list_name new.version)) new.list;
    manifests = λ number lt.
        at (path_of (manifest_name new.version number)) ∙ get-insert_other (map.insert d₁.files (path_of (list_name new.version)) new.list) (path_of (staged_name new.version)) new.metadata (path_of (manifest_name new.version number)) (manifest_staged new.version number)
        ∙ get-insert_other d₁.files (path_of (list_name new.version)) new.list (path_of (manifest_name new.version number)) (manifest_list new.version number)
        ∙ ap (map.get d₁.files) (sym (are.at number lt)) ∙ manifests number lt;
    staged = at (path_of (staged_name new.version)) ∙ get-insert_here (map.insert d₁.files (path_of (list_name new.version)) new.list) (path_of (staged_name new.version)) new.metadata;
    clean = λ q. subst (λ (d : Disk). IsClean d q) (sym sync) (clean-synced d₃ q);
  }

-- ---- the calls up to the sync

module _ {S : Type 0} (store : Ghosts S) (told : store.tells) (only_now : NowOnly store) (new : VersionFiles) (paths : List (List ℕ)) (are : AreManifestPaths new.version (length new.manifests) paths) (s₀ s₁ : S) (begun : store.tells → LeavesAlone store (IsNoneOf paths) s₀ s₁) where
  pub aside₁ : LeavesAlone store (IsNotAside new) s₀ s₁
  aside₁ = alone_of_fewer store (IsNoneOf paths) (IsNotAside new) s₀ s₁ (not_aside_none new paths are) (begun told)

  module _ (s₂ : S) (call₂ : store.tells → Elapses store.disk store.time store.left_since s₁ s₂) {T₂ : Type 0} (r₂ : Result T₂ StoreError) (list_path list : List ℕ) (list_path_is : list_path ≡ path_of (list_name new.version))
      (ok₂ : store.tells → OnOk r₂ (store.disk s₂ ≡ written (store.disk s₁) list_path list)) (err₂ : store.tells → OnErr r₂ (SameElsewhere list_path (store.disk s₁) (store.disk s₂))) where
    pub aside₂ : LeavesAlone store (IsNotAside new) s₀ s₂
    aside₂ = alone_write store told only_now (IsNotAside new) s₀ s₁ s₂ aside₁ call₂ r₂ list_path list (λ not. not (IsAside.list list_path_is)) ok₂ err₂

    module _ (s₃ : S) (call₃ : store.tells → Elapses store.disk store.time store.left_since s₂ s₃) {T₃ : Type 0} (r₃ : Result T₃ StoreError) (staged_path staged : List ℕ) (staged_path_is : staged_path ≡ path_of (staged_name new.version))
        (ok₃ : store.tells → OnOk r₃ (store.disk s₃ ≡ written (store.disk s₂) staged_path staged)) (err₃ : store.tells → OnErr r₃ (SameElsewhere staged_path (store.disk s₂) (store.disk s₃))) where
      pub aside₃ : LeavesAlone store (IsNotAside new) s₀ s₃
      aside₃ = alone_write store told only_now (IsNotAside new) s₀ s₂ s₃ aside₂ call₃ r₃ staged_path staged (λ not. not (IsAside.staged staged_path_is)) ok₃ err₃

      module _ (s₄ : S) (call₄ : store.tells → Elapses store.disk store.time store.left_since s₃ s₄) {T₄ : Type 0} (r₄ : Result T₄ StoreError)
          (ok₄ : store.tells → OnOk r₄ (store.disk s₄ ≡ synced (store.disk s₃))) (err₄ : store.tells → OnErr r₄ (IsPartlySynced (store.disk s₃) (store.disk s₄))) where
        pub aside₄ : LeavesAlone store (IsNotAside new) s₀ s₄
        aside₄ = alone_sync store told only_now (IsNotAside new) s₀ s₃ s₄ aside₃ call₄ r₄ ok₄ err₄

-- ---- the metadata is published

module _ {S : Type 0} (store : Ghosts S) (told : store.tells) (only_now : NowOnly store) (new : VersionFiles) where
  -- ---- before that

  module _ (s₀ s₁ : S) (so_far : LeavesAlone store (IsNotAside new) s₀ s₁) where
    pub others_alone : LeavesAlone store (IsOther new) s₀ s₁
    others_alone = alone_of_fewer store (IsNotAside new) (IsOther new) s₀ s₁ (λ path other. other.aside) so_far

    pub not_published : (U C : Type 0) → (C → ⊥) → PublishesVersion store new U C false s₀ s₁
    not_published U C never = record {
      all = λ done. absurd (false≢true done);
      at_return = λ _. inl so_far.disk;
      moments = λ _. weaker store s₀ s₁ (KeepsImage (IsNotAside new) (store.disk s₀)) (λ image. KeepsImage (IsNotAside new) (store.disk s₀) image ⊎ IsPublished new (store.disk s₀).files image) (λ image kept. inl kept) (λ _. so_far.moments) told;
      forestalled = λ c. absurd (never c);
      others = others_alone;
    }

  -- ---- the last call

  module _ (s₀ s₁ s₂ : S) (so_far : LeavesAlone store (IsNotAside new) s₀ s₁) (w : IsWrittenAside new (store.disk s₁)) (call : store.tells → Elapses store.disk store.time store.left_since s₁ s₂) where
    clean_but : (q : List ℕ) → set.contains (set.remove (store.disk s₁).dirty (version_path new.version)) q ≡ false
    clean_but q = ⊎_elim
        (λ here. subst (λ p. set.contains (set.remove (store.disk s₁).dirty (version_path new.version)) p ≡ false) (sym here) (contains-remove_here (store.disk s₁).dirty (version_path new.version)))
        (λ off. contains-remove_other (store.disk s₁).dirty (version_path new.version) q off ∙ w.clean q) (path_cases q (version_path new.version))

    -- it has moved
    module _ (moves : Moves (path_of (staged_name new.version)) (version_path new.version) (store.disk s₁) (store.disk s₂)) where
      bytes : moves.0 ≡ new.metadata
      bytes = let both : Some moves.0 ≡ Some new.metadata = sym moves.1 ∙ w.staged in cc

      off : (q : List ℕ) → q ≢ version_path new.version → q ≢ path_of (staged_name new.version) → map.get (map.insert (map.remove (store.disk s₁).files (path_of (staged_name new.version))) (version_path new.version) moves.0) q ≡ map.get (store.disk s₁).files q
      off q not_version not_staged = get-insert_other (map.remove (store.disk s₁).files (path_of (staged_name new.version))) (version_path new.version) moves.0 q not_version ∙ get-remove_other (store.disk s₁).files (path_of (staged_name new.version)) q not_staged

      pub durable : IsDurable new (store.disk s₀).files (store.disk s₂)
      durable = subst (IsDurable new (store.disk s₀).files) (sym moves.2) (record {
        files = record {
          metadata = get-insert_here (map.remove (store.disk s₁).files (path_of (staged_name new.version))) (version_path new.version) moves.0 ∙ ap (λ b. Some b) bytes;
          list = off (path_of (list_name new.version)) (list_metadata new.version) (list_staged new.version) ∙ w.list;
          manifests = λ number lt. off (path_of (manifest_name new.version number)) (manifest_metadata new.version number) (manifest_staged new.version number) ∙ w.manifests number lt;
          staged = get-insert_other (map.remove (store.disk s₁).files (path_of (staged_name new.version))) (version_path new.version) moves.0 (path_of (staged_name new.version)) (staged_metadata new.version)
              ∙ get-remove_here (store.disk s₁).files (path_of (staged_name new.version));
          others = λ path other. off path other.version (λ is. other.aside (IsAside.staged is)) ∙ so_far.disk.files path other.aside;
        };
        clean = clean_but;
      })

    -- another writer's file has come
    module _ (theirs : List ℕ) (is : store.disk s₂ ≡ stored (store.disk s₁) (version_path new.version) theirs) where
      off_theirs : (q : List ℕ) → q ≢ version_path new.version → map.get (store.disk s₂).files q ≡ map.get (store.disk s₁).files q
      off_theirs q not = ap (λ (d : Disk). map.get d.files q) is ∙ get-insert_other (store.disk s₁).files (version_path new.version) theirs q not

      clean_now : (q : List ℕ) → IsClean (store.disk s₂) q
      clean_now q = subst (λ (d : Disk). IsClean d q) (sym is) (clean_but q)

      abbrev Shown : Files → Type 0
      Shown image = KeepsImage (IsNotAside new) (store.disk s₀) image ⊎ ((path : List ℕ) → map.get image path ≡ map.get (store.disk s₂).files path)

      pub forestalled : IsForestalled store new s₀ s₂
      forestalled = record {
        theirs = theirs;
        there = ap (λ (d : Disk). map.get d.files (version_path new.version)) is ∙ get-insert_here (store.disk s₁).files (version_path new.version) theirs;
        list = off_theirs (path_of (list_name new.version)) (list_metadata new.version) ∙ w.list;
        manifests = λ number lt. off_theirs (path_of (manifest_name new.version number)) (manifest_metadata new.version number) ∙ w.manifests number lt;
        staged = off_theirs (path_of (staged_name new.version)) (staged_metadata new.version) ∙ w.staged;
        clean = clean_now;
        moments = goes_on store s₀ s₁ s₂ Shown (λ t. weaker store s₀ s₁ (KeepsImage (IsNotAside new) (store.disk s₀)) Shown (λ image kept. inl kept) (λ _. so_far.moments) t) call (λ t image may. inr (λ q. may q (clean_now q))) told;
      }

    abbrev Seen : Files → Type 0
    Seen image = KeepsImage (IsNotAside new) (store.disk s₀) image ⊎ IsPublished new (store.disk s₀).files image

    shown_as_now : (image : Files) (d : Disk) → IsDurable new (store.disk s₀).files d → MayLeave d image → IsPublished new (store.disk s₀).files image
    shown_as_now image d done may = record {
      metadata = may (version_path new.version) (done.clean (version_path new.version)) ∙ done.files.metadata;
      list = may (path_of (list_name new.version)) (done.clean (path_of (list_name new.version))) ∙ done.files.list;
      manifests = λ number lt. may (path_of (manifest_name new.version number)) (done.clean (path_of (manifest_name new.version number))) ∙ done.files.manifests number lt;
      staged = may (path_of (staged_name new.version)) (done.clean (path_of (staged_name new.version))) ∙ done.files.staged;
      others = λ path other. may path (done.clean path) ∙ done.files.others path other;
    }

    module _ {T : Type 0} (r : Result T StoreError) (ok : store.tells → OnOk r (Moves (path_of (staged_name new.version)) (version_path new.version) (store.disk s₁) (store.disk s₂)))
        (taken : store.tells → IsErrOf r Taken → (b : List ℕ) × (store.disk s₂ ≡ stored (store.disk s₁) (version_path new.version) b))
        (err : store.tells → OnErr r ((IsErrOf r Taken → ⊥) → (store.disk s₂ ≡ store.disk s₁) ⊎ Moves (path_of (staged_name new.version)) (version_path new.version) (store.disk s₁) (store.disk s₂))) where
      untaken : (IsErrOf r Taken → ⊥) → (store.disk s₂ ≡ store.disk s₁) ⊎ Moves (path_of (staged_name new.version)) (version_path new.version) (store.disk s₁) (store.disk s₂)
      untaken none = three inl inr (λ contest. absurd (none contest.0)) (publish_leaves r (store.disk s₁) (store.disk s₂) (path_of (staged_name new.version)) (version_path new.version) (ok told) (taken told) (err told))

      moved_now : is_ok r ≡ true → Moves (path_of (staged_name new.version)) (version_path new.version) (store.disk s₁) (store.disk s₂)
      moved_now done = by_ok r done (ok told)
        where
          by_ok : {T : Type 0} {M : Type 0} (x : Result T StoreError) → is_ok x ≡ true → OnOk x M → M
          by_ok (Ok v) done m = m
          by_ok (Err e) done m = absurd (false≢true done)

      seen_now : (IsErrOf r Taken → ⊥) → (image : Files) → MayLeave (store.disk s₂) image → Seen image
      seen_now none image may = ⊎_elim
          (λ (same : store.disk s₂ ≡ store.disk s₁). inl (keeps_crash (IsNotAside new) (store.disk s₀) (store.disk s₁) image so_far.disk (subst (λ (d : Disk). MayLeave d image) same may)))
          (λ (moves : Moves (path_of (staged_name new.version)) (version_path new.version) (store.disk s₁) (store.disk s₂)). inr (shown_as_now image (store.disk s₂) (durable moves) may))
          (untaken none)

      pub published : (U C : Type 0) (done : Bool) → (U → IsErrOf r Taken → ⊥) → (C → IsErrOf r Taken) → (done ≡ true → is_ok r ≡ true) → PublishesVersion store new U C done s₀ s₂
      published U C done u c d = record {
        all = λ is. durable (moved_now (d is));
        at_return = λ un. ⊎_elim
            (λ (same : store.disk s₂ ≡ store.disk s₁). inl (subst (λ (x : Disk). Keeps (IsNotAside new) (store.disk s₀) x) (sym same) so_far.disk))
            (λ (moves : Moves (path_of (staged_name new.version)) (version_path new.version) (store.disk s₁) (store.disk s₂)). inr (durable moves))
            (untaken (u un));
        moments = λ un. goes_on store s₀ s₁ s₂ Seen (λ t. weaker store s₀ s₁ (KeepsImage (IsNotAside new) (store.disk s₀)) Seen (λ image kept. inl kept) (λ _. so_far.moments) t) call (λ t. seen_now (u un)) told;
        forestalled = λ contest. let came = taken told (c contest) in forestalled came.0 came.1;
        others = alone_publish store told only_now (IsOther new) s₀ s₁ s₂ (others_alone s₀ s₁ so_far) call r (path_of (staged_name new.version)) (version_path new.version) (λ other. other.aside (IsAside.staged refl)) (λ other. other.version refl) ok taken err;
      }

    module _ (from to : List ℕ) (from_is : from ≡ path_of (staged_name new.version)) (to_is : to ≡ version_path new.version) {T : Type 0} (r : Result T StoreError) (ok : store.tells → OnOk r (Moves from to (store.disk s₁) (store.disk s₂)))
        (taken : store.tells → IsErrOf r Taken → (b : List ℕ) × (store.disk s₂ ≡ stored (store.disk s₁) to b))
        (err : store.tells → OnErr r ((IsErrOf r Taken → ⊥) → (store.disk s₂ ≡ store.disk s₁) ⊎ Moves from to (store.disk s₁) (store.disk s₂))) where
      pub published_as : (U C : Type 0) (done : Bool) → (U → IsErrOf r Taken → ⊥) → (C → IsErrOf r Taken) → (done ≡ true → is_ok r ≡ true) → PublishesVersion store new U C done s₀ s₂
      published_as = published r
          (subst (λ (p : List ℕ). store.tells → OnOk r (Moves p (version_path new.version) (store.disk s₁) (store.disk s₂))) from_is (subst (λ (q : List ℕ). store.tells → OnOk r (Moves from q (store.disk s₁) (store.disk s₂))) to_is ok))
          (subst (λ (q : List ℕ). store.tells → IsErrOf r Taken → (b : List ℕ) × (store.disk s₂ ≡ stored (store.disk s₁) q b)) to_is taken)
          (subst (λ (p : List ℕ). store.tells → OnErr r ((IsErrOf r Taken → ⊥) → (store.disk s₂ ≡ store.disk s₁) ⊎ Moves p (version_path new.version) (store.disk s₁) (store.disk s₂))) from_is
          (subst (λ (q : List ℕ). store.tells → OnErr r ((IsErrOf r Taken → ⊥) → (store.disk s₂ ≡ store.disk s₁) ⊎ Moves from q (store.disk s₁) (store.disk s₂))) to_is err))

-- ---- answers

pub memory_never : {T : Type 0} (r : Result T TargetError) (e : TargetError) → r ≡ Err e → e ≡ Memory → IsErrOf r Contested → ⊥
memory_never (Ok v) e is memory contested = absurd (ok_err v e is)
memory_never (Err x) e is memory contested =
    let same : x ≡ e = cc in
    let is_contested : x ≡ Contested = cc in
    let both : Memory ≡ Contested = sym memory ∙ sym same ∙ is_contested in
    absurd (cc)

pub err_ok : {T : Type 0} (r : Result T StoreError) (v : T) → r ≡ Ok v → IsErrOf r Taken → ⊥
err_ok r v is taken = let both : Ok v ≡ Err Taken = sym is ∙ taken in absurd (cc)

pub ok_contested : {T : Type 0} {v : T} → IsErrOf {T = T} {E = TargetError} (Ok v) Contested → ⊥
ok_contested is = cc
