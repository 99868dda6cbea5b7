-- What versions reach stays behind a commit, and so does all that they carry.
use Rattle.std.proofs.Common.{◌≡◌, ◌≢◌, ◌⊎◌, inl, inr, ℕ, zero, suc, ℤ, ◌+◌, ◌<◌, ◌≤◌, List, [], ◌∷◌, ◌++◌, Bool, true, false, cond, Contains, Option, None, Some, codes, refl, sym, ap, subst, ◌∙◌, arith}
use Rattle.std.specs.Prelude.{◌==◌, IsSome}
use Rattle.std.specs.Fmt.{decimal}
use Rattle.std.specs.FinMap as map
use Rattle.std.specs.Ordering.{int_eq}
use Rattle.std.proofs.lemmas.Bool.Decides.{Decides-eqb, Decides-int_eq}
use Rattle.lake_basics.specs.declared.limits.TheConstants.{MAX_ICEBERG_VERSION}
use Rattle.lake_basics.proofs.Options.{some_of}
use Rattle.lake_store.specs.Disk.{Files}
use Rattle.lake_store.proofs.OrderLaws.{names_in_listed}
use Rattle.table_history.specs.declared.table.Change.{Change}
use Rattle.table_history.proofs.RowListLemmas.{Contains-head, Contains-tail}
use Rattle.iceberg_manifest.specs.Entry.{EntryData}
use Rattle.iceberg_manifest.specs.declared.info.ManifestInfo.{ManifestInfo}
use Rattle.iceberg_ancestry.specs.Ancestry.{held, held_at}
use Rattle.iceberg_metadata.specs.declared.metadata.Metadata.{Metadata}
use Rattle.iceberg_metadata.specs.declared.metadata.Snapshot.{Snapshot}
use Rattle.iceberg_table.specs.Files.{HoldsFile, SaysMetadata}
use Rattle.iceberg_table.specs.Folder.{HasVersion, metadata_folder, path_of, version_path}
use Rattle.iceberg_version.specs.Names.{list_name, manifest_name, staged_name}
use Rattle.target_core.specs.Views.{Standing}
use Rattle.target_iceberg.specs.Reached as reached
use Rattle.target_iceberg.specs.Reached.{IsReached, LeavesNames}
use Rattle.target_iceberg.specs.Reading.{IsCarried, IsEntryIn, KeepsId, SaysCurrent}
use Rattle.target_iceberg.proofs.WrittenNames.{one_version, version_list, version_manifest, version_name, version_staged}
use Rattle.target_iceberg.specs.OnceLemmas.{current_in}
use Rattle.target_iceberg.specs.SameLemmas.{SameSnapshot, current_too, entry_too, list_reached, list_too, manifest_reached, snapshot_back}

-- ---- versions

-- a file at a version's path is a version
pub version_held : (files : Files) (version : ℕ) (bytes : List ℕ) → version ≤ MAX_ICEBERG_VERSION → HoldsFile files (version_path version) bytes → HasVersion files version
version_held files version bytes within holds =
    let name = codes "v" ++ (decimal version ++ codes ".metadata.json") in
    (name, ((names_in_listed files metadata_folder).members name).1 (version_name version, subst (λ (o : Option (List ℕ)). IsSome o) (sym holds) refl), record { spelled = refl; within = within })

-- the file of a version that is there
pub version_file : (files : Files) (version : ℕ) → HasVersion files version → IsSome (map.get files (version_path version))
version_file files version h =
    let is = ((names_in_listed files metadata_folder).members h.0).0 h.1 in
    subst (λ (name : List ℕ). IsSome (map.get files (path_of name))) h.2.spelled is.1

-- the version is there too where its file is as before
pub version_at : (a b : Files) (version : ℕ) → map.get b (version_path version) ≡ map.get a (version_path version) → HasVersion a version → HasVersion b version
version_at a b version same h =
    let file = some_of (map.get a (version_path version)) (version_file a version h) in
    version_held b version file.0 h.2.within (same ∙ file.1)

-- ---- a file that stays

module _ (a b : Files) where
  pub metadata_at : (version : ℕ) (m : Metadata) → map.get b (version_path version) ≡ map.get a (version_path version) → SaysMetadata a version m → SaysMetadata b version m
  metadata_at version m same h = record { bytes = h.bytes; holds = same ∙ h.holds; small = h.small; read = h.read; supported = h.supported; acyclic = h.acyclic }

-- ---- what a version's current snapshot reaches

in_held_by : (s : Snapshot) (ss : List Snapshot) (id : ℤ) (t : Snapshot) (b : Bool) → int_eq s.id id ≡ b → cond b (Some s) (held ss id) ≡ Some t → (held ss id ≡ Some t → Contains ss t × (t.id ≡ id)) → Contains (s ∷ ss) t × (t.id ≡ id)
in_held_by s ss id t true at is rest = let same : s ≡ t = cc in subst (λ (x : Snapshot). Contains (s ∷ ss) x × (x.id ≡ id)) same (Contains-head s ss, (Decides-int_eq s.id id).0 at)
in_held_by s ss id t false at is rest = let more = rest is in (Contains-tail s ss t more.0, more.1)

-- a snapshot that is held at an id
pub in_held : (xs : List Snapshot) (id : ℤ) (t : Snapshot) → held xs id ≡ Some t → Contains xs t × (t.id ≡ id)
in_held [] id t is = absurd (cc)
in_held (s ∷ ss) id t is = in_held_by s ss id t (int_eq s.id id) refl is (in_held ss id t)

pub in_held_at : (xs : List Snapshot) (o : Option ℤ) (t : Snapshot) → held_at xs o ≡ Some t → Contains xs t × (o ≡ Some t.id)
in_held_at xs None t is = absurd (cc)
in_held_at xs (Some id) t is = let in_it = in_held xs id t is in (in_it.0, ap (λ (i : ℤ). Some i) (sym in_it.1))

-- ---- files in which all that is reached stays

module _ (files after : Files) (stays : (path : List ℕ) → IsReached files path → map.get after path ≡ map.get files path) where
  pub version_stays : (version : ℕ) → HasVersion files version → map.get after (version_path version) ≡ map.get files (version_path version)
  version_stays version there = stays (version_path version) (reached.metadata version there refl)

  pub metadata_too : (version : ℕ) → HasVersion files version → (m : Metadata) → SaysMetadata files version m → SaysMetadata after version m
  metadata_too version there m says = metadata_at files after version m (version_stays version there) says

  id_too : (new : List ℕ) (version : ℕ) (id : List ℕ) → KeepsId new files version id → KeepsId new after version id
  id_too new zero id h = h
  id_too new (suc zero) id h = h
  id_too new (suc (suc version)) id h = (h.0, version_at files after (suc version) (version_stays (suc version) h.1) h.1, metadata_too (suc version) h.1 h.0 h.2, h.3)

  -- what its current snapshot names stays
  same_current : (version : ℕ) → HasVersion files version → (m : Metadata) → SaysMetadata files version m → (current : SaysCurrent files m) → SameSnapshot files after m current.snapshot
  same_current version there m says current =
      let held = current_in m current.snapshot current.current in
      record {
        list = λ plan planned. stays plan.list (list_reached files version m there says current.snapshot held plan planned);
        manifests = λ plan list file planned listed named. stays file.path (manifest_reached files version m there says current.snapshot held plan list file planned listed named);
      }

  -- a version carries what it carried
  pub carried_too : (id : List ℕ) (number : ℕ) (change : Change) (standing : Standing) → IsCarried id files number change standing → IsCarried id after number change standing
  carried_too id number change standing h =
      let same = same_current number h.there h.metadata h.says h.current in
      let s = h.current.snapshot in
      let plan = h.current.plan in
      let list = h.current.list in
      let planned = h.current.says.planned in
      let listed = h.current.says.says in
      let back = snapshot_back files after h.metadata s same in
      let listed_after = list_too files after h.metadata s same plan list planned listed in
      let to : (info : ManifestInfo) (entry : EntryData) → IsEntryIn files plan list info entry → IsEntryIn after plan list info entry = λ info entry is. entry_too files after h.metadata s same plan list info entry planned listed is in
      let from : (info : ManifestInfo) (entry : EntryData) → IsEntryIn after plan list info entry → IsEntryIn files plan list info entry = λ info entry is. entry_too after files h.metadata s back plan list info entry planned listed_after is in
      record {
        there = version_at files after number (version_stays number h.there) h.there;
        metadata = h.metadata;
        says = metadata_too number h.there h.metadata h.says;
        id = id_too id number h.metadata.uuid h.id;
        marked = h.marked;
        current = current_too files after h.metadata h.current same;
        adds = λ row. (
          λ there. let found = (h.adds row).0 there in (found.0, found.1, to found.0 found.1 found.2, found.3),
          λ found. (h.adds row).1 (found.0, found.1, from found.0 found.1 found.2, found.3),
        );
        removes = λ path. (
          λ there. let found = (h.removes path).0 there in (found.0, found.1, to found.0 found.1 found.2, found.3),
          λ found. (h.removes path).1 (found.0, found.1, from found.0 found.1 found.2, found.3),
        );
      }

-- ---- what a commit leaves

-- Only the files that a version of so many new manifests is written to, and the name that its metadata is staged under, may differ.
abbrev pub KeepsOthers : Files → Files → ℕ → ℕ → Type 0
KeepsOthers before after version count =
    (path : List ℕ) → path ≢ version_path version → path ≢ path_of (list_name version) → ((number : ℕ) → number < count → path ≢ path_of (manifest_name version number)) → path ≢ path_of (staged_name version)
    → map.get after path ≡ map.get before path

module _ (files after : Files) (n count : ℕ) (free : LeavesNames files n) (others : KeepsOthers files after (n + 1) count) where
  -- what is reached isn't written
  pub reached_stays : (path : List ℕ) → IsReached files path → map.get after path ≡ map.get files path
  reached_stays path is =
      others path
      (λ same. free.metadata (n + 1) (omega arith) (subst (IsReached files) same is))
      (λ same. free.lists (n + 1) (omega arith) (subst (IsReached files) same is))
      (λ number under same. free.manifests (n + 1) number (omega arith) (subst (IsReached files) same is))
      (λ same. free.staged (n + 1) (subst (IsReached files) same is))

  other_version : n + 1 ≤ MAX_ICEBERG_VERSION → (version : ℕ) → version ≢ n + 1 → map.get after (version_path version) ≡ map.get files (version_path version)
  other_version within version other =
      others (version_path version)
      (λ same. other (one_version version (n + 1) (omega (arith, within)) same))
      (version_list version (n + 1))
      (λ number under. version_manifest version (n + 1) number)
      (version_staged version (n + 1))

  version_by : n + 1 ≤ MAX_ICEBERG_VERSION → (version : ℕ) (b : Bool) → (version == n + 1) ≡ b → HasVersion after version → (version ≡ n + 1) ⊎ HasVersion files version
  version_by within version true is there = inl ((Decides-eqb version (n + 1)).0 is)
  version_by within version false is there = inr (version_at after files version (sym (other_version within version (λ same. false_true ((sym is) ∙ (Decides-eqb version (n + 1)).1 same)))) there)
    where
      false_true : false ≡ true → ⊥
      false_true e = cc e

  -- a version is the new one, or was there
  pub version_cases : n + 1 ≤ MAX_ICEBERG_VERSION → (version : ℕ) → HasVersion after version → (version ≡ n + 1) ⊎ HasVersion files version
  version_cases within version there = version_by within version (version == n + 1) refl there
