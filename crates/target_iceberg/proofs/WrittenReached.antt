-- What the files behind a commit reach: what was reached before, and the new version, its list and its manifests. Commits can go on from them.
use Rattle.std.proofs.Common.{◌≡◌, ◌⊎◌, inl, inr, ⊎_elim, ℕ, ◌+◌, ◌<◌, ◌^◌, List, map, length, Contains, refl, sym, ap, subst, ◌∙◌, arith}
use Rattle.std.specs.FinMap as map
use Rattle.lake_store.specs.Disk.{Files}
use Rattle.table_history.specs.Row.{Row}
use Rattle.table_history.specs.declared.table.Commit.{Commit}
use Rattle.table_history.proofs.RowListLemmas.{Contains-none}
use Rattle.iceberg_live.specs.MetadataPaths.{IsMetadataPath}
use Rattle.iceberg_manifest.specs.declared.info.ManifestInfo.{ManifestInfo}
use Rattle.iceberg_metadata.specs.Grammar.{IsMetadataText}
use Rattle.iceberg_metadata.specs.declared.metadata.Metadata.{Metadata}
use Rattle.iceberg_metadata.specs.declared.metadata.Snapshot.{Snapshot}
use Rattle.iceberg_metadata.proofs.OnceLemmas.{text_once}
use Rattle.iceberg_table.specs.Files.{HoldsFile}
use Rattle.iceberg_table.specs.Folder.{HasVersion, path_of, version_path}
use Rattle.iceberg_table.specs.Lists.{AreRows, IsListed}
use Rattle.iceberg_table.specs.declared.list.ManifestFile.{ManifestFile}
use Rattle.iceberg_table.proofs.EachLaws.{each_of}
use Rattle.iceberg_table.proofs.ListLaws.{path_once}
use Rattle.iceberg_table.proofs.ManifestLaws.{held_once}
use Rattle.iceberg_table.proofs.OnceLaws.{rows_once}
use Rattle.iceberg_version.specs.Manifests.{LiveManifest, NextManifest, new, stays}
use Rattle.iceberg_version.specs.Names.{list_name, manifest_name, staged_name}
use Rattle.iceberg_version.specs.Writing.{TableEnd}
use Rattle.target_core.specs.Views.{Origin}
use Rattle.target_iceberg.specs.Reached as reached
use Rattle.target_iceberg.specs.Reached.{IsReached, LeavesNames, NamesList, NamesManifest}
use Rattle.target_iceberg.proofs.WrittenFiles.{reached_stays, version_stays}
use Rattle.target_iceberg.proofs.WrittenManifests.{IsPlacedNext}
use Rattle.target_iceberg.proofs.WrittenNames.{list_manifest, list_staged, manifest_staged, one_list, one_manifest, one_version, version_list, version_manifest, version_staged}
use Rattle.target_iceberg.proofs.WrittenNew.{new_cases}
use Rattle.target_iceberg.proofs.WrittenStart.{HasEnd, IsFirstEnd}
use Rattle.target_iceberg.proofs.WrittenCurrent as written
use Rattle.target_iceberg.proofs.WrittenVersion as version
use Rattle.target_iceberg.proofs.WrittenVersion.{HasCommitted}

-- a path that the new version, of so many new manifests, is written to
pub data IsNewPath (number count : ℕ) (path : List ℕ) : Type 0 where
  metadata : path ≡ version_path number → IsNewPath number count path
  list : path ≡ path_of (list_name number) → IsNewPath number count path
  manifest : (k : ℕ) → k < count → path ≡ path_of (manifest_name number k) → IsNewPath number count path

-- The list was named before, by metadata of the same location.
record WasNamed (files after : Files) (path : List ℕ) (nl : NamesList after path) : Type 0 where
  names : NamesList files path
  location : names.metadata.location ≡ nl.metadata.location

module _ (files after : Files) (id location : List ℕ) (rows : List Row) (end : TableEnd) (origin : Origin) (now : ℕ) (commit : Commit) (h : HasCommitted files after id location rows end origin now commit) where
  abbrev again : Metadata
  again = version.again files after id location rows end origin now commit h

  abbrev count : ℕ
  count = length h.writes.written.texts

  abbrev number : ℕ
  number = end.version + 1

  stay : (path : List ℕ) → IsReached files path → map.get after path ≡ map.get files path
  stay path is = reached_stays files after end.version count h.start.free h.writes.others path is

  new_location : again.location ≡ end.metadata.location
  new_location = (version.new files after id location rows end origin now commit h).location

  -- ---- lists

  -- the new list, named by the new metadata
  abbrev IsNewList : (path : List ℕ) → NamesList after path → Type 0
  IsNewList path nl = (path ≡ path_of (list_name number)) × (nl.metadata.location ≡ again.location)

  old_list : (path : List ℕ) (nl : NamesList after path) → HasVersion files nl.version → WasNamed files after path nl
  old_list path nl there = record {
    names = record {
      version = nl.version;
      there = there;
      bytes = nl.bytes;
      holds = sym (version_stays files after stay nl.version there) ∙ nl.holds;
      readings = nl.readings;
      metadata = nl.metadata;
      text = nl.text;
      snapshot = nl.snapshot;
      held = nl.held;
      is = nl.is;
    };
    location = refl;
  }

  -- a list that the new metadata names for a snapshot that was held before
  held_before : (path : List ℕ) (nl : NamesList after path) → nl.metadata ≡ again → Contains end.metadata.snapshots nl.snapshot → WasNamed files after path nl
  held_before path nl same old = by h.start.base
    where
      by : IsFirstEnd files id location end ⊎ HasEnd files end → WasNamed files after path nl
      by (inl first) = absurd (Contains-none nl.snapshot (subst (λ (m : Metadata). Contains m.snapshots nl.snapshot) first.metadata old))
      by (inr has) =
          let at : has.metadata.location ≡ nl.metadata.location = ap (λ (m : Metadata). m.location) (sym has.same.others) ∙ sym new_location ∙ ap (λ (m : Metadata). m.location) (sym same) in
          record {
            names = record {
              version = end.version;
              there = has.newest.there;
              bytes = has.says.bytes;
              holds = has.says.holds;
              readings = has.says.read.readings;
              metadata = has.metadata;
              text = has.says.read.text;
              snapshot = nl.snapshot;
              held = subst (λ (m : Metadata). Contains m.snapshots nl.snapshot) has.same.others old;
              is = subst (λ (l : List ℕ). IsMetadataPath l nl.snapshot.list path) (sym at) nl.is;
            };
            location = at;
          }

  new_list : (path : List ℕ) (nl : NamesList after path) → nl.metadata ≡ again → version.snapshot files after id location rows end origin now commit h ≡ nl.snapshot → IsNewList path nl
  new_list path nl same is =
      let planned = version.planned files after id location rows end origin now commit h in
      let mine : IsMetadataPath again.location nl.snapshot.list (path_of (list_name number)) = subst (λ (s : Snapshot). IsMetadataPath again.location s.list (path_of (list_name number))) is planned.list in
      let theirs : IsMetadataPath again.location nl.snapshot.list path = subst (λ (m : Metadata). IsMetadataPath m.location nl.snapshot.list path) same nl.is in
      (path_once again.location nl.snapshot.list path (path_of (list_name number)) theirs mine, ap (λ (m : Metadata). m.location) same)

  at_new : (path : List ℕ) (nl : NamesList after path) → nl.version ≡ number → WasNamed files after path nl ⊎ IsNewList path nl
  at_new path nl at =
      let said = version.said files after id location rows end origin now commit h in
      let holds : HoldsFile after (version_path number) nl.bytes = subst (λ (v : ℕ). HoldsFile after (version_path v) nl.bytes) at nl.holds in
      let bytes = held_once after (version_path number) nl.bytes said.bytes holds said.holds in
      let same : nl.metadata ≡ again = text_once said.bytes nl.readings said.read.readings nl.metadata again (subst (λ (bs : List ℕ). IsMetadataText bs nl.readings nl.metadata) bytes nl.text) said.read.text in
      let held : Contains again.snapshots nl.snapshot = subst (λ (m : Metadata). Contains m.snapshots nl.snapshot) same nl.held in
      ⊎_elim
      (λ old. inl (held_before path nl same old))
      (λ is. inr (new_list path nl same is))
      (new_cases end (version.sound files after id location rows end origin now commit h) h.writes.is.schemas h.writes.is.fields (version.snapshot files after id location rows end origin now commit h) refl refl again (version.new files after id location rows end origin now commit h) nl.snapshot held)

  list_cases : (path : List ℕ) (nl : NamesList after path) → WasNamed files after path nl ⊎ IsNewList path nl
  list_cases path nl =
      ⊎_elim (λ at. at_new path nl at) (λ there. inl (old_list path nl there)) (version.cases files after id location rows end origin now commit h nl.version nl.there)

  -- ---- manifests

  old_manifest : (path : List ℕ) (nm : NamesManifest after path) → WasNamed files after nm.list nm.names → IsReached files path
  old_manifest path nm was = reached.manifest (record {
    list = nm.list;
    names = was.names;
    bytes = nm.bytes;
    holds = sym (stay nm.list (reached.list was.names)) ∙ nm.holds;
    infos = nm.infos;
    rows = nm.rows;
    info = nm.info;
    row = nm.row;
    is = subst (λ (l : List ℕ). IsMetadataPath l nm.info.manifest_path path) (sym was.location) nm.is;
  })

  from_next : (nx : NextManifest) (l : LiveManifest) (p : IsPlacedNext files after end.version count again h.writes.is.columns nx l) → IsReached files p.placed.file.path ⊎ IsNewPath number count p.placed.file.path
  from_next (stays m) l p = inl p.made.0
  from_next (new es rs) l p = inr (IsNewPath.manifest p.made.2.0 p.made.2.1 p.made.2.2)

  new_manifest : (path : List ℕ) (nm : NamesManifest after path) → IsNewList nm.list nm.names → IsReached files path ⊎ IsNewPath number count path
  new_manifest path nm is =
      let gathered = written.gathered files after id location rows end origin now commit h in
      let infos = map (λ (m : LiveManifest). m.info) h.writes.written.manifests in
      let holds : HoldsFile after (path_of (list_name number)) nm.bytes = subst (λ (p : List ℕ). HoldsFile after p nm.bytes) is.0 nm.holds in
      let bytes = held_once after (path_of (list_name number)) nm.bytes h.writes.written.list holds h.writes.list in
      let same : nm.infos ≡ infos = rows_once h.writes.written.list nm.infos infos (subst (λ (bs : List ℕ). AreRows bs nm.infos) bytes nm.rows) h.writes.back.list in
      let file = each_of (IsListed again) infos gathered.list nm.info gathered.rows (subst (λ (l : List ManifestInfo). Contains l nm.info) same nm.row) in
      let theirs : IsMetadataPath again.location nm.info.manifest_path path = subst (λ (l : List ℕ). IsMetadataPath l nm.info.manifest_path path) is.1 nm.is in
      let at : file.0.path ≡ path = path_once again.location nm.info.manifest_path file.0.path path file.2.path theirs in
      let found = gathered.each file.0 file.1 in
      let whole : found.2.placed.file.path ≡ path = ap (λ (f : ManifestFile). f.path) found.4 ∙ at in
      subst (λ (p : List ℕ). IsReached files p ⊎ IsNewPath number count p) whole (from_next found.0 found.1 found.2)

  -- ---- all paths

  pub reached_cases : (path : List ℕ) → IsReached after path → IsReached files path ⊎ IsNewPath number count path
  reached_cases path (reached.metadata v there is) =
      ⊎_elim
      (λ (at : v ≡ number). inr (IsNewPath.metadata (is ∙ ap version_path at)))
      (λ old. inl (reached.metadata v old is))
      (version.cases files after id location rows end origin now commit h v there)
  reached_cases path (reached.list nl) =
      ⊎_elim (λ (was : WasNamed files after path nl). inl (reached.list was.names)) (λ (is : IsNewList path nl). inr (IsNewPath.list is.0)) (list_cases path nl)
  reached_cases path (reached.manifest nm) = ⊎_elim (λ was. inl (old_manifest path nm was)) (λ is. new_manifest path nm is) (list_cases nm.list nm.names)

  small : number < 2 ^ 32
  small = let within = version.within files after id location rows end origin now commit h in omega (arith, within)

  never : (path : List ℕ) → (IsReached files path → ⊥) → (IsNewPath number count path → ⊥) → IsReached after path → ⊥
  never path old fresh is = ⊎_elim old fresh (reached_cases path is)

  other_staged : (v : ℕ) → IsNewPath number count (path_of (staged_name v)) → ⊥
  other_staged v (IsNewPath.metadata is) = version_staged number v (sym is)
  other_staged v (IsNewPath.list is) = list_staged number v (sym is)
  other_staged v (IsNewPath.manifest k under is) = manifest_staged number k v (sym is)

  other_metadata : (v : ℕ) → number < v → IsNewPath number count (version_path v) → ⊥
  other_metadata v later (IsNewPath.metadata is) = let same = one_version v number small is in omega (arith, later, same)
  other_metadata v later (IsNewPath.list is) = version_list v number is
  other_metadata v later (IsNewPath.manifest k under is) = version_manifest v number k is

  other_list : (v : ℕ) → number < v → IsNewPath number count (path_of (list_name v)) → ⊥
  other_list v later (IsNewPath.metadata is) = version_list number v (sym is)
  other_list v later (IsNewPath.list is) = let same = one_list v number small is in omega (arith, later, same)
  other_list v later (IsNewPath.manifest k under is) = list_manifest v number k is

  other_manifest : (v j : ℕ) → number < v → IsNewPath number count (path_of (manifest_name v j)) → ⊥
  other_manifest v j later (IsNewPath.metadata is) = version_manifest number v j (sym is)
  other_manifest v j later (IsNewPath.list is) = list_manifest number v j (sym is)
  other_manifest v j later (IsNewPath.manifest k under is) = let same = one_manifest v j number k small is in omega (arith, later, same)

  pub leaves : LeavesNames after number
  leaves = record {
    staged = λ v. never (path_of (staged_name v)) (h.start.free.staged v) (other_staged v);
    metadata = λ v later. never (version_path v) (h.start.free.metadata v (omega (arith, later))) (other_metadata v later);
    lists = λ v later. never (path_of (list_name v)) (h.start.free.lists v (omega (arith, later))) (other_list v later);
    manifests = λ v j later. never (path_of (manifest_name v j)) (h.start.free.manifests v j (omega (arith, later))) (other_manifest v j later);
  }
