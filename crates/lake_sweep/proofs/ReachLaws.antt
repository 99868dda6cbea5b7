-- What was read of an Iceberg table's versions is all that they reach.
use Rattle.std.proofs.Common.{◌≡◌, ◌⊎◌, inl, inr, ⊎_elim, ℕ, List, codes, get_or, length, Contains, refl, sym, ap, subst, ◌∙◌, arith}
use Rattle.std.specs.Prelude.{◌↔◌, IsSome}
use Rattle.std.specs.FinMap as map
use Rattle.std.specs.List.Sorted.{IsStrictlySortedBy}
use Rattle.std.specs.Ordering.{nat_cmp}
use Rattle.lake_store.specs.Disk.{Files, names_in}
use Rattle.lake_store.proofs.OrderLaws.{names_in_listed}
use Rattle.table_history.specs.declared.kind.Kind.TheVariants.{Iceberg}
use Rattle.iceberg_live.specs.MetadataPaths.{IsMetadataPath}
use Rattle.iceberg_manifest.specs.declared.info.ManifestInfo.{ManifestInfo}
use Rattle.iceberg_metadata.specs.Grammar.{IsMetadataText}
use Rattle.iceberg_metadata.specs.declared.metadata.Metadata.{Metadata}
use Rattle.iceberg_metadata.specs.declared.metadata.Snapshot.{Snapshot}
use Rattle.iceberg_metadata.proofs.OnceLemmas.{text_once}
use Rattle.iceberg_table.specs.Folder.{HasVersion, metadata_folder, path_of, version_path}
use Rattle.iceberg_table.specs.Lists.{AreRows, IsListed, SaysList}
use Rattle.iceberg_table.specs.declared.list.ManifestFile.{ManifestFile}
use Rattle.iceberg_table.proofs.EachLaws.{each_back, each_of}
use Rattle.iceberg_table.proofs.ListLaws.{path_once}
use Rattle.iceberg_table.proofs.ManifestLaws.{held_once}
use Rattle.iceberg_table.proofs.OnceLaws.{rows_once}
use Rattle.target_leftovers.specs.Leftovers.{IsLeftover}
use Rattle.target_leftovers.specs.Names.{IsIcebergName}
use Rattle.target_leftovers.specs.Reached.{IsReached, NamesList, NamesManifest}
use Rattle.target_leftovers.proofs.ProperLaws.{iceberg_is_proper}
use Rattle.lake_sweep.specs.Picking.{ArePicked}
use Rattle.lake_sweep.specs.Plan.{IsPlan}
use Rattle.lake_sweep.specs.Reading.{HasReadVersions, IsFree, IsNamedIn, IsWhole, ListOf, NamesPath, list_at}
use Rattle.lake_sweep.specs.Refusals.{AreAllVersionsRead}
use Rattle.lake_sweep.specs.Versions.{CountsReached, CountsVersions, SaysLists}
use Rattle.lake_sweep.specs.declared.reached.Reached.{Reached}
use Rattle.lake_sweep.proofs.ReadingLaws.{version_read}

module _ (files : Files) (versions : List ℕ) (r : Reached) (has : HasReadVersions files versions r) (all : (v : ℕ) → Contains versions v ↔ HasVersion files v) where
  -- ---- what was read is reached

  module _ (l : ListOf) (within : Contains has.lists l) where
    abbrev source : (v : ℕ) × Contains versions v × ((ps : List (List ℕ)) × SaysLists files v l.metadata ps × Contains ps l.path)
    source = has.are.from l within

    list_named : NamesList files l.path
    list_named =
        let v = source.0 in
        let ps = source.2.0 in
        let says = source.2.1 in
        let s = each_back (λ (s : Snapshot). IsMetadataPath l.metadata.location s.list) l.metadata.snapshots ps l.path says.lists source.2.2 in
        record {
          version = v;
          there = (all v).0 source.1;
          bytes = says.says.bytes;
          holds = says.says.holds;
          readings = says.says.read.readings;
          metadata = l.metadata;
          text = says.says.read.text;
          snapshot = s.0;
          held = s.1;
          is = s.2;
        }

    manifest_named : (list : List ManifestFile) → SaysList files l.metadata l.path list → (q : List ℕ) → IsNamedIn list q → NamesManifest files q
    unfolding list_named
    manifest_named list says q h =
        let row = each_back (IsListed l.metadata) says.infos list h.0 says.listed h.1 in
        record { list = l.path; names = list_named; bytes = says.bytes; holds = says.holds; infos = says.infos; rows = says.rows; info = row.0; row = row.1; is = subst (λ (p : List ℕ). IsMetadataPath l.metadata.location row.0.manifest_path p) (sym h.2) row.2.path }

  named : (q : List ℕ) → (l : ListOf) × Contains has.lists l × NamesPath files l q → NamesList files q ⊎ NamesManifest files q
  named q (l, within, inl is) = inl (subst (λ (p : List ℕ). NamesList files p) (sym is) (list_named l within))
  named q (l, within, inr (list, says, there)) = inr (manifest_named l within list says q there)

  -- ---- what is reached was read

  module _ (q : List ℕ) (h : NamesList files q) where
    abbrev held : (m : Metadata) × (ps : List (List ℕ)) × SaysLists files h.version m ps × ((p : List ℕ) → Contains ps p → Contains has.lists (list_at m p))
    held = has.are.all h.version ((all h.version).1 h.there)

    same_metadata : h.metadata ≡ held.0
    same_metadata =
        let says = held.2.says in
        let bytes : h.bytes ≡ says.bytes = held_once files (version_path h.version) h.bytes says.bytes h.holds says.holds in
        text_once says.bytes h.readings says.read.readings h.metadata held.0 (subst (λ (bs : List ℕ). IsMetadataText bs h.readings h.metadata) bytes h.text) says.read.text

    list_of : (p : List ℕ) × Contains held.1 p × IsMetadataPath held.0.location h.snapshot.list p
    list_of = each_of (λ (s : Snapshot). IsMetadataPath held.0.location s.list) held.0.snapshots held.1 h.snapshot held.2.lists (subst (λ (m : Metadata). Contains m.snapshots h.snapshot) same_metadata h.held)

    same_path : list_of.0 ≡ q
    same_path = path_once held.0.location h.snapshot.list list_of.0 q list_of.2 (subst (λ (m : Metadata). IsMetadataPath m.location h.snapshot.list q) same_metadata h.is)

    pub was_listed : Contains has.lists (list_at held.0 q)
    was_listed = held.3 q (subst (λ (p : List ℕ). Contains held.1 p) same_path list_of.1)

  list_in : (q : List ℕ) → NamesList files q → Contains r.paths.keys q
  list_in q h = (has.read.members q).1 (list_at (held q h).0 q, was_listed q h, inl refl)

  manifest_in : (q : List ℕ) → NamesManifest files q → Contains r.paths.keys q
  manifest_in q h =
      let m = (held h.list h.names).0 in
      let l : ListOf = list_at m h.list in
      let read = has.read.read l (was_listed h.list h.names) in
      let says = read.says in
      let bytes : h.bytes ≡ says.bytes = held_once files h.list h.bytes says.bytes h.holds says.holds in
      let infos : h.infos ≡ says.infos = rows_once says.bytes h.infos says.infos (subst (λ (bs : List ℕ). AreRows bs h.infos) bytes h.rows) says.rows in
      let row = each_of (IsListed m) says.infos read.list h.info says.listed (subst (λ (l : List ManifestInfo). Contains l h.info) infos h.row) in
      let place : IsMetadataPath m.location h.info.manifest_path q = subst (λ (n : Metadata). IsMetadataPath n.location h.info.manifest_path q) (same_metadata h.list h.names) h.is in
      let same : q ≡ row.0.path = path_once m.location h.info.manifest_path q row.0.path place row.2.path in
      (has.read.members q).1 (l, was_listed h.list h.names, inr (read.list, says, (row.0, row.1, same)))

  pub whole : IsWhole files r
  whole = record { members = λ q. (λ there. named q ((has.read.members q).0 there), λ h. ⊎_elim (list_in q) (manifest_in q) h) }

  pub all_read : AreAllVersionsRead files
  all_read v any there = version_read files versions r has v ((all v).1 there)

  pub counted : CountsReached files (length r.paths.keys)
  counted = record { paths = r.paths.keys; distinct = has.read.distinct; members = whole.members; count_is = refl }

-- so many versions are there
pub versions_counted : (files : Files) (versions : List ℕ) → IsStrictlySortedBy nat_cmp versions → ((v : ℕ) → Contains versions v ↔ HasVersion files v) → CountsVersions files (length versions)
versions_counted files versions rising all = record { versions = versions; rising = rising; members = all; count_is = refl }

-- a version's metadata has no name that a commit writes under
not_version : (name : List ℕ) (v : ℕ) → IsIcebergName name → path_of name ≡ version_path v → ⊥
not_version name v (IsIcebergName.staged n plain is) same = let no : 108 ≡ 118 = ap (λ (p : List ℕ). get_or p 9 0) (ap path_of (sym is) ∙ same) in absurd (omega (arith, no))
not_version name v (IsIcebergName.list n plain is) same = let no : 108 ≡ 118 = ap (λ (p : List ℕ). get_or p 9 0) (ap path_of (sym is) ∙ same) in absurd (omega (arith, no))
not_version name v (IsIcebergName.manifest n k first second is) same = let no : 108 ≡ 118 = ap (λ (p : List ℕ). get_or p 9 0) (ap path_of (sym is) ∙ same) in absurd (omega (arith, no))

module _ (files : Files) (r : Reached) (is_whole : IsWhole files r) where
  unreached : (name : List ℕ) → IsFree r name → IsReached files (path_of name) → ⊥
  unreached name free (IsReached.metadata v there is) = not_version name v free.0 is
  unreached name free (IsReached.list h) = free.1 ((is_whole.members (path_of name)).1 (inl h))
  unreached name free (IsReached.manifest h) = free.1 ((is_whole.members (path_of name)).1 (inr h))

  free_of : (name : List ℕ) → IsIcebergName name → ¬ IsReached files (path_of name) → IsFree r name
  free_of name named unread = (named, λ there. unread (⊎_elim (λ h. IsReached.list h) (λ h. IsReached.manifest h) ((is_whole.members (path_of name)).0 there)))

  pub iceberg_plan : (paths : List (List ℕ)) → ArePicked (IsFree r) (codes "metadata/") (names_in files metadata_folder) paths → IsPlan Iceberg files paths
  iceberg_plan paths h =
      let listed = names_in_listed files metadata_folder in
      record {
        order = h.order;
        members = λ q. (
          λ within.
              let at = (h.members q).0 within in
              let is = (listed.members at.0).0 at.1 in
              record {
                there = subst (λ (p : List ℕ). IsSome (map.get files p)) (sym at.3) is.1;
                leftover = record { name = at.0; named = at.2.0; is = at.3; unreached = λ reached. unreached at.0 at.2 (subst (λ (p : List ℕ). IsReached files p) at.3 reached) };
              },
          λ (l : IsLeftover Iceberg files q).
              let d = l.leftover in
              (h.members q).1 (
                d.name,
                (listed.members d.name).1 (iceberg_is_proper d.name d.named, subst (λ (p : List ℕ). IsSome (map.get files p)) d.is l.there),
                free_of d.name d.named (subst (λ (p : List ℕ). ¬ IsReached files p) d.is d.unreached),
                d.is,
              ),
        );
      }
