-- The rows of a current snapshot's manifests are those that are live in it.
use Rattle.std.proofs.Common.{◌≡◌, ◌≢◌, ◌↔◌, ⊎_elim, ℕ, pos, List, [], Contains, refl, sym, subst}
use Rattle.std.specs.List.{filter}
use Rattle.lake_store.specs.Disk.{Files}
use Rattle.table_history.specs.Row.{Row}
use Rattle.table_history.proofs.RowListLemmas.{Contains-filter, Contains-none, filter_contains}
use Rattle.iceberg_manifest.specs.Entry.{EntryData}
use Rattle.iceberg_live.specs.Live.{IsRowOf}
use Rattle.iceberg_manifest.specs.Entry.{is_live}
use Rattle.iceberg_live.specs.declared.live.LiveRow.{LiveRow}
use Rattle.iceberg_manifest.specs.declared.partition.PartColumn.{PartColumn}
use Rattle.iceberg_columns.specs.declared.columns.SourceColumn.{SourceColumn}
use Rattle.iceberg_metadata.specs.declared.metadata.Metadata.{Metadata}
use Rattle.iceberg_table.specs.Lists.{SaysList}
use Rattle.iceberg_table.specs.Manifests.{HasEntries, IsManifestOf, SaysManifest}
use Rattle.iceberg_table.specs.Plan.{part_columns}
use Rattle.iceberg_table.specs.Snapshots.{IsLiveIn}
use Rattle.iceberg_table.specs.Tables.{rows_in, rows_of}
use Rattle.iceberg_table.specs.declared.list.ManifestFile.{ManifestFile}
use Rattle.iceberg_table.specs.declared.manifest.Manifest.{Manifest}
use Rattle.iceberg_table.proofs.EachLaws.{each_back, each_of}
use Rattle.iceberg_table.proofs.LiveLaws.{columns_same, list_same, live_true, of_flat, row_once}
use Rattle.iceberg_version.proofs.Shared.{in_flat, in_map, of_map}
use Rattle.target_iceberg.specs.Reading.{SaysCurrent}
use Rattle.target_iceberg.specs.OnceLemmas.{list_once}

-- ---- lists

module _ (files : Files) (m : Metadata) (current : SaysCurrent files m) where
  abbrev columns : List PartColumn
  columns = part_columns current.plan.columns

  live_by : (r : Manifest) (file : ManifestFile) (live : LiveRow) → Contains current.list file → IsManifestOf files m.location columns file r → Contains r.rows live → IsLiveIn files m current.snapshot live.row
  live_by r file live named is there = ⊎_elim data_rows (λ (none : (file.info.content ≢ pos 0) × ((all : List LiveRow) × HasEntries files m.location columns (record { file = r.file; entries = r.entries; rows = all })) × (r.rows ≡ [])). absurd (Contains-none live (subst (λ (l : List LiveRow). Contains l live) none.2 there))) is.1
    where
      data_rows : (file.info.content ≡ pos 0) × HasEntries files m.location columns r → IsLiveIn files m current.snapshot live.row
      data_rows d =
          let back = each_back (IsRowOf m.location r.file.info) (filter is_live d.1.entries) r.rows live d.1.rows there in
          record {
            plan = current.plan;
            planned = current.says.planned;
            list = current.list;
            listed = current.says.says;
            file = file;
            named = named;
            of_data = d.0;
            entries = d.1.entries;
            says = subst (λ (f : ManifestFile). SaysManifest files columns f.path d.1.entries) is.0 d.1.says;
            entry = back.0;
            held = (Contains-filter is_live d.1.entries back.0 back.1).0;
            live = live;
            is = subst (λ (f : ManifestFile). IsRowOf m.location f.info back.0 live) is.0 back.2;
            same = refl;
          }

  read_live : (row : Row) → Contains (rows_of current.manifests) row → IsLiveIn files m current.snapshot row
  read_live row there =
      let at = of_flat current.manifests row there in
      let live = of_map (λ (l : LiveRow). l.row) at.0.rows row at.2 in
      let file = each_back (IsManifestOf files m.location columns) current.list current.manifests at.0 current.says.are at.1 in
      subst (IsLiveIn files m current.snapshot) live.2 (live_by at.0 file.0 live.0 file.1 file.2 live.1)

  there_by : (l : EntryData) (live : LiveRow) (file : ManifestFile) (r : Manifest) (entries : List EntryData) → Contains current.manifests r → IsManifestOf files m.location columns file r → file.info.content ≡ pos 0 → SaysManifest files columns file.path entries → Contains entries l → IsRowOf m.location file.info l live → Contains (rows_of current.manifests) live.row
  there_by l live file r entries at is zero says held row =
      ⊎_elim data_rows (λ (none : (file.info.content ≢ pos 0) × ((all : List LiveRow) × HasEntries files m.location columns (record { file = r.file; entries = r.entries; rows = all })) × (r.rows ≡ [])). absurd (none.0 zero)) is.1
    where
      data_rows : (file.info.content ≡ pos 0) × HasEntries files m.location columns r → Contains (rows_of current.manifests) live.row
      data_rows d =
          let mine : entries ≡ d.1.entries = d.1.only entries (subst (λ (f : ManifestFile). SaysManifest files columns f.path entries) (sym is.0) says) in
          let among = filter_contains is_live d.1.entries l (subst (λ (es : List EntryData). Contains es l) mine held) (live_true l row.live) in
          let found = each_of (IsRowOf m.location r.file.info) (filter is_live d.1.entries) r.rows l d.1.rows among in
          let theirs = subst (λ (f : ManifestFile). IsRowOf m.location f.info l live) (sym is.0) row in
          let same = row_once m.location r.file.info l found.0 live found.2 theirs in
          in_flat (λ (q : Manifest). rows_in q.rows) current.manifests r live.row at (subst (λ (w : Row). Contains (rows_in r.rows) w) same (in_map (λ (k : LiveRow). k.row) r.rows found.0 found.1))

  live_read : (row : Row) → IsLiveIn files m current.snapshot row → Contains (rows_of current.manifests) row
  live_read row l =
      let list = list_same m current.snapshot l.plan current.plan l.planned current.says.planned in
      let same_columns = columns_same m current.snapshot l.plan current.plan l.planned current.says.planned in
      let files_are : l.list ≡ current.list = list_once files m current.plan.list l.list current.list (subst (λ (p : List ℕ). SaysList files m p l.list) list l.listed) current.says.says in
      let at = each_of (IsManifestOf files m.location columns) current.list current.manifests l.file current.says.are (subst (λ (fs : List ManifestFile). Contains fs l.file) files_are l.named) in
      let says = subst (λ (cs : List SourceColumn). SaysManifest files (part_columns cs) l.file.path l.entries) same_columns l.says in
      subst (Contains (rows_of current.manifests)) l.same (there_by l.entry l.live l.file at.0 l.entries at.1 at.2 l.of_data says l.held l.is)

  -- the rows of its manifests are those that are live
  pub live_are : (row : Row) → Contains (rows_of current.manifests) row ↔ IsLiveIn files m current.snapshot row
  live_are row = (read_live row, live_read row)
