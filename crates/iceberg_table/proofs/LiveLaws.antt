-- The rows that are read are those that are live in the snapshot.
use Rattle.std.proofs.Common.{◌≡◌, ◌≢◌, ◌⊎◌, ℕ, ◌<◌, List, [], ◌∷◌, Bool, true, false, cond, Contains, Ok, refl, sym, ap, subst, ◌∙◌, inl, inr, ⊎_elim, arith}
use Rattle.std.specs.Prelude.{pos}
use Rattle.std.specs.List.{filter}
use Rattle.std.proofs.lemmas.Bool.Decides.{nat_tests}
use Rattle.std.proofs.lemmas.List.{append_cancel_left}
use Rattle.std.proofs.lemmas.List.Elements.{Contains-append_cases, Contains-append_left, Contains-append_right}
use Rattle.table_history.specs.Row.{Row}
use Rattle.table_history.proofs.RowListLemmas.{Contains-cases, Contains-filter, Contains-head, Contains-none, Contains-tail}
use Rattle.iceberg_manifest.specs.Entry.{EntryData}
use Rattle.iceberg_metadata.specs.Location.{front_of}
use Rattle.iceberg_live.specs.Live.{IsRowOf}
use Rattle.iceberg_manifest.specs.Entry.{is_live}
use Rattle.iceberg_manifest.specs.declared.info.ManifestInfo.{ManifestInfo}
use Rattle.iceberg_live.specs.declared.live.LiveRow.{LiveRow}
use Rattle.iceberg_manifest.specs.declared.partition.PartColumn.{PartColumn}
use Rattle.iceberg_columns.specs.SourceColumns.{columns_of}
use Rattle.iceberg_metadata.specs.Schemas.{HeldSchema}
use Rattle.iceberg_columns.specs.declared.columns.SourceColumn.{SourceColumn}
use Rattle.iceberg_metadata.specs.declared.metadata.Metadata.{Metadata}
use Rattle.iceberg_metadata.specs.declared.metadata.Snapshot.{Snapshot}
use Rattle.lake_store.specs.Disk.{Files}
use Rattle.iceberg_table.specs.Lists.{SaysList}
use Rattle.iceberg_table.specs.Manifests.{HasEntries, IsManifestOf, SaysManifest}
use Rattle.iceberg_table.specs.Plan.{IsPlanOf, part_columns, snapshot_schema}
use Rattle.iceberg_table.specs.Snapshots.{IsLiveIn, IsReadBy, IsTableOfSnapshot}
use Rattle.iceberg_table.specs.Tables.{rows_in, rows_of}
use Rattle.iceberg_table.specs.declared.list.ManifestFile.{ManifestFile}
use Rattle.iceberg_table.specs.declared.manifest.Manifest.{Manifest}
use Rattle.iceberg_table.specs.declared.plan.Plan.{Plan}
use Rattle.iceberg_table.specs.declared.snapshot.SnapshotTable.{SnapshotTable}
use Rattle.iceberg_table.proofs.EachLaws.{each_back, each_of}
use Rattle.iceberg_table.proofs.ListLaws.{path_once}
use Rattle.lake_basics.proofs.Options.{ok_once}

-- ---- lists

pub in_map : (rows : List LiveRow) (live : LiveRow) → Contains rows live → Contains (rows_in rows) live.row
in_map [] live there = absurd (Contains-none live there)
in_map (r ∷ rows) live there =
    ⊎_elim (λ same. subst (λ (l : LiveRow). Contains (rows_in (r ∷ rows)) l.row) same (Contains-head r.row (rows_in rows))) (λ later. Contains-tail r.row (rows_in rows) live.row (in_map rows live later)) (Contains-cases r rows live there)

pub of_map : (rows : List LiveRow) (row : Row) → Contains (rows_in rows) row → (live : LiveRow) × Contains rows live × (live.row ≡ row)
of_map [] row there = absurd (Contains-none row there)
of_map (r ∷ rows) row there =
    ⊎_elim (λ same. (r, Contains-head r rows, same)) (λ later. let rest = of_map rows row later in (rest.0, Contains-tail r rows rest.0 rest.1, rest.2)) (Contains-cases r.row (rows_in rows) row there)

pub in_flat : (rs : List Manifest) (r : Manifest) (row : Row) → Contains rs r → Contains (rows_in r.rows) row → Contains (rows_of rs) row
in_flat [] r row there within = absurd (Contains-none r there)
in_flat (q ∷ rs) r row there within =
    ⊎_elim
    (λ same. Contains-append_left (rows_in q.rows) (rows_of rs) row (subst (λ (m : Manifest). Contains (rows_in m.rows) row) (sym same) within))
    (λ later. Contains-append_right (rows_in q.rows) (rows_of rs) row (in_flat rs r row later within))
    (Contains-cases q rs r there)

pub of_flat : (rs : List Manifest) (row : Row) → Contains (rows_of rs) row → (r : Manifest) × Contains rs r × Contains (rows_in r.rows) row
of_flat [] row there = absurd (Contains-none row there)
of_flat (q ∷ rs) row there =
    ⊎_elim (λ here. (q, Contains-head q rs, here)) (λ later. let rest = of_flat rs row later in (rest.0, Contains-tail q rs rest.0 rest.1, rest.2)) (Contains-append_cases (rows_in q.rows) (rows_of rs) row there)

in_filter_by : (e : EntryData) (es : List EntryData) (x : EntryData) (b : Bool) → is_live e ≡ b → is_live x ≡ true → (e ≡ x) ⊎ Contains (filter is_live es) x → Contains (cond b (e ∷ filter is_live es) (filter is_live es)) x
in_filter_by e es x true is live (inl same) = subst (Contains (e ∷ filter is_live es)) same (Contains-head e (filter is_live es))
in_filter_by e es x true is live (inr later) = Contains-tail e (filter is_live es) x later
in_filter_by e es x false is live (inl same) = let one : is_live e ≡ is_live x = ap is_live same in absurd (cc)
in_filter_by e es x false is live (inr later) = later

in_filter : (es : List EntryData) (x : EntryData) → Contains es x → is_live x ≡ true → Contains (filter is_live es) x
in_filter [] x there live = absurd (Contains-none x there)
in_filter (e ∷ es) x there live = in_filter_by e es x (is_live e) refl live (⊎_elim (λ same. inl same) (λ later. inr (in_filter es x later live)) (Contains-cases e es x there))

pub live_true : (e : EntryData) → e.status < 2 → is_live e ≡ true
live_true e low = grind (arith, nat_tests)

-- an entry has one row
pub row_once : (location : List ℕ) (info : ManifestInfo) (e : EntryData) (a b : LiveRow) → IsRowOf location info e a → IsRowOf location info e b → a.row ≡ b.row
row_once location info e a b ra rb =
    let path : a.row.path ≡ b.row.path = append_cancel_left (front_of location) a.row.path b.row.path (sym ra.place ∙ rb.place) in
    let values : a.row.values ≡ b.row.values = ra.values ∙ sym rb.values in
    let count : a.row.count ≡ b.row.count = ra.count ∙ sym rb.count in
    let size : a.row.size ≡ b.row.size = ra.size ∙ sym rb.size in
    λ i. record { path = path i; values = values i; count = count i; size = size i }

-- ---- what metadata says of a snapshot, once

pub list_same : (m : Metadata) (s : Snapshot) (a b : Plan) → IsPlanOf m s a → IsPlanOf m s b → a.list ≡ b.list
list_same m s a b pa pb = path_once m.location s.list a.list b.list pa.list pb.list

pub columns_same : (m : Metadata) (s : Snapshot) (a b : Plan) → IsPlanOf m s a → IsPlanOf m s b → a.columns ≡ b.columns
columns_same m s a b pa pb =
    let held : pa.held ≡ pb.held = ok_once (snapshot_schema m s) pa.held pb.held pa.named pb.named in
    ok_once (columns_of m pb.held) a.columns b.columns (subst (λ (h : HeldSchema). columns_of m h ≡ Ok a.columns) held pa.columns) pb.columns

-- ---- the rows

module _ (files : Files) (m : Metadata) (s : Snapshot) (plan : Plan) (planned : IsPlanOf m s plan) (t : SnapshotTable) (read : IsReadBy files m plan t) where
  abbrev columns : List PartColumn
  columns = part_columns plan.columns

  live_by : (r : Manifest) (file : ManifestFile) (live : LiveRow) → Contains read.list file → IsManifestOf files m.location columns file r → Contains r.rows live → IsLiveIn files m s live.row
  live_by r file live named is there = ⊎_elim data_rows (λ (none : (file.info.content ≢ pos 0) × ((all : List LiveRow) × HasEntries files m.location columns (record { file = r.file; entries = r.entries; rows = all })) × (r.rows ≡ [])). absurd (Contains-none live (subst (λ (l : List LiveRow). Contains l live) none.2 there))) is.1
    where
      data_rows : (file.info.content ≡ pos 0) × HasEntries files m.location columns r → IsLiveIn files m s live.row
      data_rows d =
          let back = each_back (IsRowOf m.location r.file.info) (filter is_live d.1.entries) r.rows live d.1.rows there in
          record {
            plan = plan;
            planned = planned;
            list = read.list;
            listed = read.says;
            file = file;
            named = named;
            of_data = d.0;
            entries = d.1.entries;
            says = subst (λ (f : ManifestFile). SaysManifest files columns f.path d.1.entries) is.0 d.1.says;
            entry = back.0;
            held = (Contains-filter is_live d.1.entries back.0 back.1).0;
            live = live;
            is = subst (λ (f : ManifestFile). IsRowOf m.location f.info back.0 live) is.0 back.2;
            same = refl;
          }

  read_live : (row : Row) → Contains (rows_of t.manifests) row → IsLiveIn files m s row
  read_live row there =
      let at = of_flat t.manifests row there in
      let live = of_map at.0.rows row at.2 in
      let file = each_back (IsManifestOf files m.location columns) read.list t.manifests at.0 read.manifests at.1 in
      subst (IsLiveIn files m s) live.2 (live_by at.0 file.0 live.0 file.1 file.2 live.1)

  there_by : (l : EntryData) (live : LiveRow) (file : ManifestFile) (r : Manifest) (entries : List EntryData) → Contains t.manifests r → IsManifestOf files m.location columns file r → file.info.content ≡ pos 0 → SaysManifest files columns file.path entries → Contains entries l → IsRowOf m.location file.info l live → Contains (rows_of t.manifests) live.row
  there_by l live file r entries at is zero says held row =
      ⊎_elim data_rows (λ (none : (file.info.content ≢ pos 0) × ((all : List LiveRow) × HasEntries files m.location columns (record { file = r.file; entries = r.entries; rows = all })) × (r.rows ≡ [])). absurd (none.0 zero)) is.1
    where
      data_rows : (file.info.content ≡ pos 0) × HasEntries files m.location columns r → Contains (rows_of t.manifests) live.row
      data_rows d =
          let mine : entries ≡ d.1.entries = d.1.only entries (subst (λ (f : ManifestFile). SaysManifest files columns f.path entries) (sym is.0) says) in
          let among = in_filter d.1.entries l (subst (λ (es : List EntryData). Contains es l) mine held) (live_true l row.live) in
          let found = each_of (IsRowOf m.location r.file.info) (filter is_live d.1.entries) r.rows l d.1.rows among in
          let theirs = subst (λ (f : ManifestFile). IsRowOf m.location f.info l live) (sym is.0) row in
          let same = row_once m.location r.file.info l found.0 live found.2 theirs in
          in_flat t.manifests r live.row at (subst (λ (w : Row). Contains (rows_in r.rows) w) same (in_map r.rows found.0 found.1))

  live_read : (row : Row) → IsLiveIn files m s row → Contains (rows_of t.manifests) row
  live_read row l =
      let list = list_same m s l.plan plan l.planned planned in
      let same_columns = columns_same m s l.plan plan l.planned planned in
      let files_are : l.list ≡ read.list = read.only l.list (subst (λ (p : List ℕ). SaysList files m p l.list) list l.listed) in
      let at = each_of (IsManifestOf files m.location columns) read.list t.manifests l.file read.manifests (subst (λ (fs : List ManifestFile). Contains fs l.file) files_are l.named) in
      let says = subst (λ (cs : List SourceColumn). SaysManifest files (part_columns cs) l.file.path l.entries) same_columns l.says in
      subst (Contains (rows_of t.manifests)) l.same (there_by l.entry l.live l.file at.0 l.entries at.1 at.2 l.of_data says l.held l.is)

  pub table_is : IsTableOfSnapshot files m s t.table
  table_is = record {
    plan = plan;
    planned = planned;
    schema = read.table.schema;
    partition = read.table.partition;
    rows = λ row. (λ there. read_live row ((read.table.same row).0 there), λ live. (read.table.same row).1 (live_read row live));
  }
