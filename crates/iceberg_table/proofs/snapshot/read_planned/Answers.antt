use Rattle.std.proofs.Common.{ℕ, List, ap, sym, subst, ◌∙◌}
use Rattle.lake_store.specs.Disk.{Disk}
use Rattle.lake_store.proofs.RunLaws as runs
use Rattle.iceberg_manifest.specs.Lists.{AreEach}
use Rattle.iceberg_manifest.specs.declared.partition.PartColumn.{PartColumn}
use Rattle.iceberg_table.specs.Kinds.{FitRows}
use Rattle.iceberg_table.specs.Manifests.{IsManifestOf}
use Rattle.iceberg_table.specs.Plan.{names_of, part_columns}
use Rattle.iceberg_table.specs.Tables.{AreOfContents, IsTableOfRows, TakeNoDeletes, rows_of}
use Rattle.iceberg_table.specs.declared.manifest.Manifest.{Manifest}
use Rattle.iceberg_table.proofs.SnapshotLaws.{columns_found, contents_found, many_refused, no_deletes_found, read_by, rows_found, table_sound, whole_table, with_schema}
use Rattle.iceberg_table.proofs.snapshot.read_planned.Goals as goal

pub returns-in_err-read-clause-only_reads : goal.returns-in_err-read-clause-only_reads
returns-in_err-read-clause-only_reads g c = runs.reading_further g.S.Store c.args.store.now c.read_list_file.new.store c.read_manifests.new.store c.in_ok-list.ensures.only_reads c.in_err-read.ensures.only_reads

pub returns-clause-only_reads : goal.returns-clause-only_reads
returns-clause-only_reads g c = runs.reading_further g.S.Store c.args.store.now c.read_list_file.new.store c.read_manifests.new.store c.in_ok-list.ensures.only_reads c.in_ok-read.ensures.only_reads

pub returns-clause-read : goal.returns-clause-read
returns-clause-read g c told =
    let store = g.S.Store in
    let files = (store.disk c.args.store.now).files in
    let m = c.args.metadata.now in
    let plan = c.args.plan in
    let list = c.in_ok-list.list in
    let found = c.in_ok-read.ensures.found told in
    let manifests = found.0 in
    let columns = c.as_slice-3.ensures ∙ c.in_ok-columns.ensures ∙ ap part_columns c.as_slice-2.ensures in
    let at = subst (λ (d : Disk). AreEach (IsManifestOf d.files c.as_str-location.result.now c.as_slice-3.result.now) list manifests) (c.in_ok-list.ensures.only_reads told).disk found.2 in
    let placed = subst (λ (l : List ℕ). AreEach (IsManifestOf files l c.as_slice-3.result.now) list manifests) c.as_str-location.ensures.value at in
    let are = subst (λ (cs : List PartColumn). AreEach (IsManifestOf files m.location cs) list manifests) columns placed in
    let empty = c.empty_table-empty.result in
    let names = c.empty_table-empty.ensures.partition ∙ c.in_ok-names.ensures ∙ ap names_of c.as_slice.ensures in
    let table = with_schema empty.schema plan.schema empty.partition (names_of plan.columns) (rows_of manifests) c.in_ok-read.read.table c.empty_table-empty.ensures.schema names found.3.table in
    read_by files m plan list (c.in_ok-list.ensures.says told) manifests are c.args.keep found.1 (c.in_ok-list.ensures.only told) c.in_ok-read.read table found.3.kept c.bounded.result c.bounded.ensures.same

pub returns-clause-sound : goal.returns-clause-sound
returns-clause-sound g c sound =
    let made = c.in_ok-read.ensures.made in
    let columns = c.as_slice-3.ensures ∙ c.in_ok-columns.ensures ∙ ap part_columns c.as_slice-2.ensures in
    let rows = rows_of made.0 in
    let empty = c.empty_table-empty.result in
    let names = c.empty_table-empty.ensures.partition ∙ c.in_ok-names.ensures ∙ ap names_of c.as_slice.ensures in
    let table = with_schema empty.schema c.args.plan.schema empty.partition (names_of c.args.plan.columns) rows c.in_ok-read.read.table c.empty_table-empty.ensures.schema names made.1.table in
    let fit = subst (λ (cs : List PartColumn). FitRows cs rows) columns made.1.fit in
    let whole = whole_table c.args.plan sound rows fit c.in_ok-read.read.table c.in_ok-read.read.manifests c.bounded.result c.bounded.ensures.same in
    table_sound c.args.plan sound rows fit c.in_ok-read.read.table table c.bounded.result whole c.bounded.ensures.few

pub returns-clause-refused : goal.returns-clause-refused
returns-clause-refused g c told =
    let store = g.S.Store in
    let files = (store.disk c.args.store.now).files in
    let m = c.args.metadata.now in
    let plan = c.args.plan in
    let list = c.in_ok-list.list in
    let found = c.in_ok-read.ensures.found told in
    let manifests = found.0 in
    let columns = c.as_slice-3.ensures ∙ c.in_ok-columns.ensures ∙ ap part_columns c.as_slice-2.ensures in
    let at = subst (λ (d : Disk). AreEach (IsManifestOf d.files c.as_str-location.result.now c.as_slice-3.result.now) list manifests) (c.in_ok-list.ensures.only_reads told).disk found.2 in
    let placed = subst (λ (l : List ℕ). AreEach (IsManifestOf files l c.as_slice-3.result.now) list manifests) c.as_str-location.ensures.value at in
    let are = subst (λ (cs : List PartColumn). AreEach (IsManifestOf files m.location cs) list manifests) columns placed in
    let empty = c.empty_table-empty.result in
    let names = c.empty_table-empty.ensures.partition ∙ c.in_ok-names.ensures ∙ ap names_of c.as_slice.ensures in
    let table = with_schema empty.schema plan.schema empty.partition (names_of plan.columns) (rows_of manifests) c.in_ok-read.read.table c.empty_table-empty.ensures.schema names found.3.table in
    many_refused files m plan list (c.in_ok-list.ensures.says told) manifests are found.1 c.in_ok-read.read.table table c.bounded.result c.bounded.ensures.many

pub returns-clause-columns : goal.returns-clause-columns
returns-clause-columns g c =
    let made = c.in_ok-read.ensures.made in
    let rows = rows_of made.0 in
    let empty = c.empty_table-empty.result in
    let names = c.empty_table-empty.ensures.partition ∙ c.in_ok-names.ensures ∙ ap names_of c.as_slice.ensures in
    let table = with_schema empty.schema c.args.plan.schema empty.partition (names_of c.args.plan.columns) rows c.in_ok-read.read.table c.empty_table-empty.ensures.schema names made.1.table in
    columns_found c.args.plan c.in_ok-read.read rows table c.bounded.result c.bounded.ensures.same

pub returns-clause-rows : goal.returns-clause-rows
returns-clause-rows g c keeps =
    let made = c.in_ok-read.ensures.made in
    let read = c.in_ok-read.read in
    let empty = c.empty_table-empty.result in
    let table = subst (λ (l : List Manifest). IsTableOfRows empty.schema empty.partition (rows_of l) read.table) (sym (made.1.kept keeps)) made.1.table in
    rows_found empty.schema empty.partition read table c.bounded.result c.bounded.ensures.same

pub returns-clause-no_deletes : goal.returns-clause-no_deletes
returns-clause-no_deletes g c keeps =
    let made = c.in_ok-read.ensures.made in
    no_deletes_found c.in_ok-read.read (subst TakeNoDeletes (sym (made.1.kept keeps)) made.1.no_deletes) c.bounded.result c.bounded.ensures.same

pub returns-clause-contents : goal.returns-clause-contents
returns-clause-contents g c keeps =
    let made = c.in_ok-read.ensures.made in
    contents_found c.in_ok-read.read (subst AreOfContents (sym (made.1.kept keeps)) made.1.contents) c.bounded.result c.bounded.ensures.same
