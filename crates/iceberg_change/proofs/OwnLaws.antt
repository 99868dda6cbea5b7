-- A snapshot's own table behind the one before it.
use Rattle.std.proofs.Common.{◌≡◌, ◌≤◌, List, [], Option, Some, Result, Ok, Err, length, refl, sym, ap, subst, ◌∙◌, arith}
use Rattle.std.specs.Prelude.{IfOk, unwrap_or}
use Rattle.lake_basics.specs.declared.limits.TheConstants.{MAX_LIVE_FILES}
use Rattle.lake_store.specs.Disk.{Files}
use Rattle.table_history.specs.Rows.{SameRows}
use Rattle.table_history.specs.Tables.{CanApply, IsAfter}
use Rattle.table_history.specs.TypeTree.{ColumnTrees}
use Rattle.table_history.specs.declared.row.FileRow.{FileRow}
use Rattle.table_history.specs.declared.table.Change.{Change}
use Rattle.table_history.specs.declared.table.Table.{Table}
use Rattle.table_history.proofs.Laws.{change_applied, change_fits, change_of_same_rows, same_rows_length}
use Rattle.iceberg_manifest.specs.declared.partition.PartColumn.{PartColumn}
use Rattle.iceberg_metadata.specs.declared.metadata.Metadata.{Metadata}
use Rattle.iceberg_metadata.specs.declared.metadata.Snapshot.{Snapshot}
use Rattle.iceberg_table.specs.Kinds.{FitRows, FitsColumns}
use Rattle.iceberg_table.specs.Manifests.{IsManifestOf}
use Rattle.iceberg_table.specs.Plan.{names_of, part_columns}
use Rattle.iceberg_table.specs.Snapshots.{IsReadAs, IsTableOfSnapshot}
use Rattle.iceberg_table.specs.Tables.{IsTableOfRows, rows_of}
use Rattle.iceberg_table.specs.declared.list.ManifestFile.{ManifestFile}
use Rattle.iceberg_table.specs.declared.manifest.Manifest.{Manifest}
use Rattle.iceberg_table.proofs.EachLaws.{each_back}
use Rattle.iceberg_table.proofs.LiveLaws.{of_flat, of_map, table_is}
use Rattle.iceberg_table.proofs.SnapshotLaws.{sound_table}
use Rattle.iceberg_table.specs.declared.error.IcebergError.{IcebergError}
use Rattle.iceberg_change.specs.Behind.{AreFit, GoesOnFrom, AreReadFor, IsListed, IsStep}
use Rattle.iceberg_change.specs.declared.behind.Listed.{Listed}
use Rattle.iceberg_change.specs.declared.own.Own.{Own}
use Rattle.iceberg_change.specs.declared.behind.Step.{Step}
use Rattle.iceberg_change.specs.Own.{IsOwn, KeepsPartition, own_table}

-- ---- by what the snapshot makes of the table before it

fit_rows : (columns : List PartColumn) (manifests : List Manifest) → AreFit columns manifests → FitRows columns (rows_of manifests)
fit_rows columns manifests fit row there =
    let m = of_flat manifests row there in
    let live = of_map m.0.rows row m.2 in
    subst (FitsColumns columns) live.2 (fit m.0 m.1 live.0 live.1)

pub step_fits : (tells : Type 0) (files : Files) (m : Metadata) (s : Snapshot) (before : Table) (was : Listed) (step : Step) → IsStep tells files m s before was step → CanApply before step.change
step_fits tells files m s before was step is = change_fits before (rows_of step.listed.manifests) step.change is.by.change.diff is.by.own is.by.change.distinct

module _ (tells : Type 0) (files : Files) (m : Metadata) (s : Snapshot) (before : Table) (was : Listed) (step : Step) (kept : KeepsPartition m s before) (is : IsStep tells files m s before was step) (after : Table) (made : IsAfter before step.change after) where
  abbrev pub all : List FileRow
  all = rows_of step.listed.manifests

  same : SameRows after.rows all
  same = change_applied before all step.change after is.by.change.diff is.by.own is.by.change.distinct made

  schema_is : after.schema ≡ is.plan.schema
  schema_is = made.schema ∙ ap (λ (o : Option ColumnTrees). unwrap_or o before.schema) is.by.schema

  -- the columns as they would be in a table of this snapshot alone
  partition_is : after.partition ≡ names_of is.plan.columns
  partition_is =
      let alone : Table = record { schema = is.plan.schema; partition = names_of is.plan.columns; rows = [] } in
      made.partition ∙ sym (kept alone (record { plan = is.plan; planned = is.planned; schema = refl; partition = refl }))

  table_of : IsTableOfRows is.plan.schema (names_of is.plan.columns) all after
  table_of = record { schema = schema_is; partition = partition_is; distinct = is.by.change.distinct; same = same; own = made.distinct }

  few : length after.rows ≤ MAX_LIVE_FILES
  few =
      let long = same_rows_length after.rows all made.distinct is.by.change.distinct same in
      let bound = is.by.change.few in omega (arith, long, bound)

  back : SameRows all after.rows
  back row = ((same row).1, (same row).0)

  abbrev pub own : Own
  own = record { change = step.change; table = after; listed = step.listed }

  read_as : tells → IsListed files m.location was → IsReadAs files m s (own_table own)
  read_as told listed =
      let list = is.by.read told listed in (
        is.plan,
        is.planned,
        record { list = list.list; says = list.says; only = list.only; manifests = list.are; few = is.by.within; table = table_of },
      )

  pub own_is : IsOwn tells files m s before was own
  unfolding read_as
  own_is = record {
    columns = record { plan = is.plan; planned = is.planned; schema = schema_is; partition = partition_is };
    diff = change_of_same_rows before.rows before.rows all after.rows step.change.removed step.change.added (λ row. ((λ h. h), (λ h. h))) back is.by.change.diff;
    schema = is.by.schema ∙ ap Some (sym schema_is);
    fits = step_fits tells files m s before was step is;
    leads = λ row. ((made.rows row).1, (made.rows row).0);
    sound = λ writable. sound_table is.plan (is.sound writable) all (fit_rows (part_columns is.plan.columns) step.listed.manifests is.by.fit) after table_of few;
    goes_on = subst (λ (o : Option (List PartColumn)). GoesOnFrom after step.listed.manifests o) (sym is.by.columns)
        (record { schema = refl; partition = refl; distinct = is.by.change.distinct; same = same; own = made.distinct }, is.by.fit);
    read = read_as;
    is = λ told listed. table_is files m s is.plan is.planned (own_table own) (read_as told listed).2;
    listed = λ told listed.
        let list = is.by.read told listed in
        subst (λ (o : Option (List PartColumn)). AreReadFor files m.location step.listed.manifests o) (sym is.by.columns)
        (λ r there.
        let one = each_back (IsManifestOf files m.location (part_columns is.plan.columns)) list.list step.listed.manifests r list.are there in
        subst (λ (f : ManifestFile). IsManifestOf files m.location (part_columns is.plan.columns) f r) (sym one.2.0) one.2);
  }

pub own_made : (tells : Type 0) (files : Files) (m : Metadata) (s : Snapshot) (before : Table) (was : Listed) (step : Step) → KeepsPartition m s before → IsStep tells files m s before was step
    → (o : Own) → IsAfter before step.change o.table → o.change ≡ step.change → o.listed ≡ step.listed → IsOwn tells files m s before was o
own_made tells files m s before was step kept is o after change listed =
    subst (λ (c : Change). IsOwn tells files m s before was (record { change = c; table = o.table; listed = o.listed })) (sym change)
    (subst (λ (l : Listed). IsOwn tells files m s before was (record { change = step.change; table = o.table; listed = l })) (sym listed) (own_is tells files m s before was step kept is o.table after))

-- ---- from scratch

module _ (tells : Type 0) (a b : Files) (same : tells → a ≡ b) (m : Metadata) (s : Snapshot) (before : Table) (was : Listed) where
  own_as : (o : Own) → IsOwn tells a m s before was o → IsOwn tells b m s before was o
  own_as o h =
      let back : tells → IsListed b m.location was → IsListed a m.location was = λ told listed. subst (λ (f : Files). IsListed f m.location was) (sym (same told)) listed in
      record {
        columns = h.columns;
        diff = h.diff;
        schema = h.schema;
        fits = h.fits;
        leads = h.leads;
        sound = h.sound;
        goes_on = h.goes_on;
        read = λ told listed. subst (λ (f : Files). IsReadAs f m s (own_table o)) (same told) (h.read told (back told listed));
        is = λ told listed. subst (λ (f : Files). IsTableOfSnapshot f m s o.table) (same told) (h.is told (back told listed));
        listed = λ told listed. subst (λ (f : Files). IsListed f m.location o.listed) (same told) (h.listed told (back told listed));
      }

  pub whole_own : (r : Result Own IcebergError) → IfOk r (IsOwn tells a m s before was) → IfOk r (IsOwn tells b m s before was)
  whole_own (Ok o) h = own_as o h
  whole_own (Err e) h = tt
