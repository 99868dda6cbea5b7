-- A snapshot from what its list and manifests say, and its table as one that may be published.
use Rattle.std.proofs.Common.{◌≡◌, ◌<◌, ◌≤◌, ℕ, Bool, true, List, [], ◌∷◌, Contains, length, Option, None, Some, Result, Ok, Err, refl, sym, ap, subst, ◌∙◌, inr, ⊎_elim, arith}
use Rattle.std.specs.Prelude.{IfOk, IfErr, option_and_then}
use Rattle.std.specs.List.{IsDistinct}
use Rattle.std.specs.Str.{bytes_eq}
use Rattle.lake_basics.specs.declared.limits.TheConstants.{MAX_ACTIONS, MAX_LIVE_FILES}
use Rattle.table_history.specs.Sound.{IsSound}
use Rattle.table_history.specs.SchemaSize.{IsWithinLimits}
use Rattle.lake_store.specs.Disk.{Files}
use Rattle.partition_map.specs.Columns.{column_kind}
use Rattle.partition_map.specs.Kind.{IsOfKind, part_kind_of}
use Rattle.partition_map.specs.declared.kind.PartKind.{PartKind}
use Rattle.partition_map.proofs.Laws.{kind_of_type}
use Rattle.table_history.specs.History.{FitColumns, FitsColumn, column_type}
use Rattle.table_history.specs.Row.{Row}
use Rattle.table_history.specs.TypeTree.{ColumnTrees, TypeTree}
use Rattle.table_history.specs.declared.row.PartValue.{PartValue}
use Rattle.table_history.specs.declared.table.Table.{Table}
use Rattle.table_history.proofs.RowListLemmas.{Contains-cases, Contains-head, Contains-none, Contains-tail}
use Rattle.table_history.proofs.Laws.{same_rows_length}
use Rattle.iceberg_manifest.specs.Kinds.{AreOfKinds}
use Rattle.iceberg_manifest.specs.Lists.{AreEach}
use Rattle.iceberg_columns.specs.declared.columns.SourceColumn.{SourceColumn}
use Rattle.iceberg_metadata.specs.declared.metadata.Metadata.{Metadata}
use Rattle.iceberg_metadata.specs.declared.metadata.Snapshot.{Snapshot}
use Rattle.iceberg_table.specs.Errors.{IsRefusal}
use Rattle.iceberg_table.specs.Kept.{IsKeptOf}
use Rattle.iceberg_table.specs.Kinds.{FitRows}
use Rattle.iceberg_table.specs.Lists.{SaysList}
use Rattle.iceberg_table.specs.Manifests.{IsManifestOf}
use Rattle.iceberg_table.specs.Once.{entries_once}
use Rattle.iceberg_table.specs.Plan.{IsPlanOf, IsSoundPlan, names_of, part_columns}
use Rattle.iceberg_table.specs.Refusals.{IsListedRefusal}
use Rattle.iceberg_table.specs.Snapshots.{HasColumnsOf, HasManifestRows, IsReadAs, IsReadBy, IsTableOfSnapshot}
use Rattle.iceberg_table.specs.Tables.{AreOfContents, IsTableOfRows, IsTableOfSnapshots, TakeNoDeletes, rows_of}
use Rattle.table_history.specs.declared.limit.LimitKind.TheVariants.{LiveFiles}
use Rattle.iceberg_table.specs.declared.error.Fault.TheVariants as fault
use Rattle.iceberg_table.specs.declared.error.IcebergError.{IcebergError}
use Rattle.iceberg_table.specs.declared.error.IcebergError.TheVariants as error
use Rattle.iceberg_table.specs.declared.list.ManifestFile.{ManifestFile}
use Rattle.iceberg_table.specs.declared.manifest.Manifest.{Manifest}
use Rattle.iceberg_table.specs.declared.plan.Plan.{Plan}
use Rattle.iceberg_table.specs.declared.snapshot.SnapshotTable.{SnapshotTable}
use Rattle.iceberg_table.proofs.LiveLaws.{table_is}

abbrev whole_of : Table → List Manifest → SnapshotTable
whole_of table manifests = record { table = table; manifests = manifests }

module _ (files : Files) (m : Metadata) (plan : Plan) (list : List ManifestFile) (says : SaysList files m plan.list list) (manifests : List Manifest) (are : AreEach (IsManifestOf files m.location (part_columns plan.columns)) list manifests) where
  pub read_by : (keep : Bool) → entries_once manifests ≤ MAX_ACTIONS → ((others : List ManifestFile) → SaysList files m plan.list others → others ≡ list)
      → (read : SnapshotTable) → IsTableOfRows plan.schema (names_of plan.columns) (rows_of manifests) read.table → (keep ≡ true → read.manifests ≡ manifests)
      → (r : Result SnapshotTable IcebergError) → IfOk r (λ t. t ≡ read) → IfOk r (λ t. (whole : SnapshotTable) × IsReadBy files m plan whole × IsKeptOf keep whole t)
  read_by keep few only read is kept (Ok t) same = (
    whole_of read.table manifests,
    record { list = list; says = says; only = only; manifests = are; few = few; table = is },
    record { table = ap (λ (u : SnapshotTable). u.table) (sym same); same = λ k. ap (whole_of read.table) (sym (kept k)) ∙ sym same },
  )
  read_by keep few only read is kept (Err e) same = tt

  pub many_refused : entries_once manifests ≤ MAX_ACTIONS → (t : Table) → IsTableOfRows plan.schema (names_of plan.columns) (rows_of manifests) t → (r : Result SnapshotTable IcebergError)
      → IfErr r (λ e. (e ≡ error.Refused plan.list (fault.Limit LiveFiles)) × (MAX_LIVE_FILES < length t.rows)) → IfErr r (IsRefusal (IsListedRefusal files m plan))
  many_refused few t is (Ok read) many = tt
  many_refused few t is (Err e) many =
      let same = same_rows_length t.rows (rows_of manifests) is.own is.distinct is.same in
      let past = many.1 in
      let more : MAX_LIVE_FILES < length (rows_of manifests) = omega (arith, same, past) in
      subst (IsRefusal (IsListedRefusal files m plan)) (sym many.0) (inr (list, says, inr (manifests, are, (few, (fault.Limit LiveFiles, refl, (is.distinct, more, refl))))))

module _ (files : Files) (m : Metadata) (s : Snapshot) (plan : Plan) (planned : IsPlanOf m s plan) where
  pub table_of : (keep : Bool) (whole t : SnapshotTable) → IsReadBy files m plan whole → IsKeptOf keep whole t → IsTableOfSnapshot files m s t.table
  table_of keep whole t read kept = subst (IsTableOfSnapshot files m s) kept.table (table_is files m s plan planned whole read)

  pub table_found : (r : Result SnapshotTable IcebergError) → IfOk r (λ t. (whole : SnapshotTable) × IsReadBy files m plan whole × IsKeptOf true whole t) → IfOk r (λ t. IsTableOfSnapshot files m s t.table)
  table_found (Ok t) read = table_of true read.0 t read.1 read.2
  table_found (Err e) read = tt

  pub all_found : (r : Result SnapshotTable IcebergError) → IfOk r (λ t. (whole : SnapshotTable) × IsReadBy files m plan whole × IsKeptOf true whole t) → IfOk r (IsReadAs files m s)
  all_found (Ok t) read = (plan, planned, subst (IsReadBy files m plan) (read.2.same refl) read.1)
  all_found (Err e) read = tt

pub with_schema : (a b : ColumnTrees) (p q : List (List ℕ)) (rows : List Row) (t : Table) → a ≡ b → p ≡ q → IsTableOfRows a p rows t → IsTableOfRows b q rows t
with_schema a b p q rows t schema partition is = subst (λ (c : ColumnTrees). IsTableOfRows c q rows t) schema (subst (λ (n : List (List ℕ)). IsTableOfRows a n rows t) partition is)

pub rows_found : (schema : ColumnTrees) (partition : List (List ℕ)) (read : SnapshotTable) → IsTableOfRows schema partition (rows_of read.manifests) read.table → (r : Result SnapshotTable IcebergError) → IfOk r (λ t. t ≡ read) → IfOk r HasManifestRows
rows_found schema partition read is (Ok t) same = subst HasManifestRows (sym same) (with_schema schema read.table.schema partition read.table.partition (rows_of read.manifests) read.table (sym is.schema) (sym is.partition) is)
rows_found schema partition read is (Err e) same = tt

pub no_deletes_found : (read : SnapshotTable) → TakeNoDeletes read.manifests → (r : Result SnapshotTable IcebergError) → IfOk r (λ t. t ≡ read) → IfOk r (λ t. TakeNoDeletes t.manifests)
no_deletes_found read none (Ok t) same = subst (λ (u : SnapshotTable). TakeNoDeletes u.manifests) (sym same) none
no_deletes_found read none (Err e) same = tt

pub contents_found : (read : SnapshotTable) → AreOfContents read.manifests → (r : Result SnapshotTable IcebergError) → IfOk r (λ t. t ≡ read) → IfOk r (λ t. AreOfContents t.manifests)
contents_found read are (Ok t) same = subst (λ (u : SnapshotTable). AreOfContents u.manifests) (sym same) are
contents_found read are (Err e) same = tt

-- ---- a table that may be published

no_kind : (o : Option TypeTree) (k : PartKind) → option_and_then part_kind_of o ≡ Some k → (t : TypeTree) × (o ≡ Some t) × (part_kind_of t ≡ Some k)
no_kind None k is = absurd (cc)
no_kind (Some t) k is = (t, refl, is)

fits : (schema : ColumnTrees) (name : List ℕ) (k : PartKind) (v : PartValue) → column_kind schema name ≡ Some k → IsOfKind k v → FitsColumn (column_type schema name) v
fits schema name k v is of =
    let typed = no_kind (column_type schema name) k is in
    subst (λ (o : Option TypeTree). FitsColumn o v) (sym typed.1) ((kind_of_type typed.0 k typed.2 v).0 of)

fit_columns : (schema : ColumnTrees) (columns : List SourceColumn) (values : List PartValue) → ((c : SourceColumn) → Contains columns c → column_kind schema c.name ≡ Some c.kind) → AreOfKinds (part_columns columns) values → FitColumns schema (names_of columns) values
fit_columns schema [] [] kinds of = tt
fit_columns schema [] (v ∷ vs) kinds of = absurd of
fit_columns schema (c ∷ cs) [] kinds of = absurd of
fit_columns schema (c ∷ cs) (v ∷ vs) kinds of = (fits schema c.name c.kind v (kinds c (Contains-head c cs)) of.0, fit_columns schema cs vs (λ d there. kinds d (Contains-tail c cs d there)) of.1)

named : (columns : List SourceColumn) (name : List ℕ) → Contains (names_of columns) name → (c : SourceColumn) × Contains columns c × (c.name ≡ name)
named [] name there = absurd (Contains-none name there)
named (c ∷ cs) name there =
    ⊎_elim (λ same. (c, Contains-head c cs, same)) (λ later. let rest = named cs name later in (rest.0, Contains-tail c cs rest.0 rest.1, rest.2)) (Contains-cases c.name (names_of cs) name there)

some_kind : (o : Option PartKind) (k : PartKind) → o ≡ Some k → o ≡ None → ⊥
some_kind o k is none = cc (sym is ∙ none)

names_length : (columns : List SourceColumn) → length (names_of columns) ≡ length columns
names_length [] = refl
names_length (c ∷ cs) = let rest = names_length cs in omega (arith, rest)

module _ (plan : Plan) (sound : IsSoundPlan plan) (rows : List Row) (fit : FitRows (part_columns plan.columns) rows) where
  pub sound_table : (t : Table) → IsTableOfRows plan.schema (names_of plan.columns) rows t → length t.rows ≤ MAX_LIVE_FILES → IsTableOfSnapshots t
  sound_table t is few = record {
    partition_distinct = subst (λ (names : List (List ℕ)). IsDistinct bytes_eq names) (sym is.partition) sound.distinct;
    partition_kinds = λ name there none.
        let c = named plan.columns name (subst (λ (names : List (List ℕ)). Contains names name) is.partition there) in
        some_kind (column_kind plan.schema c.0.name) c.0.kind (sound.kinds c.0 c.1) (ap (column_kind plan.schema) c.2 ∙ ap (λ (schema : ColumnTrees). column_kind schema name) (sym is.schema) ∙ none);
    sound = record {
      distinct = is.own;
      values = λ row there.
          subst (λ (schema : ColumnTrees). FitColumns schema t.partition row.values) (sym is.schema)
          (subst (λ (names : List (List ℕ)). FitColumns plan.schema names row.values) (sym is.partition) (fit_columns plan.schema plan.columns row.values sound.kinds (fit row ((is.same row).0 there)).values));
    };
    paths = λ row there. (fit row ((is.same row).0 there)).path;
    partition_columns =
        let few_columns = sound.few in
        let names = names_length plan.columns in
        let same = ap length is.partition in omega (arith, few_columns, names, same);
    live_files = few;
    schema = subst IsSound (sym is.schema) sound.schema;
    size = subst IsWithinLimits (sym is.schema) sound.size;
  }

  pub table_sound : (table : Table) → IsTableOfRows plan.schema (names_of plan.columns) rows table → (r : Result SnapshotTable IcebergError) → IfOk r (λ t. t.table ≡ table) → IfOk r (λ t. length t.table.rows ≤ MAX_LIVE_FILES) → IfOk r (λ t. IsTableOfSnapshots t.table)
  table_sound table is (Ok t) same few = sound_table t.table (subst (IsTableOfRows plan.schema (names_of plan.columns) rows) (sym same) is) few
  table_sound table is (Err e) same few = tt

  pub whole_table : (table : Table) (manifests : List Manifest) (r : Result SnapshotTable IcebergError) → IfOk r (λ t. t ≡ record { table = table; manifests = manifests }) → IfOk r (λ t. t.table ≡ table)
  whole_table table manifests (Ok t) whole = ap (λ (u : SnapshotTable). u.table) whole
  whole_table table manifests (Err e) whole = tt

pub columns_found : (plan : Plan) (read : SnapshotTable) (rows : List Row) → IsTableOfRows plan.schema (names_of plan.columns) rows read.table → (r : Result SnapshotTable IcebergError) → IfOk r (λ t. t ≡ read) → IfOk r (λ t. (t.table.schema ≡ plan.schema) × (t.table.partition ≡ names_of plan.columns))
columns_found plan read rows table (Ok t) same = (ap (λ (x : SnapshotTable). x.table.schema) same ∙ table.schema, ap (λ (x : SnapshotTable). x.table.partition) same ∙ table.partition)
columns_found plan read rows table (Err e) same = tt

pub columns_planned : (m : Metadata) (s : Snapshot) (plan : Plan) → IsPlanOf m s plan → (r : Result SnapshotTable IcebergError) → IfOk r (λ t. (t.table.schema ≡ plan.schema) × (t.table.partition ≡ names_of plan.columns)) → IfOk r (λ t. HasColumnsOf m s t.table)
columns_planned m s plan planned (Ok t) columns = record { plan = plan; planned = planned; schema = columns.0; partition = columns.1 }
columns_planned m s plan planned (Err e) columns = tt
