-- The new version as it stands in the files behind a commit.
use Rattle.std.proofs.Common.{◌≡◌, ◌≢◌, ◌⊎◌, ⊎_elim, ℕ, pos, ◌+◌, ◌<◌, ◌≤◌, List, [], ◌∷◌, ◌++◌, length, Contains, Option, None, Some, Ok, refl, sym, ap, subst, ◌∙◌, arith}
use Rattle.std.specs.Prelude.{option_and_then, option_map}
use Rattle.lake_basics.specs.Outcome.{◌>>=◌, each}
use Rattle.lake_basics.specs.declared.limits.TheConstants.{MAX_FILE_BYTES, MAX_ICEBERG_VERSION}
use Rattle.lake_basics.proofs.Steps.{bind_ok, ok_is, required_some}
use Rattle.lake_store.specs.Disk.{Files}
use Rattle.partition_map.specs.Columns.{column_kind}
use Rattle.partition_map.specs.declared.kind.PartKind.{PartKind}
use Rattle.schema_map.specs.Image.{wide_columns}
use Rattle.table_history.specs.Path.{IsPath}
use Rattle.table_history.specs.Row.{Row}
use Rattle.table_history.specs.Rows.{HasPath}
use Rattle.table_history.specs.TypeTree.{ColumnTrees}
use Rattle.table_history.specs.declared.table.Commit.{Commit}
use Rattle.iceberg_metadata.specs.Location.{front_of}
use Rattle.iceberg_manifest.specs.declared.partition.PartColumn.{PartColumn}
use Rattle.iceberg_ancestry.specs.Ancestry.{FormsCycle}
use Rattle.iceberg_metadata.specs.Judging.{metadata_of}
use Rattle.iceberg_metadata.specs.Paths.{IsRenamed, all_path_ids, default_fields, held_schema, path_ids, path_of as path_at}
use Rattle.iceberg_metadata.specs.Schemas.{HeldSchema, HeldUnread}
use Rattle.iceberg_columns.specs.SourceColumns.{column_of, columns_of, top_column}
use Rattle.iceberg_metadata.specs.Writing.{metadata_text}
use Rattle.iceberg_columns.specs.declared.columns.SourceColumn.{SourceColumn}
use Rattle.iceberg_metadata.specs.declared.metadata.Metadata.{Metadata}
use Rattle.iceberg_metadata.specs.declared.metadata.Snapshot.{Snapshot}
use Rattle.iceberg_metadata.specs.declared.metadata.SpecField.{SpecField}
use Rattle.iceberg_metadata.specs.declared.error.MetadataError.TheVariants.{PartitionType}
use Rattle.iceberg_metadata_reading.proofs.ReadLemmas.{read_found, read_supported}
use Rattle.iceberg_table.specs.Files.{SaysMetadata}
use Rattle.iceberg_table.specs.Folder.{HasVersion, IsNewest, path_of}
use Rattle.iceberg_table.specs.Plan.{IsPlanOf, names_of, part_columns, snapshot_schema}
use Rattle.iceberg_table.specs.declared.plan.Plan.{Plan}
use Rattle.iceberg_table.proofs.PlanLaws.{in_schemas}
use Rattle.iceberg_version.specs.Names.{list_name}
use Rattle.iceberg_version.specs.Schemas.{AreSpecFields, FIRST_PARTITION_ID, Schemas}
use Rattle.iceberg_version.specs.Writing.{AreColumns, TableEnd, mark_of, snapshot_of, stated_behind}
use Rattle.iceberg_version.proofs.NamePathLemmas.{list_path}
use Rattle.iceberg_version.proofs.Shared.{in_flat}
use Rattle.target_core.specs.Views.{Origin, standing_at}
use Rattle.target_iceberg.specs.Fitting.{kinds_of}
use Rattle.target_iceberg.specs.Form.{HasOwnForm, field_names}
use Rattle.target_iceberg.specs.Reading.{IsCurrent, IsMarked}
use Rattle.target_iceberg.specs.Writes.{Writes}
use Rattle.target_iceberg.proofs.KindLemmas.{wide_kinds}
use Rattle.target_iceberg.proofs.WrittenFiles.{version_cases, version_held}
use Rattle.target_iceberg.proofs.WrittenMetadata.{IsSoundAt, end_sound, no_new_cycle}
use Rattle.target_iceberg.proofs.WrittenNew.{IsNew, fields_are, new_current, new_is, new_marked, own_form}
use Rattle.target_iceberg.proofs.WrittenSchemas.{AreSoundNext, columns_found, names_found, parts_found, sound_next, source_columns}
use Rattle.target_iceberg.proofs.WrittenStart.{HasEnd, StartsAt}

-- Behind a commit the files have what is written for it, all of it is read back, its number and its metadata's length pass no
-- limit, the partition columns keep their kinds, and the change fits the rows before.
pub record HasCommitted (files after : Files) (id location : List ℕ) (rows : List Row) (end : TableEnd) (origin : Origin) (now : ℕ) (commit : Commit) : Type 0 where
  pub start : StartsAt files id location rows end
  pub plain : (front : List ℕ) → location ≢ front ++ 47 ∷ []
  pub writes : Writes end files origin now commit after
  pub kinds : 0 < end.version → kinds_of end.schema end.partition ≡ kinds_of (stated_behind end commit.change) end.partition
  pub within : end.version + 1 ≤ MAX_ICEBERG_VERSION
  pub small : length (metadata_text writes.written.metadata) ≤ MAX_FILE_BYTES
  pub removed_there : (path : List ℕ) → Contains commit.change.removed path → HasPath rows path
  pub added_new : (row : Row) → Contains commit.change.added row → HasPath rows row.path → Contains commit.change.removed row.path
  pub paths : (row : Row) → Contains commit.change.added row → IsPath row.path

-- ---- partition columns by their numbers

-- The columns of these names have ids from k on, and the kinds that the schema gives them.
abbrev AreNumbered : ℕ → ColumnTrees → List (List ℕ) → List PartColumn → Type 0
AreNumbered k schema [] [] = Unit {0}
AreNumbered k schema (n ∷ ns) (c ∷ cs) = (c.field_id ≡ pos k) × (column_kind schema n ≡ Some c.kind) × AreNumbered (k + 1) schema ns cs
AreNumbered k schema _ _ = ⊥

numbered_once : (k : ℕ) (a b : ColumnTrees) (names : List (List ℕ)) (cs ds : List PartColumn) → kinds_of a names ≡ kinds_of b names → AreNumbered k a names cs → AreNumbered k b names ds → cs ≡ ds
numbered_once k a b [] [] [] same h g = refl
numbered_once k a b [] [] (d ∷ ds) same h g = absurd g
numbered_once k a b [] (c ∷ cs) ds same h g = absurd h
numbered_once k a b (n ∷ ns) [] ds same h g = absurd h
numbered_once k a b (n ∷ ns) (c ∷ cs) [] same h g = absurd g
numbered_once k a b (n ∷ ns) (c ∷ cs) (d ∷ ds) same h g =
    let first : column_kind a n ≡ column_kind b n = cc same in
    let rest : kinds_of a ns ≡ kinds_of b ns = cc same in
    let kinds : Some c.kind ≡ Some d.kind = sym h.1 ∙ first ∙ g.1 in
    let kind : c.kind ≡ d.kind = cc kinds in
    let number : c.field_id ≡ d.field_id = h.0 ∙ sym g.0 in
    let more = numbered_once (k + 1) a b ns cs ds rest h.2 g.2 in
    λ i. record { field_id = number i; kind = kind i } ∷ more i

written_numbered : (s : HeldSchema) (schema : ColumnTrees) (k : ℕ) (names : List (List ℕ)) (fields : List SpecField) (cs : List PartColumn) → AreSpecFields s k names fields → AreColumns schema names fields cs → AreNumbered k schema names cs
written_numbered s schema k [] [] [] fields columns = tt
written_numbered s schema k [] [] (c ∷ cs) fields columns = absurd columns
written_numbered s schema k [] (f ∷ fs) cs fields columns = absurd fields
written_numbered s schema k (n ∷ ns) [] cs fields columns = absurd fields
written_numbered s schema k (n ∷ ns) (f ∷ fs) [] fields columns = absurd columns
written_numbered s schema k (n ∷ ns) (f ∷ fs) (c ∷ cs) fields columns = (columns.0 ∙ fields.0.field_id, columns.1, written_numbered s schema (k + 1) ns fs cs fields.1 columns.2)

-- a column that was read
record IsColumnOf (s : HeldSchema) (f : SpecField) (c : SourceColumn) : Type 0 where
  number : c.field_id ≡ f.field_id
  kind : column_kind s.1 c.name ≡ Some c.kind

by_kind : (s : HeldSchema) (f : SpecField) (name : List ℕ) (o : Option PartKind) (c : SourceColumn) → column_kind s.1 name ≡ o → option_map (λ kind. record { field_id = f.field_id; name = name; kind = kind }) o ≡ Some c → IsColumnOf s f c
by_kind s f name None c at is = absurd (cc)
by_kind s f name (Some k) c at is = let same : record { field_id = f.field_id; name = name; kind = k } ≡ c = cc in subst (IsColumnOf s f) same (record { number = refl; kind = at })

by_path : (s : HeldSchema) (f : SpecField) (o : Option (List (List ℕ))) (c : SourceColumn) → option_and_then (top_column s.1 f) o ≡ Some c → IsColumnOf s f c
by_path s f None c is = absurd (cc)
by_path s f (Some []) c is = absurd (cc)
by_path s f (Some (name ∷ [])) c is = by_kind s f name (column_kind s.1 name) c refl is
by_path s f (Some (name ∷ (part ∷ path))) c is = absurd (cc)

column_is : (s : HeldSchema) (f : SpecField) (c : SourceColumn) → column_of s f ≡ Ok c → IsColumnOf s f c
column_is s f c is = by_path s f (path_at (path_ids s) f.source_id) c (required_some PartitionType (option_and_then (top_column s.1 f) (path_at (path_ids s) f.source_id)) c is)

read_numbered : (own s : HeldSchema) (k : ℕ) (names : List (List ℕ)) (fields : List SpecField) (cols : List SourceColumn) → AreSpecFields own k names fields → each (column_of s) fields ≡ Ok cols → AreNumbered k s.1 (names_of cols) (part_columns cols)
read_numbered own s k [] [] cols fields is = subst (λ (l : List SourceColumn). AreNumbered k s.1 (names_of l) (part_columns l)) (ok_is [] cols is) tt
read_numbered own s k [] (f ∷ fs) cols fields is = absurd fields
read_numbered own s k (n ∷ ns) [] cols fields is = absurd fields
read_numbered own s k (n ∷ ns) (f ∷ fs) cols fields is =
    let first = bind_ok (column_of s f) (λ y. each (column_of s) fs >>= λ others. Ok (y ∷ others)) cols is in
    let others = bind_ok (each (column_of s) fs) (λ rest. Ok (first.0 ∷ rest)) cols first.2 in
    let column = column_is s f first.0 first.1 in
    let rest = read_numbered own s (k + 1) ns fs others.0 fields.1 others.1 in
    subst (λ (l : List SourceColumn). AreNumbered k s.1 (names_of l) (part_columns l)) (ok_is (first.0 ∷ others.0) cols others.2) (column.number ∙ fields.0.field_id, column.kind, rest)

-- ---- renamed columns

none_renamed : (schemas : List HeldSchema) (s : HeldSchema) → Contains schemas s → (IsRenamed (all_path_ids [] schemas) → ⊥) → IsRenamed (path_ids s) → ⊥
none_renamed schemas s there none h = none (record {
  one = h.one;
  other = h.other;
  has_one = in_flat path_ids schemas s h.one there h.has_one;
  has_other = in_flat path_ids schemas s h.other there h.has_other;
  differ = h.differ;
})

read_unrenamed : (bytes : List ℕ) (m : Metadata) → metadata_of bytes ≡ Ok m → IsRenamed (all_path_ids [] m.schemas) → ⊥
read_unrenamed bytes m is renamed =
    let read = read_found bytes m is in
    (read_supported bytes m is).1.1.1.1.0 (read.readings, m, read.text, subst (λ (us : List HeldUnread). IsRenamed (all_path_ids us m.schemas)) (sym read.whole) renamed)

-- ---- the version

module _ (files after : Files) (id location : List ℕ) (rows : List Row) (end : TableEnd) (origin : Origin) (now : ℕ) (commit : Commit) (h : HasCommitted files after id location rows end origin now commit) where
  abbrev pub version : ℕ
  version = end.version + 1

  abbrev pub made : Schemas
  made = h.writes.is.schemas

  abbrev pub again : Metadata
  again = h.writes.back.metadata.0

  abbrev pub bytes : List ℕ
  bytes = metadata_text h.writes.written.metadata

  abbrev pub snapshot : Snapshot
  snapshot = snapshot_of end.metadata version commit.change made.current.0 now

  pub within : version ≤ MAX_ICEBERG_VERSION
  within = h.within

  pub sound : IsSoundAt end.version end.metadata
  sound = end_sound files id location end h.plain h.start.base

  pub next : AreSoundNext (stated_behind end commit.change) made
  next = sound_next end.metadata (stated_behind end commit.change) made h.start.schema_ids sound.field_ids h.writes.is.layout.schemas_are

  pub new : IsNew end made h.writes.is.fields snapshot again
  new = new_is end origin now commit h.writes.written h.writes.is again h.writes.back.metadata.2

  acyclic : FormsCycle again → ⊥
  acyclic c = no_new_cycle end.metadata end.version sound snapshot refl refl again new.snapshots new.current c

  pub said : SaysMetadata after version again
  said = record { bytes = bytes; holds = h.writes.metadata; small = h.small; read = read_found bytes again h.writes.back.metadata.1; supported = read_supported bytes again h.writes.back.metadata.1; acyclic = acyclic }

  pub there : HasVersion after version
  there = version_held after version bytes within h.writes.metadata

  pub cases : (other : ℕ) → HasVersion after other → (other ≡ version) ⊎ HasVersion files other
  cases other is = version_cases files after end.version (length h.writes.written.texts) h.start.free h.writes.others within other is

  pub newest : IsNewest (HasVersion after) version
  newest = record { there = there; last = λ other is. ⊎_elim (λ (same : other ≡ version). omega (arith, same)) (λ old. let low = h.start.last other old in omega (arith, low)) (cases other is) }

  pub form : HasOwnForm version again
  form = own_form end sound made h.writes.is.fields snapshot refl refl again new end.partition h.writes.is.layout.fields_are (stated_behind end commit.change) next

  pub marked : IsMarked again version (standing_at origin commit.position)
  marked = record { mark = mark_of version origin commit.position; has = new_marked end origin now commit h.writes.written h.writes.is again h.writes.back.metadata.2 h.writes.back.mark; at = refl; is = refl }

  pub current : IsCurrent again snapshot
  current = new_current end sound made h.writes.is.fields snapshot refl refl again new

  -- ---- its plan

  schema_held : held_schema again.schemas made.current.0 ≡ Some made.current
  schema_held = ap (λ (l : List HeldSchema). held_schema l made.current.0) new.schemas_are ∙ next.found

  unrenamed : IsRenamed (path_ids made.current) → ⊥
  unrenamed = none_renamed again.schemas made.current (in_schemas again.schemas made.current.0 made.current schema_held) (read_unrenamed bytes again h.writes.back.metadata.1)

  abbrev pub plan : Plan
  plan = record { list = path_of (list_name version); schema = made.current.1; columns = source_columns end.partition h.writes.is.fields h.writes.is.columns }

  columns_are : columns_of again made.current ≡ Ok plan.columns
  columns_are =
      ap (each (column_of made.current)) (fields_are end end.partition made h.writes.is.fields snapshot again new)
      ∙ columns_found made.current unrenamed FIRST_PARTITION_ID end.partition h.writes.is.fields h.writes.is.columns h.writes.is.layout.fields_are h.writes.is.layout.columns_are

  named : snapshot_schema again snapshot ≡ Ok made.current
  named = rw schema_held refl

  pub planned : IsPlanOf again snapshot plan
  planned = record {
    list = record {
      place = ap (λ (l : List ℕ). front_of l ++ path_of (list_name version)) (sym new.location);
      form = list_path version (let few = within in omega (arith, few));
      within = (list_name version, refl);
    };
    held = made.current;
    named = named;
    schema = refl;
    columns = columns_are;
  }

  pub part_columns_are : part_columns plan.columns ≡ h.writes.is.columns
  part_columns_are = parts_found made.current.1 end.partition h.writes.is.fields h.writes.is.columns h.writes.is.layout.columns_are

  pub names_are : names_of plan.columns ≡ end.partition
  names_are = names_found made.current.1 end.partition h.writes.is.fields h.writes.is.columns h.writes.is.layout.columns_are

  pub schema_is : plan.schema ≡ wide_columns (stated_behind end commit.change)
  schema_is = next.columns

  -- the manifests of the version before are read with the same columns
  pub old_columns : (has : HasEnd files end) → part_columns has.current.plan.columns ≡ h.writes.is.columns
  old_columns has =
      let planned_old = has.current.says.planned in
      let spec = has.form.spec in
      let numbered = read_numbered spec.schema planned_old.held FIRST_PARTITION_ID (field_names has.metadata) (default_fields has.metadata) has.current.plan.columns spec.fields planned_old.columns in
      let schema : planned_old.held.1 ≡ end.schema = sym planned_old.schema ∙ sym has.schema in
      let old : AreNumbered FIRST_PARTITION_ID end.schema end.partition (part_columns has.current.plan.columns) =
      subst (λ (names : List (List ℕ)). AreNumbered FIRST_PARTITION_ID end.schema names (part_columns has.current.plan.columns)) (sym has.partition)
      (subst (λ (cs : ColumnTrees). AreNumbered FIRST_PARTITION_ID cs (names_of has.current.plan.columns) (part_columns has.current.plan.columns)) schema numbered) in
      let written = written_numbered made.current made.current.1 FIRST_PARTITION_ID end.partition h.writes.is.fields h.writes.is.columns h.writes.is.layout.fields_are h.writes.is.layout.columns_are in
      let kinds : kinds_of end.schema end.partition ≡ kinds_of made.current.1 end.partition =
      h.kinds has.first ∙ sym (wide_kinds (stated_behind end commit.change) end.partition) ∙ ap (λ (cs : ColumnTrees). kinds_of cs end.partition) (sym next.columns) in
      numbered_once FIRST_PARTITION_ID end.schema made.current.1 end.partition (part_columns has.current.plan.columns) h.writes.is.columns kinds old written
