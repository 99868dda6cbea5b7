-- The texts that are written for a drill's commits to an Iceberg target aren't too large.
use Rattle.std.proofs.Common.{◌≡◌, ◌⊎◌, inl, inr, ℕ, zero, suc, ◌+◌, ◌^◌, ◌≤◌, ◌<◌, List, [], ◌∷◌, length, take, Contains, Option, Some, None, refl, sym, ap, subst, codes, arith}
use Rattle.std.specs.Prelude.{unwrap_or}
use Rattle.schema_map.specs.Image.{wide_columns}
use Rattle.conformance.specs.Drill.{drill_schema, drill_time}
use Rattle.iceberg_manifest.specs.declared.partition.PartColumn.{PartColumn}
use Rattle.iceberg_metadata.specs.Location.{front_of}
use Rattle.iceberg_metadata.specs.Schemas.{HeldSchema}
use Rattle.iceberg_metadata.specs.Writing.{metadata_text}
use Rattle.iceberg_metadata.specs.declared.metadata.SpecField.{SpecField}
use Rattle.iceberg_version.specs.Manifests.{AreNextManifests, NextManifest}
use Rattle.iceberg_version.specs.Schemas.{AreSpecFields, Schemas}
use Rattle.iceberg_version.specs.Writing.{AreColumns, HasLongList, HasLongManifest, IsLayout, IsLong, IsWritten, NewVersion, Passes, PassesAt, TableEnd, end_behind, front_in, metadata_of, next_version, stated_behind}
use Rattle.table_history.specs.Row.{Row}
use Rattle.table_history.specs.Rows.{paths_of}
use Rattle.table_history.specs.TypeTree.{ColumnTrees}
use Rattle.table_history.specs.declared.limit.LimitKind.TheVariants.{File}
use Rattle.table_history.specs.declared.table.Commit.{Commit}
use Rattle.table_history.proofs.RowListLemmas.{Contains-head, Contains-tail}
use Rattle.table_history.proofs.TableLemmas.{distinct_order}
use Rattle.target_core.specs.Views.{Origin}
use Rattle.lake_play.proofs.DrillRows.{IsDrillRow, IsDueCommit, few_rows, path_short, row_path}
use Rattle.lake_play.proofs.ManifestTexts.{AreSmallManifests, IsSmallNext, IsSmallRow, columns_are, drill_column, list_short, list_small, manifest_short, new_small, next_count, next_small}
use Rattle.lake_play.proofs.MetadataTexts.{HasDrillSchemas, IsDrillMetadata, drill_field, fields_are, made_is, metadata_short, next_schemas}
use Rattle.lake_play.proofs.TextBounds.{IsShortOrigin}

-- ---- what commits go on from

-- The table is a drill's, and at most so many manifests have a live row.
pub record IsDrillEnd (most : ℕ) (end : TableEnd) : Type 0 where
  pub metadata : IsDrillMetadata end.metadata
  pub partition : end.partition ≡ codes "d" ∷ []
  pub manifests : AreSmallManifests most end.manifests

-- Behind the first of the commits the table has the drill's schema.
abbrev pub Begins : TableEnd → List Commit → Type 0
Begins end [] = Unit {0}
Begins end (commit ∷ commits) = stated_behind end commit.change ≡ drill_schema

pub begins_take : (end : TableEnd) (n : ℕ) (commits : List Commit) → Begins end commits → Begins end (take n commits)
begins_take end zero commits begins = tt
begins_take end (suc n) [] begins = tt
begins_take end (suc n) (commit ∷ commits) begins = begins

stated_by : (o : Option ColumnTrees) (before : ColumnTrees) → before ≡ drill_schema → ((schema : ColumnTrees) → o ≡ Some schema → schema ≡ drill_schema) → unwrap_or o before ≡ drill_schema
stated_by None before was stated = was
stated_by (Some schema) before was stated = stated schema refl

-- A table of the drill's schema keeps it.
pub begins_on : (end : TableEnd) (commits : List Commit) → end.schema ≡ drill_schema → ((commit : Commit) → Contains commits commit → (schema : ColumnTrees) → commit.change.schema ≡ Some schema → schema ≡ drill_schema) → Begins end commits
begins_on end [] was stated = tt
begins_on end (commit ∷ commits) was stated = stated_by commit.change.schema end.schema was (stated commit (Contains-head commit commits))

pub small_row : (number : ℕ) (row : Row) → IsDrillRow number row → IsSmallRow row
small_row number row (i, j, less, lt, is) = record {
  path = path_short number row.path (row_path number row (i, j, less, lt, is));
  number = _;
  values = sym (ap (λ (r : Row). r.values) is);
}

-- ---- one commit

module _ (number now : ℕ) (origin : Origin) (short : IsShortOrigin origin) (up : now ≤ drill_time) (most : ℕ) (room : most < 50000) (end : TableEnd) (commit : Commit) (is : IsDrillEnd most end) (due : IsDueCommit number commit) (lt : next_version end < 10 ^ 15)
    (stated : stated_behind end commit.change ≡ drill_schema) where
  module _ (schemas : Schemas) (fields : List SpecField) (columns : List PartColumn) (layout : IsLayout end commit.change schemas fields columns) where
    schemas_is : HasDrillSchemas schemas
    schemas_is = next_schemas end.metadata (stated_behind end commit.change) schemas is.metadata.schemas stated layout.schemas_are

    fields_is : fields ≡ drill_field ∷ []
    fields_is = fields_are fields (subst (λ (s : HeldSchema). AreSpecFields s 1000 (codes "d" ∷ []) fields) schemas_is.current (subst (λ (names : List (List ℕ)). AreSpecFields schemas.current 1000 names fields) is.partition layout.fields_are))

    columns_is : columns ≡ drill_column ∷ []
    columns_is =
        columns_are columns
        (subst (λ (fs : List SpecField). AreColumns drill_schema (codes "d" ∷ []) fs columns) fields_is
        (subst (λ (s : HeldSchema). AreColumns s.1 (codes "d" ∷ []) fields columns) schemas_is.current (subst (λ (names : List (List ℕ)). AreColumns schemas.current.1 names fields columns) is.partition layout.columns_are)))

  front_short : length (front_in end) ≤ 80
  front_short = let same = ap (λ (location : List ℕ). length (front_of location)) is.metadata.location in omega (arith, same)

  row_small : (row : Row) → Contains commit.change.added row → IsSmallRow row
  row_small row there = small_row number row (due.added row there)

  module _ (next : List NextManifest) (are : AreNextManifests (front_in end) (next_version end) end.manifests commit.change next) where
    added_few : length are.added ≤ 20000
    added_few = let few = few_rows number are.added (distinct_order (paths_of are.added) are.order) (λ row there. due.added row ((are.rows row).1 there)) in omega (arith, few)

    each_small : (n : NextManifest) → Contains next n → IsSmallNext n
    each_small = next_small (front_in end) front_short (next_version end) most end.manifests commit.change next are is.manifests row_small added_few

    count : length next ≤ most + 1
    count = next_count (front_in end) front_short (next_version end) most end.manifests commit.change next are is.manifests row_small added_few

  no_manifest : (schemas : Schemas) (fields : List SpecField) (columns : List PartColumn) → IsLayout end commit.change schemas fields columns → HasLongManifest end commit.change schemas fields columns → ⊥
  no_manifest schemas fields columns layout h =
      let of = new_small h.next (each_small h.next h.next_are) h.entries h.new in
      let few = manifest_short schemas.current end.partition fields columns h.entries of.0 h.bytes (schemas_is schemas fields columns layout).current is.partition (fields_is schemas fields columns layout) (columns_is schemas fields columns layout) of.1 h.text in
      let long = h.long in
      omega (arith, few, long)

  no_list : (schemas : Schemas) (fields : List SpecField) (columns : List PartColumn) → HasLongList end commit.change schemas fields columns → ⊥
  no_list schemas fields columns h =
      let listed = list_small (front_in end) front_short (next_version end) lt (most + 1) h.are.next h.texts h.manifests (count h.are.next h.are.next_are) (omega (arith, room)) (each_small h.are.next h.are.next_are) h.are.listed in
      let all = listed.1 in
      let few = list_short end h.manifests h.bytes lt is.metadata.current listed.0.each (omega (arith, all, room)) h.text in
      let long = h.long in
      omega (arith, few, long)

  at_none : (n : ℕ) → PassesAt end origin now commit File n → ⊥
  at_none n (told, long) = by long.cause
    where
      by : HasLongManifest end commit.change long.schemas long.fields long.columns ⊎ (HasLongList end commit.change long.schemas long.fields long.columns ⊎ IsLong (metadata_text (metadata_of end origin now commit long.schemas long.fields))) → ⊥
      by (inl manifest) = no_manifest long.schemas long.fields long.columns long.layout manifest
      by (inr (inl list)) = no_list long.schemas long.fields long.columns list
      by (inr (inr metadata)) =
          let few = metadata_short end origin now commit long.schemas long.fields is.metadata lt up (schemas_is long.schemas long.fields long.columns long.layout) short due.position (fields_is long.schemas long.fields long.columns long.layout) in
          omega (arith, few, metadata)

  -- Behind it the table is a drill's too, and at most one manifest more has a live row.
  pub end_is : (written : NewVersion) → IsWritten end origin now commit written → IsDrillEnd (most + 1) (end_behind end commit written)
  end_is written w = record {
    metadata = subst IsDrillMetadata (sym w.metadata) (made_is end origin now commit w.schemas w.fields is.metadata lt up (schemas_is w.schemas w.fields w.columns w.layout));
    partition = is.partition;
    manifests =
        (list_small (front_in end) front_short (next_version end) lt (most + 1) w.manifests.next written.texts written.manifests (count w.manifests.next w.manifests.next_are) (omega (arith, room)) (each_small w.manifests.next w.manifests.next_are) w.manifests.listed).0;
  }

-- ---- commits one behind the other

module _ (number now : ℕ) (origin : Origin) (short : IsShortOrigin origin) (up : now ≤ drill_time) where
  -- No text that they write is too large.
  pub at_no_commit : (commits : List Commit) (end : TableEnd) (most n : ℕ) → IsDrillEnd most end → Begins end commits → ((commit : Commit) → Contains commits commit → IsDueCommit number commit) → end.version + length commits < 10 ^ 15 → most + length commits < 50000
      → Passes end origin now commits File n → ⊥
  at_no_commit [] end most n is begins dues lt room passes = passes
  at_no_commit (commit ∷ []) end most n is begins dues lt room passes = at_none number now origin short up most (omega (arith, room)) end commit is (dues commit (Contains-head commit [])) (omega (arith, lt)) begins n passes
  at_no_commit (commit ∷ (next ∷ commits)) end most n is begins dues lt room passes =
      at_no_commit (next ∷ commits) (end_behind end commit passes.0) (most + 1) n
      (end_is number now origin short up most (omega (arith, room)) end commit is (dues commit (Contains-head commit (next ∷ commits))) (omega (arith, lt)) begins passes.0 passes.1)
      (begins_on (end_behind end commit passes.0) (next ∷ commits) (ap wide_columns begins) (λ other there. (dues other (Contains-tail commit (next ∷ commits) other there)).stated))
      (λ other there. dues other (Contains-tail commit (next ∷ commits) other there)) (omega (arith, lt)) (omega (arith, room)) passes.2
