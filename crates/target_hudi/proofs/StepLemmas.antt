-- What is written for a commit is read as the change that the commit makes of the table before it.
use Rattle.std.proofs.Common.{◌≡◌, inl, ℕ, ◌≤◌, nat_lt, true, false, List, [], ◌∷◌, length, map, Contains, Ok, Option, None, Some, refl, sym, ap, subst, ◌∙◌, arith}
use Rattle.std.specs.Prelude.{◌↔◌, unwrap_or}
use Rattle.std.specs.List.{IsDistinct, list_any}
use Rattle.std.specs.List.Sorted.{IsStrictlySortedBy}
use Rattle.std.specs.Option.{option_or}
use Rattle.std.specs.Str.{bytes_eq}
use Rattle.std.proofs.lemmas.Bool.{cond-false, le-ltb, ltb-true}
use Rattle.std.proofs.lemmas.List.{length-map}
use Rattle.std.proofs.lemmas.List.Elements.{All-get_or}
use Rattle.lake_basics.specs.Outcome.{each}
use Rattle.lake_basics.specs.declared.limits.TheConstants.{MAX_LIVE_FILES, MAX_PARTITION_COLUMNS, MAX_PATH_BYTES}
use Rattle.table_history.specs.Path.{IsPath}
use Rattle.table_history.specs.Row.{Row}
use Rattle.table_history.specs.Rows.{HasDistinctPaths, HasPath}
use Rattle.table_history.specs.SchemaSize.{IsWithinLimits}
use Rattle.table_history.specs.Tables.{IsAfter, IsDiff, IsRowAfter}
use Rattle.table_history.specs.TypeTree.{ColumnTrees}
use Rattle.table_history.specs.declared.table.Change.{Change}
use Rattle.table_history.specs.declared.table.Commit.{Commit}
use Rattle.table_history.specs.declared.table.Table.{Table}
use Rattle.table_history.proofs.TableLemmas.{diff_leads}
use Rattle.partition_map.specs.Columns.{HasOtherKind, column_kind}
use Rattle.partition_map.specs.Folder.{hive_folders}
use Rattle.partition_map.specs.declared.folder.FolderStyle.{FolderStyle}
use Rattle.partition_map.specs.declared.kind.PartKind.{PartKind}
use Rattle.schema_map.specs.Image.{wide_columns}
use Rattle.schema_avro.proofs.AvroRead.{within_no_limit}
use Rattle.schema_map.proofs.Wide.{wide_limits}
use Rattle.hudi_timeline.specs.Causes.{rows_before, table_before}
use Rattle.hudi_timeline.specs.Change.{IsChangeOf}
use Rattle.hudi_files.specs.Stats.{bare_row, name_fault}
use Rattle.hudi_groups.specs.Files.{without_end}
use Rattle.hudi_timeline.specs.GroupChange.{IsGroupChange, is_long, limit_passed, row_limit}
use Rattle.hudi_groups.specs.GroupSets.{rows_after}
use Rattle.hudi_instant.specs.InstantText.{IsSound, IsSoundStat, stat_cmp}
use Rattle.hudi_timeline.specs.Live.{AreRowsOf, Completed, IsWrittenBy, completed}
use Rattle.hudi_timeline.specs.Schemas.{AreKindsOf}
use Rattle.hudi_files.specs.Values.{HasValues, HaveValues, are_in_folders, style_of}
use Rattle.hudi_groups.specs.declared.form.Form.TheVariants.{External}
use Rattle.hudi_instant.specs.declared.instant.Instant.{Instant}
use Rattle.hudi_instant.specs.declared.instant.Stat.{Stat}
use Rattle.hudi_properties.specs.declared.table.HudiTable.{HudiTable}
use Rattle.hudi_groups.proofs.AnyLemmas.{any_none}
use Rattle.hudi_timeline.proofs.ChangeLemmas.{before_rows, schema_is}
use Rattle.hudi_timeline.proofs.CountLemmas.{fewer}
use Rattle.hudi_groups.proofs.GroupChangeLemmas.{rows_after_distinct}
use Rattle.hudi_timeline.proofs.LiveLemmas.{live_after}
use Rattle.hudi_timeline.proofs.MadeLemmas.{is_change}
use Rattle.target_core.specs.Conditions.{CanPublish, Fits, IsPublishable}
use Rattle.target_core.specs.Views.{Origin, Standing}
use Rattle.target_hudi.specs.Fitting.{Held, Unfit, columns_of}
use Rattle.target_hudi.specs.Reading.{HasStatRow}
use Rattle.target_hudi.specs.Steps.{IsBase, IsBehind, IsStep, IsTableFor}
use Rattle.target_hudi.specs.Writing.{IsReadBack, IsWrittenOver, held_behind, stat_of}
use Rattle.target_hudi.proofs.CarriedLemmas.{bare_of, has_values, kinds_there, of_kinds}
use Rattle.target_hudi.proofs.FittedLemmas.{carries, is_spelled, keeps_kinds, no_other_kind, wide_kinds}
use Rattle.target_hudi.proofs.LiveReadLemmas.{IsWrittenFor, gone_ids, live_rows, only_ids, stat_row_there, there_written, written_there}
use Rattle.target_hudi.proofs.SchemaReadLemmas.{IsSchemaRead, base_wide, behind_wide, schema_read}
use Rattle.target_hudi.proofs.SortLemmas.{diff_there}
use Rattle.target_hudi.proofs.StatLemmas.{stat_from}
use Rattle.target_hudi.proofs.StatReadLemmas.{AreOf, IsSoundRow, all_inside, distinct_rows, each_bare, have_all, no_name_fault, own_path, rows_from, same_row, suffix}

-- ---- the table before

old_rows : (before : Table) (held : Option Held) (base : Option Table) → IsBase before held base → rows_before base ≡ before.rows
old_rows before held None is = λ i. (sym is.0 i).rows
old_rows before held (Some table) is = λ i. (is.0 i).rows

old_partition : (table : HudiTable) (before : Table) (held : Option Held) (base : Option Table) → table.partition ≡ before.partition → IsBase before held base → before.partition ≡ (table_before table base).partition
old_partition table before held None same is = sym same
old_partition table before held (Some base) same is = λ i. (sym is.0 i).partition

held_columns : (before : Table) (held : Option Held) (table : Table) → IsBase before held (Some table) → columns_of held ≡ Some before.schema
held_columns before held table is = ap columns_of is.1

-- ---- numbers

few_rows : (table : HudiTable) (schema : ColumnTrees) (rows : List Row) (live : ℕ) → IsWithinLimits schema → length table.partition ≤ MAX_PARTITION_COLUMNS → ((row : Row) → Contains rows row → IsPath row.path) → live ≤ MAX_LIVE_FILES
    → limit_passed table schema (list_any is_long rows) live ≡ None
few_rows table schema rows live limits columns paths few =
    let short : list_any is_long rows ≡ false = any_none is_long rows (λ row there long. let past = ltb-true MAX_PATH_BYTES (length row.path) long in let is = (paths row there).short in absurd (omega (arith, past, is))) in
    ap (λ o. option_or o (row_limit table (list_any is_long rows) live)) (within_no_limit schema limits)
    ∙ cond-false (nat_lt MAX_PARTITION_COLUMNS (length table.partition)) _ _ (le-ltb MAX_PARTITION_COLUMNS (length table.partition) columns)
    ∙ cond-false (list_any is_long rows) _ _ short
    ∙ cond-false (nat_lt MAX_LIVE_FILES live) _ _ (le-ltb MAX_LIVE_FILES live few)

module _ (table : HudiTable) (before : Table) (held : Option Held) (base : Option Table) (origin : Origin) (time : List ℕ) (commit : Commit) (written : Instant) (commits : ℕ) (mark : Option Standing) (next : Table)
    (for : IsTableFor table before.partition) (is_base : IsBase before held base) (distinct : HasDistinctPaths before.rows) (paths : (row : Row) → Contains before.rows row → IsPath row.path)
    (can : CanPublish (record { commits = commits; mark = mark; table = before }) commit) (fits : Fits (Unfit held) before.partition (commit ∷ []))
    (is : IsWrittenOver (unwrap_or commit.change.schema before.schema) origin time commit written) (sound : IsSound written)
    (back : IsReadBack (unwrap_or commit.change.schema before.schema) written.schema) (behind : IsBehind before commit.change next) where
  abbrev change : Change
  change = commit.change

  abbrev stated : ColumnTrees
  stated = unwrap_or commit.change.schema before.schema

  abbrev schema : ColumnTrees
  schema = held_behind commit.change.schema before.schema

  abbrev u : Completed
  u = completed (External time) written

  -- ---- the table behind the commit

  publishable : IsPublishable (record { schema = stated; partition = before.partition; rows = next.rows })
  publishable = can.after (record { schema = stated; partition = before.partition; rows = next.rows }) (record { rows = behind.rows; distinct = behind.distinct; schema = refl; partition = refl })

  wide : schema ≡ wide_columns stated
  wide = behind_wide before.schema commit.change.schema (base_wide before held base is_base)

  added_there : (row : Row) → Contains change.added row → Contains next.rows row
  added_there row there = (behind.rows row).1 (inl there)

  added_path : (row : Row) → Contains change.added row → IsPath row.path
  added_path row there = publishable.paths row (added_there row there)

  -- ---- the rows of the stats

  sound_row : (row : Row) → Contains change.added row → IsSoundRow row
  sound_row row there =
      let stat = (is.stats (stat_of time row)).1 (row, there, refl) in
      let numbers : IsSoundStat (stat_of time row) = subst IsSoundStat stat.2 (All-get_or IsSoundStat written.stats stat.0 (stat_of time row) stat.1 sound.stats) in
      record { path = added_path row there; count = numbers.writes; size = numbers.size }

  of_stats : AreOf time change.added written.stats
  of_stats = rows_from time change.added written.stats (λ s there. (is.stats s).0 there)

  abbrev rows : List Row
  rows = of_stats.rows

  rows_distinct : HasDistinctPaths rows
  rows_distinct = distinct_rows time change.added can.change.added_distinct rows of_stats.there (subst (IsStrictlySortedBy stat_cmp) of_stats.are is.stats_order)

  rows_paths : (row : Row) → Contains rows row → IsPath row.path
  rows_paths row there = added_path row (of_stats.there row there)

  added_rows : (row : Row) → Contains change.added row → Contains rows row
  added_rows row there =
      let stat = subst (λ l. Contains l (stat_of time row)) of_stats.are ((is.stats (stat_of time row)).1 (row, there, refl)) in
      let from = stat_from time rows (stat_of time row) stat in
      let path : from.0.path ≡ row.path = sym (own_path time from.0.path) ∙ ap (λ (s : Stat). without_end (suffix time) s.path) (sym from.2) ∙ own_path time row.path in
      subst (Contains rows) (same_row change.added can.change.added_distinct from.0 row (of_stats.there from.0 from.1) there path) from.1

  -- ---- the kinds and the values

  found_kinds : (kinds : List PartKind) × AreKindsOf stated before.partition kinds
  found_kinds = kinds_there stated before.partition publishable.partition_kinds

  abbrev kinds : List PartKind
  kinds = found_kinds.0

  are_kinds : AreKindsOf schema table.partition kinds
  are_kinds = (λ i. map (column_kind (wide i)) (for.partition_is i)) ∙ sym (wide_kinds stated before.partition) ∙ found_kinds.1

  counted : length kinds ≡ length before.partition
  counted = sym (length-map kinds Some) ∙ ap length (sym found_kinds.1) ∙ length-map before.partition (column_kind stated)

  style : hive_folders ≡ style_of table
  style = λ i. record { hive_style = sym for.hive_style i; url_encode = sym for.url_encode i }

  has : (row : Row) → Contains rows row → HasValues (style_of table) table.partition kinds (bare_of row) row
  has row there =
      let added = of_stats.there row there in
      let of = of_kinds stated before.partition kinds row.values found_kinds.1 (publishable.sound.values row (added_there row added)) in
      subst (λ (s : FolderStyle). HasValues s table.partition kinds (bare_of row) row) style
      (subst (λ names. HasValues hive_folders names kinds (bare_of row) row) (sym for.partition_is) (has_values before.partition kinds counted row of (carries held before.partition commit fits row added)))

  -- ---- what is read

  abbrev files : List Row
  files = map bare_of rows

  read : each (bare_row (suffix time)) written.stats ≡ Ok files
  read = ap (each (bare_row (suffix time))) of_stats.are ∙ each_bare time rows (λ row there. sound_row row (of_stats.there row there))

  have : HaveValues (style_of table) table.partition kinds files rows
  have = have_all (style_of table) table.partition kinds rows has

  are_rows : AreRowsOf table kinds u rows
  are_rows = (files, read, have)

  named : name_fault (External time) (suffix time) written.stats ≡ None
  named = ap (name_fault (External time) (suffix time)) of_stats.are ∙ no_name_fault time rows

  inside : are_in_folders (style_of table) table.partition files ≡ true
  inside = all_inside (style_of table) table.partition kinds rows has

  schema_is_read : IsSchemaRead written.schema base schema
  schema_is_read = schema_read before held base is_base commit.change.schema (is_spelled held before.partition commit fits) publishable.schema publishable.size written.schema is.stated back

  kept_by : (states : Option ColumnTrees) → commit.change.schema ≡ states → (t : Table) → base ≡ Some t → HasOtherKind t.schema (held_behind states before.schema) before.partition → ⊥
  kept_by states by t holds other =
      let is_some : IsBase before held (Some t) = subst (IsBase before held) holds is_base in
      let same : t.schema ≡ before.schema = λ i. (is_some.0 i).schema in
      kept_at states by is_some (subst (λ s. HasOtherKind s (held_behind states before.schema) before.partition) same other)
    where
      kept_at : (states : Option ColumnTrees) → commit.change.schema ≡ states → IsBase before held (Some t) → HasOtherKind before.schema (held_behind states before.schema) before.partition → ⊥
      kept_at None by is_some other = no_other_kind before.schema before.schema before.partition refl other
      kept_at (Some s) by is_some other = keeps_kinds held before.partition commit fits before.schema s (held_columns before held t is_some) by other

  kept : (t : Table) → base ≡ Some t → HasOtherKind t.schema schema table.partition → ⊥
  kept t holds other = kept_by commit.change.schema refl t holds (subst (HasOtherKind t.schema schema) for.partition_is other)

  -- ---- the rows behind the instant

  abbrev old : List Row
  old = rows_before base

  old_is : old ≡ before.rows
  old_is = old_rows before held base is_base

  written_for : IsWrittenFor time written old change
  written_for = record {
    stats = is.stats;
    replaced = is.replaced;
    old_paths = λ row there. paths row (subst (λ l. Contains l row) old_is there);
    removed_there = λ path there. subst (λ l. HasPath l path) (sym old_is) (can.change.removed_there path there);
    added_paths = added_path;
    added_new = λ row there has_it. can.change.added_new row there (subst (λ l. HasPath l row.path) old_is has_it);
  }

  adds : (row : Row) → Contains change.added row ↔ IsWrittenBy table kinds u row
  adds row = (
    λ there. there_written table kinds time written rows are_rows rows_distinct rows_paths row (added_rows row there),
    λ by. of_stats.there row (written_there table kinds time written rows are_rows row by),
  )

  stat_rows : (row : Row) → Contains change.added row ↔ HasStatRow table kinds u row
  stat_rows row = (
    λ there. (rows, are_rows, added_rows row there),
    λ has. of_stats.there row (stat_row_there table kinds time written rows are_rows row has),
  )

  abbrev after : List Row
  after = rows_after (External time) written.replaced old rows

  next_rows : (row : Row) → Contains next.rows row ↔ Contains after row
  next_rows row =
      let live = live_after table kinds u rows are_rows old row in
      let made = live_rows time written old change written_for table kinds adds row in (
        λ there. live.1 (made.1 (subst (λ l. IsRowAfter l change.removed change.added row) (sym old_is) ((behind.rows row).0 there))),
        λ there. (behind.rows row).1 (subst (λ l. IsRowAfter l change.removed change.added row) old_is (made.0 (live.0 there))),
      )

  old_distinct : HasDistinctPaths old
  old_distinct = subst HasDistinctPaths (sym old_is) distinct

  after_distinct : HasDistinctPaths after
  after_distinct = rows_after_distinct (External time) written.replaced old rows old_distinct

  found : (removed : List (List ℕ)) × (added : List Row) × IsDiff old after removed added
  found = diff_there old after old_distinct after_distinct

  abbrev group : Change
  group = record { schema = schema_is_read.stated; removed = found.0; added = found.1 }

  few : length after ≤ MAX_LIVE_FILES
  few = let fewer_there = fewer after next.rows after_distinct (λ row there. (next_rows row).1 there) in omega (arith, fewer_there, publishable.live_files)

  group_change : IsGroupChange (External time) table schema written.replaced old rows group
  group_change = record {
    diff = found.2;
    before_distinct = old_distinct;
    distinct = after_distinct;
    few = few_rows table schema rows (length after) (subst IsWithinLimits (sym wide) (wide_limits stated publishable.size))
        (subst (λ names. length names ≤ MAX_PARTITION_COLUMNS) (sym for.partition_is) publishable.partition_columns) rows_paths few;
  }

  made : IsChangeOf u table base group
  made =
      is_change u table base files read schema_is_read.stated schema_is_read.states schema schema_is_read.after kinds (subst (IsDistinct bytes_eq) (sym for.partition_is) publishable.partition_distinct) are_kinds kept
      rows named inside have schema_is_read.sound group group_change

  leads : IsAfter (table_before table base) group next
  leads = record {
    rows = λ row.
        let diff = diff_leads old after found.0 found.1 found.2 old_distinct after_distinct row in
        let same = before_rows table base in (
          λ there. subst (λ l. IsRowAfter l found.0 found.1 row) (sym same) (diff.1 ((next_rows row).0 there)),
          λ there. (next_rows row).1 (diff.0 (subst (λ l. IsRowAfter l found.0 found.1 row) same there)),
        );
    distinct = behind.distinct;
    schema = behind.schema ∙ sym (schema_is table base schema_is_read.stated schema schema_is_read.after);
    partition = behind.partition ∙ old_partition table before held base for.partition_is is_base;
  }

  pub step : IsStep table base time commit written next
  step = record {
    change = group;
    made = made;
    after = leads;
    kinds = kinds;
    are_kinds = subst (λ s. AreKindsOf s table.partition kinds) (sym behind.schema) are_kinds;
    adds = stat_rows;
    removes = gone_ids time written old change written_for;
    only = only_ids time written old change written_for;
  }
