-- The instant that a commit is written as, from the table behind it.
use Rattle.std.proofs.Common.{◌≡◌, inl, inr, ⊎_elim, ℕ, ◌+◌, ◌<◌, ◌≤◌, true, List, [], ◌∷◌, length, Contains, IfSome, Option, None, Some, refl, sym, ap, subst, ◌∙◌, arith}
use Rattle.std.specs.Prelude.{◌⊎◌, Err, IfErr, IfOk, Ok, OnErr, OnOk, Result, is_some, unwrap_or}
use Rattle.std.specs.Ordering.{nat_cmp}
use Rattle.std.specs.Cmp.Lexicographic.{slice_cmp}
use Rattle.std.specs.declared.cmp.Ordering.TheVariants.{Less}
use Rattle.std.proofs.lemmas.Bool.{false≢true}
use Rattle.serde_json.specs.Written.{compact_text}
use Rattle.lake_basics.specs.declared.limits.TheConstants.{MAX_ACTIONS, MAX_FILE_BYTES, MAX_LIVE_FILES, MAX_PUBLISHED_COMMITS}
use Rattle.table_history.specs.Path.{IsPath}
use Rattle.table_history.specs.Row.{Row}
use Rattle.table_history.specs.Rows.{HasDistinctPaths, paths_of}
use Rattle.table_history.specs.SchemaSize.{IsWithinLimits}
use Rattle.table_history.specs.Sound.{IsSound}
use Rattle.table_history.specs.Tables.{IsAfter}
use Rattle.table_history.specs.TypeTree.{ColumnTrees}
use Rattle.table_history.specs.declared.feature.Feature.{Feature}
use Rattle.table_history.specs.declared.feature.Feature.TheVariants.{AvroName, PartitionChange, SchemaType}
use Rattle.table_history.specs.declared.limit.LimitKind.{LimitKind}
use Rattle.table_history.specs.declared.table.Commit.{Commit}
use Rattle.table_history.specs.declared.table.Table.{Table}
use Rattle.table_history.proofs.RowListLemmas.{Contains-none, Contains-paths}
use Rattle.table_history.proofs.TableLemmas.{Contains-paths_cases}
use Rattle.schema_avro.specs.AvroWriting.{avro_schema_text, avro_text, columns_unless, key_fault, name_fault}
use Rattle.schema_map.specs.Image.{wide_columns}
use Rattle.schema_map.specs.declared.fault.MapError.{MapError}
use Rattle.schema_map.specs.declared.fault.MapError.TheVariants as map_errors
use Rattle.lake_basics.specs.Outcome.{◌>>=◌}
use Rattle.lake_basics.proofs.Texts.{fewer}
use Rattle.hudi_instant.specs.InstantText.{IsWritable, instant_text}
use Rattle.hudi_instant.specs.Instants.{json_instant}
use Rattle.hudi_instant.specs.declared.instant.Instant.{Instant}
use Rattle.target_core.specs.Conditions.{CanPublish, Fits, IsPublishable}
use Rattle.target_core.specs.Held.{are_held}
use Rattle.target_core.specs.Mark.{IsMarkText, mark_data}
use Rattle.target_core.specs.Views.{Origin}
use Rattle.target_core.specs.declared.mark.Mark.{Mark}
use Rattle.target_core.specs.declared.target.TargetError.{TargetError}
use Rattle.target_core.specs.declared.target.TargetError.TheVariants as errors
use Rattle.target_core.proofs.HeldRows.{held_few, held_of, held_paths}
use Rattle.target_core.proofs.RowPaths.{rows_length}
use Rattle.target_hudi.specs.Fitting.{ChangesPartition, Held, IsCommitFault, Unfit, changes, fault}
use Rattle.target_hudi.specs.Kept.{end_of, view_of}
use Rattle.target_hudi.specs.NewInstant.{AreGiven, IsFileRefusal, IsInstantRefusal, IsNewInstant, IsTextAt, IsTimeRefusal, IsTooLongAt}
use Rattle.target_hudi.specs.Writing.{HasLargeProperties, IsNextInstant, IsReadAs, IsReadBack, IsStatedText, IsWritten, IsWrittenOver, LeavesAdded, LosesRemoved, PassesLast, TimelineEnd, held_behind, mark_of}
use Rattle.target_hudi.specs.declared.kept.HudiKept.{HudiKept}

-- ---- the rows behind the change

module _ (before after : Table) (commit : Commit) (is : IsAfter before commit.change after) where
  pub leaves_added : LeavesAdded commit.change.added after.rows
  leaves_added row there = (is.rows row).1 (inl there)

  pub loses_removed : LosesRemoved commit.change after.rows
  loses_removed path removed has =
      ⊎_elim
      (λ (added : Contains commit.change.added has.0). (has.0, added, has.2))
      (λ (kept : Contains before.rows has.0 × (Contains commit.change.removed has.0.path → ⊥)). absurd (kept.1 (subst (λ (p : List ℕ). Contains commit.change.removed p) (sym has.2) removed)))
      ((is.rows has.0).0 has.1)

module _ (kept : HudiKept) (commit : Commit) (can : CanPublish (view_of kept) commit) where
  pub removed_paths : (path : List ℕ) → Contains commit.change.removed path → IsPath path
  removed_paths path there = let row = can.change.removed_there path there in subst IsPath row.2 (held_paths kept.table.rows kept.rows_held row.0 row.1)

  removed_few : length commit.change.removed ≤ MAX_LIVE_FILES
  removed_few =
      let among = fewer commit.change.removed (paths_of kept.table.rows) can.change.removed_distinct
      (λ path there. let row = can.change.removed_there path there in subst (λ (p : List ℕ). Contains (paths_of kept.table.rows) p) row.2 (Contains-paths kept.table.rows row.0 row.1)) in
      let few = held_few kept.table.rows kept.rows_held in
      omega (arith, among, rows_length kept.table.rows, few)

  module _ (after : Table) (is : IsAfter kept.table commit.change after) where
    may : IsPublishable after
    may = can.after after is

    pub added_paths : (row : Row) → Contains commit.change.added row → IsPath row.path
    added_paths row there = may.paths row ((is.rows row).1 (inl there))

    added_few : length commit.change.added ≤ MAX_LIVE_FILES
    added_few =
        let among = fewer (paths_of commit.change.added) (paths_of after.rows) can.change.added_distinct
        (λ path there. let row = Contains-paths_cases commit.change.added path there in subst (λ (p : List ℕ). Contains (paths_of after.rows) p) row.2 (Contains-paths after.rows row.0 ((is.rows row.0).1 (inl row.1)))) in
        omega (arith, among, rows_length commit.change.added, rows_length after.rows, may.live_files)

    pub actions_few : length commit.change.added + length commit.change.removed ≤ MAX_ACTIONS
    actions_few = omega (arith, added_few, removed_few)

    held_after : are_held after.rows ≡ true
    held_after = held_of after may

    pub sound_after : IsSound after.schema
    sound_after = may.schema

    pub size_after : IsWithinLimits after.schema
    size_after = may.size

  pub held_either : (after : Table) {T E : Type 0} (r : Result T E) → OnOk r (IsAfter kept.table commit.change after) → OnErr r (after ≡ kept.table) → are_held after.rows ≡ true
  held_either after (Ok x) ok err = held_after after ok
  held_either after (Err e) ok err = ap (λ (t : Table). are_held t.rows) err ∙ kept.rows_held

-- ---- the schema that is stated has a text

avro_fault : (schema : ColumnTrees) (e : MapError) → avro_schema_text schema ≡ Err e → ((column : List ℕ) × (e ≡ map_errors.SchemaType column)) ⊎ ((column : List ℕ) × (e ≡ map_errors.AvroName column))
avro_fault schema e is = by (key_fault schema) refl (name_fault schema) refl
  where
    by : (k : Option (List ℕ)) → key_fault schema ≡ k → (n : Option (List ℕ)) → name_fault schema ≡ n → ((column : List ℕ) × (e ≡ map_errors.SchemaType column)) ⊎ ((column : List ℕ) × (e ≡ map_errors.AvroName column))
    by (Some column) key n name =
        let value : avro_schema_text schema ≡ Err (map_errors.SchemaType column) = ap (λ o. (columns_unless map_errors.SchemaType o schema >>= λ cs. columns_unless map_errors.AvroName (name_fault cs) cs) >>= λ cs. Ok (avro_text cs)) key in
        inl (column, cc (sym is ∙ value))
    by None key (Some column) name =
        let first : avro_schema_text schema ≡ (columns_unless map_errors.AvroName (name_fault schema) schema >>= λ cs. Ok (avro_text cs)) = ap (λ o. (columns_unless map_errors.SchemaType o schema >>= λ cs. columns_unless map_errors.AvroName (name_fault cs) cs) >>= λ cs. Ok (avro_text cs)) key in
        let value : avro_schema_text schema ≡ Err (map_errors.AvroName column) = first ∙ ap (λ o. columns_unless map_errors.AvroName o schema >>= λ cs. Ok (avro_text cs)) name in
        inr (column, cc (sym is ∙ value))
    by None key None name =
        let first : avro_schema_text schema ≡ (columns_unless map_errors.AvroName (name_fault schema) schema >>= λ cs. Ok (avro_text cs)) = ap (λ o. (columns_unless map_errors.SchemaType o schema >>= λ cs. columns_unless map_errors.AvroName (name_fault cs) cs) >>= λ cs. Ok (avro_text cs)) key in
        let value : avro_schema_text schema ≡ Ok (avro_text schema) = first ∙ ap (λ o. columns_unless map_errors.AvroName o schema >>= λ cs. Ok (avro_text cs)) name in
        absurd (cc (sym is ∙ value))

module _ (held : Option Held) (partition : List (List ℕ)) (commit : Commit) (fits : Fits (Unfit held) partition (commit ∷ [])) where
  not_many : MAX_PUBLISHED_COMMITS < length (commit ∷ []) → ⊥
  not_many is = absurd (omega (arith, is))

  alike : ChangesPartition held partition (commit ∷ []) → ⊥
  alike is = fits.never (errors.Unsupported PartitionChange []) (changes not_many is)

  no_fault : (feature : Feature) (path : List ℕ) → IsCommitFault partition commit feature path → ⊥
  no_fault feature path is =
      fits.never (errors.Unsupported feature path) (fault feature path not_many alike (record { front = []; commit = commit; behind = []; split = refl; fault = is; none = λ other there. absurd (Contains-none other there) }))

  spelled : (stated : ColumnTrees) → commit.change.schema ≡ Some stated → (e : MapError) → avro_schema_text stated ≡ Err e → ⊥
  spelled stated is e err =
      ⊎_elim
      (λ (f : (column : List ℕ) × (e ≡ map_errors.SchemaType column)). no_fault SchemaType f.0 (stated, is, err ∙ ap Err f.1))
      (λ (f : (column : List ℕ) × (e ≡ map_errors.AvroName column)). no_fault AvroName f.0 (stated, is, err ∙ ap Err f.1))
      (avro_fault stated e err)

  -- and is read back by it in Hudi's types
  pub read_as : (before after : Table) (text : Option (List ℕ)) → IsAfter before commit.change after → IsSound after.schema → IsWithinLimits after.schema
      → IsStatedText after.schema text → IsReadBack after.schema text → (stated : ColumnTrees) → commit.change.schema ≡ Some stated → IsReadAs text (wide_columns stated)
  read_as before after text is sound size there back stated states =
      let same : after.schema ≡ stated = is.schema ∙ ap (λ o. unwrap_or o before.schema) states in
      by text (subst (λ s. IsStatedText s text) same there) (subst (λ s. IsReadBack s text) same back) (subst IsSound same sound) (subst IsWithinLimits same size)
    where
      by : (t : Option (List ℕ)) → IsStatedText stated t → IsReadBack stated t → IsSound stated → IsWithinLimits stated → IsReadAs t (wide_columns stated)
      by None none back sound size = absurd (spelled stated states none.0 none.1)
      by (Some t) spells back sound size = back sound size

pub stated_read : (stated : Option ColumnTrees) (text : Option (List ℕ)) → is_some stated ≡ true → ((schema : ColumnTrees) → stated ≡ Some schema → IsReadAs text (wide_columns schema)) → (schema : ColumnTrees) × IsReadAs text schema
stated_read None text some reads = absurd (false≢true some)
stated_read (Some schema) text some reads = (wide_columns schema, reads schema refl)

-- ---- the whole

held_same : (stated : Option ColumnTrees) (before after : ColumnTrees) → after ≡ unwrap_or stated before → held_behind stated after ≡ held_behind stated before
held_same None before after is = is
held_same (Some schema) before after is = refl

module _ (name : List ℕ) (kept : HudiKept) (commit : Commit) (origin : Origin) (now : ℕ) (time : List ℕ) (mid : Table) (after : IsAfter kept.table commit.change mid) (next_time : IsNextInstant (end_of name kept) now time) where
  written_is : (written : Instant) → IsWrittenOver mid.schema origin time commit written → IsWritten (end_of name kept) origin time commit written
  written_is written is = subst (λ s. IsWrittenOver s origin time commit written) after.schema is

  pub new_is : (properties : Option (List ℕ)) (text : List ℕ) (written : Instant) (last : Table) (next : HudiKept) (mark : Mark)
      → IfSome kept.newest (λ l. slice_cmp nat_cmp l time ≡ Less) → AreGiven (end_of name kept) properties
      → IsWrittenOver mid.schema origin time commit written → IsWritable written → IsReadBack mid.schema written.schema
      → text ≡ instant_text written → json_instant text ≡ Ok written → IsMarkText (compact_text (mark_data (mark_of time origin commit.position))) (mark_of time origin commit.position)
      → last.rows ≡ mid.rows → last.partition ≡ mid.partition → last.schema ≡ held_behind commit.change.schema mid.schema
      → next.table ≡ last → next.mark ≡ Some mark → mark ≡ mark_of time origin commit.position → next.newest ≡ Some time → next.commits ≡ kept.commits + 1
      → IsNewInstant (end_of name kept) origin now kept commit time properties text next
  new_is properties text written last next mark later given over writable back text_is read marked rows partition schema table mark_new mark_is newest commits = record {
    next_time = next_time;
    real = (next_time.0, next_time.2);
    later = later;
    given = given;
    written = written;
    is = written_is written over;
    sound = writable.sound;
    read_back = subst (λ s. IsReadBack s written.schema) after.schema back;
    text_is = text_is;
    read = read;
    marked = marked;
    rows = λ row. (
      λ there. (after.rows row).0 (subst (λ (l : List Row). Contains l row) same_rows there),
      λ there. subst (λ (l : List Row). Contains l row) (sym same_rows) ((after.rows row).1 there),
    );
    distinct = subst HasDistinctPaths (sym same_rows) after.distinct;
    end_is = λ i. record { name = name; newest = newest i; schema = same_schema i; partition = same_partition i };
    commits = commits;
    mark = mark_new ∙ ap (λ (m : Mark). Some m) mark_is;
  }
    where
      same_rows : next.table.rows ≡ mid.rows
      same_rows = ap (λ (t : Table). t.rows) table ∙ rows

      same_partition : next.table.partition ≡ kept.table.partition
      same_partition = ap (λ (t : Table). t.partition) table ∙ partition ∙ after.partition

      same_schema : next.table.schema ≡ held_behind commit.change.schema kept.table.schema
      same_schema = ap (λ (t : Table). t.schema) table ∙ schema ∙ held_same commit.change.schema kept.table.schema mid.schema after.schema

-- ---- the text

module _ (kept next : HudiKept) (commit : Commit) (origin : Origin) (time : List ℕ) (mid : Table) (after : IsAfter kept.table commit.change mid) (written : Instant) (over : IsWrittenOver mid.schema origin time commit written) where
  pub text_is : (r : Result (List ℕ) TargetError) → IsWritable written → IsReadBack mid.schema written.schema → IsMarkText (compact_text (mark_data (mark_of time origin commit.position))) (mark_of time origin commit.position)
      → IfOk r (λ text. text ≡ instant_text written) → IfOk r (λ text. json_instant text ≡ Ok written) → OnOk r (next.table.schema ≡ held_behind commit.change.schema mid.schema)
      → next.table.rows ≡ mid.rows → next.table.partition ≡ mid.partition → next.mark ≡ Some (mark_of time origin commit.position) → next.newest ≡ Some time → next.commits ≡ kept.commits + 1
      → IfOk r (λ text. IsTextAt origin kept commit time text next)
  text_is (Err e) writable back marked text read schema rows partition mark newest commits = tt
  text_is (Ok bytes) writable back marked text read schema rows partition mark newest commits = record {
    mid = mid;
    after = after;
    written = written;
    over = over;
    writable = writable;
    read_back = back;
    text_is = text;
    read = read;
    marked = marked;
    rows = rows;
    partition = partition;
    schema = schema;
    mark = mark;
    newest = newest;
    commits = commits;
  }

  too_long : (e : TargetError) → IsFileRefusal (MAX_FILE_BYTES < length (instant_text written)) e → IsFileRefusal (IsTooLongAt origin kept commit time) e
  too_long errors.Memory h = tt
  too_long errors.StoreFault h = h
  too_long errors.Contested h = h
  too_long (errors.Limit which number) h = (h.0, h.1, record { mid = mid; after = after; written = written; over = over; long = h.2 })
  too_long (errors.Unsupported feature path) h = h

  pub text_long : {T : Type 0} (r : Result T TargetError) → IfErr r (IsFileRefusal (MAX_FILE_BYTES < length (instant_text written))) → IfErr r (IsFileRefusal (IsTooLongAt origin kept commit time))
  text_long (Ok x) h = tt
  text_long (Err e) h = too_long e h

pub text_refused : (name : List ℕ) (kept : HudiKept) (commit : Commit) (origin : Origin) (now : ℕ) (time : List ℕ) → IsNextInstant (end_of name kept) now time → (e : TargetError) → IsFileRefusal (IsTooLongAt origin kept commit time) e
    → IsInstantRefusal (PassesLast (end_of name kept) origin now (commit ∷ [])) e
text_refused name kept commit origin now time next errors.Memory h = tt
text_refused name kept commit origin now time next errors.StoreFault h = h
text_refused name kept commit origin now time next errors.Contested h = h
text_refused name kept commit origin now time next (errors.Limit which number) h =
    subst (λ (w : LimitKind). PassesLast (end_of name kept) origin now (commit ∷ []) w number) (sym h.0)
    (h.1, inl (time, h.2.written, next, written_is name kept commit origin now time h.2.mid h.2.after next h.2.written h.2.over, h.2.long))
text_refused name kept commit origin now time next (errors.Unsupported feature path) h = h

-- ---- other refusals

module _ (end : TimelineEnd) (commit : Commit) (origin : Origin) (now : ℕ) where
  pub time_refused : (e : TargetError) → IsTimeRefusal end.newest now e → IsInstantRefusal (PassesLast end origin now (commit ∷ [])) e
  time_refused errors.Memory h = tt
  time_refused errors.StoreFault h = h
  time_refused errors.Contested h = h
  time_refused (errors.Limit which number) h = subst (λ (w : LimitKind). PassesLast end origin now (commit ∷ []) w number) (sym h.0) (h.1, h.2)
  time_refused (errors.Unsupported feature path) h = h

  pub properties_refused : (e : TargetError) → IsFileRefusal (HasLargeProperties end) e → IsInstantRefusal (PassesLast end origin now (commit ∷ [])) e
  properties_refused errors.Memory h = tt
  properties_refused errors.StoreFault h = h
  properties_refused errors.Contested h = h
  properties_refused (errors.Limit which number) h = subst (λ (w : LimitKind). PassesLast end origin now (commit ∷ []) w number) (sym h.0) (h.1, inr h.2)
  properties_refused (errors.Unsupported feature path) h = h
