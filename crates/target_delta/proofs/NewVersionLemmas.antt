-- The version that a commit is written as, from the table behind it.
use Rattle.std.proofs.Common.{◌≡◌, inl, ⊎_elim, ℕ, suc, ◌+◌, ◌≤◌, ◌||◌, true, List, [], ◌∷◌, length, Contains, Some, refl, sym, ap, subst, ◌∙◌, arith}
use Rattle.std.specs.Prelude.{◌<◌, Err, IfOk, Ok, OnErr, OnOk, Result}
use Rattle.std.proofs.lemmas.List.{append-nil}
use Rattle.serde_json.specs.Written.{compact_text}
use Rattle.lake_basics.specs.declared.limits.TheConstants.{MAX_DELTA_VERSION, MAX_FILE_BYTES, MAX_LIVE_FILES}
use Rattle.lake_basics.proofs.Texts.{fewer}
use Rattle.table_history.specs.History.{FitColumns}
use Rattle.table_history.specs.Path.{IsPath}
use Rattle.table_history.specs.Row.{Row}
use Rattle.table_history.specs.Rows.{paths_of}
use Rattle.table_history.specs.SchemaSize.{IsWithinLimits}
use Rattle.table_history.specs.Sound.{IsSound}
use Rattle.table_history.specs.Tables.{IsAfter}
use Rattle.table_history.specs.TypeTree.{ColumnTrees}
use Rattle.table_history.specs.declared.limit.LimitKind.{LimitKind}
use Rattle.table_history.specs.declared.row.PartValue.{PartValue}
use Rattle.table_history.specs.declared.table.Change.{Change}
use Rattle.table_history.specs.declared.table.Commit.{Commit}
use Rattle.table_history.specs.declared.table.Table.{Table}
use Rattle.table_history.proofs.RowListLemmas.{Contains-paths}
use Rattle.schema_delta.specs.Delta.{delta_schema_of}
use Rattle.schema_delta.specs.DeltaWriting.{delta_text}
use Rattle.delta_log.specs.Readable.{IsReadableCommit}
use Rattle.delta_text.specs.Writing.{SameCommit, commit_text}
use Rattle.delta_log.specs.declared.commit.DeltaCommit.{DeltaCommit}
use Rattle.target_core.specs.Conditions.{CanPublish, Fits, IsPublishable}
use Rattle.target_core.specs.Mark.{IsMarkText, mark_data}
use Rattle.target_core.specs.Views.{Origin}
use Rattle.target_core.specs.declared.mark.Mark.{Mark}
use Rattle.target_core.specs.declared.target.TargetError.{TargetError}
use Rattle.target_core.specs.declared.target.TargetError.TheVariants as errors
use Rattle.target_delta.specs.Fitting.{Unfit}
use Rattle.target_core.specs.Held.{are_held}
use Rattle.target_delta.specs.Kept.{end_of, view_of}
use Rattle.target_delta.specs.NewVersion.{IsGoneOn, IsNewVersion, IsTextOf, IsTextRefusal, IsTooLongFor, IsVersionRefusal, IsWrittenOf}
use Rattle.target_delta.specs.Reading.{mark_setting}
use Rattle.target_delta.specs.Writing.{AreActions, CanAdd, IsWritten, LeavesAdded, LosesRemoved, Passes, end_behind, have_ntz, mark_of, protocol_due}
use Rattle.target_delta.specs.declared.kept.DeltaKept.{DeltaKept}
use Rattle.target_delta.specs.FitLemmas.{fits_rows}
use Rattle.target_core.proofs.HeldRows.{held_few, held_of, held_paths}
use Rattle.target_core.proofs.RowPaths.{rows_length}
use Rattle.target_delta.specs.KeptLemmas.{ends_by}

-- ---- the text of what is written

module _ (behind : DeltaKept) (change : Change) (mark : Mark) (now : ℕ) where
  pub text_is : {E : Type 0} (written : DeltaCommit) (r : Result (List ℕ) E) → IsWrittenOf behind change mark written → IsMarkText (compact_text (mark_data mark)) mark
      → (IsSound behind.table.schema → IsWithinLimits behind.table.schema → delta_schema_of (delta_text behind.table.schema) ≡ Ok behind.table.schema) → IfOk r (λ bytes. bytes ≡ commit_text now written)
      → IfOk r (λ bytes. (again : DeltaCommit) × IsReadableCommit bytes again × SameCommit written again) → IfOk r (IsTextOf behind change mark now)
  text_is written (Err e) is reads spells text readable = tt
  text_is written (Ok bytes) is reads spells text readable = record {
    written = written;
    is = is;
    text = text;
    again = readable.0;
    readable = readable.1;
    same = readable.2;
    reads_back = reads;
    spells = spells;
  }

  pub too_long : (bytes : List ℕ) → IsTextOf behind change mark now bytes → MAX_FILE_BYTES < length bytes → IsTooLongFor behind change mark now
  too_long bytes text long = record {
    written = text.written;
    is = text.is;
    long = subst (λ (b : List ℕ). MAX_FILE_BYTES < length b) text.text long;
  }

-- ---- the rows behind the change

module _ (before after : Table) (commit : Commit) (is : IsAfter before commit.change after) where
  pub leaves_added : LeavesAdded commit.change.added after.rows
  leaves_added row there = (is.rows row).1 (inl there)

  pub loses_removed : LosesRemoved commit.change after.rows
  loses_removed path removed has =
      ⊎_elim
      (λ (added : Contains commit.change.added has.0). (has.0, added, has.2))
      (λ (kept : Contains before.rows has.0 × (Contains commit.change.removed has.0.path → ⊥)). absurd (kept.1 (subst (λ (p : List ℕ). Contains commit.change.removed p) (sym has.2) removed)))
      ((is.rows has.0).0 has.1)

same_length : (schema : ColumnTrees) (names : List (List ℕ)) (values : List PartValue) → FitColumns schema names values → length values ≡ length names
same_length schema [] [] fit = refl
same_length schema [] (v ∷ values) fit = absurd fit
same_length schema (n ∷ names) [] fit = absurd fit
same_length schema (n ∷ names) (v ∷ values) fit = ap suc (same_length schema names values fit.1)

module _ (kept : DeltaKept) (commit : Commit) (can : CanPublish (view_of kept) commit) where
  pub removed_paths : (path : List ℕ) → Contains commit.change.removed path → IsPath path
  removed_paths path there = let row = can.change.removed_there path there in subst IsPath row.2 (held_paths kept.table.rows kept.rows_held row.0 row.1)

  pub removed_few : length commit.change.removed ≤ MAX_LIVE_FILES
  removed_few =
      let fewer_rows = fewer commit.change.removed (paths_of kept.table.rows) can.change.removed_distinct
      (λ path there. let row = can.change.removed_there path there in subst (λ (p : List ℕ). Contains (paths_of kept.table.rows) p) row.2 (Contains-paths kept.table.rows row.0 row.1)) in
      let rows = rows_length kept.table.rows in
      let few = held_few kept.table.rows kept.rows_held in
      omega (arith, fewer_rows, rows, few)

  module _ (after : Table) (is : IsAfter kept.table commit.change after) where
    pub can_add : Fits (Unfit (end_of kept)) kept.table.partition (commit ∷ []) → (row : Row) → Contains commit.change.added row → CanAdd after.partition row
    can_add fits row there = record {
      len = same_length after.schema after.partition row.values ((can.after after is).sound.values row ((is.rows row).1 (inl there)));
      texts = λ value within none. fits_rows (end_of kept) kept.table.partition (commit ∷ []) fits row (subst (λ (l : List Row). Contains l row) (sym (append-nil commit.change.added)) there) (value, within, none);
    }

    pub held_after : are_held after.rows ≡ true
    held_after = held_of after (can.after after is)

  pub held_either : (after : Table) {T E : Type 0} (r : Result T E) → OnOk r (IsAfter kept.table commit.change after) → OnErr r (after ≡ kept.table) → are_held after.rows ≡ true
  held_either after (Ok x) ok err = held_after after ok
  held_either after (Err e) ok err = ap (λ (t : Table). are_held t.rows) err ∙ kept.rows_held

-- ---- what is written

module _ (kept mid : DeltaKept) (commit : Commit) (origin : Origin) (now : ℕ) (mark : Mark) (after : IsAfter kept.table commit.change mid.table) (commits : mid.commits ≡ kept.commits) (id : mid.id ≡ kept.id) (ntz : mid.names_ntz ≡ kept.names_ntz)
    (is : mark ≡ mark_of (end_of kept) origin commit.position) where
  written_is : (written : DeltaCommit) → IsWrittenOf mid commit.change mark written → IsWritten (end_of kept) origin commit written
  written_is written w = record {
    protocol = w.protocol ∙ (λ i. protocol_due (commits i) (ntz i) (have_ntz (after.schema i)));
    meta = w.meta ∙ (λ i. Some (record {
      id = id i;
      schema = delta_text (after.schema i);
      partition = after.partition i;
      configuration = (mark_setting, compact_text (mark_data (is i))) ∷ [];
    }));
    files = subst (λ (p : List (List ℕ)). AreActions p commit.change written.files) after.partition w.files;
  }

  pub refused_too : (e : TargetError) → IsTextRefusal mid commit.change mark now e → IsVersionRefusal (Passes (end_of kept) origin now (commit ∷ [])) e
  refused_too errors.Memory h = tt
  refused_too errors.StoreFault h = absurd h
  refused_too errors.Contested h = absurd h
  refused_too (errors.Limit which number) h =
      subst (λ (w : LimitKind). Passes (end_of kept) origin now (commit ∷ []) w number) (sym h.0) (h.1, h.2.written, written_is h.2.written h.2.is, h.2.long)
  refused_too (errors.Unsupported feature path) h = absurd h

  pub new_is : (bytes : List ℕ) (next : DeltaKept) → kept.commits ≤ MAX_DELTA_VERSION → IsPublishable mid.table → IsTextOf mid commit.change mark now bytes → IsGoneOn mid mark next → IsNewVersion origin now kept commit bytes next
  new_is bytes next within may text gone = record {
    within = within;
    after = subst (λ (t : Table). IsAfter kept.table commit.change t) (sym gone.table) after;
    end = ends_by (end_of next) (end_behind (end_of kept) commit) (gone.commits ∙ ap (λ (n : ℕ). n + 1) commits) (gone.id ∙ id)
        (ap (λ (t : Table). t.schema) gone.table ∙ after.schema) (ap (λ (t : Table). t.partition) gone.table ∙ after.partition) (gone.ntz ∙ (λ i. ntz i || have_ntz (after.schema i)));
    mark = gone.mark_is ∙ ap (λ (m : Mark). Some m) is;
    written = text.written;
    is = written_is text.written text.is;
    text = text.text;
    again = text.again;
    readable = text.readable;
    same = text.same;
    reads_back = subst (λ (m : Mark). IsMarkText (compact_text (mark_data m)) m) is text.reads_back;
    spells = subst (λ (t : Table). delta_schema_of (delta_text t.schema) ≡ Ok t.schema) (sym gone.table) (text.spells may.schema may.size);
  }
