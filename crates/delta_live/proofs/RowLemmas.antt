-- The rows behind a commit, and the answer of the work on them.
use Rattle.std.proofs.Common.{◌≡◌, ℕ, ◌≤◌, true, not, List, length, filter, Option, Contains, sym, ap, ◌∙◌, inl, inr, ⊎_elim}
use Rattle.std.proofs.lemmas.Bool.{cases_Bool, false≢true}
use Rattle.std.proofs.lemmas.List.Elements.{Contains-append_left, Contains-append_right, Contains-append_cases}
use Rattle.lake_basics.specs.declared.limits.TheConstants.{MAX_LIVE_FILES, MAX_PARTITION_COLUMNS}
use Rattle.table_history.specs.Rows.{HasDistinctPaths}
use Rattle.table_history.specs.TypeTree.{ColumnTrees}
use Rattle.table_history.specs.declared.feature.Feature.TheVariants.{PartitionValue}
use Rattle.table_history.specs.declared.row.FileRow.{FileRow}
use Rattle.table_history.specs.declared.table.Change.{Change}
use Rattle.table_history.proofs.RowListLemmas.{Contains-filter, filter_contains}
use Rattle.partition_map.specs.declared.kind.PartKind.{PartKind}
use Rattle.delta_log.specs.declared.commit.DeltaCommit.{DeltaCommit}
use Rattle.delta_log.specs.declared.commit.FileAction.{FileAction}
use Rattle.delta_log.specs.declared.error.DeltaError.{DeltaError}
use Rattle.delta_log.specs.declared.error.DeltaError.TheVariants as errors
use Rattle.delta_log.specs.Judging.{acts_on}
use Rattle.delta_log.specs.Sound.{IsSound}
use Rattle.delta_live.specs.Differences.{IsUnorderedDiff}
use Rattle.delta_live.specs.Live.{PartColumns, IsRowBehind, AreRowsBehind, SpellsNoValue}
use Rattle.delta_live.specs.RowSteps.{Tells, is_kept, rows_behind, AreRowsOf, IsChangeOver, IsRefusalOver}
use Rattle.delta_live.proofs.BehindLemmas.{on_path, path_on, behind_distinct}
use Rattle.delta_live.proofs.ValueLemmas.{row_from, row_to, rows_paths}

-- ---- the rows behind

module _ (columns : PartColumns) (before : List FileRow) (c : DeltaCommit) (rows : List FileRow) (distinct : HasDistinctPaths before) (sound : IsSound c) (added : AreRowsOf columns c.files rows) where
  behind_to : (row : FileRow) → Contains (rows_behind before c.files rows) row → IsRowBehind columns before c row
  behind_to row there =
      ⊎_elim
      (λ kept. let both = Contains-filter (is_kept c.files) before row kept in inr (both.0, λ acts. false≢true (sym (ap not (path_on row.path c.files acts)) ∙ both.1)))
      (λ new. inl (row_from columns c.files rows row added new))
      (Contains-append_cases (filter (is_kept c.files) before) rows row there)

  behind_from : (row : FileRow) → IsRowBehind columns before c row → Contains (rows_behind before c.files rows) row
  behind_from row h =
      let kept = filter (is_kept c.files) before in
      ⊎_elim
      (λ new. Contains-append_right kept rows row (row_to columns c.files rows row new.0 added new.1 new.2))
      (λ stays.
      let quiet : is_kept c.files row ≡ true = ⊎_elim (λ t. absurd (stays.1 (on_path row.path c.files t))) (λ n. ap not n) (cases_Bool (acts_on row.path c.files)) in
      Contains-append_left kept rows row (filter_contains (is_kept c.files) before row stays.0 quiet))
      h

  pub are_behind : AreRowsBehind columns before c (rows_behind before c.files rows)
  are_behind = record { distinct = behind_distinct before rows c.files distinct sound.distinct (rows_paths columns c.files rows added); rows = λ row. (behind_to row, behind_from row) }

-- ---- the answer of the rows' part

pub over_value : (columns : PartColumns) (before : List FileRow) (files : List FileAction) (e : DeltaError)
    → Tells PartitionValue ((f : FileAction) × (column : List ℕ × PartKind) × Contains files f × Contains columns column × SpellsNoValue column f) e → IsRefusalOver columns before files e
over_value columns before files errors.Memory h = tt
over_value columns before files (errors.Malformed line) h = absurd h
over_value columns before files (errors.DoublePath line) h = absurd h
over_value columns before files (errors.Unsupported feature line) h = (h.0, h.1, h.2.0, h.2.1, h.2.2, h.2.3, h.2.4)
over_value columns before files (errors.Limit which) h = absurd h

pub over_few : (columns : PartColumns) (before rows : List FileRow) (files : List FileAction) (stated : Option ColumnTrees) (change : Change) → AreRowsOf columns files rows → HasDistinctPaths before → length columns ≤ MAX_PARTITION_COLUMNS
    → length (rows_behind before files rows) ≤ MAX_LIVE_FILES → change.schema ≡ stated → IsUnorderedDiff before (rows_behind before files rows) change.removed change.added → IsChangeOver columns before files stated change
over_few columns before rows files stated change added distinct few live schema diff = record {
  stated = schema;
  rows = rows;
  added = added;
  distinct = distinct;
  diff = diff;
  few_columns = few;
  few_rows = live;
}
