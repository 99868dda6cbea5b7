use Rattle.std.proofs.Common.{◌≡◌, ◌≤◌, ◌-◌, ◌+◌, List, Contains, Some, length, sym, subst}
use Rattle.std.specs.Prelude.{IfOk}
use Rattle.lake_basics.specs.declared.limits.TheConstants.{MAX_LIVE_FILES}
use Rattle.table_history.specs.Rows.{HasDistinctPaths, HasPath, SameRows}
use Rattle.table_history.specs.Tables.{IsDiff}
use Rattle.table_history.specs.declared.row.FileRow.{FileRow}
use Rattle.table_history.specs.declared.schema.Schema.{Schema}
use Rattle.iceberg_change.specs.Behind.{IsChangeTo}
use Rattle.iceberg_change.proofs.BehindLaws.{change_is, itself}
use Rattle.iceberg_change.proofs.StepLaws.{if_both}
use Rattle.iceberg_change.proofs.behind.change_over.Goals as goal

pub returns-clause-change : goal.returns-clause-change
returns-clause-change c = λ others left all parts gone.
    let before = c.args.before.now.rows in
    let went = c.args.went.now in
    let came = c.in_ok-came.came in
    let free = subst (λ (l : List FileRow). (row : FileRow) → Contains l row → HasPath before row.path → HasPath went.rows row.path) c.as_slice.ensures.value (c.are_free.ensures c.if-not-are_free.false) in
    if_both c.change_within.result (λ x. (c.args.count - length went.rows) + length came.rows ≤ MAX_LIVE_FILES) (λ x. IsDiff went.rows came.rows x.removed x.added) (IsChangeTo before all) c.change_within.ensures.within c.change_within.ensures.diff
    (λ x within diff. change_is before others left c.args.came.items all parts c.requires.own went came gone c.requires.went (subst (SameRows came.rows) c.in_ok-came.ensures.rows (itself came.rows)) (subst HasDistinctPaths (sym c.in_ok-came.ensures.rows) c.in_ok-came.ensures.distinct) c.in_ok-came.ensures.distinct free x (subst (λ n. (n - length went.rows) + length came.rows ≤ MAX_LIVE_FILES) c.requires.count within) diff)

pub returns-clause-schema : goal.returns-clause-schema
returns-clause-schema c = subst (λ (s : Schema). IfOk c.change_within.result (λ x. x.schema ≡ Some s)) c.in_ok-came.ensures.schema c.change_within.ensures.schema
