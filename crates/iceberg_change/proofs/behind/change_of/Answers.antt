use Rattle.std.proofs.Common.{◌++◌, List, sym, ap, subst}
use Rattle.table_history.specs.Rows.{HasDistinctPaths, SameRows}
use Rattle.table_history.specs.declared.row.FileRow.{FileRow}
use Rattle.iceberg_change.specs.Behind.{held_rows, others_of}
use Rattle.iceberg_change.proofs.BehindLaws.{goes_before, itself}
use Rattle.iceberg_change.proofs.behind.change_of.Goals as goal

pub returns-then-not-is_held-clause-change : goal.returns-then-not-is_held-clause-change
returns-then-not-is_held-clause-change c = λ all parts.
    let before = c.args.before.now.rows in
    let left = held_rows c.args.left in
    let none = ap (λ b. others_of b before) c.if-not-is_held.true in
    c.change_over.ensures.change (others_of c.args.is_held before) left all parts (goes_before before (others_of c.args.is_held before) left c.args.came.items all parts none)

pub change_over-requires-2-clause-went : goal.change_over-requires-2-clause-went
change_over-requires-2-clause-went c = subst HasDistinctPaths (sym c.in_ok-went.ensures.rows) c.in_ok-went.ensures.distinct

pub returns-clause-change : goal.returns-clause-change
returns-clause-change c = λ all parts.
    let before = c.args.before.now.rows in
    let left = held_rows c.args.left in
    let went : SameRows c.in_ok-went.went.rows (others_of c.args.is_held before ++ left) =
    subst (λ (l : List FileRow). SameRows c.in_ok-went.went.rows (l ++ left)) (sym (ap (λ b. others_of b before) c.if-not-is_held.false)) (subst (SameRows c.in_ok-went.went.rows) c.in_ok-went.ensures.rows (itself c.in_ok-went.went.rows)) in
    c.change_over-2.ensures.change (others_of c.args.is_held before) left all parts went
