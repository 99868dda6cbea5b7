use Rattle.std.proofs.Common.{◌||◌, take, sym, ap, ◌∙◌, arith}
use Rattle.std.specs.List.{list_any}
use Rattle.std.proofs.lemmas.List.Folds.{list_any_more}
use Rattle.table_history.specs.declared.row.FileRow.{FileRow}
use Rattle.hudi_groups.specs.GroupIndex.{has_path, is_path_of, is_row_of}
use Rattle.hudi_groups.proofs.GroupIndexLemmas.{or_step}
use Rattle.hudi_groups.proofs.index.with_rows.Goals as goal

pub loop-row-preserved : goal.loop-row-preserved
loop-row-preserved c = λ q p.
    let row = c.row-item.result in
    let before = has_path c.args.index q p in
    let done = list_any (is_row_of q p) (take c.loop-row.row-index c.args.rows.now) in
    c.in_ok-all.ensures q p
    ∙ (λ i. is_path_of q p ((c.as_bytes.ensures.value ∙ ap (λ (r : FileRow). r.path) c.row.view_is) i) || c.loop-row.invariant q p i)
    ∙ or_step (is_row_of q p row) done before
    ∙ ap (λ b. (done || b) || before) (ap (is_row_of q p) c.row-item.is)
    ∙ ap (λ b. b || before) (sym (list_any_more (is_row_of q p) c.args.rows.now c.loop-row.row-index row (omega arith)))
