use Rattle.std.proofs.Common.{◌≡◌, ◌+◌, ◌<◌, ◌≤◌, ◌&&◌, length, true, false, sym, ap, ◌∙◌, arith, drop}
use Rattle.table_history.specs.SchemaView.{columns_view, column_view}
use Rattle.table_history.specs.TypeEq.{columns_eq, column_eq}
use Rattle.table_history.proofs.ColumnListLemmas.{columns_apart, columns_step, columns_end}
use Rattle.table_history.proofs.schema.+same.Goals as goal

pub same_columns-returns-then-as_slice-others : goal.same_columns-returns-then-as_slice-others
same_columns-returns-then-as_slice-others t c =
    sym (columns_apart c.args.columns.now.items c.args.others.now.items (λ e. c.if-as_slice-others.true (ap length c.as_slice.ensures.value ∙ e ∙ sym (ap length c.as_slice-others.ensures.value))))

pub same_columns-returns-then-not-same_column : goal.same_columns-returns-then-not-same_column
same_columns-returns-then-not-same_column t c =
    let cs = c.deref-column-items.result.now in
    let ds = c.as_slice-others.result.now in
    let both : length cs ≡ length ds = ap length c.deref-column-items.ensures.value ∙ sym (ap length c.as_slice.ensures.value) ∙ c.if-as_slice-others.false in
    let within : c.loop-place.place < length ds = omega (arith, both) in
    let step = columns_step cs ds c.loop-place.place c.column-item.result c.index-others-place.result c.loop-place-test.true within c.column-item.is c.index-others-place.is in
    let alike : column_eq (column_view c.column-item.result) (column_view c.index-others-place.result) ≡ false = sym c.same_column.ensures ∙ c.if-not-same_column.true in
    ap (λ b. b && columns_eq (columns_view (drop (c.loop-place.place + 1) cs)) (columns_view (drop (c.loop-place.place + 1) ds))) (sym alike) ∙ sym step ∙ c.loop-place.invariant
    ∙ (λ i. columns_eq (columns_view (c.deref-column-items.ensures.value i)) (columns_view (c.as_slice-others.ensures.value i)))

pub same_columns-loop-place-preserved : goal.same_columns-loop-place-preserved
same_columns-loop-place-preserved t c =
    let cs = c.deref-column-items.result.now in
    let ds = c.as_slice-others.result.now in
    let both : length cs ≡ length ds = ap length c.deref-column-items.ensures.value ∙ sym (ap length c.as_slice.ensures.value) ∙ c.if-as_slice-others.false in
    let within : c.loop-place.place < length ds = omega (arith, both) in
    let step = columns_step cs ds c.loop-place.place c.column-item.result c.index-others-place.result c.loop-place-test.true within c.column-item.is c.index-others-place.is in
    let alike : column_eq (column_view c.column-item.result) (column_view c.index-others-place.result) ≡ true = sym c.same_column.ensures ∙ c.if-not-same_column.false in
    ap (λ b. b && columns_eq (columns_view (drop (c.loop-place.place + 1) cs)) (columns_view (drop (c.loop-place.place + 1) ds))) (sym alike) ∙ sym step ∙ c.loop-place.invariant

pub same_columns-returns : goal.same_columns-returns
same_columns-returns t c =
    let cs = c.deref-column-items.result.now in
    let ds = c.as_slice-others.result.now in
    let both : length cs ≡ length ds = ap length c.deref-column-items.ensures.value ∙ sym (ap length c.as_slice.ensures.value) ∙ c.if-as_slice-others.false in
    let past : length ds ≤ c.loop-place.place = omega (arith, both) in
    sym (columns_end cs ds c.loop-place.place c.loop-place-test.false past) ∙ c.loop-place.invariant
    ∙ (λ i. columns_eq (columns_view (c.deref-column-items.ensures.value i)) (columns_view (c.as_slice-others.ensures.value i)))
