use Rattle.std.proofs.Common.{◌≡◌, ◌+◌, ◌-◌, length, filter, reverse, vec_len, sym, ap, subst, ◌∙◌, arith}
use Rattle.std.specs.List.{list_any}
use Rattle.table_history.specs.Rows.{HasDistinctPaths, SameRows}
use Rattle.table_history.specs.Tables.{IsDiff}
use Rattle.table_history.proofs.Laws.{change_of_same_rows}
use Rattle.hudi_groups.specs.GroupSets.{newest_rows, rows_after}
use Rattle.std.specs.Option.{option_copied}
use Rattle.hudi_timeline.specs.Causes.{rows_before}
use Rattle.hudi_timeline.specs.GroupChange.{is_long, limit_passed}
use Rattle.hudi_groups.proofs.GroupChangeLemmas.{touched, diff_of_groups, rows_after_distinct, reversed_distinct, length-rows_after, old_rows, old_length, old_shorter}
use Rattle.hudi_timeline.proofs.change.between.group_change.Goals as goal

pub overflow_sub-kept : goal.overflow_sub-kept
overflow_sub-kept c =
    let form = c.args.form.now in
    let replaced = c.args.replaced.now in
    let before = rows_before (option_copied c.args.base) in
    let distinct : HasDistinctPaths before = c.count_before.ensures.distinct in
    let old : SameRows c.in_ok-old.old.items (filter (touched form replaced before c.args.rows) before) =
    old_rows form replaced before c.args.rows c.in_ok-newest.newest.groups c.in_ok-old.old.items c.in_ok-newest.ensures.groups (c.in_ok-old.ensures.rows distinct) in
    let many : length c.in_ok-old.old.items ≡ length (filter (touched form replaced before c.args.rows) before) =
    old_length form replaced before c.args.rows c.in_ok-old.old.items distinct (c.in_ok-old.ensures.distinct distinct) old in
    let one : c.count_before.result ≡ length before = c.count_before.ensures.len in
    let two : c.len.result ≡ vec_len c.in_ok-old.old = c.len.ensures in
    omega (arith, one, two, c.in_ok-old.old.ok.0, many, old_shorter form replaced before c.args.rows)

pub change_between-requires-clause-before : goal.change_between-requires-clause-before
change_between-requires-clause-before c = c.in_ok-old.ensures.distinct c.count_before.ensures.distinct

pub change_between-requires-clause-after : goal.change_between-requires-clause-after
change_between-requires-clause-after c = subst HasDistinctPaths (sym c.in_ok-newest.ensures.rows) (reversed_distinct c.args.form.now c.args.rows)

pub returns-in-Some-clause-refused : goal.returns-in-Some-clause-refused
returns-in-Some-clause-refused c =
    let form = c.args.form.now in
    let replaced = c.args.replaced.now in
    let before = rows_before (option_copied c.args.base) in
    let rows = c.args.rows in
    let distinct : HasDistinctPaths before = c.count_before.ensures.distinct in
    let old : SameRows c.in_ok-old.old.items (filter (touched form replaced before rows) before) =
    old_rows form replaced before rows c.in_ok-newest.newest.groups c.in_ok-old.old.items c.in_ok-newest.ensures.groups (c.in_ok-old.ensures.rows distinct) in
    let many : length c.in_ok-old.old.items ≡ length (filter (touched form replaced before rows) before) =
    old_length form replaced before rows c.in_ok-old.old.items distinct (c.in_ok-old.ensures.distinct distinct) old in
    let newest : c.in_ok-newest.newest.rows.items ≡ reverse (newest_rows form rows) = c.in_ok-newest.ensures.rows in
    let one : c.count_before.result ≡ length before = c.count_before.ensures.len in
    let two : c.len.result ≡ vec_len c.in_ok-old.old = c.len.ensures in
    let three : c.len-2.result ≡ vec_len c.in_ok-newest.newest.rows = c.len-2.ensures in
    let live : (c.count_before.result - c.len.result) + c.len-2.result ≡ length (rows_after form replaced before rows) =
    omega (arith, one, two, three, c.in_ok-old.old.ok.0, c.in_ok-newest.newest.rows.ok.0, many, ap length newest, old_shorter form replaced before rows, length-rows_after form replaced before rows) in
    let long : c.is_any_long-is_any_long.result ≡ list_any is_long rows = c.is_any_long-is_any_long.ensures ∙ ap (list_any is_long) c.as_slice.ensures in
    record {
      distinct = rows_after_distinct form replaced before rows distinct;
      passed = sym (λ i. limit_passed c.args.table.now c.args.schema.now (long i) (live i)) ∙ sym c.limit_passed.ensures ∙ c.in-Some.is;
    }

pub returns : goal.returns
returns c =
    let form = c.args.form.now in
    let replaced = c.args.replaced.now in
    let before = rows_before (option_copied c.args.base) in
    let rows = c.args.rows in
    let distinct : HasDistinctPaths before = c.count_before.ensures.distinct in
    let old : SameRows c.in_ok-old.old.items (filter (touched form replaced before rows) before) =
    old_rows form replaced before rows c.in_ok-newest.newest.groups c.in_ok-old.old.items c.in_ok-newest.ensures.groups (c.in_ok-old.ensures.rows distinct) in
    let many : length c.in_ok-old.old.items ≡ length (filter (touched form replaced before rows) before) =
    old_length form replaced before rows c.in_ok-old.old.items distinct (c.in_ok-old.ensures.distinct distinct) old in
    let newest : c.in_ok-newest.newest.rows.items ≡ reverse (newest_rows form rows) = c.in_ok-newest.ensures.rows in
    let one : c.count_before.result ≡ length before = c.count_before.ensures.len in
    let two : c.len.result ≡ vec_len c.in_ok-old.old = c.len.ensures in
    let three : c.len-2.result ≡ vec_len c.in_ok-newest.newest.rows = c.len-2.ensures in
    let live : (c.count_before.result - c.len.result) + c.len-2.result ≡ length (rows_after form replaced before rows) =
    omega (arith, one, two, three, c.in_ok-old.old.ok.0, c.in_ok-newest.newest.rows.ok.0, many, ap length newest, old_shorter form replaced before rows, length-rows_after form replaced before rows) in
    let long : c.is_any_long-is_any_long.result ≡ list_any is_long rows = c.is_any_long-is_any_long.ensures ∙ ap (list_any is_long) c.as_slice.ensures in
    let removed = c.in_ok-change_between.field-0.removed in
    let added = c.in_ok-change_between.field-0.added in
    record {
      change = record {
        diff = diff_of_groups form replaced before rows removed added (change_of_same_rows c.in_ok-old.old.items (filter (touched form replaced before rows) before) (reverse (newest_rows form rows)) (reverse (newest_rows form rows)) removed added old (λ row. (λ h. h, λ h. h)) (subst (λ l. IsDiff c.in_ok-old.old.items l removed added) newest c.in_ok-change_between.ensures));
        before_distinct = distinct;
        distinct = rows_after_distinct form replaced before rows distinct;
        few = sym (λ i. limit_passed c.args.table.now c.args.schema.now (long i) (live i)) ∙ sym c.limit_passed.ensures ∙ c.in_default.is;
      };
      refused = tt;
    }
