use Rattle.std.proofs.Common.{◌≡◌, ◌++◌, ℕ, List, subst, sym, ◌∙◌}
use Rattle.std.proofs.lemmas.List.Elements.{filter-append}
use Rattle.table_history.specs.Rows.{paths_of}
use Rattle.table_history.specs.declared.row.FileRow.{FileRow}
use Rattle.delta_live.specs.Differences.{IsUnorderedDiff}
use Rattle.delta_live.specs.RowSteps.{has_path, lost_paths, removed_paths, rows_behind}
use Rattle.delta_live.proofs.BehindLemmas.{rows_distinct, diff_behind}
use Rattle.delta_live.proofs.between.change_between.Goals as goal

pub new_rows-requires : goal.new_rows-requires
new_rows-requires c = rows_distinct c.args.before.now c.args.rows.items c.args.files.now c.requires.before c.requires.distinct c.requires.added

pub returns-clause-diff : goal.returns-clause-diff
returns-clause-diff c =
    let before = c.args.before.now in
    let files = c.args.files.now in
    let rows = c.args.rows.items in
    let added = c.in_ok-added.field-0.rows.items in
    let lost : c.from_vec.result ≡ lost_paths before files added =
    c.from_vec.ensures ∙ c.in_ok-append.ensures.items ∙ (λ i. c.in_ok-removed.ensures i ++ c.in_ok-added.ensures.replaced i) ∙ sym (filter-append (has_path before) (removed_paths files) (paths_of added)) in
    let diff = diff_behind before rows files c.requires.before c.requires.distinct c.requires.added added c.in_ok-added.ensures.rows c.in_ok-added.ensures.distinct in
    subst (λ (parts : List (List ℕ) × List FileRow). IsUnorderedDiff before (rows_behind before files rows) parts.0 parts.1) (λ i. (sym lost i, sym c.from_vec-2.ensures i)) diff
