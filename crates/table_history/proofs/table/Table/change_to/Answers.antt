use Rattle.std.proofs.Common.{map, sym, ap, ◌∙◌}
use Rattle.std.proofs.lemmas.Simd.{map-map}
use Rattle.std.specs.Borrow.{Bor}
use Rattle.table_history.specs.declared.row.FileRow.{FileRow}
use Rattle.table_history.proofs.TableLemmas.{diff, diff_removed_distinct, diff_removed_there, diff_added_distinct, diff_added_new, diff_leads}
use Rattle.table_history.specs.Tables.{IsDiff}
use Rattle.table_history.proofs.table.Table.change_to.Goals as goal
use Rattle.table_history.proofs.table.Table.change_to.Goals.{After-drop-lost-2}

made : (c : After-drop-lost-2) → IsDiff c.args.self.now.rows c.args.after.now.rows c.from_vec.result c.from_vec-2.result
made c =
    diff c.args.self.now.rows c.args.after.now.rows (map (λ r. r.now) c.in_ok-lost.lost.items) (map (λ r. r.now) c.in_ok-new.new.items) c.from_vec.result c.from_vec-2.result c.in_ok-lost.ensures.rows c.in_ok-new.ensures.rows c.in_ok-lost.ensures.order c.in_ok-new.ensures.order
    (c.from_vec.ensures ∙ c.in_ok-paths_of.ensures ∙ ap (map (λ (r : Bor FileRow). r.now.path)) c.as_slice.ensures.value ∙ sym (map-map (λ (r : FileRow). r.path) (λ (r : Bor FileRow). r.now) c.in_ok-lost.lost.items))
    (c.from_vec-2.ensures ∙ c.in_ok-copies_of.ensures ∙ ap (map (λ (r : Bor FileRow). r.now)) c.as_slice-2.ensures.value)

pub returns-clause-diff : goal.returns-clause-diff
returns-clause-diff c = made c

pub returns-clause-fits : goal.returns-clause-fits
returns-clause-fits c =
    let before = c.args.self.now.rows in
    let after = c.args.after.now.rows in
    let lost = c.from_vec.result in
    let new = c.from_vec-2.result in
    let before_distinct = c.in_ok-lost.ensures.own_distinct in
    let after_distinct = c.in_ok-new.ensures.own_distinct in
    record {
      removed_distinct = diff_removed_distinct before after lost new (made c) before_distinct after_distinct;
      removed_there = diff_removed_there before after lost new (made c) before_distinct after_distinct;
      added_distinct = diff_added_distinct before after lost new (made c) before_distinct after_distinct;
      added_new = diff_added_new before after lost new (made c) before_distinct after_distinct;
    }

pub returns-clause-leads : goal.returns-clause-leads
returns-clause-leads c =
    diff_leads c.args.self.now.rows c.args.after.now.rows c.from_vec.result c.from_vec-2.result (made c) c.in_ok-lost.ensures.own_distinct c.in_ok-new.ensures.own_distinct
