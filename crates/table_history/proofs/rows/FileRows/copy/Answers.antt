use Rattle.std.proofs.Common.{◌≡◌, [], take, get_or, sym, ap, ◌∙◌, subst, arith}
use Rattle.std.proofs.lemmas.List.{take_all, take_more}
use Rattle.std.specs.List.{IsDistinct}
use Rattle.indexmap.specs.IndexSet.{insert_all, insert_key}
use Rattle.indexmap.proofs.SetLemmas.{set_all_distinct, set_all_push}
use Rattle.table_history.specs.RowSet.{same_path}
use Rattle.table_history.proofs.RowSetLemmas.{path_laws}
use Rattle.table_history.proofs.rows.FileRows.copy.Goals as goal
use Rattle.table_history.proofs.rows.FileRows.copy.Goals.{After-loop-held}

copied : (c : After-loop-held) → c.loop-held.rows.keys ≡ c.self.inside.rows.keys
copied c =
    c.loop-held.invariant
    ∙ ap (insert_all same_path []) (take_all c.loop-held.held-index c.as_slice-held-items.result.now (omega arith) ∙ c.as_slice-held-items.ensures.keys)
    ∙ set_all_distinct path_laws [] c.self.inside.rows.keys c.self.invariant

pub loop-held-preserved : goal.loop-held-preserved
loop-held-preserved c =
    let items = c.as_slice-held-items.result.now in
    let place = c.loop-held.held-index in
    let item = c.held-item.result in
    c.in_ok-insert.ensures.keys
    ∙ (λ i. insert_key same_path (c.loop-held.invariant i) ((c.in_ok-row.ensures ∙ c.held.view_is ∙ c.held-item.is) i))
    ∙ sym (set_all_push same_path [] (take place items) (get_or items place item))
    ∙ ap (insert_all same_path []) (sym (take_more items place item (omega arith)))

pub invariant_of-result : goal.invariant_of-result
invariant_of-result c = subst (IsDistinct same_path) (sym (copied c)) c.self.invariant

pub returns : goal.returns
returns c = copied c ∙ c.self.view_is
