use Rattle.std.proofs.Common.{◌||◌, ◌&&◌, not, sym, subst, ◌∙◌}
use Rattle.std.specs.Prelude.{IfSome}
use Rattle.std.specs.List.{list_any}
use Rattle.hudi_groups.specs.GroupIndex.{IsIndexOf, is_path_of, is_row_of}
use Rattle.hudi_groups.proofs.GroupIndexLemmas.{rows_after_change}
use Rattle.hudi_groups.proofs.grouped_table.next_index.Goals as goal

pub returns : goal.returns
returns c = λ old new known after q p.
    let exact = subst (λ o. IfSome o (λ j. IsIndexOf j old.rows)) c.in-Some.is known in
    c.in_ok-next.ensures q p
    ∙ (λ i. list_any (is_row_of q p) (c.as_slice.ensures i) || (not (list_any (is_path_of q p) (c.as_slice-removed.ensures i)) && exact q p i))
    ∙ sym (rows_after_change old c.args.change.now new after q p)
