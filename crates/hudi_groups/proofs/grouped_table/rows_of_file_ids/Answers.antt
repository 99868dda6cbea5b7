use Rattle.std.proofs.Common.{subst}
use Rattle.std.specs.Prelude.{IfSome}
use Rattle.hudi_groups.specs.GroupIndex.{IsIndexOf}
use Rattle.hudi_groups.proofs.GroupIndexLemmas.{index_apart, index_found}
use Rattle.hudi_groups.proofs.grouped_table.rows_of_file_ids.Goals as goal

pub returns-in-Some-clause-rows : goal.returns-in-Some-clause-rows
returns-in-Some-clause-rows c =
    let exact = subst (λ o. IfSome o (λ i. IsIndexOf i c.args.rows.now)) c.in-Some.is c.requires in
    index_found c.args.rows.now c.in-Some.index c.args.groups.now c.rows_by_index.result c.rows_by_index.ensures.rows exact

pub returns-in-Some-clause-distinct : goal.returns-in-Some-clause-distinct
returns-in-Some-clause-distinct c = λ distinct.
    index_apart c.args.rows.now c.in-Some.index c.args.groups.now c.rows_by_index.result c.rows_by_index.ensures.rows c.rows_by_index.ensures.unique c.rows_by_index.ensures.each

pub returns-in_ok-index_of-in-None-clause-rows : goal.returns-in_ok-index_of-in-None-clause-rows
returns-in_ok-index_of-in-None-clause-rows c =
    index_found c.args.rows.now c.in_ok-index_of-in-None.field-0 c.args.groups.now c.rows_by_index-in-None.result c.rows_by_index-in-None.ensures.rows c.in_ok-index_of-in-None.ensures

pub returns-in_ok-index_of-in-None-clause-distinct : goal.returns-in_ok-index_of-in-None-clause-distinct
returns-in_ok-index_of-in-None-clause-distinct c = λ distinct.
    index_apart c.args.rows.now c.in_ok-index_of-in-None.field-0 c.args.groups.now c.rows_by_index-in-None.result c.rows_by_index-in-None.ensures.rows c.rows_by_index-in-None.ensures.unique c.rows_by_index-in-None.ensures.each
