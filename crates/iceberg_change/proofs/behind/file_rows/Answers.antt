use Rattle.std.proofs.Common.{◌≡◌, ◌++◌, ◌∷◌, List, length, sym, ap, subst, ◌∙◌, rules}
use Rattle.table_history.specs.Rows.{HasDistinctPaths}
use Rattle.table_history.specs.declared.row.FileRow.{FileRow}
use Rattle.iceberg_table.proofs.EachLaws.{left_moved, left_next, left_none}
use Rattle.iceberg_table.proofs.RowLaws.{no_paths, paths_push}
use Rattle.iceberg_change.proofs.behind.file_rows.Goals as goal

pub loop-row-init : goal.loop-row-init
loop-row-init c = record {
  parts = sym (ap (λ (l : List FileRow). l ++ c.into_iter-row-iterator.result.rest.items) c.new-found.ensures ∙ c.into_iter-row-iterator.ensures.into_iter_gives.0);
  distinct = subst HasDistinctPaths (sym c.new-found.ensures) no_paths;
}

pub loop-row-preserved : goal.loop-row-preserved
loop-row-preserved c =
    let rows = c.args.rows.items in
    let front = c.loop-row.found in
    let row = c.in-Some.row in
    let more = c.next.new.self.rest.items in
    let put = c.in_ok-insert_new.ensures.new c.if-not-branch.false in
    let split : rows ≡ front ++ row ∷ more = left_next rows front c.loop-row.row-iterator.rest.items more row c.loop-row.invariant.parts c.in-Some.ensures.steps.0 in
    record {
      parts = subst (λ (l : List FileRow). rows ≡ l ++ more) (sym put.1) (left_moved rows front more row split);
      distinct = subst HasDistinctPaths (sym put.1) (paths_push front row c.loop-row.invariant.distinct put.0);
    }

whole : (rows found rest : List FileRow) → rows ≡ found ++ rest → length rest ≡ 0 → found ≡ rows
whole rows found rest parts none = sym (left_none rows found rest parts none)

pub returns-clause-rows : goal.returns-clause-rows
returns-clause-rows c =
    let rest = c.loop-row.row-iterator.rest.items in
    let none : length rest ≡ 0 = search rules in
    whole c.args.rows.items c.loop-row.found rest c.loop-row.invariant.parts none

pub returns-clause-distinct : goal.returns-clause-distinct
returns-clause-distinct c =
    let rest = c.loop-row.row-iterator.rest.items in
    let none : length rest ≡ 0 = search rules in
    subst HasDistinctPaths (whole c.args.rows.items c.loop-row.found rest c.loop-row.invariant.parts none) c.loop-row.invariant.distinct
