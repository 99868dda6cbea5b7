use Rattle.std.proofs.Common.{◌≡◌, ◌++◌, ◌∷◌, [], List, Result, length, sym, subst, ◌∙◌, append-nil, rules}
use Rattle.std.specs.Prelude.{IfErr}
use Rattle.std.proofs.lemmas.Result.{err_from_is_err_and}
use Rattle.lake_basics.specs.declared.outcome.ReadError.{ReadError}
use Rattle.table_history.specs.Rows.{HasDistinctPaths, HasPath}
use Rattle.table_history.specs.declared.row.FileRow.{FileRow}
use Rattle.table_history.specs.declared.table.Table.{Table}
use Rattle.iceberg_live.specs.declared.live.LiveRow.{LiveRow}
use Rattle.iceberg_table.specs.Errors.{IsFault}
use Rattle.iceberg_table.specs.Tables.{IsShared, IsTableOfRows, rows_in}
use Rattle.iceberg_table.specs.declared.error.Fault.{Fault}
use Rattle.iceberg_table.proofs.EachLaws.{left_moved, left_next, left_none}
use Rattle.iceberg_table.proofs.ManifestLaws.{fault_further}
use Rattle.iceberg_table.proofs.RowLaws.{row_next, row_shared, row_stops}
use Rattle.iceberg_table.proofs.rows.with_rows.Goals as goal

pub loop-found-init : goal.loop-found-init
loop-found-init c = (
  [],
  sym (c.into_iter-found-iterator.ensures.into_iter_gives.0 ∙ c.into_vec-found-items.ensures),
  λ schema partition rows is. subst (λ (l : List FileRow). IsTableOfRows schema partition l c.args.before) (sym (append-nil rows)) is,
)

pub returns-in_err-table-clause-refused : goal.returns-in_err-table-clause-refused
returns-in_err-table-clause-refused c schema partition rows is =
    let exit = err_from_is_err_and c.from_residual.result c.from_residual.ensures.1 in
    let live = c.args.live in
    let x = c.in-Some.found in
    let more = c.next.new.self.rest.items in
    let so_far = c.loop-found.invariant in
    let front = so_far.0 in
    let split : live ≡ front ++ x ∷ more = left_next live front c.loop-found.found-iterator.rest.items more x so_far.1 c.in-Some.ensures.steps.0 in
    let P : Fault → Type 0 = λ f. IsShared f × (HasDistinctPaths (rows ++ rows_in live) → ⊥) in
    subst (λ (r : Result Table (ReadError Fault)). IfErr r (IsFault P)) (sym exit.1)
    (subst (IsFault P) (sym exit.2)
    (fault_further (λ f. IsShared f × HasPath c.loop-found.table.rows x.row.path) P c.in_err-table.field-0.0
    (λ f shows. (shows.0, row_stops rows live front more x split (row_shared schema partition (rows ++ rows_in front) c.loop-found.table (so_far.2 schema partition rows is) x.row (rows_in more) shows.1)))
    c.in_err-table.ensures.refused))

pub loop-found-preserved : goal.loop-found-preserved
loop-found-preserved c =
    let live = c.args.live in
    let x = c.in-Some.found in
    let more = c.next.new.self.rest.items in
    let so_far = c.loop-found.invariant in
    let front = so_far.0 in
    let split : live ≡ front ++ x ∷ more = left_next live front c.loop-found.found-iterator.rest.items more x so_far.1 c.in-Some.ensures.steps.0 in (
      front ++ x ∷ [],
      left_moved live front more x split,
      λ schema partition rows is. row_next schema partition rows front x c.in_ok-table.table (c.in_ok-table.ensures.found schema partition (rows ++ rows_in front) (so_far.2 schema partition rows is)),
    )

pub returns-clause-found : goal.returns-clause-found
returns-clause-found c schema partition rows is =
    let so_far = c.loop-found.invariant in
    let rest = c.loop-found.found-iterator.rest.items in
    let none : length rest ≡ 0 = search rules in
    subst (λ (l : List LiveRow). IsTableOfRows schema partition (rows ++ rows_in l) c.loop-found.table) (sym (left_none c.args.live so_far.0 rest so_far.1 none)) (so_far.2 schema partition rows is)
