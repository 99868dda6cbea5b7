use Rattle.std.proofs.lemmas.Result.{err_from_is_err_and}
use Rattle.delta_live.proofs.ValueLemmas.{rows_paths}
use Rattle.delta_live.proofs.RowLemmas.{over_value}
use Rattle.delta_live.proofs.change.change_over.Goals as goal

pub change_between-requires-clause-added : goal.change_between-requires-clause-added
change_between-requires-clause-added c = rows_paths c.args.columns.now c.args.files.now c.in_ok-rows.rows.items c.in_ok-rows.ensures.ok

pub returns-in_err-rows-clause-refused : goal.returns-in_err-rows-clause-refused
returns-in_err-rows-clause-refused c =
    let p = err_from_is_err_and c.from_residual-in_err-rows.result c.from_residual-in_err-rows.ensures.1 in
    rw (p.1, p.2) (over_value c.args.columns.now c.args.before.now c.args.files.now _ c.in_err-rows.ensures.refused)
