use Rattle.std.proofs.Common.{List, map, subst, sym, arith}
use Rattle.std.proofs.lemmas.Result.{err_from_is_err_and}
use Rattle.table_history.specs.declared.row.PartValue.{PartValue}
use Rattle.hudi_files.specs.Values.{PartsStand}
use Rattle.hudi_files.proofs.ValueLemmas.{now_of, parts_more, no_values_at, shows_weaker}
use Rattle.hudi_files.proofs.rows.part_values.Goals as goal

pub returns-in_err-part_value-clause-refused : goal.returns-in_err-part_value-clause-refused
returns-in_err-part_value-clause-refused c =
    let p = err_from_is_err_and c.from_residual.result c.from_residual.ensures.1 in
    rw (p.1, p.2) (shows_weaker _ ((vs : List PartValue) → PartsStand c.args.style c.args.kinds.now (map now_of c.args.parts.now) vs → ⊥) (no_values_at c.args.style c.args.kinds.now c.args.parts.now c.loop-place.place _ _ c.requires (omega arith)) _ c.in_err-part_value.ensures.refused)

pub loop-place-preserved : goal.loop-place-preserved
loop-place-preserved c =
    subst (PartsStand c.args.style _ _) (sym c.in_ok-push.ensures.ok)
    (parts_more c.args.style c.args.kinds.now c.args.parts.now c.loop-place.values c.loop-place.place _ _ c.in_ok-part_value.field-0 c.requires (omega arith) c.loop-place.invariant c.in_ok-part_value.ensures.ok)
