use Rattle.std.proofs.Common.{◌∷◌, [], sym, ◌∙◌}
use Rattle.target_iceberg.proofs.FormLemmas.{known_more}
use Rattle.target_iceberg.proofs.form.column_id.Goals as goal

pub loop-place-preserved : goal.loop-place-preserved
loop-place-preserved c = known_more c.args.paths.now c.args.ids.now c.loop-place.place c.index-paths-place.result (c.args.name.now ∷ []) c.loop-place-test.true c.index-paths-place.is (sym c.is_column.ensures ∙ c.if-is_column.false) c.loop-place.invariant
