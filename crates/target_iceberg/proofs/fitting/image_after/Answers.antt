use Rattle.std.proofs.Common.{Option, ap, sym, ◌∙◌}
use Rattle.std.specs.Prelude.{unwrap_or}
use Rattle.schema_map.specs.Image.{wide_columns}
use Rattle.table_history.specs.TypeTree.{ColumnTrees}
use Rattle.target_iceberg.proofs.FollowLemmas.{own_image}
use Rattle.target_iceberg.proofs.fitting.image_after.Goals as goal

pub returns-in-Some : goal.returns-in-Some
returns-in-Some c = λ state ready.
    c.in_ok-image_of.ensures ∙ ap (λ (o : Option ColumnTrees). wide_columns (unwrap_or o state.schema)) (sym c.in-Some.is)

pub returns-then-first : goal.returns-then-first
returns-then-first c = λ state ready.
    c.in_ok-copy.ensures
    ∙ sym (own_image c.args.table.now c.requires)
    ∙ ap wide_columns (sym (ready.before c.if-first.true))
    ∙ ap (λ (o : Option ColumnTrees). wide_columns (unwrap_or o state.schema)) (sym c.in_default.is)

pub returns : goal.returns
returns c = λ state ready. (c.in_default.is, ready.behind c.if-first.false)
