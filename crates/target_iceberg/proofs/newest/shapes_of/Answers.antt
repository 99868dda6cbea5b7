use Rattle.std.proofs.Common.{pos, ap, ◌∙◌}
use Rattle.target_iceberg.specs.Newest.{with_schema}
use Rattle.target_iceberg.proofs.NewestLemmas.{none_kept}
use Rattle.target_iceberg.proofs.newest.shapes_of.Goals as goal

pub returns : goal.returns
returns c = λ path. c.in_ok-keep_schema.ensures path ∙ ap (λ o. with_schema o (pos 0, c.args.schema.now) path) (none_kept c.new-shapes.result c.new-shapes.ensures.empty path)
