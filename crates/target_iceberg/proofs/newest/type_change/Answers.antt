use Rattle.std.proofs.Common.{pos, None, List, Contains, subst, ◌∙◌}
use Rattle.schema_map.specs.Paths.{Path, column_paths}
use Rattle.target_iceberg.specs.Newest.{shape_at, with_schema}
use Rattle.target_iceberg.proofs.NewestLemmas.{some_path, top_alike}
use Rattle.target_iceberg.proofs.newest.type_change.Goals as goal

pub first_changed-requires : goal.first_changed-requires
first_changed-requires c = λ path there.
    some_path c.args.image.now path (subst (λ (l : List Path). Contains l path) (c.as_slice.ensures.value ∙ c.in_ok-paths.ensures) there)

pub returns : goal.returns
returns c =
    top_alike (shape_at c.args.newest.now) (shape_at c.in_ok-stated.stated) (λ path. with_schema None (pos 0, c.args.image.now) path) c.in_ok-stated.ensures c.as_slice.result.now (column_paths c.args.image.now) (c.as_slice.ensures.value ∙ c.in_ok-paths.ensures) c.first_changed.result
    c.first_changed.ensures
