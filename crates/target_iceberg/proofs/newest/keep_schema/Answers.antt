use Rattle.std.proofs.Common.{◌≡◌, ℤ, w64, [], ◌∷◌, arith, ap, ◌∙◌}
use Rattle.std.proofs.lemmas.Grind.{common_steps}
use Rattle.std.proofs.lemmas.Int.{to_z-of_z}
use Rattle.schema_map.specs.Paths.{column_paths}
use Rattle.target_iceberg.specs.Fitting.{column_types, type_at}
use Rattle.target_iceberg.specs.Newest.{shape_at, with_type}
use Rattle.target_iceberg.proofs.NewestLemmas.{as_typed, no_paths_left, no_shapes_left, pairs_step}
use Rattle.target_iceberg.proofs.newest.keep_schema.Goals as goal

pub loop-path-init : goal.loop-path-init
loop-path-init c = λ path. grind (arith, common_steps)

pub loop-path-preserved : goal.loop-path-preserved
loop-path-preserved c = λ path.
    let rest : c.loop-path.path-iterator.rest.items ≡ c.in-Some.path ∷ c.next.new.self.rest.items = grind (arith, common_steps) in
    pairs_step _ path _ _ _ c.loop-path.path-iterator.rest.items c.next.new.self.rest.items c.loop-path.left.now c.in-Some-next_shape.behind.now c.in-Some.path c.into_vec.result.items c.in-Some-next_shape.shape
    rest c.in-Some-next_shape.ensures c.into_vec.ensures (c.in_ok-keep.ensures path) (c.loop-path.invariant path)

pub returns-in_default : goal.returns-in_default
returns-in_default c = λ path.
    no_shapes_left _ path _ _ c.loop-path.path-iterator.rest.items c.loop-path.left.now c.in_default.ensures (c.loop-path.invariant path)
    ∙ as_typed _ path (shape_at c.args.newest.now path) (column_paths c.args.schema.now) (column_types c.args.schema.now)
    ∙ ap (λ (z : ℤ). with_type (shape_at c.args.newest.now path) z (type_at c.args.schema.now path)) (to_z-of_z w64 c.args.id c.ranges.id)

pub returns : goal.returns
returns c = λ path.
    let none : c.loop-path.path-iterator.rest.items ≡ [] = grind (arith, common_steps) in
    no_paths_left _ path _ _ c.loop-path.path-iterator.rest.items c.loop-path.left.now none (c.loop-path.invariant path)
    ∙ as_typed _ path (shape_at c.args.newest.now path) (column_paths c.args.schema.now) (column_types c.args.schema.now)
    ∙ ap (λ (z : ℤ). with_type (shape_at c.args.newest.now path) z (type_at c.args.schema.now path)) (to_z-of_z w64 c.args.id c.ranges.id)
