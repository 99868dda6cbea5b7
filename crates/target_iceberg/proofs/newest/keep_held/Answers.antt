use mir.Val.{SFits, of_z, to_z}
use Rattle.std.proofs.Common.{◌≡◌, ℤ, w32, w64, rules, arith, subst}
use Rattle.std.specs.Prelude.{OnOk}
use Rattle.std.proofs.lemmas.Int.{ints}
use Rattle.schema_map.specs.Paths.{Path}
use Rattle.target_iceberg.specs.Newest.{shape_at, with_schema}
use Rattle.target_iceberg.proofs.newest.keep_held.Goals as goal

pub returns : goal.returns
returns c =
    let fits : SFits w32 c.args.held.now.0 = search rules in
    let id : to_z w64 (of_z w64 c.from-id.result) ≡ c.args.held.now.0 = omega (arith, ints) in
    subst (λ (z : ℤ). OnOk c.keep_schema.result ((path : Path) → shape_at c.keep_schema.new.newest path ≡ with_schema (shape_at c.args.newest.now path) (z, c.args.held.now.1) path)) id c.keep_schema.ensures
