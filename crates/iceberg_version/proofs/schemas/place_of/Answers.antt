use Rattle.std.proofs.Common.{◌≡◌, ℤ, ap, drop, subst, sym, ◌∙◌, w32}
use Rattle.std.specs.Ordering.{int_eq}
use Rattle.std.proofs.lemmas.Int.{to_z-of_z}
use Rattle.iceberg_metadata.specs.Paths.{held_schema}
use Rattle.iceberg_version.proofs.SchemaLemmas.{found_at}
use Rattle.iceberg_version.proofs.schemas.place_of.Goals as goal

pub returns-then-has_id : goal.returns-then-has_id
returns-then-has_id c =
    let id = to_z-of_z w32 c.args.id c.ranges.id in
    let named = ap (λ (n : ℤ). int_eq c.index-schemas-place.result.0 n) (sym id) ∙ sym c.has_id.ensures ∙ c.if-has_id.true in
    let before = subst (λ (n : ℤ). held_schema (drop c.loop-place.place c.args.schemas.now) n ≡ held_schema c.args.schemas.now n) id c.loop-place.invariant in
    found_at c.args.schemas.now c.loop-place.place c.args.id c.index-schemas-place.result c.loop-place-test.true c.index-schemas-place.is named before
