use Rattle.std.proofs.Common.{◌≡◌, ◌+◌, ℤ, w32, Some, ap, drop, subst, sym, ◌∙◌}
use Rattle.std.specs.Prelude.{option_map}
use Rattle.std.specs.Ordering.{int_eq}
use Rattle.std.proofs.lemmas.Int.{to_z-of_z}
use Rattle.std.proofs.lemmas.List.{drop_all}
use Rattle.iceberg_metadata.specs.Paths.{held_schema}
use Rattle.target_iceberg.proofs.FollowLemmas.{found_schema, passed_schema}
use Rattle.target_iceberg.proofs.fitting.schema_of.Goals as goal

pub returns-then-has_id : goal.returns-then-has_id
returns-then-has_id c =
    let id = to_z-of_z w32 c.args.id c.ranges.id in
    let named = ap (λ (n : ℤ). int_eq c.held-item.result.0 n) (sym id) ∙ sym c.has_id.ensures ∙ c.if-has_id.true in
    let before = subst (λ (n : ℤ). held_schema (drop c.loop-held.held-index c.args.schemas.now) n ≡ held_schema c.args.schemas.now n) id c.loop-held.invariant in
    ap (λ s. Some s) c.in_ok-copy.ensures ∙ ap (option_map (λ s. s.1)) (found_schema c.args.schemas.now c.loop-held.held-index c.args.id c.held-item.result c.loop-held-test.true c.held-item.is named before)

pub loop-held-preserved : goal.loop-held-preserved
loop-held-preserved c =
    let id = to_z-of_z w32 c.args.id c.ranges.id in
    let named = ap (λ (n : ℤ). int_eq c.held-item.result.0 n) (sym id) ∙ sym c.has_id.ensures ∙ c.if-has_id.false in
    let before = subst (λ (n : ℤ). held_schema (drop c.loop-held.held-index c.args.schemas.now) n ≡ held_schema c.args.schemas.now n) id c.loop-held.invariant in
    subst (λ (n : ℤ). held_schema (drop (c.loop-held.held-index + 1) c.args.schemas.now) n ≡ held_schema c.args.schemas.now n) (sym id)
    (passed_schema c.args.schemas.now c.loop-held.held-index c.args.id c.held-item.result c.loop-held-test.true c.held-item.is named before)

pub returns : goal.returns
returns c =
    let id = to_z-of_z w32 c.args.id c.ranges.id in
    let before = subst (λ (n : ℤ). held_schema (drop c.loop-held.held-index c.args.schemas.now) n ≡ held_schema c.args.schemas.now n) id c.loop-held.invariant in
    ap (option_map (λ s. s.1)) (sym (ap (λ l. held_schema l c.args.id) (drop_all c.loop-held.held-index c.args.schemas.now c.loop-held-test.false)) ∙ before)
