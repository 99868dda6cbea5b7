use Rattle.std.proofs.Common.{◌≡◌, ◌≤◌, ◌-◌, length, map, sym, ◌∙◌, arith, rules, w32, w64, to_z, of_z}
use Rattle.std.proofs.lemmas.Int.{to_z-of_z}
use Rattle.std.proofs.lemmas.List.{length-map}
use Rattle.iceberg_metadata.specs.Schemas.{HeldSchema}
use Rattle.iceberg_metadata.proofs.IdSetLemmas.{held_here, own_here, twice_here}
use Rattle.target_iceberg.proofs.FormLemmas.{id_at}
use Rattle.target_iceberg.proofs.form.have_own_ids.Goals as goal

pub returns-then-not-branch : goal.returns-then-not-branch
returns-then-not-branch c =
    let xs = c.args.schemas.now in
    let place = c.loop-place.place in
    let ids = map (λ (s : HeldSchema). s.0) xs in
    let some = c.loop-place-test.true in
    let fits = c.loop-place.invariant.within in
    let count = length-map xs (λ (s : HeldSchema). s.0) in
    let within : place ≤ length ids = omega (arith, fits, count) in
    let at = id_at xs (place - 1) c.index-schemas-place.result (omega (arith, some, fits)) c.index-schemas-place.is in
    let item = to_z-of_z w32 c.index-schemas-place.result.0 (search rules) in
    let whole = to_z-of_z w64 c.from.result (search rules) in
    let from = c.from.ensures in
    let same : c.index-schemas-place.result.0 ≡ to_z w64 (of_z w64 c.from.result) = cc in
    sym (twice_here ids place _ c.loop-place.seen c.in_ok-insert.field-0 some within (at ∙ same) c.loop-place.invariant.held c.in_ok-insert.ensures.added c.if-not-branch.true)

pub loop-place-preserved : goal.loop-place-preserved
loop-place-preserved c =
    let xs = c.args.schemas.now in
    let place = c.loop-place.place in
    let ids = map (λ (s : HeldSchema). s.0) xs in
    let some = c.loop-place-test.true in
    let fits = c.loop-place.invariant.within in
    let count = length-map xs (λ (s : HeldSchema). s.0) in
    let within : place ≤ length ids = omega (arith, fits, count) in
    let at = id_at xs (place - 1) c.index-schemas-place.result (omega (arith, some, fits)) c.index-schemas-place.is in
    let item = to_z-of_z w32 c.index-schemas-place.result.0 (search rules) in
    let whole = to_z-of_z w64 c.from.result (search rules) in
    let from = c.from.ensures in
    let same : c.index-schemas-place.result.0 ≡ to_z w64 (of_z w64 c.from.result) = cc in
    let less : place - 1 ≤ length xs = omega (arith, fits) in
    record {
      within = less;
      held = held_here ids place _ c.loop-place.seen c.in_ok-insert.field-0 some within (at ∙ same) c.loop-place.invariant.held c.in_ok-insert.ensures.added c.insert.new.self c.in_ok-insert.ensures.updates;
      own = own_here ids place _ c.loop-place.seen c.in_ok-insert.field-0 some within (at ∙ same) c.loop-place.invariant.held c.in_ok-insert.ensures.added c.if-not-branch.false c.loop-place.invariant.own;
    }
