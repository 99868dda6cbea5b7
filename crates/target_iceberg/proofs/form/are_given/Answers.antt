use Rattle.std.proofs.Common.{List, ℤ, ◌≤ℤ◌, subst, to_z, of_z, w32}
use Rattle.std.specs.Prelude.{◌↔◌, IsTrue}
use Rattle.std.specs.List.{AllByRecursion}
use Rattle.target_iceberg.specs.FormSteps.{IsGiven}
use Rattle.target_iceberg.proofs.FormLemmas.{all_more, passed}
use Rattle.target_iceberg.proofs.form.are_given.Goals as goal

pub loop-schema-preserved : goal.loop-schema-preserved
loop-schema-preserved c =
    let last = to_z w32 (of_z w32 c.args.last) in
    let test = subst (λ (l : List ℤ). IsTrue c.are_within.result ↔ AllByRecursion (λ (id : ℤ). id ≤ℤ last) l) c.as_slice.ensures c.are_within.ensures in
    all_more (IsGiven last) c.args.schemas.now c.loop-schema.schema-index c.loop-schema.invariant c.schema-item.result c.loop-schema-test.true c.schema-item.is (passed c.are_within.result test c.if-not-are_within.false)
