use Rattle.std.proofs.Common.{refl, ◌∙◌, inl, inr}
use Rattle.std.specs.Option.{option_copied}
use Rattle.hudi_timeline.proofs.CauseLemmas.{none_lacks}
use Rattle.hudi_timeline.proofs.KindLemmas.{unknown, known, changed, unchanged}
use Rattle.hudi_timeline.proofs.change.schemas.partition_kinds.Goals as goal
use Rattle.lake_basics.proofs.Truth.{true_not_false}

pub returns-then-not-branch-clause-refused : goal.returns-then-not-branch-clause-refused
returns-then-not-branch-clause-refused c =
    inl (refl, inl (λ d. true_not_false c.in_ok-are_distinct.field-0 (c.in_ok-are_distinct.ensures.distinct.1 d) c.if-not-branch.true))

pub returns-in_default-clause-refused : goal.returns-in_default-clause-refused
returns-in_default-clause-refused c =
    inl (refl, inr (unknown c.args.schema.now c.args.names.now c.as_slice.result.now (c.as_slice.ensures.value ∙ c.in_ok-found.ensures) c.in_ok-kinds.field-0 c.in_ok-kinds.ensures c.in_default.is))

pub returns-then-branch-clause-refused : goal.returns-then-branch-clause-refused
returns-then-branch-clause-refused c =
    let schema = c.args.schema.now in
    let names = c.args.names.now in
    let distinct = c.in_ok-are_distinct.ensures.distinct.0 c.if-not-branch.false in
    let are = known schema names c.as_slice.result.now (c.as_slice.ensures.value ∙ c.in_ok-found.ensures) c.in_ok-kinds.field-0 c.in-Some.kinds c.in_ok-kinds.ensures c.in-Some.is in
    let other = changed schema names c.as_slice.result.now (c.as_slice.ensures.value ∙ c.in_ok-found.ensures) (option_copied c.args.base) c.in_ok-changes_kind.field-0 c.in_ok-changes_kind.ensures c.if-branch.true in
    inr (refl, none_lacks schema names c.in-Some.kinds.items distinct are, other.0, other.1, other.2)

pub returns-clause-distinct : goal.returns-clause-distinct
returns-clause-distinct c = c.in_ok-are_distinct.ensures.distinct.0 c.if-not-branch.false

pub returns-clause-kept : goal.returns-clause-kept
returns-clause-kept c =
    unchanged c.args.schema.now c.args.names.now c.as_slice.result.now (c.as_slice.ensures.value ∙ c.in_ok-found.ensures) (option_copied c.args.base) c.in_ok-changes_kind.field-0 c.in_ok-changes_kind.ensures c.if-branch.false
