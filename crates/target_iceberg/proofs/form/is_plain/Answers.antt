use Rattle.std.proofs.Common.{List, ℤ, subst, rules, w32}
use Rattle.std.proofs.lemmas.Int.{to_z-of_z}
use Rattle.std.specs.Prelude.{◌↔◌, IsTrue}
use Rattle.std.specs.List.{AllByRecursion}
use Rattle.iceberg_metadata.specs.Schemas.{HeldSchema}
use Rattle.iceberg_metadata.specs.declared.metadata.Snapshot.{Snapshot}
use Rattle.target_iceberg.specs.FormSteps.{IsGiven, IsUpTo}
use Rattle.target_iceberg.proofs.FormLemmas.{given_stop, plain_by, slash_stop}
use Rattle.target_iceberg.proofs.form.is_plain.Goals as goal

pub returns-then-ends_with_slash : goal.returns-then-ends_with_slash
returns-then-ends_with_slash c = slash_stop c.args.version c.args.metadata.now c.ends_with_slash.result c.ends_with_slash.ensures c.if-ends_with_slash.true

pub returns-then-not-are_given : goal.returns-then-not-are_given
returns-then-not-are_given c =
    let same = to_z-of_z w32 c.args.metadata.now.last_column_id (search rules) in
    let here = subst (λ (n : ℤ). IsTrue c.are_given.result ↔ AllByRecursion (IsGiven n) c.as_slice.result.now) same c.are_given.ensures in
    let given = subst (λ (l : List HeldSchema). IsTrue c.are_given.result ↔ AllByRecursion (IsGiven c.args.metadata.now.last_column_id) l) c.as_slice.ensures here in
    given_stop c.args.version c.args.metadata.now c.are_given.result given c.if-not-are_given.true

pub returns : goal.returns
returns c =
    let same = to_z-of_z w32 c.args.metadata.now.last_column_id (search rules) in
    let here = subst (λ (n : ℤ). IsTrue c.are_given.result ↔ AllByRecursion (IsGiven n) c.as_slice.result.now) same c.are_given.ensures in
    let given = subst (λ (l : List HeldSchema). IsTrue c.are_given.result ↔ AllByRecursion (IsGiven c.args.metadata.now.last_column_id) l) c.as_slice.ensures here in
    let up = subst (λ (l : List Snapshot). IsTrue c.are_up_to.result ↔ AllByRecursion (IsUpTo c.args.version) l) c.as_slice-2.ensures c.are_up_to.ensures in
    plain_by c.args.version c.args.metadata.now c.ends_with_slash.result c.are_given.result c.are_up_to.result c.ends_with_slash.ensures c.if-ends_with_slash.false given c.if-not-are_given.false up
