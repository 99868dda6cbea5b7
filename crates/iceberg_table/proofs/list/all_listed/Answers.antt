use Rattle.std.proofs.Common.{◌≡◌, ◌++◌, ◌∷◌, [], List, length, rules, sym, subst, ◌∙◌}
use Rattle.std.specs.Prelude.{IfErr}
use Rattle.std.proofs.lemmas.Result.{err_from_is_err_and}
use Rattle.iceberg_manifest.specs.Lists.{AreEach}
use Rattle.iceberg_manifest.specs.declared.info.ManifestInfo.{ManifestInfo}
use Rattle.iceberg_table.specs.Errors.{IsFault}
use Rattle.iceberg_table.specs.Lists.{IsListed, IsRowFault}
use Rattle.iceberg_table.specs.Order.{StopsAt}
use Rattle.iceberg_table.specs.declared.error.Fault.{Fault}
use Rattle.iceberg_table.specs.declared.list.ManifestFile.{ManifestFile}
use Rattle.iceberg_table.proofs.EachLaws.{each_push, left_moved, left_next, left_none}
use Rattle.iceberg_table.proofs.ManifestLaws.{fault_further}
use Rattle.iceberg_table.proofs.list.all_listed.Goals as goal

pub loop-info-init : goal.loop-info-init
loop-info-init c = ([], sym (c.into_iter-info-iterator.ensures.into_iter_gives.0 ∙ c.into_vec-info-items.ensures), subst (λ (l : List ManifestFile). AreEach (IsListed c.args.metadata.now) [] l) (sym c.new-files.ensures) tt)

pub loop-info-preserved : goal.loop-info-preserved
loop-info-preserved c =
    let m = c.args.metadata.now in
    let was = c.loop-info.invariant in
    let x = c.in-Some.info in
    let split = left_next c.args.infos was.0 c.loop-info.info-iterator.rest.items c.next.new.self.rest.items x was.1 c.in-Some.ensures.steps.0 in (
      was.0 ++ x ∷ [],
      left_moved c.args.infos was.0 c.next.new.self.rest.items x split,
      subst (λ (l : List ManifestFile). AreEach (IsListed m) (was.0 ++ x ∷ []) l) (sym c.in_ok-push.ensures.ok) (each_push (IsListed m) was.0 c.loop-info.files x c.in_ok-listed.field-0 was.2 c.in_ok-listed.ensures.found),
    )

pub returns-in_err-listed-clause-refused : goal.returns-in_err-listed-clause-refused
returns-in_err-listed-clause-refused c =
    let exit = err_from_is_err_and c.from_residual.result c.from_residual.ensures.1 in
    let m = c.args.metadata.now in
    let was = c.loop-info.invariant in
    let x = c.in-Some.info in
    let split = left_next c.args.infos was.0 c.loop-info.info-iterator.rest.items c.next.new.self.rest.items x was.1 c.in-Some.ensures.steps.0 in
    let P : Fault → Type 0 = StopsAt (IsListed m) (λ (list : List ManifestFile). IsRowFault m) c.args.infos in
    subst (λ r. IfErr r (IsFault P)) (sym exit.1)
    (subst (IsFault P) (sym exit.2)
    (fault_further (IsRowFault m x) P c.in_err-listed.field-0.0
    (λ f shows. record { front = was.0; item = x; behind = c.next.new.self.rest.items; split = split; found = c.loop-info.files; are = was.2; refused = shows })
    c.in_err-listed.ensures.refused))

pub returns-clause-found : goal.returns-clause-found
returns-clause-found c =
    let was = c.loop-info.invariant in
    let none : length c.loop-info.info-iterator.rest.items ≡ 0 = search rules in
    subst (λ (l : List ManifestInfo). AreEach (IsListed c.args.metadata.now) l c.loop-info.files) (sym (left_none c.args.infos was.0 c.loop-info.info-iterator.rest.items was.1 none)) was.2
