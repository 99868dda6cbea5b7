use Rattle.std.proofs.Common.{List, subst}
use Rattle.iceberg_table.specs.declared.list.ManifestFile.{ManifestFile}
use Rattle.std.proofs.lemmas.Result.{err_from_is_err_and}
use Rattle.std.proofs.Common.{Result, sym}
use Rattle.std.specs.Prelude.{IfErr}
use Rattle.lake_sweep.specs.Reading.{NamesOnly}
use Rattle.lake_sweep.specs.Refusals.{HasCause}
use Rattle.lake_sweep.specs.Versions.{IsListRefused}
use Rattle.lake_sweep.specs.declared.error.SweepError.{SweepError}
use Rattle.lake_sweep.specs.declared.reached.Reached.{Reached}
use Rattle.lake_sweep.proofs.ReadingLaws.{again}
use Rattle.lake_sweep.proofs.RefusalLaws.{list_cause}
use Rattle.lake_sweep.proofs.SetLaws.{key_test}
use Rattle.lake_sweep.proofs.reached.Reached.with_list.Goals as goal

pub returns-then-contains-clause-read : goal.returns-then-contains-clause-read
returns-then-contains-clause-read g c told lists at has =
    let r = c.args.self in
    let path = c.args.path.now in
    (at, again (g.S.Store.disk c.args.store.now).files lists c.args.metadata.now path r at has ((key_test r.read.keys path c.contains.result c.contains.ensures).0 c.if-contains.true))

pub returns-clause-read : goal.returns-clause-read
returns-clause-read g c told lists at has =
    let files = (g.S.Store.disk c.args.store.now).files in
    let m = c.args.metadata.now in
    let path = c.args.path.now in
    let read = c.in_ok-manifests in
    let names : NamesOnly files m path read.manifests = record { says = read.ensures.says told; only = read.ensures.only told; short = read.ensures.short told } in
    c.in_ok-with_manifests.ensures files lists m at has (subst (λ (l : List ManifestFile). NamesOnly files m path l) (sym c.as_slice.ensures) names)

pub returns-in_err-manifests-clause-refused : goal.returns-in_err-manifests-clause-refused
returns-in_err-manifests-clause-refused g c told =
    let P : SweepError → Type 0 = IsListRefused (g.S.Store.disk c.args.store.now).files c.args.metadata.now c.args.path.now in
    let exit = err_from_is_err_and c.from_residual.result c.from_residual.ensures.1 in
    subst (λ (r : Result Reached SweepError). IfErr r (HasCause P)) (sym exit.1)
    (subst (HasCause P) (sym exit.2) (list_cause (g.S.Store.disk c.args.store.now).files c.args.metadata.now c.args.path.now _ (c.in_err-manifests.ensures.refused told)))
