use Rattle.std.proofs.Common.{Result, sym, subst}
use Rattle.std.specs.Prelude.{IfErr}
use Rattle.std.proofs.lemmas.Result.{err_from_is_err_and}
use Rattle.iceberg_table.specs.Errors.{IsRefusal}
use Rattle.iceberg_table.specs.Manifests.{IsManifestRefusal}
use Rattle.iceberg_table.specs.declared.error.IcebergError.{IcebergError}
use Rattle.iceberg_table.specs.declared.manifest.Manifest.{Manifest}
use Rattle.iceberg_table.proofs.ManifestLaws.{data_read}
use Rattle.iceberg_table.proofs.PieceLaws.{end_refused, short_file, unread_refused}
use Rattle.iceberg_table.proofs.manifest.read_entries.Goals as goal

pub returns-in_err-feeder-clause-refused : goal.returns-in_err-feeder-clause-refused
returns-in_err-feeder-clause-refused g c told =
    let exit = err_from_is_err_and c.from_residual.result c.from_residual.ensures.1 in
    let files = (g.S.Store.disk c.args.store.now).files in
    let Q : IcebergError → Type 0 = IsRefusal (IsManifestRefusal files c.args.location.now c.args.columns.now c.args.before c.args.file) in
    subst (λ (r : Result Manifest IcebergError). IfErr r Q) (sym exit.1)
    (subst Q (sym exit.2) (unread_refused files c.args.location.now c.args.columns.now c.args.before c.args.file c.in_err-feeder.field-0.0 (c.in_err-feeder.ensures.refused told)))

pub returns-in-Ok-clause-entries : goal.returns-in-Ok-clause-entries
returns-in-Ok-clause-entries g c told =
    let whole = c.in_ok-feeder.ensures.read told in
    data_read (g.S.Store.disk c.args.store.now).files c.args.location.now c.args.columns.now c.args.file whole.bytes c.in-Ok.field-0 whole.holds (c.in-Ok.ensures.found whole.bytes whole.fed whole.short)

pub returns-in-Ok-clause-short : goal.returns-in-Ok-clause-short
returns-in-Ok-clause-short g c told = short_file (g.S.Store.disk c.args.store.now).files c.args.columns.now c.args.file.path c.in_ok-feeder.feeder (c.in_ok-feeder.ensures.read told)

pub returns-in-Ok-clause-fit : goal.returns-in-Ok-clause-fit
returns-in-Ok-clause-fit g c = c.in-Ok.ensures.fit c.in_ok-feeder.ensures.taken

pub returns-in-Err-clause-refused : goal.returns-in-Err-clause-refused
returns-in-Err-clause-refused g c told =
    let files = (g.S.Store.disk c.args.store.now).files in
    let whole = c.in_ok-feeder.ensures.read told in
    end_refused files c.args.location.now c.args.columns.now c.args.before c.args.file c.in_ok-feeder.feeder whole c.in-Err.error c.refusal.result c.refusal.ensures (c.in-Err.ensures.refused whole.bytes whole.fed whole.short)
