use Rattle.std.proofs.Common.{Result, sym, subst}
use Rattle.std.specs.Prelude.{IfErr}
use Rattle.std.proofs.lemmas.Result.{err_from_is_err_and}
use Rattle.source_core.specs.Answers.{IsReadRefusal}
use Rattle.source_core.specs.declared.error.SourceError.{SourceError}
use Rattle.iceberg_change.specs.declared.own.Own.{Own}
use Rattle.source_iceberg.specs.Since.{IsRefusedBehind}
use Rattle.source_iceberg.proofs.SinceLaws.{change_refused, partition_kept, snapshot_refused, whole_refused}
use Rattle.source_iceberg.proofs.since.read_own.Goals as goal

pub read_behind-requires-clause-kept : goal.read_behind-requires-clause-kept
read_behind-requires-clause-kept g c = λ own columns. partition_kept c.args.metadata.now c.args.snapshot.now c.args.before own columns c.in_ok-keep_partition.ensures.unchanged

pub returns-in_err-keep_partition-clause-refused : goal.returns-in_err-keep_partition-clause-refused
returns-in_err-keep_partition-clause-refused g c told = λ read.
    let exit = err_from_is_err_and c.from_residual.result c.from_residual.ensures.1 in
    let P : SourceError → Type 0 = IsRefusedBehind (g.S.Store.disk c.args.store.now).files c.args.version c.args.metadata.now c.args.before read c.args.snapshot.now in
    subst (λ (r : Result Own SourceError). IfErr r (IsReadRefusal P)) (sym exit.1)
    (subst (IsReadRefusal P) (sym exit.2) (change_refused (g.S.Store.disk c.args.store.now).files c.args.version c.args.metadata.now c.args.before read c.args.snapshot.now c.in_err-keep_partition.field-0.0 c.in_err-keep_partition.ensures.refused))

pub returns-in-Err-clause-refused : goal.returns-in-Err-clause-refused
returns-in-Err-clause-refused g c told = λ read.
    let files = (g.S.Store.disk c.args.store.now).files in
    let m = c.args.metadata.now in
    let s = c.args.snapshot.now in
    whole_refused files c.args.version m c.args.before read s c.in_ok-keep_partition.ensures.unchanged c.source_error.result (snapshot_refused files c.args.version m s c.in-Err.error c.source_error.result (c.in-Err.ensures.refused told) c.source_error.ensures.told)
