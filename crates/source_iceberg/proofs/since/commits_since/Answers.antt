use Rattle.std.proofs.Common.{Result, sym, subst}
use Rattle.std.specs.Prelude.{IfErr, IfOk}
use Rattle.std.proofs.lemmas.Result.{err_from_is_err_and}
use Rattle.lake_store.specs.Disk.{Disk}
use Rattle.lake_store.proofs.RunLaws.{reading_further}
use Rattle.source_core.specs.Since.{IsSinceAnswer, IsSinceRefusal}
use Rattle.source_core.specs.declared.error.SourceError.{SourceError}
use Rattle.source_core.specs.declared.since.Since.{Since}
use Rattle.source_iceberg.specs.Heads.{IsIcebergHead, IsNewestMetadata}
use Rattle.source_iceberg.specs.Since.{IsSince, Reaches, ShowsFromPosition}
use Rattle.source_iceberg.proofs.SinceLaws.{none_refused}
use Rattle.source_iceberg.proofs.since.commits_since.Goals as goal

pub returns-in_err-newest-clause-refused : goal.returns-in_err-newest-clause-refused
returns-in_err-newest-clause-refused g c told =
    let exit = err_from_is_err_and c.from_residual.result c.from_residual.ensures.1 in
    let files = (g.S.Store.disk c.args.store.now).files in
    let position = c.args.position.now in
    let base = c.args.base.now in
    let e = c.in_err-newest.field-0.0 in
    let P : SourceError → Type 0 = IsSinceRefusal (Reaches files position) (ShowsFromPosition files position base) in
    subst (λ (r : Result Since SourceError). IfErr r P) (sym exit.1)
    (subst P (sym exit.2) (none_refused (Reaches files position) (ShowsFromPosition files position base) e (c.in_err-newest.ensures.again told c.args.head.now (c.requires told))))

pub since_in-requires-clause-newest : goal.since_in-requires-clause-newest
since_in-requires-clause-newest g c told =
    let newest = c.in_ok-newest.newest in
    subst (λ (d : Disk). IsNewestMetadata d.files newest.version newest.metadata) (sym (c.in_ok-newest.ensures.only_reads told).disk) (c.in_ok-newest.ensures.newest told)

pub since_in-requires-clause-head : goal.since_in-requires-clause-head
since_in-requires-clause-head g c told = subst (λ (d : Disk). IsIcebergHead d.files c.args.head.now) (sym (c.in_ok-newest.ensures.only_reads told).disk) (c.requires told)

pub returns-clause-since : goal.returns-clause-since
returns-clause-since g c told =
    let position = c.args.position.now in
    let base = c.args.base.now in
    subst (λ (d : Disk). IfOk c.since_in.result (IsSinceAnswer (Reaches d.files position) (IsSince d.files position base))) (c.in_ok-newest.ensures.only_reads told).disk (c.since_in.ensures.since told)

pub returns-clause-refused : goal.returns-clause-refused
returns-clause-refused g c told =
    let position = c.args.position.now in
    let base = c.args.base.now in
    subst (λ (d : Disk). IfErr c.since_in.result (IsSinceRefusal (Reaches d.files position) (ShowsFromPosition d.files position base))) (c.in_ok-newest.ensures.only_reads told).disk (c.since_in.ensures.refused told)

pub returns-clause-only_reads : goal.returns-clause-only_reads
returns-clause-only_reads g c = reading_further g.S.Store c.args.store.now c.newest_metadata.new.store c.since_in.new.store c.in_ok-newest.ensures.only_reads c.since_in.ensures.only_reads
