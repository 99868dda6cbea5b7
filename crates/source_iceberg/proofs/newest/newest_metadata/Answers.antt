use Rattle.std.proofs.Common.{Result, sym, subst}
use Rattle.std.specs.Prelude.{IfErr}
use Rattle.std.proofs.lemmas.Result.{err_from_is_err_and}
use Rattle.lake_store.specs.Disk.{Disk}
use Rattle.lake_store.proofs.RunLaws.{reading_further}
use Rattle.source_core.specs.Answers.{IsHeadRefusal, IsReadRefusal}
use Rattle.source_core.specs.declared.error.SourceError.{SourceError}
use Rattle.source_iceberg.specs.Heads.{IsAbsent}
use Rattle.source_iceberg.specs.Reading.{IsRefusedVersion, ShowsAtHead}
use Rattle.source_iceberg.specs.declared.newest.Newest.{Newest}
use Rattle.source_iceberg.proofs.Present.{again, version_told}
use Rattle.source_iceberg.proofs.newest.newest_metadata.Goals as goal

pub returns-in_err-version-clause-again : goal.returns-in_err-version-clause-again
returns-in_err-version-clause-again g c told = λ head is.
    let files = (g.S.Store.disk c.args.store.now).files in
    let exit = err_from_is_err_and c.from_residual.result c.from_residual.ensures.1 in
    again files head is c.from_residual.result exit.0 exit.1 (subst (IsHeadRefusal (IsAbsent files) (ShowsAtHead files)) (sym exit.2) (c.in_err-version.ensures.refused told))

pub returns-in_err-metadata-clause-refused : goal.returns-in_err-metadata-clause-refused
returns-in_err-metadata-clause-refused g c told =
    let files = (g.S.Store.disk c.args.store.now).files in
    let exit = err_from_is_err_and c.from_residual-in_err-metadata.result c.from_residual-in_err-metadata.ensures.1 in
    let same = (c.in_ok-version.ensures.only_reads told).disk in
    let refused = subst (λ (d : Disk). IsReadRefusal (IsRefusedVersion d.files c.in_ok-version.version) c.in_err-metadata.field-0.0) same (c.in_err-metadata.ensures.refused told) in
    subst (λ (r : Result Newest SourceError). IfErr r (IsHeadRefusal (IsAbsent files) (ShowsAtHead files))) (sym exit.1)
    (subst (IsHeadRefusal (IsAbsent files) (ShowsAtHead files)) (sym exit.2) (version_told files c.in_ok-version.version (c.in_ok-version.ensures.newest told) (c.in_ok-version.ensures.few told) c.in_err-metadata.field-0.0 refused))

pub returns-in_err-metadata-clause-again : goal.returns-in_err-metadata-clause-again
returns-in_err-metadata-clause-again g c told = λ head is.
    let files = (g.S.Store.disk c.args.store.now).files in
    let exit = err_from_is_err_and c.from_residual-in_err-metadata.result c.from_residual-in_err-metadata.ensures.1 in
    let same = (c.in_ok-version.ensures.only_reads told).disk in
    let refused = subst (λ (d : Disk). IsReadRefusal (IsRefusedVersion d.files c.in_ok-version.version) c.in_err-metadata.field-0.0) same (c.in_err-metadata.ensures.refused told) in
    again files head is c.from_residual-in_err-metadata.result exit.0 exit.1
    (subst (IsHeadRefusal (IsAbsent files) (ShowsAtHead files)) (sym exit.2) (version_told files c.in_ok-version.version (c.in_ok-version.ensures.newest told) (c.in_ok-version.ensures.few told) c.in_err-metadata.field-0.0 refused))

pub returns-clause-only_reads : goal.returns-clause-only_reads
returns-clause-only_reads g c = reading_further g.S.Store c.args.store.now c.newest_version.new.store c.metadata_of.new.store c.in_ok-version.ensures.only_reads c.in_ok-metadata.ensures.only_reads
