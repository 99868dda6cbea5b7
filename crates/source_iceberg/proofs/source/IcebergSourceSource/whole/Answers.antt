use Rattle.std.proofs.Common.{Result, sym, subst}
use Rattle.std.specs.Prelude.{IfErr, IfOk}
use Rattle.std.proofs.lemmas.Result.{err_from_is_err_and}
use Rattle.lake_store.specs.Disk.{Disk}
use Rattle.lake_store.proofs.RunLaws.{reading_further}
use Rattle.table_history.specs.declared.table.Table.{Table}
use Rattle.source_core.specs.Answers.{IsReadRefusal}
use Rattle.source_core.specs.declared.error.SourceError.{SourceError}
use Rattle.source_iceberg.specs.Heads.{IsIcebergHead, IsNewestMetadata, IsTableAtHead}
use Rattle.source_iceberg.specs.Reading.{ShowsFromScratch}
use Rattle.source_iceberg.proofs.AtHead.{never}
use Rattle.source_iceberg.proofs.source.IcebergSourceSource.whole.Goals as goal

pub returns-in_err-newest-clause-refused : goal.returns-in_err-newest-clause-refused
returns-in_err-newest-clause-refused g c told =
    let exit = err_from_is_err_and c.from_residual.result c.from_residual.ensures.1 in
    let files = (g.S.Store.disk c.args.store.now).files in
    subst (λ (r : Result Table SourceError). IfErr r (IsReadRefusal (ShowsFromScratch files))) (sym exit.1)
    (subst (IsReadRefusal (ShowsFromScratch files)) (sym exit.2) (never (ShowsFromScratch files) c.in_err-newest.field-0.0 (c.in_err-newest.ensures.again told c.args.head.now (c.requires told))))

pub head_table-requires-clause-newest : goal.head_table-requires-clause-newest
head_table-requires-clause-newest g c told =
    let newest = c.in_ok-newest.newest in
    subst (λ (d : Disk). IsNewestMetadata d.files newest.version newest.metadata) (sym (c.in_ok-newest.ensures.only_reads told).disk) (c.in_ok-newest.ensures.newest told)

pub head_table-requires-clause-head : goal.head_table-requires-clause-head
head_table-requires-clause-head g c told = subst (λ (d : Disk). IsIcebergHead d.files c.args.head.now) (sym (c.in_ok-newest.ensures.only_reads told).disk) (c.requires told)

pub returns-clause-table : goal.returns-clause-table
returns-clause-table g c told = subst (λ (d : Disk). IfOk c.head_table.result (IsTableAtHead d.files)) (c.in_ok-newest.ensures.only_reads told).disk (c.head_table.ensures.table told)

pub returns-clause-refused : goal.returns-clause-refused
returns-clause-refused g c told = subst (λ (d : Disk). IfErr c.head_table.result (IsReadRefusal (ShowsFromScratch d.files))) (c.in_ok-newest.ensures.only_reads told).disk (c.head_table.ensures.refused told)

pub returns-clause-only_reads : goal.returns-clause-only_reads
returns-clause-only_reads g c = reading_further g.S.Store c.args.store.now c.newest_metadata.new.store c.head_table.new.store c.in_ok-newest.ensures.only_reads c.head_table.ensures.only_reads
