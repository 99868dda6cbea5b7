use Rattle.std.proofs.Common.{Result, sym, subst}
use Rattle.std.proofs.lemmas.Result.{err_from_is_err_and}
use Rattle.lake_store.specs.Disk.{Disk}
use Rattle.lake_store.proofs.RunLaws.{reading_further}
use Rattle.source_core.specs.Answers.{IsHeadAnswer, IsHeadRefusal, IsReadRefusal}
use Rattle.source_core.specs.declared.error.SourceError.{SourceError}
use Rattle.source_core.specs.declared.head.Head.{Head}
use Rattle.source_hudi.specs.Heads.{IsAbsent, IsHudiHead, IsTableName}
use Rattle.source_hudi.specs.Reading.{HasNoProperties, ShowsAtHead}
use Rattle.source_hudi.proofs.Refusals.{head_refused}
use Rattle.source_hudi.proofs.source.HudiSourceSource.head.Goals as goal

pub returns-in_err-table-clause-head : goal.returns-in_err-table-clause-head
returns-in_err-table-clause-head g c told =
    let exit = err_from_is_err_and c.from_residual-in_err-table.result c.from_residual-in_err-table.ensures.1 in
    let files = (g.S.Store.disk c.args.store.now).files in
    let same = (c.in_ok-head.ensures.only_reads told).disk in
    let shown = subst (λ (d : Disk). IsReadRefusal (HasNoProperties d.files) c.in_err-table.field-0.0) same (c.in_err-table.ensures.refused told) in
    subst (λ (r : Result Head SourceError). IsHeadAnswer (IsAbsent files) (IsHudiHead files) (ShowsAtHead files) r) (sym exit.1)
    (subst (IsHeadRefusal (IsAbsent files) (ShowsAtHead files)) (sym exit.2) (head_refused files c.in_ok-head.head.position (c.in_ok-head.ensures.position told) (c.in_ok-head.ensures.few told) c.in_err-table.field-0.0 shown))

pub returns-in_err-table-clause-only_reads : goal.returns-in_err-table-clause-only_reads
returns-in_err-table-clause-only_reads g c = reading_further g.S.Store c.args.store.now c.find_head.new.store c.table_name.new.store c.in_ok-head.ensures.only_reads c.in_err-table.ensures.only_reads

pub returns-clause-head : goal.returns-clause-head
returns-clause-head g c told =
    let same = (c.in_ok-head.ensures.only_reads told).disk in
    let is = c.in_ok-head.ensures.position told in (
      λ none. none c.in_ok-head.head.position is.0,
      record {
        position = is;
        pending = c.in_ok-head.ensures.pending told;
        table = subst (λ (d : Disk). IsTableName d.files c.in_ok-table.table) same (c.in_ok-table.ensures.name told);
        few = c.in_ok-head.ensures.few told;
      },
    )

pub returns-clause-only_reads : goal.returns-clause-only_reads
returns-clause-only_reads g c = reading_further g.S.Store c.args.store.now c.find_head.new.store c.table_name.new.store c.in_ok-head.ensures.only_reads c.in_ok-table.ensures.only_reads
