use Rattle.std.proofs.Common.{Result, refl, sym, subst}
use Rattle.std.proofs.lemmas.Result.{err_from_is_err_and}
use Rattle.lake_store.specs.Disk.{Disk}
use Rattle.lake_store.proofs.RunLaws.{reading_further}
use Rattle.delta_table.proofs.Runs.{uncontested_further}
use Rattle.source_core.specs.Answers.{IsHeadAnswer, IsHeadRefusal, IsReadRefusal}
use Rattle.source_core.specs.declared.error.SourceError.{SourceError}
use Rattle.source_core.specs.declared.head.Head.{Head}
use Rattle.source_delta.specs.Heads.{IsAbsent, IsDeltaHead, IsTableId}
use Rattle.source_delta.specs.Reading.{IsFirstRefused, ShowsAtHead}
use Rattle.source_delta.proofs.Refusals.{first_shown, head_refused, names_shown}
use Rattle.source_delta.proofs.source.DeltaSourceSource.head.Goals as goal

pub returns-in_err-newest-clause-head : goal.returns-in_err-newest-clause-head
returns-in_err-newest-clause-head g c told =
    let exit = err_from_is_err_and c.from_residual.result c.from_residual.ensures.1 in
    let files = (g.S.Store.disk c.args.store.now).files in
    subst (λ (r : Result Head SourceError). IsHeadAnswer (IsAbsent files) (IsDeltaHead files) (ShowsAtHead files) r) (sym exit.1)
    (subst (IsHeadRefusal (IsAbsent files) (ShowsAtHead files)) (sym exit.2) (names_shown files c.in_err-newest.field-0.0 (c.in_err-newest.ensures.refused told)))

pub returns-in_err-table-clause-head : goal.returns-in_err-table-clause-head
returns-in_err-table-clause-head g c told =
    let exit = err_from_is_err_and c.from_residual-in_err-table.result c.from_residual-in_err-table.ensures.1 in
    let files = (g.S.Store.disk c.args.store.now).files in
    let same = (c.in_ok-newest.ensures.only_reads told).disk in
    let refused = subst (λ (d : Disk). IsReadRefusal (IsFirstRefused d.files) c.in_err-table.field-0.0) same (c.in_err-table.ensures.refused told) in
    let shown = first_shown files (c.in_ok-newest.ensures.few told) c.in_err-table.field-0.0 refused in
    subst (λ (r : Result Head SourceError). IsHeadAnswer (IsAbsent files) (IsDeltaHead files) (ShowsAtHead files) r) (sym exit.1)
    (subst (IsHeadRefusal (IsAbsent files) (ShowsAtHead files)) (sym exit.2) (head_refused files c.in_ok-newest.newest (c.in_ok-newest.ensures.newest told).there c.in_err-table.field-0.0 shown))

pub returns-in_err-table-clause-only_reads : goal.returns-in_err-table-clause-only_reads
returns-in_err-table-clause-only_reads g c = reading_further g.S.Store c.args.store.now c.newest_version.new.store c.table_id.new.store c.in_ok-newest.ensures.only_reads c.in_err-table.ensures.only_reads

pub returns-in_err-table-clause-contest : goal.returns-in_err-table-clause-contest
returns-in_err-table-clause-contest g c = uncontested_further g.S.Store.contests g.S.Store.may_contest c.args.store.now c.newest_version.new.store c.table_id.new.store c.in_ok-newest.ensures.contest c.in_err-table.ensures.contest

pub returns-in_err-position-clause-head : goal.returns-in_err-position-clause-head
returns-in_err-position-clause-head g c told =
    let exit = err_from_is_err_and c.from_residual-in_err-position.result c.from_residual-in_err-position.ensures.1 in
    let files = (g.S.Store.disk c.args.store.now).files in
    subst (λ (r : Result Head SourceError). IsHeadAnswer (IsAbsent files) (IsDeltaHead files) (ShowsAtHead files) r) (sym exit.1)
    (subst (IsHeadRefusal (IsAbsent files) (ShowsAtHead files)) (sym exit.2) tt)

pub returns-in_err-position-clause-only_reads : goal.returns-in_err-position-clause-only_reads
returns-in_err-position-clause-only_reads g c = reading_further g.S.Store c.args.store.now c.newest_version.new.store c.table_id.new.store c.in_ok-newest.ensures.only_reads c.in_ok-table.ensures.only_reads

pub returns-in_err-position-clause-contest : goal.returns-in_err-position-clause-contest
returns-in_err-position-clause-contest g c = uncontested_further g.S.Store.contests g.S.Store.may_contest c.args.store.now c.newest_version.new.store c.table_id.new.store c.in_ok-newest.ensures.contest c.in_ok-table.ensures.contest

pub returns-clause-head : goal.returns-clause-head
returns-clause-head g c told =
    let same = (c.in_ok-newest.ensures.only_reads told).disk in
    let is = c.in_ok-newest.ensures.newest told in (
      λ none. none c.in_ok-newest.newest is.there,
      record {
        newest = c.in_ok-newest.newest;
        is = is;
        position = c.in_ok-position.ensures;
        pending = refl;
        table = subst (λ (d : Disk). IsTableId d.files c.in_ok-table.table) same (c.in_ok-table.ensures.id told);
        few = c.in_ok-newest.ensures.few told;
      },
    )

pub returns-clause-only_reads : goal.returns-clause-only_reads
returns-clause-only_reads g c = reading_further g.S.Store c.args.store.now c.newest_version.new.store c.table_id.new.store c.in_ok-newest.ensures.only_reads c.in_ok-table.ensures.only_reads

pub returns-clause-contest : goal.returns-clause-contest
returns-clause-contest g c = uncontested_further g.S.Store.contests g.S.Store.may_contest c.args.store.now c.newest_version.new.store c.table_id.new.store c.in_ok-newest.ensures.contest c.in_ok-table.ensures.contest
