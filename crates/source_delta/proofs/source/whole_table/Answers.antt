use Rattle.std.proofs.Common.{ℕ, Option, sym, subst}
use Rattle.std.specs.Prelude.{IfErr, IfOk, MatchOption}
use Rattle.lake_store.specs.Disk.{Disk}
use Rattle.lake_store.proofs.RunLaws.{reading_further}
use Rattle.delta_table.proofs.Runs.{uncontested_further}
use Rattle.source_core.specs.Answers.{IsReadRefusal}
use Rattle.source_delta.specs.Heads.{IsNewest, IsTableAtHead}
use Rattle.source_delta.specs.Reading.{HasEach, IsLastMissing, IsRefusedLog}
use Rattle.source_core.proofs.Answers.{errs}
use Rattle.source_delta.proofs.Refusals.{lacking, names_from_scratch, refused_from_scratch}
use Rattle.source_core.proofs.Runs.{fails_then}
use Rattle.source_delta.proofs.source.whole_table.Goals as goal

pub returns-in-Ok-Some-clause-refused : goal.returns-in-Ok-Some-clause-refused
returns-in-Ok-Some-clause-refused g c told = λ few is.
    let files = (g.S.Store.disk c.args.store.now).files in
    lacking files few c.args.newest is c.in-Ok-Some.version
    (subst (λ (o : Option ℕ). MatchOption o (HasEach files c.args.newest) (IsLastMissing files c.args.newest)) c.in-Ok-Some.field-0-is (c.in-Ok-Some.ensures.missing told is))
    c.unsupported.result c.unsupported.ensures.told

pub returns-in-Ok-None-clause-table : goal.returns-in-Ok-None-clause-table
returns-in-Ok-None-clause-table g c told = λ is.
    let same = (c.in-Ok-None.ensures.only_reads told).disk in
    subst (λ (d : Disk). IfOk c.table_up_to.result (IsTableAtHead d.files)) same
    (c.table_up_to.ensures.table told (subst (λ (d : Disk). IsNewest d.files c.args.newest) (sym same) is))

pub returns-in-Ok-None-clause-refused : goal.returns-in-Ok-None-clause-refused
returns-in-Ok-None-clause-refused g c told = λ few is.
    let files = (g.S.Store.disk c.args.store.now).files in
    let same = (c.in-Ok-None.ensures.only_reads told).disk in
    let each = subst (λ (o : Option ℕ). MatchOption o (HasEach files c.args.newest) (IsLastMissing files c.args.newest)) c.in-Ok-None.field-0-is (c.in-Ok-None.ensures.missing told is) in
    errs c.table_up_to.result _ _ (refused_from_scratch files few c.args.newest is each)
    (subst (λ (d : Disk). IfErr c.table_up_to.result (IsReadRefusal (IsRefusedLog d.files c.args.newest))) same (c.table_up_to.ensures.refused told))

pub returns-in-Ok-None-clause-only_reads : goal.returns-in-Ok-None-clause-only_reads
returns-in-Ok-None-clause-only_reads g c = reading_further g.S.Store c.args.store.now c.missing_version.new.store c.table_up_to.new.store c.in-Ok-None.ensures.only_reads c.table_up_to.ensures.only_reads

pub returns-in-Ok-None-clause-cause : goal.returns-in-Ok-None-clause-cause
returns-in-Ok-None-clause-cause g c =
    let store = g.S.Store in
    fails_then store.faults store.may_fail c.args.store.now c.missing_version.new.store c.table_up_to.new.store _ _ _ c.in-Ok-None.ensures.cause c.table_up_to.ensures.cause (λ is. is)

pub returns-in-Ok-None-clause-contest : goal.returns-in-Ok-None-clause-contest
returns-in-Ok-None-clause-contest g c =
    let store = g.S.Store in
    uncontested_further store.contests store.may_contest c.args.store.now c.missing_version.new.store c.table_up_to.new.store c.in-Ok-None.ensures.contest c.table_up_to.ensures.contest

pub returns-in-Err-clause-refused : goal.returns-in-Err-clause-refused
returns-in-Err-clause-refused g c told = λ few is.
    let files = (g.S.Store.disk c.args.store.now).files in
    names_from_scratch files few c.args.newest is c.in-Err.error (c.in-Err.ensures.refused told is)
