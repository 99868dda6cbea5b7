use Rattle.std.proofs.Common.{subst, sym}
use Rattle.std.specs.Prelude.{IfErr, IfOk}
use Rattle.lake_store.specs.Disk.{Disk}
use Rattle.lake_store.proofs.RunLaws.{reading_further}
use Rattle.hudi_table.specs.Folder.{IsHead, IsReached}
use Rattle.source_core.specs.Answers.{IsReadRefusal}
use Rattle.source_core.specs.Since.{IsSinceAnswer}
use Rattle.source_core.proofs.Answers.{errs}
use Rattle.source_hudi.specs.Since.{IsSince, ShowsSince}
use Rattle.source_hudi.proofs.Refusals.{list_refused}
use Rattle.source_hudi.proofs.SinceRefusals.{names_refused, since_refused}
use Rattle.source_hudi.proofs.source.HudiSourceSource.since.Goals as goal

pub since-requires-clause-head : goal.since-requires-clause-head
since-requires-clause-head g c told = subst (λ (d : Disk). IsHead d.files c.args.head.now.position) (sym (c.in-Ok.ensures.only_reads told).disk) (c.requires told).position

pub returns-in-Ok-clause-since : goal.returns-in-Ok-clause-since
returns-in-Ok-clause-since g c told =
    let position = c.args.position.now in
    let base = c.args.base.now in
    subst (λ (d : Disk). IfOk c.since.result (IsSinceAnswer (IsReached d.files position) (IsSince d.files position base))) (c.in-Ok.ensures.only_reads told).disk (c.since.ensures.since told)

pub returns-in-Ok-clause-refused : goal.returns-in-Ok-clause-refused
returns-in-Ok-clause-refused g c told =
    let files = (g.S.Store.disk c.args.store.now).files in
    let position = c.args.position.now in
    let base = c.args.base.now in
    errs c.since.result _ _ (since_refused files position base)
    (subst (λ (d : Disk). IfErr c.since.result (IsReadRefusal (ShowsSince d.files position base))) (c.in-Ok.ensures.only_reads told).disk (c.since.ensures.refused told))

pub returns-in-Ok-clause-only_reads : goal.returns-in-Ok-clause-only_reads
returns-in-Ok-clause-only_reads g c = reading_further g.S.Store c.args.store.now c.list_timeline.new.store c.since.new.store c.in-Ok.ensures.only_reads c.since.ensures.only_reads

pub returns-in-Err-clause-refused : goal.returns-in-Err-clause-refused
returns-in-Err-clause-refused g c told =
    let files = (g.S.Store.disk c.args.store.now).files in
    let position = c.args.position.now in
    let base = c.args.base.now in
    let e = c.source_error.result in
    since_refused files position base e (names_refused files position base (c.requires told).few e (list_refused files c.in-Err.error e (c.in-Err.ensures.refused told) c.source_error.ensures.told))
