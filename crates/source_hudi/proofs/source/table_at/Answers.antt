use Rattle.std.proofs.Common.{subst, sym}
use Rattle.std.specs.Prelude.{IfErr}
use Rattle.lake_store.specs.Disk.{Disk}
use Rattle.lake_store.proofs.RunLaws.{reading_further}
use Rattle.hudi_table.specs.Folder.{IsHead}
use Rattle.source_core.specs.Answers.{IsReadRefusal}
use Rattle.source_core.proofs.Answers.{errs}
use Rattle.source_hudi.specs.Reading.{ShowsUpTo}
use Rattle.source_hudi.proofs.Refusals.{shown_in_timeline}
use Rattle.source_hudi.proofs.source.table_at.Goals as goal

pub table_up_to-requires-clause-head : goal.table_up_to-requires-clause-head
table_up_to-requires-clause-head g c told = subst (λ (d : Disk). IsHead d.files c.args.head.now) (sym (c.in-Ok.ensures.only_reads told).disk) (c.requires told)

pub returns-in-Ok-clause-refused : goal.returns-in-Ok-clause-refused
returns-in-Ok-clause-refused g c told =
    let files = (g.S.Store.disk c.args.store.now).files in
    errs c.table_up_to.result _ _ (shown_in_timeline files c.args.table.now c.args.head.now (c.in-Ok.ensures.few told) (c.requires told))
    (subst (λ (d : Disk). IfErr c.table_up_to.result (IsReadRefusal (ShowsUpTo d.files c.args.table.now c.args.head.now))) (c.in-Ok.ensures.only_reads told).disk (c.table_up_to.ensures.refused told))

pub returns-in-Ok-clause-only_reads : goal.returns-in-Ok-clause-only_reads
returns-in-Ok-clause-only_reads g c = reading_further g.S.Store c.args.store.now c.list_timeline.new.store c.table_up_to.new.store c.in-Ok.ensures.only_reads c.table_up_to.ensures.only_reads
