use Rattle.std.proofs.Common.{◌∙◌, subst, sym}
use Rattle.std.specs.Prelude.{IfErr, IfOk}
use Rattle.lake_store.specs.Disk.{Disk, names_in}
use Rattle.lake_store.proofs.RunLaws.{reading_further}
use Rattle.hudi_table.specs.Folder.{IsHead}
use Rattle.source_core.specs.Answers.{IsReadRefusal}
use Rattle.source_core.proofs.Answers.{errs, oks}
use Rattle.source_hudi.specs.Heads.{IsTableUpTo, IsWholeTable}
use Rattle.source_hudi.specs.Instants.{archive_folder}
use Rattle.source_hudi.specs.Reading.{ShowsInTimeline}
use Rattle.source_hudi.proofs.Refusals.{archive_empty, shown_in_instants}
use Rattle.source_hudi.proofs.source.whole_table.Goals as goal

pub table_at-requires : goal.table_at-requires
table_at-requires g c told = subst (λ (d : Disk). IsHead d.files c.args.head.now) (sym (c.in-Ok-None.ensures.only_reads told).disk) (c.requires told)

pub returns-in-Ok-None-clause-made : goal.returns-in-Ok-None-clause-made
returns-in-Ok-None-clause-made g c told =
    let files = (g.S.Store.disk c.args.store.now).files in
    let empty = archive_empty (names_in files archive_folder) (sym (c.in-Ok-None.ensures.found told) ∙ c.in-Ok-None.field-0-is) in
    oks c.table_at.result (IsTableUpTo files c.args.table.now c.args.head.now) (IsWholeTable files c.args.table.now c.args.head.now) (λ t up_to. record { archive = empty; up_to = up_to })
    (subst (λ (d : Disk). IfOk c.table_at.result (IsTableUpTo d.files c.args.table.now c.args.head.now)) (c.in-Ok-None.ensures.only_reads told).disk (c.table_at.ensures.made told))

pub returns-in-Ok-None-clause-refused : goal.returns-in-Ok-None-clause-refused
returns-in-Ok-None-clause-refused g c told =
    let files = (g.S.Store.disk c.args.store.now).files in
    let empty = archive_empty (names_in files archive_folder) (sym (c.in-Ok-None.ensures.found told) ∙ c.in-Ok-None.field-0-is) in
    errs c.table_at.result _ _ (shown_in_instants files c.args.table.now empty)
    (subst (λ (d : Disk). IfErr c.table_at.result (IsReadRefusal (ShowsInTimeline d.files c.args.table.now))) (c.in-Ok-None.ensures.only_reads told).disk (c.table_at.ensures.refused told))

pub returns-in-Ok-None-clause-only_reads : goal.returns-in-Ok-None-clause-only_reads
returns-in-Ok-None-clause-only_reads g c = reading_further g.S.Store c.args.store.now c.first_archived.new.store c.table_at.new.store c.in-Ok-None.ensures.only_reads c.table_at.ensures.only_reads
