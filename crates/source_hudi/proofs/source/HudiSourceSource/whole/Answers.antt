use Rattle.std.proofs.Common.{subst, sym}
use Rattle.std.specs.Prelude.{IfErr}
use Rattle.lake_store.specs.Disk.{Disk}
use Rattle.hudi_table.specs.Folder.{IsHead}
use Rattle.source_core.specs.Answers.{IsReadRefusal}
use Rattle.source_core.proofs.Answers.{errs}
use Rattle.source_hudi.specs.Reading.{ShowsInInstants}
use Rattle.source_hudi.proofs.Refusals.{shown_from_scratch}
use Rattle.source_hudi.proofs.source.HudiSourceSource.whole.Goals as goal

pub whole_table-requires : goal.whole_table-requires
whole_table-requires g c told = subst (λ (d : Disk). IsHead d.files c.args.head.now.position) (sym (c.in-Ok.ensures.only_reads told).disk) (c.requires told).position

pub returns-in-Ok-clause-refused : goal.returns-in-Ok-clause-refused
returns-in-Ok-clause-refused g c told =
    let files = (g.S.Store.disk c.args.store.now).files in
    errs c.whole_table.result _ _ (shown_from_scratch files c.in-Ok.properties (c.in-Ok.ensures.says told))
    (subst (λ (d : Disk). IfErr c.whole_table.result (IsReadRefusal (ShowsInInstants d.files c.in-Ok.properties.table))) (c.in-Ok.ensures.only_reads told).disk (c.whole_table.ensures.refused told))
