use Rattle.std.proofs.Common.{subst}
use Rattle.std.specs.Prelude.{IfErr, IfOk}
use Rattle.lake_store.specs.Disk.{Disk}
use Rattle.lake_store.proofs.RunLaws.{reading_further}
use Rattle.source_core.specs.Answers.{IsReadRefusal}
use Rattle.source_core.proofs.Answers.{errs, oks}
use Rattle.source_hudi.specs.Since.{AreCommitsUpTo, IsSince, ShowsOver}
use Rattle.source_hudi.proofs.SinceRefusals.{over_reached}
use Rattle.source_hudi.proofs.since.commits_since.Goals as goal

pub returns-in-Ok-clause-made : goal.returns-in-Ok-clause-made
returns-in-Ok-clause-made g c told =
    let files = (g.S.Store.disk c.args.store.now).files in
    let head = c.args.head.now in
    let position = c.args.position.now in
    let base = c.args.base.now in
    let p = c.in-Ok.properties in
    oks c.commits_up_to.result (AreCommitsUpTo files position head p.table base) (IsSince files position base)
    (λ commits up_to. record { head = head; is_head = c.requires.head told; properties = p; says = c.in-Ok.ensures.says told; up_to = up_to })
    (subst (λ (d : Disk). IfOk c.commits_up_to.result (AreCommitsUpTo d.files position head p.table base)) (c.in-Ok.ensures.only_reads told).disk (c.commits_up_to.ensures.made told))

pub returns-in-Ok-clause-refused : goal.returns-in-Ok-clause-refused
returns-in-Ok-clause-refused g c told =
    let files = (g.S.Store.disk c.args.store.now).files in
    let head = c.args.head.now in
    let position = c.args.position.now in
    let base = c.args.base.now in
    let p = c.in-Ok.properties in
    errs c.commits_up_to.result _ _ (over_reached files position base p (c.in-Ok.ensures.says told) head (c.requires.head told))
    (subst (λ (d : Disk). IfErr c.commits_up_to.result (IsReadRefusal (ShowsOver d.files position head p.table base))) (c.in-Ok.ensures.only_reads told).disk (c.commits_up_to.ensures.refused told))

pub returns-in-Ok-clause-only_reads : goal.returns-in-Ok-clause-only_reads
returns-in-Ok-clause-only_reads g c = reading_further g.S.Store c.args.store.now c.read_table_properties.new.store c.commits_up_to.new.store c.in-Ok.ensures.only_reads c.commits_up_to.ensures.only_reads
