use Rattle.std.proofs.Common.{◌∙◌, ap, subst, sym}
use Rattle.std.specs.Prelude.{IfErr}
use Rattle.std.proofs.lemmas.Result.{err_from_is_err_and}
use Rattle.lake_store.proofs.RunLaws.{reading_begins}
use Rattle.hudi_table.specs.Instants.{up_to_head}
use Rattle.source_core.specs.Answers.{IsReadRefusal}
use Rattle.source_hudi.specs.Since.{ShowsSince}
use Rattle.source_hudi.proofs.Later.{not_reached, position_reached}
use Rattle.source_hudi.proofs.SinceRefusals.{at_reached}
use Rattle.source_hudi.proofs.since.since.Goals as goal

pub returns-then-not-has_time-clause-since : goal.returns-then-not-has_time-clause-since
returns-then-not-has_time-clause-since g c told =
    not_reached (g.S.Store.disk c.args.store.now).files c.args.position.now c.up_to_head.result.now (c.up_to_head.ensures ∙ ap up_to_head (c.requires.timeline told)) c.if-not-has_time.ensures

pub returns-then-not-has_time-clause-only_reads : goal.returns-then-not-has_time-clause-only_reads
returns-then-not-has_time-clause-only_reads g c = reading_begins g.S.Store g.met.S.Store.only_now c.args.store.now

pub returns-in_err-commits-clause-refused : goal.returns-in_err-commits-clause-refused
returns-in_err-commits-clause-refused g c told =
    let files = (g.S.Store.disk c.args.store.now).files in
    let position = c.args.position.now in
    let base = c.args.base.now in
    let exit = err_from_is_err_and c.from_residual.result c.from_residual.ensures.1 in
    let at = position_reached files position c.up_to_head.result.now (c.up_to_head.ensures ∙ ap up_to_head (c.requires.timeline told)) c.if-not-has_time.ensures in
    subst (λ r. IfErr r (IsReadRefusal (ShowsSince files position base))) (sym exit.1)
    (subst (IsReadRefusal (ShowsSince files position base)) (sym exit.2) (at_reached files position base at c.in_err-commits.field-0.0 (c.in_err-commits.ensures.refused told)))

pub returns-clause-since : goal.returns-clause-since
returns-clause-since g c told =
    (position_reached (g.S.Store.disk c.args.store.now).files c.args.position.now c.up_to_head.result.now (c.up_to_head.ensures ∙ ap up_to_head (c.requires.timeline told)) c.if-not-has_time.ensures, c.in_ok-commits.ensures.made told)
