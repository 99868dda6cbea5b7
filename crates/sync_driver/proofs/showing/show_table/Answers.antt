use Rattle.std.proofs.Common.{◌≡◌, Some, Err, inr, ap, subst}
use Rattle.std.specs.Prelude.{IfOk}
use Rattle.source_core.specs.declared.error.SourceError.{SourceError}
use Rattle.source_core.specs.declared.error.SourceError.TheVariants.{StoreFault}
use Rattle.table_history.specs.declared.kind.Kind.{Kind}
use Rattle.table_lines.specs.TableLines.{AreTableLines}
use Rattle.sync_driver.specs.Lines.{refusal_line}
use Rattle.target_sync.specs.Sources.{source_meaning}
use Rattle.sync_driver.specs.Tellings.{Tells}
use Rattle.target_sync.specs.declared.status.Status.{Status}
use Rattle.target_sync.proofs.Counting.{fails_as}
use Rattle.sync_driver.proofs.Shows.{memory_refused, show_of}
use Rattle.sync_driver.proofs.showing.show_table.Goals as goal

pub returns-in-Ok : goal.returns-in-Ok
returns-in-Ok g c =
    let store = g.S.Store in
    let f = c.args.source.now in
    let meaning = source_meaning g.F.Source f in
    let old = c.args.store.now in
    let put = c.put_table.ensures in (
      put.0,
      show_of store meaning old c.whole.new.store c.args.head.now c.requires.head c.in-Ok.table c.in-Ok.ensures.table c.in-Ok.ensures.only_reads _ c.in-Ok.ensures.cause c.in-Ok.ensures.contest put.0
          (subst (λ (k : Kind). IfOk put.0 (AreTableLines k c.args.head.now.position c.in-Ok.table)) c.kind.ensures put.1) put.2,
      (λ told. memory_refused meaning (store.disk old).files put.0 put.2),
      put.3,
    )

pub returns-in-Err : goal.returns-in-Err
returns-in-Err g c =
    let store = g.S.Store in
    let f = c.args.source.now in
    let meaning = source_meaning g.F.Source f in
    let old = c.args.store.now in
    let new = c.whole.new.store in
    let e : SourceError = c.in-Err.error in (
      Err e,
      record {
        reads = c.in-Err.ensures.only_reads;
        cause = fails_as store.faults store.may_fail old new _ (Some (Err e) ≡ Some (Err StoreFault)) (λ is. let same : e ≡ StoreFault = cc is in ap (λ (x : SourceError). Err x) same) c.in-Err.ensures.cause;
        contest = c.in-Err.ensures.contest;
        shown = λ told. inr (c.args.head.now, c.requires.head told, c.in-Err.ensures.refused told);
      },
      c.in-Err.ensures.refused,
      subst (λ (s : Status). Tells g.O.Sink c.args.out.now c.refuse.new.out (refusal_line s) s c.refuse.result) c.status_of_source.ensures c.refuse.ensures,
    )
