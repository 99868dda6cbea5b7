use Rattle.std.proofs.Common.{◌≡◌, None, Some, Err, inl, inr, refl, sym, ap, subst}
use Rattle.lake_store.specs.Disk.{Disk}
use Rattle.source_core.specs.declared.error.SourceError.{SourceError}
use Rattle.source_core.specs.declared.error.SourceError.TheVariants.{StoreFault}
use Rattle.sync_driver.specs.Lines.{pending_line, refusal_line}
use Rattle.sync_driver.specs.Shown.{shown_status, shown_text}
use Rattle.target_sync.specs.Sources.{source_meaning}
use Rattle.sync_driver.specs.Tellings.{Tells}
use Rattle.target_sync.specs.declared.status.Status.{Status}
use Rattle.target_sync.specs.declared.status.Status.TheVariants.{Done}
use Rattle.target_sync.proofs.Counting.{fails_as}
use Rattle.sync_driver.proofs.Saying.{told_alone, told_behind}
use Rattle.sync_driver.proofs.Shows.{show_behind, show_none, shows}
use Rattle.sync_driver.proofs.showing.show.Goals as goal

pub show_table-requires : goal.show_table-requires
show_table-requires g c = record { head = λ told. subst (λ (d : Disk). g.F.Source.is_head c.args.source.now d.files c.in-Ok.head) (sym (c.in-Ok.ensures.only_reads told).disk) (c.in-Ok.ensures.head told).1 }

pub returns-in-Err : goal.returns-in-Err
returns-in-Err g c =
    let store = g.S.Store in
    let meaning = source_meaning g.F.Source c.args.source.now in
    let old = c.args.store.now in
    let new = c.head.new.store in
    let e : SourceError = c.in-Err.error in
    shows store g.O.Sink meaning old new c.args.out.now c.refuse.new.out c.refuse.result None (Some (Err e))
    (record {
      reads = c.in-Err.ensures.only_reads;
      cause = fails_as store.faults store.may_fail old new _ (Some (Err e) ≡ Some (Err StoreFault)) (λ is. let same : e ≡ StoreFault = cc is in ap (λ (x : SourceError). Err x) same) c.in-Err.ensures.cause;
      contest = c.in-Err.ensures.contest;
      shown = λ told. inl (c.in-Err.ensures.head told);
    })
    (λ told. inr (refl, (e, c.in-Err.ensures.head told, refl)))
    (subst (λ (s : Status). Tells g.O.Sink c.args.out.now c.refuse.new.out (refusal_line s) s c.refuse.result) c.status_of_source.ensures c.refuse.ensures)
    (λ none. absurd (cc none))

pub returns-in-Ok-put_pending : goal.returns-in-Ok-put_pending
returns-in-Ok-put_pending g c =
    let store = g.S.Store in
    let meaning = source_meaning g.F.Source c.args.source.now in
    let old = c.args.store.now in
    let head = c.in-Ok.head in
    let shown = c.show_table.ensures in
    shows store g.O.Sink meaning old c.show_table.new.store c.args.out.now c.show_table.new.out c.show_table.result head.pending (Some shown.0)
    (show_behind store meaning old c.head.new.store c.show_table.new.store c.in-Ok.ensures.only_reads _ _ c.in-Ok.ensures.cause c.in-Ok.ensures.contest (Some shown.0) shown.1)
    (λ told. inl (head, (c.in-Ok.ensures.head told).1, refl))
    (told_behind g.O.Sink c.args.out.now c.put_pending.new.out c.show_table.new.out (pending_line head.pending) (shown_text (Some shown.0)) (shown_status (Some shown.0)) c.show_table.result c.in-Ok-put_pending.ensures shown.3)
    (λ none. absurd (cc none))

pub returns : goal.returns
returns g c =
    let store = g.S.Store in
    let meaning = source_meaning g.F.Source c.args.source.now in
    let old = c.args.store.now in
    let head = c.in-Ok.head in
    shows store g.O.Sink meaning old c.head.new.store c.args.out.now c.put_pending.new.out c.in-Err-put_pending.cut head.pending None
    (show_none store meaning old c.head.new.store c.in-Ok.ensures.only_reads _ c.in-Ok.ensures.cause c.in-Ok.ensures.contest)
    (λ told. inl (head, (c.in-Ok.ensures.head told).1, refl))
    (told_alone g.O.Sink c.args.out.now c.put_pending.new.out (pending_line head.pending) Done c.in-Err-put_pending.cut c.in-Err-put_pending.ensures.0)
    (λ none. c.in-Err-put_pending.ensures.1)
