use Rattle.std.proofs.Common.{◌≡◌, ◌∙◌, List, Some, ap, sym, subst, arith}
use Rattle.std.specs.Prelude.{slice_get}
use Rattle.std.proofs.lemmas.Option.{slice_get-get_or}
use Rattle.conformance.specs.declared.event.Event.{Event}
use Rattle.lake_play.specs.Playing.{PlaysAll}
use Rattle.lake_play.proofs.Plays.{drop_here, one_more}
use Rattle.lake_play.proofs.playing.play_all.Goals as goal

pub loop-event-preserved : goal.loop-event-preserved
loop-event-preserved c =
    let so_far = c.loop-event.invariant in
    let i = c.loop-event.event-index in
    let event : Event = c.event-item.result in
    let events : List Event = c.args.events.now in
    let at : slice_get events i ≡ Some event = slice_get-get_or events i event c.loop-event-test.true ∙ ap (λ (e : Event). Some e) (sym c.event-item.is) in
    let next = one_more c.args.now_ms event c.loop-event.so_far c.loop-event.store c.in_ok-so_far.so_far c.play_one.new.store c.in_ok-so_far.ensures in
    let within = so_far.within in
    record {
      plays = λ after new rest. so_far.plays after new
          (subst (λ (l : List Event). PlaysAll c.args.now_ms l c.loop-event.so_far c.loop-event.store after new) (sym (drop_here events i event at))
          (c.in_ok-so_far.so_far, c.play_one.new.store, c.in_ok-so_far.ensures, rest));
      within = omega (arith, next, within);
    }
