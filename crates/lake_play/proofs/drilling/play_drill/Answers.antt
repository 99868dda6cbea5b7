use Rattle.std.proofs.Common.{List, subst, sym, ◌∙◌}
use Rattle.std.proofs.lemmas.Result.{on_ok_weaker}
use Rattle.conformance.specs.Histories.{AreLegal}
use Rattle.conformance.specs.declared.event.Event.{Event}
use Rattle.lake_play.proofs.Drills.{IsPlayedSo, first_end, leaves, played_through}
use Rattle.lake_play.proofs.Reading.{if_err_weaker, on_ok_of}
use Rattle.lake_play.proofs.drilling.play_drill.Goals as goal

pub returns-in-Ok-play-clause-played : goal.returns-in-Ok-play-clause-played
returns-in-Ok-play-clause-played c =
    let legal : AreLegal c.as_slice.result.now = subst AreLegal (sym c.as_slice.ensures) c.in-Ok.ensures.legal in
    let plays = c.in-Ok-play.ensures in
    let played = subst (λ (l : List Event). IsPlayedSo l c.args.store.now c.play.new.store c.in-Ok-play.answers) (c.as_slice.ensures ∙ c.in-Ok.ensures.events) (record {
      legal = legal;
      after = plays.plays.0;
      told = plays.plays.1;
      plays = plays.plays.2;
      sum = plays.answered;
      log = plays.log legal.order c.requires.fresh;
      stand = plays.stand legal.order c.requires.fresh;
      once = plays.once legal.order c.requires.fresh;
      caused = λ history is. plays.caused legal.order c.requires.fresh history is plays.plays.0 plays.plays.1 plays.plays.2;
    }) in
    on_ok_weaker c.refusal_of.result (played_through c.args.number c.args.store.now c.play.new.store c.in-Ok-play.answers played c.requires.fresh c.requires.unscripted) c.refusal_of.ensures.ended

pub returns-in-Ok-play-clause-leaves : goal.returns-in-Ok-play-clause-leaves
returns-in-Ok-play-clause-leaves c =
    let legal : AreLegal c.as_slice.result.now = subst AreLegal (sym c.as_slice.ensures) c.in-Ok.ensures.legal in
    let plays = c.in-Ok-play.ensures in
    let played = subst (λ (l : List Event). IsPlayedSo l c.args.store.now c.play.new.store c.in-Ok-play.answers) (c.as_slice.ensures ∙ c.in-Ok.ensures.events) (record {
      legal = legal;
      after = plays.plays.0;
      told = plays.plays.1;
      plays = plays.plays.2;
      sum = plays.answered;
      log = plays.log legal.order c.requires.fresh;
      stand = plays.stand legal.order c.requires.fresh;
      once = plays.once legal.order c.requires.fresh;
      caused = λ history is. plays.caused legal.order c.requires.fresh history is plays.plays.0 plays.plays.1 plays.plays.2;
    }) in
    on_ok_weaker c.refusal_of.result (leaves c.args.number c.args.store.now c.play.new.store c.in-Ok-play.answers played c.requires.fresh c.requires.unscripted) c.refusal_of.ensures.ended

pub returns-in-Ok-play-clause-refused : goal.returns-in-Ok-play-clause-refused
returns-in-Ok-play-clause-refused c =
    let legal : AreLegal c.as_slice.result.now = subst AreLegal (sym c.as_slice.ensures) c.in-Ok.ensures.legal in
    let plays = c.in-Ok-play.ensures in
    let played = subst (λ (l : List Event). IsPlayedSo l c.args.store.now c.play.new.store c.in-Ok-play.answers) (c.as_slice.ensures ∙ c.in-Ok.ensures.events) (record {
      legal = legal;
      after = plays.plays.0;
      told = plays.plays.1;
      plays = plays.plays.2;
      sum = plays.answered;
      log = plays.log legal.order c.requires.fresh;
      stand = plays.stand legal.order c.requires.fresh;
      once = plays.once legal.order c.requires.fresh;
      caused = λ history is. plays.caused legal.order c.requires.fresh history is plays.plays.0 plays.plays.1 plays.plays.2;
    }) in
    if_err_weaker c.refusal_of.result (λ e refused. first_end c.args.number c.args.store.now c.play.new.store c.in-Ok-play.answers played c.requires.fresh c.requires.unscripted c.in-Ok.ensures.said e refused) c.refusal_of.ensures.refused

pub returns-in-Ok-play-clause-said : goal.returns-in-Ok-play-clause-said
returns-in-Ok-play-clause-said c = on_ok_of c.refusal_of.result c.in-Ok.ensures.said
