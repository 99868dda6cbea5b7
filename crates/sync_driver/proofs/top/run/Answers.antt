use Rattle.std.proofs.Common.{refl, subst}
use Rattle.sync_driver.specs.Forms.{Spells, word}
use Rattle.sync_driver.specs.declared.words.Form.{Form}
use Rattle.sync_driver.proofs.Commands.{check_command, compact_command, drill_command, full_apart, full_command, no_command, show_command, sweep_command, sync_apart, sync_command}
use Rattle.sync_driver.proofs.Locations.{place_ends}
use Rattle.sync_driver.proofs.top.run.Goals as goal

pub returns-in_default : goal.returns-in_default
returns-in_default g c = no_command g.S.Store g.O.Sink _ _ c.args.words.now c.args.store.now c.args.store.now c.args.out.now c.refuse.new.out c.refuse.result c.in_default.ensures c.refuse.ensures refl

pub returns-in-Show : goal.returns-in-Show
returns-in-Show g c =
    show_command g.S.Store g.O.Sink _ _ c.args.words.now c.args.store.now c.print.new.store c.args.out.now c.print.new.out c.print.result c.in-Some.command.location.now c.in-Some.command.form c.in-Some.ensures
    c.in-Show.source c.in-Show.is c.print.ensures

pub bring-requires-clause-location : goal.bring-requires-clause-location
bring-requires-clause-location g c front is = place_ends (word c.args.words.now 0) c.in-Some.command.location.now c.in-Some.ensures.0.0 front is

pub bring-requires-clause-apart : goal.bring-requires-clause-apart
bring-requires-clause-apart g c = sync_apart c.args.words.now c.in-Sync.source c.in-Sync.first c.in-Sync.second (subst (λ (f : Form). Spells c.args.words.now f) c.in-Sync.is c.in-Some.ensures.1)

pub returns-in-Sync : goal.returns-in-Sync
returns-in-Sync g c =
    sync_command g.S.Store g.O.Sink _ _ c.args.words.now c.args.store.now c.bring.new.store c.args.out.now c.bring.new.out c.bring.result c.in-Some.command.location.now c.in-Some.command.form c.in-Some.ensures
    c.in-Sync.source c.in-Sync.first c.in-Sync.second c.in-Sync.is (c.now_ms.result, c.now_ms.ensures.given, c.bring.ensures)

pub bring-requires-in-Full-clause-location : goal.bring-requires-in-Full-clause-location
bring-requires-in-Full-clause-location g c front is = place_ends (word c.args.words.now 0) c.in-Some.command.location.now c.in-Some.ensures.0.0 front is

pub bring-requires-in-Full-clause-apart : goal.bring-requires-in-Full-clause-apart
bring-requires-in-Full-clause-apart g c = full_apart c.args.words.now c.in-Full.source c.in-Full.first c.in-Full.second (subst (λ (f : Form). Spells c.args.words.now f) c.in-Full.is c.in-Some.ensures.1)

pub returns-in-Full : goal.returns-in-Full
returns-in-Full g c =
    full_command g.S.Store g.O.Sink _ _ c.args.words.now c.args.store.now c.bring-in-Full.new.store c.args.out.now c.bring-in-Full.new.out c.bring-in-Full.result c.in-Some.command.location.now c.in-Some.command.form c.in-Some.ensures
    c.in-Full.source c.in-Full.first c.in-Full.second c.in-Full.is (c.now_ms-in-Full.result, c.now_ms-in-Full.ensures.given, c.bring-in-Full.ensures)

pub compare-requires : goal.compare-requires
compare-requires g c = record { location = λ front is. place_ends (word c.args.words.now 0) c.in-Some.command.location.now c.in-Some.ensures.0.0 front is }

pub returns-in-Check : goal.returns-in-Check
returns-in-Check g c =
    check_command g.S.Store g.O.Sink _ _ c.args.words.now c.args.store.now c.compare.new.store c.args.out.now c.compare.new.out c.compare.result c.in-Some.command.location.now c.in-Some.command.form c.in-Some.ensures
    c.in-Check.source c.in-Check.target c.in-Check.is c.compare.ensures

pub sweep_at-requires : goal.sweep_at-requires
sweep_at-requires g c = record { location = λ front is. place_ends (word c.args.words.now 0) c.in-Some.command.location.now c.in-Some.ensures.0.0 front is }

pub returns-in-Sweep : goal.returns-in-Sweep
returns-in-Sweep g c =
    sweep_command g.S.Store g.O.Sink _ _ c.args.words.now c.args.store.now c.sweep_at.new.store c.args.out.now c.sweep_at.new.out c.sweep_at.result c.in-Some.command.location.now c.in-Some.command.form c.in-Some.ensures
    c.in-Sweep.target c.in-Sweep.is c.sweep_at.ensures

pub returns-in-Compact : goal.returns-in-Compact
returns-in-Compact g c =
    compact_command g.S.Store g.O.Sink _ _ c.args.words.now c.args.store.now c.compact_log.new.store c.args.out.now c.compact_log.new.out c.compact_log.result c.in-Some.command.location.now c.in-Some.command.form c.in-Some.ensures
    c.in-Compact.is c.compact_log.ensures

pub returns-in-Drill : goal.returns-in-Drill
returns-in-Drill g c =
    drill_command g.S.Store g.O.Sink _ _ c.args.words.now c.args.store.now c.args.store.now c.args.out.now c.play_drill.new.out c.play_drill.result c.in-Some.command.location.now c.in-Some.command.form c.in-Some.ensures
    c.in-Drill.number c.in-Drill.is (refl, c.play_drill.ensures)
