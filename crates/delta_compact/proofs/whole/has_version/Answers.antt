use Rattle.std.proofs.Common.{take, drop, refl, sym, subst, ◌∙◌}
use Rattle.std.proofs.lemmas.Bool.{false≢true}
use Rattle.std.specs.FinMap as map
use Rattle.lake_store.proofs.RunLaws.{reading_begins, reading_steps}
use Rattle.delta_table.specs.Versions.{IsVersionPath}
use Rattle.delta_table.proofs.PathLaws.{missing_here}
use Rattle.delta_compact.proofs.Refused.{part_none, part_some}
use Rattle.delta_compact.proofs.whole.has_version.Goals as goal

pub returns-in-Ok-Some-clause-there : goal.returns-in-Ok-Some-clause-there
returns-in-Ok-Some-clause-there g c told =
    let files = (g.S.Store.disk c.args.store.now).files in
    let path = subst (λ p. IsVersionPath p c.args.version) (sym c.as_str.ensures.value) c.in_ok-path.ensures in
    let has = part_some (λ bytes. take 0 (drop 0 bytes)) (map.get files c.as_str.result.now) c.in-Ok-Some.field-0-0 (sym c.in-Ok-Some.field-0-is ∙ c.in-Ok-Some.ensures.bytes told) in
    ((λ yes. (has.0, record { path = c.as_str.result.now; is = path; there = has.1 })), (λ there. refl))

pub returns-in-Ok-None-clause-there : goal.returns-in-Ok-None-clause-there
returns-in-Ok-None-clause-there g c told =
    let files = (g.S.Store.disk c.args.store.now).files in
    let path = subst (λ p. IsVersionPath p c.args.version) (sym c.as_str.ensures.value) c.in_ok-path.ensures in
    let none = part_none (λ bytes. take 0 (drop 0 bytes)) (map.get files c.as_str.result.now) (sym c.in-Ok-None.field-0-is ∙ c.in-Ok-None.ensures.bytes told) in
    ((λ yes. absurd (false≢true yes)), (λ there. absurd (missing_here files c.args.version c.as_str.result.now path none there)))

pub returns-in-Err-Failed-clause-only_reads : goal.returns-in-Err-Failed-clause-only_reads
returns-in-Err-Failed-clause-only_reads g c = reading_steps g.S.Store c.args.store.now c.args.store.now c.read_part.new.self (reading_begins g.S.Store g.met.S.Store.only_now c.args.store.now) c.read_part.ensures.same c.read_part.ensures.elapses

pub returns-clause-only_reads : goal.returns-clause-only_reads
returns-clause-only_reads g c = reading_steps g.S.Store c.args.store.now c.args.store.now c.read_part.new.self (reading_begins g.S.Store g.met.S.Store.only_now c.args.store.now) c.read_part.ensures.same c.read_part.ensures.elapses

pub returns-in-Err-TooLong-clause-only_reads : goal.returns-in-Err-TooLong-clause-only_reads
returns-in-Err-TooLong-clause-only_reads g c = reading_steps g.S.Store c.args.store.now c.args.store.now c.read_part.new.self (reading_begins g.S.Store g.met.S.Store.only_now c.args.store.now) c.read_part.ensures.same c.read_part.ensures.elapses
