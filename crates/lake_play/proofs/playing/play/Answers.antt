use Rattle.std.proofs.Common.{◌≤◌, ◌^◌, length, refl, arith}
use Rattle.conformance.specs.Histories.{extensions}
use Rattle.lake_play.specs.Playing.{nothing_played}
use Rattle.lake_play.proofs.Causing.{caused_after}
use Rattle.lake_play.proofs.EachOnce.{once_after}
use Rattle.lake_play.proofs.Plays.{counts, few_commits, log_after, stand_after}
use Rattle.lake_play.proofs.playing.play.Goals as goal

pub returns-clause-plays : goal.returns-clause-plays
returns-clause-plays c = (c.in_ok-end.end, refl, c.in_ok-end.ensures.plays)

pub returns-clause-answered : goal.returns-clause-answered
returns-clause-answered c = let all = counts c.args.now_ms c.args.events.now nothing_played c.args.store.now c.in_ok-end.end c.play_all.new.store c.in_ok-end.ensures.plays in omega (arith, all)

pub returns-clause-stand : goal.returns-clause-stand
returns-clause-stand c order fresh history is =
    let most = c.play_all.ensures.few in
    let commits = few_commits c.args.events.now in
    let few : length (extensions c.args.events.now) ≤ 2 ^ 64 = omega (arith, most, commits) in
    stand_after c.args.now_ms c.args.events.now c.args.store.now c.in_ok-end.end c.play_all.new.store few c.in_ok-end.ensures.plays order fresh history is

pub returns-clause-caused : goal.returns-clause-caused
returns-clause-caused c order fresh history is after told plays =
    let most = c.play_all.ensures.few in
    let commits = few_commits c.args.events.now in
    let few : length (extensions c.args.events.now) ≤ 2 ^ 64 = omega (arith, most, commits) in
    caused_after c.args.now_ms c.args.events.now c.args.store.now after c.play_all.new.store few plays order fresh history is

pub returns-clause-log : goal.returns-clause-log
returns-clause-log c order fresh history is =
    let most = c.play_all.ensures.few in
    let commits = few_commits c.args.events.now in
    let few : length (extensions c.args.events.now) ≤ 2 ^ 64 = omega (arith, most, commits) in
    log_after c.args.now_ms c.args.events.now c.args.store.now c.in_ok-end.end c.play_all.new.store few c.in_ok-end.ensures.plays order fresh history is

pub returns-clause-once : goal.returns-clause-once
returns-clause-once c order fresh history is =
    let most = c.play_all.ensures.few in
    let commits = few_commits c.args.events.now in
    let few : length (extensions c.args.events.now) ≤ 2 ^ 64 = omega (arith, most, commits) in
    once_after c.args.now_ms c.args.events.now c.args.store.now c.in_ok-end.end c.play_all.new.store few c.in_ok-end.ensures.plays order fresh history is
