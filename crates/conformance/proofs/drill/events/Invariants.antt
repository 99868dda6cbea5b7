use Rattle.std.proofs.Common.{◌≡◌, ℕ, ◌<◌, ◌≤◌}
use Rattle.std.specs.Prelude.{flat_map}
use Rattle.conformance.specs.Drill.{SaysDrill, SpellsDrill, numbers_under}
use Rattle.conformance.specs.Events.{commit_events, sync_points}
use Rattle.conformance.proofs.drill.events.Given as goal

abbrev pub invariant-loop-commit : goal.invariant-loop-commit
invariant-loop-commit l = record {
  events : l.events.items ≡ flat_map (commit_events l.number l.stops) (numbers_under l.commit);
  sync : l.sync ≡ sync_points l.number l.commit;
  few : l.sync ≤ 200;
  bound : l.commit ≤ 200;
  says : (i : ℕ) → i < l.commit → SaysDrill l.number i;
  spells : 0 < l.commit → SpellsDrill;
}
