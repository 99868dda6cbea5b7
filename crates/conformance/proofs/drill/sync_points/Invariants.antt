use Rattle.std.proofs.Common.{◌≡◌, ◌≤◌}
use Rattle.conformance.specs.Events.{sync_points}
use Rattle.conformance.proofs.drill.sync_points.Given as goal

abbrev pub invariant-loop-commit : goal.invariant-loop-commit
invariant-loop-commit l = record {
  sync : l.sync ≡ sync_points l.number l.commit;
  few : l.sync ≤ 200;
  bound : l.commit ≤ 200;
}
