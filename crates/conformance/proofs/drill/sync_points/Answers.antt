use Rattle.std.proofs.Common.{◌≡◌, ◌+◌, ◌∙◌, ap, arith}
use Rattle.conformance.specs.Events.{sync_points}
use Rattle.conformance.proofs.Syncs.{sync_few}
use Rattle.conformance.proofs.drill.sync_points.Goals as goal

pub loop-commit-preserved : goal.loop-commit-preserved
loop-commit-preserved c =
    let number = c.args.number in
    let commit = c.loop-commit.commit in
    let less = c.loop-commit-test.true in
    record {
      sync = c.next_sync-sync.ensures;
      few = let most = sync_few number (commit + 1) in let next = c.next_sync-sync.ensures in omega (arith, most, next, less);
      bound = omega (arith, less);
    }

pub returns : goal.returns
returns c =
    let so_far = c.loop-commit.invariant in
    let bound = so_far.bound in
    let past = c.loop-commit-test.false in
    let end : c.loop-commit.commit ≡ 200 = omega (arith, bound, past) in
    so_far.sync ∙ ap (sync_points c.args.number) end
