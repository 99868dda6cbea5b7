use Rattle.std.proofs.Common.{◌≡◌, ℕ, take, drop, List, ◌++◌}
use Rattle.std.specs.Option.{option_copied}
use Rattle.lake_store.specs.Runs.{FailsBy, IsUncontestedBy, OnlyReads}
use Rattle.table_history.specs.declared.limit.LimitKind.{LimitKind}
use Rattle.table_history.specs.declared.table.Commit.{Commit}
use Rattle.target_core.specs.Conditions.{CanPublishAll, Fits, GoesOn}
use Rattle.target_core.specs.OneCommit.{StaysInOwn}
use Rattle.target_core.specs.TargetMeanings.{meaning}
use Rattle.target_core.specs.Views.{IsAdvancedAll, Origin, origin_of}
use Rattle.target_core.specs.Written.{AreWritten}
use Rattle.target_core.proofs.Underway.{IsUnderWay}
use Rattle.target_core.proofs.in_order.follow.Given as goal

abbrev pub invariant-loop-commit : goal.invariant-loop-commit
invariant-loop-commit g l =
    let target = g.T.Target in
    let store = g.S.Store in
    let t = l.target in
    let start = target.view t l.fn.kept in
    let origin : Origin = origin_of l.source (option_copied l.table) in
    let i = l.commit-index in
    record {
      own : store.tells → StaysInOwn store (target.kind t) l.fn.store l.store;
      none : store.tells → i ≡ 0 → OnlyReads store l.fn.store l.store;
      view : IsAdvancedAll (target.image t) origin start (take i l.commits) (target.view t l.kept);
      source : GoesOn l.source (target.view t l.kept);
      can : CanPublishAll (target.image t) origin (target.view t l.kept) (drop i l.commits);
      fits : Fits (target.unfit t l.kept) (target.view t l.kept).table.partition (drop i l.commits);
      counted : store.tells → target.counted t l.kept (store.disk l.store).files;
      stands : store.tells → target.stands_for t l.fn.kept (store.disk l.fn.store).files → target.settled t (store.disk l.fn.store) → target.stands_for t l.kept (store.disk l.store).files;
      under_way : store.tells → target.stands_for t l.fn.kept (store.disk l.fn.store).files → target.settled t (store.disk l.fn.store)
          → IsUnderWay store (meaning target t) origin start l.commits i (target.view t l.kept) l.fn.store l.store;
      written : store.tells → target.stands_for t l.fn.kept (store.disk l.fn.store).files → target.settled t (store.disk l.fn.store)
          → AreWritten (target.stands_for t) (λ kept before commit after. target.writes t kept before origin l.now_ms commit after) l.fn.kept (store.disk l.fn.store).files (take i l.commits) l.kept (store.disk l.store).files;
      ahead : store.tells → (commits : List Commit) (which : LimitKind) (number : ℕ) → target.passes t l.kept (store.disk l.store).files origin l.now_ms commits which number
          → target.passes t l.fn.kept (store.disk l.fn.store).files origin l.now_ms (take i l.commits ++ commits) which number;
      cause : FailsBy store l.fn.store l.store ⊥;
      contest : IsUncontestedBy store l.fn.store l.store ⊥;
    }
