use Rattle.std.proofs.Common.{List, ◌++◌, map, take}
use Rattle.lake_store.specs.Runs.{FailsBy, IsUncontestedBy, OnlyReads}
use Rattle.lake_sweep.specs.Reading.{HasRead, IsAt, ListOf, list_at}
use Rattle.lake_sweep.proofs.reached.Reached.with_lists.Given as goal

abbrev pub invariant-loop-path : goal.invariant-loop-path
invariant-loop-path g l = record {
  read : g.S.Store.tells → (lists : List ListOf) → IsAt l.metadata l.fn.self → HasRead (g.S.Store.disk l.fn.store).files lists l.fn.self
      → IsAt l.metadata l.reached × HasRead (g.S.Store.disk l.fn.store).files (lists ++ map (list_at l.metadata) (take l.path-index l.paths)) l.reached;
  only : g.S.Store.tells → OnlyReads g.S.Store l.fn.store l.store;
  cause : FailsBy g.S.Store l.fn.store l.store ⊥;
  contest : IsUncontestedBy g.S.Store l.fn.store l.store ⊥;
}
