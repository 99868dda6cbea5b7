use Rattle.std.proofs.Common.{take}
use Rattle.lake_store.specs.Runs.{FailsBy, IsUncontestedBy, OnlyReads}
use Rattle.lake_sweep.specs.Reading.{HasReadVersions}
use Rattle.lake_sweep.proofs.reached.read_reached.Given as goal

abbrev pub invariant-loop-version : goal.invariant-loop-version
invariant-loop-version g l = record {
  read : g.S.Store.tells → HasReadVersions (g.S.Store.disk l.fn.store).files (take l.version-index l.versions) l.reached;
  only : g.S.Store.tells → OnlyReads g.S.Store l.fn.store l.store;
  cause : FailsBy g.S.Store l.fn.store l.store ⊥;
  contest : IsUncontestedBy g.S.Store l.fn.store l.store ⊥;
}
