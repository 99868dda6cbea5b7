use Rattle.std.proofs.Common.{take}
use Rattle.lake_store.specs.Runs.{FailsBy, IsUncontestedBy, OnlyReads}
use Rattle.lake_sweep.specs.Picking.{AreParts}
use Rattle.lake_sweep.proofs.hudi.claim_paths.Given as goal

abbrev pub invariant-loop-claim : goal.invariant-loop-claim
invariant-loop-claim g l = record {
  parts : g.S.Store.tells → AreParts (g.S.Store.disk l.fn.store).files (take l.claim-index l.claims) l.paths;
  only : g.S.Store.tells → OnlyReads g.S.Store l.fn.store l.store;
  cause : FailsBy g.S.Store l.fn.store l.store ⊥;
  contest : IsUncontestedBy g.S.Store l.fn.store l.store ⊥;
}
