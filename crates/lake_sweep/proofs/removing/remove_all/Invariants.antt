use Rattle.lake_store.specs.Runs.{FailsBy, IsUncontestedBy}
use Rattle.lake_sweep.proofs.RemovingLaws.{IsGoneTo}
use Rattle.lake_sweep.proofs.removing.remove_all.Given as goal

abbrev pub invariant-loop-path : goal.invariant-loop-path
invariant-loop-path g l = record {
  gone : g.S.Store.tells → IsGoneTo g.S.Store l.paths l.fn.store l.path-index l.store;
  cause : FailsBy g.S.Store l.fn.store l.store ⊥;
  contest : IsUncontestedBy g.S.Store l.fn.store l.store ⊥;
}
