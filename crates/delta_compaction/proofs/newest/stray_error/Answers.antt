use Rattle.delta_compaction.proofs.NewestLemmas.{stray_refused, stray_told}
use Rattle.delta_compaction.proofs.newest.stray_error.Goals.{in-Ok, in-Err}
use Rattle.delta_compaction.proofs.newest.stray_error.Goals as goal

pub returns : goal.returns
returns c =
    elim c.match-read_commit.branch [
      | in-Ok w ↦ rw w.result-is (λ bytes at. stray_told bytes c.args.line c.args.front.now at _ w.in-Ok.ensures.found)
      | in-Err w ↦ rw w.result-is (λ bytes at. stray_refused bytes c.args.line c.args.front.now at _ w.in-Err.ensures.fault)
    ]
