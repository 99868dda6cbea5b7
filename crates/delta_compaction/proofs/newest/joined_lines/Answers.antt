use Rattle.delta_compaction.proofs.NewestLemmas.{next_lines, next_refused, next_taken}
use Rattle.delta_compaction.proofs.newest.joined_lines.Goals as goal

pub returns-in-Err-clause-refused : goal.returns-in-Err-clause-refused
returns-in-Err-clause-refused c =
    let refused = rw c.as_slice.ensures.value at c.in-Err.ensures.refused in
    next_refused c.args.commits.now c.loop-index.index _ c.loop-index-test.true c.index-commits-index.is c.loop-index.invariant.taken c.in-Err.error refused _ c.error_at.ensures

pub loop-index-preserved : goal.loop-index-preserved
loop-index-preserved c =
    let lines = rw c.as_slice.ensures.value at c.in-Ok.ensures.lines in
    let taken = rw c.as_slice.ensures.value at c.in-Ok.ensures.taken in
    record {
      lines = next_lines c.args.commits.now c.loop-index.index _ c.loop-index-test.true c.index-commits-index.is _ _ c.loop-index.invariant.lines lines;
      taken = next_taken c.args.commits.now c.loop-index.index _ c.loop-index-test.true c.index-commits-index.is c.loop-index.invariant.taken taken;
    }
