use Rattle.sync_driver.proofs.SweepEnds.{compaction_ends}
use Rattle.sync_driver.proofs.compacting.compact_log.Goals as goal

pub returns : goal.returns
returns g c =
    let compaction = c.compact-answer.ensures in
    record {
      answer = c.compact-answer.result;
      compaction = record {
        done = compaction.done;
        compacts = compaction.compacts;
        stale = compaction.stale;
        refused = compaction.refused;
        early = compaction.early;
        fault = compaction.cause;
        contest = compaction.contest;
      };
      told = c.put_compaction.ensures;
      complete = λ tells never no_fault no_contest no_sink.
          compaction_ends g.O.Sink c.args.out.now c.put_compaction.new.out c.put_compaction.result _ c.compact-answer.result _ never
          (compaction.refused tells) (λ is. no_fault (compaction.cause.rose is)) (λ is. no_contest (compaction.contest.rose is)) c.put_compaction.ensures no_sink;
    }
