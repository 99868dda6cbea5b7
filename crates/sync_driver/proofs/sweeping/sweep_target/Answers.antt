use Rattle.sync_driver.proofs.SweepEnds.{no_cause, sweep_ends}
use Rattle.target_sync.specs.Targets.{target_facts}
use Rattle.sync_driver.proofs.sweeping.sweep_target.Goals as goal

pub returns : goal.returns
returns g c =
    let facts = target_facts g.T.Target c.args.target.now in
    let old = c.args.store.now in
    let sweep = c.sweep-answer.ensures in
    record {
      answer = c.sweep-answer.result;
      sweep = record {
        swept = sweep.swept;
        none = sweep.none;
        sweeps = sweep.sweeps;
        alone = sweep.alone;
        reads = sweep.reads;
        moments = sweep.moments;
        known = sweep.known;
        readable = sweep.readable;
        refused = sweep.refused;
        early = sweep.early;
        fault = sweep.cause;
        contest = sweep.contest;
      };
      told = rw c.kind.ensures at c.put_sweep.ensures;
      complete = λ tells known few read no_fault no_sink.
          sweep_ends g.O.Sink c.args.out.now c.put_sweep.new.out c.put_sweep.result _ facts.files.kind c.sweep-answer.result _
          (no_cause facts (g.met.T.Target.not_foreign c.args.target.now) (g.S.Store.disk old).files known few read)
          (sweep.refused tells) (λ is. no_fault (sweep.cause.rose is)) (rw c.kind.ensures at c.put_sweep.ensures) no_sink;
    }
