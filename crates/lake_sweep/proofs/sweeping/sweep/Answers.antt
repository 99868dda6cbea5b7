use Rattle.target_core.specs.TargetMeanings.{meaning}
use Rattle.lake_sweep.proofs.SweepLaws.{IsOwn, IsSafe, moments_before, reads_before, sweeps_alone}
use Rattle.lake_sweep.proofs.sweeping.sweep.Goals as goal

pub returns-clause-alone : goal.returns-clause-alone
returns-clause-alone g c told =
    sweeps_alone g.S.Store (g.T.Target.kind c.args.target.now) c.args.store.now c.remove_leftovers.new.store told (c.remove_leftovers.ensures.sweeps told)

pub returns-clause-reads : goal.returns-clause-reads
returns-clause-reads g c told view reads =
    let law = g.met.T.Target in
    let t = c.args.target.now in
    let target = meaning g.T.Target t in
    let own : IsOwn target = record { reads = λ a b v same h. law.reads_own t a b v same h; carries = λ a b n change m same h. law.carries_own t a b n change m same h } in
    let safe : IsSafe target = record { reads = λ disk image v settled left h. law.crash_reads t disk image v settled left h; carries = λ disk image v n change m settled left h le carried. law.crash_carries t disk image v n change m settled left h le carried } in
    reads_before g.S.Store target own safe c.requires.loose c.args.store.now c.remove_leftovers.new.store told (c.remove_leftovers.ensures.sweeps told) view reads

pub returns-clause-moments : goal.returns-clause-moments
returns-clause-moments g c told settled view reads =
    let law = g.met.T.Target in
    let t = c.args.target.now in
    let target = meaning g.T.Target t in
    let own : IsOwn target = record { reads = λ a b v same h. law.reads_own t a b v same h; carries = λ a b n change m same h. law.carries_own t a b n change m same h } in
    let safe : IsSafe target = record { reads = λ disk image v settled left h. law.crash_reads t disk image v settled left h; carries = λ disk image v n change m settled left h le carried. law.crash_carries t disk image v n change m settled left h le carried } in
    moments_before g.S.Store target own safe c.requires.loose c.args.store.now c.remove_leftovers.new.store told (c.remove_leftovers.ensures.sweeps told) settled view reads
