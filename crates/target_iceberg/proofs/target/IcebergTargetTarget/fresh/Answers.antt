use Rattle.target_iceberg.specs.KeptLemmas.{fresh_stands}
use Rattle.target_iceberg.proofs.target.IcebergTargetTarget.fresh.Goals as goal

pub returns-clause-stands : goal.returns-clause-stands
returns-clause-stands c files reads =
    let h = c.in_ok-fresh_kept.ensures in
    fresh_stands c.args.self.now.id c.args.self.now.location c.in_ok-fresh_kept.field-0 c.args.partition.now h.table h.mark h.end h.links files reads
