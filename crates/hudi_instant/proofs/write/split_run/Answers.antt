use Rattle.hudi_instant.proofs.TextLemmas.{run_split}
use Rattle.hudi_instant.proofs.write.split_run.Goals as goal

pub returns : goal.returns
returns g c =
    let split = run_split g.T.InPartition.partition_of c.args.entries.now c.index-entries-0.result c.partition-partition.result.now c.run_len.result c.split_at.result.0.now c.split_at.result.1.now c.requires c.index-entries-0.is
    c.partition-partition.ensures c.run_len.ensures.len c.split_at.ensures.front c.split_at.ensures.back in record { run = split.0; shorter = split.1 }
