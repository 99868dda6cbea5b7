use Rattle.std.proofs.Common.{arith}
use Rattle.partition_map.proofs.FolderLemmas.{last_is}
use Rattle.partition_map.proofs.folder.last_components.Goals as goal

pub returns-clause-value : goal.returns-clause-value
returns-clause-value c =
    let parts = c.in_ok-components.components in
    last_is c.args.path.now c.args.count parts.items c.in_ok-last.last.items c.len-2.result c.in_ok-components.ensures (omega (arith, parts.ok.0, c.len-2.ensures)) (omega (arith, c.len.ensures, c.len-2.ensures)) c.in_ok-last.ensures.tail
