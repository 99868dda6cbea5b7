use Rattle.target_hudi.proofs.NameLemmas.{left_behind, plain_here}
use Rattle.target_hudi.proofs.target.table_name.Goals as goal

pub returns-in_default : goal.returns-in_default
returns-in_default c = record { plain = plain_here c.loop.name.now c.in_default.ensures.split; split = c.loop.invariant.1 }

pub loop-preserved : goal.loop-preserved
loop-preserved c =
    let more = left_behind c.args.location.now c.loop.name.now c.in-Some.behind.now c.loop.counter c.loop.invariant.1 c.loop.invariant.2 c.in-Some.ensures.split in
    (c.in-Some.ensures.text, more.0, more.1)
