use Rattle.std.proofs.Common.{◌∙◌, refl}
use Rattle.target_sync.specs.declared.status.Status.TheVariants.{Done, Memory}
use Rattle.lake_batch.specs.Whole.{why_line}
use Rattle.lake_batch.proofs.Runs.{put_nothing}
use Rattle.lake_batch.proofs.TopLaws.{cut_why, told_why}
use Rattle.lake_batch.proofs.top.tell_why.Goals as goal

pub returns-in_default : goal.returns-in_default
returns-in_default g c = (Memory, refl, put_nothing g.O.Sink c.args.out.now (why_line c.args.why) Done)

pub returns-in-Done : goal.returns-in-Done
returns-in-Done g c = told_why g.O.Sink c.args.out.now c.put_line.new.out c.args.why c.deref.result.now (c.deref.ensures.value ∙ c.in-Ok.ensures) c.put_line.result c.put_line.ensures c.in-Done.is

pub returns : goal.returns
returns g c = cut_why g.O.Sink c.args.out.now c.put_line.new.out c.args.why c.deref.result.now (c.deref.ensures.value ∙ c.in-Ok.ensures) c.put_line.result c.put_line.ensures c.in_default-put_line.not-Done
