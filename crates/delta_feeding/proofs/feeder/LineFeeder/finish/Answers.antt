use Rattle.delta_feeding.proofs.StateLemmas.{whole_answer}
use Rattle.delta_feeding.proofs.feeder.LineFeeder.finish.Goals as goal

pub returns-clause-whole : goal.returns-clause-whole
returns-clause-whole c bytes is small = whole_answer bytes c.self.inside.state c.args.self c.ended_by.result c.self.view_is is small c.ended_by.ensures.ended
