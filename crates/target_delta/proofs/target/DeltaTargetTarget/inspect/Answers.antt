use Rattle.target_delta.proofs.target.DeltaTargetTarget.inspect.Goals as goal

pub returns-clause-seen : goal.returns-clause-seen
returns-clause-seen g c told = c.inspect.ensures.seen c.args.self.now.id told
