use Rattle.target_iceberg.proofs.target.IcebergTargetTarget.inspect.Goals as goal

pub returns-clause-seen : goal.returns-clause-seen
returns-clause-seen g c told = c.inspect.ensures.seen c.args.self.now.id c.args.self.now.location told
