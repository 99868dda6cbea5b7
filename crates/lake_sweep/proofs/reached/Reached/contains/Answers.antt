use Rattle.lake_sweep.proofs.SetLaws.{key_test}
use Rattle.lake_sweep.proofs.reached.Reached.contains.Goals as goal

pub returns : goal.returns
returns c = key_test c.args.self.now.paths.keys c.args.path.now c.contains.result c.contains.ensures
