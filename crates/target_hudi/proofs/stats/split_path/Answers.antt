use Rattle.target_hudi.proofs.StatLemmas.{none_found, split_found}
use Rattle.target_hudi.proofs.stats.split_path.Goals as goal

pub returns-in-Some-clause-folder : goal.returns-in-Some-clause-folder
returns-in-Some-clause-folder c = (split_found c.args.path.now c.in-Some.folder.now c.in-Some.name.now c.in-Some.ensures.cases).0

pub returns-in-Some-clause-name : goal.returns-in-Some-clause-name
returns-in-Some-clause-name c = (split_found c.args.path.now c.in-Some.folder.now c.in-Some.name.now c.in-Some.ensures.cases).1

pub returns-in-None-clause-folder : goal.returns-in-None-clause-folder
returns-in-None-clause-folder c = (none_found c.args.path.now c.in-None.ensures.cases).0

pub returns-in-None-clause-name : goal.returns-in-None-clause-name
returns-in-None-clause-name c = (none_found c.args.path.now c.in-None.ensures.cases).1
