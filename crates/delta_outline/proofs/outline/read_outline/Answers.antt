use Rattle.delta_outline.proofs.OutlineLemmas.{found_by, refused_by}
use Rattle.delta_outline.proofs.outline.read_outline.Goals as goal

pub returns-clause-found : goal.returns-clause-found
returns-clause-found c = found_by c.args.text.now c.outline_of_text.result c.outline_of_text.ensures

pub returns-clause-refused : goal.returns-clause-refused
returns-clause-refused c = refused_by c.args.text.now c.outline_of_text.result c.outline_of_text.ensures
