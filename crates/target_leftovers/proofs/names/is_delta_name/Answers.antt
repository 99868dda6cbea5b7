use Rattle.target_leftovers.proofs.NameLemmas.{delta_at, delta_lacks}
use Rattle.target_leftovers.proofs.names.is_delta_name.Goals as goal

pub returns-in-Some : goal.returns-in-Some
returns-in-Some c = delta_at c.args.name.now c.in-Some.digits.now c.are_so_many_digits.result c.in-Some.ensures c.are_so_many_digits.ensures

pub returns-in-None : goal.returns-in-None
returns-in-None c = delta_lacks c.args.name.now c.in-None.ensures
