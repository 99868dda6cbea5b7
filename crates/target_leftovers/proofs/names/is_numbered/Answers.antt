use Rattle.target_leftovers.proofs.NameLemmas.{numbered_at}
use Rattle.target_leftovers.proofs.names.is_numbered.Goals as goal

pub returns-in-Some : goal.returns-in-Some
returns-in-Some c = numbered_at c.args.name.now c.args.front.now c.args.behind.now c.in-Some.number.now c.is_decimal.result c.in-Some.ensures c.is_decimal.ensures
