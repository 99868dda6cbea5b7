use Rattle.target_leftovers.proofs.NameLemmas.{manifest_at}
use Rattle.target_leftovers.proofs.names.is_manifest.Goals as goal

pub returns-in-Some : goal.returns-in-Some
returns-in-Some c = manifest_at c.args.name.now c.in-Some.numbers.now c.are_numbers.result c.in-Some.ensures c.are_numbers.ensures
