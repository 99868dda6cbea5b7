use Rattle.std.proofs.Common.{ap, sym, ◌∙◌, w64, rules}
use Rattle.std.proofs.lemmas.Int.{to_z-of_z}
use Rattle.iceberg_ancestry.specs.ById.{taken_of, value_at}
use Rattle.iceberg_ancestry.proofs.ancestors.take.Goals as goal

pub returns-in-Some-clause-taken : goal.returns-in-Some-clause-taken
returns-in-Some-clause-taken c = c.take_id.ensures.taken ∙ ap (value_at c.args.left.now) (to_z-of_z w64 c.in-Some.id (search rules)) ∙ ap (taken_of c.args.left.now) (sym c.in-Some.is)
