use Rattle.std.proofs.Common.{ap, ◌∙◌, option_map, Bor, w64}
use Rattle.std.proofs.lemmas.Int.{to_z-of_z}
use Rattle.iceberg_metadata.specs.declared.metadata.Snapshot.{Snapshot}
use Rattle.iceberg_ancestry.specs.ById.{value_at}
use Rattle.iceberg_ancestry.proofs.ancestors.take_id.Goals as goal

pub returns-clause-taken : goal.returns-clause-taken
returns-clause-taken c = ap (option_map (λ (s : Bor Snapshot). s.now)) c.remove.ensures.value ∙ ap (value_at c.args.left.now) (to_z-of_z w64 c.args.id c.ranges.id)
