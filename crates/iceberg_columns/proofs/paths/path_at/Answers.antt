use Rattle.std.proofs.Common.{ap, ◌∙◌, option_map, Bor, w32}
use Rattle.std.proofs.lemmas.Int.{to_z-of_z}
use Rattle.schema_map.specs.Paths.{Path}
use Rattle.iceberg_columns.specs.PathMaps.{path_at}
use Rattle.iceberg_columns.proofs.paths.path_at.Goals as goal

pub returns-in-None : goal.returns-in-None
returns-in-None c = ap (option_map (λ (p : Bor Path). p.now)) c.in-None.ensures.value ∙ ap (path_at c.args.by_id.now) (to_z-of_z w32 c.args.id c.ranges.id)

pub returns-in-Some : goal.returns-in-Some
returns-in-Some c = ap (option_map (λ (p : Bor Path). p.now)) c.in-Some.ensures.value ∙ ap (path_at c.args.by_id.now) (to_z-of_z w32 c.args.id c.ranges.id)
