use Rattle.std.proofs.Common.{ap, ◌∙◌, w32}
use Rattle.std.proofs.lemmas.Int.{to_z-of_z}
use Rattle.iceberg_metadata.specs.Judging.{is_path}
use Rattle.iceberg_columns.specs.PathMaps.{path_at}
use Rattle.iceberg_columns.proofs.paths.has_path.Goals as goal

pub returns-in-None : goal.returns-in-None
returns-in-None c = ap (λ o. is_path o c.args.path.now) c.in-None.ensures ∙ ap (λ i. is_path (path_at c.args.by_id.now i) c.args.path.now) (to_z-of_z w32 c.args.id c.ranges.id)

pub returns-in-Some : goal.returns-in-Some
returns-in-Some c = c.eq.ensures ∙ ap (λ o. is_path o c.args.path.now) c.in-Some.ensures ∙ ap (λ i. is_path (path_at c.args.by_id.now i) c.args.path.now) (to_z-of_z w32 c.args.id c.ranges.id)
