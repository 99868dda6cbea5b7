use Rattle.std.proofs.Common.{ap, ◌∙◌, w32}
use Rattle.std.proofs.lemmas.Int.{to_z-of_z}
use Rattle.std.specs.Prelude.{option_and_then}
use Rattle.iceberg_metadata.specs.Paths.{top_kind}
use Rattle.iceberg_columns.specs.PathMaps.{path_at}
use Rattle.iceberg_columns.proofs.partition.source_kind.Goals as goal

pub returns-in-None : goal.returns-in-None
returns-in-None c =
    ap (option_and_then (top_kind c.args.schema.now)) c.in-None.ensures
    ∙ ap (λ i. option_and_then (top_kind c.args.schema.now) (path_at c.args.paths.now i)) (to_z-of_z w32 c.args.id c.ranges.id)

pub returns-in-Some : goal.returns-in-Some
returns-in-Some c =
    c.top_kind.ensures ∙ ap (top_kind c.args.schema.now) c.as_slice.ensures ∙ ap (option_and_then (top_kind c.args.schema.now)) c.in-Some.ensures
    ∙ ap (λ i. option_and_then (top_kind c.args.schema.now) (path_at c.args.paths.now i)) (to_z-of_z w32 c.args.id c.ranges.id)
