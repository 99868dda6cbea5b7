use Rattle.std.proofs.Common.{ap, ◌∙◌, rules, w32}
use Rattle.std.proofs.lemmas.Int.{to_z-of_z}
use Rattle.std.specs.Prelude.{is_none, option_and_then}
use Rattle.iceberg_metadata.specs.Paths.{top_kind}
use Rattle.iceberg_columns.specs.PathMaps.{path_at}
use Rattle.iceberg_columns.proofs.partition.lacks_kind.Goals as goal

pub returns-in-None : goal.returns-in-None
returns-in-None c =
    ap is_none c.in-None.ensures ∙ ap (λ i. is_none (option_and_then (top_kind c.args.schema.now) (path_at c.args.paths.now i))) (to_z-of_z w32 c.args.field.now.source_id (search rules))

pub returns-in-Some : goal.returns-in-Some
returns-in-Some c =
    ap is_none c.in-Some.ensures ∙ ap (λ i. is_none (option_and_then (top_kind c.args.schema.now) (path_at c.args.paths.now i))) (to_z-of_z w32 c.args.field.now.source_id (search rules))
