use Rattle.std.proofs.Common.{◌≡◌, Option, ap, subst, ◌∙◌, rules, w32}
use Rattle.std.proofs.lemmas.Int.{to_z-of_z}
use Rattle.std.specs.Prelude.{IfOk, option_and_then}
use Rattle.iceberg_columns.specs.PathMaps.{path_at}
use Rattle.iceberg_columns.specs.SourceColumns.{top_column}
use Rattle.iceberg_columns.specs.declared.columns.SourceColumn.{SourceColumn}
use Rattle.iceberg_columns.proofs.columns.column_at.Goals as goal

pub returns-in-None : goal.returns-in-None
returns-in-None c =
    let top = top_column c.args.schema.now c.args.field.now in
    ap (option_and_then top) c.in-None.ensures ∙ ap (λ i. option_and_then top (path_at c.args.paths.now i)) (to_z-of_z w32 c.args.field.now.source_id (search rules))

pub returns-in-Some : goal.returns-in-Some
returns-in-Some c =
    let top = top_column c.args.schema.now c.args.field.now in
    let same = ap top c.as_slice.ensures ∙ ap (option_and_then top) c.in-Some.ensures ∙ ap (λ i. option_and_then top (path_at c.args.paths.now i)) (to_z-of_z w32 c.args.field.now.source_id (search rules)) in
    subst (λ (o : Option SourceColumn). IfOk c.top_column.result (λ column. column ≡ o)) same c.top_column.ensures
