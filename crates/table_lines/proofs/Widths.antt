-- A schema is as wide as its list of columns is long.
use Rattle.std.proofs.Common.{◌≡◌, List, [], ◌∷◌, length, refl, ap, ◌∙◌, add-one, ◌+◌}
use Rattle.table_history.specs.SchemaView.{columns_view}
use Rattle.table_history.specs.declared.schema.Column.{Column}
use Rattle.table_lines.specs.TableLines.{width}

pub width_is : (columns : List Column) → width (columns_view columns) ≡ length columns
width_is [] = refl
width_is (c ∷ columns) = ap (λ n. n + 1) (width_is columns) ∙ add-one (length columns)
