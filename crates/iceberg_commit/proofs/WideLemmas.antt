-- The values of partition columns fit a schema in Iceberg's types as they fit the schema.
use Rattle.std.proofs.Common.{ℕ, List, [], ◌∷◌, Option, Some, None, refl, sym, subst}
use Rattle.std.specs.Prelude.{option_map}
use Rattle.table_history.specs.History.{FitColumns, FitsColumn, column_type}
use Rattle.table_history.specs.TypeTree.{ColumnTrees, TypeTree}
use Rattle.table_history.specs.declared.row.PartValue.{PartValue}
use Rattle.partition_map.specs.Kind.{part_kind_of}
use Rattle.partition_map.proofs.KindLemmas.{of_same}
use Rattle.schema_map.specs.Image.{wide_columns, wide_type}
use Rattle.schema_map.proofs.Wide.{wide_column}
use Rattle.iceberg_version.proofs.BehindLemmas.{wide_part}

fits_by : (o : Option TypeTree) (v : PartValue) → FitsColumn o v → FitsColumn (option_map wide_type o) v
fits_by None v fits = fits
fits_by (Some t) v fits = of_same t (wide_type t) (part_kind_of t) refl (wide_part t) v fits

pub values_fit : (schema : ColumnTrees) (names : List (List ℕ)) (values : List PartValue) → FitColumns schema names values → FitColumns (wide_columns schema) names values
values_fit schema [] [] fit = tt
values_fit schema [] (v ∷ values) fit = absurd fit
values_fit schema (name ∷ names) [] fit = absurd fit
values_fit schema (name ∷ names) (v ∷ values) fit =
    (subst (λ (o : Option TypeTree). FitsColumn o v) (sym (wide_column schema name)) (fits_by (column_type schema name) v fit.0), values_fit schema names values fit.1)
