-- The Image in wider types keeps names and sizes, and widens the type of each column.
use Rattle.std.proofs.Common.{◌≡◌, ℕ, ◌+◌, Bool, true, false, cond, List, not, ◌&&◌, ◌||◌, Option, Some, refl, ap, ◌∙◌, max}
use Rattle.std.specs.Prelude.{option_map}
use Rattle.std.specs.Str.{bytes_eq}
use Rattle.table_history.specs.History.{column_type}
use Rattle.table_history.specs.TypeTree as tree
use Rattle.table_history.specs.TypeTree.{TypeTree, ColumnTrees, no_columns, column}
use Rattle.schema_map.specs.Image.{wide_type, wide_columns}
use Rattle.table_history.specs.SchemaSize.{levels, column_levels, inner_count, column_count, IsWithinLimits}
use Rattle.table_history.specs.Sound.{is_named, have_own_names}

mutual
  levels_wide : (t : TypeTree) → levels (wide_type t) ≡ levels t
  levels_wide tree.boolean = refl
  levels_wide tree.byte = refl
  levels_wide tree.short = refl
  levels_wide tree.int = refl
  levels_wide tree.long = refl
  levels_wide tree.float = refl
  levels_wide tree.double = refl
  levels_wide tree.text = refl
  levels_wide tree.binary = refl
  levels_wide tree.date = refl
  levels_wide tree.timestamp = refl
  levels_wide tree.timestamp_ntz = refl
  levels_wide (tree.decimal p s) = refl
  levels_wide (tree.struct_of cs) = ap (λ n. 1 + n) (column_levels_wide cs)
  levels_wide (tree.list_of t b) = ap (λ n. 1 + n) (levels_wide t)
  levels_wide (tree.map_of k v b) = ap (λ n. 1 + max n (levels (wide_type v))) (levels_wide k) ∙ ap (λ n. 1 + max (levels k) n) (levels_wide v)

  pub column_levels_wide : (cs : ColumnTrees) → column_levels (wide_columns cs) ≡ column_levels cs
  column_levels_wide no_columns = refl
  column_levels_wide (column n t b cs) = ap (λ m. max m (column_levels (wide_columns cs))) (levels_wide t) ∙ ap (λ m. max (levels t) m) (column_levels_wide cs)

mutual
  count_wide : (t : TypeTree) → inner_count (wide_type t) ≡ inner_count t
  count_wide tree.boolean = refl
  count_wide tree.byte = refl
  count_wide tree.short = refl
  count_wide tree.int = refl
  count_wide tree.long = refl
  count_wide tree.float = refl
  count_wide tree.double = refl
  count_wide tree.text = refl
  count_wide tree.binary = refl
  count_wide tree.date = refl
  count_wide tree.timestamp = refl
  count_wide tree.timestamp_ntz = refl
  count_wide (tree.decimal p s) = refl
  count_wide (tree.struct_of cs) = column_count_wide cs
  count_wide (tree.list_of t b) = count_wide t
  count_wide (tree.map_of k v b) = ap (λ n. n + inner_count (wide_type v)) (count_wide k) ∙ ap (λ n. inner_count k + n) (count_wide v)

  pub column_count_wide : (cs : ColumnTrees) → column_count (wide_columns cs) ≡ column_count cs
  column_count_wide no_columns = refl
  column_count_wide (column n t b cs) = ap (λ m. 1 + m + column_count (wide_columns cs)) (count_wide t) ∙ ap (λ m. 1 + inner_count t + m) (column_count_wide cs)

named_wide : (name : List ℕ) (cs : ColumnTrees) → is_named name (wide_columns cs) ≡ is_named name cs
named_wide name no_columns = refl
named_wide name (column n t b cs) = ap (λ c. bytes_eq n name || c) (named_wide name cs)

pub own_wide : (cs : ColumnTrees) → have_own_names (wide_columns cs) ≡ have_own_names cs
own_wide no_columns = refl
own_wide (column n t b cs) = ap (λ c. not c && have_own_names (wide_columns cs)) (named_wide n cs) ∙ ap (λ c. not (is_named n cs) && c) (own_wide cs)

-- The Image is within the limits where the schema is.
pub wide_limits : (cs : ColumnTrees) → IsWithinLimits cs → IsWithinLimits (wide_columns cs)
wide_limits cs limits = record { levels = rw (column_levels_wide cs) limits.levels; columns = rw (column_count_wide cs) limits.columns }

-- ---- the type of a column

found_by : (b : Bool) (t : TypeTree) (wide o : Option TypeTree) → wide ≡ option_map wide_type o → cond b (Some (wide_type t)) wide ≡ option_map wide_type (cond b (Some t) o)
found_by true t wide o same = refl
found_by false t wide o same = same

pub wide_column : (schema : ColumnTrees) (name : List ℕ) → column_type (wide_columns schema) name ≡ option_map wide_type (column_type schema name)
wide_column no_columns name = refl
wide_column (column n t b cs) name = found_by (bytes_eq n name) t (column_type (wide_columns cs) name) (column_type cs name) (wide_column cs name)
