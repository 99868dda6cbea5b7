-- The kinds of a table's partition columns.
use Rattle.std.specs.Prelude.{◌≡◌, ◌≢◌, ◌⊎◌, ℕ, List, Contains, Bool, true, false, not, Option, None, Some, option_and_then, unwrap_or}
use Rattle.std.specs.Borrow.{Bor}
use Rattle.std.specs.List.{IsDistinct, list_any}
use Rattle.std.specs.Str.{bytes_eq}
use Rattle.indexmap.specs.IndexMap.{IndexMap, get_by}
use Rattle.table_history.specs.History.{column_type}
use Rattle.table_history.specs.TypeTree.{ColumnTrees}
use Rattle.partition_map.specs.Kind.{part_kind_of}
use Rattle.partition_map.specs.declared.kind.PartKind.{PartKind}
use Rattle.partition_map.specs.declared.kind.PartKind.TheVariants as kind

-- the kind of the top-level column of this name: none where there is no such column, or its type has no kind
abbrev pub column_kind : ColumnTrees → List ℕ → Option PartKind
column_kind schema name = option_and_then part_kind_of (column_type schema name)

-- A column is named twice, or has no kind.
abbrev pub LacksKinds : ColumnTrees → List (List ℕ) → Type 0
LacksKinds schema names = (¬ IsDistinct bytes_eq names) ⊎ ((name : List ℕ) × Contains names name × (column_kind schema name ≡ None))

-- a column of these that has a kind before and another one after
pub record HasOtherKind (before after : ColumnTrees) (names : List (List ℕ)) : Type 0 where
  pub name : List ℕ
  pub named : Contains names name
  pub old : PartKind
  pub was : column_kind before name ≡ Some old
  pub new : PartKind
  pub is : column_kind after name ≡ Some new
  pub changed : old ≢ new

-- ---- the same as functions

abbrev pub is_same_kind : PartKind → PartKind → Bool
is_same_kind kind.Boolean kind.Boolean = true
is_same_kind kind.Int kind.Int = true
is_same_kind kind.Long kind.Long = true
is_same_kind kind.Text kind.Text = true
is_same_kind kind.Date kind.Date = true
is_same_kind _ _ = false

-- whether both kinds are known, and differ
abbrev pub is_other_kind : Option PartKind → Option PartKind → Bool
is_other_kind None new = false
is_other_kind (Some old) None = false
is_other_kind (Some old) (Some new) = not (is_same_kind old new)

-- whether the column of this name has a kind before and another one after
abbrev pub changes_kind : ColumnTrees → ColumnTrees → List ℕ → Bool
changes_kind before after name = is_other_kind (column_kind before name) (column_kind after name)

-- whether one of these columns does
abbrev pub has_other_kind : ColumnTrees → ColumnTrees → List (List ℕ) → Bool
has_other_kind before after names = list_any (changes_kind before after) names

-- the kind that a map has at this name
abbrev pub kind_in : {S : Type 0} → IndexMap (Bor (List ℕ)) (Option PartKind) S → List ℕ → Option PartKind
kind_in kinds name = unwrap_or (get_by (λ key. bytes_eq name key.now) kinds) None
