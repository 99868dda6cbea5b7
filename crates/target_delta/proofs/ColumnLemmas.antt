-- A column's type, seen as a tree.
use Rattle.std.proofs.Common.{◌≡◌, rules}
use Rattle.table_history.specs.SchemaView.{column_view, type_view}
use Rattle.table_history.specs.declared.schema.Column.{Column, the_lemmas}

pub kind_is : (c : Column) → (column_view c).kind ≡ type_view c.kind
kind_is c = search (rules, the_lemmas)
