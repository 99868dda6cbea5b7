-- Tables that differ at most in the order of their rows: what fits one fits the other.
use Rattle.std.proofs.Common.{inl, inr, ⊎_elim, ℕ, List, refl, sym, ap, ◌∙◌}
use Rattle.std.specs.Prelude.{unwrap_or}
use Rattle.table_history.specs.Row.{Row}
use Rattle.table_history.specs.Rows.{HasPath, SameRows}
use Rattle.table_history.specs.Tables.{CanApply, IsAfter, IsRowAfter, SameTable}
use Rattle.table_history.specs.TypeTree.{ColumnTrees}
use Rattle.table_history.specs.declared.table.Change.{Change}
use Rattle.table_history.specs.declared.table.Table.{Table}
use Rattle.table_history.proofs.Laws.{same_rows_after}

-- ---- rows

pub rows_back : (a b : List Row) → SameRows a b → SameRows b a
rows_back a b same row = ((same row).1, (same row).0)

pub has_path_same : (a b : List Row) (path : List ℕ) → SameRows a b → HasPath a path → HasPath b path
has_path_same a b path same has = (has.0, (same has.0).0 has.1, has.2)

pub row_after : (a b : List Row) (change : Change) (row : Row) → SameRows a b → IsRowAfter a change.removed change.added row → IsRowAfter b change.removed change.added row
row_after a b change row same is = ⊎_elim (λ added. inl added) (λ kept. inr ((same row).0 kept.0, kept.1)) is

-- ---- tables

pub same_itself : (t : Table) → SameTable t t
same_itself t = record { rows = λ row. ((λ h. h), (λ h. h)); partition = refl; schema = refl }

pub same_table_back : (a b : Table) → SameTable a b → SameTable b a
same_table_back a b same = record { rows = rows_back a.rows b.rows same.rows; partition = sym same.partition; schema = sym same.schema }

pub same_through : (a b c : Table) → SameTable a b → SameTable b c → SameTable a c
same_through a b c x y = record {
  rows = λ row. (λ h. (y.rows row).0 ((x.rows row).0 h), λ h. (x.rows row).1 ((y.rows row).1 h));
  partition = x.partition ∙ y.partition;
  schema = x.schema ∙ y.schema;
}

-- ---- changes

pub can_apply_same : (a b : Table) (change : Change) → SameTable a b → CanApply a change → CanApply b change
can_apply_same a b change same can = record {
  removed_distinct = can.removed_distinct;
  removed_there = λ path there. has_path_same a.rows b.rows path same.rows (can.removed_there path there);
  added_distinct = can.added_distinct;
  added_new = λ row added there. can.added_new row added (has_path_same b.rows a.rows row.path (rows_back a.rows b.rows same.rows) there);
}

pub after_same : (a b : Table) (change : Change) (after : Table) → SameTable a b → IsAfter b change after → IsAfter a change after
after_same a b change after same is = record {
  rows = λ row. (
    λ h. row_after b.rows a.rows change row (rows_back a.rows b.rows same.rows) ((is.rows row).0 h),
    λ h. (is.rows row).1 (row_after a.rows b.rows change row same.rows h),
  );
  distinct = is.distinct;
  schema = is.schema ∙ ap (λ (s : ColumnTrees). unwrap_or change.schema s) (sym same.schema);
  partition = is.partition ∙ sym same.partition;
}

pub afters_same : (before : Table) (change : Change) (a b : Table) → IsAfter before change a → IsAfter before change b → SameTable a b
afters_same before change a b x y = record {
  rows = same_rows_after before before change a b (λ row. ((λ h. h), (λ h. h))) x y;
  partition = x.partition ∙ sym y.partition;
  schema = x.schema ∙ sym y.schema;
}
