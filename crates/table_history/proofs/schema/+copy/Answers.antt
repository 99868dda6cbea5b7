use Rattle.std.proofs.Common.{◌≡◌, ℕ, ◌+◌, ◌<◌, List, [], ◌∷◌, ◌++◌, length, get_or, take, map, refl, ap, sym, ◌∙◌, rules}
use Rattle.std.proofs.lemmas.List.{map-append, take_more}
use Rattle.table_history.specs.declared.schema.ColumnType.{the_lemmas}
use Rattle.table_history.specs.declared.schema.Column.{Column}
use Rattle.table_history.specs.TypeTree.{ColumnTree}
use Rattle.table_history.specs.SchemaView.{type_view, column_view}
use Rattle.table_history.proofs.schema.+copy.Goals as goal

column_is : (c : Column) → ◌≡◌ {A = ColumnTree} (column_view c) (record { name = c.name; kind = type_view c.kind; nullable = c.nullable })
column_is c = search (rules, the_lemmas)

same_column : (c d : Column) → c.name ≡ d.name → type_view c.kind ≡ type_view d.kind → c.nullable ≡ d.nullable → column_view c ≡ column_view d
same_column c d name kind nullable = column_is c ∙ (λ i. record { name = name i; kind = kind i; nullable = nullable i }) ∙ sym (column_is d)

-- the copies so far, and one more
one_more : {A B : Type 0} (f : A → B) (copies new items : List A) (i : ℕ) (x y : A) → i < length items → y ≡ get_or items i y → new ≡ copies ++ x ∷ [] → f x ≡ f y → map f copies ≡ map f (take i items) → map f new ≡ map f (take (i + 1) items)
one_more {A} {B} f copies new items i x y within at put same so_far =
    ap (map f) put ∙ map-append f copies (x ∷ []) ∙ (λ j. so_far j ++ same j ∷ []) ∙ sym (map-append f (take i items) (y ∷ [])) ∙ ap (λ (z : A). map f (take i items ++ z ∷ [])) at ∙ ap (map f) (sym (take_more items i y within))

pub copy_columns-loop-column-preserved : goal.copy_columns-loop-column-preserved
copy_columns-loop-column-preserved t c =
    one_more column_view c.loop-column.copies.items c.push.new.self.items c.deref-column-items.result.now c.loop-column.column-index _ c.column-item.result c.loop-column-test.true c.column-item.is c.in_ok-push.ensures.items (same_column _ _ c.in_ok-name.ensures c.in_ok-kind.ensures refl) c.loop-column.invariant
