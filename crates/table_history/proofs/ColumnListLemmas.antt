-- Lists of columns, one after another.
use Rattle.std.proofs.Common.{◌≡◌, ℕ, suc, ◌+◌, ◌<◌, ◌≤◌, ◌&&◌, true, false, List, [], ◌∷◌, length, get_or, drop, map, refl, sym, ap, ◌∙◌, add-one, drop-cons}
use Rattle.std.proofs.lemmas.List.{length-map, drop_all}
use Rattle.std.proofs.lemmas.Bool.{and_right}
use Rattle.table_history.specs.SchemaView.{column_view, columns_view}
use Rattle.table_history.specs.TypeTree.{ColumnTree, columns_of}
use Rattle.table_history.specs.TypeEq.{column_eq, columns_eq}
use Rattle.table_history.specs.declared.schema.Column.{Column}

other_length : (cs ds : List ColumnTree) → (length cs ≡ length ds → ⊥) → columns_eq (columns_of cs) (columns_of ds) ≡ false
other_length [] [] apart = absurd (apart refl)
other_length [] (d ∷ ds) apart = refl
other_length (c ∷ cs) [] apart = refl
other_length (c ∷ cs) (d ∷ ds) apart = and_right _ _ (other_length cs ds (λ e. apart (ap suc e)))

pub columns_apart : (cs ds : List Column) → (length cs ≡ length ds → ⊥) → columns_eq (columns_view cs) (columns_view ds) ≡ false
columns_apart cs ds apart = other_length (map column_view cs) (map column_view ds) (λ e. apart (sym (length-map cs column_view) ∙ e ∙ length-map ds column_view))

pub columns_step : (cs ds : List Column) (i : ℕ) (c d : Column) → i < length cs → i < length ds → c ≡ get_or cs i c → d ≡ get_or ds i d
    → columns_eq (columns_view (drop i cs)) (columns_view (drop i ds)) ≡ (column_eq (column_view c) (column_view d) && columns_eq (columns_view (drop (i + 1) cs)) (columns_view (drop (i + 1) ds)))
columns_step cs ds i c d in_cs in_ds c_is d_is =
    (λ j. columns_eq (columns_view (drop-cons cs i c in_cs j)) (columns_view (drop-cons ds i d in_ds j))) ∙ rw (add-one, ← c_is, ← d_is)

pub columns_end : (cs ds : List Column) (i : ℕ) → length cs ≤ i → length ds ≤ i → columns_eq (columns_view (drop i cs)) (columns_view (drop i ds)) ≡ true
columns_end cs ds i past past' = rw (drop_all i cs past, drop_all i ds past')
