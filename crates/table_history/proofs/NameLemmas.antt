-- The test whether columns have names of their own decides whether their names are distinct.
use Rattle.std.proofs.Common.{◌≡◌, ◌↔◌, ℕ, true, false, List, refl, ◌∙◌}
use Rattle.std.specs.List.{IsDistinct, AllByRecursion}
use Rattle.std.specs.Str.{bytes_eq}
use Rattle.std.proofs.lemmas.Bool.{or_parts}
use Rattle.std.proofs.lemmas.Cmp.{nat_list_eq_equiv}
use Rattle.table_history.specs.TypeTree.{ColumnTrees, no_columns, column}
use Rattle.table_history.specs.Sound.{is_named, have_own_names, names_of}
use Rattle.lake_basics.proofs.Truth.{false_and_true}

unnamed : (name : List ℕ) (cs : ColumnTrees) → is_named name cs ≡ false → AllByRecursion (λ n. bytes_eq name n ≡ false) (names_of cs)
unnamed name no_columns h = tt
unnamed name (column n t b cs) h =
    let parts = or_parts _ _ h in (nat_list_eq_equiv.symm name n ∙ parts.0, unnamed name cs parts.1)

other_names : (name : List ℕ) (cs : ColumnTrees) → AllByRecursion (λ n. bytes_eq name n ≡ false) (names_of cs) → is_named name cs ≡ false
other_names name no_columns h = refl
other_names name (column n t b cs) h = rw (nat_list_eq_equiv.symm n name ∙ h.0) (other_names name cs h.1)

distinct_names : (cs : ColumnTrees) → have_own_names cs ≡ true → IsDistinct bytes_eq (names_of cs)
unfolding IsDistinct
distinct_names no_columns h = tt
distinct_names (column n t b cs) h = let parts = false_and_true _ _ h in (unnamed n cs parts.0, distinct_names cs parts.1)

own_names : (cs : ColumnTrees) → IsDistinct bytes_eq (names_of cs) → have_own_names cs ≡ true
unfolding IsDistinct
own_names no_columns h = refl
own_names (column n t b cs) h = rw (other_names n cs h.0) (own_names cs h.1)

pub own_or_distinct : (cs : ColumnTrees) → (have_own_names cs ≡ true) ↔ IsDistinct bytes_eq (names_of cs)
own_or_distinct cs = (distinct_names cs, own_names cs)
