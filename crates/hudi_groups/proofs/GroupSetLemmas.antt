-- Sets of groups, and the newest rows of groups.
use Rattle.std.proofs.Common.{◌≡◌, ℕ, Bool, true, false, not, cond, ◌||◌, List, [], ◌∷◌, ◌++◌, reverse, refl, sym, ap, subst, ◌∙◌, ⊎_elim}
use Rattle.std.specs.List.{list_any}
use Rattle.std.specs.Str.{bytes_eq}
use Rattle.std.specs.Set.{KeepsOthers}
use Rattle.std.specs.Map.{IsKeyTest, AreApart}
use Rattle.std.specs.HashSet.{Updates}
use Rattle.std.proofs.lemmas.Bool.{cases_Bool}
use Rattle.std.proofs.lemmas.Cmp.{nat_list_eq_equiv}
use Rattle.std.proofs.lemmas.List.{reverse-append}
use Rattle.std.proofs.lemmas.Slice.Eq.{bytes_eq-Decides}
use Rattle.table_history.specs.declared.row.FileRow.{FileRow}
use Rattle.hudi_groups.specs.declared.form.Form.{Form}
use Rattle.hudi_groups.specs.Files.{group_name}
use Rattle.hudi_groups.specs.GroupSets.{Groups, has_group, is_row_of_group, newest_rows}
use Rattle.lake_basics.proofs.Texts.{apart_from_same}

-- ---- a set with one more group

other_keys : (test : List ℕ → Bool) (old new : List (List ℕ)) → KeepsOthers bytes_eq test old new → (other : List ℕ → Bool) → IsKeyTest bytes_eq other → AreApart test other → list_any other new ≡ list_any other old
unfolding KeepsOthers
other_keys test old new h = h

or_of : (b f : Bool) → b ≡ false → f ≡ (b || f)
or_of b f n = sym (ap (λ c. c || f) n)

pub has_group-insert : (key : List ℕ) (old new : Groups) → Updates bytes_eq old new key true → (q : List ℕ) → has_group new q ≡ (bytes_eq q key || has_group old q)
has_group-insert key old new h q =
    ⊎_elim
    (λ y. subst (λ l. has_group new l ≡ true) ((bytes_eq-Decides key q).0 y) h.1 ∙ sym (ap (λ b. b || has_group old q) (nat_list_eq_equiv.symm q key ∙ y)))
    (λ n. other_keys (bytes_eq key) old.keys new.keys h.3 (bytes_eq q) (nat_list_eq_equiv.congr q) (λ k. apart_from_same key q k n)
    ∙ or_of (bytes_eq q key) (has_group old q) (nat_list_eq_equiv.symm q key ∙ n))
    (cases_Bool (bytes_eq key q))

-- ---- one more row, before those that were looked at
pub newest_step : (form : Form) (row : FileRow) (rest newest newest' : List FileRow) (added : Bool)
    → added ≡ not (list_any (is_row_of_group form (group_name form row.path)) rest) → newest ≡ reverse (newest_rows form rest)
    → newest' ≡ cond added (newest ++ row ∷ []) newest → newest' ≡ reverse (newest_rows form (row ∷ rest))
newest_step form row rest newest newest' added is before after =
    after ∙ (λ i. cond (is i) (before i ++ row ∷ []) (before i)) ∙ by (list_any (is_row_of_group form (group_name form row.path)) rest)
  where
    by : (b : Bool) → cond (not b) (reverse (newest_rows form rest) ++ row ∷ []) (reverse (newest_rows form rest)) ≡ reverse (cond b (newest_rows form rest) (row ∷ newest_rows form rest))
    by true = refl
    by false = sym (reverse-append (row ∷ []) (newest_rows form rest))

pub row_in_group : (form : Form) (q : List ℕ) (row : FileRow) → is_row_of_group form q row ≡ true → q ≡ group_name form row.path
row_in_group form q row t = (bytes_eq-Decides q (group_name form row.path)).0 t

pub group_has_row : (form : Form) (q : List ℕ) (row : FileRow) → q ≡ group_name form row.path → is_row_of_group form q row ≡ true
group_has_row form q row e = (bytes_eq-Decides q (group_name form row.path)).1 e

pub or_last : (k b a : Bool) → (k || (b || a)) ≡ (b || (a || k))
or_last true true a = refl
or_last true false true = refl
or_last true false false = refl
or_last false true a = refl
or_last false false true = refl
or_last false false false = refl
