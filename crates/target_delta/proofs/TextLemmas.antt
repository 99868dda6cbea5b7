-- The texts of partition values, each under its column's name.
use Rattle.std.proofs.Common.{◌≡◌, ℕ, ◌+◌, ◌<◌, List, [], ◌∷◌, ◌++◌, length, get_or, take, map, Option, refl, sym, subst}
use Rattle.std.specs.List.{IsDistinct}
use Rattle.std.specs.Str.{bytes_eq}
use Rattle.table_history.specs.declared.row.PartValue.{PartValue}
use Rattle.partition_map.specs.DeltaText.{IsDeltaText}
use Rattle.delta_log.specs.Sound.{HaveDistinctNames}
use Rattle.target_delta.specs.Writing.{AreTexts}
use Rattle.lake_basics.proofs.Lists.{last_of}

abbrev Texts : Type 0
Texts = List (List ℕ × Option (List ℕ))

texts_push : (names : List (List ℕ)) (values : List PartValue) (texts : Texts) (name : List ℕ) (value : PartValue) (p : List ℕ × Option (List ℕ)) → AreTexts names values texts → p.0 ≡ name → IsDeltaText value p.1
    → AreTexts (names ++ name ∷ []) (values ++ value ∷ []) (texts ++ p ∷ [])
texts_push [] [] [] name value p h is stands = (is, stands, tt)
texts_push [] [] (q ∷ texts) name value p h is stands = absurd h
texts_push [] (v ∷ values) texts name value p h is stands = absurd h
texts_push (n ∷ names) [] texts name value p h is stands = absurd h
texts_push (n ∷ names) (v ∷ values) [] name value p h is stands = absurd h
texts_push (n ∷ names) (v ∷ values) (q ∷ texts) name value p h is stands = (h.0, h.1, texts_push names values texts name value p h.2 is stands)

pub texts_more : (names : List (List ℕ)) (values : List PartValue) (texts : Texts) (i : ℕ) (name : List ℕ) (value : PartValue) (p : List ℕ × Option (List ℕ)) → i < length names → i < length values → name ≡ get_or names i name → value ≡ get_or values i value
    → AreTexts (take i names) (take i values) texts → p.0 ≡ name → IsDeltaText value p.1 → AreTexts (take (i + 1) names) (take (i + 1) values) (texts ++ p ∷ [])
texts_more names values texts i name value p in_names in_values here there h is stands =
    subst (λ ns. AreTexts ns (take (i + 1) values) (texts ++ p ∷ [])) (sym (last_of names i name in_names here))
    (subst (λ vs. AreTexts (take i names ++ name ∷ []) vs (texts ++ p ∷ [])) (sym (last_of values i value in_values there)) (texts_push (take i names) (take i values) texts name value p h is stands))

pub names_of_texts : (names : List (List ℕ)) (values : List PartValue) (texts : Texts) → AreTexts names values texts → map (λ p. p.0) texts ≡ names
names_of_texts [] [] [] h = refl
names_of_texts [] [] (q ∷ texts) h = absurd h
names_of_texts [] (v ∷ values) texts h = absurd h
names_of_texts (n ∷ names) [] texts h = absurd h
names_of_texts (n ∷ names) (v ∷ values) [] h = absurd h
names_of_texts (n ∷ names) (v ∷ values) (q ∷ texts) h = λ i. h.0 i ∷ names_of_texts names values texts h.2 i

pub distinct_texts : (names : List (List ℕ)) (values : List PartValue) (texts : Texts) → AreTexts names values texts → IsDistinct bytes_eq names → HaveDistinctNames texts
distinct_texts names values texts h distinct = subst (IsDistinct bytes_eq) (sym (names_of_texts names values texts h)) distinct
