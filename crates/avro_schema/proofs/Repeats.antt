-- Texts of which none stands twice.
use Rattle.std.proofs.Common.{◌≡◌, ℕ, zero, suc, ◌+◌, ◌<◌, Bool, true, false, ◌||◌, ◌&&◌, not, List, [], ◌∷◌, ◌++◌, length, get_or, take, map, cond, refl, ap, sym, ◌∙◌, arith, rules, Bor}
use Rattle.std.specs.List.{list_any}
use Rattle.std.specs.Str.{bytes_eq}
use Rattle.std.proofs.Math.Bool.{and-false}
use Rattle.std.proofs.lemmas.Cmp.{nat_list_eq_equiv}
use Rattle.std.proofs.lemmas.List.Folds.{list_any-append, list_any_at}
use Rattle.std.proofs.lemmas.Bool.{not-false, not-true}
use Rattle.avro_schema.specs.declared.schema.Schema.{the_lemmas}
use Rattle.avro_schema.specs.declared.schema.Field.{Field}
use Rattle.avro_schema.specs.Tree.{field_of}
use Rattle.avro_schema.specs.Names.{are_distinct}
use Rattle.avro_schema.specs.Reading.{field_name}
use Rattle.lake_basics.proofs.Truth.{left_false, right_false}
use Rattle.lake_basics.proofs.Lists.{last_of}

abbrev pub texts : List (Bor (List ℕ)) → List (List ℕ)
texts keys = map (λ (s : Bor (List ℕ)). s.now) keys

pub any_text : (x : List ℕ) (keys : List (Bor (List ℕ))) → list_any (λ (s : Bor (List ℕ)). bytes_eq x s.now) keys ≡ list_any (bytes_eq x) (texts keys)
any_text x [] = refl
any_text x (k ∷ ks) = ap (λ b. bytes_eq x k.now || b) (any_text x ks)

stands_again : (y x : List ℕ) (ys : List (List ℕ)) (i : ℕ) → i < length ys → x ≡ get_or ys i x → bytes_eq x y ≡ true → list_any (bytes_eq y) ys ≡ true
stands_again y x ys i within at e = list_any_at (bytes_eq y) ys i x within (ap (bytes_eq y) (sym at) ∙ nat_list_eq_equiv.symm y x ∙ e)

repeated_by : (y x : List ℕ) (ys : List (List ℕ)) (i : ℕ) (b : Bool) → bytes_eq x y ≡ b → i < length ys → x ≡ get_or ys i x → (b || list_any (bytes_eq x) (take i ys)) ≡ true → (list_any (bytes_eq x) (take i ys) ≡ true → are_distinct ys ≡ false) → (not (list_any (bytes_eq y) ys) && are_distinct ys) ≡ false
repeated_by y x ys i true e within at any later = ap (λ c. not c && are_distinct ys) (stands_again y x ys i within at e)
repeated_by y x ys i false e within at any later = ap (λ c. not (list_any (bytes_eq y) ys) && c) (later any) ∙ and-false (not (list_any (bytes_eq y) ys))

repeated : (xs : List (List ℕ)) (i : ℕ) (x : List ℕ) → i < length xs → x ≡ get_or xs i x → list_any (bytes_eq x) (take i xs) ≡ true → are_distinct xs ≡ false
repeated [] i x within at any = absurd (omega arith)
repeated (y ∷ ys) zero x within at any = absurd cc
repeated (y ∷ ys) (suc i) x within at any = repeated_by y x ys i _ refl (omega arith) at any (λ a. repeated ys i x (omega arith) at a)

push_by : (a d : Bool) (x y : List ℕ) (xs : List (List ℕ)) → list_any (bytes_eq x) xs ≡ a → are_distinct xs ≡ d → (not a && d) ≡ true → bytes_eq y x ≡ false → (are_distinct xs ≡ true → are_distinct (xs ++ y ∷ []) ≡ true) → (not (list_any (bytes_eq x) (xs ++ y ∷ [])) && are_distinct (xs ++ y ∷ [])) ≡ true
push_by true d x y xs ea ed both other more = absurd cc
push_by false false x y xs ea ed both other more = absurd cc
push_by false true x y xs ea ed both other more =
    let apart : bytes_eq x y ≡ false = nat_list_eq_equiv.symm x y ∙ other in
    let front : list_any (bytes_eq x) (xs ++ y ∷ []) ≡ false = list_any-append (bytes_eq x) xs (y ∷ []) ∙ rw (ea, apart) refl in
    rw (front, more ed) refl

push : (xs : List (List ℕ)) (y : List ℕ) → are_distinct xs ≡ true → list_any (bytes_eq y) xs ≡ false → are_distinct (xs ++ y ∷ []) ≡ true
push [] y d any = refl
push (x ∷ xs) y d any = push_by _ _ x y xs refl refl d (left_false _ _ any) (λ e. push xs y e (right_false _ _ any))

take_next : (xs : List (List ℕ)) (i : ℕ) (x : List ℕ) → i < length xs → x ≡ get_or xs i x → take (suc i) xs ≡ take i xs ++ x ∷ []
take_next [] i x within at = absurd (omega arith)
take_next (y ∷ ys) zero x within at = ap (λ (z : List ℕ). z ∷ []) (sym at)
take_next (y ∷ ys) (suc i) x within at = ap (λ (zs : List (List ℕ)). y ∷ zs) (take_next ys i x (omega arith) at)

pub within_same : {A : Type 0} (ys xs : List A) (i : ℕ) → ys ≡ xs → i < length ys → i < length xs
within_same {A = A} ys xs i e within = rw (← e) within

pub at_same : {A : Type 0} (ys xs : List A) (i : ℕ) (x : A) → ys ≡ xs → x ≡ get_or ys i x → x ≡ get_or xs i x
at_same {A = A} ys xs i x e at = at ∙ ap (λ (zs : List A). get_or zs i x) e

map_last : (v : Bor (List ℕ)) (ks : List (Bor (List ℕ))) → texts (ks ++ v ∷ []) ≡ texts ks ++ v.now ∷ []
map_last v [] = refl
map_last v (k ∷ ks) = ap (λ (ys : List (List ℕ)). k.now ∷ ys) (map_last v ks)

-- The text at i was seen before it.
pub seen_again : (xs : List (List ℕ)) (i : ℕ) (x : List ℕ) (v : Bor (List ℕ)) (keys : List (Bor (List ℕ))) (b : Bool) → i < length xs → x ≡ get_or xs i x → v.now ≡ x → texts keys ≡ take i xs → b ≡ not (list_any (λ (s : Bor (List ℕ)). bytes_eq v.now s.now) keys) → b ≡ false → false ≡ are_distinct xs
seen_again xs i x v keys b within at is read new old =
    let same : list_any (λ (s : Bor (List ℕ)). bytes_eq v.now s.now) keys ≡ list_any (bytes_eq x) (take i xs) = any_text v.now keys ∙ ap (λ (ys : List (List ℕ)). list_any (bytes_eq v.now) ys) read ∙ ap (λ (y : List ℕ). list_any (bytes_eq y) (take i xs)) is in
    let found : list_any (λ (s : Bor (List ℕ)). bytes_eq v.now s.now) keys ≡ true = not-false _ (sym new ∙ old) in
    sym (repeated xs i x within at (sym same ∙ found))

-- The text at i is a new one.
pub seen_more : (xs : List (List ℕ)) (i : ℕ) (x : List ℕ) (v : Bor (List ℕ)) (keys : List (Bor (List ℕ))) (b : Bool) → i < length xs → x ≡ get_or xs i x → v.now ≡ x → texts keys ≡ take i xs → are_distinct (take i xs) ≡ true → b ≡ not (list_any (λ (s : Bor (List ℕ)). bytes_eq v.now s.now) keys) → b ≡ true → are_distinct (take (i + 1) xs) ≡ true
seen_more xs i x v keys b within at is read distinct new fresh =
    let same : list_any (λ (s : Bor (List ℕ)). bytes_eq v.now s.now) keys ≡ list_any (bytes_eq x) (take i xs) = any_text v.now keys ∙ ap (λ (ys : List (List ℕ)). list_any (bytes_eq v.now) ys) read ∙ ap (λ (y : List ℕ). list_any (bytes_eq y) (take i xs)) is in
    let none : list_any (λ (s : Bor (List ℕ)). bytes_eq v.now s.now) keys ≡ false = not-true _ (sym new ∙ fresh) in
    ap are_distinct (last_of xs i x within at) ∙ push (take i xs) x distinct (sym same ∙ none)

pub texts_more : (xs : List (List ℕ)) (i : ℕ) (x : List ℕ) (v : Bor (List ℕ)) (keys after : List (Bor (List ℕ))) (b : Bool) → i < length xs → x ≡ get_or xs i x → v.now ≡ x → texts keys ≡ take i xs → b ≡ not (list_any (λ (s : Bor (List ℕ)). bytes_eq v.now s.now) keys) → b ≡ true → after ≡ cond (list_any (λ (s : Bor (List ℕ)). bytes_eq v.now s.now) keys) keys (keys ++ v ∷ []) → texts after ≡ take (i + 1) xs
texts_more xs i x v keys after b within at is read new fresh put =
    let none : list_any (λ (s : Bor (List ℕ)). bytes_eq v.now s.now) keys ≡ false = not-true _ (sym new ∙ fresh) in
    let put_last : after ≡ keys ++ v ∷ [] = put ∙ ap (λ (c : Bool). cond c keys (keys ++ v ∷ [])) none in
    ap texts put_last ∙ map_last v keys ∙ ap (λ (ys : List (List ℕ)). ys ++ v.now ∷ []) read ∙ ap (λ (y : List ℕ). take i xs ++ y ∷ []) is ∙ sym (last_of xs i x within at)

field_name_is : (f : Field) → field_name (field_of f) ≡ f.name
field_name_is f = search (rules, the_lemmas)

-- the name of the field at i
pub name_at : (fs : List Field) (i : ℕ) (f : Field) → i < length fs → f ≡ get_or fs i f → f.name ≡ get_or (map field_name (map field_of fs)) i f.name
name_at [] i f within at = absurd (omega arith)
name_at (g ∷ gs) zero f within at = ap (λ (h : Field). h.name) at ∙ sym (field_name_is g)
name_at (g ∷ gs) (suc i) f within at = name_at gs i f (omega arith) at

pub length_names : (fs : List Field) (i : ℕ) → i < length fs → i < length (map field_name (map field_of fs))
length_names [] i within = absurd (omega arith)
length_names (f ∷ fs) zero within = omega arith
length_names (f ∷ fs) (suc i) within = let more = length_names fs i (omega arith) in omega (arith, more)
