-- A reading is refused as recursive only where a name is used inside its own definition.
use Rattle.std.proofs.Common.{◌≡◌, ℕ, zero, suc, ◌-◌, Bool, true, false, ◌||◌, cond, List, [], ◌∷◌, ◌++◌, map, Option, Some, None, Ok, Err, refl, ap, subst, ◌∙◌, ◌⊎◌, inl, inr, arith, codes}
use Rattle.std.specs.Prelude.{nat_lt, ◌==◌, Contains}
use Rattle.std.specs.Str.{bytes_eq}
use Rattle.serde_json.specs.Data.{Data, null, boolean, number, string, array, object, Items}
use Rattle.serde_json.specs.Find.{get, as_str, as_array}
use Rattle.lake_basics.specs.Outcome.{◌>>=◌, each}
use Rattle.json_reading.specs.Json.{text_member, list_member, items, text}
use Rattle.avro_schema.specs.declared.error.SchemaFault.TheVariants.{BadSchema, Recursive}
use Rattle.avro_schema.specs.Tree.{SchemaTree, schema_tree, ShapeTree, branches_of, FieldTree}
use Rattle.avro_schema.specs.Sizes.{level_count, type_count}
use Rattle.avro_schema.specs.Names.{full_name, namespace_of, primitive_of, is_name, definition_of, are_distinct}
use Rattle.avro_schema.specs.Reading.{Reading, State, SchemaRead, Reader, needed, checked, size_member, id_in, id_member, space_in, is_open, is_new, proper_name, new_name, counted, used_type, used_name, one_type, word_or_name, annotated, fixed_type, symbols_in, enum_type, array_type, map_type, field_type, field_name, in_turn, record_with, record_type, other_type, object_type, single_type, union_type, type_by, type_at}
use Rattle.avro_schema.specs.Grammar.{Place, is_a_fault, IsNoComplexWord, SaysType}
use Rattle.avro_schema.specs.Refusals.{UsesOwnName, here, in_branch, in_items, in_values, in_field}
use Rattle.avro_schema.proofs.Sound.{place, finds, bound, ok_is, name_found, single_found, word_is, chosen}

abbrev pub NeverRecursive : {A : Type 0} → Reading A → Type 0
NeverRecursive r = r ≡ Err Recursive → ⊥

-- ---- steps

-- Either the first reading was refused so, or what is read behind it.
refused_at : {A B : Type 0} (r : Reading A) (f : A → Reading B) → (r >>= f) ≡ Err Recursive → (r ≡ Err Recursive) ⊎ ((x : A) × (r ≡ Ok x) × (f x ≡ Err Recursive))
refused_at (Ok x) f e = inr (x, refl, e)
refused_at (Err g) f e = let same : g ≡ Recursive = cc in inl (ap Err same)

passed : {A B : Type 0} (r : Reading A) (f : A → Reading B) → NeverRecursive r → (r >>= f) ≡ Err Recursive → (x : A) × (r ≡ Ok x) × (f x ≡ Err Recursive)
passed (Ok x) f never e = (x, refl, e)
passed (Err g) f never e = let same : g ≡ Recursive = cc in absurd (never (ap Err same))

never_then : {A B : Type 0} (r : Reading A) (f : A → Reading B) → NeverRecursive r → ((x : A) → NeverRecursive (f x)) → NeverRecursive (r >>= f)
never_then r f never later e = let a = passed r f never e in later a.0 a.2

never_needed : {A : Type 0} (o : Option A) → NeverRecursive (needed o)
never_needed None e = cc
never_needed (Some x) e = cc

never_checked : (b : Bool) → NeverRecursive (checked b)
never_checked true e = cc
never_checked false e = cc

never_ok : {A : Type 0} (x : A) → NeverRecursive (Ok x)
never_ok x e = cc

pub passed_needed : {A B : Type 0} (o : Option A) (f : A → Reading B) → (needed o >>= f) ≡ Err Recursive → (x : A) × (o ≡ Some x) × (f x ≡ Err Recursive)
passed_needed None f e = absurd cc
passed_needed (Some x) f e = (x, refl, e)

-- What only turns the value isn't refused.
pub passed_last : {A B : Type 0} (r : Reading A) (g : A → B) → (r >>= λ x. Ok (g x)) ≡ Err Recursive → r ≡ Err Recursive
passed_last (Ok x) g e = absurd cc
passed_last (Err f) g e = let same : f ≡ Recursive = cc in ap Err same

counted_by : (st : State) (b : Bool) → (st.budget == 0) ≡ b → NeverRecursive (cond {A = Reading State} b (Err BadSchema) (Ok (record st { budget = st.budget - 1 })))
counted_by st true is e = cc
counted_by st false is e = cc

counted_step : (f : State → Reading SchemaRead) (st : State) (b : Bool) → (st.budget == 0) ≡ b → (cond {A = Reading State} b (Err BadSchema) (Ok (record st { budget = st.budget - 1 })) >>= f) ≡ Err Recursive → f (record st { budget = st.budget - 1 }) ≡ Err Recursive
counted_step f st true is e = absurd cc
counted_step f st false is e = e

passed_counted : (f : State → Reading SchemaRead) (st : State) → (counted st >>= f) ≡ Err Recursive → f (record st { budget = st.budget - 1 }) ≡ Err Recursive
passed_counted f st e = counted_step f st _ refl e

-- Only the first reading may be refused so.
only_first : {A B : Type 0} (P : Type 0) (r : Reading A) (f : A → Reading B) → ((x : A) → NeverRecursive (f x)) → (r ≡ Err Recursive → P) → (r >>= f) ≡ Err Recursive → P
only_first P (Ok x) f never first e = absurd (never x e)
only_first P (Err g) f never first e = let same : g ≡ Recursive = cc in first (ap Err same)

never_text : (d : Data) → NeverRecursive (text BadSchema d)
never_text d e = never_needed (as_str d) e

never_texts : (ds : List Data) → NeverRecursive (each (text BadSchema) ds)
never_texts [] e = cc
never_texts (d ∷ ds) e = never_then (text BadSchema d) _ (never_text d) (λ t. never_then (each (text BadSchema) ds) _ (never_texts ds) (λ ts. never_ok (t ∷ ts))) e

never_id : (o : Option Data) → NeverRecursive (id_in o)
never_id None e = cc
never_id (Some d) e = never_needed _ e

never_name : (space : List ℕ) (d : Data) (st : State) → NeverRecursive (new_name space d st)
never_name space d st = never_then (proper_name d) _ (never_then (needed (text_member (codes "name") d)) _ (never_needed _) (λ name. never_then (checked (is_name name)) _ (never_checked _) (λ u. never_ok name)))
    (λ name. never_then (checked (is_new (full_name (space_in (text_member (codes "namespace") d) space) name) st)) _ (never_checked _) (λ u. never_ok _))

never_fixed : (space : List ℕ) (d : Data) (st : State) → NeverRecursive (fixed_type space d st)
never_fixed space d st = never_then (new_name space d st) _ (never_name space d st) (λ name. never_then (needed (size_member (codes "size") d)) _ (never_needed _) (λ size. never_ok _))

never_symbols : (d : Data) → NeverRecursive (symbols_in d)
never_symbols d = never_then (needed (list_member (codes "symbols") d)) _ (never_needed _) (λ list. never_then (each (text BadSchema) (items list)) _ (never_texts (items list)) (λ symbols. never_then (checked (are_distinct symbols)) _ (never_checked _) (λ u. never_ok symbols)))

never_enum : (space : List ℕ) (d : Data) (st : State) → NeverRecursive (enum_type space d st)
never_enum space d st = never_then (new_name space d st) _ (never_name space d st) (λ name. never_then (symbols_in d) _ (never_symbols d) (λ symbols. never_ok _))

never_one : (t : SchemaTree) (st : State) → NeverRecursive (one_type t st)
never_one t st = never_then (counted st) _ (counted_by st _ refl) (λ next. never_ok _)

never_record : (d : Data) (name : List ℕ) (fs : List FieldTree) (st : State) → NeverRecursive (record_with d name fs st)
never_record d name fs st = never_then (checked (are_distinct (map field_name fs))) _ (never_checked _) (λ u. never_ok _)

-- ---- names that are used

fits_by : (left : ℕ) (t : SchemaTree) (st : State) (b : Bool) → (nat_lt left (level_count t) || nat_lt st.budget (type_count t)) ≡ b → NeverRecursive (cond {A = Reading SchemaRead} b (Err BadSchema) (Ok (t, record st { budget = st.budget - type_count t })))
fits_by left t st true is e = cc
fits_by left t st false is e = cc

used_by : (left : ℕ) (o : Option SchemaTree) (st : State) → NeverRecursive (used_type left o st)
used_by left None st e = cc
used_by left (Some t) st e = fits_by left t st _ refl e

open_by : (left : ℕ) (name : List ℕ) (st : State) (b : Bool) → is_open name st ≡ b → cond b (Err Recursive) (used_type left (definition_of name st.definitions) st) ≡ Err Recursive → is_open name st ≡ true
open_by left name st true is e = is
open_by left name st false is e = absurd (used_by left (definition_of name st.definitions) st e)

used_open : (left : ℕ) (name : List ℕ) (st : State) → used_name left name st ≡ Err Recursive → is_open name st ≡ true
used_open left name st e = open_by left name st _ refl e

text_uses : (left : ℕ) (space name : List ℕ) (st : State) (o : Option ShapeTree) → primitive_of name ≡ o → word_or_name o left space name st ≡ Err Recursive → UsesOwnName (place space st) (string name)
text_uses left space name st (Some shape) is e = absurd (never_one (schema_tree shape None None None) st e)
text_uses left space name st None is e = here name (is, inl refl) (used_open left (full_name space name) st e)

other_uses : (left : ℕ) (space : List ℕ) (d : Data) (word : List ℕ) (st : State) (o : Option ShapeTree) → SaysType d word → IsNoComplexWord word → primitive_of word ≡ o → other_type o left space d word st ≡ Err Recursive → UsesOwnName (place space st) d
other_uses left space d word st (Some shape) says plain is e = absurd (never_one (annotated d shape) st e)
other_uses left space d word st None says plain is e = here word (is, inr (says, plain)) (used_open left (full_name space word) st e)

-- ---- types with parts

abbrev pub Uses : Reader → Type 0
Uses read = (space : List ℕ) (d : Data) (st : State) → read space d st ≡ Err Recursive → UsesOwnName (place space st) d

array_uses : (n : ℕ) → Uses (type_at n) → (space : List ℕ) (d : Data) (st : State) → SaysType d (codes "array") → array_type (type_at n) space d st ≡ Err Recursive → UsesOwnName (place space st) d
array_uses n below space d st says e =
    let a = passed_needed (get (codes "items") d) _ e in
    only_first (UsesOwnName (place space st) d) (type_at n space a.0 st) _ (λ t. never_then (id_member (codes "element-id") d) _ (never_id (get (codes "element-id") d)) (λ id. never_ok _)) (λ r. in_items a.0 says a.1 (below space a.0 st r)) a.2

map_uses : (n : ℕ) → Uses (type_at n) → (space : List ℕ) (d : Data) (st : State) → SaysType d (codes "map") → map_type (type_at n) space d st ≡ Err Recursive → UsesOwnName (place space st) d
map_uses n below space d st says e =
    let a = passed_needed (get (codes "values") d) _ e in
    only_first (UsesOwnName (place space st) d) (type_at n space a.0 st) _ (λ t. never_then (id_member (codes "key-id") d) _ (never_id (get (codes "key-id") d)) (λ key. never_then (id_member (codes "value-id") d) _ (never_id (get (codes "value-id") d)) (λ value. never_ok _))) (λ r. in_values a.0 says a.1 (below space a.0 st r)) a.2

-- ---- one after another

-- One of the list has it.
abbrev Some_of : {A : Type 0} → (A → Type 0) → List A → Type 0
Some_of {A} Q xs = (x : A) × Contains xs x × Q x

abbrev put_first : {B : Type 0} → B → List B × State → Reading (List B × State)
put_first y others = Ok (y ∷ others.0, others.1)

next_turn : {A B : Type 0} (Q : A → Type 0) (f : A → State → Reading (B × State)) (x : A) (xs : List A) (st : State) → (f x st ≡ Err Recursive → Q x) → ((y : B × State) → f x st ≡ Ok y → in_turn f xs y.1 ≡ Err Recursive → Some_of Q xs)
    → (f x st ≡ Err Recursive) ⊎ ((y : B × State) × (f x st ≡ Ok y) × ((in_turn f xs y.1 >>= put_first y.0) ≡ Err Recursive)) → Some_of Q (x ∷ xs)
next_turn Q f x xs st one more (inl r) = (x, (0, omega arith, refl), one r)
next_turn Q f x xs st one more (inr (y, ok, rest)) =
    let found = more y ok (passed_last (in_turn f xs y.1) (λ others. (y.0 ∷ others.0, others.1)) rest) in
    let within = found.1.1 in
    (found.0, (suc found.1.0, omega (arith, within), found.1.2), found.2)

turns : {A B : Type 0} (Q : A → Type 0) (f : A → State → Reading (B × State)) (os : List (List ℕ)) → ((x : A) (st : State) → st.open_names ≡ os → f x st ≡ Err Recursive → Q x) → ((x : A) (st : State) (y : B × State) → st.open_names ≡ os → f x st ≡ Ok y → y.1.open_names ≡ os) → (xs : List A) (st : State) → st.open_names ≡ os → in_turn f xs st ≡ Err Recursive → Some_of Q xs
turns Q f os one keeps [] st same e = absurd cc
turns Q f os one keeps (x ∷ xs) st same e = next_turn Q f x xs st (one x st same) (λ y ok r. turns Q f os one keeps xs y.1 (keeps x st y same ok) r) (refused_at (f x st) _ e)

field_uses : (n : ℕ) → Uses (type_at n) → (space : List ℕ) (d : Data) (st : State) → field_type (type_at n) space d st ≡ Err Recursive → (part : Data) × (get (codes "type") d ≡ Some part) × UsesOwnName (place space st) part
field_uses n below space d st e =
    let a = passed_needed (text_member (codes "name") d) _ e in
    let b = passed_needed (get (codes "type") d) _ a.2 in
    only_first ((part : Data) × (get (codes "type") d ≡ Some part) × UsesOwnName (place space st) part) (type_at n space b.0 st) _ (λ t. never_then (id_member (codes "field-id") d) _ (never_id (get (codes "field-id") d)) (λ id. never_ok _)) (λ r. (b.0, b.1, below space b.0 st r)) b.2

field_keeps : (n : ℕ) (space : List ℕ) (d : Data) (st : State) (y : FieldTree × State) → field_type (type_at n) space d st ≡ Ok y → y.1.open_names ≡ st.open_names
field_keeps n space d st y e =
    let name = bound (needed (text_member (codes "name") d)) _ _ e in
    let part = bound (needed (get (codes "type") d)) _ _ name.2 in
    let t = bound (type_at n space part.0 st) _ _ part.2 in
    let id = bound (id_member (codes "field-id") d) _ _ t.2 in
    let h = finds n space part.0 st t.0.0 t.0.1 t.1 in
    let same : ◌≡◌ {A = FieldTree × State} ((name.0, t.0.0, id.0), t.0.1) y = ok_is _ _ id.2 in
    let P : FieldTree × State → Type 0 = λ x. x.1.open_names ≡ st.open_names in
    subst P same h.same_open

abbrev at_names : List ℕ → List (List ℕ) → Place
at_names space os = record { space = space; open_names = os; own_use = is_a_fault }

fields_use : (n : ℕ) → Uses (type_at n) → (space : List ℕ) (ds : List Data) (st : State) → in_turn (field_type (type_at n) space) ds st ≡ Err Recursive → Some_of (λ d. (part : Data) × (get (codes "type") d ≡ Some part) × UsesOwnName (place space st) part) ds
fields_use n below space ds st e =
    let Q : Data → Type 0 = λ d. (part : Data) × (get (codes "type") d ≡ Some part) × UsesOwnName (place space st) part in
    let one : (d : Data) (s : State) → s.open_names ≡ st.open_names → field_type (type_at n) space d s ≡ Err Recursive → Q d = λ d s same r.
    let u = field_uses n below space d s r in
    let P : List (List ℕ) → Type 0 = λ os. UsesOwnName (at_names space os) u.0 in
    (u.0, u.1, subst P same u.2) in
    turns Q (field_type (type_at n) space) st.open_names one (λ d s y same ok. field_keeps n space d s y ok ∙ same) ds st refl e

record_uses : (n : ℕ) → Uses (type_at n) → (space : List ℕ) (d : Data) (st : State) → SaysType d (codes "record") → record_type (type_at n) space d st ≡ Err Recursive → UsesOwnName (place space st) d
record_uses n below space d st says e =
    let a = passed (new_name space d st) _ (never_name space d st) e in
    let b = passed_needed (list_member (codes "fields") d) _ a.2 in
    let within : State = record st { open_names = st.open_names ++ a.0 ∷ [] } in
    only_first (UsesOwnName (place space st) d) (in_turn (field_type (type_at n) (namespace_of a.0)) (items b.0) within) _ (λ fs. never_record d a.0 fs.0 _) (λ r.
    let u = fields_use n below (namespace_of a.0) (items b.0) within r in
    in_field a.0 b.0 u.0 u.2.0 says (name_found space d st a.0 a.1).0 b.1 u.1 u.2.1 u.2.2) b.2

-- ---- all of them

object_uses : (n : ℕ) → Uses (type_at n) → (space : List ℕ) (d : Data) (word : List ℕ) (st : State) → SaysType d word → object_type (suc n) (type_at n) space d word st ≡ Err Recursive → UsesOwnName (place space st) d
object_uses n below space d word st says =
    let P = UsesOwnName (place space st) d in
    let next : State = record st { budget = st.budget - 1 } in
    chosen P (bytes_eq word (codes "record")) _ _ _ (λ is r. record_uses n below space d next (word_is d word _ says is) (passed_counted _ st r)) (λ no0.
    chosen P (bytes_eq word (codes "enum")) _ _ _ (λ is r. absurd (never_enum space d next (passed_counted _ st r))) (λ no1.
    chosen P (bytes_eq word (codes "fixed")) _ _ _ (λ is r. absurd (never_fixed space d next (passed_counted _ st r))) (λ no2.
    chosen P (bytes_eq word (codes "array")) _ _ _ (λ is r. array_uses n below space d next (word_is d word _ says is) (passed_counted _ st r)) (λ no3.
    chosen P (bytes_eq word (codes "map")) _ _ _ (λ is r. map_uses n below space d next (word_is d word _ says is) (passed_counted _ st r)) (λ no4 r.
    other_uses (suc n) space d word st _ says (no0, no1, no2, no3, no4) refl r)))))

single_uses : (n : ℕ) → Uses (type_at n) → (space : List ℕ) (d : Data) (st : State) → single_type (suc n) (type_at n) space d st ≡ Err Recursive → UsesOwnName (place space st) d
single_uses n below space null st e = absurd cc
single_uses n below space (boolean b) st e = absurd cc
single_uses n below space (number x) st e = absurd cc
single_uses n below space (string name) st e = text_uses (suc n) space name st _ refl e
single_uses n below space (array ds) st e = absurd cc
single_uses n below space (object ms) st e =
    let a = passed_needed (text_member (codes "type") (object ms)) _ e in
    object_uses n below space (object ms) a.0 st a.1 a.2

union_uses : (n : ℕ) → Uses (type_at n) → (space : List ℕ) (d : Data) (list : Items) (st : State) → as_array d ≡ Some list → union_type (single_type (suc n) (type_at n)) space (items list) st ≡ Err Recursive → UsesOwnName (place space st) d
union_uses n below space d list st is e =
    let next : State = record st { budget = st.budget - 1 } in
    let Q : Data → Type 0 = λ x. UsesOwnName (place space st) x in
    let one : (x : Data) (s : State) → s.open_names ≡ st.open_names → single_type (suc n) (type_at n) space x s ≡ Err Recursive → Q x = λ x s same r.
    let P : List (List ℕ) → Type 0 = λ os. UsesOwnName (at_names space os) x in
    subst P same (single_uses n below space x s r) in
    let keeps : (x : Data) (s : State) (y : SchemaRead) → s.open_names ≡ st.open_names → single_type (suc n) (type_at n) space x s ≡ Ok y → y.1.open_names ≡ st.open_names = λ x s y same ok.
    let h = single_found n (finds n) space x s y.0 y.1 ok in
    h.same_open ∙ same in
    let r = passed_last (in_turn (single_type (suc n) (type_at n) space) (items list) next) (λ branches. (schema_tree (ShapeTree.union_of (branches_of branches.0)) None None None, branches.1)) (passed_counted _ st e) in
    let u = turns Q (single_type (suc n) (type_at n) space) st.open_names one keeps (items list) next refl r in
    in_branch list u.0 is u.1 u.2

type_uses : (n : ℕ) → Uses (type_at n) → (space : List ℕ) (d : Data) (o : Option Items) (st : State) → as_array d ≡ o → type_by o (suc n) (type_at n) space d st ≡ Err Recursive → UsesOwnName (place space st) d
type_uses n below space d None st is e = single_uses n below space d st e
type_uses n below space d (Some list) st is e = union_uses n below space d list st is e

pub uses : (n : ℕ) → Uses (type_at n)
unfolding type_at
uses zero space d st e = absurd cc
uses (suc n) space d st e = type_uses n (uses n) space d _ st refl e
