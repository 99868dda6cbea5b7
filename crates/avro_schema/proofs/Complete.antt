-- What is declared is read, up to the first use of a name inside its own definition.
use Rattle.std.proofs.Common.{◌≡◌, ◌≢◌, ℕ, zero, suc, ◌+◌, ◌-◌, ◌<◌, ◌≤◌, Bool, true, false, List, [], ◌∷◌, ◌++◌, length, take, map, Option, Some, None, Ok, Err, ℤ, refl, ap, sym, subst, ◌∙◌, ◌⊎◌, inl, inr, arith, codes}
use Rattle.std.specs.Prelude.{nat_lt}
use Rattle.std.proofs.lemmas.Bool.{ne_eqb, le-ltb}
use Rattle.serde_json.specs.Data.{Data, null, boolean, number, string, array, object, Items}
use Rattle.serde_json.specs.Find.{get, as_array}
use Rattle.lake_basics.specs.Outcome.{◌>>=◌, each}
use Rattle.json_reading.specs.Json.{text_member, list_member, items, text}
use Rattle.avro_schema.specs.declared.error.SchemaFault.TheVariants.{BadSchema, Recursive}
use Rattle.avro_schema.specs.Tree.{SchemaTree, schema_tree, ShapeTree, BranchTrees, no_branches, branch, branches_of, FieldTrees, no_fields, field, FieldTree, fields_of}
use Rattle.avro_schema.specs.Sizes.{level_count, shape_level_count, branch_level_count, field_level_count, type_count, shape_type_count, branch_type_count, field_type_count}
use Rattle.avro_schema.specs.Names.{full_name, namespace_of, primitive_of, is_name, Definition, with_definition, are_distinct}
use Rattle.avro_schema.specs.Reading.{Reading, State, SchemaRead, needed, checked, size_member, id_member, space_in, is_new, proper_name, new_name, counted, used_name, one_type, word_or_name, annotated, defined, fixed_type, symbols_in, enum_type, array_type, map_type, field_type, field_name, in_turn, record_with, record_type, other_type, object_type, single_type, union_type, type_by, type_at}
use Rattle.avro_schema.specs.Grammar.{OwnUse, is_any_type, Place, IsNoComplexWord, Annotates, IsPrimitive, SaysName, StandsFor, DefinesName, SaysType, field_names, Declares, DeclaresComplex, DeclaresBranches, DeclaresFields}
use Rattle.avro_schema.proofs.Sound.{IsLeaf, leaf, take_front}

abbrev pub place : OwnUse → List ℕ → State → Place
place own space st = record { space = space; open_names = st.open_names; own_use = own }

-- The reading gives the value, or meets a use of a name inside its own definition where such a use
-- is taken for any type.
abbrev pub Meets : {A : Type 0} → OwnUse → Reading A → A → Type 0
Meets own r x = (r ≡ Ok x) ⊎ ((own ≡ is_any_type) × (r ≡ Err Recursive))

-- the state with these definitions and so many types left
abbrev pub behind : State → List Definition → ℕ → State
behind st after b = record st { definitions = after; budget = b }

-- ---- steps

pub meets_then : {A B : Type 0} (own : OwnUse) (r : Reading A) (f : A → Reading B) (x : A) (y : B) → Meets own r x → Meets own (f x) y → Meets own (r >>= f) y
meets_then {A} {B} own r f x y (inl e) next = let P : Reading A → Type 0 = λ q. Meets own (q >>= f) y in subst P (sym e) next
meets_then {A} {B} own r f x y (inr m) next = let g : Reading A → Reading B = λ q. q >>= f in inr (m.0, ap g m.1)

pub then_ok : {A B : Type 0} (r : Reading A) (f : A → Reading B) (x : A) (y : B) → r ≡ Ok x → f x ≡ Ok y → (r >>= f) ≡ Ok y
then_ok {A} {B} r f x y e next = let g : Reading A → Reading B = λ q. q >>= f in ap g e ∙ next

needed_gives : {A : Type 0} (o : Option A) (x : A) → o ≡ Some x → needed o ≡ Ok x
needed_gives o x e = ap needed e

checked_gives : (b : Bool) → b ≡ true → checked b ≡ Ok tt
checked_gives b e = ap checked e

counts : (st : State) → 0 < st.budget → counted st ≡ Ok (record st { budget = st.budget - 1 })
counts st some =
    let ne : st.budget ≢ 0 = λ e. absurd (omega (arith, some, e)) in
    rw (ne_eqb st.budget 0 ne) refl

counted_then : (own : OwnUse) (f : State → Reading SchemaRead) (st : State) (x : SchemaRead) → 0 < st.budget → Meets own (f (record st { budget = st.budget - 1 })) x → Meets own (counted st >>= f) x
counted_then own f st x some next = meets_then own (counted st) f _ x (inl (counts st some)) next

pub some_level : (t : SchemaTree) → 0 < level_count t
some_level (schema_tree ShapeTree.null l p s) = omega arith
some_level (schema_tree ShapeTree.boolean l p s) = omega arith
some_level (schema_tree ShapeTree.int l p s) = omega arith
some_level (schema_tree ShapeTree.long l p s) = omega arith
some_level (schema_tree ShapeTree.float l p s) = omega arith
some_level (schema_tree ShapeTree.double l p s) = omega arith
some_level (schema_tree ShapeTree.bytes l p s) = omega arith
some_level (schema_tree ShapeTree.text l p s) = omega arith
some_level (schema_tree (ShapeTree.fixed_of name size) l p s) = omega arith
some_level (schema_tree (ShapeTree.enum_of name symbols) l p s) = omega arith
some_level (schema_tree (ShapeTree.array_of inner id) l p s) = omega arith
some_level (schema_tree (ShapeTree.map_of inner key value) l p s) = omega arith
some_level (schema_tree (ShapeTree.union_of ts) l p s) = omega arith
some_level (schema_tree (ShapeTree.record_of name fs) l p s) = omega arith

-- ---- which form a value has

pub single_at : (n : ℕ) (space : List ℕ) (d : Data) (st : State) → as_array d ≡ None → type_at (suc n) space d st ≡ single_type (suc n) (type_at n) space d st
unfolding type_at
single_at n space d st e = ap (λ (o : Option Items). type_by o (suc n) (type_at n) space d st) e

pub union_at : (n : ℕ) (space : List ℕ) (d : Data) (list : Items) (st : State) → as_array d ≡ Some list → type_at (suc n) space d st ≡ union_type (single_type (suc n) (type_at n)) space (items list) st
unfolding type_at
union_at n space d list st e = ap (λ (o : Option Items). type_by o (suc n) (type_at n) space d st) e

no_array : (d : Data) (word : List ℕ) → SaysType d word → as_array d ≡ None
no_array null word e = refl
no_array (boolean b) word e = refl
no_array (number x) word e = refl
no_array (string s) word e = refl
no_array (array ds) word e = absurd cc
no_array (object ms) word e = refl

object_single : (n : ℕ) (space : List ℕ) (d : Data) (word : List ℕ) (st : State) → SaysType d word → single_type (suc n) (type_at n) space d st ≡ object_type (suc n) (type_at n) space d word st
object_single n space null word st e = absurd cc
object_single n space (boolean b) word st e = absurd cc
object_single n space (number x) word st e = absurd cc
object_single n space (string s) word st e = absurd cc
object_single n space (array ds) word st e = absurd cc
object_single n space (object ms) word st e = ap (λ (o : Option (List ℕ)). needed o >>= λ w. object_type (suc n) (type_at n) space (object ms) w st) e

pub object_at : (n : ℕ) (space : List ℕ) (d : Data) (word : List ℕ) (st : State) → SaysType d word → type_at (suc n) space d st ≡ object_type (suc n) (type_at n) space d word st
object_at n space d word st e = single_at n space d st (no_array d word e) ∙ object_single n space d word st e

other_at : (n : ℕ) (space : List ℕ) (d : Data) (word : List ℕ) (st : State) → IsNoComplexWord word → object_type (suc n) (type_at n) space d word st ≡ other_type (primitive_of word) (suc n) space d word st
other_at n space d word st h = rw (h.0, h.1, h.2, h.3, h.4) refl

-- ---- primitive types and names that are used

leaf_meets : (own : OwnUse) (st : State) (t : SchemaTree) (after : List Definition) (b : ℕ) → type_count t ≡ 1 → after ≡ st.definitions → b + type_count t ≡ st.budget → Meets own (one_type t st) (t, behind st after b)
leaf_meets own st t after b one same left =
    let some : 0 < st.budget = omega (arith, one, left) in
    let rest : st.budget - 1 ≡ b = omega (arith, one, left) in
    inl (then_ok (counted st) (λ next. Ok (t, next)) _ (t, behind st after b) (counts st some) (ap (λ (n : ℕ). Ok (t, behind st st.definitions n)) rest ∙ ap (λ (ds : List Definition). Ok (t, behind st ds b)) (sym same)))

leaf_one : (word : List ℕ) (shape : ShapeTree) (l : Option (List ℕ)) (p s : Option ℕ) → primitive_of word ≡ Some shape → type_count (schema_tree shape l p s) ≡ 1
unfolding IsLeaf
leaf_one word shape l p s is = let none : shape_type_count shape ≡ 0 = (leaf word shape is).0 in omega (arith, none)

annotates : (d : Data) (shape : ShapeTree) (l : Option (List ℕ)) (p s : Option ℕ) → Annotates d l p s → annotated d shape ≡ schema_tree shape l p s
annotates d shape l p s h = rw (h.0, h.1, h.2) refl

primitive_meets : (own : OwnUse) (n : ℕ) (space : List ℕ) (d : Data) (st : State) (shape : ShapeTree) (l : Option (List ℕ)) (p s : Option ℕ) (after : List Definition) (b : ℕ) → IsPrimitive d (schema_tree shape l p s) → after ≡ st.definitions → b + type_count (schema_tree shape l p s) ≡ st.budget → Meets own (type_at (suc n) space d st) (schema_tree shape l p s, behind st after b)
primitive_meets own n space d st shape l p s after b (word, is, inl (text, el, ep, es)) same left =
    let one = leaf_one word shape l p s is in
    let step : type_at (suc n) space d st ≡ one_type (schema_tree shape l p s) st = ap (λ (x : Data). type_at (suc n) space x st) text ∙ single_at n space (string word) st refl ∙ ap (λ (o : Option ShapeTree). word_or_name o (suc n) space word st) is ∙ rw (el, ep, es) refl in
    let P : Reading SchemaRead → Type 0 = λ q. Meets own q (schema_tree shape l p s, behind st after b) in
    subst P (sym step) (leaf_meets own st (schema_tree shape l p s) after b one same left)
primitive_meets own n space d st shape l p s after b (word, is, inr (says, plain, notes)) same left =
    let one = leaf_one word shape l p s is in
    let step : type_at (suc n) space d st ≡ one_type (schema_tree shape l p s) st = object_at n space d word st says ∙ other_at n space d word st plain ∙ ap (λ (o : Option ShapeTree). other_type o (suc n) space d word st) is ∙ ap (λ (u : SchemaTree). one_type u st) (annotates d shape l p s notes) in
    let P : Reading SchemaRead → Type 0 = λ q. Meets own q (schema_tree shape l p s, behind st after b) in
    subst P (sym step) (leaf_meets own st (schema_tree shape l p s) after b one same left)

use_meets : (own : OwnUse) (space name : List ℕ) (st : State) (t : SchemaTree) (after : List Definition) (b left : ℕ) → StandsFor (place own space st) st.definitions name t → after ≡ st.definitions → level_count t ≤ left → b + type_count t ≡ st.budget → Meets own (used_name left name st) (t, behind st after b)
use_meets own space name st t after b left (inl (closed, found)) same low enough =
    let deep : nat_lt left (level_count t) ≡ false = le-ltb left (level_count t) low in
    let many : nat_lt st.budget (type_count t) ≡ false = le-ltb st.budget (type_count t) (omega (arith, enough)) in
    let rest : st.budget - type_count t ≡ b = omega (arith, enough) in
    inl (rw (closed, found, deep, many) (ap (λ (k : ℕ). Ok (t, behind st st.definitions k)) rest ∙ ap (λ (ds : List Definition). Ok (t, behind st ds b)) (sym same)))
use_meets own space name st t after b left (inr (open_name, any)) same low enough = inr (any, rw open_name refl)

named_meets : (own : OwnUse) (n : ℕ) (space : List ℕ) (d : Data) (name : List ℕ) (st : State) (t : SchemaTree) (after : List Definition) (b : ℕ) → SaysName d name → StandsFor (place own space st) st.definitions (full_name space name) t → after ≡ st.definitions → level_count t ≤ suc n → b + type_count t ≡ st.budget → Meets own (type_at (suc n) space d st) (t, behind st after b)
named_meets own n space d name st t after b (none, inl text) stands same low enough =
    let step : type_at (suc n) space d st ≡ used_name (suc n) (full_name space name) st = ap (λ (x : Data). type_at (suc n) space x st) text ∙ single_at n space (string name) st refl ∙ ap (λ (o : Option ShapeTree). word_or_name o (suc n) space name st) none in
    let P : Reading SchemaRead → Type 0 = λ q. Meets own q (t, behind st after b) in
    subst P (sym step) (use_meets own space (full_name space name) st t after b (suc n) stands same low enough)
named_meets own n space d name st t after b (none, inr (says, plain)) stands same low enough =
    let step : type_at (suc n) space d st ≡ used_name (suc n) (full_name space name) st = object_at n space d name st says ∙ other_at n space d name st plain ∙ ap (λ (o : Option ShapeTree). other_type o (suc n) space d name st) none in
    let P : Reading SchemaRead → Type 0 = λ q. Meets own q (t, behind st after b) in
    subst P (sym step) (use_meets own space (full_name space name) st t after b (suc n) stands same low enough)

-- ---- definitions

name_gives : (own : OwnUse) (space : List ℕ) (d : Data) (st : State) (name : List ℕ) → DefinesName (place own space st) st.definitions d name → new_name space d st ≡ Ok name
name_gives own space d st name ((word, says, proper, whole), closed, fresh) =
    let full = full_name (space_in (text_member (codes "namespace") d) space) word in
    let P : List ℕ → Type 0 = λ x. is_new x st ≡ true in
    let new_here : is_new name st ≡ true = rw (closed, fresh) refl in
    then_ok (proper_name d) _ word name (then_ok (needed (text_member (codes "name") d)) _ word word (needed_gives _ word says) (then_ok (checked (is_name word)) _ tt word (checked_gives _ proper) refl))
    (then_ok (checked (is_new full st)) _ tt name (checked_gives _ (subst P whole new_here)) (ap Ok (sym whole)))

defined_gives : (st : State) (name : List ℕ) (u t : SchemaTree) (after : List Definition) (b : ℕ) → u ≡ t → after ≡ with_definition name t st.definitions → b ≡ st.budget → ◌≡◌ {A = Reading SchemaRead} (Ok (defined name u st)) (Ok (t, behind st after b))
defined_gives st name u t after b same put left = ap (λ (x : SchemaTree). Ok (defined name x st)) same ∙ ap (λ (ds : List Definition). Ok (t, behind st ds st.budget)) (sym put) ∙ ap (λ (k : ℕ). Ok (t, behind st after k)) (sym left)

fixed_gives : (own : OwnUse) (space : List ℕ) (d : Data) (st : State) (name : List ℕ) (size : ℕ) (t : SchemaTree) (after : List Definition) (b : ℕ) → DefinesName (place own space st) st.definitions d name → size_member (codes "size") d ≡ Some size → annotated d (ShapeTree.fixed_of name size) ≡ t → after ≡ with_definition name t st.definitions → b ≡ st.budget → fixed_type space d st ≡ Ok (t, behind st after b)
fixed_gives own space d st name size t after b named sized same put left =
    then_ok (new_name space d st) _ name _ (name_gives own space d st name named) (then_ok (needed (size_member (codes "size") d)) _ size _ (needed_gives _ size sized) (defined_gives st name _ t after b same put left))

texts_give : (ts : List (List ℕ)) → each (text BadSchema) (map string ts) ≡ Ok ts
texts_give [] = refl
texts_give (t ∷ ts) = let with_first : Reading (List (List ℕ)) → Reading (List (List ℕ)) = λ q. q >>= λ others. Ok (t ∷ others) in ap with_first (texts_give ts)

symbols_give : (d : Data) (list : Items) (symbols : List (List ℕ)) → list_member (codes "symbols") d ≡ Some list → items list ≡ map string symbols → are_distinct symbols ≡ true → symbols_in d ≡ Ok symbols
symbols_give d list symbols there are distinct =
    then_ok (needed (list_member (codes "symbols") d)) _ list symbols (needed_gives _ list there) (then_ok (each (text BadSchema) (items list)) _ symbols symbols (ap (each (text BadSchema)) are ∙ texts_give symbols) (then_ok (checked (are_distinct symbols)) _ tt symbols (checked_gives _ distinct) refl))

enum_gives : (own : OwnUse) (space : List ℕ) (d : Data) (st : State) (name : List ℕ) (symbols : List (List ℕ)) (t : SchemaTree) (after : List Definition) (b : ℕ) → DefinesName (place own space st) st.definitions d name → symbols_in d ≡ Ok symbols → annotated d (ShapeTree.enum_of name symbols) ≡ t → after ≡ with_definition name t st.definitions → b ≡ st.budget → enum_type space d st ≡ Ok (t, behind st after b)
enum_gives own space d st name symbols t after b named read same put left =
    then_ok (new_name space d st) _ name _ (name_gives own space d st name named) (then_ok (symbols_in d) _ symbols _ read (defined_gives st name _ t after b same put left))

-- ---- types with parts

-- the branches and the fields of a tree as lists
abbrev pub branch_list : BranchTrees → List SchemaTree
branch_list no_branches = []
branch_list (branch t ts) = t ∷ branch_list ts

pub branches_again : (ts : BranchTrees) → branches_of (branch_list ts) ≡ ts
branches_again no_branches = refl
branches_again (branch t ts) = ap (branch t) (branches_again ts)

abbrev pub field_list : FieldTrees → List FieldTree
field_list no_fields = []
field_list (field name t id fs) = (name, t, id) ∷ field_list fs

pub fields_again : (fs : FieldTrees) → fields_of (field_list fs) ≡ fs
fields_again no_fields = refl
fields_again (field name t id fs) = ap (field name t id) (fields_again fs)

names_again : (fs : FieldTrees) → map field_name (field_list fs) ≡ field_names fs
names_again no_fields = refl
names_again (field name t id fs) = ap (λ (xs : List (List ℕ)). name ∷ xs) (names_again fs)

array_meets : (own : OwnUse) (n : ℕ) (space : List ℕ) (d part : Data) (st : State) (inner t : SchemaTree) (id : Option ℤ) (after : List Definition) (b : ℕ) → get (codes "items") d ≡ Some part → id_member (codes "element-id") d ≡ Ok id → annotated d (ShapeTree.array_of inner id) ≡ t → Meets own (type_at n space part st) (inner, behind st after b) → Meets own (array_type (type_at n) space d st) (t, behind st after b)
array_meets own n space d part st inner t id after b there identified same inside_meets =
    meets_then own (needed (get (codes "items") d)) _ part _ (inl (needed_gives _ part there)) (meets_then own (type_at n space part st) _ (inner, behind st after b) _ inside_meets (inl (then_ok (id_member (codes "element-id") d) _ id _ identified (ap (λ (x : SchemaTree). Ok (x, behind st after b)) same))))

map_meets : (own : OwnUse) (n : ℕ) (space : List ℕ) (d part : Data) (st : State) (inner t : SchemaTree) (key value : Option ℤ) (after : List Definition) (b : ℕ) → get (codes "values") d ≡ Some part → id_member (codes "key-id") d ≡ Ok key → id_member (codes "value-id") d ≡ Ok value → annotated d (ShapeTree.map_of inner key value) ≡ t → Meets own (type_at n space part st) (inner, behind st after b) → Meets own (map_type (type_at n) space d st) (t, behind st after b)
map_meets own n space d part st inner t key value after b there keyed valued same inside_meets =
    meets_then own (needed (get (codes "values") d)) _ part _ (inl (needed_gives _ part there)) (meets_then own (type_at n space part st) _ (inner, behind st after b) _ inside_meets (inl (then_ok (id_member (codes "key-id") d) _ key _ keyed (then_ok (id_member (codes "value-id") d) _ value _ valued (ap (λ (x : SchemaTree). Ok (x, behind st after b)) same)))))

union_meets : (own : OwnUse) (n : ℕ) (space : List ℕ) (ds : List Data) (st : State) (ts : BranchTrees) (l : Option (List ℕ)) (p s : Option ℕ) (after : List Definition) (b : ℕ) → l ≡ None → p ≡ None → s ≡ None → 0 < st.budget → Meets own (in_turn (single_type (suc n) (type_at n) space) ds (record st { budget = st.budget - 1 })) (branch_list ts, behind st after b) → Meets own (union_type (single_type (suc n) (type_at n)) space ds st) (schema_tree (ShapeTree.union_of ts) l p s, behind st after b)
union_meets own n space ds st ts l p s after b el ep es some branches =
    let same : ◌≡◌ {A = Reading SchemaRead} (Ok (schema_tree (ShapeTree.union_of (branches_of (branch_list ts))) None None None, behind st after b)) (Ok (schema_tree (ShapeTree.union_of ts) l p s, behind st after b)) = rw (branches_again ts, el, ep, es) refl in
    counted_then own _ st _ some (meets_then own (in_turn (single_type (suc n) (type_at n) space) ds (record st { budget = st.budget - 1 })) _ (branch_list ts, behind st after b) _ branches (inl same))

record_gives : (d : Data) (st : State) (name : List ℕ) (fs : FieldTrees) (t : SchemaTree) (after : List Definition) (b : ℕ) → are_distinct (field_names fs) ≡ true → annotated d (ShapeTree.record_of name fs) ≡ t → after ≡ with_definition name t st.definitions → b ≡ st.budget → record_with d name (field_list fs) st ≡ Ok (t, behind st after b)
record_gives d st name fs t after b distinct same put left =
    then_ok (checked (are_distinct (map field_name (field_list fs)))) _ tt _ (checked_gives _ (ap are_distinct (names_again fs) ∙ distinct)) (defined_gives st name _ t after b (ap (λ (xs : FieldTrees). annotated d (ShapeTree.record_of name xs)) (fields_again fs) ∙ same) put left)

record_meets : (own : OwnUse) (n : ℕ) (space : List ℕ) (d : Data) (list : Items) (st : State) (name : List ℕ) (fs : FieldTrees) (t : SchemaTree) (between after : List Definition) (b : ℕ) → DefinesName (place own space st) st.definitions d name → list_member (codes "fields") d ≡ Some list → are_distinct (field_names fs) ≡ true → annotated d (ShapeTree.record_of name fs) ≡ t → after ≡ with_definition name t between
    → Meets own (in_turn (field_type (type_at n) (namespace_of name)) (items list) (record st { open_names = st.open_names ++ name ∷ [] })) (field_list fs, record { open_names = st.open_names ++ name ∷ []; definitions = between; budget = b })
    → Meets own (record_type (type_at n) space d st) (t, behind st after b)
record_meets own n space d list st name fs t between after b named there distinct same put fields =
    let closed : ◌≡◌ {A = Reading SchemaRead} (record_with d name (field_list fs) (record { open_names = take (length st.open_names) (st.open_names ++ name ∷ []); definitions = between; budget = b })) (Ok (t, behind st after b)) = ap (λ (os : List (List ℕ)). record_with d name (field_list fs) (record { open_names = os; definitions = between; budget = b })) (take_front st.open_names (name ∷ [])) ∙ record_gives d (behind st between b) name fs t after b distinct same put refl in
    meets_then own (new_name space d st) _ name _ (inl (name_gives own space d st name named)) (meets_then own (needed (list_member (codes "fields") d)) _ list _ (inl (needed_gives _ list there)) (meets_then own (in_turn (field_type (type_at n) (namespace_of name)) (items list) (record st { open_names = st.open_names ++ name ∷ [] })) _ (field_list fs, record { open_names = st.open_names ++ name ∷ []; definitions = between; budget = b }) _ fields (inl closed)))

branch_meets : (own : OwnUse) (n : ℕ) (space : List ℕ) (d : Data) (ds : List Data) (st : State) (t : SchemaTree) (ts : BranchTrees) (between after : List Definition) (c b : ℕ) → as_array d ≡ None → Meets own (type_at (suc n) space d st) (t, behind st between c) → Meets own (in_turn (single_type (suc n) (type_at n) space) ds (behind st between c)) (branch_list ts, behind st after b) → Meets own (in_turn (single_type (suc n) (type_at n) space) (d ∷ ds) st) (t ∷ branch_list ts, behind st after b)
branch_meets own n space d ds st t ts between after c b no_list first others =
    let P : Reading SchemaRead → Type 0 = λ q. Meets own q (t, behind st between c) in
    meets_then own (single_type (suc n) (type_at n) space d st) _ (t, behind st between c) _ (subst P (single_at n space d st no_list) first) (meets_then own (in_turn (single_type (suc n) (type_at n) space) ds (behind st between c)) _ (branch_list ts, behind st after b) _ others (inl refl))

field_meets : (own : OwnUse) (n : ℕ) (space : List ℕ) (d part : Data) (ds : List Data) (st : State) (name : List ℕ) (t : SchemaTree) (id : Option ℤ) (fs : FieldTrees) (between after : List Definition) (c b : ℕ) → text_member (codes "name") d ≡ Some name → id_member (codes "field-id") d ≡ Ok id → get (codes "type") d ≡ Some part → Meets own (type_at n space part st) (t, behind st between c) → Meets own (in_turn (field_type (type_at n) space) ds (behind st between c)) (field_list fs, behind st after b) → Meets own (in_turn (field_type (type_at n) space) (d ∷ ds) st) ((name, t, id) ∷ field_list fs, behind st after b)
field_meets own n space d part ds st name t id fs between after c b named identified typed first others =
    let whole : Meets own (field_type (type_at n) space d st) ((name, t, id), behind st between c) =
    meets_then own (needed (text_member (codes "name") d)) _ name _ (inl (needed_gives _ name named)) (meets_then own (needed (get (codes "type") d)) _ part _ (inl (needed_gives _ part typed)) (meets_then own (type_at n space part st) _ (t, behind st between c) _ first (inl (then_ok (id_member (codes "field-id") d) _ id _ identified refl)))) in
    meets_then own (field_type (type_at n) space d st) _ ((name, t, id), behind st between c) _ whole (meets_then own (in_turn (field_type (type_at n) space) ds (behind st between c)) _ (field_list fs, behind st after b) _ others (inl refl))

object_meets : (own : OwnUse) (n : ℕ) (space : List ℕ) (d : Data) (word : List ℕ) (st : State) (f : State → Reading SchemaRead) (x : SchemaRead) → SaysType d word → object_type (suc n) (type_at n) space d word st ≡ (counted st >>= f) → 0 < st.budget → Meets own (f (record st { budget = st.budget - 1 })) x → Meets own (type_at (suc n) space d st) x
object_meets own n space d word st f x says is some next =
    let P : Reading SchemaRead → Type 0 = λ q. Meets own q x in
    subst P (sym (object_at n space d word st says ∙ is)) (counted_then own f st x some next)

-- ---- all of them

mutual
  -- With so many levels and types left, what is declared is read.
  pub meets : (own : OwnUse) (n : ℕ) (space : List ℕ) (d : Data) (st : State) (t : SchemaTree) (after : List Definition) (b : ℕ) → Declares (place own space st) st.definitions d t after → level_count t ≤ n → b + type_count t ≡ st.budget → Meets own (type_at n space d st) (t, behind st after b)
  meets own zero space d st (schema_tree shape l p s) after b h low left = let some = some_level (schema_tree shape l p s) in absurd (omega (arith, some, low))
  meets own (suc n) space d st (schema_tree shape l p s) after b (inl (is, same)) low left = primitive_meets own n space d st shape l p s after b is same left
  meets own (suc n) space d st (schema_tree shape l p s) after b (inr (inl (name, says, stands, same))) low left = named_meets own n space d name st (schema_tree shape l p s) after b says stands same low left
  meets own (suc n) space d st (schema_tree shape l p s) after b (inr (inr h)) low left = complex_meets own n space d st shape l p s after b h low left

  complex_meets : (own : OwnUse) (n : ℕ) (space : List ℕ) (d : Data) (st : State) (shape : ShapeTree) (l : Option (List ℕ)) (p s : Option ℕ) (after : List Definition) (b : ℕ) → DeclaresComplex (place own space st) st.definitions d shape l p s after → shape_level_count shape ≤ suc n → b + (shape_type_count shape + 1) ≡ st.budget → Meets own (type_at (suc n) space d st) (schema_tree shape l p s, behind st after b)
  complex_meets own n space d st ShapeTree.null l p s after b h low left = absurd h
  complex_meets own n space d st ShapeTree.boolean l p s after b h low left = absurd h
  complex_meets own n space d st ShapeTree.int l p s after b h low left = absurd h
  complex_meets own n space d st ShapeTree.long l p s after b h low left = absurd h
  complex_meets own n space d st ShapeTree.float l p s after b h low left = absurd h
  complex_meets own n space d st ShapeTree.double l p s after b h low left = absurd h
  complex_meets own n space d st ShapeTree.bytes l p s after b h low left = absurd h
  complex_meets own n space d st ShapeTree.text l p s after b h low left = absurd h
  complex_meets own n space d st (ShapeTree.fixed_of name size) l p s after b (says, notes, named, sized, put) low left =
      object_meets own n space d (codes "fixed") st (fixed_type space d) _ says refl (omega (arith, left)) (inl (fixed_gives own space d (record st { budget = st.budget - 1 }) name size _ after b named sized (annotates d _ l p s notes) put (omega (arith, left))))
  complex_meets own n space d st (ShapeTree.enum_of name symbols) l p s after b (says, notes, named, (list, there, are), distinct, put) low left =
      object_meets own n space d (codes "enum") st (enum_type space d) _ says refl (omega (arith, left)) (inl (enum_gives own space d (record st { budget = st.budget - 1 }) name symbols _ after b named (symbols_give d list symbols there are distinct) (annotates d _ l p s notes) put (omega (arith, left))))
  complex_meets own n space d st (ShapeTree.array_of inner id) l p s after b (says, notes, (part, there, declared, identified)) low left =
      object_meets own n space d (codes "array") st (array_type (type_at n) space d) _ says refl (omega (arith, left)) (array_meets own n space d part (record st { budget = st.budget - 1 }) inner _ id after b there identified (annotates d _ l p s notes) (meets own n space part (record st { budget = st.budget - 1 }) inner after b declared (omega (arith, low)) (omega (arith, left))))
  complex_meets own n space d st (ShapeTree.map_of inner key value) l p s after b (says, notes, (part, there, declared, keyed, valued)) low left =
      object_meets own n space d (codes "map") st (map_type (type_at n) space d) _ says refl (omega (arith, left)) (map_meets own n space d part (record st { budget = st.budget - 1 }) inner _ key value after b there keyed valued (annotates d _ l p s notes) (meets own n space part (record st { budget = st.budget - 1 }) inner after b declared (omega (arith, low)) (omega (arith, left))))
  complex_meets own n space d st (ShapeTree.union_of ts) l p s after b (list, is, el, ep, es, declared) low left =
      let P : Reading SchemaRead → Type 0 = λ q. Meets own q (schema_tree (ShapeTree.union_of ts) l p s, behind st after b) in
      subst P (sym (union_at n space d list st is)) (union_meets own n space (items list) st ts l p s after b el ep es (omega (arith, left)) (branches_meet own n space (items list) (record st { budget = st.budget - 1 }) ts after b declared (omega (arith, low)) (omega (arith, left))))
  complex_meets own n space d st (ShapeTree.record_of name fs) l p s after b (says, notes, named, (list, between, there, declared, distinct, put)) low left =
      object_meets own n space d (codes "record") st (record_type (type_at n) space d) _ says refl (omega (arith, left)) (record_meets own n space d list (record st { budget = st.budget - 1 }) name fs _ between after b named there distinct (annotates d _ l p s notes) put (fields_meet own n (namespace_of name) (items list) (record { open_names = st.open_names ++ name ∷ []; definitions = st.definitions; budget = st.budget - 1 }) fs between b declared (omega (arith, low)) (omega (arith, left))))

  branches_meet : (own : OwnUse) (n : ℕ) (space : List ℕ) (ds : List Data) (st : State) (ts : BranchTrees) (after : List Definition) (b : ℕ) → DeclaresBranches (place own space st) st.definitions ds ts after → branch_level_count ts ≤ suc n → b + branch_type_count ts ≡ st.budget → Meets own (in_turn (single_type (suc n) (type_at n) space) ds st) (branch_list ts, behind st after b)
  branches_meet own n space [] st no_branches after b same low left =
      let rest : st.budget ≡ b = omega (arith, left) in
      inl (ap (λ (k : ℕ). Ok ([], behind st st.definitions k)) rest ∙ ap (λ (ds : List Definition). Ok ([], behind st ds b)) (sym same))
  branches_meet own n space [] st (branch t ts) after b h low left = absurd h
  branches_meet own n space (d ∷ ds) st no_branches after b h low left = absurd h
  branches_meet own n space (d ∷ ds) st (branch t ts) after b (no_list, (between, first, others)) low left =
      branch_meets own n space d ds st t ts between after (b + branch_type_count ts) b no_list (meets own (suc n) space d st t between (b + branch_type_count ts) first (omega (arith, low)) (omega (arith, left))) (branches_meet own n space ds (behind st between (b + branch_type_count ts)) ts after b others (omega (arith, low)) refl)

  fields_meet : (own : OwnUse) (n : ℕ) (space : List ℕ) (ds : List Data) (st : State) (fs : FieldTrees) (after : List Definition) (b : ℕ) → DeclaresFields (place own space st) st.definitions ds fs after → field_level_count fs ≤ n → b + field_type_count fs ≡ st.budget → Meets own (in_turn (field_type (type_at n) space) ds st) (field_list fs, behind st after b)
  fields_meet own n space [] st no_fields after b same low left =
      let rest : st.budget ≡ b = omega (arith, left) in
      inl (ap (λ (k : ℕ). Ok ([], behind st st.definitions k)) rest ∙ ap (λ (ds : List Definition). Ok ([], behind st ds b)) (sym same))
  fields_meet own n space [] st (field name t id fs) after b h low left = absurd h
  fields_meet own n space (d ∷ ds) st no_fields after b h low left = absurd h
  fields_meet own n space (d ∷ ds) st (field name t id fs) after b (named, identified, (part, between, typed, first, others)) low left =
      field_meets own n space d part ds st name t id fs between after (b + field_type_count fs) b named identified typed (meets own n space part st t between (b + field_type_count fs) first (omega (arith, low)) (omega (arith, left))) (fields_meet own n space ds (behind st between (b + field_type_count fs)) fs after b others (omega (arith, low)) refl)
