-- What is read is declared.
use Rattle.std.proofs.Common.{◌≡◌, ℕ, zero, suc, ◌+◌, ◌-◌, ◌<◌, ◌≤◌, Bool, true, false, ◌||◌, ◌&&◌, not, cond, List, [], ◌∷◌, ◌++◌, length, take, map, Option, Some, None, Ok, Err, ℤ, refl, ap, subst, ◌∙◌, inl, inr, arith, codes, is_some}
use Rattle.std.specs.Prelude.{nat_lt, ◌==◌}
use Rattle.std.specs.Str.{bytes_eq}
use Rattle.std.proofs.lemmas.Bool.{eqb-false, ltb-false, or_parts}
use Rattle.std.proofs.lemmas.Slice.Eq.{bytes_eq-Decides}
use Rattle.serde_json.specs.Data.{Data, null, boolean, number, string, array, object, Items}
use Rattle.serde_json.specs.Find.{get, as_str, as_array}
use Rattle.lake_basics.specs.Outcome.{◌>>=◌, each}
use Rattle.json_reading.specs.Json.{text_member, list_member, items, text}
use Rattle.avro_schema.specs.declared.error.SchemaFault.TheVariants.{BadSchema, Recursive}
use Rattle.avro_schema.specs.Tree.{SchemaTree, schema_tree, ShapeTree, branches_of, FieldTree, fields_of}
use Rattle.avro_schema.specs.Sizes.{level_count, shape_level_count, branch_level_count, field_level_count, type_count, shape_type_count, branch_type_count, field_type_count}
use Rattle.avro_schema.specs.Names.{full_name, namespace_of, primitive_of, is_name, definition_of, are_distinct}
use Rattle.avro_schema.specs.Reading.{Reading, State, SchemaRead, Reader, needed, checked, size_member, id_member, space_in, is_open, is_new, proper_name, new_name, counted, used_type, used_name, one_type, word_or_name, annotated, defined, fixed_type, symbols_in, enum_type, array_type, map_type, field_type, field_name, in_turn, record_type, other_type, object_type, single_type, union_type, type_by, type_at}
use Rattle.avro_schema.specs.Grammar.{Place, is_a_fault, IsNoComplexWord, IsPrimitive, SaysName, DefinesName, SaysType, field_names, Declares, DeclaresBranches, DeclaresFields}

abbrev pub place : List ℕ → State → Place
place space st = record { space = space; open_names = st.open_names; own_use = is_a_fault }

-- The schema was found in these levels, with so many of its types counted before.
pub record Found (space : List ℕ) (d : Data) (st : State) (t : SchemaTree) (after : State) (n : ℕ) (before : ℕ) : Type 0 where
  pub declares : Declares (place space st) st.definitions d t after.definitions
  pub same_open : after.open_names ≡ st.open_names
  pub levels : level_count t ≤ n
  pub types : after.budget + type_count t ≡ st.budget + before

abbrev pub Finds : Reader → ℕ → Type 0
Finds read n = (space : List ℕ) (d : Data) (st : State) (t : SchemaTree) (after : State) → read space d st ≡ Ok (t, after) → Found space d st t after n 0

-- ---- steps

pub bound : {A B : Type 0} (r : Reading A) (f : A → Reading B) (y : B) → (r >>= f) ≡ Ok y → (x : A) × (r ≡ Ok x) × (f x ≡ Ok y)
bound (Ok x) f y e = (x, refl, e)
bound (Err g) f y e = absurd cc

pub needed_is : {A : Type 0} (o : Option A) (x : A) → needed o ≡ Ok x → o ≡ Some x
needed_is None x e = absurd cc
needed_is (Some y) x e = cc

checked_is : (b : Bool) (u : Unit {0}) → checked b ≡ Ok u → b ≡ true
checked_is true u e = refl
checked_is false u e = absurd cc

counted_by : (f : State → Reading SchemaRead) (st : State) (x : SchemaRead) (b : Bool) → (st.budget == 0) ≡ b → (cond {A = Reading State} b (Err BadSchema) (Ok (record st { budget = st.budget - 1 })) >>= f) ≡ Ok x → (0 < st.budget) × (f (record st { budget = st.budget - 1 }) ≡ Ok x)
counted_by f st x true is e = absurd cc
counted_by f st x false is e = let some = eqb-false _ _ is in (omega (arith, some), e)

-- One type is counted, and then the type is found behind it.
counted_found : (f : State → Reading SchemaRead) (space : List ℕ) (d : Data) (st : State) (t : SchemaTree) (after : State) (n : ℕ) → ((s : State) → f s ≡ Ok (t, after) → Found space d s t after n 1) → (counted st >>= f) ≡ Ok (t, after) → Found space d st t after n 0
counted_found f space d st t after n found e =
    let c = counted_by f st (t, after) _ refl e in
    let h = found (record st { budget = st.budget - 1 }) c.1 in
    let types : after.budget + type_count t ≡ st.budget - 1 + 1 = h.types in
    record { declares = h.declares; same_open = h.same_open; levels = h.levels; types = omega (arith, types, c.0) }

pub ok_is : {A : Type 0} (x y : A) → ◌≡◌ {A = Reading A} (Ok x) (Ok y) → x ≡ y
ok_is x y e = cc

-- ---- primitive types

pub pick : (P : ShapeTree → Type 0) (b : Bool) (x shape : ShapeTree) (o : Option ShapeTree) → P x → (o ≡ Some shape → P shape) → cond b (Some x) o ≡ Some shape → P shape
pick P true x shape o here later e = let same : x ≡ shape = cc in subst P same here
pick P false x shape o here later e = later e

unfoldable pub IsLeaf : ShapeTree → Type 0
IsLeaf shape = (shape_type_count shape ≡ 0) × (shape_level_count shape ≡ 1)

no_shape : (shape : ShapeTree) → ◌≡◌ {A = Option ShapeTree} None (Some shape) → IsLeaf shape
no_shape shape e = absurd cc

pub leaf : (word : List ℕ) (shape : ShapeTree) → primitive_of word ≡ Some shape → IsLeaf shape
unfolding IsLeaf
leaf word shape = pick IsLeaf (bytes_eq word (codes "null")) ShapeTree.null shape _ (refl, refl) (pick IsLeaf (bytes_eq word (codes "boolean")) ShapeTree.boolean shape _ (refl, refl) (pick IsLeaf (bytes_eq word (codes "int")) ShapeTree.int shape _ (refl, refl) (pick IsLeaf (bytes_eq word (codes "long")) ShapeTree.long shape _ (refl, refl) (pick IsLeaf (bytes_eq word (codes "float")) ShapeTree.float shape _ (refl, refl) (pick IsLeaf (bytes_eq word (codes "double")) ShapeTree.double shape _ (refl, refl) (pick IsLeaf (bytes_eq word (codes "bytes")) ShapeTree.bytes shape _ (refl, refl) (pick IsLeaf (bytes_eq word (codes "string")) ShapeTree.text shape _ (refl, refl) (no_shape shape))))))))

leaf_found : (space : List ℕ) (d : Data) (st : State) (word : List ℕ) (shape : ShapeTree) (l : Option (List ℕ)) (p s : Option ℕ) (t : SchemaTree) (after : State) (n : ℕ) → IsPrimitive d (schema_tree shape l p s) → IsLeaf shape → one_type (schema_tree shape l p s) st ≡ Ok (t, after) → Found space d st t after (suc n) 0
unfolding IsLeaf
leaf_found space d st word shape l p s t after n says small e =
    let c = counted_by (λ next. Ok (schema_tree shape l p s, next)) st (t, after) _ refl e in
    let same : ◌≡◌ {A = SchemaRead} (schema_tree shape l p s, record st { budget = st.budget - 1 }) (t, after) = ok_is _ _ c.1 in
    let P : SchemaRead → Type 0 = λ x. Found space d st x.0 x.1 (suc n) 0 in
    subst P same (record { declares = inl (says, refl); same_open = refl; levels = omega (arith, small.1); types = omega (arith, small.0, c.0) })

fits_by : (space : List ℕ) (d : Data) (st : State) (name : List ℕ) (u t : SchemaTree) (after : State) (left : ℕ) (b : Bool) → (nat_lt left (level_count u) || nat_lt st.budget (type_count u)) ≡ b → Declares (place space st) st.definitions d u st.definitions → cond {A = Reading SchemaRead} b (Err BadSchema) (Ok (u, record st { budget = st.budget - type_count u })) ≡ Ok (t, after) → Found space d st t after left 0
fits_by space d st name u t after left true is declares e = absurd cc
fits_by space d st name u t after left false is declares e =
    let parts = or_parts _ _ is in
    let deep : level_count u ≤ left = ltb-false _ _ parts.0 in
    let many : type_count u ≤ st.budget = ltb-false _ _ parts.1 in
    let same : ◌≡◌ {A = SchemaRead} (u, record st { budget = st.budget - type_count u }) (t, after) = ok_is _ _ e in
    let P : SchemaRead → Type 0 = λ x. Found space d st x.0 x.1 left 0 in
    subst P same (record { declares = declares; same_open = refl; levels = deep; types = omega (arith, many) })

used_by : (space : List ℕ) (d : Data) (st : State) (name : List ℕ) (t : SchemaTree) (after : State) (left : ℕ) (o : Option SchemaTree) → SaysName d name → is_open (full_name space name) st ≡ false → definition_of (full_name space name) st.definitions ≡ o → used_type left o st ≡ Ok (t, after) → Found space d st t after left 0
used_by space d st name t after left None says closed is e = absurd cc
used_by space d st name t after left (Some (schema_tree shape l p s)) says closed is e = fits_by space d st name (schema_tree shape l p s) t after left _ refl (inr (inl (name, says, inl (closed, is), refl))) e

open_by : (space : List ℕ) (d : Data) (st : State) (name : List ℕ) (t : SchemaTree) (after : State) (left : ℕ) (b : Bool) → SaysName d name → is_open (full_name space name) st ≡ b → cond b (Err Recursive) (used_type left (definition_of (full_name space name) st.definitions) st) ≡ Ok (t, after) → Found space d st t after left 0
open_by space d st name t after left true says is e = absurd cc
open_by space d st name t after left false says is e = used_by space d st name t after left _ says is refl e

used_found : (space : List ℕ) (d : Data) (st : State) (name : List ℕ) (t : SchemaTree) (after : State) (left : ℕ) → SaysName d name → used_name left (full_name space name) st ≡ Ok (t, after) → Found space d st t after left 0
used_found space d st name t after left says e = open_by space d st name t after left _ says refl e

text_found : (n : ℕ) (space name : List ℕ) (st : State) (t : SchemaTree) (after : State) (o : Option ShapeTree) → primitive_of name ≡ o → word_or_name o (suc n) space name st ≡ Ok (t, after) → Found space (string name) st t after (suc n) 0
text_found n space name st t after (Some shape) is e = leaf_found space (string name) st name shape None None None t after n (name, is, inl (refl, refl, refl, refl)) (leaf name shape is) e
text_found n space name st t after None is e = used_found space (string name) st name t after (suc n) (is, inl refl) e

-- ---- definitions

proper_found : (d : Data) (own : List ℕ) → proper_name d ≡ Ok own → (text_member (codes "name") d ≡ Some own) × (is_name own ≡ true)
proper_found d own e =
    let a = bound (needed (text_member (codes "name") d)) _ _ e in
    let b = bound (checked (is_name a.0)) _ _ a.2 in
    let same : a.0 ≡ own = ok_is _ _ b.2 in
    let P : List ℕ → Type 0 = λ x. (text_member (codes "name") d ≡ Some x) × (is_name x ≡ true) in
    subst P same (needed_is _ _ a.1, checked_is _ _ b.1)

fresh_parts : (b : Bool) (o : Option SchemaTree) → (not b && not (is_some o)) ≡ true → (b ≡ false) × (o ≡ None)
fresh_parts true o e = absurd cc
fresh_parts false None e = (refl, refl)
fresh_parts false (Some t) e = absurd cc

pub name_found : (space : List ℕ) (d : Data) (st : State) (name : List ℕ) → new_name space d st ≡ Ok name → DefinesName (place space st) st.definitions d name
name_found space d st name e =
    let a = bound (proper_name d) _ _ e in
    let full = full_name (space_in (text_member (codes "namespace") d) space) a.0 in
    let b = bound (checked (is_new full st)) _ _ a.2 in
    let proper = proper_found d a.0 a.1 in
    let fresh = fresh_parts _ _ (checked_is _ _ b.1) in
    let same : full ≡ name = ok_is _ _ b.2 in
    let P : List ℕ → Type 0 = λ x. DefinesName (place space st) st.definitions d x in
    subst P same ((a.0, proper.0, proper.1, refl), fresh.0, fresh.1)

fixed_found : (n : ℕ) (space : List ℕ) (d : Data) (st : State) (t : SchemaTree) (after : State) → SaysType d (codes "fixed") → fixed_type space d st ≡ Ok (t, after) → Found space d st t after (suc n) 1
fixed_found n space d st t after says e =
    let a = bound (new_name space d st) _ _ e in
    let b = bound (needed (size_member (codes "size") d)) _ _ a.2 in
    let same : ◌≡◌ {A = SchemaRead} (defined a.0 (annotated d (ShapeTree.fixed_of a.0 b.0)) st) (t, after) = ok_is _ _ b.2 in
    let P : SchemaRead → Type 0 = λ x. Found space d st x.0 x.1 (suc n) 1 in
    subst P same (record { declares = inr (inr (says, (refl, refl, refl), name_found space d st a.0 a.1, needed_is _ _ b.1, refl)); same_open = refl; levels = omega arith; types = omega arith })

text_is : (d : Data) (x : List ℕ) → as_str d ≡ Some x → d ≡ string x
text_is null x e = absurd cc
text_is (boolean b) x e = absurd cc
text_is (number n) x e = absurd cc
text_is (string s) x e = let same : s ≡ x = cc in ap string same
text_is (array ds) x e = absurd cc
text_is (object ms) x e = absurd cc

texts_found : (ds : List Data) (ts : List (List ℕ)) → each (text BadSchema) ds ≡ Ok ts → ds ≡ map string ts
texts_found [] ts e = let same : [] ≡ ts = ok_is _ _ e in ap (map string) same
texts_found (d ∷ ds) ts e =
    let a = bound (text BadSchema d) _ _ e in
    let b = bound (each (text BadSchema) ds) _ _ a.2 in
    let same : a.0 ∷ b.0 ≡ ts = ok_is _ _ b.2 in
    let P : List (List ℕ) → Type 0 = λ x. d ∷ ds ≡ map string x in
    let here : d ≡ string a.0 = text_is d a.0 (needed_is _ _ a.1) in
    let there : ds ≡ map string b.0 = texts_found ds b.0 b.1 in
    subst P same (ap (λ (x : Data). x ∷ ds) here ∙ ap (λ (xs : List Data). string a.0 ∷ xs) there)

symbols_found : (d : Data) (symbols : List (List ℕ)) → symbols_in d ≡ Ok symbols → ((list : Items) × (list_member (codes "symbols") d ≡ Some list) × (items list ≡ map string symbols)) × (are_distinct symbols ≡ true)
symbols_found d symbols e =
    let a = bound (needed (list_member (codes "symbols") d)) _ _ e in
    let b = bound (each (text BadSchema) (items a.0)) _ _ a.2 in
    let c = bound (checked (are_distinct b.0)) _ _ b.2 in
    let same : b.0 ≡ symbols = ok_is _ _ c.2 in
    let P : List (List ℕ) → Type 0 = λ x. ((list : Items) × (list_member (codes "symbols") d ≡ Some list) × (items list ≡ map string x)) × (are_distinct x ≡ true) in
    subst P same ((a.0, needed_is _ _ a.1, texts_found (items a.0) b.0 b.1), checked_is _ _ c.1)

enum_found : (n : ℕ) (space : List ℕ) (d : Data) (st : State) (t : SchemaTree) (after : State) → SaysType d (codes "enum") → enum_type space d st ≡ Ok (t, after) → Found space d st t after (suc n) 1
enum_found n space d st t after says e =
    let a = bound (new_name space d st) _ _ e in
    let b = bound (symbols_in d) _ _ a.2 in
    let found = symbols_found d b.0 b.1 in
    let same : ◌≡◌ {A = SchemaRead} (defined a.0 (annotated d (ShapeTree.enum_of a.0 b.0)) st) (t, after) = ok_is _ _ b.2 in
    let P : SchemaRead → Type 0 = λ x. Found space d st x.0 x.1 (suc n) 1 in
    subst P same (record { declares = inr (inr (says, (refl, refl, refl), name_found space d st a.0 a.1, found.0, found.1, refl)); same_open = refl; levels = omega arith; types = omega arith })

-- ---- types with parts

array_found : (n : ℕ) → Finds (type_at n) n → (space : List ℕ) (d : Data) (st : State) (t : SchemaTree) (after : State) → SaysType d (codes "array") → array_type (type_at n) space d st ≡ Ok (t, after) → Found space d st t after (suc n) 1
array_found n finds space d st t after says e =
    let a = bound (needed (get (codes "items") d)) _ _ e in
    let b = bound (type_at n space a.0 st) _ _ a.2 in
    let c = bound (id_member (codes "element-id") d) _ _ b.2 in
    let h = finds space a.0 st b.0.0 b.0.1 b.1 in
    let levels : level_count b.0.0 ≤ n = h.levels in
    let types : b.0.1.budget + type_count b.0.0 ≡ st.budget + 0 = h.types in
    let same : ◌≡◌ {A = SchemaRead} (annotated d (ShapeTree.array_of b.0.0 c.0), b.0.1) (t, after) = ok_is _ _ c.2 in
    let P : SchemaRead → Type 0 = λ x. Found space d st x.0 x.1 (suc n) 1 in
    subst P same (record { declares = inr (inr (says, (refl, refl, refl), (a.0, needed_is _ _ a.1, h.declares, c.1))); same_open = h.same_open; levels = omega (arith, levels); types = omega (arith, types) })

map_found : (n : ℕ) → Finds (type_at n) n → (space : List ℕ) (d : Data) (st : State) (t : SchemaTree) (after : State) → SaysType d (codes "map") → map_type (type_at n) space d st ≡ Ok (t, after) → Found space d st t after (suc n) 1
map_found n finds space d st t after says e =
    let a = bound (needed (get (codes "values") d)) _ _ e in
    let b = bound (type_at n space a.0 st) _ _ a.2 in
    let c = bound (id_member (codes "key-id") d) _ _ b.2 in
    let v = bound (id_member (codes "value-id") d) _ _ c.2 in
    let h = finds space a.0 st b.0.0 b.0.1 b.1 in
    let levels : level_count b.0.0 ≤ n = h.levels in
    let types : b.0.1.budget + type_count b.0.0 ≡ st.budget + 0 = h.types in
    let same : ◌≡◌ {A = SchemaRead} (annotated d (ShapeTree.map_of b.0.0 c.0 v.0), b.0.1) (t, after) = ok_is _ _ v.2 in
    let P : SchemaRead → Type 0 = λ x. Found space d st x.0 x.1 (suc n) 1 in
    subst P same (record { declares = inr (inr (says, (refl, refl, refl), (a.0, needed_is _ _ a.1, h.declares, c.1, v.1))); same_open = h.same_open; levels = omega (arith, levels); types = omega (arith, types) })

record FieldsFound (space : List ℕ) (ds : List Data) (st : State) (fs : List FieldTree) (after : State) (n : ℕ) : Type 0 where
  declares : DeclaresFields (place space st) st.definitions ds (fields_of fs) after.definitions
  same_open : after.open_names ≡ st.open_names
  levels : field_level_count (fields_of fs) ≤ n
  types : after.budget + field_type_count (fields_of fs) ≡ st.budget
  names : field_names (fields_of fs) ≡ map field_name fs

fields_after : (space : List ℕ) (d : Data) (ds : List Data) (st : State) (name : List ℕ) (part : Data) (t : SchemaTree) (id : Option ℤ) (next : State) (fs : List FieldTree) (after : State) (n : ℕ) → text_member (codes "name") d ≡ Some name → get (codes "type") d ≡ Some part → id_member (codes "field-id") d ≡ Ok id → Found space part st t next n 0 → FieldsFound space ds next fs after n → FieldsFound space (d ∷ ds) st ((name, t, id) ∷ fs) after n
fields_after space d ds st name part t id next fs after n named typed identified h rest =
    let levels : level_count t ≤ n = h.levels in
    let levels_rest : field_level_count (fields_of fs) ≤ n = rest.levels in
    let types : next.budget + type_count t ≡ st.budget + 0 = h.types in
    let types_rest : after.budget + field_type_count (fields_of fs) ≡ next.budget = rest.types in
    let O : List (List ℕ) → Type 0 = λ o. DeclaresFields (record { space = space; open_names = o; own_use = is_a_fault }) next.definitions ds (fields_of fs) after.definitions in
    record {
      declares = (named, identified, (part, next.definitions, typed, h.declares, subst O h.same_open rest.declares));
      same_open = rest.same_open ∙ h.same_open;
      levels = omega (arith, levels, levels_rest);
      types = omega (arith, types, types_rest);
      names = ap (λ (xs : List (List ℕ)). name ∷ xs) rest.names;
    }

fields_found : (n : ℕ) → Finds (type_at n) n → (space : List ℕ) (ds : List Data) (st : State) (fs : List FieldTree) (after : State) → in_turn (field_type (type_at n) space) ds st ≡ Ok (fs, after) → FieldsFound space ds st fs after n
fields_found n finds space [] st fs after e =
    let same : ◌≡◌ {A = List FieldTree × State} ([], st) (fs, after) = ok_is _ _ e in
    let P : List FieldTree × State → Type 0 = λ x. FieldsFound space [] st x.0 x.1 n in
    subst P same (record { declares = refl; same_open = refl; levels = omega arith; types = omega arith; names = refl })
fields_found n finds space (d ∷ ds) st fs after e =
    let one = bound (field_type (type_at n) space d st) _ _ e in
    let name = bound (needed (text_member (codes "name") d)) _ _ one.1 in
    let part = bound (needed (get (codes "type") d)) _ _ name.2 in
    let t = bound (type_at n space part.0 st) _ _ part.2 in
    let id = bound (id_member (codes "field-id") d) _ _ t.2 in
    let more = bound (in_turn (field_type (type_at n) space) ds one.0.1) _ _ one.2 in
    let h = finds space part.0 st t.0.0 t.0.1 t.1 in
    let rest = fields_found n finds space ds one.0.1 more.0.0 more.0.1 more.1 in
    let field_same : ◌≡◌ {A = FieldTree × State} ((name.0, t.0.0, id.0), t.0.1) one.0 = ok_is _ _ id.2 in
    let same : ◌≡◌ {A = List FieldTree × State} (one.0.0 ∷ more.0.0, more.0.1) (fs, after) = ok_is _ _ more.2 in
    let P : List FieldTree × State → Type 0 = λ x. FieldsFound space (d ∷ ds) st x.0 x.1 n in
    let Q : FieldTree × State → Type 0 = λ x. FieldsFound space ds x.1 more.0.0 more.0.1 n → FieldsFound space (d ∷ ds) st (x.0 ∷ more.0.0) more.0.1 n in
    subst P same (subst Q field_same (fields_after space d ds st name.0 part.0 t.0.0 id.0 t.0.1 more.0.0 more.0.1 n (needed_is _ _ name.1) (needed_is _ _ part.1) id.1 h) rest)

-- ---- all of them

pub chosen : {R : Type 0} (P : Type 0) (b : Bool) (x y z : R) → (b ≡ true → x ≡ z → P) → (b ≡ false → y ≡ z → P) → cond b x y ≡ z → P
chosen P true x y z f g e = f refl e
chosen P false x y z f g e = g refl e

pub take_front : (xs ys : List (List ℕ)) → take (length xs) (xs ++ ys) ≡ xs
take_front [] ys = refl
take_front (x ∷ xs) ys = ap (λ (zs : List (List ℕ)). x ∷ zs) (take_front xs ys)

record_found : (n : ℕ) → Finds (type_at n) n → (space : List ℕ) (d : Data) (st : State) (t : SchemaTree) (after : State) → SaysType d (codes "record") → record_type (type_at n) space d st ≡ Ok (t, after) → Found space d st t after (suc n) 1
record_found n finds space d st t after says e =
    let a = bound (new_name space d st) _ _ e in
    let b = bound (needed (list_member (codes "fields") d)) _ _ a.2 in
    let within : State = record st { open_names = st.open_names ++ a.0 ∷ [] } in
    let c = bound (in_turn (field_type (type_at n) (namespace_of a.0)) (items b.0) within) _ _ b.2 in
    let k = bound (checked (are_distinct (map field_name c.0.0))) _ _ c.2 in
    let h = fields_found n finds (namespace_of a.0) (items b.0) within c.0.0 c.0.1 c.1 in
    let behind : State = record c.0.1 { open_names = take (length st.open_names) c.0.1.open_names } in
    let same : ◌≡◌ {A = SchemaRead} (defined a.0 (annotated d (ShapeTree.record_of a.0 (fields_of c.0.0))) behind) (t, after) = ok_is _ _ k.2 in
    let levels : field_level_count (fields_of c.0.0) ≤ n = h.levels in
    let types : c.0.1.budget + field_type_count (fields_of c.0.0) ≡ st.budget = h.types in
    let distinct : are_distinct (field_names (fields_of c.0.0)) ≡ true = ap are_distinct h.names ∙ checked_is _ _ k.1 in
    let P : SchemaRead → Type 0 = λ x. Found space d st x.0 x.1 (suc n) 1 in
    subst P same (record {
      declares = inr (inr (says, (refl, refl, refl), name_found space d st a.0 a.1, (b.0, c.0.1.definitions, needed_is _ _ b.1, h.declares, distinct, refl)));
      same_open = ap (take (length st.open_names)) h.same_open ∙ take_front st.open_names (a.0 ∷ []);
      levels = omega (arith, levels);
      types = omega (arith, types);
    })

other_found : (n : ℕ) (space : List ℕ) (d : Data) (word : List ℕ) (st : State) (t : SchemaTree) (after : State) (o : Option ShapeTree) → SaysType d word → IsNoComplexWord word → primitive_of word ≡ o → other_type o (suc n) space d word st ≡ Ok (t, after) → Found space d st t after (suc n) 0
other_found n space d word st t after (Some shape) says plain is e = leaf_found space d st word shape _ _ _ t after n (word, is, inr (says, plain, (refl, refl, refl))) (leaf word shape is) e
other_found n space d word st t after None says plain is e = used_found space d st word t after (suc n) (is, inr (says, plain)) e

pub word_is : (d : Data) (word other : List ℕ) → SaysType d word → bytes_eq word other ≡ true → SaysType d other
word_is d word other says same = says ∙ ap Some ((bytes_eq-Decides word other).0 same)

object_found : (n : ℕ) → Finds (type_at n) n → (space : List ℕ) (d : Data) (word : List ℕ) (st : State) (t : SchemaTree) (after : State) → SaysType d word → object_type (suc n) (type_at n) space d word st ≡ Ok (t, after) → Found space d st t after (suc n) 0
object_found n finds space d word st t after says =
    let P = Found space d st t after (suc n) 0 in
    chosen P (bytes_eq word (codes "record")) _ _ _ (λ is r. counted_found _ space d st t after (suc n) (λ s f. record_found n finds space d s t after (word_is d word _ says is) f) r) (λ no0.
    chosen P (bytes_eq word (codes "enum")) _ _ _ (λ is r. counted_found _ space d st t after (suc n) (λ s f. enum_found n space d s t after (word_is d word _ says is) f) r) (λ no1.
    chosen P (bytes_eq word (codes "fixed")) _ _ _ (λ is r. counted_found _ space d st t after (suc n) (λ s f. fixed_found n space d s t after (word_is d word _ says is) f) r) (λ no2.
    chosen P (bytes_eq word (codes "array")) _ _ _ (λ is r. counted_found _ space d st t after (suc n) (λ s f. array_found n finds space d s t after (word_is d word _ says is) f) r) (λ no3.
    chosen P (bytes_eq word (codes "map")) _ _ _ (λ is r. counted_found _ space d st t after (suc n) (λ s f. map_found n finds space d s t after (word_is d word _ says is) f) r) (λ no4 r.
    other_found n space d word st t after _ says (no0, no1, no2, no3, no4) refl r)))))

pub single_found : (n : ℕ) → Finds (type_at n) n → (space : List ℕ) (d : Data) (st : State) (t : SchemaTree) (after : State) → single_type (suc n) (type_at n) space d st ≡ Ok (t, after) → Found space d st t after (suc n) 0
single_found n finds space null st t after e = absurd cc
single_found n finds space (boolean b) st t after e = absurd cc
single_found n finds space (number x) st t after e = absurd cc
single_found n finds space (string name) st t after e = text_found n space name st t after _ refl e
single_found n finds space (array ds) st t after e = absurd cc
single_found n finds space (object ms) st t after e =
    let a = bound (needed (text_member (codes "type") (object ms))) _ _ e in
    object_found n finds space (object ms) a.0 st t after (needed_is _ _ a.1) a.2

no_array : (n : ℕ) (space : List ℕ) (d : Data) (st : State) (x : SchemaRead) → single_type (suc n) (type_at n) space d st ≡ Ok x → as_array d ≡ None
no_array n space null st x e = refl
no_array n space (boolean b) st x e = refl
no_array n space (number y) st x e = refl
no_array n space (string name) st x e = refl
no_array n space (array ds) st x e = absurd cc
no_array n space (object ms) st x e = refl

record BranchesFound (space : List ℕ) (ds : List Data) (st : State) (ts : List SchemaTree) (after : State) (n : ℕ) : Type 0 where
  declares : DeclaresBranches (place space st) st.definitions ds (branches_of ts) after.definitions
  same_open : after.open_names ≡ st.open_names
  levels : branch_level_count (branches_of ts) ≤ n
  types : after.budget + branch_type_count (branches_of ts) ≡ st.budget

branches_found : (n : ℕ) → Finds (type_at n) n → (space : List ℕ) (ds : List Data) (st : State) (ts : List SchemaTree) (after : State) → in_turn (single_type (suc n) (type_at n) space) ds st ≡ Ok (ts, after) → BranchesFound space ds st ts after (suc n)
branches_found n finds space [] st ts after e =
    let same : ◌≡◌ {A = List SchemaTree × State} ([], st) (ts, after) = ok_is _ _ e in
    let P : List SchemaTree × State → Type 0 = λ x. BranchesFound space [] st x.0 x.1 (suc n) in
    subst P same (record { declares = refl; same_open = refl; levels = omega arith; types = omega arith })
branches_found n finds space (d ∷ ds) st ts after e =
    let one = bound (single_type (suc n) (type_at n) space d st) _ _ e in
    let more = bound (in_turn (single_type (suc n) (type_at n) space) ds one.0.1) _ _ one.2 in
    let h = single_found n finds space d st one.0.0 one.0.1 one.1 in
    let rest = branches_found n finds space ds one.0.1 more.0.0 more.0.1 more.1 in
    let levels : level_count one.0.0 ≤ suc n = h.levels in
    let levels_rest : branch_level_count (branches_of more.0.0) ≤ suc n = rest.levels in
    let types : one.0.1.budget + type_count one.0.0 ≡ st.budget + 0 = h.types in
    let types_rest : more.0.1.budget + branch_type_count (branches_of more.0.0) ≡ one.0.1.budget = rest.types in
    let same : ◌≡◌ {A = List SchemaTree × State} (one.0.0 ∷ more.0.0, more.0.1) (ts, after) = ok_is _ _ more.2 in
    let O : List (List ℕ) → Type 0 = λ o. DeclaresBranches (record { space = space; open_names = o; own_use = is_a_fault }) one.0.1.definitions ds (branches_of more.0.0) more.0.1.definitions in
    let P : List SchemaTree × State → Type 0 = λ x. BranchesFound space (d ∷ ds) st x.0 x.1 (suc n) in
    subst P same (record {
      declares = (no_array n space d st one.0 one.1, (one.0.1.definitions, h.declares, subst O h.same_open rest.declares));
      same_open = rest.same_open ∙ h.same_open;
      levels = omega (arith, levels, levels_rest);
      types = omega (arith, types, types_rest);
    })

union_found : (n : ℕ) → Finds (type_at n) n → (space : List ℕ) (d : Data) (list : Items) (st : State) (t : SchemaTree) (after : State) → as_array d ≡ Some list → union_type (single_type (suc n) (type_at n)) space (items list) st ≡ Ok (t, after) → Found space d st t after (suc n) 0
union_found n finds space d list st t after is =
    counted_found _ space d st t after (suc n) (λ s e.
    let b = bound (in_turn (single_type (suc n) (type_at n) space) (items list) s) _ _ e in
    let h = branches_found n finds space (items list) s b.0.0 b.0.1 b.1 in
    let same : ◌≡◌ {A = SchemaRead} (schema_tree (ShapeTree.union_of (branches_of b.0.0)) None None None, b.0.1) (t, after) = ok_is _ _ b.2 in
    let levels : branch_level_count (branches_of b.0.0) ≤ suc n = h.levels in
    let types : b.0.1.budget + branch_type_count (branches_of b.0.0) ≡ s.budget = h.types in
    let P : SchemaRead → Type 0 = λ x. Found space d s x.0 x.1 (suc n) 1 in
    subst P same (record { declares = inr (inr (list, is, refl, refl, refl, h.declares)); same_open = h.same_open; levels = omega (arith, levels); types = omega (arith, types) }))

type_found : (n : ℕ) → Finds (type_at n) n → (space : List ℕ) (d : Data) (o : Option Items) (st : State) (t : SchemaTree) (after : State) → as_array d ≡ o → type_by o (suc n) (type_at n) space d st ≡ Ok (t, after) → Found space d st t after (suc n) 0
type_found n finds space d None st t after is e = single_found n finds space d st t after e
type_found n finds space d (Some list) st t after is e = union_found n finds space d list st t after is e

pub finds : (n : ℕ) → Finds (type_at n) n
unfolding type_at
finds zero space d st t after e = absurd cc
finds (suc n) space d st t after e = type_found n (finds n) space d _ st t after refl e
