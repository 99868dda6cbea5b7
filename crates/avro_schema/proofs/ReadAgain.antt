-- What a text declares can be written, and nests no deeper then.
use Rattle.std.proofs.Common.{◌≡◌, ℕ, suc, ◌+◌, ◌≤◌, ◌⊎◌, ℤ, pos, negsuc, Bool, true, false, ◌&&◌, not, cond, length, ◌==◌, max, List, [], ◌∷◌, ◌++◌, map, Option, None, Some, Ok, option_map, is_some, refl, ap, sym, subst, ◌∙◌, inl, inr, codes, IfSome, arith, eqb, ne_eqb}
use Rattle.std.specs.Prelude.{option_and_then, nat_le}
use Rattle.std.specs.List.{AllByRecursion}
use Rattle.std.specs.Str.{bytes_eq, is_utf8}
use Rattle.std.specs.declared.cmp.Ordering.{Ordering}
use Rattle.std.specs.declared.cmp.Ordering.TheVariants.{Less, Equal, Greater}
use Rattle.std.specs.Ordering.{nat_cmp, match_ordering}
use Rattle.std.specs.Cmp.Lexicographic.{slice_cmp}
use Rattle.std.proofs.lemmas.Bool.{leb-true, or_right}
use Rattle.std.proofs.lemmas.List.{length-append}
use Rattle.std.proofs.lemmas.Slice.Eq.{bytes_eq-Decides}
use Rattle.serde_json.specs.Data.{Data, null, boolean, number, string, array, object, Items, no_items, item, Members, no_members, member, put, depth, items_depth, members_depth}
use Rattle.serde_json.specs.Find.{get, get_member, as_array, as_str}
use Rattle.serde_json.specs.View.{items_of}
use Rattle.serde_json.specs.Read.{read, max_depth}
use Rattle.serde_json.proofs.Nesting.{depth-read}
use Rattle.json_reading.specs.Json.{json, text_member, list_member, items, int, whole}
use Rattle.avro_schema.specs.Tree.{SchemaTree, schema_tree, ShapeTree, BranchTrees, no_branches, branch, FieldTrees, no_fields, field}
use Rattle.avro_schema.specs.Names.{dot, has_dot, full_name, namespace_of, primitive_of, is_name, Definition, definition_of, with_definition}
use Rattle.avro_schema.specs.Reading.{size_member, below_2_31, id_in, needed, space_in}
use Rattle.avro_schema.specs.Grammar.{Place, top, is_a_fault, inside, IsOutside, Annotates, IsPrimitive, SaysName, StandsFor, DefinesName, Declares, DeclaresBranches, DeclaresFields, IsSchemaText}
use Rattle.avro_schema.specs.Writing.{Written, put_some, id_json, size_json, with_annotations, type_members, primitive_json, is_written, named_members, array_members, map_members, fixed_members, enum_members, record_members, schema_json, branches_json, fields_json}
use Rattle.avro_schema.specs.Spelled.{IsSize, IsId, IsNoUnion, IsFree, IsKnown, Stands, BranchesStand, FieldsStand, IsSpelled}
use Rattle.avro_schema.proofs.Sound.{pick, ok_is}
use Rattle.avro_schema.proofs.Respelled.{names_of, known_written, spelt}
use Rattle.avro_schema.proofs.Depths.{none, itself, flat_list, array_deep, deep_put, deep_put_id, deep_type, deep_named, deep_texts, deep_object, deep_primitive, deep_definition}

-- ---- numbers

size_by : (n : ℕ) (b : Bool) → nat_le n 2147483647 ≡ b → IfSome (cond b (Some n) None) IsSize
size_by n true e = leb-true _ _ e
size_by n false e = tt

size_in : (o : Option ℤ) → IfSome (option_and_then below_2_31 o) IsSize
size_in None = tt
size_in (Some (pos n)) = size_by n (nat_le n 2147483647) refl
size_in (Some (negsuc n)) = tt

size_small : (name : List ℕ) (d : Data) (o : Option ℕ) → size_member name d ≡ o → IfSome o IsSize
size_small name d o e = subst (λ (x : Option ℕ). IfSome x IsSize) e (size_in (option_and_then whole (get name d)))

id_by : (z y : ℤ) (b : Bool) → (b ≡ true → IsId y) → cond b (Some y) None ≡ Some z → IsId z
id_by z y true small e = let same : y ≡ z = cc in subst IsId same (small refl)
id_by z y false small e = absurd cc

by_sign : (f : ℤ → Option ℤ) (o : Option ℤ) (z : ℤ) → ((n : ℕ) → f (pos n) ≡ Some z → IsId z) → ((n : ℕ) → f (negsuc n) ≡ Some z → IsId z) → option_and_then f o ≡ Some z → IsId z
by_sign f None z up down e = absurd cc
by_sign f (Some (pos n)) z up down e = up n e
by_sign f (Some (negsuc n)) z up down e = down n e

int_small : (d : Data) (z : ℤ) → int d ≡ Some z → IsId z
int_small d z e = by_sign _ (whole d) z (λ n h. id_by z (pos n) (nat_le n 2147483647) (λ q. leb-true _ _ q) h) (λ n h. id_by z (negsuc n) (nat_le n 2147483647) (λ q. leb-true _ _ q) h) e

id_known : (o : Option ℤ) (id : Option ℤ) → ((z : ℤ) → o ≡ Some z → IsId z) → needed (option_map Some o) ≡ Ok id → IfSome id IsId
id_known None id small e = absurd cc
id_known (Some z) id small e = let same : Some z ≡ id = ok_is (Some z) id e in subst (λ (x : Option ℤ). IfSome x IsId) same (small z refl)

id_small : (o : Option Data) (id : Option ℤ) → id_in o ≡ Ok id → IfSome id IsId
id_small None id e = let same : None ≡ id = ok_is None id e in subst (λ (x : Option ℤ). IfSome x IsId) same tt
id_small (Some d) id e = id_known (int d) id (int_small d) e

-- ---- names

dot_inside : (xs ys : List ℕ) → has_dot (xs ++ dot ∷ ys) ≡ true
dot_inside [] ys = refl
dot_inside (x ∷ xs) ys = or_right (x == dot) (has_dot (xs ++ dot ∷ ys)) (dot_inside xs ys)

other_word : (word other : List ℕ) → has_dot word ≡ true → has_dot other ≡ false → bytes_eq word other ≡ false
other_word word other dotted none = go (bytes_eq word other) refl
  where
    go : (b : Bool) → bytes_eq word other ≡ b → bytes_eq word other ≡ false
    go true e = let same = (bytes_eq-Decides word other).0 e in let both : true ≡ false = sym dotted ∙ ap has_dot same ∙ none in absurd cc
    go false e = e

no_primitive : (word : List ℕ) → has_dot word ≡ true → primitive_of word ≡ None
no_primitive word d = rw (other_word word (codes "null") d refl, other_word word (codes "boolean") d refl, other_word word (codes "int") d refl, other_word word (codes "long") d refl, other_word word (codes "float") d refl, other_word word (codes "double") d refl, other_word word (codes "bytes") d refl, other_word word (codes "string") d refl) refl

-- a full name is the name alone, or is dotted
full_is : (space name : List ℕ) → (full_name space name ≡ name) ⊎ (full_name space name ≡ space ++ dot ∷ name)
full_is space name = go (has_dot name) (length space == 0)
  where
    go : (b c : Bool) → (cond b name (cond c name (space ++ dot ∷ name)) ≡ name) ⊎ (cond b name (cond c name (space ++ dot ∷ name)) ≡ space ++ dot ∷ name)
    go true c = inl refl
    go false true = inl refl
    go false false = inr refl

full_twice : (space name : List ℕ) → full_name space (full_name space name) ≡ full_name space name
full_twice space name = elim (full_is space name) [
  | inl alone ↦ ap (full_name space) alone
  | inr dotted ↦ (let whole : full_name space (space ++ dot ∷ name) ≡ space ++ dot ∷ name = rw (dot_inside space name) refl in ap (full_name space) dotted ∙ whole ∙ sym dotted)
]

full_is_name : (space name : List ℕ) → is_name name ≡ true → is_name (full_name space name) ≡ true
full_is_name space name h = elim (full_is space name) [
  | inl alone ↦ ap is_name alone ∙ h
  | inr dotted ↦
      (let some : eqb (length (space ++ dot ∷ name)) 0 ≡ false = ne_eqb _ 0 (λ z. absurd (omega (arith, z, length-append space (dot ∷ name)))) in
      let whole : is_name (space ++ dot ∷ name) ≡ true = rw (some, no_primitive (space ++ dot ∷ name) (dot_inside space name)) refl in
      ap is_name dotted ∙ whole)
]

name_no_primitive : (name : List ℕ) → is_name name ≡ true → primitive_of name ≡ None
name_no_primitive name h = go (primitive_of name) refl (not (length name == 0)) h
  where
    go : (o : Option ShapeTree) → primitive_of name ≡ o → (a : Bool) → (a && not (is_some (primitive_of name))) ≡ true → primitive_of name ≡ None
    go None e a q = e
    go (Some shape) e true q = absurd (let both : false ≡ true = sym (ap (λ (x : Option ShapeTree). not (is_some x)) e) ∙ q in cc)
    go (Some shape) e false q = absurd cc

-- ---- definitions

abbrev own_name : ShapeTree → Option (List ℕ)
own_name (ShapeTree.fixed_of name size) = Some name
own_name (ShapeTree.enum_of name symbols) = Some name
own_name (ShapeTree.record_of name fs) = Some name
own_name _ = None

abbrev HaveSizes : Option ℕ → Option ℕ → Type 0
HaveSizes p s = IfSome p IsSize × IfSome s IsSize

-- The name is of the grammar, and is the type's own.
abbrev IsOwn : List ℕ → SchemaTree → Type 0
IsOwn name (schema_tree shape l p s) = (is_name name ≡ true) × (own_name shape ≡ Some name) × HaveSizes p s

abbrev AreOwn : List Definition → Type 0
AreOwn = AllByRecursion (λ d. IsOwn d.0 d.1)

own_of : (ds : List Definition) (name : List ℕ) (t : SchemaTree) → AreOwn ds → definition_of name ds ≡ Some t → IsOwn name t
own_of [] name t all e = absurd cc
own_of (d ∷ ds) name t all e = go (bytes_eq name d.0) refl e (own_of ds name t all.1)
  where
    go : (b : Bool) → bytes_eq name d.0 ≡ b → cond b (Some d.1) (definition_of name ds) ≡ Some t → (definition_of name ds ≡ Some t → IsOwn name t) → IsOwn name t
    go true q h later =
        let same : name ≡ d.0 = (bytes_eq-Decides name d.0).0 q in
        let type : d.1 ≡ t = cc in
        subst (IsOwn name) type (subst (λ (x : List ℕ). IsOwn x d.1) (sym same) all.0)
    go false q h later = later h

own_with : (ds : List Definition) (name : List ℕ) (t : SchemaTree) → AreOwn ds → IsOwn name t → AreOwn (with_definition name t ds)
own_with [] name t all h = (h, tt)
own_with (d ∷ ds) name t all h = go (bytes_eq name d.0) refl (own_with ds name t all.1 h)
  where
    go : (b : Bool) → bytes_eq name d.0 ≡ b → AreOwn (with_definition name t ds) → AreOwn (cond b ((d.0, t) ∷ ds) (d ∷ with_definition name t ds))
    go true q later = (subst (λ (x : List ℕ). IsOwn x t) ((bytes_eq-Decides name d.0).0 q) h, all.1)
    go false q later = (all.0, later)

-- ---- depths

member_deep : (k : List ℕ) (ms : Members) (e : Data) → get_member k ms ≡ Some e → depth e ≤ members_depth ms
member_deep k no_members e q = absurd cc
member_deep k (member l f ms) e q = go (slice_cmp nat_cmp k l) q (member_deep k ms e)
  where
    go : (o : Ordering) → match_ordering o (get_member k ms) (Some f) (get_member k ms) ≡ Some e → (get_member k ms ≡ Some e → depth e ≤ members_depth ms) → depth e ≤ members_depth (member l f ms)
    go Less h later = let below = later h in omega (arith, below)
    go Equal h later = let same : f ≡ e = cc in omega (arith, ap depth same)
    go Greater h later = let below = later h in omega (arith, below)

get_deep : (k : List ℕ) (d e : Data) → get k d ≡ Some e → suc (depth e) ≤ depth d
get_deep k null e q = absurd cc
get_deep k (boolean b) e q = absurd cc
get_deep k (number n) e q = absurd cc
get_deep k (string s) e q = absurd cc
get_deep k (array ds) e q = absurd cc
get_deep k (object ms) e q = let h = member_deep k ms e q in omega (arith, h)

abbrev all_depth : List Data → ℕ
all_depth [] = 0
all_depth (d ∷ ds) = max (depth d) (all_depth ds)

items_deep : (list : Items) → items_depth list ≡ all_depth (items list)
items_deep no_items = refl
items_deep (item d ds) = ap (max (depth d)) (items_deep ds)

array_depth : (d : Data) (list : Items) → as_array d ≡ Some list → depth d ≡ suc (all_depth (items list))
array_depth null list e = absurd cc
array_depth (boolean b) list e = absurd cc
array_depth (number n) list e = absurd cc
array_depth (string s) list e = absurd cc
array_depth (array ds) list e = let same : ds ≡ list = cc in ap suc (ap items_depth same ∙ items_deep list)
array_depth (object ms) list e = absurd cc

list_deep : (k : List ℕ) (d : Data) (list : Items) → list_member k d ≡ Some list → all_depth (items list) + 2 ≤ depth d
list_deep k d list e = go (get k d) refl e
  where
    go : (o : Option Data) → get k d ≡ o → option_and_then as_array o ≡ Some list → all_depth (items list) + 2 ≤ depth d
    go None q h = absurd cc
    go (Some x) q h = let a = array_depth x list h in let b = get_deep k d x q in omega (arith, a, b)

text_deep : (k : List ℕ) (d : Data) (word : List ℕ) → text_member k d ≡ Some word → 1 ≤ depth d
text_deep k d word e = go (get k d) refl e
  where
    go : (o : Option Data) → get k d ≡ o → option_and_then as_str o ≡ Some word → 1 ≤ depth d
    go None q h = absurd cc
    go (Some x) q h = let b = get_deep k d x q in omega (arith, b)

through : (a b c : ℕ) → a ≤ b → b ≤ c → a ≤ c
through a b c h k = omega (arith, h, k)

in_part : (x inner part d : ℕ) → x ≤ inner + 1 → inner ≤ part → suc part ≤ d → x ≤ d
in_part x inner part d h k r = omega (arith, h, k, r)

in_list : (x all d : ℕ) → x ≤ all → d ≡ suc all → suc x ≤ d
in_list x all d h e = omega (arith, h, e)

in_record : (x fields all d : ℕ) → x ≤ fields + 1 + 1 → fields ≤ all → all + 2 ≤ d → x ≤ d
in_record x fields all d h k r = omega (arith, h, k, r)

in_both : (a b c d : ℕ) → a ≤ c → b ≤ d → max a b ≤ max c d
in_both a b c d h k = omega (arith, h, k)

in_field : (x inner part d : ℕ) → x ≤ inner → inner ≤ part → suc part ≤ d → suc x ≤ d
in_field x inner part d h k r = omega (arith, h, k, r)

-- ---- one type

-- The type can be written at the place, no deeper than that, and each name that is defined behind it is its type's own.
record IsAgain (at : Place) (before : List Definition) (t : SchemaTree) (after : List Definition) (n : ℕ) : Type 0 where
  pub stands : Stands at before t after
  pub own : AreOwn after
  pub deep : depth (schema_json t at.space (names_of before)).0 ≤ n

abbrev IsWord : ShapeTree → Type 0
IsWord ShapeTree.null = Unit {0}
IsWord ShapeTree.boolean = Unit {0}
IsWord ShapeTree.int = Unit {0}
IsWord ShapeTree.long = Unit {0}
IsWord ShapeTree.float = Unit {0}
IsWord ShapeTree.double = Unit {0}
IsWord ShapeTree.bytes = Unit {0}
IsWord ShapeTree.text = Unit {0}
IsWord _ = ⊥

no_word : (shape : ShapeTree) → ◌≡◌ {A = Option ShapeTree} None (Some shape) → IsWord shape
no_word shape e = absurd cc

is_word : (word : List ℕ) (shape : ShapeTree) → primitive_of word ≡ Some shape → IsWord shape
is_word word shape = pick IsWord (bytes_eq word (codes "null")) ShapeTree.null shape _ tt (pick IsWord (bytes_eq word (codes "boolean")) ShapeTree.boolean shape _ tt (pick IsWord (bytes_eq word (codes "int")) ShapeTree.int shape _ tt (pick IsWord (bytes_eq word (codes "long")) ShapeTree.long shape _ tt (pick IsWord (bytes_eq word (codes "float")) ShapeTree.float shape _ tt (pick IsWord (bytes_eq word (codes "double")) ShapeTree.double shape _ tt (pick IsWord (bytes_eq word (codes "bytes")) ShapeTree.bytes shape _ tt (pick IsWord (bytes_eq word (codes "string")) ShapeTree.text shape _ tt (no_word shape))))))))

sizes_of : (d : Data) (l : Option (List ℕ)) (p s : Option ℕ) → Annotates d l p s → IfSome p IsSize × IfSome s IsSize
sizes_of d l p s a = (size_small (codes "precision") d p a.1, size_small (codes "scale") d s a.2)

bare_json : (word : List ℕ) (l : Option (List ℕ)) (p s : Option ℕ) → l ≡ None → p ≡ None → s ≡ None → depth (primitive_json word l p s) ≡ 0
bare_json word l p s a b c = rw (a, b, c) refl

-- a name that is used is its type's own
used : (at : Place) (before : List Definition) (t : SchemaTree) (name : List ℕ) → at.own_use ≡ is_a_fault → AreOwn before → StandsFor at before (full_name at.space name) t
    → IsOwn (full_name at.space name) t × IsOutside at (full_name at.space name) × (definition_of (full_name at.space name) before ≡ Some t)
used at before t name fault own (inl (outside, found)) = (own_of before (full_name at.space name) t own found, outside, found)
used at before t name fault own (inr (within, any)) = absurd (let both = sym fault ∙ any in cc)

primitive_sizes : (d : Data) (shape : ShapeTree) (l : Option (List ℕ)) (p s : Option ℕ) → IsPrimitive d (schema_tree shape l p s) → IfSome p IsSize × IfSome s IsSize
primitive_sizes d shape l p s (word, is, inl (bare, el, ep, es)) = (subst (λ (x : Option ℕ). IfSome x IsSize) (sym ep) tt, subst (λ (x : Option ℕ). IfSome x IsSize) (sym es) tt)
primitive_sizes d shape l p s (word, is, inr (says, plain, notes)) = sizes_of d l p s notes

primitive_deep : (d : Data) (shape : ShapeTree) (l : Option (List ℕ)) (p s : Option ℕ) (word : List ℕ) → IsPrimitive d (schema_tree shape l p s) → depth (primitive_json word l p s) ≤ depth d
primitive_deep d shape l p s word (found, is, inl (bare, el, ep, es)) = let flat = bare_json word l p s el ep es in omega (arith, flat)
primitive_deep d shape l p s word (found, is, inr (says, plain, notes)) = let low = deep_primitive word l p s in let high = text_deep (codes "type") d found says in omega (arith, low, high)

abbrev Leaf : Place → List Definition → Data → ShapeTree → Option (List ℕ) → Option ℕ → Option ℕ → List Definition → Type 0
Leaf at before d shape l p s after = (IsPrimitive d (schema_tree shape l p s) × (after ≡ before)) ⊎ ((name : List ℕ) × SaysName d name × StandsFor at before (full_name at.space name) (schema_tree shape l p s) × (after ≡ before)) ⊎ ⊥

leaf_says : (at : Place) (before after : List Definition) (d : Data) (shape : ShapeTree) (l : Option (List ℕ)) (p s : Option ℕ) → at.own_use ≡ is_a_fault → AreOwn before → own_name shape ≡ None → Leaf at before d shape l p s after → IsPrimitive d (schema_tree shape l p s) × (after ≡ before)
leaf_says at before after d shape l p s fault own bare (inl h) = h
leaf_says at before after d shape l p s fault own bare (inr (inl (name, says, stands, same))) = absurd (let u = used at before (schema_tree shape l p s) name fault own stands in let both = sym bare ∙ u.0.1 in cc)
leaf_says at before after d shape l p s fault own bare (inr (inr none)) = absurd none

by_name : (b : Bool) (name : List ℕ) (names behind : List (List ℕ)) (d : Data) (n : ℕ) → b ≡ true → depth (cond {A = Written Data} b (string name, names) (d, behind)).0 ≤ n
by_name true name names behind d n e = none n
by_name false name names behind d n e = absurd cc

abbrev Use : Place → List Definition → Data → SchemaTree → List Definition → Type 0
Use at before d t after = (name : List ℕ) × SaysName d name × StandsFor at before (full_name at.space name) t × (after ≡ before)

-- a named type that is used
record IsUsed (at : Place) (before : List Definition) (name : List ℕ) (shape : ShapeTree) (l : Option (List ℕ)) (p s : Option ℕ) (after : List Definition) : Type 0 where
  pub sizes : HaveSizes p s
  pub known : IsKnown at before name (schema_tree shape l p s)
  pub written : is_written name (names_of before) ≡ true
  pub same : after ≡ before

named_use : (at : Place) (before after : List Definition) (d : Data) (shape : ShapeTree) (l : Option (List ℕ)) (p s : Option ℕ) (own : List ℕ) → at.own_use ≡ is_a_fault → AreOwn before → own_name shape ≡ Some own → Use at before d (schema_tree shape l p s) after → IsUsed at before own shape l p s after
named_use at before after d shape l p s own fault all is (name, says, stands, equal) =
    let u = used at before (schema_tree shape l p s) name fault all stands in
    let whole = full_name at.space name in
    let full : whole ≡ own = let both : Some whole ≡ Some own = sym u.0.1 ∙ is in cc in
    let at_full : IsKnown at before whole (schema_tree shape l p s) = (name_no_primitive whole u.0.0, full_twice at.space name, u.1, u.2) in
    record {
      sizes = u.0.2;
      known = subst (λ (x : List ℕ). IsKnown at before x (schema_tree shape l p s)) full at_full;
      written = subst (λ (x : List ℕ). is_written x (names_of before) ≡ true) full (known_written whole before (schema_tree shape l p s) u.2);
      same = equal;
    }

-- a name that is defined
free : (at : Place) (before : List Definition) (d : Data) (name : List ℕ) → DefinesName at before d name → IsFree at before name
free at before d name ((own, named, is, full), outside, new) = (ap is_name full ∙ full_is_name (space_in (text_member (codes "namespace") d) at.space) own is, outside, new)

no_union : (at : Place) (before after : List Definition) (d : Data) (t : SchemaTree) → at.own_use ≡ is_a_fault → AreOwn before → as_array d ≡ None → Declares at before d t after → IsNoUnion t
no_union at before after d (schema_tree ShapeTree.null l p s) fault own single h = tt
no_union at before after d (schema_tree ShapeTree.boolean l p s) fault own single h = tt
no_union at before after d (schema_tree ShapeTree.int l p s) fault own single h = tt
no_union at before after d (schema_tree ShapeTree.long l p s) fault own single h = tt
no_union at before after d (schema_tree ShapeTree.float l p s) fault own single h = tt
no_union at before after d (schema_tree ShapeTree.double l p s) fault own single h = tt
no_union at before after d (schema_tree ShapeTree.bytes l p s) fault own single h = tt
no_union at before after d (schema_tree ShapeTree.text l p s) fault own single h = tt
no_union at before after d (schema_tree (ShapeTree.fixed_of name size) l p s) fault own single h = tt
no_union at before after d (schema_tree (ShapeTree.enum_of name symbols) l p s) fault own single h = tt
no_union at before after d (schema_tree (ShapeTree.array_of inner id) l p s) fault own single h = tt
no_union at before after d (schema_tree (ShapeTree.map_of inner key value) l p s) fault own single h = tt
no_union at before after d (schema_tree (ShapeTree.record_of name fs) l p s) fault own single h = tt
no_union at before after d (schema_tree (ShapeTree.union_of ts) l p s) fault own single (inl ((word, is, which), same)) = is_word word (ShapeTree.union_of ts) is
no_union at before after d (schema_tree (ShapeTree.union_of ts) l p s) fault own single (inr (inl (name, says, stands, same))) = let u = used at before (schema_tree (ShapeTree.union_of ts) l p s) name fault own stands in let e = u.0.1 in absurd cc
no_union at before after d (schema_tree (ShapeTree.union_of ts) l p s) fault own single (inr (inr (list, is, el, ep, es, rest))) = absurd (let both = sym single ∙ is in cc)

-- ---- all of them

leaf_again : (at : Place) (before after : List Definition) (d : Data) (shape : ShapeTree) (l : Option (List ℕ)) (p s : Option ℕ) → at.own_use ≡ is_a_fault → AreOwn before → own_name shape ≡ None → Leaf at before d shape l p s after
    → (IfSome p IsSize × IfSome s IsSize × (after ≡ before)) × AreOwn after × ((word : List ℕ) → depth (primitive_json word l p s) ≤ depth d)
leaf_again at before after d shape l p s fault own bare h =
    let says = leaf_says at before after d shape l p s fault own bare h in
    let sizes = primitive_sizes d shape l p s says.0 in
    ((sizes.0, sizes.1, says.1), subst AreOwn (sym says.1) own, λ word. primitive_deep d shape l p s word says.0)

mutual
  again : (at : Place) (before after : List Definition) (d : Data) (t : SchemaTree) → at.own_use ≡ is_a_fault → AreOwn before → Declares at before d t after → IsAgain at before t after (depth d)
  again at before after d (schema_tree ShapeTree.null l p s) fault own h = let a = leaf_again at before after d ShapeTree.null l p s fault own refl h in record { stands = a.0; own = a.1; deep = a.2 (codes "null") }
  again at before after d (schema_tree ShapeTree.boolean l p s) fault own h = let a = leaf_again at before after d ShapeTree.boolean l p s fault own refl h in record { stands = a.0; own = a.1; deep = a.2 (codes "boolean") }
  again at before after d (schema_tree ShapeTree.int l p s) fault own h = let a = leaf_again at before after d ShapeTree.int l p s fault own refl h in record { stands = a.0; own = a.1; deep = a.2 (codes "int") }
  again at before after d (schema_tree ShapeTree.long l p s) fault own h = let a = leaf_again at before after d ShapeTree.long l p s fault own refl h in record { stands = a.0; own = a.1; deep = a.2 (codes "long") }
  again at before after d (schema_tree ShapeTree.float l p s) fault own h = let a = leaf_again at before after d ShapeTree.float l p s fault own refl h in record { stands = a.0; own = a.1; deep = a.2 (codes "float") }
  again at before after d (schema_tree ShapeTree.double l p s) fault own h = let a = leaf_again at before after d ShapeTree.double l p s fault own refl h in record { stands = a.0; own = a.1; deep = a.2 (codes "double") }
  again at before after d (schema_tree ShapeTree.bytes l p s) fault own h = let a = leaf_again at before after d ShapeTree.bytes l p s fault own refl h in record { stands = a.0; own = a.1; deep = a.2 (codes "bytes") }
  again at before after d (schema_tree ShapeTree.text l p s) fault own h = let a = leaf_again at before after d ShapeTree.text l p s fault own refl h in record { stands = a.0; own = a.1; deep = a.2 (codes "string") }
  again at before after d (schema_tree (ShapeTree.fixed_of name size) l p s) fault own (inl ((word, is, which), same)) = absurd (is_word word (ShapeTree.fixed_of name size) is)
  again at before after d (schema_tree (ShapeTree.fixed_of name size) l p s) fault own (inr (inl again_used)) =
      let u = named_use at before after d (ShapeTree.fixed_of name size) l p s name fault own refl again_used in
      record { stands = (u.sizes.0, u.sizes.1, inl (u.known, u.same)); own = subst AreOwn (sym u.same) own; deep = by_name (is_written name (names_of before)) name (names_of before) _ _ (depth d) u.written }
  again at before after d (schema_tree (ShapeTree.fixed_of name size) l p s) fault own (inr (inr (says, notes, defines, sized, put_behind))) =
      let t = schema_tree (ShapeTree.fixed_of name size) l p s in
      let sizes = sizes_of d l p s notes in
      let f = free at before d name defines in
      let ms = fixed_members at.space name size in
      let low = deep_definition name (names_of before) (object (with_annotations l p s ms), names_of before) 1 (deep_object l p s ms 0 (deep_put (codes "size") (size_json size) (named_members (codes "fixed") at.space name) 0 (none 0) (deep_named (codes "fixed") at.space name 0))) in
      record { stands = (sizes.0, sizes.1, inr (f, size_small (codes "size") d (Some size) sized, put_behind)); own = subst AreOwn (sym put_behind) (own_with before name t own (f.0, refl, sizes)); deep = through _ 1 (depth d) low (text_deep (codes "type") d (codes "fixed") says) }
  again at before after d (schema_tree (ShapeTree.enum_of name symbols) l p s) fault own (inl ((word, is, which), same)) = absurd (is_word word (ShapeTree.enum_of name symbols) is)
  again at before after d (schema_tree (ShapeTree.enum_of name symbols) l p s) fault own (inr (inl again_used)) =
      let u = named_use at before after d (ShapeTree.enum_of name symbols) l p s name fault own refl again_used in
      record { stands = (u.sizes.0, u.sizes.1, inl (u.known, u.same)); own = subst AreOwn (sym u.same) own; deep = by_name (is_written name (names_of before)) name (names_of before) _ _ (depth d) u.written }
  again at before after d (schema_tree (ShapeTree.enum_of name symbols) l p s) fault own (inr (inr (says, notes, defines, (list, is, texts), distinct, put_behind))) =
      let t = schema_tree (ShapeTree.enum_of name symbols) l p s in
      let sizes = sizes_of d l p s notes in
      let f = free at before d name defines in
      let ms = enum_members at.space name symbols in
      let flat : depth (array (items_of (map string symbols))) ≤ 1 = flat_list _ (deep_texts symbols) in
      let low = deep_definition name (names_of before) (object (with_annotations l p s ms), names_of before) 2 (deep_object l p s ms 1 (deep_put (codes "symbols") (array (items_of (map string symbols))) (named_members (codes "enum") at.space name) 1 flat (deep_named (codes "enum") at.space name 1))) in
      let high = list_deep (codes "symbols") d list is in
      record { stands = (sizes.0, sizes.1, inr (f, distinct, put_behind)); own = subst AreOwn (sym put_behind) (own_with before name t own (f.0, refl, sizes)); deep = through _ 2 (depth d) low (omega (arith, high)) }
  again at before after d (schema_tree (ShapeTree.array_of inner id) l p s) fault own (inl ((word, is, which), same)) = absurd (is_word word (ShapeTree.array_of inner id) is)
  again at before after d (schema_tree (ShapeTree.array_of inner id) l p s) fault own (inr (inl (name, says, stands_for, same))) = absurd (let u = used at before (schema_tree (ShapeTree.array_of inner id) l p s) name fault own stands_for in let e = u.0.1 in cc)
  again at before after d (schema_tree (ShapeTree.array_of inner id) l p s) fault own (inr (inr (says, notes, (part, there, h, ids)))) =
      let sizes = sizes_of d l p s notes in
      let a = again at before after part inner fault own h in
      let x = (schema_json inner at.space (names_of before)).0 in
      let low = deep_object l p s (array_members x id) (depth x) (deep_put_id (codes "element-id") id (put (codes "items") x (type_members (codes "array"))) (depth x) (deep_put (codes "items") x (type_members (codes "array")) (depth x) (itself (depth x)) (deep_type (codes "array") (depth x)))) in
      record { stands = (sizes.0, sizes.1, (id_small (get (codes "element-id") d) id ids, a.stands)); own = a.own; deep = in_part _ (depth x) (depth part) (depth d) low a.deep (get_deep (codes "items") d part there) }
  again at before after d (schema_tree (ShapeTree.map_of inner key value) l p s) fault own (inl ((word, is, which), same)) = absurd (is_word word (ShapeTree.map_of inner key value) is)
  again at before after d (schema_tree (ShapeTree.map_of inner key value) l p s) fault own (inr (inl (name, says, stands_for, same))) = absurd (let u = used at before (schema_tree (ShapeTree.map_of inner key value) l p s) name fault own stands_for in let e = u.0.1 in cc)
  again at before after d (schema_tree (ShapeTree.map_of inner key value) l p s) fault own (inr (inr (says, notes, (part, there, h, keys, values)))) =
      let sizes = sizes_of d l p s notes in
      let a = again at before after part inner fault own h in
      let x = (schema_json inner at.space (names_of before)).0 in
      let base = put (codes "values") x (type_members (codes "map")) in
      let low = deep_object l p s (map_members x key value) (depth x) (deep_put_id (codes "value-id") value (put_some (codes "key-id") (option_map id_json key) base) (depth x) (deep_put_id (codes "key-id") key base (depth x) (deep_put (codes "values") x (type_members (codes "map")) (depth x) (itself (depth x)) (deep_type (codes "map") (depth x))))) in
      record { stands = (sizes.0, sizes.1, (id_small (get (codes "key-id") d) key keys, id_small (get (codes "value-id") d) value values, a.stands)); own = a.own; deep = in_part _ (depth x) (depth part) (depth d) low a.deep (get_deep (codes "values") d part there) }
  again at before after d (schema_tree (ShapeTree.union_of ts) l p s) fault own (inl ((word, is, which), same)) = absurd (is_word word (ShapeTree.union_of ts) is)
  again at before after d (schema_tree (ShapeTree.union_of ts) l p s) fault own (inr (inl (name, says, stands_for, same))) = absurd (let u = used at before (schema_tree (ShapeTree.union_of ts) l p s) name fault own stands_for in let e = u.0.1 in cc)
  again at before after d (schema_tree (ShapeTree.union_of ts) l p s) fault own (inr (inr (list, is, el, ep, es, h))) =
      let b = branches_again at before after (items list) ts fault own h in
      let small : (o : Option ℕ) → o ≡ None → IfSome o IsSize = λ o e. subst (λ (x : Option ℕ). IfSome x IsSize) (sym e) tt in
      record { stands = (small p ep, small s es, (el, ep, es, b.0)); own = b.1; deep = in_list _ _ (depth d) b.2 (array_depth d list is) }
  again at before after d (schema_tree (ShapeTree.record_of name fs) l p s) fault own (inl ((word, is, which), same)) = absurd (is_word word (ShapeTree.record_of name fs) is)
  again at before after d (schema_tree (ShapeTree.record_of name fs) l p s) fault own (inr (inl again_used)) =
      let u = named_use at before after d (ShapeTree.record_of name fs) l p s name fault own refl again_used in
      record { stands = (u.sizes.0, u.sizes.1, inl (u.known, u.same)); own = subst AreOwn (sym u.same) own; deep = by_name (is_written name (names_of before)) name (names_of before) _ _ (depth d) u.written }
  again at before after d (schema_tree (ShapeTree.record_of name fs) l p s) fault own (inr (inr (says, notes, defines, (list, between, is, h, distinct, put_behind)))) =
      let t = schema_tree (ShapeTree.record_of name fs) l p s in
      let sizes = sizes_of d l p s notes in
      let f = free at before d name defines in
      let b = fields_again (inside at name) before between (items list) fs fault own h in
      let xs = (fields_json fs (namespace_of name) (names_of before)).0 in
      let n = items_depth xs + 1 in
      let ms = record_members at.space name xs in
      let low = deep_definition name (names_of before) (object (with_annotations l p s ms), (fields_json fs (namespace_of name) (names_of before)).1) (n + 1) (deep_object l p s ms n (deep_put (codes "fields") (array xs) (named_members (codes "record") at.space name) n (array_deep (items_depth xs)) (deep_named (codes "record") at.space name n))) in
      record { stands = (sizes.0, sizes.1, inr (f, distinct, (between, b.0, put_behind))); own = subst AreOwn (sym put_behind) (own_with between name t b.1 (f.0, refl, sizes)); deep = in_record _ (items_depth xs) (all_depth (items list)) (depth d) low b.2 (list_deep (codes "fields") d list is) }

  branches_again : (at : Place) (before after : List Definition) (ds : List Data) (ts : BranchTrees) → at.own_use ≡ is_a_fault → AreOwn before → DeclaresBranches at before ds ts after → BranchesStand at before ts after × AreOwn after × (items_depth (branches_json ts at.space (names_of before)).0 ≤ all_depth ds)
  branches_again at before after [] no_branches fault own same = (same, subst AreOwn (sym same) own, none 0)
  branches_again at before after [] (branch t ts) fault own h = absurd h
  branches_again at before after (d ∷ ds) no_branches fault own h = absurd h
  branches_again at before after (d ∷ ds) (branch t ts) fault own (single, (between, first, others)) =
      let one = again at before between d t fault own first in
      let rest = branches_again at between after ds ts fault one.own others in
      let behind : (schema_json t at.space (names_of before)).1 ≡ names_of between = (spelt at before t between one.stands).1 in
      let low = subst (λ (ns : List (List ℕ)). items_depth (branches_json ts at.space ns).0 ≤ all_depth ds) (sym behind) rest.2 in
      ((no_union at before between d t fault own single first, (between, one.stands, rest.0)), rest.1, in_both _ _ (depth d) (all_depth ds) one.deep low)

  fields_again : (at : Place) (before after : List Definition) (ds : List Data) (fs : FieldTrees) → at.own_use ≡ is_a_fault → AreOwn before → DeclaresFields at before ds fs after → FieldsStand at before fs after × AreOwn after × (items_depth (fields_json fs at.space (names_of before)).0 ≤ all_depth ds)
  fields_again at before after [] no_fields fault own same = (same, subst AreOwn (sym same) own, none 0)
  fields_again at before after [] (field name t id fs) fault own h = absurd h
  fields_again at before after (d ∷ ds) no_fields fault own h = absurd h
  fields_again at before after (d ∷ ds) (field name t id fs) fault own (named, ids, (part, between, there, first, others)) =
      let one = again at before between part t fault own first in
      let rest = fields_again at between after ds fs fault one.own others in
      let x = (schema_json t at.space (names_of before)).0 in
      let behind : (schema_json t at.space (names_of before)).1 ≡ names_of between = (spelt at before t between one.stands).1 in
      let typed = put (codes "type") x (put (codes "name") (string name) no_members) in
      let in_object : members_depth (put_some (codes "field-id") (option_map id_json id) typed) ≤ depth x = deep_put_id (codes "field-id") id typed (depth x) (deep_put (codes "type") x (put (codes "name") (string name) no_members) (depth x) (itself (depth x)) (none (depth x))) in
      let low = subst (λ (ns : List (List ℕ)). items_depth (fields_json fs at.space ns).0 ≤ all_depth ds) (sym behind) rest.2 in
      ((id_small (get (codes "field-id") d) id ids, (between, one.stands, rest.0)), rest.1, in_both _ _ (depth d) (all_depth ds) (in_field _ (depth x) (depth part) (depth d) in_object one.deep (get_deep (codes "type") d part there)) low)

json_deep : (bytes : List ℕ) (d : Data) → json bytes ≡ Some d → depth d ≤ max_depth
json_deep bytes d e = go (is_utf8 bytes) e
  where
    go : (b : Bool) → cond b (read bytes) None ≡ Some d → depth d ≤ max_depth
    go true h = depth-read bytes d h
    go false h = absurd cc

-- What a text spells can be written.
pub text_again : (bytes : List ℕ) (t : SchemaTree) → IsSchemaText bytes t → IsSpelled t
text_again bytes t h =
    let a = again (top is_a_fault) [] h.behind h.value t refl tt h.declares in
    record { behind = h.behind; stands = a.stands; levels = h.levels; types = h.types; shallow = through _ (depth h.value) max_depth a.deep (json_deep bytes h.value h.reads) }
