-- What is read of JSON is what it spells in Iceberg, with the ids in it.
use Rattle.std.proofs.Common.{◌≡◌, ℕ, zero, suc, ◌+◌, ◌≤◌, List, [], ◌∷◌, ◌++◌, Bool, true, not, Option, Some, None, Ok, refl, sym, ap, subst, ◌∙◌, arith, max}
use Rattle.std.specs.Prelude.{ℤ, codes}
use Rattle.std.specs.Str.{bytes_eq}
use Rattle.std.proofs.lemmas.Slice.Eq.{bytes_eq-Decides}
use Rattle.serde_json.specs.Data.{Data, null, boolean, number, string, array, object, Items, no_items, item, Members}
use Rattle.serde_json.specs.Find.{get, get_member}
use Rattle.table_history.specs.TypeTree as tree
use Rattle.table_history.specs.TypeTree.{TypeTree, ColumnTree, ColumnTrees, columns_of}
use Rattle.schema_map.specs.declared.fault.Fault.TheVariants.{BadSchema}
use Rattle.lake_basics.specs.Outcome.{required}
use Rattle.json_reading.specs.Json.{text_member, bool_member, int_member, list_member, items}
use Rattle.table_history.specs.SchemaSize.{levels, column_levels}
use Rattle.schema_iceberg.specs.Iceberg.{iceberg_type, iceberg_shape, iceberg_nested, iceberg_struct, iceberg_list, iceberg_map, iceberg_columns, iceberg_column, iceberg_simple, iceberg_word, each_with_ids}
use Rattle.schema_map.specs.Shared.{decimal_or}
use Rattle.schema_iceberg.specs.IcebergSpelling.{IsIcebergType, AreIcebergColumns}
use Rattle.schema_map.specs.Decimal.{decimal_of}
use Rattle.table_history.specs.Sound.{have_own_names}
use Rattle.schema_map.specs.Names.{columns_with_own_names}
use Rattle.schema_map.proofs.DecimalLaw.{text_found}
use Rattle.schema_map.proofs.Bound.{bound, was_there, was_text, was_bool, was_array, chosen, good}
use Rattle.schema_map.proofs.Reading.{own_found, named}
use Rattle.schema_iceberg.proofs.IcebergOnly.{not_not}

pub record Found (n : ℕ) (t : TypeTree) (ids : List ℤ) (d : Data) : Type 0 where
  pub is : IsIcebergType t ids d
  pub small : levels t ≤ n

-- the types that are read in so many levels
abbrev pub Step : ℕ → Type 0
Step n = (p : TypeTree × List ℤ) (d : Data) → iceberg_type n d ≡ Ok p → Found n p.0 p.1 d

found_same : (n : ℕ) (d : Data) (q p : TypeTree × List ℤ) → good q ≡ Ok p → Found n q.0 q.1 d → Found n p.0 p.1 d
found_same n d q p e found =
    let eq : q ≡ p = cc in
    let P : TypeTree × List ℤ → Type 0 = λ v. Found n v.0 v.1 d in
    subst P eq found

-- a word's type, which has no ids
record WordFound (n : ℕ) (w : List ℕ) (t : TypeTree) : Type 0 where
  found : Found (suc n) t [] (string w)

word_is : (n : ℕ) (w name : List ℕ) (u t : TypeTree) → bytes_eq w name ≡ true → good u ≡ Ok t → (string w ≡ string name → IsIcebergType u [] (string w)) → levels u ≤ suc n → WordFound n w t
word_is n w name u t same e is one =
    let eq : u ≡ t = cc in
    let P : TypeTree → Type 0 = λ v. WordFound n w v in
    subst P eq (record { found = record { is = is (ap string ((bytes_eq-Decides w name).0 same)); small = one } })

word_found : (n : ℕ) (w : List ℕ) (t : TypeTree) → iceberg_word w ≡ Ok t → WordFound n w t
unfolding iceberg_word
word_found n w t e =
    let P : Type 0 = WordFound n w t in
    chosen P (bytes_eq w (codes "boolean")) _ _ t (λ same f. word_is n w (codes "boolean") tree.boolean t same f (λ h. (refl, h)) (omega arith)) (λ other0 rest0.
    chosen P (bytes_eq w (codes "int")) _ _ t (λ same f. word_is n w (codes "int") tree.int t same f (λ h. (refl, h)) (omega arith)) (λ other1 rest1.
    chosen P (bytes_eq w (codes "long")) _ _ t (λ same f. word_is n w (codes "long") tree.long t same f (λ h. (refl, h)) (omega arith)) (λ other2 rest2.
    chosen P (bytes_eq w (codes "float")) _ _ t (λ same f. word_is n w (codes "float") tree.float t same f (λ h. (refl, h)) (omega arith)) (λ other3 rest3.
    chosen P (bytes_eq w (codes "double")) _ _ t (λ same f. word_is n w (codes "double") tree.double t same f (λ h. (refl, h)) (omega arith)) (λ other4 rest4.
    chosen P (bytes_eq w (codes "string")) _ _ t (λ same f. word_is n w (codes "string") tree.text t same f (λ h. (refl, h)) (omega arith)) (λ other5 rest5.
    chosen P (bytes_eq w (codes "binary")) _ _ t (λ same f. word_is n w (codes "binary") tree.binary t same f (λ h. (refl, h)) (omega arith)) (λ other6 rest6.
    chosen P (bytes_eq w (codes "date")) _ _ t (λ same f. word_is n w (codes "date") tree.date t same f (λ h. (refl, h)) (omega arith)) (λ other7 rest7.
    chosen P (bytes_eq w (codes "timestamptz")) _ _ t (λ same f. word_is n w (codes "timestamptz") tree.timestamp t same f (λ h. (refl, h)) (omega arith)) (λ other8 rest8.
    chosen P (bytes_eq w (codes "timestamp")) _ _ t (λ same f. word_is n w (codes "timestamp") tree.timestamp_ntz t same f (λ h. (refl, h)) (omega arith)) (λ other9 rest9.
    absurd (cc)) rest8) rest7) rest6) rest5) rest4) rest3) rest2) rest1) rest0) e

decimal_found : (n : ℕ) (w : List ℕ) (o : Option (ℕ × ℕ)) (t : TypeTree) → decimal_of w ≡ o → decimal_or o (iceberg_word w) ≡ Ok t → WordFound n w t
decimal_found n w None t is e = word_found n w t e
decimal_found n w (Some p) t is e =
    let eq : tree.decimal p.0 p.1 ≡ t = cc in
    let P : TypeTree → Type 0 = λ v. WordFound n w v in
    subst P eq (record { found = record { is = (w, refl, refl, text_found w p is); small = omega arith } })

simple_found : (n : ℕ) (w : List ℕ) (p : TypeTree × List ℤ) → iceberg_simple w ≡ Ok p → Found (suc n) p.0 p.1 (string w)
simple_found n w p e =
    let t = bound (decimal_or (decimal_of w) (iceberg_word w)) _ p e in
    let found = decimal_found n w (decimal_of w) t.value refl t.first in
    found_same (suc n) (string w) (t.value, []) p t.behind found.found

was_int : (ms : Members) (name : List ℕ) (id : ℤ) → required BadSchema (int_member name (object ms)) ≡ Ok id → int_member name (object ms) ≡ Some id
was_int ms name id e = was_there _ _ e

-- what is required is not nullable
was_required : (o : Option Data) (r : Bool) → o ≡ Some (boolean r) → o ≡ Some (boolean (not (not r)))
was_required o r is = is ∙ ap (λ b. Some (boolean b)) (sym (not_not r))

-- what a column's JSON spells
record ColumnFound (n : ℕ) (c : ColumnTree) (ids : List ℤ) (d : Data) : Type 0 where
  ms : Members
  kind : Data
  id : ℤ
  inner : List ℤ
  ids_are : ids ≡ id ∷ inner
  object_is : d ≡ object ms
  id_is : int_member (codes "id") (object ms) ≡ Some id
  name_is : get_member (codes "name") ms ≡ Some (string c.name)
  required_is : get_member (codes "required") ms ≡ Some (boolean (not c.nullable))
  kind_is : get_member (codes "type") ms ≡ Some kind
  found : Found n c.kind inner kind

column_found : (n : ℕ) → Step n → (d : Data) (p : ColumnTree × List ℤ) → iceberg_column (iceberg_type n) d ≡ Ok p → ColumnFound n p.0 p.1 d
unfolding iceberg_column
column_found n ih null p e = absurd (cc)
column_found n ih (boolean b) p e = absurd (cc)
column_found n ih (number m) p e = absurd (cc)
column_found n ih (string w) p e = absurd (cc)
column_found n ih (array ds) p e = absurd (cc)
column_found n ih (object ms) p e =
    let d : Data = object ms in
    let id = bound (required BadSchema (int_member (codes "id") d)) _ p e in
    let name = bound (required BadSchema (text_member (codes "name") d)) _ p id.behind in
    let is_required = bound (required BadSchema (bool_member (codes "required") d)) _ p name.behind in
    let kind = bound (required BadSchema (get (codes "type") d)) _ p is_required.behind in
    let t = bound (iceberg_type n kind.value) _ p kind.behind in
    let c0 : ColumnTree = record { name = name.value; kind = t.value.0; nullable = not is_required.value } in
    let ids0 : List ℤ = id.value ∷ t.value.1 in
    let p0 : ColumnTree × List ℤ = (c0, ids0) in
    let eq : p0 ≡ p = let h : good p0 ≡ Ok p = t.behind in cc in
    let P : ColumnTree × List ℤ → Type 0 = λ v. ColumnFound n v.0 v.1 d in
    subst P eq (record {
      ms = ms;
      kind = kind.value;
      id = id.value;
      inner = t.value.1;
      ids_are = refl;
      object_is = refl;
      id_is = was_int ms (codes "id") id.value id.first;
      name_is = was_text _ _ (was_there _ _ name.first);
      required_is = was_required _ _ (was_bool _ _ (was_there _ _ is_required.first));
      kind_is = was_there _ _ kind.first;
      found = ih t.value kind.value t.first;
    })

pub record ColumnsFound (n : ℕ) (cs : ColumnTrees) (ids : List ℤ) (ds : Items) : Type 0 where
  pub are : AreIcebergColumns cs ids ds
  pub small : column_levels cs ≤ n

pub columns_found : (n : ℕ) → Step n → (ds : Items) (p : List ColumnTree × List ℤ) → each_with_ids (iceberg_column (iceberg_type n)) (items ds) ≡ Ok p → ColumnsFound n (columns_of p.0) p.1 ds
columns_found n ih no_items p e =
    let none : List ColumnTree × List ℤ = ([], []) in
    let eq : none ≡ p = let h : good none ≡ Ok p = e in cc in
    let P : List ColumnTree × List ℤ → Type 0 = λ v. ColumnsFound n (columns_of v.0) v.1 no_items in
    subst P eq (record { are = (refl, refl); small = omega arith })
columns_found n ih (item d ds) p e =
    let first = bound (iceberg_column (iceberg_type n) d) _ p e in
    let others = bound (each_with_ids (iceberg_column (iceberg_type n)) (items ds)) _ p first.behind in
    let c = column_found n ih d first.value first.first in
    let cs = columns_found n ih ds others.value others.first in
    let all : List ColumnTree × List ℤ = (first.value.0 ∷ others.value.0, first.value.1 ++ others.value.1) in
    let eq : all ≡ p = let h : good all ≡ Ok p = others.behind in cc in
    let P : List ColumnTree × List ℤ → Type 0 = λ v. ColumnsFound n (columns_of v.0) v.1 (item d ds) in
    let small : max (levels first.value.0.kind) (column_levels (columns_of others.value.0)) ≤ n = omega (arith, c.found.small, cs.small) in
    subst P eq (record {
      are = (c.ms, c.kind, ds, c.id, c.inner, others.value.1, ap (λ xs. xs ++ others.value.1) c.ids_are, ap (λ x. item x ds) c.object_is, c.id_is, c.name_is, c.required_is, c.kind_is, c.found.is, cs.are);
      small = small;
    })

pub record OwnColumnsFound (n : ℕ) (cs : ColumnTrees) (ids : List ℤ) (ds : Items) : Type 0 where
  pub own : have_own_names cs ≡ true
  pub found : ColumnsFound n cs ids ds

struct_columns : (n : ℕ) → Step n → (ds : Items) (p : ColumnTrees × List ℤ) → iceberg_columns (iceberg_type n) ds ≡ Ok p → OwnColumnsFound n p.0 p.1 ds
unfolding iceberg_columns
struct_columns n ih ds p e =
    let columns = bound (each_with_ids (iceberg_column (iceberg_type n)) (items ds)) _ p e in
    let own = bound (columns_with_own_names (columns_of columns.value.0)) _ p columns.behind in
    let named_so = own_found (columns_of columns.value.0) own.value own.first in
    let found = columns_found n ih ds columns.value columns.first in
    let all : ColumnTrees × List ℤ = (own.value, columns.value.1) in
    let eq : all ≡ p = let h : good all ≡ Ok p = own.behind in cc in
    let Q : ColumnTrees → Type 0 = λ v. OwnColumnsFound n v columns.value.1 ds in
    let P : ColumnTrees × List ℤ → Type 0 = λ v. OwnColumnsFound n v.0 v.1 ds in
    subst P eq (subst Q named_so.1 (record { own = named_so.0; found = found }))

struct_found : (n : ℕ) → Step n → (ms : Members) (p : TypeTree × List ℤ) → get_member (codes "type") ms ≡ Some (string (codes "struct")) → iceberg_struct (iceberg_type n) (object ms) ≡ Ok p → Found (suc n) p.0 p.1 (object ms)
unfolding iceberg_struct
struct_found n ih ms p word e =
    let d : Data = object ms in
    let fields = bound (required BadSchema (list_member (codes "fields") d)) _ p e in
    let columns = bound (iceberg_columns (iceberg_type n) fields.value) _ p fields.behind in
    let found = struct_columns n ih fields.value columns.value columns.first in
    let small : 1 + column_levels columns.value.0 ≤ suc n = let h = found.found.small in omega (arith, h) in
    found_same (suc n) d (tree.struct_of columns.value.0, columns.value.1) p columns.behind
    (record { is = (ms, fields.value, refl, word, was_array _ _ (was_there _ _ fields.first), found.own, found.found.are); small = small })

list_found : (n : ℕ) → Step n → (ms : Members) (p : TypeTree × List ℤ) → get_member (codes "type") ms ≡ Some (string (codes "list")) → iceberg_list (iceberg_type n) (object ms) ≡ Ok p → Found (suc n) p.0 p.1 (object ms)
unfolding iceberg_list
list_found n ih ms p word e =
    let d : Data = object ms in
    let id = bound (required BadSchema (int_member (codes "element-id") d)) _ p e in
    let is_required = bound (required BadSchema (bool_member (codes "element-required") d)) _ p id.behind in
    let element = bound (required BadSchema (get (codes "element") d)) _ p is_required.behind in
    let part = bound (iceberg_type n element.value) _ p element.behind in
    let found = ih part.value element.value part.first in
    let small : 1 + levels part.value.0 ≤ suc n = let h = found.small in omega (arith, h) in
    found_same (suc n) d (tree.list_of part.value.0 (not is_required.value), id.value ∷ part.value.1) p part.behind
    (record { is = (ms, element.value, id.value, part.value.1, refl, refl, word, was_int ms (codes "element-id") id.value id.first, was_required _ _ (was_bool _ _ (was_there _ _ is_required.first)), was_there _ _ element.first, found.is); small = small })

map_found : (n : ℕ) → Step n → (ms : Members) (p : TypeTree × List ℤ) → get_member (codes "type") ms ≡ Some (string (codes "map")) → iceberg_map (iceberg_type n) (object ms) ≡ Ok p → Found (suc n) p.0 p.1 (object ms)
unfolding iceberg_map
map_found n ih ms p word e =
    let d : Data = object ms in
    let key_id = bound (required BadSchema (int_member (codes "key-id") d)) _ p e in
    let value_id = bound (required BadSchema (int_member (codes "value-id") d)) _ p key_id.behind in
    let is_required = bound (required BadSchema (bool_member (codes "value-required") d)) _ p value_id.behind in
    let key = bound (required BadSchema (get (codes "key") d)) _ p is_required.behind in
    let k = bound (iceberg_type n key.value) _ p key.behind in
    let value = bound (required BadSchema (get (codes "value") d)) _ p k.behind in
    let v = bound (iceberg_type n value.value) _ p value.behind in
    let key_found = ih k.value key.value k.first in
    let value_found = ih v.value value.value v.first in
    let small : 1 + max (levels k.value.0) (levels v.value.0) ≤ suc n = let h = key_found.small in let g = value_found.small in omega (arith, h, g) in
    found_same (suc n) d (tree.map_of k.value.0 v.value.0 (not is_required.value), key_id.value ∷ (k.value.1 ++ value_id.value ∷ v.value.1)) p v.behind
    (record { is = (ms, key.value, value.value, key_id.value, k.value.1, value_id.value, v.value.1, refl, refl, word, was_int ms (codes "key-id") key_id.value key_id.first, was_int ms (codes "value-id") value_id.value value_id.first, was_required _ _ (was_bool _ _ (was_there _ _ is_required.first)), was_there _ _ key.first, was_there _ _ value.first, key_found.is, value_found.is); small = small })

nested_found : (n : ℕ) → Step n → (ms : Members) (p : TypeTree × List ℤ) → iceberg_nested (iceberg_type n) (object ms) ≡ Ok p → Found (suc n) p.0 p.1 (object ms)
unfolding iceberg_nested
nested_found n ih ms p e =
    let P : Type 0 = Found (suc n) p.0 p.1 (object ms) in
    let word = bound (required BadSchema (text_member (codes "type") (object ms))) _ p e in
    let w : List ℕ = word.value in
    let is = was_there _ _ word.first in
    chosen P (bytes_eq w (codes "struct")) _ _ p (λ same f. struct_found n ih ms p (named ms w (codes "struct") is same) f) (λ o1 r1.
    chosen P (bytes_eq w (codes "list")) _ _ p (λ same f. list_found n ih ms p (named ms w (codes "list") is same) f) (λ o2 r2.
    chosen P (bytes_eq w (codes "map")) _ _ p (λ same f. map_found n ih ms p (named ms w (codes "map") is same) f) (λ o3 r3. absurd (cc)) r2) r1) word.behind

shape_found : (n : ℕ) → Step n → (p : TypeTree × List ℤ) (d : Data) → iceberg_shape (iceberg_type n) d ≡ Ok p → Found (suc n) p.0 p.1 d
shape_found n ih p null e = absurd (cc)
shape_found n ih p (boolean b) e = absurd (cc)
shape_found n ih p (number m) e = absurd (cc)
shape_found n ih p (string w) e = simple_found n w p e
shape_found n ih p (array ds) e = absurd (cc)
shape_found n ih p (object ms) e = nested_found n ih ms p e

pub iceberg_found : (n : ℕ) (p : TypeTree × List ℤ) (d : Data) → iceberg_type n d ≡ Ok p → Found n p.0 p.1 d
unfolding iceberg_type
iceberg_found zero p d e = absurd (cc)
iceberg_found (suc n) p d e = shape_found n (iceberg_found n) p d e
