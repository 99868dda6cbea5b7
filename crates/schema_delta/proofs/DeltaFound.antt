-- What is read of JSON is what it spells in Delta.
use Rattle.std.proofs.Common.{◌≡◌, ℕ, zero, suc, ◌+◌, ◌≤◌, List, [], ◌∷◌, true, Option, Some, None, Ok, refl, ap, subst, arith, max}
use Rattle.std.specs.Prelude.{codes}
use Rattle.std.specs.Str.{bytes_eq}
use Rattle.std.proofs.lemmas.Slice.Eq.{bytes_eq-Decides}
use Rattle.serde_json.specs.Data.{Data, null, boolean, number, string, array, object, Items, no_items, item, Members}
use Rattle.serde_json.specs.Find.{get, get_member}
use Rattle.table_history.specs.TypeTree as tree
use Rattle.table_history.specs.TypeTree.{TypeTree, ColumnTree, ColumnTrees, columns_of}
use Rattle.schema_map.specs.declared.fault.Fault.TheVariants.{BadSchema}
use Rattle.lake_basics.specs.Outcome.{required, each}
use Rattle.json_reading.specs.Json.{text_member, bool_member, list_member, items}
use Rattle.table_history.specs.SchemaSize.{levels, column_levels}
use Rattle.schema_delta.specs.Delta.{delta_type, delta_shape, delta_nested, delta_struct, delta_list, delta_map, delta_columns, delta_column, delta_word}
use Rattle.schema_map.specs.Shared.{decimal_or}
use Rattle.schema_delta.specs.DeltaSpelling.{IsDeltaType, AreDeltaColumns}
use Rattle.schema_map.specs.Decimal.{decimal_of}
use Rattle.table_history.specs.Sound.{have_own_names}
use Rattle.schema_map.proofs.DecimalLaw.{text_found}
use Rattle.schema_map.proofs.Bound.{bound, was_there, was_text, was_bool, was_array, chosen, good}
use Rattle.schema_map.proofs.Reading.{own_found, named}

pub record Found (n : ℕ) (t : TypeTree) (d : Data) : Type 0 where
  pub is : IsDeltaType t d
  pub small : levels t ≤ n

-- the types that are read in so many levels
abbrev pub Step : ℕ → Type 0
Step n = (t : TypeTree) (d : Data) → delta_type n d ≡ Ok t → Found n t d

word_is : (n : ℕ) (w name : List ℕ) (u t : TypeTree) → bytes_eq w name ≡ true → good u ≡ Ok t → (string w ≡ string name → IsDeltaType u (string w)) → levels u ≤ suc n → Found (suc n) t (string w)
word_is n w name u t same e is one =
    let eq : u ≡ t = cc in
    let P : TypeTree → Type 0 = λ v. Found (suc n) v (string w) in
    subst P eq (record { is = is (ap string ((bytes_eq-Decides w name).0 same)); small = one })

word_found : (n : ℕ) (w : List ℕ) (t : TypeTree) → delta_word w ≡ Ok t → Found (suc n) t (string w)
unfolding delta_word
word_found n w t e =
    let P : Type 0 = Found (suc n) t (string w) in
    chosen P (bytes_eq w (codes "boolean")) _ _ t (λ same f. word_is n w (codes "boolean") tree.boolean t same f (λ h. h) (omega arith)) (λ other0 rest0.
    chosen P (bytes_eq w (codes "byte")) _ _ t (λ same f. word_is n w (codes "byte") tree.byte t same f (λ h. h) (omega arith)) (λ other1 rest1.
    chosen P (bytes_eq w (codes "short")) _ _ t (λ same f. word_is n w (codes "short") tree.short t same f (λ h. h) (omega arith)) (λ other2 rest2.
    chosen P (bytes_eq w (codes "integer")) _ _ t (λ same f. word_is n w (codes "integer") tree.int t same f (λ h. h) (omega arith)) (λ other3 rest3.
    chosen P (bytes_eq w (codes "long")) _ _ t (λ same f. word_is n w (codes "long") tree.long t same f (λ h. h) (omega arith)) (λ other4 rest4.
    chosen P (bytes_eq w (codes "float")) _ _ t (λ same f. word_is n w (codes "float") tree.float t same f (λ h. h) (omega arith)) (λ other5 rest5.
    chosen P (bytes_eq w (codes "double")) _ _ t (λ same f. word_is n w (codes "double") tree.double t same f (λ h. h) (omega arith)) (λ other6 rest6.
    chosen P (bytes_eq w (codes "string")) _ _ t (λ same f. word_is n w (codes "string") tree.text t same f (λ h. h) (omega arith)) (λ other7 rest7.
    chosen P (bytes_eq w (codes "binary")) _ _ t (λ same f. word_is n w (codes "binary") tree.binary t same f (λ h. h) (omega arith)) (λ other8 rest8.
    chosen P (bytes_eq w (codes "date")) _ _ t (λ same f. word_is n w (codes "date") tree.date t same f (λ h. h) (omega arith)) (λ other9 rest9.
    chosen P (bytes_eq w (codes "timestamp")) _ _ t (λ same f. word_is n w (codes "timestamp") tree.timestamp t same f (λ h. h) (omega arith)) (λ other10 rest10.
    chosen P (bytes_eq w (codes "timestamp_ntz")) _ _ t (λ same f. word_is n w (codes "timestamp_ntz") tree.timestamp_ntz t same f (λ h. h) (omega arith)) (λ other11 rest11.
    absurd (cc)) rest10) rest9) rest8) rest7) rest6) rest5) rest4) rest3) rest2) rest1) rest0) e

simple_found : (n : ℕ) (w : List ℕ) (o : Option (ℕ × ℕ)) (t : TypeTree) → decimal_of w ≡ o → decimal_or o (delta_word w) ≡ Ok t → Found (suc n) t (string w)
simple_found n w None t is e = word_found n w t e
simple_found n w (Some p) t is e =
    let eq : tree.decimal p.0 p.1 ≡ t = cc in
    let P : TypeTree → Type 0 = λ v. Found (suc n) v (string w) in
    subst P eq (record { is = (w, refl, text_found w p is); small = omega arith })

-- what a column's JSON spells
record ColumnFound (n : ℕ) (c : ColumnTree) (d : Data) : Type 0 where
  ms : Members
  kind : Data
  object_is : d ≡ object ms
  name_is : get_member (codes "name") ms ≡ Some (string c.name)
  nullable_is : get_member (codes "nullable") ms ≡ Some (boolean c.nullable)
  kind_is : get_member (codes "type") ms ≡ Some kind
  found : Found n c.kind kind

column_found : (n : ℕ) → Step n → (d : Data) (c : ColumnTree) → delta_column (delta_type n) d ≡ Ok c → ColumnFound n c d
unfolding delta_column
column_found n ih null c e = absurd (cc)
column_found n ih (boolean b) c e = absurd (cc)
column_found n ih (number m) c e = absurd (cc)
column_found n ih (string w) c e = absurd (cc)
column_found n ih (array ds) c e = absurd (cc)
column_found n ih (object ms) c e =
    let d : Data = object ms in
    let name = bound (required BadSchema (text_member (codes "name") d)) _ c e in
    let nullable = bound (required BadSchema (bool_member (codes "nullable") d)) _ c name.behind in
    let kind = bound (required BadSchema (get (codes "type") d)) _ c nullable.behind in
    let t = bound (delta_type n kind.value) _ c kind.behind in
    let c0 : ColumnTree = record { name = name.value; kind = t.value; nullable = nullable.value } in
    let eq : c0 ≡ c = let h : good c0 ≡ Ok c = t.behind in cc in
    let P : ColumnTree → Type 0 = λ v. ColumnFound n v d in
    subst P eq (record {
      ms = ms;
      kind = kind.value;
      object_is = refl;
      name_is = was_text _ _ (was_there _ _ name.first);
      nullable_is = was_bool _ _ (was_there _ _ nullable.first);
      kind_is = was_there _ _ kind.first;
      found = ih t.value kind.value t.first;
    })

pub record ColumnsFound (n : ℕ) (cs : ColumnTrees) (ds : Items) : Type 0 where
  pub are : AreDeltaColumns cs ds
  pub small : column_levels cs ≤ n

pub columns_found : (n : ℕ) → Step n → (ds : Items) (xs : List ColumnTree) → each (delta_column (delta_type n)) (items ds) ≡ Ok xs → ColumnsFound n (columns_of xs) ds
columns_found n ih no_items xs e =
    let eq : [] ≡ xs = cc in
    let P : List ColumnTree → Type 0 = λ v. ColumnsFound n (columns_of v) no_items in
    subst P eq (record { are = refl; small = omega arith })
columns_found n ih (item d ds) xs e =
    let first = bound (delta_column (delta_type n) d) _ xs e in
    let others = bound (each (delta_column (delta_type n)) (items ds)) _ xs first.behind in
    let c = column_found n ih d first.value first.first in
    let cs = columns_found n ih ds others.value others.first in
    let eq : first.value ∷ others.value ≡ xs = let h : good (first.value ∷ others.value) ≡ Ok xs = others.behind in cc in
    let P : List ColumnTree → Type 0 = λ v. ColumnsFound n (columns_of v) (item d ds) in
    let small : max (levels first.value.kind) (column_levels (columns_of others.value)) ≤ n = omega (arith, c.found.small, cs.small) in
    subst P eq (record {
      are = (c.ms, c.kind, ds, ap (λ x. item x ds) c.object_is, c.name_is, c.nullable_is, c.kind_is, c.found.is, cs.are);
      small = small;
    })

pub struct_columns : (n : ℕ) → Step n → (ds : Items) (cs : ColumnTrees) → delta_columns (delta_type n) ds ≡ Ok cs → (have_own_names cs ≡ true) × ColumnsFound n cs ds
unfolding delta_columns
struct_columns n ih ds cs e =
    let columns = bound (each (delta_column (delta_type n)) (items ds)) _ cs e in
    let own = own_found (columns_of columns.value) cs columns.behind in
    let found = columns_found n ih ds columns.value columns.first in
    let P : ColumnTrees → Type 0 = λ v. (have_own_names v ≡ true) × ColumnsFound n v ds in
    subst P own.1 (own.0, found)

struct_found : (n : ℕ) → Step n → (ms : Members) (t : TypeTree) → get_member (codes "type") ms ≡ Some (string (codes "struct")) → delta_struct (delta_type n) (object ms) ≡ Ok t → Found (suc n) t (object ms)
unfolding delta_struct
struct_found n ih ms t word e =
    let d : Data = object ms in
    let fields = bound (required BadSchema (list_member (codes "fields") d)) _ t e in
    let columns = bound (delta_columns (delta_type n) fields.value) _ t fields.behind in
    let found = struct_columns n ih fields.value columns.value columns.first in
    let eq : tree.struct_of columns.value ≡ t = let h : good (tree.struct_of columns.value) ≡ Ok t = columns.behind in cc in
    let P : TypeTree → Type 0 = λ v. Found (suc n) v d in
    let small : 1 + column_levels columns.value ≤ suc n = let h = found.1.small in omega (arith, h) in
    subst P eq (record { is = (ms, fields.value, refl, word, was_array _ _ (was_there _ _ fields.first), found.0, found.1.are); small = small })

list_found : (n : ℕ) → Step n → (ms : Members) (t : TypeTree) → get_member (codes "type") ms ≡ Some (string (codes "array")) → delta_list (delta_type n) (object ms) ≡ Ok t → Found (suc n) t (object ms)
unfolding delta_list
list_found n ih ms t word e =
    let d : Data = object ms in
    let nullable = bound (required BadSchema (bool_member (codes "containsNull") d)) _ t e in
    let element = bound (required BadSchema (get (codes "elementType") d)) _ t nullable.behind in
    let part = bound (delta_type n element.value) _ t element.behind in
    let found = ih part.value element.value part.first in
    let eq : tree.list_of part.value nullable.value ≡ t = let h : good (tree.list_of part.value nullable.value) ≡ Ok t = part.behind in cc in
    let P : TypeTree → Type 0 = λ v. Found (suc n) v d in
    let small : 1 + levels part.value ≤ suc n = let h = found.small in omega (arith, h) in
    subst P eq (record { is = (ms, element.value, refl, word, was_bool _ _ (was_there _ _ nullable.first), was_there _ _ element.first, found.is); small = small })

map_found : (n : ℕ) → Step n → (ms : Members) (t : TypeTree) → get_member (codes "type") ms ≡ Some (string (codes "map")) → delta_map (delta_type n) (object ms) ≡ Ok t → Found (suc n) t (object ms)
unfolding delta_map
map_found n ih ms t word e =
    let d : Data = object ms in
    let nullable = bound (required BadSchema (bool_member (codes "valueContainsNull") d)) _ t e in
    let key = bound (required BadSchema (get (codes "keyType") d)) _ t nullable.behind in
    let k = bound (delta_type n key.value) _ t key.behind in
    let value = bound (required BadSchema (get (codes "valueType") d)) _ t k.behind in
    let v = bound (delta_type n value.value) _ t value.behind in
    let key_found = ih k.value key.value k.first in
    let value_found = ih v.value value.value v.first in
    let eq : tree.map_of k.value v.value nullable.value ≡ t = let h : good (tree.map_of k.value v.value nullable.value) ≡ Ok t = v.behind in cc in
    let P : TypeTree → Type 0 = λ v. Found (suc n) v d in
    let small : 1 + max (levels k.value) (levels v.value) ≤ suc n = let h = key_found.small in let g = value_found.small in omega (arith, h, g) in
    subst P eq (record { is = (ms, key.value, value.value, refl, word, was_bool _ _ (was_there _ _ nullable.first), was_there _ _ key.first, was_there _ _ value.first, key_found.is, value_found.is); small = small })

nested_found : (n : ℕ) → Step n → (ms : Members) (t : TypeTree) → delta_nested (delta_type n) (object ms) ≡ Ok t → Found (suc n) t (object ms)
unfolding delta_nested
nested_found n ih ms t e =
    let P : Type 0 = Found (suc n) t (object ms) in
    let word = bound (required BadSchema (text_member (codes "type") (object ms))) _ t e in
    let w : List ℕ = word.value in
    let is = was_there _ _ word.first in
    chosen P (bytes_eq w (codes "struct")) _ _ t (λ same f. struct_found n ih ms t (named ms w (codes "struct") is same) f) (λ o1 r1.
    chosen P (bytes_eq w (codes "array")) _ _ t (λ same f. list_found n ih ms t (named ms w (codes "array") is same) f) (λ o2 r2.
    chosen P (bytes_eq w (codes "map")) _ _ t (λ same f. map_found n ih ms t (named ms w (codes "map") is same) f) (λ o3 r3. absurd (cc)) r2) r1) word.behind

shape_found : (n : ℕ) → Step n → (t : TypeTree) (d : Data) → delta_shape (delta_type n) d ≡ Ok t → Found (suc n) t d
shape_found n ih t null e = absurd (cc)
shape_found n ih t (boolean b) e = absurd (cc)
shape_found n ih t (number m) e = absurd (cc)
shape_found n ih t (string w) e = simple_found n w (decimal_of w) t refl e
shape_found n ih t (array ds) e = absurd (cc)
shape_found n ih t (object ms) e = nested_found n ih ms t e

pub delta_found : (n : ℕ) (t : TypeTree) (d : Data) → delta_type n d ≡ Ok t → Found n t d
unfolding delta_type
delta_found zero t d e = absurd (cc)
delta_found (suc n) t d e = shape_found n (delta_found n) t d e
