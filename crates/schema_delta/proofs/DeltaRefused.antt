-- Each refusal of a schema in Delta's spelling shows in its JSON.
use Rattle.std.proofs.Common.{◌≡◌, ℕ, zero, suc, ◌<◌, ◌≤◌, List, [], ◌∷◌, map, Bool, true, false, Option, Some, None, Result, Ok, Err, refl, sym, ap, subst, ◌∙◌, arith}
use Rattle.std.specs.Prelude.{◌⊎◌, codes, unwrap_or, IfErr}
use Rattle.std.specs.List.{IsDistinct}
use Rattle.std.specs.Str.{bytes_eq}
use Rattle.std.proofs.lemmas.Slice.Eq.{bytes_eq-Decides}
use Rattle.serde_json.specs.Data.{Data, null, boolean, number, string, array, object, Items}
use Rattle.serde_json.specs.Find.{get}
use Rattle.table_history.specs.TypeTree.{TypeTree, ColumnTree, ColumnTrees, columns_of}
use Rattle.table_history.specs.Sound.{names_of}
use Rattle.table_history.specs.SchemaSize.{levels, column_count, max_type_levels}
use Rattle.table_history.specs.declared.limit.LimitKind.TheVariants.{Columns}
use Rattle.lake_basics.specs.declared.limits.TheConstants.{MAX_COLUMNS}
use Rattle.lake_basics.specs.Outcome.{required, each, GivesUnlessMemory}
use Rattle.json_reading.specs.Json.{json, text_member, bool_member, list_member, items}
use Rattle.schema_map.specs.declared.fault.Fault.{Fault}
use Rattle.schema_map.specs.declared.fault.Fault.TheVariants.{BadSchema, SchemaType, Depth}
use Rattle.schema_map.specs.declared.fault.MapError.{MapError}
use Rattle.schema_map.specs.declared.fault.MapError.TheVariants as errors
use Rattle.schema_map.specs.Errors.{in_column, error_in, is_memory}
use Rattle.schema_map.specs.Names.{columns_with_own_names}
use Rattle.schema_map.specs.Shared.{decimal_or, column_name, schema_fields}
use Rattle.schema_map.specs.Limits.{schema_of_few_columns}
use Rattle.schema_delta.specs.Delta.{delta_type, delta_shape, delta_nested, delta_struct, delta_list, delta_map, delta_columns, delta_column, delta_word, delta_simple, delta_top_column, delta_schema, delta_schema_of}
use Rattle.schema_delta.specs.DeltaSpelling.{IsDeltaType}
use Rattle.schema_map.specs.Decimal.{decimal_of}
use Rattle.schema_map.specs.Among.{IsAmong}
use Rattle.schema_map.specs.Places.{IsWithin, IsNamed, field_names}
use Rattle.schema_delta.specs.DeltaRefusal.{IsDeltaPart, IsBadDeltaField, IsBadDeltaType, IsOtherDeltaType, IsBadDeltaSchema, IsRefusedDelta, IsDeltaRefused}
use Rattle.schema_map.proofs.Bound.{bound, was_there, good}
use Rattle.schema_map.proofs.Failing.{failed, missed, each_failed, chose, told_of, not_word}
use Rattle.schema_map.proofs.Reading.{own_found, was_good}
use Rattle.schema_delta.proofs.DeltaFound.{columns_found, delta_found}
use Rattle.schema_delta.proofs.DeltaOnly.{delta_only}
use Rattle.schema_map.proofs.Columns.{one_level}
use Rattle.schema_delta.proofs.DeltaSchema.{tops_to}
use mathlib.Core.Logic.{inl, inr}
use Rattle.schema_map.proofs.Refusing.{own_failed, not_distinct, ok_err, no_word, IsStruct, is_struct, name_there, few_failed, is_object}

-- a place so many levels below at which the fault shows, or a place that many levels below
abbrev HasFault : ℕ → Fault → Data → Type 0
HasFault n BadSchema d = (k : ℕ) × (place : Data) × IsWithin IsDeltaPart k d place × IsBadDeltaType place
HasFault n SchemaType d = (k : ℕ) × (place : Data) × IsWithin IsDeltaPart k d place × IsOtherDeltaType place
HasFault n Depth d = (place : Data) × IsWithin IsDeltaPart n d place

in_part : (n : ℕ) (f : Fault) (whole part : Data) → IsDeltaPart whole part → HasFault n f part → HasFault (suc n) f whole
unfolding IsWithin
in_part n BadSchema whole part is h = (suc h.0, h.1, (part, is, h.2), h.3)
in_part n SchemaType whole part is h = (suc h.0, h.1, (part, is, h.2), h.3)
in_part n Depth whole part is h = (h.0, (part, is, h.1))

bad_here : (n : ℕ) (f : Fault) (d : Data) → f ≡ BadSchema → IsBadDeltaType d → HasFault n f d
unfolding IsWithin
bad_here n f d is bad = subst (λ (x : Fault). HasFault n x d) (sym is) (0, d, refl, bad)

other_here : (n : ℕ) (f : Fault) (d : Data) → f ≡ SchemaType → IsOtherDeltaType d → HasFault n f d
unfolding IsWithin
other_here n f d is other = subst (λ (x : Fault). HasFault n x d) (sym is) (0, d, refl, other)

-- the types that aren't read in so many levels
abbrev Fails : ℕ → Type 0
Fails n = (d : Data) (f : Fault) → delta_type n d ≡ Err f → HasFault n f d

-- ---- columns

abbrev ColumnFails : ℕ → Fault → Data → Type 0
ColumnFails n f d =
    ((f ≡ BadSchema) × IsBadDeltaField d)
    ⊎ ((name : List ℕ) × (kind : Data) × (text_member (codes "name") d ≡ Some name) × (get (codes "type") d ≡ Some kind) × HasFault n f kind)

column_failed : (n : ℕ) → Fails n → (d : Data) (f : Fault) → delta_column (delta_type n) d ≡ Err f → ColumnFails n f d
unfolding delta_column
column_failed n ih d f e =
    elim (missed (text_member (codes "name") d) _ f e) as (λ _. ColumnFails n f d) [
      | inl none ↦ inl (none.0, inl none.1)
      | inr name ↦ elim (missed (bool_member (codes "nullable") d) _ f name.2) as (λ _. ColumnFails n f d) [
        | inl none ↦ inl (none.0, inr (inl none.1))
        | inr nullable ↦ elim (missed (get (codes "type") d) _ f nullable.2) as (λ _. ColumnFails n f d) [
          | inl none ↦ inl (none.0, inr (inr none.1))
          | inr kind ↦ elim (failed (delta_type n kind.0) _ f kind.2) as (λ _. ColumnFails n f d) [
            | inl here ↦ inr (name.0, kind.0, name.1, kind.1, ih kind.0 f here)
            | inr t ↦ absurd (let h = t.2 in cc)
          ]
        ]
      ]
    ]

name_read : (part : Data → Result TypeTree Fault) (d : Data) (c : ColumnTree) → delta_column part d ≡ Ok c → column_name d ≡ c.name
unfolding delta_column
name_read part d c e =
    let name = bound (required BadSchema (text_member (codes "name") d)) _ c e in
    let nullable = bound (required BadSchema (bool_member (codes "nullable") d)) _ c name.behind in
    let kind = bound (required BadSchema (get (codes "type") d)) _ c nullable.behind in
    let t = bound (part kind.value) _ c kind.behind in
    let c0 : ColumnTree = record { name = name.value; kind = t.value; nullable = nullable.value } in
    let eq : c0 ≡ c = let h : good c0 ≡ Ok c = t.behind in cc in
    ap (λ o. unwrap_or o []) (was_there _ _ name.first) ∙ ap (λ x. x.name) eq

names_read : (part : Data → Result TypeTree Fault) (xs : List Data) (ys : List ColumnTree) → each (delta_column part) xs ≡ Ok ys → map column_name xs ≡ names_of (columns_of ys)
names_read part [] ys e = let eq : [] ≡ ys = cc in ap (λ cs. names_of (columns_of cs)) eq
names_read part (x ∷ xs) ys e =
    let first = bound (delta_column part x) _ ys e in
    let others = bound (each (delta_column part) xs) _ ys first.behind in
    let eq : first.value ∷ others.value ≡ ys = let h : good (first.value ∷ others.value) ≡ good ys = others.behind in cc in
    let head = name_read part x first.value first.first in
    let tail = names_read part xs others.value others.first in
    ap (λ n. n ∷ map column_name xs) head ∙ ap (λ ns. first.value.name ∷ ns) tail ∙ ap (λ cs. names_of (columns_of cs)) eq

abbrev FieldsFail : ℕ → Fault → Items → Type 0
FieldsFail n f ds =
    ((f ≡ BadSchema) × (IsDistinct bytes_eq (field_names ds) → ⊥))
    ⊎ ((field : Data) × IsAmong field (items ds) × ColumnFails n f field)

columns_failed : (n : ℕ) → Fails n → (ds : Items) (f : Fault) → delta_columns (delta_type n) ds ≡ Err f → FieldsFail n f ds
unfolding delta_columns
columns_failed n ih ds f e =
    elim (failed (each (delta_column (delta_type n)) (items ds)) _ f e) as (λ _. FieldsFail n f ds) [
      | inl here ↦ (let found = each_failed (delta_column (delta_type n)) (items ds) f here in inr (found.at, found.among, column_failed n ih found.at f found.fails))
      | inr read ↦ (let own = own_failed (columns_of read.0) f read.2 in inl (own.0, not_distinct (columns_of read.0) (field_names ds) (names_read (delta_type n) (items ds) read.0 read.1) own.1))
    ]

-- ---- types with parts

module _ (n : ℕ) (f : Fault) (d : Data) where
  in_field : (ds : Items) (field : Data) → IsNamed (codes "struct") d → list_member (codes "fields") d ≡ Some ds → IsAmong field (items ds) → ColumnFails n f field → HasFault (suc n) f d
  in_field ds field word is among (inl bad) = bad_here (suc n) f d bad.0 (inr (inl (word, inr (ds, is, inr (field, among, bad.1)))))
  in_field ds field word is among (inr kind) = in_part n f d kind.1 (inl (ds, field, word, is, among, kind.3)) kind.4

  in_struct : (ds : Items) → IsNamed (codes "struct") d → list_member (codes "fields") d ≡ Some ds → FieldsFail n f ds → HasFault (suc n) f d
  in_struct ds word is (inl twice) = bad_here (suc n) f d twice.0 (inr (inl (word, inr (ds, is, inl twice.1))))
  in_struct ds word is (inr field) = in_field ds field.0 word is field.1 field.2

  struct_failed : Fails n → IsNamed (codes "struct") d → delta_struct (delta_type n) d ≡ Err f → HasFault (suc n) f d
  unfolding delta_struct
  struct_failed ih word e =
      elim (missed (list_member (codes "fields") d) _ f e) as (λ _. HasFault (suc n) f d) [
        | inl none ↦ bad_here (suc n) f d none.0 (inr (inl (word, inl none.1)))
        | inr fields ↦ elim (failed (delta_columns (delta_type n) fields.0) _ f fields.2) as (λ _. HasFault (suc n) f d) [
          | inl here ↦ in_struct fields.0 word fields.1 (columns_failed n ih fields.0 f here)
          | inr read ↦ absurd (let h = read.2 in cc)
        ]
      ]

  list_failed : Fails n → IsNamed (codes "array") d → delta_list (delta_type n) d ≡ Err f → HasFault (suc n) f d
  unfolding delta_list
  list_failed ih word e =
      elim (missed (bool_member (codes "containsNull") d) _ f e) as (λ _. HasFault (suc n) f d) [
        | inl none ↦ bad_here (suc n) f d none.0 (inr (inr (inl (word, inl none.1))))
        | inr nullable ↦ elim (missed (get (codes "elementType") d) _ f nullable.2) as (λ _. HasFault (suc n) f d) [
          | inl none ↦ bad_here (suc n) f d none.0 (inr (inr (inl (word, inr none.1))))
          | inr element ↦ elim (failed (delta_type n element.0) _ f element.2) as (λ _. HasFault (suc n) f d) [
            | inl here ↦ in_part n f d element.0 (inr (inl (word, element.1))) (ih element.0 f here)
            | inr read ↦ absurd (let h = read.2 in cc)
          ]
        ]
      ]

  map_failed : Fails n → IsNamed (codes "map") d → delta_map (delta_type n) d ≡ Err f → HasFault (suc n) f d
  unfolding delta_map
  map_failed ih word e =
      elim (missed (bool_member (codes "valueContainsNull") d) _ f e) as (λ _. HasFault (suc n) f d) [
        | inl none ↦ bad_here (suc n) f d none.0 (inr (inr (inr (word, inl none.1))))
        | inr nullable ↦ elim (missed (get (codes "keyType") d) _ f nullable.2) as (λ _. HasFault (suc n) f d) [
          | inl none ↦ bad_here (suc n) f d none.0 (inr (inr (inr (word, inr (inl none.1)))))
          | inr key ↦ elim (failed (delta_type n key.0) _ f key.2) as (λ _. HasFault (suc n) f d) [
            | inl here ↦ in_part n f d key.0 (inr (inr (word, inl key.1))) (ih key.0 f here)
            | inr k ↦ elim (missed (get (codes "valueType") d) _ f k.2) as (λ _. HasFault (suc n) f d) [
              | inl none ↦ bad_here (suc n) f d none.0 (inr (inr (inr (word, inr (inr none.1)))))
              | inr value ↦ elim (failed (delta_type n value.0) _ f value.2) as (λ _. HasFault (suc n) f d) [
                | inl here ↦ in_part n f d value.0 (inr (inr (word, inr value.1))) (ih value.0 f here)
                | inr read ↦ absurd (let h = read.2 in cc)
              ]
            ]
          ]
        ]
      ]

  named : (word name : List ℕ) → text_member (codes "type") d ≡ Some word → bytes_eq word name ≡ true → IsNamed name d
  named word name is same = is ∙ ap Some ((bytes_eq-Decides word name).0 same)

  nested_failed : Fails n → ((word : List ℕ) → d ≡ string word → ⊥) → delta_nested (delta_type n) d ≡ Err f → HasFault (suc n) f d
  unfolding delta_nested
  nested_failed ih no_word e =
      elim (missed (text_member (codes "type") d) _ f e) as (λ _. HasFault (suc n) f d) [
        | inl none ↦ bad_here (suc n) f d none.0 (inl (no_word, none.1))
        | inr word ↦ (let w : List ℕ = word.0 in let P : Type 0 = HasFault (suc n) f d in
            chose P (bytes_eq w (codes "struct")) _ _ f (λ same g. struct_failed ih (named w (codes "struct") word.1 same) g) (λ o1 r1.
            chose P (bytes_eq w (codes "array")) _ _ f (λ same g. list_failed ih (named w (codes "array") word.1 same) g) (λ o2 r2.
            chose P (bytes_eq w (codes "map")) _ _ f (λ same g. map_failed ih (named w (codes "map") word.1 same) g) (λ o3 r3.
            other_here (suc n) f d (cc) (inr (w, word.1, (not_word w (codes "struct") o1, (not_word w (codes "array") o2, (not_word w (codes "map") o3, tt)))))) r2) r1) word.2)
      ]

-- ---- words

word_failed : (w : List ℕ) (f : Fault) → delta_word w ≡ Err f → f ≡ SchemaType
unfolding delta_word
word_failed w f e =
    let P : Type 0 = f ≡ SchemaType in
    chose P (bytes_eq w (codes "boolean")) _ _ f (λ same g. absurd (ok_err _ f g)) (λ o0 r0.
    chose P (bytes_eq w (codes "byte")) _ _ f (λ same g. absurd (ok_err _ f g)) (λ o1 r1.
    chose P (bytes_eq w (codes "short")) _ _ f (λ same g. absurd (ok_err _ f g)) (λ o2 r2.
    chose P (bytes_eq w (codes "integer")) _ _ f (λ same g. absurd (ok_err _ f g)) (λ o3 r3.
    chose P (bytes_eq w (codes "long")) _ _ f (λ same g. absurd (ok_err _ f g)) (λ o4 r4.
    chose P (bytes_eq w (codes "float")) _ _ f (λ same g. absurd (ok_err _ f g)) (λ o5 r5.
    chose P (bytes_eq w (codes "double")) _ _ f (λ same g. absurd (ok_err _ f g)) (λ o6 r6.
    chose P (bytes_eq w (codes "string")) _ _ f (λ same g. absurd (ok_err _ f g)) (λ o7 r7.
    chose P (bytes_eq w (codes "binary")) _ _ f (λ same g. absurd (ok_err _ f g)) (λ o8 r8.
    chose P (bytes_eq w (codes "date")) _ _ f (λ same g. absurd (ok_err _ f g)) (λ o9 r9.
    chose P (bytes_eq w (codes "timestamp")) _ _ f (λ same g. absurd (ok_err _ f g)) (λ o10 r10.
    chose P (bytes_eq w (codes "timestamp_ntz")) _ _ f (λ same g. absurd (ok_err _ f g)) (λ o11 r11.
    no_word f r11) r10) r9) r8) r7) r6) r5) r4) r3) r2) r1) r0) e

simple_failed : (w : List ℕ) (o : Option (ℕ × ℕ)) (f : Fault) → decimal_or o (delta_word w) ≡ Err f → f ≡ SchemaType
simple_failed w None f e = word_failed w f e
simple_failed w (Some p) f e = absurd (cc)

-- a word reads the same in any number of levels but none
at_word : (m : ℕ) (w : List ℕ) → 1 ≤ m → delta_type m (string w) ≡ delta_simple w
unfolding delta_type
at_word zero w some = absurd (omega (arith, some))
at_word (suc m) w some = refl

no_row : (w : List ℕ) (f : Fault) → delta_simple w ≡ Err f → (t : TypeTree) → IsDeltaType t (string w) → ⊥
no_row w f e t is =
    let read : delta_type (levels t) (string w) ≡ Ok t = delta_only (levels t) t (string w) is (omega arith) in
    let same : delta_type (levels t) (string w) ≡ delta_simple w = at_word (levels t) w (one_level t) in
    absurd (cc)

-- ---- all types

shape_failed : (n : ℕ) → Fails n → (d : Data) (f : Fault) → delta_shape (delta_type n) d ≡ Err f → HasFault (suc n) f d
shape_failed n ih null f e = bad_here (suc n) f null (cc) (inl (λ w h. absurd (cc), refl))
shape_failed n ih (boolean b) f e = bad_here (suc n) f (boolean b) (cc) (inl (λ w h. absurd (cc), refl))
shape_failed n ih (number m) f e = bad_here (suc n) f (number m) (cc) (inl (λ w h. absurd (cc), refl))
shape_failed n ih (string w) f e = other_here (suc n) f (string w) (simple_failed w (decimal_of w) f e) (inl (w, refl, no_row w f e))
shape_failed n ih (array ds) f e = bad_here (suc n) f (array ds) (cc) (inl (λ w h. absurd (cc), refl))
shape_failed n ih (object ms) f e = nested_failed n f (object ms) ih (λ w h. absurd (cc)) e

delta_failed : (n : ℕ) → Fails n
unfolding delta_type IsWithin
delta_failed zero d f e = let is : Depth ≡ f = cc in subst (λ (x : Fault). HasFault 0 x d) is (d, refl)
delta_failed (suc n) d f e = shape_failed n (delta_failed n) d f e

-- ---- a schema

-- no struct, or one without a list of fields
no_fields : (d : Data) (f : Fault) → schema_fields d ≡ Err f → (f ≡ BadSchema) × IsBadDeltaSchema d
unfolding schema_fields IsWithin
no_fields d f e =
    elim (missed (text_member (codes "type") d) _ f e) as (λ _. (f ≡ BadSchema) × IsBadDeltaSchema d) [
      | inl none ↦ (none.0, inl (λ word. absurd (let h = none.1 in cc)))
      | inr word ↦ (let P : Type 0 = (f ≡ BadSchema) × IsBadDeltaSchema d in
          let other : bytes_eq word.0 (codes "struct") ≡ false → IsNamed (codes "struct") d → ⊥ = λ o named_so. not_word word.0 (codes "struct") o (sym word.1 ∙ named_so) in
          elim (missed (list_member (codes "fields") d) _ f word.2) as (λ _. P) [
            | inl none ↦ (none.0, decided (bytes_eq word.0 (codes "struct")) word.0 refl word.1 none.1)
            | inr fields ↦ chose P (bytes_eq word.0 (codes "struct")) _ _ f (λ same g. absurd (cc)) (λ o g. (cc, inl (other o))) fields.2
          ])
    ]
  where
    decided : (b : Bool) (w : List ℕ) → bytes_eq w (codes "struct") ≡ b → text_member (codes "type") d ≡ Some w → list_member (codes "fields") d ≡ None → IsBadDeltaSchema d
    decided true w same is none = inr (0, d, refl, inr (inl (is ∙ ap Some ((bytes_eq-Decides w (codes "struct")).0 same), inl none)))
    decided false w o is none = inl (λ named_so. not_word w (codes "struct") o (sym is ∙ named_so))

top_failed : (d : Data) (ds : Items) (field : Data) (f : Fault) → IsStruct d ds → IsAmong field (items ds) → ColumnFails max_type_levels f field → IsRefusedDelta d (error_in (column_name field) f)
unfolding IsWithin
top_failed d ds field BadSchema is among (inl bad) = inr (0, d, refl, inr (inl (is.word, inr (ds, is.fields, inr (field, among, bad.1)))))
top_failed d ds field BadSchema is among (inr kind) = let at = kind.4 in inr (suc at.0, at.1, (kind.1, inl (ds, field, is.word, is.fields, among, kind.3), at.2), at.3)
top_failed d ds field SchemaType is among (inl bad) = absurd (let h = bad.0 in cc)
top_failed d ds field SchemaType is among (inr kind) = let at = kind.4 in (ds, field, kind.1, at.0, at.1, is.fields, among, name_there field kind.0 kind.2, kind.3, at.2, at.3)
top_failed d ds field Depth is among (inl bad) = absurd (let h = bad.0 in cc)
top_failed d ds field Depth is among (inr kind) = let at = kind.4 in (at.0, (kind.1, inl (ds, field, is.word, is.fields, among, kind.3), at.1))

module _ (d : Data) (ds : Items) (is : IsStruct d ds) (xs : List ColumnTree) (read : each (delta_column (delta_type max_type_levels)) (items ds) ≡ Ok xs) where
  own_refused : (x : MapError) → in_column [] (columns_with_own_names (columns_of xs)) ≡ Err x → IsRefusedDelta d x
  unfolding IsWithin
  own_refused x e =
      let told = told_of [] (columns_with_own_names (columns_of xs)) x e in
      let own = own_failed (columns_of xs) told.fault told.was in
      let twice = not_distinct (columns_of xs) (field_names ds) (names_read (delta_type max_type_levels) (items ds) xs read) own.1 in
      let same : errors.BadSchema ≡ x = sym (ap (error_in []) own.0) ∙ told.is in
      let mine : IsRefusedDelta d errors.BadSchema = inr (0, d, refl, inr (inl (is.word, inr (ds, is.fields, inl twice)))) in
      subst (λ (y : MapError). IsRefusedDelta d y) same mine

  many_refused : (x : MapError) (own : ColumnTrees) → columns_with_own_names (columns_of xs) ≡ Ok own → schema_of_few_columns own ≡ Err x → IsRefusedDelta d x
  many_refused x own named_so e =
      let few = few_failed own x e in
      let object_is = is_object d ds is in
      let found = columns_found max_type_levels (delta_found max_type_levels) ds xs read in
      let names = own_found (columns_of xs) own named_so in
      let many : MAX_COLUMNS < column_count (columns_of xs) = subst (λ (cs : ColumnTrees). MAX_COLUMNS < column_count cs) (sym names.1) few.1 in
      let mine : IsRefusedDelta d (errors.Limit Columns) = (columns_of xs, (object_is.ms, ds, object_is.is, object_is.word, object_is.fields, names.0, found.are), many) in
      subst (λ (y : MapError). IsRefusedDelta d y) few.0 mine

schema_failed : (d : Data) (x : MapError) → delta_schema d ≡ Err x → IsRefusedDelta d x
unfolding delta_schema
schema_failed d x e =
    elim (failed (in_column [] (schema_fields d)) _ x e) as (λ _. IsRefusedDelta d x) [
      | inl here ↦ (let told = told_of [] (schema_fields d) x here in let no = no_fields d told.fault told.was in
          let same : errors.BadSchema ≡ x = sym (ap (error_in []) no.0) ∙ told.is in
          let mine : IsRefusedDelta d errors.BadSchema = no.1 in
          subst (λ (y : MapError). IsRefusedDelta d y) same mine)
      | inr fields ↦ (let ds : Items = fields.0 in let is = is_struct d ds (was_good [] (schema_fields d) ds fields.1) in
          elim (failed (each delta_top_column (items ds)) _ x fields.2) as (λ _. IsRefusedDelta d x) [
            | inl here ↦ (let found = each_failed delta_top_column (items ds) x here in
                let told = told_of (column_name found.at) (delta_column (delta_type max_type_levels) found.at) x found.fails in
                let fails = column_failed max_type_levels (delta_failed max_type_levels) found.at told.fault told.was in
                subst (λ (y : MapError). IsRefusedDelta d y) told.is (top_failed d ds found.at told.fault is found.among fails))
            | inr columns ↦ (let xs : List ColumnTree = columns.0 in
                let read = tops_to (delta_column (delta_type max_type_levels)) column_name (items ds) xs columns.1 in
                elim (failed (in_column [] (columns_with_own_names (columns_of xs))) _ x columns.2) as (λ _. IsRefusedDelta d x) [
                  | inl here ↦ own_refused d ds is xs read x here
                  | inr own ↦ many_refused d ds is xs read x own.0 (was_good [] (columns_with_own_names (columns_of xs)) own.0 own.1) own.2
                ])
          ])
    ]

-- ---- texts

refused_text : (text : List ℕ) (d : Data) (x : MapError) → json text ≡ Some d → IsRefusedDelta d x → IsDeltaRefused text x
refused_text text d errors.Memory is refusal = tt
refused_text text d errors.BadSchema is refusal = inr (d, is, refusal)
refused_text text d (errors.SchemaType name) is refusal = (d, is, refusal)
refused_text text d (errors.AvroName name) is refusal = refusal
refused_text text d (errors.Limit which) is refusal = (d, is, refusal)

no_json : (text : List ℕ) (o : Option Data) (x : MapError) → json text ≡ o → in_column [] (required BadSchema o) ≡ Err x → IsDeltaRefused text x
no_json text (Some d) x is e = absurd (cc)
no_json text None x is e =
    let same : errors.BadSchema ≡ x = cc in
    let mine : IsDeltaRefused text errors.BadSchema = inl is in
    subst (λ (y : MapError). IsDeltaRefused text y) same mine

text_failed : (text : List ℕ) (x : MapError) → delta_schema_of text ≡ Err x → IsDeltaRefused text x
text_failed text x e =
    elim (failed (in_column [] (required BadSchema (json text))) delta_schema x e) as (λ _. IsDeltaRefused text x) [
      | inl here ↦ no_json text (json text) x refl here
      | inr value ↦ refused_text text value.0 x (was_there _ _ (was_good [] (required BadSchema (json text)) value.0 value.1)) (schema_failed value.0 x value.2)
    ]

pub given_refused : (text : List ℕ) (r : Result ColumnTrees MapError) → GivesUnlessMemory is_memory (λ s. s) r (delta_schema_of text) → IfErr r (λ e. IsDeltaRefused text e)
given_refused text (Ok s) given = tt
given_refused text (Err errors.Memory) given = tt
given_refused text (Err errors.BadSchema) given = text_failed text errors.BadSchema given
given_refused text (Err (errors.SchemaType name)) given = text_failed text (errors.SchemaType name) given
given_refused text (Err (errors.AvroName name)) given = text_failed text (errors.AvroName name) given
given_refused text (Err (errors.Limit which)) given = text_failed text (errors.Limit which) given
