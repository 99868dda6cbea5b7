-- Each refusal of a schema in Iceberg's spelling shows in its JSON.
use Rattle.std.proofs.Common.{◌≡◌, ℕ, zero, suc, ◌<◌, ◌≤◌, List, [], ◌∷◌, ◌++◌, map, Bool, true, false, Option, Some, None, Result, Ok, Err, refl, sym, ap, subst, ◌∙◌, arith}
use Rattle.std.specs.Prelude.{◌⊎◌, ℤ, codes, not, unwrap_or, IfErr}
use Rattle.std.specs.List.{IsDistinct}
use Rattle.std.specs.Str.{bytes_eq}
use Rattle.std.proofs.lemmas.Slice.Eq.{bytes_eq-Decides}
use Rattle.serde_json.specs.Data.{Data, null, boolean, number, string, array, object, Items}
use Rattle.serde_json.specs.Find.{get}
use Rattle.table_history.specs.TypeTree.{TypeTree, ColumnTree, ColumnTrees, columns_of}
use Rattle.table_history.specs.Sound.{names_of}
use Rattle.table_history.specs.SchemaSize.{levels, column_count, max_type_levels}
use Rattle.table_history.specs.declared.limit.LimitKind.TheVariants.{Columns}
use Rattle.lake_basics.specs.declared.limits.TheConstants.{MAX_COLUMNS}
use Rattle.lake_basics.specs.Outcome.{required, GivesUnlessMemory}
use Rattle.json_reading.specs.Json.{text_member, bool_member, int_member, list_member, items}
use Rattle.schema_map.specs.declared.fault.Fault.{Fault}
use Rattle.schema_map.specs.declared.fault.Fault.TheVariants.{BadSchema, SchemaType, Depth}
use Rattle.schema_map.specs.declared.fault.MapError.{MapError}
use Rattle.schema_map.specs.declared.fault.MapError.TheVariants as errors
use Rattle.schema_map.specs.Errors.{in_column, error_in, is_memory}
use Rattle.schema_map.specs.Names.{columns_with_own_names}
use Rattle.schema_map.specs.Shared.{decimal_or, column_name, schema_fields, schema_of}
use Rattle.schema_map.specs.Limits.{schema_of_few_columns}
use Rattle.schema_iceberg.specs.Iceberg.{iceberg_type, iceberg_shape, iceberg_nested, iceberg_struct, iceberg_list, iceberg_map, iceberg_columns, iceberg_column, iceberg_word, iceberg_simple, iceberg_top_column, iceberg_schema, each_with_ids}
use Rattle.schema_iceberg.specs.IcebergSpelling.{IsIcebergType}
use Rattle.schema_map.specs.Decimal.{decimal_of}
use Rattle.schema_map.specs.Among.{IsAmong}
use Rattle.schema_map.specs.Places.{IsWithin, IsNamed, field_names}
use Rattle.schema_iceberg.specs.IcebergRefusal.{IsIcebergPart, IsBadIcebergField, IsBadIcebergType, IsOtherIcebergType, IsBadIcebergSchema, IsIcebergRefused}
use Rattle.schema_map.proofs.Bound.{bound, was_there, good}
use Rattle.schema_map.proofs.Failing.{FailedAt, failed, missed, chose, told_of, not_word}
use Rattle.schema_map.proofs.Reading.{own_found, was_good}
use Rattle.schema_map.proofs.Columns.{one_level}
use Rattle.schema_map.proofs.Refusing.{own_failed, not_distinct, ok_err, no_word, IsStruct, is_struct, name_there, few_failed, is_object}
use Rattle.schema_iceberg.proofs.IcebergFound.{columns_found, iceberg_found}
use Rattle.schema_iceberg.proofs.IcebergOnly.{iceberg_only}
use Rattle.schema_iceberg.proofs.IcebergSchema.{tops_to}
use mathlib.Core.Logic.{inl, inr}

-- a place so many levels below at which the fault shows, or a place that many levels below
abbrev HasFault : ℕ → Fault → Data → Type 0
HasFault n BadSchema d = (k : ℕ) × (place : Data) × IsWithin IsIcebergPart k d place × IsBadIcebergType place
HasFault n SchemaType d = (k : ℕ) × (place : Data) × IsWithin IsIcebergPart k d place × IsOtherIcebergType place
HasFault n Depth d = (place : Data) × IsWithin IsIcebergPart n d place

in_part : (n : ℕ) (f : Fault) (whole part : Data) → IsIcebergPart whole part → HasFault n f part → HasFault (suc n) f whole
unfolding IsWithin
in_part n BadSchema whole part is h = (suc h.0, h.1, (part, is, h.2), h.3)
in_part n SchemaType whole part is h = (suc h.0, h.1, (part, is, h.2), h.3)
in_part n Depth whole part is h = (h.0, (part, is, h.1))

bad_here : (n : ℕ) (f : Fault) (d : Data) → f ≡ BadSchema → IsBadIcebergType d → HasFault n f d
unfolding IsWithin
bad_here n f d is bad = subst (λ (x : Fault). HasFault n x d) (sym is) (0, d, refl, bad)

other_here : (n : ℕ) (f : Fault) (d : Data) → f ≡ SchemaType → IsOtherIcebergType d → HasFault n f d
unfolding IsWithin
other_here n f d is other = subst (λ (x : Fault). HasFault n x d) (sym is) (0, d, refl, other)

-- the types that aren't read in so many levels
abbrev Fails : ℕ → Type 0
Fails n = (d : Data) (f : Fault) → iceberg_type n d ≡ Err f → HasFault n f d

-- ---- columns

abbrev ColumnFails : ℕ → Fault → Data → Type 0
ColumnFails n f d =
    ((f ≡ BadSchema) × IsBadIcebergField d)
    ⊎ ((name : List ℕ) × (kind : Data) × (text_member (codes "name") d ≡ Some name) × (get (codes "type") d ≡ Some kind) × HasFault n f kind)

column_failed : (n : ℕ) → Fails n → (d : Data) (f : Fault) → iceberg_column (iceberg_type n) d ≡ Err f → ColumnFails n f d
unfolding iceberg_column
column_failed n ih d f e =
    elim (missed (int_member (codes "id") d) _ f e) as (λ _. ColumnFails n f d) [
      | inl none ↦ inl (none.0, inl none.1)
      | inr id ↦ elim (missed (text_member (codes "name") d) _ f id.2) as (λ _. ColumnFails n f d) [
        | inl none ↦ inl (none.0, inr (inl none.1))
        | inr name ↦ elim (missed (bool_member (codes "required") d) _ f name.2) as (λ _. ColumnFails n f d) [
          | inl none ↦ inl (none.0, inr (inr (inl none.1)))
          | inr is_required ↦ elim (missed (get (codes "type") d) _ f is_required.2) as (λ _. ColumnFails n f d) [
            | inl none ↦ inl (none.0, inr (inr (inr none.1)))
            | inr kind ↦ elim (failed (iceberg_type n kind.0) _ f kind.2) as (λ _. ColumnFails n f d) [
              | inl here ↦ inr (name.0, kind.0, name.1, kind.1, ih kind.0 f here)
              | inr t ↦ absurd (let h = t.2 in cc)
            ]
          ]
        ]
      ]
    ]

abbrev IdReader : Type 0
IdReader = Data → Result (TypeTree × List ℤ) Fault

name_read : (part : IdReader) (d : Data) (c : ColumnTree × List ℤ) → iceberg_column part d ≡ Ok c → column_name d ≡ c.0.name
unfolding iceberg_column
name_read part d c e =
    let id = bound (required BadSchema (int_member (codes "id") d)) _ c e in
    let name = bound (required BadSchema (text_member (codes "name") d)) _ c id.behind in
    let is_required = bound (required BadSchema (bool_member (codes "required") d)) _ c name.behind in
    let kind = bound (required BadSchema (get (codes "type") d)) _ c is_required.behind in
    let t = bound (part kind.value) _ c kind.behind in
    let c0 : ColumnTree = record { name = name.value; kind = t.value.0; nullable = not is_required.value } in
    let p0 : ColumnTree × List ℤ = (c0, id.value ∷ t.value.1) in
    let eq : p0 ≡ c = let h : good p0 ≡ Ok c = t.behind in cc in
    ap (λ o. unwrap_or o []) (was_there _ _ name.first) ∙ ap (λ x. x.0.name) eq

names_read : (part : IdReader) (xs : List Data) (p : List ColumnTree × List ℤ) → each_with_ids (iceberg_column part) xs ≡ Ok p → map column_name xs ≡ names_of (columns_of p.0)
names_read part [] p e =
    let none : List ColumnTree × List ℤ = ([], []) in
    let eq : none ≡ p = let h : good none ≡ Ok p = e in cc in
    ap (λ q. names_of (columns_of q.0)) eq
names_read part (x ∷ xs) p e =
    let first = bound (iceberg_column part x) _ p e in
    let others = bound (each_with_ids (iceberg_column part) xs) _ p first.behind in
    let all : List ColumnTree × List ℤ = (first.value.0 ∷ others.value.0, first.value.1 ++ others.value.1) in
    let eq : all ≡ p = let h : good all ≡ Ok p = others.behind in cc in
    let head = name_read part x first.value first.first in
    let tail = names_read part xs others.value others.first in
    ap (λ n. n ∷ map column_name xs) head ∙ ap (λ ns. first.value.0.name ∷ ns) tail ∙ ap (λ q. names_of (columns_of q.0)) eq

ids_failed : {E : Type 0} (f : Data → Result (ColumnTree × List ℤ) E) (xs : List Data) (e : E) → each_with_ids f xs ≡ Err e → FailedAt f xs e
ids_failed f [] e h = absurd (cc)
ids_failed f (x ∷ xs) e h =
    elim (failed (f x) _ e h) as (λ _. FailedAt f (x ∷ xs) e) [
      | inl here ↦ record { at = x; among = inl refl; fails = here }
      | inr first ↦ elim (failed (each_with_ids f xs) _ e first.2) as (λ _. FailedAt f (x ∷ xs) e) [
        | inl later ↦ (let found = ids_failed f xs e later in record { at = found.at; among = inr found.among; fails = found.fails })
        | inr others ↦ absurd (let h = others.2 in cc)
      ]
    ]

abbrev FieldsFail : ℕ → Fault → Items → Type 0
FieldsFail n f ds =
    ((f ≡ BadSchema) × (IsDistinct bytes_eq (field_names ds) → ⊥))
    ⊎ ((field : Data) × IsAmong field (items ds) × ColumnFails n f field)

columns_failed : (n : ℕ) → Fails n → (ds : Items) (f : Fault) → iceberg_columns (iceberg_type n) ds ≡ Err f → FieldsFail n f ds
unfolding iceberg_columns
columns_failed n ih ds f e =
    elim (failed (each_with_ids (iceberg_column (iceberg_type n)) (items ds)) _ f e) as (λ _. FieldsFail n f ds) [
      | inl here ↦ (let found = ids_failed (iceberg_column (iceberg_type n)) (items ds) f here in inr (found.at, found.among, column_failed n ih found.at f found.fails))
      | inr read ↦ elim (failed (columns_with_own_names (columns_of read.0.0)) _ f read.2) as (λ _. FieldsFail n f ds) [
        | inl here ↦ (let own = own_failed (columns_of read.0.0) f here in inl (own.0, not_distinct (columns_of read.0.0) (field_names ds) (names_read (iceberg_type n) (items ds) read.0 read.1) own.1))
        | inr own ↦ absurd (let h = own.2 in cc)
      ]
    ]

-- ---- types with parts

module _ (n : ℕ) (f : Fault) (d : Data) where
  in_field : (ds : Items) (field : Data) → IsNamed (codes "struct") d → list_member (codes "fields") d ≡ Some ds → IsAmong field (items ds) → ColumnFails n f field → HasFault (suc n) f d
  in_field ds field word is among (inl bad) = bad_here (suc n) f d bad.0 (inr (inl (word, inr (ds, is, inr (field, among, bad.1)))))
  in_field ds field word is among (inr kind) = in_part n f d kind.1 (inl (ds, field, word, is, among, kind.3)) kind.4

  in_struct : (ds : Items) → IsNamed (codes "struct") d → list_member (codes "fields") d ≡ Some ds → FieldsFail n f ds → HasFault (suc n) f d
  in_struct ds word is (inl twice) = bad_here (suc n) f d twice.0 (inr (inl (word, inr (ds, is, inl twice.1))))
  in_struct ds word is (inr field) = in_field ds field.0 word is field.1 field.2

  struct_failed : Fails n → IsNamed (codes "struct") d → iceberg_struct (iceberg_type n) d ≡ Err f → HasFault (suc n) f d
  unfolding iceberg_struct
  struct_failed ih word e =
      elim (missed (list_member (codes "fields") d) _ f e) as (λ _. HasFault (suc n) f d) [
        | inl none ↦ bad_here (suc n) f d none.0 (inr (inl (word, inl none.1)))
        | inr fields ↦ elim (failed (iceberg_columns (iceberg_type n) fields.0) _ f fields.2) as (λ _. HasFault (suc n) f d) [
          | inl here ↦ in_struct fields.0 word fields.1 (columns_failed n ih fields.0 f here)
          | inr read ↦ absurd (let h = read.2 in cc)
        ]
      ]

  list_failed : Fails n → IsNamed (codes "list") d → iceberg_list (iceberg_type n) d ≡ Err f → HasFault (suc n) f d
  unfolding iceberg_list
  list_failed ih word e =
      elim (missed (int_member (codes "element-id") d) _ f e) as (λ _. HasFault (suc n) f d) [
        | inl none ↦ bad_here (suc n) f d none.0 (inr (inr (inl (word, inl none.1))))
        | inr id ↦ elim (missed (bool_member (codes "element-required") d) _ f id.2) as (λ _. HasFault (suc n) f d) [
          | inl none ↦ bad_here (suc n) f d none.0 (inr (inr (inl (word, inr (inl none.1)))))
          | inr is_required ↦ elim (missed (get (codes "element") d) _ f is_required.2) as (λ _. HasFault (suc n) f d) [
            | inl none ↦ bad_here (suc n) f d none.0 (inr (inr (inl (word, inr (inr none.1)))))
            | inr element ↦ elim (failed (iceberg_type n element.0) _ f element.2) as (λ _. HasFault (suc n) f d) [
              | inl here ↦ in_part n f d element.0 (inr (inl (word, element.1))) (ih element.0 f here)
              | inr read ↦ absurd (let h = read.2 in cc)
            ]
          ]
        ]
      ]

  map_failed : Fails n → IsNamed (codes "map") d → iceberg_map (iceberg_type n) d ≡ Err f → HasFault (suc n) f d
  unfolding iceberg_map
  map_failed ih word e =
      elim (missed (int_member (codes "key-id") d) _ f e) as (λ _. HasFault (suc n) f d) [
        | inl none ↦ bad_here (suc n) f d none.0 (inr (inr (inr (word, inl none.1))))
        | inr key_id ↦ elim (missed (int_member (codes "value-id") d) _ f key_id.2) as (λ _. HasFault (suc n) f d) [
          | inl none ↦ bad_here (suc n) f d none.0 (inr (inr (inr (word, inr (inl none.1)))))
          | inr value_id ↦ elim (missed (bool_member (codes "value-required") d) _ f value_id.2) as (λ _. HasFault (suc n) f d) [
            | inl none ↦ bad_here (suc n) f d none.0 (inr (inr (inr (word, inr (inr (inl none.1))))))
            | inr is_required ↦ elim (missed (get (codes "key") d) _ f is_required.2) as (λ _. HasFault (suc n) f d) [
              | inl none ↦ bad_here (suc n) f d none.0 (inr (inr (inr (word, inr (inr (inr (inl none.1)))))))
              | inr key ↦ elim (failed (iceberg_type n key.0) _ f key.2) as (λ _. HasFault (suc n) f d) [
                | inl here ↦ in_part n f d key.0 (inr (inr (word, inl key.1))) (ih key.0 f here)
                | inr k ↦ elim (missed (get (codes "value") d) _ f k.2) as (λ _. HasFault (suc n) f d) [
                  | inl none ↦ bad_here (suc n) f d none.0 (inr (inr (inr (word, inr (inr (inr (inr none.1)))))))
                  | inr value ↦ elim (failed (iceberg_type n value.0) _ f value.2) as (λ _. HasFault (suc n) f d) [
                    | inl here ↦ in_part n f d value.0 (inr (inr (word, inr value.1))) (ih value.0 f here)
                    | inr read ↦ absurd (let h = read.2 in cc)
                  ]
                ]
              ]
            ]
          ]
        ]
      ]

  named : (word name : List ℕ) → text_member (codes "type") d ≡ Some word → bytes_eq word name ≡ true → IsNamed name d
  named word name is same = is ∙ ap Some ((bytes_eq-Decides word name).0 same)

  nested_failed : Fails n → ((word : List ℕ) → d ≡ string word → ⊥) → iceberg_nested (iceberg_type n) d ≡ Err f → HasFault (suc n) f d
  unfolding iceberg_nested
  nested_failed ih no_word e =
      elim (missed (text_member (codes "type") d) _ f e) as (λ _. HasFault (suc n) f d) [
        | inl none ↦ bad_here (suc n) f d none.0 (inl (no_word, none.1))
        | inr word ↦ (let w : List ℕ = word.0 in let P : Type 0 = HasFault (suc n) f d in
            chose P (bytes_eq w (codes "struct")) _ _ f (λ same g. struct_failed ih (named w (codes "struct") word.1 same) g) (λ o1 r1.
            chose P (bytes_eq w (codes "list")) _ _ f (λ same g. list_failed ih (named w (codes "list") word.1 same) g) (λ o2 r2.
            chose P (bytes_eq w (codes "map")) _ _ f (λ same g. map_failed ih (named w (codes "map") word.1 same) g) (λ o3 r3.
            other_here (suc n) f d (cc) (inr (w, word.1, (not_word w (codes "struct") o1, (not_word w (codes "list") o2, (not_word w (codes "map") o3, tt)))))) r2) r1) word.2)
      ]

-- ---- words

word_failed : (w : List ℕ) (f : Fault) → iceberg_word w ≡ Err f → f ≡ SchemaType
unfolding iceberg_word
word_failed w f e =
    let P : Type 0 = f ≡ SchemaType in
    chose P (bytes_eq w (codes "boolean")) _ _ f (λ same g. absurd (ok_err _ f g)) (λ o0 r0.
    chose P (bytes_eq w (codes "int")) _ _ f (λ same g. absurd (ok_err _ f g)) (λ o1 r1.
    chose P (bytes_eq w (codes "long")) _ _ f (λ same g. absurd (ok_err _ f g)) (λ o2 r2.
    chose P (bytes_eq w (codes "float")) _ _ f (λ same g. absurd (ok_err _ f g)) (λ o3 r3.
    chose P (bytes_eq w (codes "double")) _ _ f (λ same g. absurd (ok_err _ f g)) (λ o4 r4.
    chose P (bytes_eq w (codes "string")) _ _ f (λ same g. absurd (ok_err _ f g)) (λ o5 r5.
    chose P (bytes_eq w (codes "binary")) _ _ f (λ same g. absurd (ok_err _ f g)) (λ o6 r6.
    chose P (bytes_eq w (codes "date")) _ _ f (λ same g. absurd (ok_err _ f g)) (λ o7 r7.
    chose P (bytes_eq w (codes "timestamptz")) _ _ f (λ same g. absurd (ok_err _ f g)) (λ o8 r8.
    chose P (bytes_eq w (codes "timestamp")) _ _ f (λ same g. absurd (ok_err _ f g)) (λ o9 r9.
    no_word f r9) r8) r7) r6) r5) r4) r3) r2) r1) r0) e

simple_failed : (w : List ℕ) (o : Option (ℕ × ℕ)) (f : Fault) → decimal_or o (iceberg_word w) ≡ Err f → f ≡ SchemaType
simple_failed w None f e = word_failed w f e
simple_failed w (Some p) f e = absurd (cc)

-- a word reads the same in any number of levels but none
at_word : (m : ℕ) (w : List ℕ) → 1 ≤ m → iceberg_type m (string w) ≡ iceberg_simple w
unfolding iceberg_type
at_word zero w some = absurd (omega (arith, some))
at_word (suc m) w some = refl

leaf_failed : (w : List ℕ) (f : Fault) → iceberg_simple w ≡ Err f → f ≡ SchemaType
leaf_failed w f e =
    elim (failed (decimal_or (decimal_of w) (iceberg_word w)) _ f e) as (λ _. f ≡ SchemaType) [
      | inl here ↦ simple_failed w (decimal_of w) f here
      | inr read ↦ absurd (let h = read.2 in cc)
    ]

no_row : (w : List ℕ) (f : Fault) → iceberg_simple w ≡ Err f → (t : TypeTree) (ids : List ℤ) → IsIcebergType t ids (string w) → ⊥
no_row w f e t ids is =
    let read : iceberg_type (levels t) (string w) ≡ Ok (t, ids) = iceberg_only (levels t) t ids (string w) is (omega arith) in
    let same : iceberg_type (levels t) (string w) ≡ iceberg_simple w = at_word (levels t) w (one_level t) in
    let both : good (t, ids) ≡ Err f = sym read ∙ same ∙ e in
    ok_err (t, ids) f both

-- ---- all types

shape_failed : (n : ℕ) → Fails n → (d : Data) (f : Fault) → iceberg_shape (iceberg_type n) d ≡ Err f → HasFault (suc n) f d
shape_failed n ih null f e = bad_here (suc n) f null (cc) (inl (λ w h. absurd (cc), refl))
shape_failed n ih (boolean b) f e = bad_here (suc n) f (boolean b) (cc) (inl (λ w h. absurd (cc), refl))
shape_failed n ih (number m) f e = bad_here (suc n) f (number m) (cc) (inl (λ w h. absurd (cc), refl))
shape_failed n ih (string w) f e = other_here (suc n) f (string w) (leaf_failed w f e) (inl (w, refl, no_row w f e))
shape_failed n ih (array ds) f e = bad_here (suc n) f (array ds) (cc) (inl (λ w h. absurd (cc), refl))
shape_failed n ih (object ms) f e = nested_failed n f (object ms) ih (λ w h. absurd (cc)) e

iceberg_failed : (n : ℕ) → Fails n
unfolding iceberg_type IsWithin
iceberg_failed zero d f e = let is : Depth ≡ f = cc in subst (λ (x : Fault). HasFault 0 x d) is (d, refl)
iceberg_failed (suc n) d f e = shape_failed n (iceberg_failed n) d f e

-- ---- a schema

-- no struct, or one without a list of fields
no_fields : (d : Data) (f : Fault) → schema_fields d ≡ Err f → (f ≡ BadSchema) × IsBadIcebergSchema d
unfolding schema_fields IsWithin
no_fields d f e =
    elim (missed (text_member (codes "type") d) _ f e) as (λ _. (f ≡ BadSchema) × IsBadIcebergSchema d) [
      | inl none ↦ (none.0, inl (λ word. absurd (let h = none.1 in cc)))
      | inr word ↦ (let P : Type 0 = (f ≡ BadSchema) × IsBadIcebergSchema d in
          let other : bytes_eq word.0 (codes "struct") ≡ false → IsNamed (codes "struct") d → ⊥ = λ o named_so. not_word word.0 (codes "struct") o (sym word.1 ∙ named_so) in
          elim (missed (list_member (codes "fields") d) _ f word.2) as (λ _. P) [
            | inl none ↦ (none.0, decided (bytes_eq word.0 (codes "struct")) word.0 refl word.1 none.1)
            | inr fields ↦ chose P (bytes_eq word.0 (codes "struct")) _ _ f (λ same g. absurd (cc)) (λ o g. (cc, inl (other o))) fields.2
          ])
    ]
  where
    decided : (b : Bool) (w : List ℕ) → bytes_eq w (codes "struct") ≡ b → text_member (codes "type") d ≡ Some w → list_member (codes "fields") d ≡ None → IsBadIcebergSchema d
    decided true w same is none = inr (0, d, refl, inr (inl (is ∙ ap Some ((bytes_eq-Decides w (codes "struct")).0 same), inl none)))
    decided false w o is none = inl (λ named_so. not_word w (codes "struct") o (sym is ∙ named_so))

top_failed : (d : Data) (ds : Items) (field : Data) (f : Fault) → IsStruct d ds → IsAmong field (items ds) → ColumnFails max_type_levels f field → IsIcebergRefused d (error_in (column_name field) f)
unfolding IsWithin
top_failed d ds field BadSchema is among (inl bad) = inr (0, d, refl, inr (inl (is.word, inr (ds, is.fields, inr (field, among, bad.1)))))
top_failed d ds field BadSchema is among (inr kind) = let at = kind.4 in inr (suc at.0, at.1, (kind.1, inl (ds, field, is.word, is.fields, among, kind.3), at.2), at.3)
top_failed d ds field SchemaType is among (inl bad) = absurd (let h = bad.0 in cc)
top_failed d ds field SchemaType is among (inr kind) = let at = kind.4 in (ds, field, kind.1, at.0, at.1, is.fields, among, name_there field kind.0 kind.2, kind.3, at.2, at.3)
top_failed d ds field Depth is among (inl bad) = absurd (let h = bad.0 in cc)
top_failed d ds field Depth is among (inr kind) = let at = kind.4 in (at.0, (kind.1, inl (ds, field, is.word, is.fields, among, kind.3), at.1))

module _ (d : Data) (ds : Items) (is : IsStruct d ds) (p : List ColumnTree × List ℤ) (read : each_with_ids (iceberg_column (iceberg_type max_type_levels)) (items ds) ≡ Ok p) where
  own_refused : (x : MapError) → in_column [] (columns_with_own_names (columns_of p.0)) ≡ Err x → IsIcebergRefused d x
  unfolding IsWithin
  own_refused x e =
      let told = told_of [] (columns_with_own_names (columns_of p.0)) x e in
      let own = own_failed (columns_of p.0) told.fault told.was in
      let twice = not_distinct (columns_of p.0) (field_names ds) (names_read (iceberg_type max_type_levels) (items ds) p read) own.1 in
      let same : errors.BadSchema ≡ x = sym (ap (error_in []) own.0) ∙ told.is in
      let mine : IsIcebergRefused d errors.BadSchema = inr (0, d, refl, inr (inl (is.word, inr (ds, is.fields, inl twice)))) in
      subst (λ (y : MapError). IsIcebergRefused d y) same mine

  many_refused : (x : MapError) (own : ColumnTrees) → columns_with_own_names (columns_of p.0) ≡ Ok own → schema_of_few_columns own ≡ Err x → IsIcebergRefused d x
  many_refused x own named_so e =
      let few = few_failed own x e in
      let object_is = is_object d ds is in
      let found = columns_found max_type_levels (iceberg_found max_type_levels) ds p read in
      let names = own_found (columns_of p.0) own named_so in
      let many : MAX_COLUMNS < column_count (columns_of p.0) = subst (λ (cs : ColumnTrees). MAX_COLUMNS < column_count cs) (sym names.1) few.1 in
      let mine : IsIcebergRefused d (errors.Limit Columns) = (columns_of p.0, p.1, (object_is.ms, ds, object_is.is, object_is.word, object_is.fields, names.0, found.are), many) in
      subst (λ (y : MapError). IsIcebergRefused d y) few.0 mine

schema_failed : (d : Data) (x : MapError) → iceberg_schema d ≡ Err x → IsIcebergRefused d x
unfolding iceberg_schema
schema_failed d x e =
    elim (failed (in_column [] (schema_fields d)) _ x e) as (λ _. IsIcebergRefused d x) [
      | inl here ↦ (let told = told_of [] (schema_fields d) x here in let no = no_fields d told.fault told.was in
          let same : errors.BadSchema ≡ x = sym (ap (error_in []) no.0) ∙ told.is in
          let mine : IsIcebergRefused d errors.BadSchema = no.1 in
          subst (λ (y : MapError). IsIcebergRefused d y) same mine)
      | inr fields ↦ (let ds : Items = fields.0 in let is = is_struct d ds (was_good [] (schema_fields d) ds fields.1) in
          elim (failed (each_with_ids iceberg_top_column (items ds)) _ x fields.2) as (λ _. IsIcebergRefused d x) [
            | inl here ↦ (let found = ids_failed iceberg_top_column (items ds) x here in
                let told = told_of (column_name found.at) (iceberg_column (iceberg_type max_type_levels) found.at) x found.fails in
                let fails = column_failed max_type_levels (iceberg_failed max_type_levels) found.at told.fault told.was in
                subst (λ (y : MapError). IsIcebergRefused d y) told.is (top_failed d ds found.at told.fault is found.among fails))
            | inr columns ↦ (let p : List ColumnTree × List ℤ = columns.0 in
                let read = tops_to (iceberg_column (iceberg_type max_type_levels)) column_name (items ds) p columns.1 in
                elim (failed (schema_of (columns_of p.0)) _ x columns.2) as (λ _. IsIcebergRefused d x) [
                  | inl whole ↦ elim (failed (in_column [] (columns_with_own_names (columns_of p.0))) _ x whole) as (λ _. IsIcebergRefused d x) [
                    | inl here ↦ own_refused d ds is p read x here
                    | inr own ↦ many_refused d ds is p read x own.0 (was_good [] (columns_with_own_names (columns_of p.0)) own.0 own.1) own.2
                  ]
                  | inr own ↦ absurd (let h = own.2 in cc)
                ])
          ])
    ]

pub given_refused : (d : Data) (r : Result (ColumnTrees × List ℤ) MapError) → GivesUnlessMemory is_memory (λ p. p) r (iceberg_schema d) → IfErr r (λ e. IsIcebergRefused d e)
given_refused d (Ok p) given = tt
given_refused d (Err errors.Memory) given = tt
given_refused d (Err errors.BadSchema) given = schema_failed d errors.BadSchema given
given_refused d (Err (errors.SchemaType name)) given = schema_failed d (errors.SchemaType name) given
given_refused d (Err (errors.AvroName name)) given = schema_failed d (errors.AvroName name) given
given_refused d (Err (errors.Limit which)) given = schema_failed d (errors.Limit which) given
