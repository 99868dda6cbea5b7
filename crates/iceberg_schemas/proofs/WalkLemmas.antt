-- What the outline of a type tells, where the type is in the grammar.
use Rattle.std.proofs.Common.{◌≡◌, ◌⊎◌, ℕ, zero, suc, ◌++◌, ℤ, Bool, true, false, cond, List, [], ◌∷◌, map, Option, Some, None, Result, Ok, Err, codes, refl, sym, ap, subst, ◌∙◌, inl, inr, ⊎_elim}
use Rattle.std.specs.Prelude.{unwrap_or}
use Rattle.std.specs.List.{IsDistinct}
use Rattle.std.specs.Str.{bytes_eq}
use Rattle.avro_schema.specs.Names.{are_distinct}
use Rattle.partition_map.proofs.ColumnLemmas.{distinct_exactly}
use Rattle.serde_json.specs.Data.{Data, null, boolean, number, string, array, object, Items}
use Rattle.serde_json.specs.Find.{get}
use Rattle.lake_basics.specs.Outcome.{each}
use Rattle.lake_basics.proofs.Options.{some_once, some_or_none}
use Rattle.lake_basics.proofs.Steps.{bind_ok, ok_is, required_some}
use Rattle.json_reading.specs.Json.{text_member, bool_member, int_member, list_member, items}
use Rattle.table_history.specs.TypeTree.{ColumnTrees}
use Rattle.schema_map.specs.Paths.{Path}
use Rattle.schema_map.specs.Places.{IsNamed, field_names}
use Rattle.schema_map.specs.Shared.{column_name}
use Rattle.schema_map.proofs.Failing.{not_word}
use Rattle.schema_map.proofs.Places.{named_word}
use Rattle.schema_iceberg.specs.IcebergRefusal.{IsBadIcebergList, IsBadIcebergMap, IsOtherIcebergType}
use Rattle.iceberg_metadata.specs.declared.error.MetadataError.{MetadataError}
use Rattle.iceberg_metadata.specs.declared.error.MetadataError.TheVariants.{Malformed}
use Rattle.iceberg_metadata.specs.declared.outline.Outline.{Outline}
use Rattle.iceberg_metadata.specs.Members.{text_in, int_in, bool_in, list_in, member_in}
use Rattle.iceberg_metadata.specs.Outlines.{Walk, part_outline, field_outline, fields_outline, if_distinct, own_names, struct_outline, list_outline, map_outline, nested_outline, shape_outline, type_outline, with_column, with_other, with_word, column_of_word}
use Rattle.iceberg_schemas.proofs.WordLemmas.{known_type, type_not_unknown}
use Rattle.iceberg_schemas.proofs.FactLemmas.{Adds, adds_column, adds_none, adds_then, adds_as}
use Rattle.iceberg_schemas.proofs.PlaceLemmas.{no_string, Facts, PartFacts, IsGood, Walked, same_part}
use Rattle.iceberg_schemas.proofs.PartLemmas.{FieldFacts, IsGoodField, ListFacts, AreGoodFields, struct_gone_over, list_gone_over, map_gone_over, leaf_own, leaf_other, string_known, string_other}

abbrev pub Walks : Walk → Type 0
Walks part = (prefix : Path) (d : Data) (o p : Outline) → part prefix d o ≡ Ok p → Walked prefix d o p

-- ---- names

name_there : (d : Data) (name : List ℕ) → text_in (codes "name") d ≡ Ok name → column_name d ≡ name
name_there d name is = ap (λ o. unwrap_or o []) (required_some Malformed (text_member (codes "name") d) name is)

pub names_there : (ds : List Data) (names : List (List ℕ)) → each (text_in (codes "name")) ds ≡ Ok names → names ≡ map column_name ds
names_there [] names h = sym (ok_is {E = MetadataError} [] names h)
names_there (d ∷ ds) names h =
    let first = bind_ok (text_in (codes "name") d) _ names h in
    let others = bind_ok (each (text_in (codes "name")) ds) _ names first.2 in
    let same : first.0 ∷ others.0 ≡ names = ok_is {E = MetadataError} (first.0 ∷ others.0) names others.2 in
    sym same ∙ (λ i. sym (name_there d first.0 first.1) i ∷ names_there ds others.0 others.1 i)

distinct_by : (b : Bool) → cond {A = Result (Unit {0}) MetadataError} b (Ok tt) (Err Malformed) ≡ Ok tt → b ≡ true
distinct_by true h = refl
distinct_by false h = absurd cc

own_there : (ds : Items) (u : Unit {0}) → own_names (items ds) ≡ Ok u → IsDistinct bytes_eq (field_names ds)
own_there ds u h =
    let names = bind_ok (each (text_in (codes "name")) (items ds)) if_distinct u h in
    subst (IsDistinct bytes_eq) (names_there (items ds) names.0 names.1) ((distinct_exactly names.0).0 (distinct_by (are_distinct names.0) names.2))

module _ (part : Walk) (inner : Walks part) where
  -- ---- a part

  part_walked : (prefix : Path) (name : List ℕ) (id : ℤ) (kind : Data) (o p : Outline) → part_outline part prefix name id kind o ≡ Ok p → IsGood kind × Adds (PartFacts prefix name id kind) o p
  part_walked prefix name id kind o p h =
      let path = prefix ++ name ∷ [] in
      let w = inner path kind (with_column o path id) p h in
      (w.good, adds_then (λ f. f ≡ Some (path, id)) (Facts path kind) o (with_column o path id) p (adds_column o path id) w.adds)

  -- ---- fields

  field_walked : (prefix : Path) (field : Data) (o p : Outline) → field_outline part prefix field o ≡ Ok p → IsGoodField field × Adds (FieldFacts prefix field) o p
  unfolding field_outline
  field_walked prefix field o p h =
      let id = bind_ok (int_in (codes "id") field) _ p h in
      let name = bind_ok (text_in (codes "name") field) _ p id.2 in
      let is_required = bind_ok (bool_in (codes "required") field) _ p name.2 in
      let kind = bind_ok (member_in (codes "type") field) _ p is_required.2 in
      let id_is = required_some Malformed (int_member (codes "id") field) id.0 id.1 in
      let name_is = required_some Malformed (text_member (codes "name") field) name.0 name.1 in
      let required_is = required_some Malformed (bool_member (codes "required") field) is_required.0 is_required.1 in
      let kind_is = required_some Malformed (get (codes "type") field) kind.0 kind.1 in
      let w = part_walked prefix name.0 id.0 kind.0 o p kind.2 in (
        (
          ⊎_elim (some_or_none _ id.0 id_is) (⊎_elim (some_or_none _ name.0 name_is) (⊎_elim (some_or_none _ is_required.0 required_is) (some_or_none _ kind.0 kind_is))),
          λ k is. subst IsGood (some_once _ kind.0 k kind_is is) w.0,
          (name.0, id.0, name_is, id_is),
        ),
        adds_as (PartFacts prefix name.0 id.0 kind.0) (FieldFacts prefix field) o p w.1
            (λ f h. (name.0, id.0, kind.0, name_is, id_is, kind_is, h))
            (λ f h. same_part prefix h.0 name.0 h.1 id.0 h.2 kind.0 f (some_once _ h.0 name.0 h.3 name_is) (some_once _ h.1 id.0 h.4 id_is) (some_once _ h.2 kind.0 h.5 kind_is) h.6),
      )

  fields_walked : (prefix : Path) (ds : List Data) (o p : Outline) → fields_outline (field_outline part prefix) ds o ≡ Ok p → AreGoodFields ds × Adds (ListFacts prefix ds) o p
  fields_walked prefix [] o p h = (λ field among. absurd among, subst (λ q. Adds (ListFacts prefix []) o q) (ok_is {E = MetadataError} o p h) (adds_none (ListFacts prefix []) o (λ f is. is.1)))
  fields_walked prefix (d ∷ ds) o p h =
      let first = bind_ok (field_outline part prefix d o) _ p h in
      let here = field_walked prefix d o first.0 first.1 in
      let later = fields_walked prefix ds first.0 p first.2 in (
        λ field. ⊎_elim (λ same. subst IsGoodField same here.0) (later.0 field),
        adds_as (λ f. FieldFacts prefix d f ⊎ ListFacts prefix ds f) (ListFacts prefix (d ∷ ds)) o p
            (adds_then (FieldFacts prefix d) (ListFacts prefix ds) o first.0 p here.1 later.1)
            (λ f. ⊎_elim (λ is. (d, inl refl, is)) (λ is. (is.0, inr is.1, is.2)))
            (λ f is. ⊎_elim (λ same. inl (subst (λ x. FieldFacts prefix x f) (sym same) is.2)) (λ among. inr (is.0, among, is.2)) is.1),
      )

  -- ---- structs

  pub struct_walked : (prefix : Path) (d : Data) (o p : Outline) → IsNamed (codes "struct") d → struct_outline part prefix d o ≡ Ok p → Walked prefix d o p
  unfolding struct_outline
  struct_walked prefix d o p named h =
      let fields = bind_ok (list_in (codes "fields") d) _ p h in
      let ds = fields.0 in
      let own = bind_ok (own_names (items ds)) _ p fields.2 in
      let lists = required_some Malformed (list_member (codes "fields") d) ds fields.1 in
      let w = fields_walked prefix (items ds) o p own.2 in
      struct_gone_over d named ds lists w.0 prefix o p (own_there ds own.0 own.1) w.1

  -- ---- lists

  list_walked : (prefix : Path) (d : Data) (o p : Outline) → IsNamed (codes "list") d → list_outline part prefix d o ≡ Ok p → Walked prefix d o p
  unfolding list_outline
  list_walked prefix d o p named h =
      let id = bind_ok (int_in (codes "element-id") d) _ p h in
      let is_required = bind_ok (bool_in (codes "element-required") d) _ p id.2 in
      let element = bind_ok (member_in (codes "element") d) _ p is_required.2 in
      let id_is = required_some Malformed (int_member (codes "element-id") d) id.0 id.1 in
      let required_is = required_some Malformed (bool_member (codes "element-required") d) is_required.0 is_required.1 in
      let element_is = required_some Malformed (get (codes "element") d) element.0 element.1 in
      let w = part_walked prefix (codes "element") id.0 element.0 o p element.2 in
      let good : IsBadIcebergList d → ⊥ = ⊎_elim (some_or_none _ id.0 id_is) (⊎_elim (some_or_none _ is_required.0 required_is) (some_or_none _ element.0 element_is)) in
      list_gone_over d named id.0 id_is element.0 element_is prefix o p good w.0 w.1

  -- ---- maps

  map_walked : (prefix : Path) (d : Data) (o p : Outline) → IsNamed (codes "map") d → map_outline part prefix d o ≡ Ok p → Walked prefix d o p
  unfolding map_outline
  map_walked prefix d o p named h =
      let key_id = bind_ok (int_in (codes "key-id") d) _ p h in
      let value_id = bind_ok (int_in (codes "value-id") d) _ p key_id.2 in
      let is_required = bind_ok (bool_in (codes "value-required") d) _ p value_id.2 in
      let key = bind_ok (member_in (codes "key") d) _ p is_required.2 in
      let value = bind_ok (member_in (codes "value") d) _ p key.2 in
      let more = bind_ok (part_outline part prefix (codes "key") key_id.0 key.0 o) _ p value.2 in
      let key_id_is = required_some Malformed (int_member (codes "key-id") d) key_id.0 key_id.1 in
      let value_id_is = required_some Malformed (int_member (codes "value-id") d) value_id.0 value_id.1 in
      let required_is = required_some Malformed (bool_member (codes "value-required") d) is_required.0 is_required.1 in
      let key_is = required_some Malformed (get (codes "key") d) key.0 key.1 in
      let value_is = required_some Malformed (get (codes "value") d) value.0 value.1 in
      let good : IsBadIcebergMap d → ⊥ = ⊎_elim (some_or_none _ key_id.0 key_id_is) (⊎_elim (some_or_none _ value_id.0 value_id_is) (⊎_elim (some_or_none _ is_required.0 required_is) (⊎_elim (some_or_none _ key.0 key_is) (some_or_none _ value.0 value_is)))) in
      let k = part_walked prefix (codes "key") key_id.0 key.0 o more.0 more.1 in
      let v = part_walked prefix (codes "value") value_id.0 value.0 more.0 p more.2 in
      let in_key = PartFacts prefix (codes "key") key_id.0 key.0 in
      let in_value = PartFacts prefix (codes "value") value_id.0 value.0 in
      map_gone_over d named key_id.0 value_id.0 key_id_is value_id_is key.0 value.0 key_is value_is prefix o p good k.0 v.0 (adds_then in_key in_value o more.0 p k.1 v.1)

  -- ---- types

  word_known : (w : List ℕ) (s : ColumnTrees) → column_of_word w ≡ Some s → IsOtherIcebergType (string w) → ⊥
  word_known w s is (inl word) = let t = known_type w s is in word.2 t.0 t.1 t.2
  word_known w s is (inr named) = no_string w named.0 named.1

  word_walked : (prefix : Path) (w : List ℕ) (o p : Outline) (c : Option ColumnTrees) → column_of_word w ≡ c → with_word c o ≡ p → Walked prefix (string w) o p
  word_walked prefix w o p None is h = subst (Walked prefix (string w) o) h (string_other w prefix o (inl (w, refl, λ t ids spells. type_not_unknown w t ids is spells)))
  word_walked prefix w o p (Some s) is h = subst (Walked prefix (string w) o) h (string_known w prefix o (word_known w s is))

  nested_walked : (prefix : Path) (d : Data) (o p : Outline) → nested_outline part prefix d o ≡ Ok p → Walked prefix d o p
  unfolding nested_outline
  nested_walked prefix d o p h =
      let word = bind_ok (text_in (codes "type") d) _ p h in
      by word.0 (required_some Malformed (text_member (codes "type") d) word.0 word.1) (bytes_eq word.0 (codes "struct")) (bytes_eq word.0 (codes "list")) (bytes_eq word.0 (codes "map")) refl refl refl word.2
    where
      apart : (w name : List ℕ) → text_member (codes "type") d ≡ Some w → bytes_eq w name ≡ false → IsNamed name d → ⊥
      apart w name is other named = not_word w name other (sym is ∙ named)

      by : (w : List ℕ) → text_member (codes "type") d ≡ Some w → (a b c : Bool) → bytes_eq w (codes "struct") ≡ a → bytes_eq w (codes "list") ≡ b → bytes_eq w (codes "map") ≡ c
          → cond a (struct_outline part prefix d o) (cond b (list_outline part prefix d o) (cond c (map_outline part prefix d o) (Ok (with_other o)))) ≡ Ok p → Walked prefix d o p
      by w is true b c ea eb ec f = struct_walked prefix d o p (named_word d w (codes "struct") is ea) f
      by w is false true c ea eb ec f = list_walked prefix d o p (named_word d w (codes "list") is eb) f
      by w is false false true ea eb ec f = map_walked prefix d o p (named_word d w (codes "map") is ec) f
      by w is false false false ea eb ec f =
          let struct = apart w (codes "struct") is ea in
          let list = apart w (codes "list") is eb in
          let map = apart w (codes "map") is ec in
          subst (Walked prefix d o) (ok_is {E = MetadataError} (with_other o) p f)
          (leaf_other d struct list map prefix o (leaf_own d struct list map (λ none. some_or_none _ w is none.1)) (inr (w, is, (not_word w (codes "struct") ea, (not_word w (codes "list") eb, (not_word w (codes "map") ec, tt))))))

  shape_walked : (prefix : Path) (d : Data) (o p : Outline) → shape_outline part prefix d o ≡ Ok p → Walked prefix d o p
  shape_walked prefix null o p h = absurd cc
  shape_walked prefix (boolean b) o p h = absurd cc
  shape_walked prefix (number n) o p h = absurd cc
  shape_walked prefix (string w) o p h = word_walked prefix w o p (column_of_word w) refl (ok_is {E = MetadataError} _ p h)
  shape_walked prefix (array ds) o p h = absurd cc
  shape_walked prefix (object ms) o p h = nested_walked prefix (object ms) o p h

pub type_walked : (n : ℕ) → Walks (type_outline n)
unfolding type_outline
type_walked zero prefix d o p h = absurd cc
type_walked (suc n) prefix d o p h = shape_walked (type_outline n) (type_walked n) prefix d o p h
