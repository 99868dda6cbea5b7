-- The JSON that is written of a schema declares it.
use Rattle.std.proofs.Common.{◌≡◌, ℕ, ℤ, Bool, true, false, ◌||◌, cond, List, [], ◌∷◌, ◌++◌, map, Option, None, Some, option_map, refl, ap, sym, subst, ◌∙◌, inl, inr, codes, IfSome}
use Rattle.std.specs.Prelude.{option_and_then}
use Rattle.std.specs.List.{list_any}
use Rattle.std.specs.Str.{bytes_eq}
use Rattle.serde_json.specs.Data.{Data, string, array, object, Members, no_members, put}
use Rattle.serde_json.specs.Find.{get, get_member, as_array}
use Rattle.serde_json.specs.View.{items_of}
use Rattle.indexmap.specs.IndexSet.{insert_key}
use Rattle.json_reading.specs.Json.{text_member, items}
use Rattle.json_reading.proofs.Laws.{items-items_of}
use Rattle.avro_schema.specs.Tree.{SchemaTree, schema_tree, ShapeTree, BranchTrees, no_branches, branch, FieldTrees, no_fields, field}
use Rattle.avro_schema.specs.Names.{namespace_of, Definition, definition_of, with_definition}
use Rattle.avro_schema.specs.Grammar.{Place, inside, Annotates, StandsFor, SaysType, Declares, DeclaresBranches, DeclaresFields}
use Rattle.avro_schema.specs.Writing.{Written, put_some, size_json, id_json, with_annotations, type_members, primitive_json, no_namespace, named_members, is_written, definition_json, array_members, map_members, field_json, fixed_members, enum_members, record_members, written_as, schema_json, shape_json, branches_json, fields_json}
use Rattle.avro_schema.specs.Spelled.{IsSize, IsId, IsNoUnion, IsKnown, Stands, ShapeStands, BranchesStand, FieldsStand}
use Rattle.avro_schema.proofs.WrittenMembers.{at_put, past_put, at_some, past_some, past_notes, text_of_member, size_again, notes, id_again, primitive_again, named_other, named_type, named_name, named_space, full_again}

-- ---- the names that are defined

abbrev pub names_of : List Definition → List (List ℕ)
names_of ds = map (λ d. d.0) ds

known_by : (b r : Bool) (x : SchemaTree) (o : Option SchemaTree) (t : SchemaTree) → cond b (Some x) o ≡ Some t → (o ≡ Some t → r ≡ true) → (b || r) ≡ true
known_by true r x o t e later = refl
known_by false r x o t e later = later e

pub known_written : (name : List ℕ) (ds : List Definition) (t : SchemaTree) → definition_of name ds ≡ Some t → is_written name (names_of ds) ≡ true
known_written name [] t e = absurd cc
known_written name (d ∷ ds) t e = known_by (bytes_eq name d.0) _ d.1 (definition_of name ds) t e (known_written name ds t)

free_by : (b r : Bool) (x : SchemaTree) (o : Option SchemaTree) → cond b (Some x) o ≡ None → (o ≡ None → r ≡ false) → (b || r) ≡ false
free_by true r x o e later = absurd cc
free_by false r x o e later = later e

pub free_written : (name : List ℕ) (ds : List Definition) → definition_of name ds ≡ None → is_written name (names_of ds) ≡ false
free_written name [] e = refl
free_written name (d ∷ ds) e = free_by (bytes_eq name d.0) _ d.1 (definition_of name ds) e (free_written name ds)

put_by : (name : List ℕ) (t : SchemaTree) (d : Definition) (ds : List Definition) (b c : Bool) → names_of (with_definition name t ds) ≡ cond c (names_of ds) (names_of ds ++ name ∷ []) → names_of (cond b ((d.0, t) ∷ ds) (d ∷ with_definition name t ds)) ≡ cond (b || c) (d.0 ∷ names_of ds) (d.0 ∷ (names_of ds ++ name ∷ []))
put_by name t d ds true c e = refl
put_by name t d ds false true e = ap (λ (ns : List (List ℕ)). d.0 ∷ ns) e
put_by name t d ds false false e = ap (λ (ns : List (List ℕ)). d.0 ∷ ns) e

pub put_names : (name : List ℕ) (t : SchemaTree) (ds : List Definition) → names_of (with_definition name t ds) ≡ insert_key bytes_eq (names_of ds) name
put_names name t [] = refl
put_names name t (d ∷ ds) = put_by name t d ds (bytes_eq name d.0) (list_any (bytes_eq name) (names_of ds)) (put_names name t ds)

-- ---- named types

-- What is written declares the type, and the names behind it are those that are defined.
abbrev pub Spells : Place → List Definition → SchemaTree → List Definition → Written Data → Type 0
Spells at before t after w = Declares at before w.0 t after × (w.1 ≡ names_of after)

known_spelt : (at : Place) (before : List Definition) (name : List ℕ) (shape : ShapeTree) (l : Option (List ℕ)) (p s : Option ℕ) (after : List Definition) (w : Written Data) → IsKnown at before name (schema_tree shape l p s) → after ≡ before → Spells at before (schema_tree shape l p s) after (definition_json name (names_of before) w)
known_spelt at before name shape l p s after w (none, whole, outside, found) same =
    let P : Bool → Type 0 = λ b. Spells at before (schema_tree shape l p s) after (cond {A = Written Data} b (string name, names_of before) (w.0, insert_key bytes_eq w.1 name)) in
    let Q : List ℕ → Type 0 = λ x. StandsFor at before x (schema_tree shape l p s) in
    let stands : StandsFor at before name (schema_tree shape l p s) = inl (outside, found) in
    subst P (sym (known_written name before (schema_tree shape l p s) found)) (inr (inl (name, (none, inl refl), subst Q (sym whole) stands, same)), ap names_of (sym same))

new_spelt : (at : Place) (before between after : List Definition) (name : List ℕ) (shape : ShapeTree) (l : Option (List ℕ)) (p s : Option ℕ) (w : Written Data) → definition_of name before ≡ None → Declares at before w.0 (schema_tree shape l p s) after → w.1 ≡ names_of between → after ≡ with_definition name (schema_tree shape l p s) between → Spells at before (schema_tree shape l p s) after (definition_json name (names_of before) w)
new_spelt at before between after name shape l p s w free declares names put =
    let P : Bool → Type 0 = λ b. Spells at before (schema_tree shape l p s) after (cond {A = Written Data} b (string name, names_of before) (w.0, insert_key bytes_eq w.1 name)) in
    let behind : insert_key bytes_eq w.1 name ≡ names_of after = ap (λ (ns : List (List ℕ)). insert_key bytes_eq ns name) names ∙ sym (put_names name (schema_tree shape l p s) between) ∙ ap names_of (sym put) in
    subst P (sym (free_written name before free)) (declares, behind)

-- what an object that begins a named type says, with one more member
record Begins (key word space name : List ℕ) (d : Data) (l : Option (List ℕ)) (p s : Option ℕ) : Type 0 where
  says : SaysType (object (with_annotations l p s (put key d (named_members word space name)))) word
  annotates : Annotates (object (with_annotations l p s (put key d (named_members word space name)))) l p s
  named : text_member (codes "name") (object (with_annotations l p s (put key d (named_members word space name)))) ≡ Some name
  spaced : get (codes "namespace") (object (with_annotations l p s (put key d (named_members word space name)))) ≡ no_namespace space name
  there : get key (object (with_annotations l p s (put key d (named_members word space name)))) ≡ Some d

-- The key is none of the members that each named type may have.
abbrev IsOwnKey : List ℕ → Type 0
IsOwnKey key = (bytes_eq (codes "type") key ≡ false) × (bytes_eq (codes "name") key ≡ false) × (bytes_eq (codes "namespace") key ≡ false)
    × (bytes_eq (codes "logicalType") key ≡ false) × (bytes_eq (codes "precision") key ≡ false) × (bytes_eq (codes "scale") key ≡ false)
    × (bytes_eq key (codes "logicalType") ≡ false) × (bytes_eq key (codes "precision") ≡ false) × (bytes_eq key (codes "scale") ≡ false)

begins : (key word space name : List ℕ) (d : Data) (l : Option (List ℕ)) (p s : Option ℕ) → IsOwnKey key → IfSome p IsSize → IfSome s IsSize → Begins key word space name d l p s
begins key word space name d l p s k sp ss =
    let front = named_members word space name in
    let ms = put key d front in
    let type : get_member (codes "type") (with_annotations l p s ms) ≡ Some (string word) = past_notes (codes "type") l p s ms refl refl refl ∙ past_put (codes "type") key d front k.0 ∙ named_type word space name in
    let own : get_member (codes "name") (with_annotations l p s ms) ≡ Some (string name) = past_notes (codes "name") l p s ms refl refl refl ∙ past_put (codes "name") key d front k.1 ∙ named_name word space name in
    record {
      says = text_of_member (codes "type") word (with_annotations l p s ms) type;
      annotates = notes l p s ms (past_put (codes "logicalType") key d front k.3 ∙ named_other (codes "logicalType") word space name refl refl refl) (past_put (codes "precision") key d front k.4 ∙ named_other (codes "precision") word space name refl refl refl) (past_put (codes "scale") key d front k.5 ∙ named_other (codes "scale") word space name refl refl refl) sp ss;
      named = text_of_member (codes "name") name (with_annotations l p s ms) own;
      spaced = past_notes (codes "namespace") l p s ms refl refl refl ∙ past_put (codes "namespace") key d front k.2 ∙ named_space word space name;
      there = past_notes key l p s ms k.6 k.7 k.8 ∙ at_put key d front;
    }

-- ---- parts

array_other : (q : List ℕ) (d : Data) (id : Option ℤ) → bytes_eq q (codes "element-id") ≡ false → bytes_eq q (codes "items") ≡ false → bytes_eq q (codes "type") ≡ false → get_member q (array_members d id) ≡ None
array_other q d id no_id no_list no_type = past_some q (codes "element-id") (option_map id_json id) (put (codes "items") d (type_members (codes "array"))) no_id ∙ past_put q (codes "items") d (type_members (codes "array")) no_list ∙ past_put q (codes "type") (string (codes "array")) no_members no_type

array_spelt : (at : Place) (before : List Definition) (inner : SchemaTree) (id : Option ℤ) (l : Option (List ℕ)) (p s : Option ℕ) (after : List Definition) (w : Written Data) → IfSome p IsSize → IfSome s IsSize → IfSome id IsId → Spells at before inner after w → Spells at before (schema_tree (ShapeTree.array_of inner id) l p s) after (written_as (λ d. object (with_annotations l p s (array_members d id))) w)
array_spelt at before inner id l p s after w sp ss si h =
    let ms = array_members w.0 id in
    let base = put (codes "items") w.0 (type_members (codes "array")) in
    let type : get_member (codes "type") (with_annotations l p s ms) ≡ Some (string (codes "array")) = past_notes (codes "type") l p s ms refl refl refl ∙ past_some (codes "type") (codes "element-id") (option_map id_json id) base refl ∙ past_put (codes "type") (codes "items") w.0 (type_members (codes "array")) refl ∙ at_put (codes "type") (string (codes "array")) no_members in
    let part : get_member (codes "items") (with_annotations l p s ms) ≡ Some w.0 = past_notes (codes "items") l p s ms refl refl refl ∙ past_some (codes "items") (codes "element-id") (option_map id_json id) base refl ∙ at_put (codes "items") w.0 (type_members (codes "array")) in
    let element : get_member (codes "element-id") (with_annotations l p s ms) ≡ option_map id_json id = past_notes (codes "element-id") l p s ms refl refl refl ∙ at_some (codes "element-id") (option_map id_json id) base (past_put (codes "element-id") (codes "items") w.0 (type_members (codes "array")) refl ∙ past_put (codes "element-id") (codes "type") (string (codes "array")) no_members refl) in
    let told = notes l p s ms (array_other (codes "logicalType") w.0 id refl refl refl) (array_other (codes "precision") w.0 id refl refl refl) (array_other (codes "scale") w.0 id refl refl refl) sp ss in
    (inr (inr (text_of_member (codes "type") (codes "array") (with_annotations l p s ms) type, told, (w.0, part, h.0, id_again (codes "element-id") id (object (with_annotations l p s ms)) element si))), h.1)

map_other : (q : List ℕ) (d : Data) (key value : Option ℤ) → bytes_eq q (codes "value-id") ≡ false → bytes_eq q (codes "key-id") ≡ false → bytes_eq q (codes "values") ≡ false → bytes_eq q (codes "type") ≡ false → get_member q (map_members d key value) ≡ None
map_other q d key value no_value no_key no_values no_type =
    let base = put (codes "values") d (type_members (codes "map")) in
    past_some q (codes "value-id") (option_map id_json value) (put_some (codes "key-id") (option_map id_json key) base) no_value ∙ past_some q (codes "key-id") (option_map id_json key) base no_key ∙ past_put q (codes "values") d (type_members (codes "map")) no_values ∙ past_put q (codes "type") (string (codes "map")) no_members no_type

map_spelt : (at : Place) (before : List Definition) (inner : SchemaTree) (key value : Option ℤ) (l : Option (List ℕ)) (p s : Option ℕ) (after : List Definition) (w : Written Data) → IfSome p IsSize → IfSome s IsSize → IfSome key IsId → IfSome value IsId → Spells at before inner after w → Spells at before (schema_tree (ShapeTree.map_of inner key value) l p s) after (written_as (λ d. object (with_annotations l p s (map_members d key value))) w)
map_spelt at before inner key value l p s after w sp ss sk sv h =
    let ms = map_members w.0 key value in
    let base = put (codes "values") w.0 (type_members (codes "map")) in
    let keyed = put_some (codes "key-id") (option_map id_json key) base in
    let type : get_member (codes "type") (with_annotations l p s ms) ≡ Some (string (codes "map")) = past_notes (codes "type") l p s ms refl refl refl ∙ past_some (codes "type") (codes "value-id") (option_map id_json value) keyed refl ∙ past_some (codes "type") (codes "key-id") (option_map id_json key) base refl ∙ past_put (codes "type") (codes "values") w.0 (type_members (codes "map")) refl ∙ at_put (codes "type") (string (codes "map")) no_members in
    let part : get_member (codes "values") (with_annotations l p s ms) ≡ Some w.0 = past_notes (codes "values") l p s ms refl refl refl ∙ past_some (codes "values") (codes "value-id") (option_map id_json value) keyed refl ∙ past_some (codes "values") (codes "key-id") (option_map id_json key) base refl ∙ at_put (codes "values") w.0 (type_members (codes "map")) in
    let key_there : get_member (codes "key-id") (with_annotations l p s ms) ≡ option_map id_json key = past_notes (codes "key-id") l p s ms refl refl refl ∙ past_some (codes "key-id") (codes "value-id") (option_map id_json value) keyed refl ∙ at_some (codes "key-id") (option_map id_json key) base (past_put (codes "key-id") (codes "values") w.0 (type_members (codes "map")) refl ∙ past_put (codes "key-id") (codes "type") (string (codes "map")) no_members refl) in
    let value_there : get_member (codes "value-id") (with_annotations l p s ms) ≡ option_map id_json value = past_notes (codes "value-id") l p s ms refl refl refl ∙ at_some (codes "value-id") (option_map id_json value) keyed (past_some (codes "value-id") (codes "key-id") (option_map id_json key) base refl ∙ past_put (codes "value-id") (codes "values") w.0 (type_members (codes "map")) refl ∙ past_put (codes "value-id") (codes "type") (string (codes "map")) no_members refl) in
    let told = notes l p s ms (map_other (codes "logicalType") w.0 key value refl refl refl refl) (map_other (codes "precision") w.0 key value refl refl refl refl) (map_other (codes "scale") w.0 key value refl refl refl refl) sp ss in
    (inr (inr (text_of_member (codes "type") (codes "map") (with_annotations l p s ms) type, told, (w.0, part, h.0, id_again (codes "key-id") key (object (with_annotations l p s ms)) key_there sk, id_again (codes "value-id") value (object (with_annotations l p s ms)) value_there sv))), h.1)

-- ---- what is no union is written as no array

primitive_single : (word : List ℕ) (l : Option (List ℕ)) (p s : Option ℕ) → as_array (primitive_json word l p s) ≡ None
primitive_single word None None None = refl
primitive_single word None None (Some s) = refl
primitive_single word None (Some p) None = refl
primitive_single word None (Some p) (Some s) = refl
primitive_single word (Some l) None None = refl
primitive_single word (Some l) None (Some s) = refl
primitive_single word (Some l) (Some p) None = refl
primitive_single word (Some l) (Some p) (Some s) = refl

named_single : (name : List ℕ) (names behind : List (List ℕ)) (ms : Members) (b : Bool) → as_array (cond {A = Written Data} b (string name, names) (object ms, behind)).0 ≡ None
named_single name names behind ms true = refl
named_single name names behind ms false = refl

single : (t : SchemaTree) (space : List ℕ) (names : List (List ℕ)) → IsNoUnion t → as_array (schema_json t space names).0 ≡ None
single (schema_tree ShapeTree.null l p s) space names h = primitive_single (codes "null") l p s
single (schema_tree ShapeTree.boolean l p s) space names h = primitive_single (codes "boolean") l p s
single (schema_tree ShapeTree.int l p s) space names h = primitive_single (codes "int") l p s
single (schema_tree ShapeTree.long l p s) space names h = primitive_single (codes "long") l p s
single (schema_tree ShapeTree.float l p s) space names h = primitive_single (codes "float") l p s
single (schema_tree ShapeTree.double l p s) space names h = primitive_single (codes "double") l p s
single (schema_tree ShapeTree.bytes l p s) space names h = primitive_single (codes "bytes") l p s
single (schema_tree ShapeTree.text l p s) space names h = primitive_single (codes "string") l p s
single (schema_tree (ShapeTree.fixed_of name size) l p s) space names h = named_single name names _ _ (is_written name names)
single (schema_tree (ShapeTree.enum_of name symbols) l p s) space names h = named_single name names _ _ (is_written name names)
single (schema_tree (ShapeTree.array_of inner id) l p s) space names h = refl
single (schema_tree (ShapeTree.map_of inner key value) l p s) space names h = refl
single (schema_tree (ShapeTree.union_of ts) l p s) space names h = absurd h
single (schema_tree (ShapeTree.record_of name fs) l p s) space names h = named_single name names _ _ (is_written name names)

-- ---- all of them

mutual
  pub spelt : (at : Place) (before : List Definition) (t : SchemaTree) (after : List Definition) → Stands at before t after → Spells at before t after (schema_json t at.space (names_of before))
  spelt at before (schema_tree shape l p s) after (sp, ss, h) = shape_spelt at before shape l p s after sp ss h

  shape_spelt : (at : Place) (before : List Definition) (shape : ShapeTree) (l : Option (List ℕ)) (p s : Option ℕ) (after : List Definition) → IfSome p IsSize → IfSome s IsSize → ShapeStands at before shape l p s after → Spells at before (schema_tree shape l p s) after (shape_json shape l p s at.space (names_of before))
  shape_spelt at before ShapeTree.null l p s after sp ss same = (inl (primitive_again (codes "null") ShapeTree.null l p s refl (refl, refl, refl, refl, refl) sp ss, same), ap names_of (sym same))
  shape_spelt at before ShapeTree.boolean l p s after sp ss same = (inl (primitive_again (codes "boolean") ShapeTree.boolean l p s refl (refl, refl, refl, refl, refl) sp ss, same), ap names_of (sym same))
  shape_spelt at before ShapeTree.int l p s after sp ss same = (inl (primitive_again (codes "int") ShapeTree.int l p s refl (refl, refl, refl, refl, refl) sp ss, same), ap names_of (sym same))
  shape_spelt at before ShapeTree.long l p s after sp ss same = (inl (primitive_again (codes "long") ShapeTree.long l p s refl (refl, refl, refl, refl, refl) sp ss, same), ap names_of (sym same))
  shape_spelt at before ShapeTree.float l p s after sp ss same = (inl (primitive_again (codes "float") ShapeTree.float l p s refl (refl, refl, refl, refl, refl) sp ss, same), ap names_of (sym same))
  shape_spelt at before ShapeTree.double l p s after sp ss same = (inl (primitive_again (codes "double") ShapeTree.double l p s refl (refl, refl, refl, refl, refl) sp ss, same), ap names_of (sym same))
  shape_spelt at before ShapeTree.bytes l p s after sp ss same = (inl (primitive_again (codes "bytes") ShapeTree.bytes l p s refl (refl, refl, refl, refl, refl) sp ss, same), ap names_of (sym same))
  shape_spelt at before ShapeTree.text l p s after sp ss same = (inl (primitive_again (codes "string") ShapeTree.text l p s refl (refl, refl, refl, refl, refl) sp ss, same), ap names_of (sym same))
  shape_spelt at before (ShapeTree.fixed_of name size) l p s after sp ss (inl (known, same)) = known_spelt at before name (ShapeTree.fixed_of name size) l p s after _ known same
  shape_spelt at before (ShapeTree.fixed_of name size) l p s after sp ss (inr (free, sized, put)) =
      let b = begins (codes "size") (codes "fixed") at.space name (size_json size) l p s (refl, refl, refl, refl, refl, refl, refl, refl, refl) sp ss in
      let d = object (with_annotations l p s (fixed_members at.space name size)) in
      new_spelt at before before after name (ShapeTree.fixed_of name size) l p s (d, names_of before) free.2 (inr (inr (b.says, b.annotates, ((name, b.named, free.0, full_again at.space name d b.spaced), free.1, free.2), size_again (codes "size") size d b.there sized, put))) refl put
  shape_spelt at before (ShapeTree.enum_of name symbols) l p s after sp ss (inl (known, same)) = known_spelt at before name (ShapeTree.enum_of name symbols) l p s after _ known same
  shape_spelt at before (ShapeTree.enum_of name symbols) l p s after sp ss (inr (free, distinct, put)) =
      let list = items_of (map string symbols) in
      let b = begins (codes "symbols") (codes "enum") at.space name (array list) l p s (refl, refl, refl, refl, refl, refl, refl, refl, refl) sp ss in
      let d = object (with_annotations l p s (enum_members at.space name symbols)) in
      new_spelt at before before after name (ShapeTree.enum_of name symbols) l p s (d, names_of before) free.2 (inr (inr (b.says, b.annotates, ((name, b.named, free.0, full_again at.space name d b.spaced), free.1, free.2), (list, ap (option_and_then as_array) b.there, items-items_of (map string symbols)), distinct, put))) refl put
  shape_spelt at before (ShapeTree.array_of inner id) l p s after sp ss (si, h) = array_spelt at before inner id l p s after (schema_json inner at.space (names_of before)) sp ss si (spelt at before inner after h)
  shape_spelt at before (ShapeTree.map_of inner key value) l p s after sp ss (sk, sv, h) = map_spelt at before inner key value l p s after (schema_json inner at.space (names_of before)) sp ss sk sv (spelt at before inner after h)
  shape_spelt at before (ShapeTree.union_of ts) l p s after sp ss (el, ep, es, h) =
      let all = branches_spelt at before ts after h in
      (inr (inr ((branches_json ts at.space (names_of before)).0, refl, el, ep, es, all.0)), all.1)
  shape_spelt at before (ShapeTree.record_of name fs) l p s after sp ss (inl (known, same)) = known_spelt at before name (ShapeTree.record_of name fs) l p s after _ known same
  shape_spelt at before (ShapeTree.record_of name fs) l p s after sp ss (inr (free, distinct, (between, h, put))) =
      let all = fields_spelt (inside at name) before fs between h in
      let list = (fields_json fs (namespace_of name) (names_of before)).0 in
      let b = begins (codes "fields") (codes "record") at.space name (array list) l p s (refl, refl, refl, refl, refl, refl, refl, refl, refl) sp ss in
      let d = object (with_annotations l p s (record_members at.space name list)) in
      new_spelt at before between after name (ShapeTree.record_of name fs) l p s (d, (fields_json fs (namespace_of name) (names_of before)).1) free.2 (inr (inr (b.says, b.annotates, ((name, b.named, free.0, full_again at.space name d b.spaced), free.1, free.2), (list, between, ap (option_and_then as_array) b.there, all.0, distinct, put)))) all.1 put

  branches_spelt : (at : Place) (before : List Definition) (ts : BranchTrees) (after : List Definition) → BranchesStand at before ts after → DeclaresBranches at before (items (branches_json ts at.space (names_of before)).0) ts after × ((branches_json ts at.space (names_of before)).1 ≡ names_of after)
  branches_spelt at before no_branches after same = (same, ap names_of (sym same))
  branches_spelt at before (branch t ts) after (alone, (between, first, others)) =
      let one = spelt at before t between first in
      let rest = branches_spelt at between ts after others in
      let d = (schema_json t at.space (names_of before)).0 in
      let P : List (List ℕ) → Type 0 = λ ns. DeclaresBranches at before (d ∷ items (branches_json ts at.space ns).0) (branch t ts) after × ((branches_json ts at.space ns).1 ≡ names_of after) in
      subst P (sym one.1) ((single t at.space (names_of before) alone, (between, one.0, rest.0)), rest.1)

  fields_spelt : (at : Place) (before : List Definition) (fs : FieldTrees) (after : List Definition) → FieldsStand at before fs after → DeclaresFields at before (items (fields_json fs at.space (names_of before)).0) fs after × ((fields_json fs at.space (names_of before)).1 ≡ names_of after)
  fields_spelt at before no_fields after same = (same, ap names_of (sym same))
  fields_spelt at before (field name t id fs) after (si, (between, first, others)) =
      let one = spelt at before t between first in
      let rest = fields_spelt at between fs after others in
      let d = (schema_json t at.space (names_of before)).0 in
      let named = put (codes "name") (string name) no_members in
      let typed = put (codes "type") d named in
      let own : get_member (codes "name") (put_some (codes "field-id") (option_map id_json id) typed) ≡ Some (string name) = past_some (codes "name") (codes "field-id") (option_map id_json id) typed refl ∙ past_put (codes "name") (codes "type") d named refl ∙ at_put (codes "name") (string name) no_members in
      let part : get_member (codes "type") (put_some (codes "field-id") (option_map id_json id) typed) ≡ Some d = past_some (codes "type") (codes "field-id") (option_map id_json id) typed refl ∙ at_put (codes "type") d named in
      let id_there : get_member (codes "field-id") (put_some (codes "field-id") (option_map id_json id) typed) ≡ option_map id_json id = at_some (codes "field-id") (option_map id_json id) typed (past_put (codes "field-id") (codes "type") d named refl ∙ past_put (codes "field-id") (codes "name") (string name) no_members refl) in
      let P : List (List ℕ) → Type 0 = λ ns. DeclaresFields at before (field_json name d id ∷ items (fields_json fs at.space ns).0) (field name t id fs) after × ((fields_json fs at.space ns).1 ≡ names_of after) in
      subst P (sym one.1) ((text_of_member (codes "name") name (put_some (codes "field-id") (option_map id_json id) typed) own, id_again (codes "field-id") id (field_json name d id) id_there si, (d, between, part, one.0, rest.0)), rest.1)
