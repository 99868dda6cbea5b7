-- The fields of each record of an Avro schema text have names of their own, so what is read is sound.
use Rattle.std.proofs.Common.{◌≡◌, inl, inr, ℕ, List, [], ◌∷◌, Bool, true, false, not, ◌&&◌, ◌||◌, Option, Some, None, refl, sym, ap, subst, ◌∙◌, arith, cond}
use Rattle.std.specs.Prelude.{codes}
use Rattle.std.specs.List.{list_any}
use Rattle.std.specs.Str.{bytes_eq}
use Rattle.std.proofs.lemmas.Slice.Eq.{bytes_eq-Decides}
use Rattle.serde_json.specs.Data.{Data}
use Rattle.avro_schema.specs.Tree as avro
use Rattle.avro_schema.specs.Tree.{SchemaTree, schema_tree, ShapeTree, BranchTrees, no_branches, branch, FieldTrees, no_fields, field}
use Rattle.avro_schema.specs.Names.{Definition, primitive_of, definition_of, with_definition, are_distinct}
use Rattle.avro_schema.specs.Grammar.{Place, OwnUse, is_a_fault, is_any_type, top, inside, field_names, Declares, DeclaresComplex, DeclaresBranches, DeclaresFields, IsSchemaText}
use Rattle.table_history.specs.TypeTree as tree
use Rattle.table_history.specs.TypeTree.{TypeTree, ColumnTrees, no_columns, column}
use Rattle.table_history.specs.Sound.{is_named, have_own_names, IsSoundType, AreSound, IsSound}
use Rattle.schema_avro.specs.AvroSpelling.{shape_of, IsPart, IsAvroType, AreAvroColumns, IsAvroText}

-- ---- records whose fields have names of their own, at all levels

abbrev mutual
  pub HasOwn : SchemaTree → Type 0
  HasOwn (schema_tree shape l p s) = ShapeHasOwn shape

  pub ShapeHasOwn : ShapeTree → Type 0
  ShapeHasOwn (avro.array_of items id) = HasOwn items
  ShapeHasOwn (avro.map_of values key_id value_id) = HasOwn values
  ShapeHasOwn (avro.union_of branches) = BranchesHaveOwn branches
  ShapeHasOwn (avro.record_of name fields) = (are_distinct (field_names fields) ≡ true) × FieldsHaveOwn fields
  ShapeHasOwn _ = Unit {0}

  pub BranchesHaveOwn : BranchTrees → Type 0
  BranchesHaveOwn no_branches = Unit {0}
  BranchesHaveOwn (branch t ts) = HasOwn t × BranchesHaveOwn ts

  pub FieldsHaveOwn : FieldTrees → Type 0
  FieldsHaveOwn no_fields = Unit {0}
  FieldsHaveOwn (field name t id fs) = HasOwn t × FieldsHaveOwn fs

abbrev pub AllOwn : List Definition → Type 0
AllOwn [] = Unit {0}
AllOwn (d ∷ ds) = HasOwn d.1 × AllOwn ds

-- ---- what is defined

found_own : (b : Bool) (u t : SchemaTree) (o : Option SchemaTree) → HasOwn u → (o ≡ Some t → HasOwn t) → cond b (Some u) o ≡ Some t → HasOwn t
found_own true u t o here behind e = let same : u ≡ t = cc in subst HasOwn same here
found_own false u t o here behind e = behind e

defined_own : (name : List ℕ) (ds : List Definition) (t : SchemaTree) → AllOwn ds → definition_of name ds ≡ Some t → HasOwn t
defined_own name [] t all is = absurd cc
defined_own name (d ∷ ds) t all is = found_own (bytes_eq name d.0) d.1 t (definition_of name ds) all.0 (defined_own name ds t all.1) is

either_own : (b : Bool) (xs ys : List Definition) → AllOwn xs → AllOwn ys → AllOwn (cond b xs ys)
either_own true xs ys here there = here
either_own false xs ys here there = there

with_own : (name : List ℕ) (t : SchemaTree) (ds : List Definition) → HasOwn t → AllOwn ds → AllOwn (with_definition name t ds)
with_own name t [] own all = (own, tt)
with_own name t (d ∷ ds) own all = either_own (bytes_eq name d.0) ((d.0, t) ∷ ds) (d ∷ with_definition name t ds) (own, all.1) (all.0, with_own name t ds own all.1)

-- ---- primitive types

pick : (b : Bool) (x shape : ShapeTree) (o : Option ShapeTree) → ShapeHasOwn x → (o ≡ Some shape → ShapeHasOwn shape) → cond b (Some x) o ≡ Some shape → ShapeHasOwn shape
pick true x shape o here later e = let same : x ≡ shape = cc in subst ShapeHasOwn same here
pick false x shape o here later e = later e

no_shape : (shape : ShapeTree) → ◌≡◌ {A = Option ShapeTree} None (Some shape) → ShapeHasOwn shape
no_shape shape e = absurd cc

word_own : (word : List ℕ) (shape : ShapeTree) → primitive_of word ≡ Some shape → ShapeHasOwn shape
word_own word shape = pick (bytes_eq word (codes "null")) avro.null shape _ tt (pick (bytes_eq word (codes "boolean")) avro.boolean shape _ tt (pick (bytes_eq word (codes "int")) avro.int shape _ tt (pick (bytes_eq word (codes "long")) avro.long shape _ tt (pick (bytes_eq word (codes "float")) avro.float shape _ tt (pick (bytes_eq word (codes "double")) avro.double shape _ tt (pick (bytes_eq word (codes "bytes")) avro.bytes shape _ tt (pick (bytes_eq word (codes "string")) avro.text shape _ tt (no_shape shape))))))))

no_own_use : {A : Type 0} (own : OwnUse) → own ≡ is_a_fault → own ≡ is_any_type → A
no_own_use own fault any = absurd cc

-- ---- all of them

abbrev pub Own : Type 0 → List Definition → Type 0
Own P after = P × AllOwn after

unchanged : (P : Type 0) (before after : List Definition) → P → AllOwn before → after ≡ before → Own P after
unchanged P before after here all same = (here, subst AllOwn (sym same) all)

defines : (name : List ℕ) (t : SchemaTree) (before after : List Definition) → HasOwn t → AllOwn before → after ≡ with_definition name t before → Own (HasOwn t) after
defines name t before after own all same = (own, subst AllOwn (sym same) (with_own name t before own all))

mutual
  pub declared_own : (t : SchemaTree) (at : Place) (before : List Definition) (d : Data) (after : List Definition) → at.own_use ≡ is_a_fault → AllOwn before → Declares at before d t after → Own (HasOwn t) after
  declared_own (schema_tree shape l p s) at before d after fault all (inl ((word, is, says), same)) = unchanged _ before after (word_own word shape is) all same
  declared_own (schema_tree shape l p s) at before d after fault all (inr (inl (name, says, inl (closed, is), same))) = unchanged _ before after (defined_own _ before (schema_tree shape l p s) all is) all same
  declared_own (schema_tree shape l p s) at before d after fault all (inr (inl (name, says, inr (opened, any), same))) = no_own_use at.own_use fault any
  declared_own (schema_tree shape l p s) at before d after fault all (inr (inr complex)) = complex_own shape l p s at before d after fault all complex

  complex_own : (shape : ShapeTree) (l : Option (List ℕ)) (p s : Option ℕ) (at : Place) (before : List Definition) (d : Data) (after : List Definition) → at.own_use ≡ is_a_fault → AllOwn before → DeclaresComplex at before d shape l p s after → Own (ShapeHasOwn shape) after
  complex_own avro.null l p s at before d after fault all is = absurd is
  complex_own avro.boolean l p s at before d after fault all is = absurd is
  complex_own avro.int l p s at before d after fault all is = absurd is
  complex_own avro.long l p s at before d after fault all is = absurd is
  complex_own avro.float l p s at before d after fault all is = absurd is
  complex_own avro.double l p s at before d after fault all is = absurd is
  complex_own avro.bytes l p s at before d after fault all is = absurd is
  complex_own avro.text l p s at before d after fault all is = absurd is
  complex_own (avro.fixed_of name size) l p s at before d after fault all (says, notes, fresh, sized, same) = defines name _ before after tt all same
  complex_own (avro.enum_of name symbols) l p s at before d after fault all (says, notes, fresh, listed, distinct, same) = defines name _ before after tt all same
  complex_own (avro.array_of items id) l p s at before d after fault all (says, notes, (part, is, declares, id_is)) = declared_own items at before part after fault all declares
  complex_own (avro.map_of values key_id value_id) l p s at before d after fault all (says, notes, (part, is, declares, key_is, value_is)) = declared_own values at before part after fault all declares
  complex_own (avro.union_of branches) l p s at before d after fault all (list, is, no_l, no_p, no_s, declares) = branches_own branches at before _ after fault all declares
  complex_own (avro.record_of name fields) l p s at before d after fault all (says, notes, fresh, (list, between, is, declares, distinct, same)) =
      let inner = fields_own fields (inside at name) before _ between fault all declares in
      defines name (schema_tree (avro.record_of name fields) l p s) between after (distinct, inner.0) inner.1 same

  branches_own : (ts : BranchTrees) (at : Place) (before : List Definition) (ds : List Data) (after : List Definition) → at.own_use ≡ is_a_fault → AllOwn before → DeclaresBranches at before ds ts after → Own (BranchesHaveOwn ts) after
  branches_own no_branches at before [] after fault all same = unchanged (Unit {0}) before after tt all same
  branches_own no_branches at before (d ∷ ds) after fault all is = absurd is
  branches_own (branch t ts) at before [] after fault all is = absurd is
  branches_own (branch t ts) at before (d ∷ ds) after fault all (no_array, (between, declares, rest)) =
      let first = declared_own t at before d between fault all declares in
      let others = branches_own ts at between ds after fault first.1 rest in
      ((first.0, others.0), others.1)

  fields_own : (fs : FieldTrees) (at : Place) (before : List Definition) (ds : List Data) (after : List Definition) → at.own_use ≡ is_a_fault → AllOwn before → DeclaresFields at before ds fs after → Own (FieldsHaveOwn fs) after
  fields_own no_fields at before [] after fault all same = unchanged (Unit {0}) before after tt all same
  fields_own no_fields at before (d ∷ ds) after fault all is = absurd is
  fields_own (field name t id fs) at before [] after fault all is = absurd is
  fields_own (field name t id fs) at before (d ∷ ds) after fault all (named, id_is, (part, between, is, declares, rest)) =
      let first = declared_own t at before part between fault all declares in
      let others = fields_own fs at between ds after fault first.1 rest in
      ((first.0, others.0), others.1)

pub text_own : (text : List ℕ) (t : SchemaTree) → IsSchemaText text t → HasOwn t
text_own text t is = (declared_own t (top is_a_fault) [] is.value is.behind refl tt is.declares).0

-- ---- columns

pub turned : (a b : List ℕ) → bytes_eq a b ≡ bytes_eq b a
turned a b = by _ _ refl refl
  where
    by : (x y : Bool) → bytes_eq a b ≡ x → bytes_eq b a ≡ y → bytes_eq a b ≡ bytes_eq b a
    by true true e f = e ∙ sym f
    by false false e f = e ∙ sym f
    by true false e f = let h : bytes_eq b a ≡ true = (bytes_eq-Decides b a).1 (sym ((bytes_eq-Decides a b).0 e)) in absurd cc
    by false true e f = let h : bytes_eq a b ≡ true = (bytes_eq-Decides a b).1 (sym ((bytes_eq-Decides b a).0 f)) in absurd cc

named_field : (name : List ℕ) (cs : ColumnTrees) (fields : FieldTrees) → AreAvroColumns cs fields → is_named name cs ≡ list_any (bytes_eq name) (field_names fields)
named_field name no_columns fields are = rw are
named_field name (column n t b cs) fields (part, id, kind, others, is, at, typed, rest) =
    rw is (ap (λ x. x || is_named name cs) (turned n name) ∙ ap (λ x. bytes_eq name n || x) (named_field name cs others rest))

own_columns : (cs : ColumnTrees) (fields : FieldTrees) → AreAvroColumns cs fields → have_own_names cs ≡ are_distinct (field_names fields)
own_columns no_columns fields are = rw are
own_columns (column n t b cs) fields (part, id, kind, others, is, at, typed, rest) =
    rw is (ap (λ x. not x && have_own_names cs) (named_field n cs others rest) ∙ ap (λ x. not (list_any (bytes_eq n) (field_names others)) && x) (own_columns cs others rest))

shape_own : (s : SchemaTree) → HasOwn s → ShapeHasOwn (shape_of s)
shape_own (schema_tree shape l p s) own = own

part_own : (whole kind : SchemaTree) (b : Bool) → IsPart whole kind b → HasOwn whole → HasOwn kind
part_own whole kind false (inl same) own = subst HasOwn same own
part_own whole kind false (inr is) own = (subst ShapeHasOwn is (shape_own whole own)).0
part_own whole kind true (nothing, null, inl is) own = (subst ShapeHasOwn is (shape_own whole own)).1.0
part_own whole kind true (nothing, null, inr is) own = (subst ShapeHasOwn is (shape_own whole own)).0

mutual
  pub avro_sound : (t : TypeTree) (s : SchemaTree) → IsAvroType t s → HasOwn s → IsSoundType t
  avro_sound tree.boolean s is own = tt
  avro_sound tree.byte s is own = tt
  avro_sound tree.short s is own = tt
  avro_sound tree.int s is own = tt
  avro_sound tree.long s is own = tt
  avro_sound tree.float s is own = tt
  avro_sound tree.double s is own = tt
  avro_sound tree.text s is own = tt
  avro_sound tree.binary s is own = tt
  avro_sound tree.date s is own = tt
  avro_sound tree.timestamp s is own = tt
  avro_sound tree.timestamp_ntz s is own = tt
  avro_sound (tree.decimal p s) (schema_tree shape l q r) (shaped, is, precision, scale, some, most, within) own = (some, omega (arith, most), within)
  avro_sound (tree.struct_of cs) (schema_tree shape l p s) (name, fields, shaped, are) own =
      let here : (are_distinct (field_names fields) ≡ true) × FieldsHaveOwn fields = subst ShapeHasOwn shaped own in
      (own_columns cs fields are ∙ here.0, columns_sound cs fields are here.1)
  avro_sound (tree.list_of t b) (schema_tree shape l p s) (items, id, kind, shaped, part, is) own = avro_sound t kind is (part_own items kind b part (subst ShapeHasOwn shaped own))
  avro_sound (tree.map_of k v b) (schema_tree shape l p s) (values, key_id, value_id, kind, key, shaped, part, is) own =
      (subst IsSoundType (sym key) tt, avro_sound v kind is (part_own values kind b part (subst ShapeHasOwn shaped own)))

  columns_sound : (cs : ColumnTrees) (fields : FieldTrees) → AreAvroColumns cs fields → FieldsHaveOwn fields → AreSound cs
  columns_sound no_columns fields are own = tt
  columns_sound (column n t b cs) fields (part, id, kind, others, is, at, typed, rest) own =
      let here : HasOwn part × FieldsHaveOwn others = subst FieldsHaveOwn is own in
      (avro_sound t kind typed (part_own part kind b at here.0), columns_sound cs others rest here.1)

pub text_sound : (cs : ColumnTrees) (text : List ℕ) → IsAvroText cs text → IsSound cs
text_sound cs text (t, spelled, is) = avro_sound (tree.struct_of cs) t is (text_own text t spelled)
