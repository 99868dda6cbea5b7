-- What is written of a schema is an Avro schema text of its Image.
use Rattle.std.proofs.Common.{◌≡◌, inl, inr, ℕ, ◌+◌, ◌*◌, ◌%◌, ◌<◌, ◌≤◌, List, [], ◌∷◌, ◌++◌, length, Bool, true, false, not, ◌&&◌, ◌||◌, Option, Some, None, Ok, refl, sym, ap, subst, ◌∙◌, arith, cond}
use Rattle.std.specs.Prelude.{codes, decimal, ◌==◌, ◌^◌, nat_lt, nat_le, option_and_then}
use Rattle.std.specs.List.{list_any}
use Rattle.std.specs.Str.{bytes_eq}
use Rattle.std.proofs.lemmas.Bool.{and_parts, le-leb, lt-ltb, ne_eqb, or_from, or_parts}
use Rattle.std.proofs.lemmas.Slice.Eq.{bytes_eq-Decides}
use Rattle.std.proofs.lemmas.Fmt.{decimal_by_steps, decimal_injective}
use Rattle.serde_json.specs.Data.{Data, string, number, unsigned, depth, items_depth, no_items, item}
use Rattle.serde_json.specs.Find.{get, as_array}
use Rattle.serde_json.specs.Read.{max_depth}
use Rattle.serde_json.specs.View.{items_of}
use Rattle.json_reading.specs.Json.{json, items, whole, text_member}
use Rattle.json_reading.proofs.Laws.{items-items_of}
use Rattle.avro_schema.specs.Tree as avro
use Rattle.avro_schema.specs.Tree.{SchemaTree, schema_tree, ShapeTree, no_branches, branch, FieldTrees, no_fields, field}
use Rattle.avro_schema.specs.Sizes.{type_count, field_type_count, level_count, field_level_count}
use Rattle.avro_schema.specs.Names.{has_dot, dot, namespace_of, full_name, is_name, Definition, definition_of, with_definition, are_distinct}
use Rattle.avro_schema.specs.Reading.{id_member, below_2_31}
use Rattle.avro_schema.specs.Grammar.{Place, top, is_a_fault, inside, field_names, IsPrimitive, Declares, DeclaresFields, IsSchemaText}
use Rattle.table_history.specs.TypeTree as tree
use Rattle.table_history.specs.TypeTree.{TypeTree, ColumnTrees, no_columns, column}
use Rattle.table_history.specs.Sound.{is_named, have_own_names, IsSoundType, AreSound, IsSound}
use Rattle.table_history.specs.SchemaSize.{levels, column_levels, inner_count, column_count, IsWithinLimits}
use Rattle.schema_map.specs.Image.{wide_type, wide_columns, is_text, has_text_keys, have_text_keys}
use Rattle.schema_avro.specs.AvroWriting.{record_name, nullable_data, avro_field_data, avro_data, avro_fields}
use Rattle.schema_avro.specs.AvroSpelling.{IsPart, IsAvroType, AreAvroColumns, IsAvroText}
use Rattle.schema_map.proofs.Columns.{one_level}
use Rattle.schema_avro.proofs.AvroOwn.{turned}

-- ---- the Avro type that is written

abbrev null_tree : SchemaTree
null_tree = schema_tree avro.null None None None

abbrev pub nullable_tree : Bool → SchemaTree → SchemaTree
nullable_tree true t = schema_tree (avro.union_of (branch null_tree (branch t no_branches))) None None None
nullable_tree false t = t

-- the type, where so many records stand before it
abbrev mutual
  pub avro_tree : TypeTree → ℕ → SchemaTree
  avro_tree tree.boolean n = schema_tree avro.boolean None None None
  avro_tree tree.byte n = schema_tree avro.int None None None
  avro_tree tree.short n = schema_tree avro.int None None None
  avro_tree tree.int n = schema_tree avro.int None None None
  avro_tree tree.long n = schema_tree avro.long None None None
  avro_tree tree.float n = schema_tree avro.float None None None
  avro_tree tree.double n = schema_tree avro.double None None None
  avro_tree tree.text n = schema_tree avro.text None None None
  avro_tree tree.binary n = schema_tree avro.bytes None None None
  avro_tree tree.date n = schema_tree avro.int (Some (codes "date")) None None
  avro_tree tree.timestamp n = schema_tree avro.long (Some (codes "timestamp-micros")) None None
  avro_tree tree.timestamp_ntz n = schema_tree avro.long (Some (codes "local-timestamp-micros")) None None
  avro_tree (tree.decimal p s) n = schema_tree avro.bytes (Some (codes "decimal")) (Some p) (Some s)
  avro_tree (tree.struct_of cs) n = schema_tree (avro.record_of (record_name n) (avro_field_trees cs (n + 1))) None None None
  avro_tree (tree.list_of t b) n = schema_tree (avro.array_of (nullable_tree b (avro_tree t n)) None) None None None
  avro_tree (tree.map_of k v b) n = schema_tree (avro.map_of (nullable_tree b (avro_tree v n)) None None) None None None

  pub avro_field_trees : ColumnTrees → ℕ → FieldTrees
  avro_field_trees no_columns n = no_fields
  avro_field_trees (column m t b cs) n = field m (nullable_tree b (avro_tree t n)) None (avro_field_trees cs (avro_data t n).1)

-- ---- the names of records

none_in_both : (f : ℕ → Bool) (xs ys : List ℕ) → list_any f xs ≡ false → list_any f ys ≡ false → list_any f (xs ++ ys) ≡ false
none_in_both f [] ys e g = g
none_in_both f (x ∷ xs) ys e g = let parts = or_parts (f x) (list_any f xs) e in or_from _ _ parts.0 (none_in_both f xs ys parts.1 g)

one_dotless : (n : ℕ) → n < 10 → has_dot ((48 + n) ∷ []) ≡ false
one_dotless n small = rw (ne_eqb (48 + n) 46 (λ same. omega (arith, same)))

more_dotless : (n : ℕ) (ds : List ℕ) → 10 ≤ n → has_dot ds ≡ false → has_dot (ds ++ ((48 + n % 10) ∷ [])) ≡ false
more_dotless n ds large e = none_in_both (λ b. b == dot) ds ((48 + n % 10) ∷ []) e (one_dotless (n % 10) (omega arith))

dotless : (n : ℕ) → n < 2 ^ 64 → has_dot (decimal n) ≡ false
dotless = decimal_by_steps (λ n ds. has_dot ds ≡ false) one_dotless more_dotless

no_space : (n : ℕ) → n < 2 ^ 64 → namespace_of (record_name n) ≡ []
no_space n small = rw (dotless n small)

proper_name : (n : ℕ) → is_name (record_name n) ≡ true
proper_name n = let h : (length (record_name n) == 0) ≡ false = ne_eqb (length (record_name n)) 0 (λ same. omega (arith, same)) in rw h

same_both : {A : Type 0} (b : Bool) (x : A) → x ≡ cond b x x
same_both true x = refl
same_both false x = refl

full_is : (space name : List ℕ) → space ≡ [] → name ≡ full_name space name
full_is space name e = rw e (same_both (has_dot name) name)

other_name : (k n : ℕ) → k < n → n < 2 ^ 64 → bytes_eq (record_name n) (record_name k) ≡ false
other_name k n less small = by _ refl
  where
    by : (b : Bool) → bytes_eq (record_name n) (record_name k) ≡ b → bytes_eq (record_name n) (record_name k) ≡ false
    by true is =
        let same : record_name n ≡ record_name k = (bytes_eq-Decides (record_name n) (record_name k)).0 is in
        let digits : decimal n ≡ decimal k = cc in
        let number = decimal_injective n k small (omega (arith, less, small)) digits in
        absurd (omega (arith, less, number))
    by false is = is

-- Each of the names is that of a record of a lower number.
abbrev AllBefore : ℕ → List (List ℕ) → Type 0
AllBefore n [] = Unit {0}
AllBefore n (x ∷ xs) = ((k : ℕ) × (k < n) × (x ≡ record_name k)) × AllBefore n xs

abbrev AllDefined : ℕ → List Definition → Type 0
AllDefined n [] = Unit {0}
AllDefined n (d ∷ ds) = ((k : ℕ) × (k < n) × (d.0 ≡ record_name k)) × AllDefined n ds

unopened : (n : ℕ) (names : List (List ℕ)) → n < 2 ^ 64 → AllBefore n names → list_any (bytes_eq (record_name n)) names ≡ false
unopened n [] small all = refl
unopened n (x ∷ xs) small ((k, less, is), rest) = or_from _ _ (ap (bytes_eq (record_name n)) is ∙ other_name k n less small) (unopened n xs small rest)

undefined : (n : ℕ) (ds : List Definition) → n < 2 ^ 64 → AllDefined n ds → definition_of (record_name n) ds ≡ None
undefined n [] small all = refl
undefined n (d ∷ ds) small ((k, less, is), rest) = rw (ap (bytes_eq (record_name n)) is ∙ other_name k n less small) (undefined n ds small rest)

weaker : (m n : ℕ) (names : List (List ℕ)) → m ≤ n → AllBefore m names → AllBefore n names
weaker m n [] le all = tt
weaker m n (x ∷ xs) le ((k, less, is), rest) = ((k, omega (arith, less, le), is), weaker m n xs le rest)

pushed : (n : ℕ) (names : List (List ℕ)) → AllBefore (n + 1) names → AllBefore (n + 1) (names ++ record_name n ∷ [])
pushed n [] all = ((n, omega arith, refl), tt)
pushed n (x ∷ xs) (first, rest) = (first, pushed n xs rest)

weaker_defined : (m n : ℕ) (ds : List Definition) → m ≤ n → AllDefined m ds → AllDefined n ds
weaker_defined m n [] le all = tt
weaker_defined m n (d ∷ ds) le ((k, less, is), rest) = ((k, omega (arith, less, le), is), weaker_defined m n ds le rest)

one_of : (m : ℕ) (b : Bool) (xs ys : List Definition) → AllDefined m xs → AllDefined m ys → AllDefined m (cond b xs ys)
one_of m true xs ys here there = here
one_of m false xs ys here there = there

defined_more : (n m : ℕ) (t : SchemaTree) (ds : List Definition) → n < m → AllDefined m ds → AllDefined m (with_definition (record_name n) t ds)
defined_more n m t [] less all = ((n, less, refl), tt)
defined_more n m t (d ∷ ds) less (first, rest) = one_of m (bytes_eq (record_name n) d.0) ((d.0, t) ∷ ds) (d ∷ with_definition (record_name n) t ds) (first, rest) (first, defined_more n m t ds less rest)

-- ---- how many records there are

mutual
  pub records_after : (t : TypeTree) (n : ℕ) → n ≤ (avro_data t n).1
  records_after tree.boolean n = omega arith
  records_after tree.byte n = omega arith
  records_after tree.short n = omega arith
  records_after tree.int n = omega arith
  records_after tree.long n = omega arith
  records_after tree.float n = omega arith
  records_after tree.double n = omega arith
  records_after tree.text n = omega arith
  records_after tree.binary n = omega arith
  records_after tree.date n = omega arith
  records_after tree.timestamp n = omega arith
  records_after tree.timestamp_ntz n = omega arith
  records_after (tree.decimal p s) n = omega arith
  records_after (tree.struct_of cs) n = let h = fields_after cs (n + 1) in omega (arith, h)
  records_after (tree.list_of t b) n = records_after t n
  records_after (tree.map_of k v b) n = records_after v n

  fields_after : (cs : ColumnTrees) (n : ℕ) → n ≤ (avro_fields cs n).1
  fields_after no_columns n = omega arith
  fields_after (column m t b cs) n = let h = records_after t n in let g = fields_after cs (avro_data t n).1 in omega (arith, h, g)

mutual
  pub few_records : (t : TypeTree) (n : ℕ) → (avro_data t n).1 ≤ n + 1 + inner_count t
  few_records tree.boolean n = omega arith
  few_records tree.byte n = omega arith
  few_records tree.short n = omega arith
  few_records tree.int n = omega arith
  few_records tree.long n = omega arith
  few_records tree.float n = omega arith
  few_records tree.double n = omega arith
  few_records tree.text n = omega arith
  few_records tree.binary n = omega arith
  few_records tree.date n = omega arith
  few_records tree.timestamp n = omega arith
  few_records tree.timestamp_ntz n = omega arith
  few_records (tree.decimal p s) n = omega arith
  few_records (tree.struct_of cs) n = let h = few_in_fields cs (n + 1) in omega (arith, h)
  few_records (tree.list_of t b) n = few_records t n
  few_records (tree.map_of k v b) n = let h = few_records v n in omega (arith, h)

  few_in_fields : (cs : ColumnTrees) (n : ℕ) → (avro_fields cs n).1 ≤ n + column_count cs
  few_in_fields no_columns n = omega arith
  few_in_fields (column m t b cs) n = let h = few_records t n in let g = few_in_fields cs (avro_data t n).1 in omega (arith, h, g)

-- ---- what is written declares the type

-- the value is the type, and behind it records of lower numbers are defined
record Written (at : Place) (before : List Definition) (d : Data) (t : SchemaTree) (m : ℕ) : Type 0 where
  after : List Definition
  declares : Declares at before d t after
  all : AllDefined m after

record WrittenFields (at : Place) (before : List Definition) (ds : List Data) (fs : FieldTrees) (m : ℕ) : Type 0 where
  after : List Definition
  declares : DeclaresFields at before ds fs after
  all : AllDefined m after

no_array : (t : TypeTree) (n : ℕ) → as_array (avro_data t n).0 ≡ None
no_array tree.boolean n = refl
no_array tree.byte n = refl
no_array tree.short n = refl
no_array tree.int n = refl
no_array tree.long n = refl
no_array tree.float n = refl
no_array tree.double n = refl
no_array tree.text n = refl
no_array tree.binary n = refl
no_array tree.date n = refl
no_array tree.timestamp n = refl
no_array tree.timestamp_ntz n = refl
no_array (tree.decimal p s) n = refl
no_array (tree.struct_of cs) n = refl
no_array (tree.list_of t b) n = refl
no_array (tree.map_of k v b) n = refl

-- the word of a primitive type
word_written : (at : Place) (before : List Definition) (word : List ℕ) (shape : ShapeTree) (n : ℕ) → AllDefined n before → IsPrimitive (string word) (schema_tree shape None None None) → Written at before (string word) (schema_tree shape None None None) n
word_written at before word shape n all is = record { after = before; declares = inl (is, refl); all = all }

leaf_written : (at : Place) (before : List Definition) (d : Data) (t : SchemaTree) (n : ℕ) → AllDefined n before → IsPrimitive d t → Written at before d t n
leaf_written at before d (schema_tree shape l p s) n all is = record { after = before; declares = inl (is, refl); all = all }

size_read : (n : ℕ) → n ≤ 2147483647 → option_and_then below_2_31 (whole (number (unsigned n))) ≡ Some n
size_read n small =
    let low : nat_lt n (2 ^ 63) ≡ true = lt-ltb n (2 ^ 63) (omega (arith, small)) in
    let few : nat_le n 2147483647 ≡ true = le-leb n 2147483647 small in
    rw (low, few)

nullable_written : (b : Bool) (at : Place) (before : List Definition) (d : Data) (t : SchemaTree) (m : ℕ) → as_array d ≡ None → Written at before d t m → Written at before (nullable_data b d) (nullable_tree b t) m
nullable_written false at before d t m single w = w
nullable_written true at before d t m single w = record {
  after = w.after;
  declares = inr (inr (item (string (codes "null")) (item d no_items), refl, refl, refl, refl, (refl, (before, inl ((codes "null", refl, inl (refl, refl, refl, refl)), refl), (single, (w.after, w.declares, refl))))));
  all = w.all;
}

field_says : (b : Bool) (m : List ℕ) (kind : Data) → (text_member (codes "name") (avro_field_data b m kind) ≡ Some m) × (id_member (codes "field-id") (avro_field_data b m kind) ≡ Ok None) × (get (codes "type") (avro_field_data b m kind) ≡ Some (nullable_data b kind))
field_says true m kind = (refl, refl, refl)
field_says false m kind = (refl, refl, refl)

field_named : (name : List ℕ) (cs : ColumnTrees) (n : ℕ) → is_named name cs ≡ list_any (bytes_eq name) (field_names (avro_field_trees cs n))
field_named name no_columns n = refl
field_named name (column m t b cs) n = ap (λ x. x || is_named name cs) (turned m name) ∙ ap (λ x. bytes_eq name m || x) (field_named name cs (avro_data t n).1)

own_fields : (cs : ColumnTrees) (n : ℕ) → have_own_names cs ≡ are_distinct (field_names (avro_field_trees cs n))
own_fields no_columns n = refl
own_fields (column m t b cs) n =
    ap (λ x. not x && have_own_names cs) (field_named m cs (avro_data t n).1)
    ∙ ap (λ x. not (list_any (bytes_eq m) (field_names (avro_field_trees cs (avro_data t n).1))) && x) (own_fields cs (avro_data t n).1)

mutual
  written : (t : TypeTree) (n : ℕ) (at : Place) (before : List Definition) → IsSoundType t → at.space ≡ [] → AllBefore n at.open_names → AllDefined n before → (avro_data t n).1 < 2 ^ 64 → Written at before (avro_data t n).0 (avro_tree t n) (avro_data t n).1
  written tree.boolean n at before sound space opened all small = leaf_written at before (string (codes "boolean")) (schema_tree avro.boolean None None None) n all (codes "boolean", refl, inl (refl, refl, refl, refl))
  written tree.byte n at before sound space opened all small = leaf_written at before (string (codes "int")) (schema_tree avro.int None None None) n all (codes "int", refl, inl (refl, refl, refl, refl))
  written tree.short n at before sound space opened all small = leaf_written at before (string (codes "int")) (schema_tree avro.int None None None) n all (codes "int", refl, inl (refl, refl, refl, refl))
  written tree.int n at before sound space opened all small = leaf_written at before (string (codes "int")) (schema_tree avro.int None None None) n all (codes "int", refl, inl (refl, refl, refl, refl))
  written tree.long n at before sound space opened all small = leaf_written at before (string (codes "long")) (schema_tree avro.long None None None) n all (codes "long", refl, inl (refl, refl, refl, refl))
  written tree.float n at before sound space opened all small = leaf_written at before (string (codes "float")) (schema_tree avro.float None None None) n all (codes "float", refl, inl (refl, refl, refl, refl))
  written tree.double n at before sound space opened all small = leaf_written at before (string (codes "double")) (schema_tree avro.double None None None) n all (codes "double", refl, inl (refl, refl, refl, refl))
  written tree.text n at before sound space opened all small = leaf_written at before (string (codes "string")) (schema_tree avro.text None None None) n all (codes "string", refl, inl (refl, refl, refl, refl))
  written tree.binary n at before sound space opened all small = leaf_written at before (string (codes "bytes")) (schema_tree avro.bytes None None None) n all (codes "bytes", refl, inl (refl, refl, refl, refl))
  written tree.date n at before sound space opened all small = leaf_written at before _ (avro_tree tree.date n) n all (codes "int", refl, inr (refl, (refl, refl, refl, refl, refl), (refl, refl, refl)))
  written tree.timestamp n at before sound space opened all small = leaf_written at before _ (avro_tree tree.timestamp n) n all (codes "long", refl, inr (refl, (refl, refl, refl, refl, refl), (refl, refl, refl)))
  written tree.timestamp_ntz n at before sound space opened all small = leaf_written at before _ (avro_tree tree.timestamp_ntz n) n all (codes "long", refl, inr (refl, (refl, refl, refl, refl, refl), (refl, refl, refl)))
  written (tree.decimal p s) n at before sound space opened all small =
      let below = sound.1 in
      let within = sound.2 in
      leaf_written at before _ (avro_tree (tree.decimal p s) n) n all (codes "bytes", refl, inr (refl, (refl, refl, refl, refl, refl), (refl, size_read p (omega (arith, below)), size_read s (omega (arith, below, within)))))
  written (tree.struct_of cs) n at before sound space opened all small =
      let more = fields_after cs (n + 1) in
      let name_small : n < 2 ^ 64 = let h : (avro_fields cs (n + 1)).1 < 2 ^ 64 = small in omega (arith, more, h) in
      let inner = written_fields cs (n + 1) (inside at (record_name n)) before sound.1 (no_space n name_small) (pushed n at.open_names (weaker n (n + 1) at.open_names (omega arith) opened)) (weaker_defined n (n + 1) before (omega arith) all) small in
      let fs : FieldTrees = avro_field_trees cs (n + 1) in
      let fields : DeclaresFields (inside at (record_name n)) before (items (items_of (avro_fields cs (n + 1)).0)) fs inner.after = subst (λ (ds : List Data). DeclaresFields (inside at (record_name n)) before ds fs inner.after) (sym (items-items_of (avro_fields cs (n + 1)).0)) inner.declares in
      record {
        after = with_definition (record_name n) (avro_tree (tree.struct_of cs) n) inner.after;
        declares = inr (inr (
          refl,
          (refl, refl, refl),
          ((record_name n, refl, proper_name n, full_is at.space (record_name n) space), unopened n at.open_names name_small opened, undefined n before name_small all),
          (items_of (avro_fields cs (n + 1)).0, inner.after, refl, fields, sym (own_fields cs (n + 1)) ∙ sound.0, refl),
        ));
        all = defined_more n (avro_fields cs (n + 1)).1 _ inner.after (omega (arith, more)) inner.all;
      }
  written (tree.list_of t b) n at before sound space opened all small =
      let part = nullable_written b at before (avro_data t n).0 (avro_tree t n) (avro_data t n).1 (no_array t n) (written t n at before sound space opened all small) in
      record { after = part.after; declares = inr (inr (refl, (refl, refl, refl), (nullable_data b (avro_data t n).0, refl, part.declares, refl))); all = part.all }
  written (tree.map_of k v b) n at before sound space opened all small =
      let part = nullable_written b at before (avro_data v n).0 (avro_tree v n) (avro_data v n).1 (no_array v n) (written v n at before sound.1 space opened all small) in
      record { after = part.after; declares = inr (inr (refl, (refl, refl, refl), (nullable_data b (avro_data v n).0, refl, part.declares, refl, refl))); all = part.all }

  written_fields : (cs : ColumnTrees) (n : ℕ) (at : Place) (before : List Definition) → AreSound cs → at.space ≡ [] → AllBefore n at.open_names → AllDefined n before → (avro_fields cs n).1 < 2 ^ 64 → WrittenFields at before (avro_fields cs n).0 (avro_field_trees cs n) (avro_fields cs n).1
  written_fields no_columns n at before sound space opened all small = record { after = before; declares = refl; all = all }
  written_fields (column m t b cs) n at before sound space opened all small =
      let next : ℕ = (avro_data t n).1 in
      let up = records_after t n in
      let more = fields_after cs next in
      let kind_small : next < 2 ^ 64 = let h : (avro_fields cs next).1 < 2 ^ 64 = small in omega (arith, more, h) in
      let kind = nullable_written b at before (avro_data t n).0 (avro_tree t n) next (no_array t n) (written t n at before sound.0 space opened all kind_small) in
      let others = written_fields cs next at kind.after sound.1 space (weaker n next at.open_names up opened) kind.all small in
      let says = field_says b m (avro_data t n).0 in
      record { after = others.after; declares = (says.0, says.1, (nullable_data b (avro_data t n).0, kind.after, says.2, kind.declares, others.declares)); all = others.all }

-- ---- sizes

nullable_types : (b : Bool) (t : SchemaTree) → type_count (nullable_tree b t) ≤ type_count t + 2
nullable_types true t = omega arith
nullable_types false t = omega arith

mutual
  few_types : (t : TypeTree) (n : ℕ) → levels t ≤ 31 → type_count (avro_tree t n) + 2 ≤ 3 * levels t + 93 * inner_count t
  few_types tree.boolean n small = omega arith
  few_types tree.byte n small = omega arith
  few_types tree.short n small = omega arith
  few_types tree.int n small = omega arith
  few_types tree.long n small = omega arith
  few_types tree.float n small = omega arith
  few_types tree.double n small = omega arith
  few_types tree.text n small = omega arith
  few_types tree.binary n small = omega arith
  few_types tree.date n small = omega arith
  few_types tree.timestamp n small = omega arith
  few_types tree.timestamp_ntz n small = omega arith
  few_types (tree.decimal p s) n small = omega arith
  few_types (tree.struct_of cs) n small = let h = few_field_types cs (n + 1) (omega (arith, small)) in omega (arith, h)
  few_types (tree.list_of t b) n small = let h = few_types t n (omega (arith, small)) in let g = nullable_types b (avro_tree t n) in omega (arith, h, g)
  few_types (tree.map_of k v b) n small = let h = few_types v n (omega (arith, small)) in let g = nullable_types b (avro_tree v n) in omega (arith, h, g)

  few_field_types : (cs : ColumnTrees) (n : ℕ) → column_levels cs ≤ 31 → field_type_count (avro_field_trees cs n) ≤ 93 * column_count cs
  few_field_types no_columns n small = omega arith
  few_field_types (column m t b cs) n small =
      let h = few_types t n (omega (arith, small)) in
      let g = nullable_types b (avro_tree t n) in
      let others = few_field_types cs (avro_data t n).1 (omega (arith, small)) in
      omega (arith, small, h, g, others)

nullable_levels : (b : Bool) (t : SchemaTree) (l : ℕ) → 1 ≤ l → level_count t ≤ l → level_count (nullable_tree b t) ≤ l
nullable_levels true t l one le = omega (arith, one, le)
nullable_levels false t l one le = le

mutual
  few_levels : (t : TypeTree) (n : ℕ) → level_count (avro_tree t n) ≤ levels t
  few_levels tree.boolean n = omega arith
  few_levels tree.byte n = omega arith
  few_levels tree.short n = omega arith
  few_levels tree.int n = omega arith
  few_levels tree.long n = omega arith
  few_levels tree.float n = omega arith
  few_levels tree.double n = omega arith
  few_levels tree.text n = omega arith
  few_levels tree.binary n = omega arith
  few_levels tree.date n = omega arith
  few_levels tree.timestamp n = omega arith
  few_levels tree.timestamp_ntz n = omega arith
  few_levels (tree.decimal p s) n = omega arith
  few_levels (tree.struct_of cs) n = let h = few_field_levels cs (n + 1) in omega (arith, h)
  few_levels (tree.list_of t b) n = let h = nullable_levels b (avro_tree t n) (levels t) (one_level t) (few_levels t n) in omega (arith, h)
  few_levels (tree.map_of k v b) n = let h = nullable_levels b (avro_tree v n) (levels v) (one_level v) (few_levels v n) in omega (arith, h)

  few_field_levels : (cs : ColumnTrees) (n : ℕ) → field_level_count (avro_field_trees cs n) ≤ column_levels cs
  few_field_levels no_columns n = omega arith
  few_field_levels (column m t b cs) n =
      let h = nullable_levels b (avro_tree t n) (levels t) (one_level t) (few_levels t n) in
      let g = few_field_levels cs (avro_data t n).1 in
      omega (arith, h, g)

nullable_depth : (b : Bool) (d : Data) → depth (nullable_data b d) ≤ depth d + 1
nullable_depth true d = omega arith
nullable_depth false d = omega arith

field_depth : (b : Bool) (m : List ℕ) (d : Data) → depth (avro_field_data b m d) ≤ depth d + 2
field_depth true m d = omega arith
field_depth false m d = omega arith

mutual
  few_depths : (t : TypeTree) (n : ℕ) → depth (avro_data t n).0 + 2 ≤ 4 * levels t
  few_depths tree.boolean n = omega arith
  few_depths tree.byte n = omega arith
  few_depths tree.short n = omega arith
  few_depths tree.int n = omega arith
  few_depths tree.long n = omega arith
  few_depths tree.float n = omega arith
  few_depths tree.double n = omega arith
  few_depths tree.text n = omega arith
  few_depths tree.binary n = omega arith
  few_depths tree.date n = omega arith
  few_depths tree.timestamp n = omega arith
  few_depths tree.timestamp_ntz n = omega arith
  few_depths (tree.decimal p s) n = omega arith
  few_depths (tree.struct_of cs) n = let h = few_field_depths cs (n + 1) in omega (arith, h)
  few_depths (tree.list_of t b) n = let h = few_depths t n in let g = nullable_depth b (avro_data t n).0 in omega (arith, h, g)
  few_depths (tree.map_of k v b) n = let h = few_depths v n in let g = nullable_depth b (avro_data v n).0 in omega (arith, h, g)

  few_field_depths : (cs : ColumnTrees) (n : ℕ) → items_depth (items_of (avro_fields cs n).0) ≤ 4 * column_levels cs
  few_field_depths no_columns n = omega arith
  few_field_depths (column m t b cs) n =
      let h = few_depths t n in
      let g = field_depth b m (avro_data t n).0 in
      let others = few_field_depths cs (avro_data t n).1 in
      omega (arith, h, g, others)

-- 32 levels are at most 126 levels of JSON.
pub avro_shallow : (cs : ColumnTrees) → IsWithinLimits cs → depth (avro_data (tree.struct_of cs) 0).0 ≤ max_depth
avro_shallow cs limits =
    let h : depth (avro_data (tree.struct_of cs) 0).0 + 2 ≤ 4 * (1 + column_levels cs) = few_depths (tree.struct_of cs) 0 in
    let small = limits.levels in
    omega (arith, h, small)

-- ---- the type is that of the Image

no_logical : (word : List ℕ) → ◌≡◌ {A = Option (List ℕ)} None (Some word) → ⊥
no_logical word e = absurd cc

part_is : (b : Bool) (t : SchemaTree) → IsPart (nullable_tree b t) t b
part_is true t = (null_tree, refl, inl refl)
part_is false t = inl refl

text_key : (k : TypeTree) → is_text k ≡ true → wide_type k ≡ tree.text
text_key tree.boolean e = absurd cc
text_key tree.byte e = absurd cc
text_key tree.short e = absurd cc
text_key tree.int e = absurd cc
text_key tree.long e = absurd cc
text_key tree.float e = absurd cc
text_key tree.double e = absurd cc
text_key tree.text e = refl
text_key tree.binary e = absurd cc
text_key tree.date e = absurd cc
text_key tree.timestamp e = absurd cc
text_key tree.timestamp_ntz e = absurd cc
text_key (tree.decimal p s) e = absurd cc
text_key (tree.struct_of cs) e = absurd cc
text_key (tree.list_of t b) e = absurd cc
text_key (tree.map_of k v b) e = absurd cc

mutual
  pub image_type : (t : TypeTree) (n : ℕ) → IsSoundType t → has_text_keys t ≡ true → IsAvroType (wide_type t) (avro_tree t n)
  image_type tree.boolean n sound keys = refl
  image_type tree.byte n sound keys = (refl, (no_logical _, (no_logical _, tt)))
  image_type tree.short n sound keys = (refl, (no_logical _, (no_logical _, tt)))
  image_type tree.int n sound keys = (refl, (no_logical _, (no_logical _, tt)))
  image_type tree.long n sound keys = (refl, (no_logical _, (no_logical _, (no_logical _, (no_logical _, (no_logical _, tt))))))
  image_type tree.float n sound keys = refl
  image_type tree.double n sound keys = refl
  image_type tree.text n sound keys = refl
  image_type tree.binary n sound keys = (refl, (no_logical _, tt))
  image_type tree.date n sound keys = (refl, refl)
  image_type tree.timestamp n sound keys = (refl, inl refl)
  image_type tree.timestamp_ntz n sound keys = (refl, inl refl)
  image_type (tree.decimal p s) n sound keys = let below = sound.1 in (inl refl, refl, refl, refl, sound.0, omega (arith, below), sound.2)
  image_type (tree.struct_of cs) n sound keys = (record_name n, avro_field_trees cs (n + 1), refl, image_columns cs (n + 1) sound.1 keys)
  image_type (tree.list_of t b) n sound keys = (nullable_tree b (avro_tree t n), None, avro_tree t n, refl, part_is b (avro_tree t n), image_type t n sound keys)
  image_type (tree.map_of k v b) n sound keys =
      let parts = and_parts (is_text k) (has_text_keys v) keys in
      (nullable_tree b (avro_tree v n), None, None, avro_tree v n, text_key k parts.0, refl, part_is b (avro_tree v n), image_type v n sound.1 parts.1)

  image_columns : (cs : ColumnTrees) (n : ℕ) → AreSound cs → have_text_keys cs ≡ true → AreAvroColumns (wide_columns cs) (avro_field_trees cs n)
  image_columns no_columns n sound keys = refl
  image_columns (column m t b cs) n sound keys =
      let parts = and_parts (has_text_keys t) (have_text_keys cs) keys in
      (nullable_tree b (avro_tree t n), None, avro_tree t n, avro_field_trees cs (avro_data t n).1, refl, part_is b (avro_tree t n), image_type t n sound.0 parts.0, image_columns cs (avro_data t n).1 sound.1 parts.1)

-- ---- texts

pub avro_spelled : (cs : ColumnTrees) (text : List ℕ) → IsSound cs → IsWithinLimits cs → have_text_keys cs ≡ true → json text ≡ Some (avro_data (tree.struct_of cs) 0).0 → IsAvroText (wide_columns cs) text
avro_spelled cs text sound limits keys read =
    let few = few_in_fields cs 1 in
    let count = limits.columns in
    let deep = limits.levels in
    let records : (avro_fields cs 1).1 < 2 ^ 64 = omega (arith, few, count) in
    let here = written (tree.struct_of cs) 0 (top is_a_fault) [] sound refl tt tt records in
    let types = few_field_types cs 1 deep in
    let level = few_field_levels cs 1 in
    let spelled : IsSchemaText text (avro_tree (tree.struct_of cs) 0) = record {
      value = (avro_data (tree.struct_of cs) 0).0;
      behind = here.after;
      reads = read;
      declares = here.declares;
      levels = omega (arith, level, deep);
      types = omega (arith, types, count);
    } in
    (avro_tree (tree.struct_of cs) 0, spelled, image_type (tree.struct_of cs) 0 sound keys)
