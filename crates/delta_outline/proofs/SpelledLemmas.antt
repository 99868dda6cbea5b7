-- A text that spells a schema is in the grammar, has types of the table of types alone, and names the schema's columns.
use Rattle.std.proofs.Common.{◌≡◌, ℕ, zero, suc, Bool, true, false, cond, List, ◌∷◌, map, Option, Some, is_some, Ok, Err, codes, refl, sym, ap, subst, ◌∙◌}
use Rattle.std.specs.Prelude.{option_and_then}
use Rattle.std.specs.Str.{bytes_eq}
use Rattle.std.proofs.lemmas.Bool.{and_from}
use Rattle.avro_schema.specs.Names.{are_distinct}
use Rattle.serde_json.specs.Data.{Data, boolean, string, array, object, Items, Members}
use Rattle.serde_json.specs.Find.{get_member, as_str, as_bool, as_array}
use Rattle.serde_json.specs.Read.{max_depth}
use Rattle.lake_basics.specs.Outcome.{◌>>=◌, required, each}
use Rattle.json_reading.specs.Json.{text_member, items}
use Rattle.partition_map.proofs.ColumnLemmas.{distinct_exactly}
use Rattle.table_history.specs.Sound.{have_own_names, names_of}
use Rattle.table_history.specs.TypeTree as tree
use Rattle.table_history.specs.TypeTree.{TypeTree, ColumnTrees, no_columns, column}
use Rattle.table_history.proofs.Laws.{own_names_distinct}
use Rattle.schema_delta.specs.DeltaSpelling.{IsDeltaType, AreDeltaColumns, IsDeltaText}
use Rattle.delta_outline.specs.declared.fault.OutlineFault.TheVariants as fault
use Rattle.delta_outline.specs.declared.form.Form.{Form}
use Rattle.delta_outline.specs.declared.form.Form.TheVariants.{Known}
use Rattle.delta_outline.specs.Forms.{worse, form_if, form_of_word, field_name, names_form, listed_form, named_form, own_form, form_at, types_form, listed_types, named_parts, parts_form, form}
use Rattle.delta_outline.specs.Outlines.{outline_by, outline_of, outline_of_text, IsOutline}
use Rattle.delta_outline.proofs.WordLemmas.{type_known}
use Rattle.delta_outline.proofs.OutlineLemmas.{text_found}

-- ---- members that are there

abbrev as_text : Option Data → Option (List ℕ)
as_text o = option_and_then as_str o

has_text : (k : List ℕ) (ms : Members) (s : List ℕ) → get_member k ms ≡ Some (string s) → text_member k (object ms) ≡ Some s
has_text k ms s is = ap (λ o. option_and_then as_str o) is

-- ---- types without parts

word_form : (n : ℕ) (t : TypeTree) (d : Data) (w : List ℕ) → d ≡ string w → IsDeltaType t d → form n d ≡ Known
unfolding form
word_form n t d w is spells = subst (λ x. form n x ≡ Known) (sym is) (by n)
  where
    own : own_form (string w) ≡ Known
    own = ap form_of_word (type_known w t (subst (IsDeltaType t) is spells))

    by : (m : ℕ) → form m (string w) ≡ Known
    by zero = own
    by (suc m) = ap (λ f. worse f (parts_form (form m) (string w))) own

-- ---- types with parts

with_parts : (n : ℕ) (d : Data) → own_form d ≡ Known → ((m : ℕ) → parts_form (form m) d ≡ Known) → form n d ≡ Known
unfolding form
with_parts zero d own parts = own
with_parts (suc m) d own parts = ap (λ f. worse f (parts_form (form m) d)) own ∙ parts m

field_read : (ms : Members) (n : List ℕ) (b : Bool) (d : Data) → get_member (codes "name") ms ≡ Some (string n) → get_member (codes "nullable") ms ≡ Some (boolean b) → get_member (codes "type") ms ≡ Some d → field_name (object ms) ≡ Ok n
unfolding field_name
field_read ms n b d name nullable kind = rw (name, nullable, kind) refl

-- the names of the fields are those of the columns
fields_read : (cs : ColumnTrees) (ds : Items) → AreDeltaColumns cs ds → each field_name (items ds) ≡ Ok (names_of cs)
fields_read no_columns ds are = ap (λ x. each field_name (items x)) are
fields_read (column n t b cs) ds are =
    let first = field_read are.0 n b are.1 are.4 are.5 are.6 in
    let others = fields_read cs are.2 are.8 in
    ap (λ x. each field_name (items x)) are.3
    ∙ ap (λ r. r >>= λ x. each field_name (items are.2) >>= λ xs. Ok (x ∷ xs)) first
    ∙ ap (λ r. r >>= λ xs. Ok (n ∷ xs)) others

own_struct : (ms : Members) (ds : Items) (cs : ColumnTrees) → get_member (codes "type") ms ≡ Some (string (codes "struct")) → get_member (codes "fields") ms ≡ Some (array ds) → have_own_names cs ≡ true → AreDeltaColumns cs ds → own_form (object ms) ≡ Known
own_struct ms ds cs word fields own are =
    let d : Data = object ms in
    let distinct : are_distinct (names_of cs) ≡ true = (distinct_exactly (names_of cs)).1 ((own_names_distinct cs).0 own) in
    ap (λ o. named_form o d) (has_text (codes "type") ms (codes "struct") word)
    ∙ ap (λ o. listed_form (option_and_then as_array o)) fields
    ∙ ap names_form (fields_read cs ds are)
    ∙ ap form_if distinct

own_list : (ms : Members) (b : Bool) (e : Data) → get_member (codes "type") ms ≡ Some (string (codes "array")) → get_member (codes "containsNull") ms ≡ Some (boolean b) → get_member (codes "elementType") ms ≡ Some e → own_form (object ms) ≡ Known
own_list ms b e word nullable element =
    let d : Data = object ms in
    ap (λ o. named_form o d) (has_text (codes "type") ms (codes "array") word)
    ∙ ap form_if (and_from _ _ (ap (λ o. is_some (option_and_then as_bool o)) nullable) (ap is_some element))

own_map : (ms : Members) (b : Bool) (k v : Data) → get_member (codes "type") ms ≡ Some (string (codes "map")) → get_member (codes "valueContainsNull") ms ≡ Some (boolean b) → get_member (codes "keyType") ms ≡ Some k → get_member (codes "valueType") ms ≡ Some v → own_form (object ms) ≡ Known
own_map ms b k v word nullable key value =
    let d : Data = object ms in
    ap (λ o. named_form o d) (has_text (codes "type") ms (codes "map") word)
    ∙ ap form_if (and_from _ _ (ap (λ o. is_some (option_and_then as_bool o)) nullable) (and_from _ _ (ap is_some key) (ap is_some value)))

both_known : (f g : Form) → f ≡ Known → g ≡ Known → worse f g ≡ Known
both_known f g a b = ap (λ x. worse x g) a ∙ b

mutual
  pub spelled_form : (n : ℕ) (t : TypeTree) (d : Data) → IsDeltaType t d → form n d ≡ Known
  spelled_form n tree.boolean d is = word_form n tree.boolean d (codes "boolean") is is
  spelled_form n tree.byte d is = word_form n tree.byte d (codes "byte") is is
  spelled_form n tree.short d is = word_form n tree.short d (codes "short") is is
  spelled_form n tree.int d is = word_form n tree.int d (codes "integer") is is
  spelled_form n tree.long d is = word_form n tree.long d (codes "long") is is
  spelled_form n tree.float d is = word_form n tree.float d (codes "float") is is
  spelled_form n tree.double d is = word_form n tree.double d (codes "double") is is
  spelled_form n tree.text d is = word_form n tree.text d (codes "string") is is
  spelled_form n tree.binary d is = word_form n tree.binary d (codes "binary") is is
  spelled_form n tree.date d is = word_form n tree.date d (codes "date") is is
  spelled_form n tree.timestamp d is = word_form n tree.timestamp d (codes "timestamp") is is
  spelled_form n tree.timestamp_ntz d is = word_form n tree.timestamp_ntz d (codes "timestamp_ntz") is is
  spelled_form n (tree.decimal p s) d is = word_form n (tree.decimal p s) d is.0 is.1 is
  spelled_form n (tree.struct_of cs) d is =
      let ms = is.0 in
      let parts : (m : ℕ) → parts_form (form m) (object ms) ≡ Known =
      λ m.
      ap (λ o. named_parts (form m) o (object ms)) (has_text (codes "type") ms (codes "struct") is.3)
      ∙ ap (λ o. listed_types (form m) (option_and_then as_array o)) is.4
      ∙ spelled_forms m cs is.1 is.6 in
      subst (λ x. form n x ≡ Known) (sym is.2) (with_parts n (object ms) (own_struct ms is.1 cs is.3 is.4 is.5 is.6) parts)
  spelled_form n (tree.list_of t b) d is =
      let ms = is.0 in
      let parts : (m : ℕ) → parts_form (form m) (object ms) ≡ Known =
      λ m.
      ap (λ o. named_parts (form m) o (object ms)) (has_text (codes "type") ms (codes "array") is.3)
      ∙ ap (form_at (form m)) is.5
      ∙ spelled_form m t is.1 is.6 in
      subst (λ x. form n x ≡ Known) (sym is.2) (with_parts n (object ms) (own_list ms b is.1 is.3 is.4 is.5) parts)
  spelled_form n (tree.map_of k v b) d is =
      let ms = is.0 in
      let parts : (m : ℕ) → parts_form (form m) (object ms) ≡ Known =
      λ m.
      ap (λ o. named_parts (form m) o (object ms)) (has_text (codes "type") ms (codes "map") is.4)
      ∙ both_known _ _ (ap (form_at (form m)) is.6 ∙ spelled_form m k is.1 is.8) (ap (form_at (form m)) is.7 ∙ spelled_form m v is.2 is.9) in
      subst (λ x. form n x ≡ Known) (sym is.3) (with_parts n (object ms) (own_map ms b is.1 is.2 is.4 is.5 is.6 is.7) parts)

  spelled_forms : (n : ℕ) (cs : ColumnTrees) (ds : Items) → AreDeltaColumns cs ds → types_form (form n) (items ds) ≡ Known
  spelled_forms n no_columns ds are = ap (λ x. types_form (form n) (items x)) are
  spelled_forms n (column name t b cs) ds are =
      ap (λ x. types_form (form n) (items x)) are.3
      ∙ both_known _ _ (ap (form_at (form n)) are.6 ∙ spelled_form n t are.1 are.7) (spelled_forms n cs are.2 are.8)

-- ---- texts

outline_is : (cs : ColumnTrees) (d : Data) → IsDeltaType (tree.struct_of cs) d → outline_of d ≡ Ok (record { names = names_of cs; has_other = false })
outline_is cs d is =
    let ms = is.0 in
    subst (λ x. outline_of x ≡ Ok (record { names = names_of cs; has_other = false })) (sym is.2)
    (ap (λ o. required fault.Malformed o >>= λ word. cond (bytes_eq word (codes "struct")) (outline_by (form max_depth (object ms)) (object ms)) (Err fault.Malformed)) (has_text (codes "type") ms (codes "struct") is.3)
    ∙ ap (λ f. outline_by f (object ms)) (spelled_form max_depth (tree.struct_of cs) (object ms) (subst (IsDeltaType (tree.struct_of cs)) is.2 is))
    ∙ ap (λ o. required fault.Malformed (option_and_then as_array o) >>= λ fields. each field_name (items fields) >>= λ names. Ok (record { names = names; has_other = false })) is.4
    ∙ ap (λ r. r >>= λ names. Ok (record { names = names; has_other = false })) (fields_read cs is.1 is.6))

-- what spells a schema has the outline of the schema
pub spelled_outline : (text : List ℕ) (cs : ColumnTrees) → IsDeltaText cs text → IsOutline text (record { names = names_of cs; has_other = false })
unfolding outline_of_text
spelled_outline text cs is = text_found text (record { names = names_of cs; has_other = false }) (ap (λ o. required fault.Malformed o >>= outline_of) is.1 ∙ outline_is cs is.0 is.2)
