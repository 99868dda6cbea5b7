-- Where Avro can spell a schema, and that what is written has no float.
use Rattle.std.proofs.Common.{◌≡◌, ℕ, ◌+◌, List, Bool, true, false, ◌&&◌, Result, Ok, Err, refl, sym, ap, subst, ◌∙◌, cond}
use Rattle.std.specs.Prelude.{◌≤◌, Option, Some, None, IfOk, IfErr, OnOk}
use Rattle.serde_json.specs.View.{items_of}
use Rattle.serde_json.specs.Written.{has_float, items_have_float, compact_text}
use Rattle.serde_json.specs.Data.{Data, depth}
use Rattle.serde_json.specs.Read.{max_depth}
use Rattle.json_reading.specs.Json.{IsReadAgain}
use Rattle.std.specs.declared.alloc.AllocError.{AllocError}
use Rattle.std.proofs.lemmas.Bool.{and_right, or_from}
use Rattle.lake_basics.specs.Outcome.{GivesUnlessMemory, FailsUnlessMemory}
use Rattle.table_history.specs.TypeTree as tree
use Rattle.table_history.specs.TypeTree.{TypeTree, ColumnTrees, no_columns, column}
use Rattle.table_history.specs.declared.kind.Kind.TheVariants.{Hudi}
use Rattle.schema_map.specs.declared.fault.MapError.{MapError}
use Rattle.schema_map.specs.Errors.{is_memory}
use Rattle.schema_map.specs.Image.{image, wide_columns, is_avro_name, has_text_keys, have_text_keys, has_avro_names, have_avro_names}
use Rattle.schema_avro.specs.AvroWriting.{key_fault, name_fault, avro_schema_text, avro_data, avro_fields, avro_text, nullable_data, avro_field_data}
use Rattle.schema_map.proofs.ImageTwice.{image_twice}

-- ---- no float

flat_nullable : (b : Bool) (t : TypeTree) (n : ℕ) → has_float (avro_data t n).0 ≡ false → has_float (nullable_data b (avro_data t n).0) ≡ false
flat_nullable true t n e = or_from _ _ e refl
flat_nullable false t n e = e

flat_field : (b : Bool) (m : List ℕ) (t : TypeTree) (n : ℕ) → has_float (avro_data t n).0 ≡ false → has_float (avro_field_data b m (avro_data t n).0) ≡ false
flat_field true m t n e = or_from _ _ (or_from _ _ e refl) refl
flat_field false m t n e = or_from _ _ e refl

mutual
  pub flat_avro : (t : TypeTree) (n : ℕ) → has_float (avro_data t n).0 ≡ false
  flat_avro tree.boolean n = refl
  flat_avro tree.byte n = refl
  flat_avro tree.short n = refl
  flat_avro tree.int n = refl
  flat_avro tree.long n = refl
  flat_avro tree.float n = refl
  flat_avro tree.double n = refl
  flat_avro tree.text n = refl
  flat_avro tree.binary n = refl
  flat_avro tree.date n = refl
  flat_avro tree.timestamp n = refl
  flat_avro tree.timestamp_ntz n = refl
  flat_avro (tree.decimal p s) n = refl
  flat_avro (tree.struct_of cs) n = or_from _ _ (flat_avro_fields cs (n + 1)) refl
  flat_avro (tree.list_of t b) n = or_from _ _ (flat_nullable b t n (flat_avro t n)) refl
  flat_avro (tree.map_of k v b) n = or_from _ _ (flat_nullable b v n (flat_avro v n)) refl

  flat_avro_fields : (cs : ColumnTrees) (n : ℕ) → items_have_float (items_of (avro_fields cs n).0) ≡ false
  flat_avro_fields no_columns n = refl
  flat_avro_fields (column m t b cs) n = or_from _ _ (flat_field b m t n (flat_avro t n)) (flat_avro_fields cs (avro_data t n).1)

-- ---- what Avro can spell

-- what the first faults say of the whole
record Judged (fault : Option (List ℕ)) (good : Bool) : Type 0 where
  none : fault ≡ None → good ≡ true
  some : (name : List ℕ) → fault ≡ Some name → good ≡ false

judged_more : (b : Bool) (fault : Option (List ℕ)) (good : Bool) (n : List ℕ) → Judged fault good → Judged (cond b fault (Some n)) (b && good)
judged_more true fault good n rest = record { none = rest.none; some = rest.some }
judged_more false fault good n rest = record { none = λ e. absurd (cc); some = λ name e. refl }

keys_judged : (cs : ColumnTrees) → Judged (key_fault cs) (have_text_keys cs)
keys_judged no_columns = record { none = λ e. refl; some = λ name e. absurd (cc) }
keys_judged (column n t b cs) = judged_more (has_text_keys t) (key_fault cs) (have_text_keys cs) n (keys_judged cs)

and_assoc : (a b c : Bool) → ((a && b) && c) ≡ (a && (b && c))
and_assoc true b c = refl
and_assoc false b c = refl

names_judged : (cs : ColumnTrees) → Judged (name_fault cs) (have_avro_names cs)
names_judged no_columns = record { none = λ e. refl; some = λ name e. absurd (cc) }
names_judged (column n t b cs) =
    let P : Bool → Type 0 = λ g. Judged (name_fault (column n t b cs)) g in
    subst P (and_assoc (is_avro_name n) (has_avro_names t) (have_avro_names cs)) (judged_more (is_avro_name n && has_avro_names t) (name_fault cs) (have_avro_names cs) n (names_judged cs))

record Spelled (cs : ColumnTrees) (r : Result (List ℕ) MapError) : Type 0 where
  said : (text : List ℕ) → r ≡ Ok text → text ≡ avro_text cs
  ok : (text : List ℕ) → r ≡ Ok text → image Hudi cs ≡ Some (wide_columns cs)
  err : (e : MapError) → r ≡ Err e → image Hudi cs ≡ None

said_text : (cs : ColumnTrees) (text : List ℕ) → ◌≡◌ {A = Result (List ℕ) MapError} (Ok (avro_text cs)) (Ok text) → text ≡ avro_text cs
said_text cs text e = let same : avro_text cs ≡ text = cc in sym same

spelled_by : (cs : ColumnTrees) (k n : Option (List ℕ)) → key_fault cs ≡ k → name_fault cs ≡ n → Spelled cs (avro_schema_text cs)
spelled_by cs (Some name) n k_is n_is =
    let undefined : image Hudi cs ≡ None = rw ((keys_judged cs).some name k_is) in
    rw k_is (record { said = λ text e. absurd (cc); ok = λ text e. absurd (cc); err = λ e same. undefined })
spelled_by cs None (Some name) k_is n_is =
    let undefined : image Hudi cs ≡ None = rw (and_right (have_text_keys cs) (have_avro_names cs) ((names_judged cs).some name n_is)) in
    rw (k_is, n_is) (record { said = λ text e. absurd (cc); ok = λ text e. absurd (cc); err = λ e same. undefined })
spelled_by cs None None k_is n_is =
    let defined : image Hudi cs ≡ Some (wide_columns cs) = rw ((keys_judged cs).none k_is, (names_judged cs).none n_is) in
    rw (k_is, n_is) (record { said = λ text e. said_text cs text e; ok = λ text e. defined; err = λ e same. absurd (cc) })

pub avro_said : (cs : ColumnTrees) (text : List ℕ) → avro_schema_text cs ≡ Ok text → text ≡ avro_text cs
avro_said cs text is = (spelled_by cs _ _ refl refl).said text is

pub avro_defined : (cs : ColumnTrees) (r : Result (List ℕ) MapError) → GivesUnlessMemory is_memory (λ t. t) r (avro_schema_text cs) → IfOk r (λ _. image Hudi cs ≡ Some (wide_columns cs))
avro_defined cs (Ok text) given = (spelled_by cs _ _ refl refl).ok text given
avro_defined cs (Err e) given = tt

undefined_by : (cs : ColumnTrees) (e : MapError) (b : Bool) → FailsUnlessMemory b e (avro_schema_text cs) → b ≡ false → image Hudi cs ≡ None
undefined_by cs e true given is = absurd (cc)
undefined_by cs e false given is = (spelled_by cs _ _ refl refl).err e given

pub avro_undefined : (cs : ColumnTrees) (r : Result (List ℕ) MapError) → GivesUnlessMemory is_memory (λ t. t) r (avro_schema_text cs) → IfErr r (λ e. is_memory e ≡ false → image Hudi cs ≡ None)
avro_undefined cs (Ok text) given = tt
avro_undefined cs (Err e) given = undefined_by cs e (is_memory e) given

pub avro_settled : (cs : ColumnTrees) (r : Result (List ℕ) MapError) → GivesUnlessMemory is_memory (λ t. t) r (avro_schema_text cs) → IfOk r (λ _. image Hudi (wide_columns cs) ≡ Some (wide_columns cs))
avro_settled cs (Ok text) given = image_twice Hudi cs (wide_columns cs) (avro_defined cs (Ok text) given)
avro_settled cs (Err e) given = tt

-- the text that is written, of a value that has no float
pub text_said : (r : Result (List ℕ) AllocError) (d e : Data) → d ≡ e → has_float e ≡ false → IfOk r (λ t. has_float d ≡ false → t ≡ compact_text d) → IfOk r (λ t. t ≡ compact_text e)
text_said (Ok t) d e is flat said = said (ap has_float is ∙ flat) ∙ ap compact_text is
text_said (Err x) d e is flat said = tt

-- That value is read again.
pub again_said : (r : Result (List ℕ) AllocError) (d e : Data) → d ≡ e → has_float e ≡ false → IfOk r (λ t. has_float d ≡ false → depth d ≤ max_depth → IsReadAgain d) → OnOk r (depth e ≤ max_depth → IsReadAgain e)
again_said (Ok t) d e is flat said = λ shallow. subst (λ (x : Data). IsReadAgain x) is (said (ap has_float is ∙ flat) (subst (λ (x : Data). depth x ≤ max_depth) (sym is) shallow))
again_said (Err x) d e is flat said = tt
