-- What the readings of a schema's JSON share: what was wrong, where a reading was refused.
use Rattle.std.proofs.Common.{◌≡◌, ℕ, ◌<◌, List, [], Bool, true, false, Some, Result, Ok, Err, refl, sym, ap, subst, ◌∙◌, cond}
use Rattle.std.specs.Prelude.{codes, nat_lt, unwrap_or}
use Rattle.std.specs.List.{IsDistinct}
use Rattle.std.specs.Str.{bytes_eq}
use Rattle.std.proofs.lemmas.Bool.{true≢false, ltb-true}
use Rattle.std.proofs.lemmas.Slice.Eq.{bytes_eq-Decides}
use Rattle.serde_json.specs.Data.{Data, null, boolean, number, string, array, object, Items, Members}
use Rattle.serde_json.specs.Find.{get_member}
use Rattle.table_history.specs.TypeTree.{ColumnTrees}
use Rattle.table_history.specs.Sound.{have_own_names, names_of}
use Rattle.table_history.proofs.Laws.{own_names_distinct}
use Rattle.table_history.specs.SchemaSize.{column_count}
use Rattle.table_history.specs.declared.limit.LimitKind.TheVariants.{Columns}
use Rattle.lake_basics.specs.declared.limits.TheConstants.{MAX_COLUMNS}
use Rattle.lake_basics.specs.Outcome.{required}
use Rattle.json_reading.specs.Json.{text_member, list_member}
use Rattle.schema_map.specs.declared.fault.Fault.{Fault}
use Rattle.schema_map.specs.declared.fault.Fault.TheVariants.{BadSchema, SchemaType}
use Rattle.schema_map.specs.declared.fault.MapError.{MapError}
use Rattle.schema_map.specs.declared.fault.MapError.TheVariants as errors
use Rattle.schema_map.specs.Names.{columns_with_own_names}
use Rattle.schema_map.specs.Shared.{column_name, schema_fields}
use Rattle.schema_map.specs.Limits.{schema_of_few_columns}
use Rattle.schema_map.specs.Places.{IsNamed}
use Rattle.schema_map.proofs.Bound.{bound, was_there, was_text, was_array, chosen}

pub own_failed : (cs : ColumnTrees) (f : Fault) → columns_with_own_names cs ≡ Err f → (f ≡ BadSchema) × (have_own_names cs ≡ false)
own_failed cs f e = at (have_own_names cs) refl e
  where
    at : (b : Bool) → have_own_names cs ≡ b → cond b (Ok cs) (Err BadSchema) ≡ Err f → (f ≡ BadSchema) × (have_own_names cs ≡ false)
    at true is h = absurd (cc)
    at false is h = (cc, is)

pub not_distinct : (cs : ColumnTrees) (names : List (List ℕ)) → names ≡ names_of cs → have_own_names cs ≡ false → IsDistinct bytes_eq names → ⊥
not_distinct cs names are same distinct = true≢false (sym ((own_names_distinct cs).1 (subst (λ ns. IsDistinct bytes_eq ns) are distinct)) ∙ same)

pub ok_err : {A : Type 0} (x : A) (f : Fault) → ◌≡◌ {A = Result A Fault} (Ok x) (Err f) → ⊥
ok_err x f e = absurd (cc)

pub no_word : {A : Type 0} (f : Fault) → ◌≡◌ {A = Result A Fault} (Err SchemaType) (Err f) → f ≡ SchemaType
no_word f e = cc

pub record IsStruct (d : Data) (ds : Items) : Type 0 where
  pub word : IsNamed (codes "struct") d
  pub fields : list_member (codes "fields") d ≡ Some ds

pub is_struct : (d : Data) (ds : Items) → schema_fields d ≡ Ok ds → IsStruct d ds
unfolding schema_fields
is_struct d ds e =
    let word = bound (required BadSchema (text_member (codes "type") d)) _ ds e in
    let fields = bound (required BadSchema (list_member (codes "fields") d)) _ ds word.behind in
    let P : Items → Type 0 = λ v. IsStruct d v in
    chosen (IsStruct d ds) (bytes_eq word.value (codes "struct")) _ _ ds
    (λ same f. let eq : fields.value ≡ ds = cc in subst P eq (record { word = was_there _ _ word.first ∙ ap Some ((bytes_eq-Decides word.value (codes "struct")).0 same); fields = was_there _ _ fields.first }))
    (λ other f. absurd (cc)) fields.behind

pub name_there : (d : Data) (name : List ℕ) → text_member (codes "name") d ≡ Some name → text_member (codes "name") d ≡ Some (column_name d)
name_there d name is = is ∙ ap Some (sym (ap (λ o. unwrap_or o []) is))

pub few_failed : (cs : ColumnTrees) (x : MapError) → schema_of_few_columns cs ≡ Err x → (errors.Limit Columns ≡ x) × (MAX_COLUMNS < column_count cs)
few_failed cs x e = at (nat_lt MAX_COLUMNS (column_count cs)) refl e
  where
    at : (b : Bool) → nat_lt MAX_COLUMNS (column_count cs) ≡ b → cond b (Err (errors.Limit Columns)) (Ok cs) ≡ Err x → (errors.Limit Columns ≡ x) × (MAX_COLUMNS < column_count cs)
    at true is h = (cc, ltb-true MAX_COLUMNS (column_count cs) is)
    at false is h = absurd (cc)

-- a struct's JSON is an object
pub record IsObject (d : Data) (ds : Items) : Type 0 where
  pub ms : Members
  pub is : d ≡ object ms
  pub word : get_member (codes "type") ms ≡ Some (string (codes "struct"))
  pub fields : get_member (codes "fields") ms ≡ Some (array ds)

pub is_object : (d : Data) (ds : Items) → IsStruct d ds → IsObject d ds
is_object null ds is = absurd (let h = is.word in cc)
is_object (boolean b) ds is = absurd (let h = is.word in cc)
is_object (number n) ds is = absurd (let h = is.word in cc)
is_object (string s) ds is = absurd (let h = is.word in cc)
is_object (array es) ds is = absurd (let h = is.word in cc)
is_object (object ms) ds is = record { ms = ms; is = refl; word = was_text _ _ is.word; fields = was_array _ _ is.fields }
