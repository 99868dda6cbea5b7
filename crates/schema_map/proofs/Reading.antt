-- What the readings of a schema's JSON share: what was read, where a reading gave columns.
use Rattle.std.proofs.Common.{◌≡◌, ℕ, ◌≤◌, List, Bool, true, false, Ok, Err, refl, ap, subst, ◌∙◌, cond, Result}
use Rattle.std.specs.Prelude.{codes, Some, nat_lt}
use Rattle.std.specs.Str.{bytes_eq}
use Rattle.std.proofs.lemmas.Slice.Eq.{bytes_eq-Decides}
use Rattle.serde_json.specs.Data.{string, array, object, Items, Members}
use Rattle.serde_json.specs.Find.{get_member}
use Rattle.table_history.specs.TypeTree.{ColumnTrees}
use Rattle.schema_map.specs.declared.fault.Fault.TheVariants.{BadSchema}
use Rattle.lake_basics.specs.Outcome.{required, GivesUnlessMemory}
use Rattle.json_reading.specs.Json.{text_member, list_member}
use Rattle.table_history.specs.SchemaSize.{column_count}
use Rattle.schema_map.specs.Shared.{schema_fields}
use Rattle.table_history.specs.Sound.{have_own_names}
use Rattle.schema_map.specs.Names.{columns_with_own_names}
use Rattle.schema_map.proofs.Bound.{bound, was_there, was_text, was_array, chosen, good}
use Rattle.std.proofs.lemmas.Bool.{ltb-false}
use Rattle.table_history.specs.declared.limit.LimitKind.TheVariants.{Columns}
use Rattle.schema_map.specs.declared.fault.Fault.{Fault}
use Rattle.schema_map.specs.declared.fault.MapError.{MapError}
use Rattle.schema_map.specs.declared.fault.MapError.TheVariants.{Limit}
use Rattle.schema_map.specs.Errors.{in_column, is_memory}
use Rattle.lake_basics.specs.declared.limits.TheConstants.{MAX_COLUMNS}

abbrev pub mapped : {A : Type 0} → A → Result A MapError
mapped x = Ok x

pub was_good : {A : Type 0} (name : List ℕ) (r : Result A Fault) (x : A) → in_column name r ≡ Ok x → r ≡ Ok x
was_good name (Ok y) x e = cc
was_good name (Err f) x e = absurd (cc)

pub own_found : (cs ds : ColumnTrees) → columns_with_own_names cs ≡ Ok ds → (have_own_names cs ≡ true) × (cs ≡ ds)
own_found cs ds e = own _ refl e
  where
    own : (b : Bool) → have_own_names cs ≡ b → (cond b (good cs) (Err BadSchema)) ≡ Ok ds → (have_own_names cs ≡ true) × (cs ≡ ds)
    own true is h = (is, cc)
    own false is h = absurd (cc)

pub named : (ms : Members) (w name : List ℕ) → text_member (codes "type") (object ms) ≡ Some w → bytes_eq w name ≡ true → get_member (codes "type") ms ≡ Some (string name)
named ms w name is same = was_text _ _ is ∙ ap (λ x. Some (string x)) ((bytes_eq-Decides w name).0 same)

pub within_found : (cs ds : ColumnTrees) (b : Bool) → nat_lt MAX_COLUMNS (column_count cs) ≡ b → cond b (Err (Limit Columns)) (Ok cs) ≡ Ok ds → (cs ≡ ds) × (column_count cs ≤ MAX_COLUMNS)
within_found cs ds true is e = absurd (cc)
within_found cs ds false is e = (cc, ltb-false MAX_COLUMNS (column_count cs) is)

pub record IsSchemaJson (ms : Members) (ds : Items) : Type 0 where
  pub word : get_member (codes "type") ms ≡ Some (string (codes "struct"))
  pub fields : get_member (codes "fields") ms ≡ Some (array ds)

pub fields_found : (ms : Members) (ds : Items) → schema_fields (object ms) ≡ Ok ds → IsSchemaJson ms ds
unfolding schema_fields
fields_found ms ds e =
    let word = bound (required BadSchema (text_member (codes "type") (object ms))) _ ds e in
    let fields = bound (required BadSchema (list_member (codes "fields") (object ms))) _ ds word.behind in
    let is = was_text _ _ (was_there _ _ word.first) in
    let P : Items → Type 0 = λ v. IsSchemaJson ms v in
    chosen (IsSchemaJson ms ds) (bytes_eq word.value (codes "struct")) _ _ ds
    (λ same f. let eq : fields.value ≡ ds = cc in subst P eq (record { word = is ∙ ap (λ x. Some (string x)) ((bytes_eq-Decides word.value (codes "struct")).0 same); fields = was_array _ _ (was_there _ _ fields.first) }))
    (λ other f. absurd (cc)) fields.behind

-- what is given agrees with what the reading is
pub gives_same : {A B : Type 0} (view : A → B) (r : Result A MapError) (reading other : Result B MapError) → GivesUnlessMemory is_memory view r reading → reading ≡ other → GivesUnlessMemory is_memory view r other
gives_same view r reading other given same = subst (λ x. GivesUnlessMemory is_memory view r x) same given
