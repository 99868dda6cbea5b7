-- A schema is read exactly where the JSON spells one within the limits.
use Rattle.std.proofs.Common.{◌≡◌, ℕ, ◌≤◌, List, [], ◌∷◌, true, false, Result, Ok, Err, refl, ap, subst, ◌∙◌}
use Rattle.std.proofs.lemmas.Bool.{le-ltb}
use Rattle.std.specs.Prelude.{nat_lt, IfOk}
use Rattle.serde_json.specs.Data.{Data, null, boolean, number, string, array, object, Items, Members}
use Rattle.table_history.specs.TypeTree.{ColumnTree, ColumnTrees, columns_of, struct_of}
use Rattle.schema_map.specs.declared.fault.Fault.{Fault}
use Rattle.schema_map.specs.declared.fault.Fault.TheVariants.{BadSchema}
use Rattle.schema_map.specs.declared.fault.MapError.{MapError}
use Rattle.lake_basics.specs.Outcome.{required, each, GivesUnlessMemory}
use Rattle.schema_map.specs.Errors.{in_column, is_memory}
use Rattle.json_reading.specs.Json.{items, json}
use Rattle.table_history.specs.SchemaSize.{column_count, max_type_levels, IsWithinLimits}
use Rattle.lake_basics.specs.declared.limits.TheConstants.{MAX_COLUMNS}
use Rattle.schema_delta.specs.Delta.{delta_type, delta_column, delta_top_column, delta_schema, delta_schema_of}
use Rattle.schema_map.specs.Shared.{column_name, schema_fields, schema_of}
use Rattle.schema_delta.specs.DeltaSpelling.{IsDeltaType, IsDeltaText}
use Rattle.table_history.specs.Sound.{have_own_names, IsSound}
use Rattle.schema_delta.proofs.DeltaSound.{delta_sound}
use Rattle.schema_map.specs.Names.{columns_with_own_names}
use Rattle.schema_map.proofs.Bound.{bound, was_there, good}
use Rattle.schema_delta.proofs.DeltaFound.{columns_found, ColumnsFound, delta_found}
use Rattle.schema_map.proofs.Reading.{own_found, mapped, was_good, within_found, IsSchemaJson, fields_found, gives_same}
use Rattle.schema_map.proofs.Columns.{column_list, columns_of-column_list}
use Rattle.schema_delta.proofs.DeltaOnly.{delta_only_columns}

module _ (f : Data → Result ColumnTree Fault) (name : Data → List ℕ) where
  tops_from : (xs : List Data) (ys : List ColumnTree) → each f xs ≡ Ok ys → each (λ d. in_column (name d) (f d)) xs ≡ Ok ys
  tops_from [] ys e = cc
  tops_from (x ∷ xs) ys e =
      let first = bound (f x) _ ys e in
      let others = bound (each f xs) _ ys first.behind in
      let eq : first.value ∷ others.value ≡ ys = let h : good (first.value ∷ others.value) ≡ good ys = others.behind in cc in
      rw (first.first, tops_from xs others.value others.first) (ap Ok eq)

  pub tops_to : (xs : List Data) (ys : List ColumnTree) → each (λ d. in_column (name d) (f d)) xs ≡ Ok ys → each f xs ≡ Ok ys
  tops_to [] ys e = cc
  tops_to (x ∷ xs) ys e =
      let first = bound (in_column (name x) (f x)) _ ys e in
      let others = bound (each (λ d. in_column (name d) (f d)) xs) _ ys first.behind in
      let eq : first.value ∷ others.value ≡ ys = let h : mapped (first.value ∷ others.value) ≡ mapped ys = others.behind in cc in
      rw (was_good (name x) (f x) first.value first.first, tops_to xs others.value others.first) (ap Ok eq)

unfoldable pub SchemaFound : ColumnTrees → Data → Type 0
SchemaFound cs d = IsDeltaType (struct_of cs) d × IsWithinLimits cs

limited_found : (d : Data) (ms : Members) (ds : Items) (v cs : ColumnTrees) → d ≡ object ms → IsSchemaJson ms ds → ColumnsFound max_type_levels v ds → schema_of v ≡ Ok cs → SchemaFound cs d
unfolding SchemaFound
limited_found d ms ds v cs is json found e =
    let own = bound (in_column [] (columns_with_own_names v)) _ cs e in
    let named = own_found v own.value (was_good [] (columns_with_own_names v) own.value own.first) in
    let few = within_found own.value cs (nat_lt MAX_COLUMNS (column_count own.value)) refl own.behind in
    let eq : v ≡ cs = named.1 ∙ few.0 in
    let count : column_count cs ≤ MAX_COLUMNS = subst (λ w. column_count w ≤ MAX_COLUMNS) few.0 few.1 in
    let whole : (have_own_names cs ≡ true) × ColumnsFound max_type_levels cs ds = subst (λ w. (have_own_names w ≡ true) × ColumnsFound max_type_levels w ds) eq (named.0, found) in
    ((ms, ds, is, json.word, json.fields, whole.0, whole.1.are), record { levels = whole.1.small; columns = count })

pub schema_found : (d : Data) (cs : ColumnTrees) → delta_schema d ≡ Ok cs → SchemaFound cs d
unfolding delta_schema schema_fields
schema_found null cs e = absurd (cc)
schema_found (boolean b) cs e = absurd (cc)
schema_found (number n) cs e = absurd (cc)
schema_found (string s) cs e = absurd (cc)
schema_found (array ds) cs e = absurd (cc)
schema_found (object ms) cs e =
    let fields = bound (in_column [] (schema_fields (object ms))) _ cs e in
    let columns = bound (each delta_top_column (items fields.value)) _ cs fields.behind in
    let is = fields_found ms fields.value (was_good [] (schema_fields (object ms)) fields.value fields.first) in
    let read = tops_to (delta_column (delta_type max_type_levels)) column_name (items fields.value) columns.value columns.first in
    let found = columns_found max_type_levels (delta_found max_type_levels) fields.value columns.value read in
    limited_found (object ms) ms fields.value (columns_of columns.value) cs refl is found columns.behind

pub schema_only : (d : Data) (cs : ColumnTrees) → IsDeltaType (struct_of cs) d → IsWithinLimits cs → delta_schema d ≡ Ok cs
unfolding delta_schema schema_fields
schema_only d cs is limits =
    let columns = delta_only_columns max_type_levels cs is.1 is.6 limits.levels in
    let tops = tops_from (delta_column (delta_type max_type_levels)) column_name (items is.1) (column_list cs) columns in
    let few : nat_lt MAX_COLUMNS (column_count cs) ≡ false = le-ltb MAX_COLUMNS (column_count cs) limits.columns in
    rw (is.2, is.3, is.4, tops, columns_of-column_list cs, is.5, few)

-- ---- texts

pub text_found : (text : List ℕ) (cs : ColumnTrees) → delta_schema_of text ≡ Ok cs → IsDeltaText cs text × IsWithinLimits cs
unfolding SchemaFound
text_found text cs e =
    let value = bound (in_column [] (required BadSchema (json text))) _ cs e in
    let found = schema_found value.value cs value.behind in
    ((value.value, was_there _ _ (was_good [] (required BadSchema (json text)) value.value value.first), found.0), found.1)

pub text_only : (text : List ℕ) (cs : ColumnTrees) → IsDeltaText cs text → IsWithinLimits cs → delta_schema_of text ≡ Ok cs
text_only text cs is limits = rw (is.1) (schema_only is.0 cs is.2 limits)

pub given_found : (text : List ℕ) (r : Result ColumnTrees MapError) → GivesUnlessMemory is_memory (λ s. s) r (delta_schema_of text) → IfOk r (λ s. IsDeltaText s text × IsSound s × IsWithinLimits s)
given_found text (Ok s) given = let found = text_found text s given in (found.0, delta_sound (struct_of s) found.0.0 found.0.2, found.1)
given_found text (Err e) given = tt

pub given_only : (text : List ℕ) (r : Result ColumnTrees MapError) → GivesUnlessMemory is_memory (λ s. s) r (delta_schema_of text) → (cs : ColumnTrees) → IsDeltaText cs text → IsWithinLimits cs → GivesUnlessMemory is_memory (λ s. s) r (Ok cs)
given_only text r given cs is limits = gives_same (λ s. s) r (delta_schema_of text) (Ok cs) given (text_only text cs is limits)
