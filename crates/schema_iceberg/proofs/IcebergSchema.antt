-- A schema is read with its ids exactly where the JSON spells it in Iceberg, within the limits.
use Rattle.std.proofs.Common.{◌≡◌, ℕ, ◌≤◌, List, [], ◌∷◌, ◌++◌, true, false, Result, Ok, Err, refl, ap, subst, ◌∙◌}
use Rattle.std.proofs.lemmas.Bool.{le-ltb}
use Rattle.std.specs.Prelude.{ℤ, nat_lt, IfOk}
use Rattle.serde_json.specs.Data.{Data, null, boolean, number, string, array, object, Items, Members}
use Rattle.table_history.specs.TypeTree.{ColumnTree, ColumnTrees, columns_of}
use Rattle.lake_basics.specs.declared.limits.TheConstants.{MAX_COLUMNS}
use Rattle.lake_basics.specs.Outcome.{GivesUnlessMemory}
use Rattle.json_reading.specs.Json.{items}
use Rattle.schema_map.specs.declared.fault.Fault.{Fault}
use Rattle.schema_map.specs.declared.fault.MapError.{MapError}
use Rattle.schema_map.specs.Errors.{is_memory, in_column}
use Rattle.table_history.specs.SchemaSize.{column_count, max_type_levels, IsWithinLimits}
use Rattle.schema_iceberg.specs.Iceberg.{iceberg_type, iceberg_column, iceberg_top_column, each_with_ids, iceberg_schema}
use Rattle.schema_iceberg.specs.IcebergSpelling.{IsIcebergSchema}
use Rattle.table_history.specs.Sound.{have_own_names}
use Rattle.schema_map.specs.Names.{columns_with_own_names}
use Rattle.schema_map.specs.Shared.{column_name, schema_fields, schema_of}
use Rattle.schema_map.proofs.Bound.{bound, good}
use Rattle.schema_map.proofs.Reading.{own_found, mapped, was_good, within_found, IsSchemaJson, fields_found, gives_same}
use Rattle.schema_map.proofs.Columns.{column_list, columns_of-column_list}
use Rattle.schema_iceberg.proofs.IcebergFound.{ColumnsFound, columns_found, iceberg_found}
use Rattle.schema_iceberg.proofs.IcebergOnly.{iceberg_only_columns}

module _ (f : Data → Result (ColumnTree × List ℤ) Fault) (name : Data → List ℕ) where
  tops_from : (xs : List Data) (p : List ColumnTree × List ℤ) → each_with_ids f xs ≡ Ok p → each_with_ids (λ d. in_column (name d) (f d)) xs ≡ Ok p
  tops_from [] p e = let h : good ([], []) ≡ good p = e in cc
  tops_from (x ∷ xs) p e =
      let first = bound (f x) _ p e in
      let others = bound (each_with_ids f xs) _ p first.behind in
      let all : List ColumnTree × List ℤ = (first.value.0 ∷ others.value.0, first.value.1 ++ others.value.1) in
      let eq : all ≡ p = let h : good all ≡ good p = others.behind in cc in
      rw (first.first, tops_from xs others.value others.first) (ap Ok eq)

  pub tops_to : (xs : List Data) (p : List ColumnTree × List ℤ) → each_with_ids (λ d. in_column (name d) (f d)) xs ≡ Ok p → each_with_ids f xs ≡ Ok p
  tops_to [] p e = let h : mapped ([], []) ≡ mapped p = e in cc
  tops_to (x ∷ xs) p e =
      let first = bound (in_column (name x) (f x)) _ p e in
      let others = bound (each_with_ids (λ d. in_column (name d) (f d)) xs) _ p first.behind in
      let all : List ColumnTree × List ℤ = (first.value.0 ∷ others.value.0, first.value.1 ++ others.value.1) in
      let eq : all ≡ p = let h : mapped all ≡ mapped p = others.behind in cc in
      rw (was_good (name x) (f x) first.value first.first, tops_to xs others.value others.first) (ap Ok eq)

unfoldable pub SchemaFound : ColumnTrees → List ℤ → Data → Type 0
SchemaFound cs ids d = IsIcebergSchema cs ids d × IsWithinLimits cs

limited_found : (d : Data) (ms : Members) (ds : Items) (v : ColumnTrees) (ids : List ℤ) (cs : ColumnTrees) → d ≡ object ms → IsSchemaJson ms ds → ColumnsFound max_type_levels v ids ds → schema_of v ≡ Ok cs → SchemaFound cs ids d
unfolding SchemaFound
limited_found d ms ds v ids cs is json found e =
    let own = bound (in_column [] (columns_with_own_names v)) _ cs e in
    let named = own_found v own.value (was_good [] (columns_with_own_names v) own.value own.first) in
    let few = within_found own.value cs (nat_lt MAX_COLUMNS (column_count own.value)) refl own.behind in
    let eq : v ≡ cs = named.1 ∙ few.0 in
    let count : column_count cs ≤ MAX_COLUMNS = subst (λ w. column_count w ≤ MAX_COLUMNS) few.0 few.1 in
    let whole : (have_own_names cs ≡ true) × ColumnsFound max_type_levels cs ids ds = subst (λ w. (have_own_names w ≡ true) × ColumnsFound max_type_levels w ids ds) eq (named.0, found) in
    ((ms, ds, is, json.word, json.fields, whole.0, whole.1.are), record { levels = whole.1.small; columns = count })

pub schema_found : (d : Data) (p : ColumnTrees × List ℤ) → iceberg_schema d ≡ Ok p → SchemaFound p.0 p.1 d
unfolding iceberg_schema schema_fields
schema_found null p e = absurd (cc)
schema_found (boolean b) p e = absurd (cc)
schema_found (number n) p e = absurd (cc)
schema_found (string s) p e = absurd (cc)
schema_found (array ds) p e = absurd (cc)
schema_found (object ms) p e =
    let fields = bound (in_column [] (schema_fields (object ms))) _ p e in
    let columns = bound (each_with_ids iceberg_top_column (items fields.value)) _ p fields.behind in
    let own = bound (schema_of (columns_of columns.value.0)) _ p columns.behind in
    let is = fields_found ms fields.value (was_good [] (schema_fields (object ms)) fields.value fields.first) in
    let read = tops_to (iceberg_column (iceberg_type max_type_levels)) column_name (items fields.value) columns.value columns.first in
    let found = columns_found max_type_levels (iceberg_found max_type_levels) fields.value columns.value read in
    let whole = limited_found (object ms) ms fields.value (columns_of columns.value.0) columns.value.1 own.value refl is found own.first in
    let all : ColumnTrees × List ℤ = (own.value, columns.value.1) in
    let eq : all ≡ p = let h : mapped all ≡ mapped p = own.behind in cc in
    let P : ColumnTrees × List ℤ → Type 0 = λ v. SchemaFound v.0 v.1 (object ms) in
    subst P eq whole

pub schema_only : (d : Data) (cs : ColumnTrees) (ids : List ℤ) → IsIcebergSchema cs ids d → IsWithinLimits cs → iceberg_schema d ≡ Ok (cs, ids)
unfolding iceberg_schema schema_fields
schema_only d cs ids is limits =
    let columns = iceberg_only_columns max_type_levels cs ids is.1 is.6 limits.levels in
    let tops = tops_from (iceberg_column (iceberg_type max_type_levels)) column_name (items is.1) (column_list cs, ids) columns in
    let few : nat_lt MAX_COLUMNS (column_count cs) ≡ false = le-ltb MAX_COLUMNS (column_count cs) limits.columns in
    rw (is.2, is.3, is.4, tops, columns_of-column_list cs, is.5, few)

pub given_found : (d : Data) (r : Result (ColumnTrees × List ℤ) MapError) → GivesUnlessMemory is_memory (λ p. p) r (iceberg_schema d) → IfOk r (λ p. IsIcebergSchema p.0 p.1 d × IsWithinLimits p.0)
unfolding SchemaFound
given_found d (Ok p) given = schema_found d p given
given_found d (Err e) given = tt

pub given_only : (d : Data) (r : Result (ColumnTrees × List ℤ) MapError) → GivesUnlessMemory is_memory (λ p. p) r (iceberg_schema d) → (cs : ColumnTrees) (ids : List ℤ) → IsIcebergSchema cs ids d → IsWithinLimits cs → GivesUnlessMemory is_memory (λ p. p) r (Ok (cs, ids))
given_only d r given cs ids is limits = gives_same (λ p. p) r (iceberg_schema d) (Ok (cs, ids)) given (schema_only d cs ids is limits)
