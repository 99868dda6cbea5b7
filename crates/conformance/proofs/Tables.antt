-- The tables that the drill's commits make, one after another.
use Rattle.std.proofs.Common.{◌≡◌, ◌⊎◌, inl, inr, ⊎_elim, ℕ, zero, suc, ◌+◌, ◌-◌, ◌<◌, ◌≤◌, pos, Bool, true, false, List, [], ◌∷◌, ◌++◌, map, Contains, Option, Some, None, refl, sym, ap, subst, ◌∙◌, arith}
use Rattle.std.specs.Prelude.{◌==◌, not, codes, if◌then◌else◌, FitsSigned, Ok, option_and_then}
use Rattle.std.specs.Fmt.{decimal}
use Rattle.std.specs.Int.{w32}
use Rattle.std.specs.List.{IsDistinct, filter}
use Rattle.std.specs.Str.{bytes_eq}
use Rattle.std.proofs.lemmas.Bool.{cases_Bool, false≢true}
use Rattle.std.proofs.lemmas.Bool.Decides.{nat_tests}
use Rattle.std.proofs.lemmas.Fmt.{decimal_digit}
use Rattle.std.proofs.lemmas.List.{map-append}
use Rattle.std.proofs.lemmas.List.Elements.{Contains-append_cases, Contains-append_left, Contains-append_right}
use Rattle.table_history.specs.Row.{Row}
use Rattle.table_history.specs.Rows.{HasDistinctPaths, paths_of}
use Rattle.table_history.specs.declared.row.PartValue.{PartValue}
use Rattle.table_history.specs.declared.row.PartValue.TheVariants as value
use Rattle.table_history.specs.declared.table.Table.{Table}
use Rattle.table_history.proofs.RowListLemmas.{Contains-filter, Contains-none, Contains-one, distinct_filter, filter_contains, Contains-head, Contains-tail, Contains-cases}
use Rattle.partition_map.proofs.DateLemmas.{decimal_written}
use Rattle.partition_map.specs.Stands.{DeltaStands, IsDecimal, IsTextOf}
use Rattle.partition_map.specs.declared.kind.PartKind.TheVariants as kind
use Rattle.delta_change.proofs.SchemaTextLemmas.{spelled_field, spelled_good, spelled_type}
use Rattle.delta_change.specs.Change.{ChangesPartition, HasOtherPartition, HasOtherReader, HasOtherValue, IsOutsideGrammar, MapsColumns, NeedsOtherFeature, HasOtherType}
use Rattle.delta_change.specs.TableBehind.{IsSchemaBehind, rows_before, partition_behind}
use Rattle.delta_live.proofs.BehindLemmas.{on_path, path_on, distinct_nothing}
use Rattle.delta_live.specs.Live.{ActsOn, AddsRow, AreRowsBehind, AreValues, PartColumns, ArePartColumns, SpellsNoValue}
use Rattle.delta_log.proofs.FilePathLemmas.{action_named}
use Rattle.delta_log.specs.Judging.{acts_on}
use Rattle.delta_log.specs.declared.commit.FileAction.{FileAction}
use Rattle.delta_log.specs.declared.commit.MetaData.{MetaData}
use Rattle.delta_log.specs.declared.commit.Protocol.{Protocol}
use Rattle.delta_table.specs.Log.{IsStep}
use Rattle.conformance.specs.Drill.{SpellsDrill, added_file, count_at, drill_commit, drill_files, drill_meta, drill_protocol, drill_schema, file_count, folder_at, numbers_under, path_at, removed_file, removed_files, values_at}
use Rattle.conformance.proofs.Commits.{own, removed_by}
use Rattle.conformance.proofs.Numbers.{from_map, grown, in_map}
use Rattle.partition_map.specs.Columns.{LacksKinds, column_kind}
use Rattle.partition_map.specs.Kind.{part_kind_of}
use Rattle.partition_map.specs.declared.kind.PartKind.{PartKind}
use Rattle.schema_delta.specs.Delta.{delta_schema_of}
use Rattle.table_history.specs.TypeTree.{ColumnTrees}
use Rattle.std.proofs.lemmas.Map.Keys.{IsDistinct-cons}
use Rattle.std.proofs.lemmas.Option.{same_Some}

-- ---- rows

abbrev pub row_at : ℕ → ℕ → ℕ → Row
row_at number i j = record { path = path_at number i j; values = value.Int (pos (folder_at number i j)) ∷ []; count = count_at number j; size = 1000 + count_at number j }

abbrev pub stays : ℕ → ℕ → Row → Bool
stays number i row = not (acts_on row.path (drill_files number i))

abbrev pub kept_rows : ℕ → ℕ → List Row → List Row
kept_rows number i before = filter (stays number i) before

abbrev pub new_rows : ℕ → ℕ → List Row
new_rows number i = map (row_at number i) (numbers_under file_count)

-- the rows after so many commits
abbrev pub rows_after : ℕ → ℕ → List Row
rows_after number zero = []
rows_after number (suc i) = kept_rows number i (rows_after number i) ++ new_rows number i

abbrev pub table_after : ℕ → ℕ → Table
table_after number count = record { schema = drill_schema; partition = codes "d" ∷ []; rows = rows_after number count }

abbrev pub base_of : ℕ → ℕ → Option Table
base_of number zero = None
base_of number (suc i) = Some (table_after number (suc i))

abbrev drill_columns : PartColumns
drill_columns = (codes "d", kind.Int) ∷ []

-- ---- values

module _ (g : ℕ) (small : g < 10) where
  is_number : IsDecimal (decimal g) (pos g)
  is_number = decimal_written (pos g) (omega (arith, small))

  pub fits : FitsSigned w32 (pos g)
  fits = record { sfits = omega (arith, small) }

  abbrev pub digit_of : List ℕ
  digit_of = (48 + g) ∷ []

  pub digit_is : IsDecimal digit_of (pos g)
  digit_is = subst (λ t. IsDecimal t (pos g)) (decimal_digit g small) is_number

  stands : DeltaStands kind.Int (Some (decimal g)) (value.Int (pos g))
  stands = subst (λ t. DeltaStands kind.Int (Some t) (value.Int (pos g))) (sym (decimal_digit g small)) (pos g, digit_is, fits, refl)

  value_is : (v : PartValue) → DeltaStands kind.Int (Some (decimal g)) v → v ≡ value.Int (pos g)
  value_is v h =
      let spelled : IsTextOf kind.Int digit_of v = subst (λ t. DeltaStands kind.Int (Some t) v) (decimal_digit g small) h in
      spelled.3 ∙ ap value.Int (spelled.1.value ∙ sym digit_is.value)

module _ (number i j : ℕ) where
  small : folder_at number i j < 10
  small = omega arith

  adds : AddsRow drill_columns (added_file number i j) (row_at number i j)
  adds = (refl, (stands (folder_at number i j) small, tt), refl, refl)

  only_values : (vs : List PartValue) → AreValues drill_columns (values_at number i j) vs → vs ≡ value.Int (pos (folder_at number i j)) ∷ []
  only_values [] h = absurd h
  only_values (v ∷ []) h = ap (λ w. w ∷ []) (value_is (folder_at number i j) small v h.0)
  only_values (v ∷ (w ∷ vs)) h = absurd h.1

  only_row : (row : Row) → AddsRow drill_columns (added_file number i j) row → row ≡ row_at number i j
  only_row row h = let values = only_values row.values h.1 in λ k. record { path = h.0 k; values = values k; count = h.3 k; size = h.2 k }

-- ---- the rows behind a commit

paths_of_new : (number i : ℕ) (ns : List ℕ) → paths_of (map (row_at number i) ns) ≡ map (path_at number i) ns
paths_of_new number i [] = refl
paths_of_new number i (n ∷ ns) = ap (λ (l : List (List ℕ)). path_at number i n ∷ l) (paths_of_new number i ns)

pub row_of_path : (rows : List Row) (path : List ℕ) → Contains (paths_of rows) path → (row : Row) × Contains rows row × (row.path ≡ path)
row_of_path [] path there = absurd (Contains-none path there)
row_of_path (r ∷ rows) path there =
    ⊎_elim
    (λ (here : r.path ≡ path). (r, Contains-head r rows, here))
    (λ later. let found = row_of_path rows path later in (found.0, Contains-tail r rows found.0 found.1, found.2))
    (Contains-cases r.path (paths_of rows) path there)

module _ (number i : ℕ) where
  abbrev files : List FileAction
  files = drill_files number i

  added_there : (j : ℕ) → j < 50 → Contains files (added_file number i j)
  added_there j lt = Contains-append_left (map (added_file number i) (numbers_under file_count)) (removed_files number i) (added_file number i j) (in_map (added_file number i) 50 j lt)

  -- an action that isn't a removal is an add of the commit
  pub added_or_not : (f : FileAction) (P : FileAction → Type 0) → ((k j : ℕ) → P (removed_file number k j) → ⊥) → Contains files f → P f → (j : ℕ) × (j < 50) × (added_file number i j ≡ f)
  added_or_not f P none there holds =
      ⊎_elim
      (λ (added : Contains (map (added_file number i) (numbers_under file_count)) f). from_map (added_file number i) 50 f added)
      (λ (gone : Contains (removed_files number i) f). absurd (removed_by number i (λ fs. Contains fs f → ⊥)
      (λ late there. let found = from_map (removed_file number (i - 10)) 50 f there in none (i - 10) found.0 (subst P (sym found.2) holds))
      (λ there. Contains-none f there) gone))
      (Contains-append_cases (map (added_file number i) (numbers_under file_count)) (removed_files number i) f there)

module _ (number i : ℕ) (small : i < 200) (before : List Row) (distinct : HasDistinctPaths before) where
  acts_on_new : (j : ℕ) → j < 50 → acts_on (path_at number i j) (drill_files number i) ≡ true
  acts_on_new j lt = path_on (path_at number i j) (drill_files number i) (action_named (drill_files number i) (added_file number i j) (added_there number i j lt))

  apart : (j : ℕ) → j < 50 → Contains (paths_of (kept_rows number i before)) (path_at number i j) → ⊥
  apart j lt there =
      let row = row_of_path (kept_rows number i before) (path_at number i j) there in
      let kept = Contains-filter (stays number i) before row.0 row.1 in
      false≢true (sym (ap not (ap (λ (p : List ℕ). acts_on p (drill_files number i)) row.2 ∙ acts_on_new j lt)) ∙ kept.1)

  pub distinct_after : HasDistinctPaths (kept_rows number i before ++ new_rows number i)
  distinct_after =
      subst (IsDistinct bytes_eq)
      (sym (map-append (λ (r : Row). r.path) (kept_rows number i before) (new_rows number i) ∙ ap (λ (l : List (List ℕ)). paths_of (kept_rows number i before) ++ l) (paths_of_new number i (numbers_under file_count))))
      (grown (path_at number i) 50 (own number i small) (paths_of (kept_rows number i before)) apart (distinct_filter (stays number i) before distinct) 50 (omega arith))

  added_from : (f : FileAction) (row : Row) → Contains (drill_files number i) f → AddsRow drill_columns f row → Contains (new_rows number i) row
  added_from f row there adds =
      let found = added_or_not number i f (λ g. AddsRow drill_columns g row) (λ k j none. none) there adds in
      subst (λ r. Contains (new_rows number i) r) (sym (only_row number i found.0 row (subst (λ g. AddsRow drill_columns g row) (sym found.2) adds))) (in_map (row_at number i) 50 found.0 found.1)

  pub rows_behind : AreRowsBehind drill_columns before (drill_commit number i) (kept_rows number i before ++ new_rows number i)
  rows_behind = record {
    distinct = distinct_after;
    rows = λ row. (
      λ there. ⊎_elim
          (λ (old : Contains (kept_rows number i before) row).
          let kept = Contains-filter (stays number i) before row old in
          inr (kept.0, λ acts. false≢true (sym (ap not (path_on row.path (drill_files number i) acts)) ∙ kept.1)))
          (λ (new : Contains (new_rows number i) row).
          let found = from_map (row_at number i) 50 row new in
          inl (added_file number i found.0, added_there number i found.0 found.1, subst (λ r. AddsRow drill_columns (added_file number i found.0) r) found.2 (adds number i found.0)))
          (Contains-append_cases (kept_rows number i before) (new_rows number i) row there),
      λ behind. ⊎_elim
          (λ (new : (f : FileAction) × Contains (drill_files number i) f × AddsRow drill_columns f row). Contains-append_right (kept_rows number i before) (new_rows number i) row (added_from new.0 row new.1 new.2))
          (λ (old : Contains before row × ¬ ActsOn row.path (drill_commit number i)).
          Contains-append_left (kept_rows number i before) (new_rows number i) row
          (filter_contains (stays number i) before row old.0
          (⊎_elim (λ acts. absurd (old.1 (on_path row.path (drill_files number i) acts))) (λ none. ap not none) (cases_Bool (acts_on row.path (drill_files number i))))))
          behind,
    );
  }

-- ---- the grammar and the features

only_columns : (columns : PartColumns) → ArePartColumns drill_schema (codes "d" ∷ []) columns → columns ≡ drill_columns
only_columns [] h = absurd h
only_columns (x ∷ []) h =
    let kinds : Some kind.Int ≡ Some x.1 = h.1 in
    let kind_is : x.1 ≡ kind.Int = cc in
    λ k. (h.0 k, kind_is k) ∷ []
only_columns (x ∷ (y ∷ columns)) h = absurd h.2

-- What a commit of the drill says of the columns, and what stands before it.
pub record IsPlain (number i : ℕ) (base : Option Table) : Type 0 where
  pub protocol : (p : Protocol) → (drill_commit number i).protocol ≡ Some p → p ≡ drill_protocol
  pub meta : (m : MetaData) → (drill_commit number i).meta ≡ Some m → m ≡ drill_meta
  pub first : base ≡ None → ((drill_commit number i).protocol ≡ None) ⊎ ((drill_commit number i).meta ≡ None) → ⊥
  pub once : (t : Table) (m : MetaData) → base ≡ Some t → (drill_commit number i).meta ≡ Some m → ⊥
  pub schema : IsSchemaBehind (drill_commit number i).meta base drill_schema
  pub only : (s : ColumnTrees) → IsSchemaBehind (drill_commit number i).meta base s → s ≡ drill_schema
  pub partition : partition_behind (drill_commit number i).meta base ≡ codes "d" ∷ []

module _ (number i : ℕ) (base : Option Table) (spells : SpellsDrill) (plain : IsPlain number i base) where
  spelled : (m : MetaData) → (drill_commit number i).meta ≡ Some m → delta_schema_of m.schema ≡ Ok drill_schema
  spelled m is = ap (λ (n : MetaData). delta_schema_of n.schema) (plain.meta m is) ∙ spells

  only_name : (name : List ℕ) → Contains (codes "d" ∷ []) name → column_kind drill_schema name ≡ Some kind.Int
  only_name name there = ap (column_kind drill_schema) (sym (Contains-one (codes "d") name there))

  in_grammar : IsOutsideGrammar (drill_commit number i) base → ⊥
  in_grammar (inl lacks) = plain.first lacks.0 lacks.1
  in_grammar (inr (inl bad)) = spelled_good bad.0.schema drill_schema (spelled bad.0 bad.1) bad.2
  in_grammar (inr (inr stray)) =
      let name : Contains (codes "d" ∷ []) stray.1 = subst (λ (m : MetaData). Contains m.partition stray.1) (plain.meta stray.0 stray.2) stray.3 in
      let none : column_kind drill_schema stray.1 ≡ None = ap (option_and_then part_kind_of) (spelled_field stray.0.schema drill_schema (spelled stray.0 stray.2) stray.1 stray.4) in
      let both : Some kind.Int ≡ None = sym (only_name stray.1 name) ∙ none in
      absurd cc

  no_other_reader : HasOtherReader (drill_commit number i) → ⊥
  no_other_reader h = h.2 (ap (λ (p : Protocol). p.reader) (plain.protocol h.0 h.1))

  no_other_feature : NeedsOtherFeature (drill_commit number i) → ⊥
  no_other_feature h =
      let both : None ≡ Some h.1 = sym (ap (λ (p : Protocol). p.reader_features) (plain.protocol h.0 h.3)) ∙ h.5 in
      absurd cc

  no_mapping : MapsColumns (drill_commit number i) → ⊥
  no_mapping h = Contains-none (codes "delta.columnMapping.mode", h.1) (subst (λ (m : MetaData). Contains m.configuration (codes "delta.columnMapping.mode", h.1)) (plain.meta h.0 h.2) h.3)

  no_other_type : HasOtherType (drill_commit number i) → ⊥
  no_other_type h = spelled_type h.0.schema drill_schema (spelled h.0 h.2) h.1 h.3

  no_other_partition : HasOtherPartition (drill_commit number i) base → ⊥
  no_other_partition h =
      let lacks : LacksKinds drill_schema (codes "d" ∷ []) = subst (λ (p : List (List ℕ)). LacksKinds drill_schema p) plain.partition (subst (λ (s : ColumnTrees). LacksKinds s (partition_behind (drill_commit number i).meta base)) (plain.only h.0 h.1) h.2) in
      ⊎_elim
      (λ twice. twice (IsDistinct-cons bytes_eq (codes "d") [] tt distinct_nothing))
      (λ (none : (name : List ℕ) × Contains (codes "d" ∷ []) name × (column_kind drill_schema name ≡ None)).
      let both : Some kind.Int ≡ None = sym (only_name none.0 none.1) ∙ none.2 in
      absurd cc)
      lacks

  no_change : ChangesPartition (drill_commit number i) base → ⊥
  no_change h = plain.once h.0 h.1 h.3 h.4

  no_other_value : HasOtherValue (drill_commit number i) base → ⊥
  no_other_value h =
      let theirs : ArePartColumns drill_schema (codes "d" ∷ []) h.1 = subst (λ (p : List (List ℕ)). ArePartColumns drill_schema p h.1) plain.partition (subst (λ (s : ColumnTrees). ArePartColumns s (partition_behind (drill_commit number i).meta base) h.1) (plain.only h.0 h.2) h.3) in
      let column : (codes "d", kind.Int) ≡ h.5 = Contains-one (codes "d", kind.Int) h.5 (subst (λ (cs : PartColumns). Contains cs h.5) (only_columns h.1 theirs) h.7) in
      let none : SpellsNoValue (codes "d", kind.Int) h.4 = subst (λ (c : List ℕ × PartKind). SpellsNoValue c h.4) (sym column) h.8 in
      let found = added_or_not number i h.4 (λ g. SpellsNoValue (codes "d", kind.Int) g) (λ k j none. none) h.6 none in
      subst (λ g. SpellsNoValue (codes "d", kind.Int) g) (sym found.2) none (value.Int (pos (folder_at number i found.0))) (stands (folder_at number i found.0) (small number i found.0))

  module _ (few : i < 200) (rows : List Row) (are : rows_before base ≡ rows) (distinct : HasDistinctPaths rows) (next : Table)
      (next_is : next ≡ record { schema = drill_schema; partition = codes "d" ∷ []; rows = kept_rows number i rows ++ new_rows number i }) where
    pub step : IsStep (drill_commit number i) base next
    step = subst (IsStep (drill_commit number i) base) (sym next_is) (record {
      grammar = in_grammar;
      supported = (no_other_reader, (no_other_feature, (no_mapping, (no_other_type, (no_other_partition, (no_change, (no_other_value, tt)))))));
      schema = plain.schema;
      partition = sym plain.partition;
      columns = drill_columns;
      kinds = (refl, refl, tt);
      rows = subst (λ (before : List Row). AreRowsBehind drill_columns before (drill_commit number i) (kept_rows number i rows ++ new_rows number i)) (sym are) (rows_behind number i few rows distinct);
    })

-- ---- each commit

pub distinct_rows : (number count : ℕ) → count ≤ 200 → HasDistinctPaths (rows_after number count)
distinct_rows number zero le = distinct_nothing
distinct_rows number (suc i) le = distinct_after number i (omega (arith, le)) (rows_after number i) (distinct_rows number i (omega (arith, le)))

first_plain : (number : ℕ) → SpellsDrill → IsPlain number 0 None
first_plain number spells = record {
  protocol = λ p is. sym (same_Some drill_protocol p is);
  meta = λ m is. sym (same_Some drill_meta m is);
  first = λ none lacks. ⊎_elim (λ (no : Some drill_protocol ≡ None). cc) (λ (no : Some drill_meta ≡ None). cc) lacks;
  once = λ t m is. let no : None ≡ Some t = is in absurd cc;
  schema = spells;
  only = λ s is. let same : Ok s ≡ Ok drill_schema = sym is ∙ spells in cc;
  partition = refl;
}

is_later : (i : ℕ) → (suc i == 0) ≡ false
is_later i = grind (arith, nat_tests)

no_protocol : (number i : ℕ) → (drill_commit number (suc i)).protocol ≡ None
no_protocol number i = ap (λ (b : Bool). if b then Some drill_protocol else None) (is_later i)

pub no_meta : (number i : ℕ) → (drill_commit number (suc i)).meta ≡ None
no_meta number i = ap (λ (b : Bool). if b then Some drill_meta else None) (is_later i)

later_plain : (number i : ℕ) → IsPlain number (suc i) (Some (table_after number (suc i)))
later_plain number i = record {
  protocol = λ p is. let no : None ≡ Some p = sym (no_protocol number i) ∙ is in absurd cc;
  meta = λ m is. let no : None ≡ Some m = sym (no_meta number i) ∙ is in absurd cc;
  first = λ none lacks. let no : Some (table_after number (suc i)) ≡ None = none in absurd cc;
  once = λ t m is stated. let no : None ≡ Some m = sym (no_meta number i) ∙ stated in absurd cc;
  schema = subst (λ (o : Option MetaData). IsSchemaBehind o (Some (table_after number (suc i))) drill_schema) (sym (no_meta number i)) refl;
  only = λ s is. subst (λ (o : Option MetaData). IsSchemaBehind o (Some (table_after number (suc i))) s) (no_meta number i) is;
  partition = ap (λ (o : Option MetaData). partition_behind o (Some (table_after number (suc i)))) (no_meta number i);
}

pub step_of : (number i : ℕ) → i < 200 → SpellsDrill → IsStep (drill_commit number i) (base_of number i) (table_after number (suc i))
step_of number zero few spells = step number 0 None spells (first_plain number spells) few [] refl distinct_nothing (table_after number 1) refl
step_of number (suc i) few spells =
    step number (suc i) (Some (table_after number (suc i))) spells (later_plain number i) few (rows_after number (suc i)) refl (distinct_rows number (suc i) (omega (arith, few))) (table_after number (suc (suc i))) refl
