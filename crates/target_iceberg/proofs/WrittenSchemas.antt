-- The schemas and the partition columns of a new version, read back.
use Rattle.std.proofs.Common.{◌≡◌, ◌⊎◌, inl, inr, ⊎_elim, ℕ, ℤ, ◌+◌, ◌≤◌, List, [], ◌∷◌, ◌++◌, map, true, Contains, Some, Ok, refl, sym, ap, subst, ◌∙◌, arith}
use Rattle.std.specs.Prelude.{◌≤ℤ◌, flat_map, fold}
use Rattle.std.specs.Int.{int_max}
use Rattle.std.proofs.lemmas.Int.{fold-int_max_bounds, ints}
use Rattle.std.proofs.lemmas.List.Elements.{All-contains, Contains-append_cases, Contains-append_left, Contains-append_right}
use Rattle.lake_basics.specs.Outcome.{each}
use Rattle.partition_map.specs.Columns.{column_kind}
use Rattle.partition_map.specs.declared.kind.PartKind.{PartKind}
use Rattle.schema_map.specs.Image.{wide_columns}
use Rattle.table_history.specs.TypeTree.{ColumnTrees}
use Rattle.table_history.proofs.RowListLemmas.{Contains-none}
use Rattle.iceberg_manifest.specs.declared.partition.PartColumn.{PartColumn}
use Rattle.iceberg_metadata.specs.Paths.{IsRenamed, held_schema, path_ids, path_of}
use Rattle.iceberg_metadata.specs.Schemas.{HeldSchema}
use Rattle.iceberg_columns.specs.SourceColumns.{column_of}
use Rattle.iceberg_columns.specs.declared.columns.SourceColumn.{SourceColumn}
use Rattle.iceberg_metadata.specs.declared.metadata.Metadata.{Metadata}
use Rattle.iceberg_metadata.specs.declared.metadata.SpecField.{SpecField}
use Rattle.iceberg_table.specs.Plan.{names_of, part_columns}
use Rattle.iceberg_version.specs.Schemas.{AddsSchema, AreNextSchemas, AreSpecFields, KeepsSchemas, Schemas}
use Rattle.iceberg_version.specs.Sound.{have_first_ids}
use Rattle.iceberg_version.specs.Writing.{AreColumns}
use Rattle.iceberg_version.proofs.HeldLemmas.{all_first, found_added, found_kept}
use Rattle.iceberg_version.proofs.SourceLemmas.{source_path}
use Rattle.target_iceberg.specs.Form.{held_ids}

-- ---- lists

flat_cases : {A B : Type 0} (f : A → List B) (xs : List A) (x : A) (y : B) → Contains (flat_map f (xs ++ x ∷ [])) y → Contains (flat_map f xs) y ⊎ Contains (f x) y
flat_cases f [] x y there = ⊎_elim (λ here. inr here) (λ none. absurd (Contains-none y none)) (Contains-append_cases (f x) [] y there)
flat_cases f (z ∷ xs) x y there =
    ⊎_elim
    (λ here. inl (Contains-append_left (f z) (flat_map f xs) y here))
    (λ later. ⊎_elim (λ old. inl (Contains-append_right (f z) (flat_map f xs) y old)) (λ new. inr new) (flat_cases f xs x y later))
    (Contains-append_cases (f z) (flat_map f (xs ++ x ∷ [])) y there)

-- ---- the schemas behind a commit

-- The current one is held under its id, ids are those from 0 on, and no field id is past the last one.
pub record AreSoundNext (stated : ColumnTrees) (next : Schemas) : Type 0 where
  pub found : held_schema next.held next.current.0 ≡ Some next.current
  pub columns : next.current.1 ≡ wide_columns stated
  pub first_ids : have_first_ids next.held ≡ true
  pub field_ids : (id : ℤ) → Contains (flat_map (λ s. s.2) next.held) id → id ≤ℤ next.last_id

module _ (m : Metadata) (stated : ColumnTrees) (next : Schemas) (first_ids : have_first_ids m.schemas ≡ true) (field_ids : (id : ℤ) → Contains (held_ids m) id → id ≤ℤ m.last_column_id) where
  kept_next : KeepsSchemas m stated next → AreSoundNext stated next
  kept_next is = record {
    found = found_kept m stated next first_ids is;
    columns = is.current.columns;
    first_ids = ap have_first_ids is.held ∙ first_ids;
    field_ids = λ i there. subst (λ (last : ℤ). i ≤ℤ last) (sym is.last_id) (field_ids i (subst (λ (l : List HeldSchema). Contains (flat_map (λ s. s.2) l) i) is.held there));
  }

  added_next : AddsSchema m stated next → AreSoundNext stated next
  added_next is =
      let bounds = fold-int_max_bounds m.last_column_id is.ids (fold int_max m.last_column_id is.ids) refl in
      record {
        found = found_added m stated next first_ids is;
        columns = ap (λ (s : HeldSchema). s.1) is.current;
        first_ids = ap have_first_ids is.held ∙ all_first m stated next first_ids is;
        field_ids = λ i there.
            let cases = flat_cases (λ (s : HeldSchema). s.2) m.schemas next.current i (subst (λ (l : List HeldSchema). Contains (flat_map (λ s. s.2) l) i) is.held there) in
            subst (λ (last : ℤ). i ≤ℤ last) (sym is.last_id)
            (⊎_elim
            (λ old. let low = field_ids i old in let base = bounds.0 in omega (arith, ints, low, base))
            (λ new. All-contains (λ x. x ≤ℤ fold int_max m.last_column_id is.ids) is.ids i bounds.1 (subst (λ (s : HeldSchema). Contains s.2 i) is.current new))
            cases);
      }

  pub sound_next : AreNextSchemas m stated next → AreSoundNext stated next
  sound_next (inl keeps) = kept_next keeps
  sound_next (inr adds) = added_next adds.1

-- ---- partition columns

-- the columns of a spec's fields
abbrev pub source_columns : List (List ℕ) → List SpecField → List PartColumn → List SourceColumn
source_columns [] fields columns = []
source_columns (name ∷ names) [] columns = []
source_columns (name ∷ names) (f ∷ fields) [] = []
source_columns (name ∷ names) (f ∷ fields) (c ∷ columns) = record { field_id = f.field_id; name = name; kind = c.kind } ∷ source_columns names fields columns

module _ (s : HeldSchema) where
  column_by : (f : SpecField) (name : List ℕ) (kind : PartKind) → path_of (path_ids s) f.source_id ≡ Some (name ∷ []) → column_kind s.1 name ≡ Some kind → column_of s f ≡ Ok (record { field_id = f.field_id; name = name; kind = kind })
  column_by f name kind at is = rw (at, is) refl

  pub columns_found : (IsRenamed (path_ids s) → ⊥) → (k : ℕ) (names : List (List ℕ)) (fields : List SpecField) (columns : List PartColumn) → AreSpecFields s k names fields → AreColumns s.1 names fields columns → each (column_of s) fields ≡ Ok (source_columns names fields columns)
  columns_found kept k [] [] [] fields columns = refl
  columns_found kept k [] [] (c ∷ cs) fields columns = absurd columns
  columns_found kept k [] (f ∷ fs) cs fields columns = absurd fields
  columns_found kept k (n ∷ ns) [] cs fields columns = absurd fields
  columns_found kept k (n ∷ ns) (f ∷ fs) [] fields columns = absurd columns
  columns_found kept k (n ∷ ns) (f ∷ fs) (c ∷ cs) fields columns =
      let at = source_path s kept n f.source_id fields.0.source in
      rw (column_by f n c.kind at columns.1, columns_found kept (k + 1) ns fs cs fields.1 columns.2) refl

pub names_found : (schema : ColumnTrees) (names : List (List ℕ)) (fields : List SpecField) (columns : List PartColumn) → AreColumns schema names fields columns → names_of (source_columns names fields columns) ≡ names
names_found schema [] fields columns are = refl
names_found schema (n ∷ ns) [] columns are = absurd are
names_found schema (n ∷ ns) (f ∷ fs) [] are = absurd are
names_found schema (n ∷ ns) (f ∷ fs) (c ∷ cs) are = ap (λ (l : List (List ℕ)). n ∷ l) (names_found schema ns fs cs are.2)

pub parts_found : (schema : ColumnTrees) (names : List (List ℕ)) (fields : List SpecField) (columns : List PartColumn) → AreColumns schema names fields columns → part_columns (source_columns names fields columns) ≡ columns
parts_found schema [] [] [] are = refl
parts_found schema [] [] (c ∷ cs) are = absurd are
parts_found schema [] (f ∷ fs) cs are = absurd are
parts_found schema (n ∷ ns) [] columns are = absurd are
parts_found schema (n ∷ ns) (f ∷ fs) [] are = absurd are
parts_found schema (n ∷ ns) (f ∷ fs) (c ∷ cs) are =
    let rest = parts_found schema ns fs cs are.2 in
    λ i. record { field_id = sym are.0 i; kind = c.kind } ∷ rest i

pub field_names_are : (s : HeldSchema) (k : ℕ) (names : List (List ℕ)) (fields : List SpecField) → AreSpecFields s k names fields → map (λ f. f.name) fields ≡ names
field_names_are s k [] [] are = refl
field_names_are s k [] (f ∷ fs) are = absurd are
field_names_are s k (n ∷ ns) [] are = absurd are
field_names_are s k (n ∷ ns) (f ∷ fs) are =
    let first : f.name ≡ n = are.0.name_is in
    let rest = field_names_are s (k + 1) ns fs are.1 in
    λ i. first i ∷ rest i
