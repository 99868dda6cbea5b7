-- The held schemas of a table.
use Rattle.std.proofs.Common.{◌≡◌, ◌⊎◌, ◌+◌, ◌<◌, ◌++◌, ℕ, ℤ, pos, Bool, true, cond, List, [], ◌∷◌, Some, Ok, Contains, drop, fold, get_or, length, refl, sym, ap, subst, ◌∙◌, slice_get, inl, inr}
use Rattle.std.specs.Bool.{IsTrue}
use Rattle.std.specs.Ordering.{int_eq}
use Rattle.std.proofs.lemmas.List.{at_drop_more}
use Rattle.std.proofs.lemmas.Option.{get_or_from_slice_get, slice_get-get_or, slice_get_within}
use Rattle.table_history.specs.TypeEq.{columns_eq}
use Rattle.table_history.specs.TypeEqLaws.{columns_eq-Decides}
use Rattle.table_history.specs.TypeTree.{ColumnTrees}
use Rattle.std.specs.Int.{int_max}
use Rattle.schema_map.specs.IcebergFits.{FitsIceberg}
use Rattle.schema_map.specs.Paths.{column_paths}
use Rattle.iceberg_field_ids.specs.Ids.{ids_for}
use Rattle.schema_map.specs.Image.{wide_columns}
use Rattle.iceberg_metadata.specs.Paths.{current_schema, held_schema}
use Rattle.iceberg_metadata.specs.Schemas.{HeldSchema}
use Rattle.iceberg_metadata.specs.declared.metadata.Metadata.{Metadata}
use Rattle.iceberg_version.specs.Schemas.{AreNextSchemas, Schemas, known_ids, with_schemas}
use Rattle.iceberg_version.proofs.HeldLemmas.{schema_id}
use Rattle.lake_basics.proofs.Lists.{get_pushed}

pub found_at : (schemas : List HeldSchema) (place : ℕ) (id : ℤ) (held : HeldSchema) → place < length schemas → held ≡ get_or schemas place held → int_eq held.0 id ≡ true → held_schema (drop place schemas) id ≡ held_schema schemas id → slice_get schemas place ≡ held_schema schemas id
found_at schemas place id held within is named before =
    let at : slice_get schemas place ≡ Some held = slice_get-get_or schemas place held within ∙ ap Some (sym is) in
    let more = at_drop_more (λ (xs : List HeldSchema). held_schema xs id) schemas place held within in
    let here : held_schema (get_or schemas place held ∷ drop (place + 1) schemas) id ≡ Some held = subst (λ (x : HeldSchema). held_schema (x ∷ drop (place + 1) schemas) id ≡ Some held) is (ap (λ b. cond b (Some held) (held_schema (drop (place + 1) schemas) id)) named) in
    at ∙ sym here ∙ sym more ∙ before

pub same_columns : (a b : ColumnTrees) (found : Bool) → found ≡ columns_eq a b → (IsTrue found → a ≡ b) × (a ≡ b → IsTrue found)
same_columns a b found is = let d = columns_eq-Decides a b in (λ t. d.0 (sym is ∙ t), λ e. is ∙ d.1 e)

-- ---- the schemas behind a commit

-- The metadata after holds these schemas, the current one at that place.
abbrev HoldsNext : Metadata → ColumnTrees → Metadata → ℕ → Type 0
HoldsNext m stated after place = (next : Schemas) × AreNextSchemas m stated next × (after ≡ with_schemas m next) × (slice_get after.schemas place ≡ Some next.current)

pub keeps : (m : Metadata) (stated image : ColumnTrees) (place : ℕ) (current : HeldSchema) → image ≡ wide_columns stated → current_schema m ≡ Some current → current.1 ≡ image → slice_get m.schemas place ≡ Some current → HoldsNext m stated m place
keeps m stated image place current wide held is at = (
  record { held = m.schemas; current = current; last_id = m.last_column_id },
  inl (record { current = record { held = held; columns = is ∙ wide }; held = refl; last_id = refl }),
  ap (λ (x : ℤ). record m { current_schema = x }) (sym (schema_id m.schemas m.current_schema current held)),
  at,
)

pub adds : (m after : Metadata) (stated image : ColumnTrees) (ids : List ℤ) (place : ℕ) → image ≡ wide_columns stated → ids_for (known_ids m) m.last_column_id (column_paths stated) ≡ Ok ids → ((current : HeldSchema) → current_schema m ≡ Some current → current.1 ≡ image → ⊥) → place ≡ length m.schemas → after ≡ record m { schemas = m.schemas ++ (pos place, image, ids) ∷ []; current_schema = pos place; last_column_id = fold int_max m.last_column_id ids } → HoldsNext m stated after place
adds m after stated image ids place wide are none at is = (
  record { held = m.schemas ++ (pos place, image, ids) ∷ []; current = (pos place, image, ids); last_id = fold int_max m.last_column_id ids },
  inr (λ current h. none current h.held (h.columns ∙ sym wide), record { ids = ids; are = are; current = ap (λ (p : ℕ). (pos p, image, ids)) at ∙ ap (λ (cs : ColumnTrees). (pos (length m.schemas), cs, ids)) wide; held = refl; last_id = refl }),
  is,
  ap (λ (x : Metadata). slice_get x.schemas place) is ∙ ap (slice_get (m.schemas ++ (pos place, image, ids) ∷ [])) at ∙ get_pushed m.schemas (pos place, image, ids),
)

-- ---- the new one can be read

pub old_fits : (m : Metadata) (place : ℕ) (current s : HeldSchema) → slice_get m.schemas place ≡ Some current → slice_get m.schemas place ≡ Some s → Contains m.schemas s ⊎ FitsIceberg s.1 s.2
old_fits m place current s at is = inl (place, slice_get_within m.schemas place s is, get_or_from_slice_get m.schemas place s s is)

pub new_fits : (m after : Metadata) (image : ColumnTrees) (ids : List ℤ) (place : ℕ) (s : HeldSchema) → place ≡ length m.schemas → after ≡ record m { schemas = m.schemas ++ (pos place, image, ids) ∷ []; current_schema = pos place; last_column_id = fold int_max m.last_column_id ids } → slice_get after.schemas place ≡ Some s → FitsIceberg image ids → Contains m.schemas s ⊎ FitsIceberg s.1 s.2
new_fits m after image ids place s at is here fits =
    let there : slice_get after.schemas place ≡ Some (pos place, image, ids) = ap (λ (x : Metadata). slice_get x.schemas place) is ∙ ap (slice_get (m.schemas ++ (pos place, image, ids) ∷ [])) at ∙ get_pushed m.schemas (pos place, image, ids) in
    let new : HeldSchema = (pos place, image, ids) in
    let same : Some new ≡ Some s = sym there ∙ here in
    let one : new ≡ s = cc same in
    inr (subst (λ (t : HeldSchema). FitsIceberg t.1 t.2) one fits)
