-- What is written for a sound schema is its spelling in Delta.
use Rattle.std.proofs.Common.{◌≡◌, ℕ, ◌+◌, ◌*◌, ◌<◌, ◌≤◌, [], ◌∷◌, ◌++◌, false, refl, arith}
use Rattle.std.specs.Prelude.{Some, decimal}
use Rattle.std.proofs.lemmas.Bool.{lt-ltb, or_from}
use Rattle.serde_json.specs.Data.{depth, items_depth}
use Rattle.serde_json.specs.Written.{has_float, items_have_float}
use Rattle.serde_json.specs.Read.{max_depth}
use Rattle.table_history.specs.TypeTree as tree
use Rattle.table_history.specs.TypeTree.{TypeTree, ColumnTrees, no_columns, column}
use Rattle.schema_map.specs.Decimal.{decimal_of}
use Rattle.schema_delta.specs.DeltaWriting.{delta_decimal_text, delta_data, delta_fields}
use Rattle.schema_delta.specs.DeltaSpelling.{IsDeltaType, AreDeltaColumns}
use Rattle.table_history.specs.SchemaSize.{levels, column_levels, max_type_levels}
use Rattle.table_history.specs.Sound.{IsSoundType, AreSound}
use Rattle.schema_map.proofs.DecimalLaw.{text_found}
use Rattle.schema_map.proofs.Columns.{one_level}
use Rattle.schema_map.proofs.Numbers.{number_by}

-- ---- no float, and not too deep

mutual
  pub flat_type : (t : TypeTree) → has_float (delta_data t) ≡ false
  flat_type tree.boolean = refl
  flat_type tree.byte = refl
  flat_type tree.short = refl
  flat_type tree.int = refl
  flat_type tree.long = refl
  flat_type tree.float = refl
  flat_type tree.double = refl
  flat_type tree.text = refl
  flat_type tree.binary = refl
  flat_type tree.date = refl
  flat_type tree.timestamp = refl
  flat_type tree.timestamp_ntz = refl
  flat_type (tree.decimal p s) = refl
  flat_type (tree.struct_of cs) = or_from _ _ (flat_fields cs) refl
  flat_type (tree.list_of t b) = or_from _ _ (flat_type t) refl
  flat_type (tree.map_of k v b) = or_from _ _ (flat_type k) (or_from _ _ (flat_type v) refl)

  pub flat_fields : (cs : ColumnTrees) → items_have_float (delta_fields cs) ≡ false
  flat_fields no_columns = refl
  flat_fields (column n t b cs) = or_from _ _ (or_from _ _ (flat_type t) refl) (flat_fields cs)

mutual
  pub shallow_type : (t : TypeTree) → depth (delta_data t) ≤ 3 * levels t
  shallow_type tree.boolean = omega arith
  shallow_type tree.byte = omega arith
  shallow_type tree.short = omega arith
  shallow_type tree.int = omega arith
  shallow_type tree.long = omega arith
  shallow_type tree.float = omega arith
  shallow_type tree.double = omega arith
  shallow_type tree.text = omega arith
  shallow_type tree.binary = omega arith
  shallow_type tree.date = omega arith
  shallow_type tree.timestamp = omega arith
  shallow_type tree.timestamp_ntz = omega arith
  shallow_type (tree.decimal p s) = omega arith
  shallow_type (tree.struct_of cs) = let h = shallow_fields cs in omega (arith, h)
  shallow_type (tree.list_of t b) = let h = shallow_type t in omega (arith, h)
  shallow_type (tree.map_of k v b) = let h = shallow_type k in let g = shallow_type v in omega (arith, h, g)

  pub shallow_fields : (cs : ColumnTrees) → items_depth (delta_fields cs) ≤ 3 * column_levels cs + 1
  shallow_fields no_columns = omega arith
  shallow_fields (column n t b cs) = let h = shallow_type t in let one = one_level t in let g = shallow_fields cs in omega (arith, h, g, one)

pub schema_flat : (cs : ColumnTrees) → has_float (delta_data (tree.struct_of cs)) ≡ false
schema_flat cs = flat_type (tree.struct_of cs)

pub schema_shallow : (cs : ColumnTrees) → column_levels cs ≤ max_type_levels → depth (delta_data (tree.struct_of cs)) ≤ max_depth
schema_shallow cs small = let h = shallow_type (tree.struct_of cs) in let g : depth (delta_data (tree.struct_of cs)) ≤ 3 * (1 + column_levels cs) = h in omega (arith, g, small)

-- ---- the numbers of a decimal

pub decimal_read : (p s : ℕ) → 0 < p → p < 39 → s ≤ p → decimal_of (delta_decimal_text p s) ≡ Some (p, s)
unfolding decimal_of
decimal_read p s some small scale =
    rw (
      number_by _ p 44 (decimal s ++ 41 ∷ []) refl (omega (arith, small)) refl refl,
      number_by _ s 41 [] refl (omega (arith, small, scale)) refl refl,
      lt-ltb 0 p some,
      lt-ltb p 39 small,
      lt-ltb s (p + 1) (omega (arith, scale)),
    )

-- ---- types

mutual
  pub delta_spelled : (t : TypeTree) → IsSoundType t → IsDeltaType t (delta_data t)
  delta_spelled tree.boolean sound = refl
  delta_spelled tree.byte sound = refl
  delta_spelled tree.short sound = refl
  delta_spelled tree.int sound = refl
  delta_spelled tree.long sound = refl
  delta_spelled tree.float sound = refl
  delta_spelled tree.double sound = refl
  delta_spelled tree.text sound = refl
  delta_spelled tree.binary sound = refl
  delta_spelled tree.date sound = refl
  delta_spelled tree.timestamp sound = refl
  delta_spelled tree.timestamp_ntz sound = refl
  delta_spelled (tree.decimal p s) sound = (delta_decimal_text p s, refl, text_found (delta_decimal_text p s) (p, s) (decimal_read p s sound.0 sound.1 sound.2))
  delta_spelled (tree.struct_of cs) sound = (_, delta_fields cs, refl, refl, refl, sound.0, delta_spelled_columns cs sound.1)
  delta_spelled (tree.list_of t b) sound = (_, delta_data t, refl, refl, refl, refl, delta_spelled t sound)
  delta_spelled (tree.map_of k v b) sound = (_, delta_data k, delta_data v, refl, refl, refl, refl, refl, delta_spelled k sound.0, delta_spelled v sound.1)

  pub delta_spelled_columns : (cs : ColumnTrees) → AreSound cs → AreDeltaColumns cs (delta_fields cs)
  delta_spelled_columns no_columns sound = refl
  delta_spelled_columns (column n t b cs) sound = (_, delta_data t, delta_fields cs, refl, refl, refl, refl, delta_spelled t sound.0, delta_spelled_columns cs sound.1)
