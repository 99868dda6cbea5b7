-- Values at their places, and unions that aren't of two.
use Rattle.std.proofs.Common.{◌≡◌, ◌≢◌, ℕ, zero, suc, List, [], ◌∷◌, length, map, None, Some, option_map, slice_get, get_or, ◌<◌, ◌≤◌, refl, sym, ap, ◌∙◌}
use Rattle.std.proofs.lemmas.Option.{slice_get_read, slice_get_past}
use Rattle.avro_schema.specs.declared.schema.Schema.{Schema}
use Rattle.avro_schema.specs.Tree.{tree_of, branches_of}
use Rattle.avro_value.specs.declared.value.Value.{Value}
use Rattle.avro_value.specs.ValueTree.{value_tree, values_of}
use Rattle.iceberg_manifest.specs.Fields.{beside_null}
use Rattle.iceberg_manifest.specs.Values.{value_at}

pub other_count : (ss : List Schema) → length ss ≢ 2 → None ≡ beside_null (branches_of (map tree_of ss))
other_count [] other = refl
other_count (s ∷ []) other = refl
other_count (s ∷ t ∷ []) other = absurd (other refl)
other_count (s ∷ t ∷ u ∷ us) other = refl

tree_at : (vs : List Value) (k : ℕ) → option_map value_tree (slice_get vs k) ≡ value_at (values_of (map value_tree vs)) k
tree_at [] zero = refl
tree_at [] (suc k) = refl
tree_at (v ∷ vs) zero = refl
tree_at (v ∷ vs) (suc k) = tree_at vs k

pub found_at : (vs : List Value) (k : ℕ) (v : Value) → k < length vs → v ≡ get_or vs k v → Some (value_tree v) ≡ value_at (values_of (map value_tree vs)) k
found_at vs k v within is = ap (option_map value_tree) (sym (slice_get_read vs (length vs) k v refl within is)) ∙ tree_at vs k

pub none_at : (vs : List Value) (k : ℕ) → length vs ≤ k → None ≡ value_at (values_of (map value_tree vs)) k
none_at vs k past = ap (option_map value_tree) (sym (slice_get_past vs k past)) ∙ tree_at vs k
