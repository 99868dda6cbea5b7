-- How deep the JSON of the parts of a type nests.
use Rattle.std.proofs.Common.{◌≡◌, ℕ, suc, ◌≤◌, List, Some, codes, arith}
use Rattle.serde_json.specs.Data.{Data, array, Items, depth, items_depth}
use Rattle.serde_json.specs.Find.{get}
use Rattle.json_reading.specs.Json.{list_member, items}
use Rattle.json_reading.proofs.Depth.{get_depth}
use Rattle.schema_map.specs.Among.{IsAmong}
use Rattle.schema_map.proofs.Bound.{was_array}
use Rattle.schema_map.proofs.Places.{among_depth}

-- a field of a struct, and so its type
pub field_depth : (d : Data) (ds : Items) (field : Data) (n : ℕ) → list_member (codes "fields") d ≡ Some ds → IsAmong field (items ds) → depth d ≤ suc n → depth field ≤ n
field_depth d ds field n lists among small =
    let list : suc (depth (array ds)) ≤ depth d = get_depth (codes "fields") d (array ds) (was_array (get (codes "fields") d) ds lists) in
    let below : depth field ≤ items_depth ds = among_depth ds field among in
    omega (arith, list, below, small)

pub part_depth : (k : List ℕ) (d p : Data) (n : ℕ) → get k d ≡ Some p → depth d ≤ n → suc (depth p) ≤ n
part_depth k d p n is small = let below = get_depth k d p is in omega (arith, below, small)
