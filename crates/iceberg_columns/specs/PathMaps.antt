-- Column paths by their field ids, and field ids by their column paths.
use Rattle.std.specs.Prelude.{◌≡◌, ℤ, List, Option, option_map}
use Rattle.std.specs.Borrow.{Bor}
use Rattle.std.specs.BTreeMap as tree
use Rattle.std.specs.BTreeMap.{BTreeMap}
use Rattle.std.specs.Cmp.Lexicographic.{slice_cmp}
use Rattle.std.specs.Ordering.{int_cmp, nat_cmp}
use Rattle.schema_map.specs.Paths.{Path, known_id}
use Rattle.iceberg_metadata.specs.Paths.{PathId, path_of}

abbrev pub path_at : BTreeMap ℤ (Bor Path) → ℤ → Option Path
path_at m id = option_map (λ (p : Bor Path). p.now) (tree.get int_cmp m id)

-- the map has of each id the path that is met first
abbrev pub HoldsPaths : BTreeMap ℤ (Bor Path) → List PathId → Type 0
HoldsPaths m pairs = (id : ℤ) → path_at m id ≡ path_of pairs id

abbrev pub id_at : BTreeMap (Bor Path) ℤ → Path → Option ℤ
id_at m path = tree.get_by (λ (p : Bor Path). slice_cmp (slice_cmp nat_cmp) path p.now) m

-- the map has of each path the id that is met first
abbrev pub HoldsPathIds : BTreeMap (Bor Path) ℤ → List PathId → Type 0
HoldsPathIds m pairs = (path : Path) → id_at m path ≡ known_id pairs path
