-- Field ids kept by their column paths.
use Rattle.std.specs.Prelude.{◌≡◌, ℤ, List, Option}
use Rattle.std.specs.Borrow.{Bor}
use Rattle.std.specs.BTreeMap as sorted
use Rattle.std.specs.BTreeMap.{BTreeMap}
use Rattle.std.specs.Cmp.Lexicographic.{slice_cmp}
use Rattle.std.specs.Option.{option_copied}
use Rattle.std.specs.Ordering.{nat_cmp}
use Rattle.schema_map.specs.Paths.{Path, known_id}

-- the id that is kept of a path
abbrev pub id_at : BTreeMap (Bor Path) (Bor ℤ) → Path → Option ℤ
id_at m path = option_copied (sorted.get_by (λ k. slice_cmp (slice_cmp nat_cmp) path k.now) m)

-- The map has the id of each known path, and no others.
abbrev pub HoldsIds : BTreeMap (Bor Path) (Bor ℤ) → List (Path × ℤ) → Type 0
HoldsIds m known = (path : Path) → id_at m path ≡ known_id known path
