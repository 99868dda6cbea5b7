-- Snapshots kept by their ids.
use Rattle.std.specs.Prelude.{◌≡◌, ℤ, List, Bool, false, Option, Some, None, option_map, option_and_then, if◌then◌else◌}
use Rattle.std.specs.Borrow.{Bor}
use Rattle.std.specs.BTreeMap as tree
use Rattle.std.specs.BTreeMap.{BTreeMap}
use Rattle.std.specs.List.{list_any}
use Rattle.std.specs.Ordering.{int_cmp, int_eq}
use Rattle.iceberg_metadata.specs.declared.metadata.Snapshot.{Snapshot}
use Rattle.iceberg_ancestry.specs.Ancestry.{held}

abbrev pub is_at : Option ℤ → ℤ → Bool
is_at None q = false
is_at (Some id) q = int_eq id q

abbrev pub has_id : ℤ → Snapshot → Bool
has_id id s = int_eq s.id id

abbrev pub value_at : BTreeMap ℤ (Bor Snapshot) → ℤ → Option Snapshot
value_at m q = option_map (λ (s : Bor Snapshot). s.now) (tree.get int_cmp m q)

-- the map has each of the snapshots under its id
abbrev pub HoldsAll : BTreeMap ℤ (Bor Snapshot) → List Snapshot → Type 0
HoldsAll m snapshots = (q : ℤ) → value_at m q ≡ held snapshots q

-- what is held of an id that none of these has
abbrev pub held_beside : List Snapshot → List Snapshot → ℤ → Option Snapshot
held_beside found snapshots q = if list_any (has_id q) found then None else held snapshots q

abbrev pub taken_of : BTreeMap ℤ (Bor Snapshot) → Option ℤ → Option Snapshot
taken_of m id = option_and_then (value_at m) id
