-- The slots of the rows that a commit removes.
use Rattle.std.specs.Prelude.{◌≡◌, ℕ, Bool, false, List, slice_get, unwrap_or}
use Rattle.file_links.specs.Rows.{HoldsJust, OwnedRows}
use Rattle.file_links.specs.declared.slots.Held.{Held}
use Rattle.iceberg_version.specs.Manifests.{is_lost}

-- Whether the slot is marked. No slot is that has no place in the list.
abbrev pub is_marked : List Bool → ℕ → Bool
is_marked marks slot = unwrap_or (slice_get marks slot) false

-- The slots of the rows of these paths are marked, and the slots of the other rows aren't.
abbrev pub MarksLost : OwnedRows → List (List ℕ) → List Bool → Type 0
MarksLost links removed marks = (slot : ℕ) (held : Held) → HoldsJust links slot held → is_marked marks slot ≡ is_lost removed held
