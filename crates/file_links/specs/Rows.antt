-- Held rows by owner, as the callers of `Links` see them.
use Rattle.std.specs.Prelude.{◌≡◌, ◌≢◌, ◌+◌, ◌≤◌, ℕ, List, [], ◌∷◌, ◌++◌, not, Option, None, Some, nat_eq, length, slice_get, option_map, filter, Contains}
use Rattle.file_links.specs.declared.slots.Held.{Held}

-- a held row with its slot
pub record Entry : Type 0 where
  pub slot : ℕ
  pub held : Held

-- for each number the rows of the owner that has it, in their order, or none where no owner has it; and for how many more owners and rows there is room
pub record OwnedRows : Type 0 where
  pub owners : List (Option (List Entry))
  pub owner_room : ℕ
  pub room : ℕ

abbrev pub joined : Option (Option (List Entry)) → Option (List Entry)
joined None = None
joined (Some o) = o

-- the rows of an owner, if there is such an owner
abbrev pub rows_of : OwnedRows → ℕ → Option (List Entry)
rows_of v owner = joined (slice_get v.owners owner)

-- the owner has the entry
abbrev pub Owns : OwnedRows → ℕ → Entry → Type 0
Owns v owner e = (rows : List Entry) × (rows_of v owner ≡ Some rows) × Contains rows e

-- the slot holds this row
abbrev pub Holds : OwnedRows → ℕ → Held → Type 0
Holds v slot held = (owner : ℕ) × Owns v owner (record { slot = slot; held = held })

-- the slot holds a row
abbrev pub IsHeld : OwnedRows → ℕ → Type 0
IsHeld v slot = (held : Held) × Holds v slot held

-- a row of this path is held
abbrev pub HoldsPath : OwnedRows → List ℕ → Type 0
HoldsPath v path = (slot : ℕ) × (held : Held) × Holds v slot held × (held.row.path ≡ path)

-- the slot at a place of an owner's rows
abbrev pub slot_at : List Entry → ℕ → Option ℕ
slot_at rows place = option_map (λ e. e.slot) (slice_get rows place)

-- the entries without that of a slot
abbrev pub without_slot : ℕ → List Entry → List Entry
without_slot slot rows = filter (λ e. not (nat_eq e.slot slot)) rows

-- the slot holds this row, and no other
pub record HoldsJust (v : OwnedRows) (slot : ℕ) (held : Held) : Type 0 where
  pub row : Holds v slot held
  pub only : (other : Held) → Holds v slot other → other ≡ held

-- the owner has the slot's row, and no other owner has it
abbrev pub IsOwnerOf : OwnedRows → ℕ → ℕ → Type 0
IsOwnerOf v slot owner = (o : ℕ) (held : Held) → Owns v o (record { slot = slot; held = held }) → owner ≡ o

-- what a search for a path finds: the slot of a row that has it, or none where no row has it
abbrev pub Finds : OwnedRows → List ℕ → Option ℕ → Type 0
Finds v path None = ¬ HoldsPath v path
Finds v path (Some slot) = (held : Held) × Holds v slot held × (held.row.path ≡ path)

-- whichever slot holds a row of the path, it is the one that is found
abbrev pub FindsEach : OwnedRows → List ℕ → Option ℕ → Type 0
FindsEach v path found = (slot : ℕ) (held : Held) → Holds v slot held → held.row.path ≡ path → found ≡ Some slot

-- the slot of the first of an owner's rows, if it has any
abbrev pub IsFirstOf : OwnedRows → ℕ → Option ℕ → Type 0
IsFirstOf v owner first = (rows : List Entry) → rows_of v owner ≡ Some rows → first ≡ slot_at rows 0

-- the slot of the row at the next place behind that of a slot, if there is one
abbrev pub IsBehind : OwnedRows → ℕ → Option ℕ → Type 0
IsBehind v slot next = (owner place : ℕ) (rows : List Entry) → rows_of v owner ≡ Some rows → slot_at rows place ≡ Some slot → next ≡ slot_at rows (place + 1)

-- at least so much room, and just as much as before where that was enough; all rows are as they were
pub record Reserves (v v' : OwnedRows) (owners rows : ℕ) : Type 0 where
  pub same : (o : ℕ) → rows_of v' o ≡ rows_of v o
  pub owner_room : owners ≤ v'.owner_room
  pub owner_room_kept : v.owner_room ≤ v'.owner_room
  pub owner_room_enough : owners ≤ v.owner_room → v'.owner_room ≡ v.owner_room
  pub room : rows ≤ v'.room
  pub room_kept : v.room ≤ v'.room
  pub room_enough : rows ≤ v.room → v'.room ≡ v.room

-- a number that was no owner's is that of an owner with no row
pub record AddsOwner (v v' : OwnedRows) (owner : ℕ) : Type 0 where
  pub free : rows_of v owner ≡ None
  pub here : rows_of v' owner ≡ Some []
  pub others : (o : ℕ) → o ≢ owner → rows_of v' o ≡ rows_of v o
  pub owner_room : v'.owner_room + 1 ≡ v.owner_room
  pub room : v'.room ≡ v.room

-- a row comes behind the owner's rows, in a slot that was free
pub record Inserts (v v' : OwnedRows) (owner slot : ℕ) (held : Held) : Type 0 where
  pub free : ¬ IsHeld v slot
  pub here : rows_of v' owner ≡ option_map (λ rows. rows ++ record { slot = slot; held = held } ∷ []) (rows_of v owner)
  pub others : (o : ℕ) → o ≢ owner → rows_of v' o ≡ rows_of v o
  pub owner_room : v'.owner_room ≡ v.owner_room
  pub room : v'.room + 1 ≡ v.room

-- a slot's row is gone from its owner's rows, which are one fewer, and the slot is free
pub record Unlinks (v v' : OwnedRows) (slot : ℕ) : Type 0 where
  pub rows : (o : ℕ) → rows_of v' o ≡ option_map (without_slot slot) (rows_of v o)
  pub fewer : (owner : ℕ) (rows : List Entry) (held : Held) → rows_of v owner ≡ Some rows → Contains rows (record { slot = slot; held = held }) → length (without_slot slot rows) + 1 ≡ length rows
  pub others : (owner o : ℕ) (held : Held) → Owns v owner (record { slot = slot; held = held }) → o ≢ owner → rows_of v' o ≡ rows_of v o
  pub owner_room : v'.owner_room ≡ v.owner_room
  pub room : v'.room ≡ v.room + 1

-- an owner is gone, and so are its rows: its number and their slots are free
pub record DropsOwner (v v' : OwnedRows) (owner : ℕ) : Type 0 where
  pub here : rows_of v' owner ≡ None
  pub others : (o : ℕ) → o ≢ owner → rows_of v' o ≡ rows_of v o
  pub owner_room : v'.owner_room ≡ v.owner_room + 1
  pub room : (rows : List Entry) → rows_of v owner ≡ Some rows → v'.room ≡ v.room + length rows
