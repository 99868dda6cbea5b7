-- What the slots of `Links` mean.
use Rattle.std.specs.Prelude.{◌≡◌, ◌+◌, ◌^◌, ◌<◌, ◌≤◌, ℕ, zero, suc, List, [], ◌∷◌, Option, None, Some, cond, nat_eq, length, slice_get}
use Rattle.file_links.specs.declared.slots.Held.{Held}
use Rattle.file_links.specs.declared.slots.Links.TheInside.{Inside}
use Rattle.file_links.specs.Chains.{chain_count, slot_count, chain_of, slots_in, AreSound}
use Rattle.file_links.specs.Rows.{Entry, OwnedRows}
use Rattle.file_links.specs.Hash.{bucket_of}

abbrev pub FREE : ℕ
FREE = 0

abbrev pub with_entry : ℕ → Option (Option Held) → List Entry → List Entry
with_entry slot None rest = rest
with_entry slot (Some None) rest = rest
with_entry slot (Some (Some held)) rest = record { slot = slot; held = held } ∷ rest

-- the held rows of these slots
abbrev pub entries : List (Option Held) → List ℕ → List Entry
entries held [] = []
entries held (s ∷ slots) = with_entry s (slice_get held s) (entries held slots)

-- the rows of an owner, if it is in use
abbrev pub owner_rows : Inside → ℕ → Option (List Entry)
owner_rows a owner = cond (nat_eq (chain_of a.owners owner) 1) (Some (entries a.held.items (slots_in a.rows (owner + 1)))) None

-- what `f` gives for so many numbers from `start` on
abbrev pub tabulate : (ℕ → Option (List Entry)) → ℕ → ℕ → List (Option (List Entry))
tabulate f start zero = []
tabulate f start (suc n) = f start ∷ tabulate f (suc start) n

abbrev pub view_of : Inside → OwnedRows
view_of a = record { owners = tabulate (owner_rows a) 0 (slot_count a.owners); owner_room = length (slots_in a.owners FREE); room = length (slots_in a.rows FREE) }

-- each held slot is in the chain of an owner in use and in that of its path, and no two have one path
pub record AreLinks (a : Inside) : Type 0 where
  pub rows : AreSound a.rows
  pub buckets : AreSound a.buckets
  pub owners : AreSound a.owners
  pub owner_chains : 0 < slot_count a.owners → 2 ≤ chain_count a.owners
  pub owner_marks : (o : ℕ) → o < slot_count a.owners → chain_of a.owners o ≤ 1
  pub row_chains : (o : ℕ) → o < slot_count a.owners → o + 1 < chain_count a.rows
  pub row_chain : 0 < slot_count a.rows → 0 < chain_count a.rows
  pub row_slots : slot_count a.rows ≡ length a.held.items
  pub bucket_slots : slot_count a.buckets ≡ length a.held.items
  pub bucket_chains : 0 < slot_count a.buckets → slot_count a.buckets < chain_count a.buckets
  pub bucket_fit : chain_count a.buckets ≤ 2 ^ 32
  pub free_row : (s : ℕ) → slice_get a.held.items s ≡ Some None → chain_of a.rows s ≡ FREE
  pub free_bucket : (s : ℕ) → slice_get a.held.items s ≡ Some None → chain_of a.buckets s ≡ FREE
  pub owned : (s : ℕ) (h : Held) → slice_get a.held.items s ≡ Some (Some h) → (owner : ℕ) × (chain_of a.rows s ≡ owner + 1) × (chain_of a.owners owner ≡ 1)
  pub bucket : (s : ℕ) (h : Held) → slice_get a.held.items s ≡ Some (Some h) → chain_of a.buckets s ≡ bucket_of (chain_count a.buckets) h.row.path
  pub distinct : (s t : ℕ) (h k : Held) → slice_get a.held.items s ≡ Some (Some h) → slice_get a.held.items t ≡ Some (Some k) → h.row.path ≡ k.row.path → s ≡ t
