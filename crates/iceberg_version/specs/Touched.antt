-- The owners of rows that a commit removes.
use Rattle.std.specs.Prelude.{◌≡◌, ◌↔◌, ℕ, List, Contains, nat_eq, true}
use Rattle.file_links.specs.Rows.{Entry, OwnedRows, Owns}
use Rattle.indexmap.specs.IndexSet.{IndexSet, contains_by}

-- The owner has a row of one of these paths.
pub record IsTouched (links : OwnedRows) (removed : List (List ℕ)) (owner : ℕ) : Type 0 where
  pub entry : Entry
  pub owned : Owns links owner entry
  pub lost : Contains removed entry.held.row.path

-- The set has the owners that have such a row, and no others.
abbrev pub AreTouched : {S : Type 0} → OwnedRows → List (List ℕ) → IndexSet ℕ S → Type 0
AreTouched links removed set = (owner : ℕ) → (contains_by (nat_eq owner) set ≡ true) ↔ IsTouched links removed owner
