-- The rows of owners, without their slots.
use Rattle.std.proofs.Common.{◌≡◌, ℕ, Contains, List, [], Option, Some, None, IsSome, map, refl, sym, ap, subst}
use Rattle.std.specs.Prelude.{unwrap_or}
use Rattle.table_history.proofs.RowListLemmas.{Contains-none}
use Rattle.file_links.specs.Rows.{Entry, Holds, HoldsPath, OwnedRows, Owns, rows_of}
use Rattle.file_links.specs.declared.slots.Held.{Held}
use Rattle.iceberg_version.specs.KeptEnd.{held_rows}
use Rattle.iceberg_version.proofs.Shared.{in_map, of_map}

-- what an owner has is as it was
pub same_held : (v w : OwnedRows) (owner : ℕ) → rows_of w owner ≡ rows_of v owner → held_rows w owner ≡ held_rows v owner
same_held v w owner same = ap (λ (o : Option (List Entry)). map (λ (e : Entry). e.held) (unwrap_or o [])) same

pub none_held : (v : OwnedRows) (owner : ℕ) → rows_of v owner ≡ None → held_rows v owner ≡ []
none_held v owner none = ap (λ (o : Option (List Entry)). map (λ (e : Entry). e.held) (unwrap_or o [])) none

pub some_held : (v : OwnedRows) (owner : ℕ) (rows : List Entry) → rows_of v owner ≡ Some rows → held_rows v owner ≡ map (λ (e : Entry). e.held) rows
some_held v owner rows is = ap (λ (o : Option (List Entry)). map (λ (e : Entry). e.held) (unwrap_or o [])) is

owned_by : (v : OwnedRows) (owner : ℕ) (held : Held) (o : Option (List Entry)) → rows_of v owner ≡ o → Contains (map (λ (e : Entry). e.held) (unwrap_or o [])) held → (e : Entry) × Owns v owner e × (e.held ≡ held)
owned_by v owner held None is c = absurd (Contains-none held c)
owned_by v owner held (Some rows) is c = let r = of_map (λ (e : Entry). e.held) rows held c in (r.0, (rows, is, r.1), r.2)

-- between a row of an owner and an entry of it
pub owned_from : (v : OwnedRows) (owner : ℕ) (held : Held) → Contains (held_rows v owner) held → (e : Entry) × Owns v owner e × (e.held ≡ held)
owned_from v owner held c = owned_by v owner held (rows_of v owner) refl c

pub held_from : (v : OwnedRows) (owner : ℕ) (e : Entry) → Owns v owner e → Contains (held_rows v owner) e.held
held_from v owner e owned = subst (λ (hs : List Held). Contains hs e.held) (sym (some_held v owner owned.0 owned.1)) (in_map (λ (x : Entry). x.held) owned.0 e owned.2)

-- between a row of an owner and a slot
pub holds_from : (v : OwnedRows) (owner : ℕ) (held : Held) → Contains (held_rows v owner) held → (slot : ℕ) × Holds v slot held
holds_from v owner held c =
    let r = owned_from v owner held c in
    (r.0.slot, (owner, subst (λ (h : Held). Owns v owner (record { slot = r.0.slot; held = h })) r.2 r.1))

pub path_there : (v : OwnedRows) (owner : ℕ) (held : Held) (path : List ℕ) → Contains (held_rows v owner) held → held.row.path ≡ path → HoldsPath v path
path_there v owner held path c is = let r = holds_from v owner held c in (r.0, held, r.1, is)

pub path_from : (v : OwnedRows) (path : List ℕ) → HoldsPath v path → (owner : ℕ) × (held : Held) × Contains (held_rows v owner) held × (held.row.path ≡ path)
path_from v path h = (h.2.0, h.1, held_from v h.2.0 (record { slot = h.0; held = h.1 }) h.2.1, h.3)

-- an owner that has a row is there
some_by : (o : Option (List Entry)) (held : Held) → Contains (map (λ (e : Entry). e.held) (unwrap_or o [])) held → IsSome o
some_by None held c = absurd (Contains-none held c)
some_by (Some rows) held c = refl

pub has_owner : (v : OwnedRows) (owner : ℕ) (held : Held) → Contains (held_rows v owner) held → IsSome (rows_of v owner)
has_owner v owner held c = some_by (rows_of v owner) held c
