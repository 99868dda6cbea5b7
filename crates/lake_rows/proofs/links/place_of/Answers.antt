use Rattle.std.proofs.Common.{◌≡◌, ℕ, Some, IsSome, List, Option, subst, sym, refl}
use Rattle.file_links.specs.Rows.{Entry, OwnedRows, Finds, IsOwnerOf, rows_of}
use Rattle.lake_rows.proofs.links.place_of.Goals as goal

owned : (v : OwnedRows) (path : List ℕ) (found : Option ℕ) (slot owner : ℕ) → Finds v path found → found ≡ Some slot → IsOwnerOf v slot owner → IsSome (rows_of v owner)
owned v path found slot owner finds is owns =
    let held : Finds v path (Some slot) = subst (λ f. Finds v path f) is finds in
    let same : owner ≡ held.1.0 = owns held.1.0 held.0 held.1.1 in
    let Q : Option (List Entry) → Type 0 = λ r. IsSome r in
    subst (λ o. IsSome (rows_of v o)) (sym same) (subst Q (sym held.1.1.1) refl)

pub first-requires : goal.first-requires
first-requires c = owned c.args.links.now _ _ _ _ c.find.ensures.found c.in-Some.is c.owner_of-owner.ensures

pub returns-clause-owner : goal.returns-clause-owner
returns-clause-owner c = owned c.args.links.now _ _ _ _ c.find.ensures.found c.in-Some.is c.owner_of-owner.ensures
