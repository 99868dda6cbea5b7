use Rattle.std.proofs.Common.{◌≡◌, ℕ, List, get_or, ap, subst, ◌∙◌}
use Rattle.std.proofs.lemmas.Option.{get_or_from_slice_get}
use Rattle.iceberg_metadata.specs.Schemas.{HeldSchema}
use Rattle.iceberg_version.specs.Writing.{properties_of}
use Rattle.iceberg_version.proofs.metadata.hold_properties.Goals as goal

pub returns-clause-properties : goal.returns-clause-properties
returns-clause-properties c = λ schema at.
    let r = c.index-as_slice-place.result in
    let here : r ≡ get_or c.args.metadata.now.schemas c.args.place r = subst (λ (xs : List HeldSchema). r ≡ get_or xs c.args.place r) c.as_slice.ensures c.index-as_slice-place.is in
    let is : r ≡ schema = here ∙ get_or_from_slice_get c.args.metadata.now.schemas c.args.place schema r at in
    ap (λ (p : List (List ℕ × List ℕ)). record c.args.metadata.now { properties = p }) (c.in_ok-metadata.ensures.properties ∙ ap (properties_of c.args.mark.now) is)
