use Rattle.std.proofs.Common.{◌≡◌, ◌∷◌, [], ◌++◌, List, Some, map, ap, arith, w32, FitsSigned, to_z, of_z, ◌∙◌}
use Rattle.std.proofs.lemmas.Int.{ints}
use Rattle.std.proofs.lemmas.List.{map-append}
use Rattle.avro_schema.specs.Tree.{FieldTree, field_of, tree_of}
use Rattle.avro_schema.specs.declared.schema.Field.{Field}
use Rattle.avro_schema.proofs.FieldTrees.{field_is}
use Rattle.iceberg_manifest_writing.proofs.schema.with_field.Goals as goal

one_more : (front new : List Field) (f : Field) (t : FieldTree) → new ≡ front ++ f ∷ [] → field_of f ≡ t → map field_of new ≡ map field_of front ++ t ∷ []
one_more front new f t put same = ap (map field_of) put ∙ map-append field_of front (f ∷ []) ∙ ap (λ (u : FieldTree). map field_of front ++ u ∷ []) same

pub returns : goal.returns
returns c =
    let fits : FitsSigned w32 c.args.id = c.ranges.id in
    let same : to_z w32 (of_z w32 c.args.id) ≡ c.args.id = omega (arith, ints, fits) in
    one_more c.args.fields.items _ _ _ c.in_ok-push.ensures.items (field_is _ ∙ (λ i. (c.in_ok-name.ensures i, tree_of c.args.schema, Some (same i))))
