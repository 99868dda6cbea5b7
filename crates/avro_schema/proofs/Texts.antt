-- A text is read exactly where it is one of a schema, and a refusal names a fault that it has.
use Rattle.std.proofs.Common.{◌≡◌, ℕ, ◌+◌, ◌-◌, ◌≤◌, List, [], Some, Ok, Err, refl, ap, sym, subst, ◌∙◌, inl, inr, arith}
use Rattle.avro_schema.specs.declared.error.SchemaFault.TheVariants.{BadSchema, Recursive}
use Rattle.serde_json.specs.Data.{Data}
use Rattle.lake_basics.specs.Outcome.{with_fault, Fails}
use Rattle.lake_basics.specs.declared.outcome.ReadError.{ReadError}
use Rattle.lake_basics.specs.declared.outcome.ReadError.TheVariants as errors
use Rattle.avro_schema.specs.declared.error.SchemaFault.{SchemaFault}
use Rattle.json_reading.specs.Json.{json}
use Rattle.avro_schema.specs.Tree.{SchemaTree}
use Rattle.avro_schema.specs.Sizes.{max_levels, max_types, type_count}
use Rattle.avro_schema.specs.Reading.{Reading, start, type_at, tree_at, text_tree, schema_of, error_of, needed}
use Rattle.avro_schema.specs.Grammar.{top, OwnUse, is_a_fault, is_any_type, IsTextOf, IsSchemaText}
use Rattle.avro_schema.specs.Refusals.{IsRecursive, HasOtherFault}
use Rattle.avro_schema.proofs.Sound.{finds, bound, needed_is, ok_is}
use Rattle.avro_schema.proofs.Complete.{Meets, meets, meets_then}
use Rattle.avro_schema.specs.Writing.{json_of}
use Rattle.avro_schema.specs.Spelled.{IsSpelled}
use Rattle.avro_schema.proofs.Respelled.{spelt}
use Rattle.avro_schema.proofs.OwnNames.{uses, passed_needed, passed_last}

tree_found : (bytes : List ℕ) (d : Data) (t : SchemaTree) → json bytes ≡ Some d → tree_at d ≡ Ok t → IsSchemaText bytes t
unfolding tree_at
tree_found bytes d t reads e =
    let a = bound (type_at max_levels [] d start) _ _ e in
    let h = finds max_levels [] d start a.0.0 a.0.1 a.1 in
    let types : a.0.1.budget + type_count a.0.0 ≡ max_types + 0 = h.types in
    let same : a.0.0 ≡ t = ok_is _ _ a.2 in
    let P : SchemaTree → Type 0 = λ x. IsSchemaText bytes x in
    subst P same (record { value = d; behind = a.0.1.definitions; reads = reads; declares = h.declares; levels = h.levels; types = omega (arith, types) })

unfaulted : (r : Reading SchemaTree) (t : SchemaTree) → with_fault error_of r ≡ Ok t → r ≡ Ok t
unfaulted (Ok u) t e = cc
unfaulted (Err f) t e = absurd cc

pub text_found : (bytes : List ℕ) (t : SchemaTree) → schema_of bytes ≡ Ok t → IsSchemaText bytes t
text_found bytes t e =
    let a = bound (needed (json bytes)) tree_at t (unfaulted _ t e) in
    tree_found bytes a.0 t (needed_is _ _ a.1) a.2

text_meets : (own : OwnUse) (bytes : List ℕ) (t : SchemaTree) → IsTextOf own bytes t → Meets own (text_tree bytes) t
unfolding tree_at
text_meets own bytes t h =
    let few : type_count t ≤ max_types = h.types in
    let left : max_types - type_count t + type_count t ≡ max_types = omega (arith, few) in
    let read = meets own max_levels [] h.value start t h.behind (max_types - type_count t) h.declares h.levels left in
    meets_then own (needed (json bytes)) tree_at h.value t (inl (ap needed h.reads)) (meets_then own (type_at max_levels [] h.value start) _ _ t read (inl refl))

strict : (r : Reading SchemaTree) (t : SchemaTree) → Meets is_a_fault r t → with_fault error_of r ≡ Ok t
strict r t (inl e) = ap (with_fault error_of) e
strict r t (inr m) = absurd cc

pub text_read : (bytes : List ℕ) (t : SchemaTree) → IsSchemaText bytes t → schema_of bytes ≡ Ok t
text_read bytes t h = strict (text_tree bytes) t (text_meets is_a_fault bytes t h)

-- A reading fails with the fault that was answered.
pub fails : (e : ReadError SchemaFault) (f g : SchemaFault) (r : Reading SchemaTree) → e ≡ errors.Fault f → f ≡ g → Fails e r → r ≡ Err g
fails errors.Memory f g r is same h = absurd cc
fails (errors.Fault k) f g r is same h = let whole : k ≡ g = cc in h ∙ ap Err whole

bad_only : (r : Reading SchemaTree) (t : SchemaTree) → r ≡ Err BadSchema → Meets is_any_type r t → ⊥
bad_only r t e (inl m) = cc
bad_only r t e (inr m) = let other : ◌≡◌ {A = Reading SchemaTree} (Err BadSchema) (Err Recursive) = sym e ∙ m.1 in cc

pub bad_text : (bytes : List ℕ) → text_tree bytes ≡ Err BadSchema → HasOtherFault bytes
bad_text bytes e t h = bad_only (text_tree bytes) t e (text_meets is_any_type bytes t h)

pub recursive_text : (bytes : List ℕ) → text_tree bytes ≡ Err Recursive → IsRecursive bytes
unfolding tree_at
recursive_text bytes e =
    let a = passed_needed (json bytes) tree_at e in
    (a.0, a.1, uses max_levels [] a.0 start (passed_last (type_at max_levels [] a.0 start) (λ t. t.0) a.2))

-- The text that says the JSON of a schema is one of the schema.
pub spelled_text : (bytes : List ℕ) (t : SchemaTree) → json bytes ≡ Some (json_of t) → IsSpelled t → schema_of bytes ≡ Ok t
spelled_text bytes t e s =
    let declared = spelt (top is_a_fault) [] t s.behind s.stands in
    text_read bytes t (record { value = json_of t; behind = s.behind; reads = e; declares = declared.0; levels = s.levels; types = s.types })
