use Rattle.std.proofs.Common.{◌≡◌, ℕ, ◌+◌, ◌<◌, List, [], ◌∷◌, ◌++◌, length, get_or, drop, map, refl, ap, sym, subst, ◌∙◌, append_assoc, rules}
use Rattle.std.proofs.lemmas.List.{map-append, drop_more}
use Rattle.avro_schema.specs.declared.schema.Schema.{Schema, out-Schema, the_lemmas}
use Rattle.avro_schema.specs.declared.schema.Field.{Field}
use Rattle.avro_schema.specs.Tree.{schema_tree, tree_of, shape_of, field_of}
use Rattle.avro_schema.proofs.FieldTrees.{field_is}
use Rattle.avro_schema.proofs.copy.+copy.Goals as goal

schema_is : (s : Schema) → tree_of s ≡ schema_tree (shape_of (out-Schema s).shape) (out-Schema s).logical (out-Schema s).precision (out-Schema s).scale
schema_is s = search (rules, the_lemmas)

same_schema : (s u : Schema) → shape_of (out-Schema s).shape ≡ shape_of (out-Schema u).shape → (out-Schema s).logical ≡ (out-Schema u).logical → (out-Schema s).precision ≡ (out-Schema u).precision → (out-Schema s).scale ≡ (out-Schema u).scale → tree_of s ≡ tree_of u
same_schema s u shape logical precision scale = schema_is s ∙ (λ i. schema_tree (shape i) (logical i) (precision i) (scale i)) ∙ sym (schema_is u)

pub schema-returns : goal.schema-returns
schema-returns t c = same_schema _ c.args.found.now c.in_ok-shape.ensures c.in_ok-text_if_any.ensures refl refl

-- one more copy, before what is still to be copied
one_more : {A B : Type 0} (f : A → B) (copies new found items : List A) (i : ℕ) (x y : A) → items ≡ found → i < length items → y ≡ get_or items i y → new ≡ copies ++ x ∷ [] → f x ≡ f y → map f copies ++ map f (drop i found) ≡ map f found → map f new ++ map f (drop (i + 1) found) ≡ map f found
one_more {A} {B} f copies new found items i x y all within at put same so_far =
    let at_found : y ≡ get_or found i y = at ∙ ap (λ (l : List A). get_or l i y) all in
    let in_found : i < length found = subst (λ (l : List A). i < length l) all within in
    let rest : map f (drop i found) ≡ f x ∷ map f (drop (i + 1) found) = ap (map f) (drop_more found i y in_found) ∙ ap (λ (z : A). f z ∷ map f (drop (i + 1) found)) (sym at_found) ∙ ap (λ (z : B). z ∷ map f (drop (i + 1) found)) (sym same) in
    let front : (map f copies ++ f x ∷ []) ++ map f (drop (i + 1) found) ≡ map f copies ++ f x ∷ map f (drop (i + 1) found) = simp append_assoc in
    ap (λ (l : List A). map f l ++ map f (drop (i + 1) found)) put ∙ ap (λ (l : List B). l ++ map f (drop (i + 1) found)) (map-append f copies (x ∷ [])) ∙ front ∙ ap (λ (l : List B). map f copies ++ l) (sym rest) ∙ so_far

pub schemas-loop-one-preserved : goal.schemas-loop-one-preserved
schemas-loop-one-preserved t c =
    one_more tree_of c.loop-one.copies.items c.push.new.self.items c.args.found.now.items c.deref-one-items.result.now c.loop-one.one-index c.in_ok-schema.field-0 c.one-item.result c.deref-one-items.ensures.value c.loop-one-test.true c.one-item.is c.in_ok-push.ensures.items c.in_ok-schema.ensures c.loop-one.invariant

same_field : (f g : Field) → f.name ≡ g.name → tree_of f.schema ≡ tree_of g.schema → f.field_id ≡ g.field_id → field_of f ≡ field_of g
same_field f g name schema id = field_is f ∙ (λ i. (name i, schema i, id i)) ∙ sym (field_is g)

pub field_list-loop-one-preserved : goal.field_list-loop-one-preserved
field_list-loop-one-preserved t c =
    one_more field_of c.loop-one.copies.items c.push.new.self.items c.args.found.now.items c.deref-one-items.result.now c.loop-one.one-index _ c.one-item.result c.deref-one-items.ensures.value c.loop-one-test.true c.one-item.is c.in_ok-push.ensures.items (same_field _ _ c.in_ok-copy.ensures c.in_ok-schema.ensures refl) c.loop-one.invariant
