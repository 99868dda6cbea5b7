-- Looking names up.
use Rattle.std.proofs.Common.{◌≡◌, ℕ, Bool, true, false, cond, List, [], ◌∷◌, Some, refl, ap, option_map}
use Rattle.std.specs.Str.{bytes_eq}
use Rattle.std.specs.Map.{lookup}
use Rattle.avro_schema.specs.declared.schema.Schema.{Schema}
use Rattle.avro_schema.specs.Tree.{tree_of}
use Rattle.indexmap.specs.IndexMap.{insert_entry}
use Rattle.avro_schema.specs.Names.{Definition, definition_of, with_definition}
use Rattle.avro_schema.specs.State.{definitions_of}

by_test : (name : List ℕ) (e : List ℕ × Schema) (es : List (List ℕ × Schema)) (b : Bool) → definition_of name (definitions_of es) ≡ option_map tree_of (lookup (bytes_eq name) es) → cond b (Some (tree_of e.1)) (definition_of name (definitions_of es)) ≡ option_map tree_of (cond b (Some e.1) (lookup (bytes_eq name) es))
by_test name e es true h = refl
by_test name e es false h = h

pub definition_of_lookup : (name : List ℕ) (es : List (List ℕ × Schema)) → definition_of name (definitions_of es) ≡ option_map tree_of (lookup (bytes_eq name) es)
definition_of_lookup name [] = refl
definition_of_lookup name (e ∷ es) = by_test name e es (bytes_eq name e.0) (definition_of_lookup name es)

by_same : (name : List ℕ) (e : List ℕ × Schema) (es : List (List ℕ × Schema)) (v : Schema) (b : Bool) → definitions_of (insert_entry bytes_eq es name v) ≡ with_definition name (tree_of v) (definitions_of es) → definitions_of (cond b ((e.0, v) ∷ es) (e ∷ insert_entry bytes_eq es name v)) ≡ cond b ((e.0, tree_of v) ∷ definitions_of es) ((e.0, tree_of e.1) ∷ with_definition name (tree_of v) (definitions_of es))
by_same name e es v true h = refl
by_same name e es v false h = ap (λ (ds : List Definition). (e.0, tree_of e.1) ∷ ds) h

pub definitions_of_insert_entry : (es : List (List ℕ × Schema)) (name : List ℕ) (v : Schema) → definitions_of (insert_entry bytes_eq es name v) ≡ with_definition name (tree_of v) (definitions_of es)
definitions_of_insert_entry [] name v = refl
definitions_of_insert_entry (e ∷ es) name v = by_same name e es v (bytes_eq name e.0) (definitions_of_insert_entry es name v)
