-- The JSON of a schema has no fractions.
use Rattle.std.proofs.Common.{◌≡◌, ℕ, ℤ, pos, negsuc, Bool, true, false, ◌||◌, cond, length, ◌==◌, List, [], ◌∷◌, map, Option, None, Some, option_map, refl, codes}
use Rattle.std.specs.declared.cmp.Ordering.{Ordering}
use Rattle.std.specs.declared.cmp.Ordering.TheVariants.{Less, Equal, Greater}
use Rattle.std.specs.Ordering.{nat_cmp, match_ordering}
use Rattle.std.specs.Cmp.Lexicographic.{slice_cmp}
use Rattle.std.proofs.lemmas.Bool.{or_from}
use Rattle.serde_json.specs.Data.{Data, string, array, object, Members, no_members, member, put}
use Rattle.serde_json.specs.View.{items_of}
use Rattle.serde_json.specs.Written.{has_float, items_have_float, members_have_float}
use Rattle.avro_schema.specs.Tree.{SchemaTree, schema_tree, ShapeTree, BranchTrees, no_branches, branch, FieldTrees, no_fields, field}
use Rattle.avro_schema.specs.Names.{has_dot, namespace_of}
use Rattle.avro_schema.specs.Writing.{Written, put_some, size_json, id_json, with_annotations, type_members, primitive_json, no_namespace, named_members, is_written, definition_json, array_members, map_members, fixed_members, enum_members, record_members, schema_json, shape_json, branches_json, fields_json}
use Rattle.lake_basics.proofs.Truth.{left_false, right_false}

flat_by : (r : Ordering) (a b c : Members) → members_have_float a ≡ false → members_have_float b ≡ false → members_have_float c ≡ false → members_have_float (match_ordering r a b c) ≡ false
flat_by Less a b c e f g = e
flat_by Equal a b c e f g = f
flat_by Greater a b c e f g = g

flat_put : (k : List ℕ) (d : Data) (ms : Members) → has_float d ≡ false → members_have_float ms ≡ false → members_have_float (put k d ms) ≡ false
flat_put k d no_members hd hms = or_from _ _ hd refl
flat_put k d (member l e ms) hd hms =
    flat_by (slice_cmp nat_cmp k l) _ _ _ (or_from (has_float d) _ hd hms) (or_from (has_float d) _ hd (right_false (has_float e) _ hms)) (or_from (has_float e) _ (left_false (has_float e) _ hms) (flat_put k d ms hd (right_false (has_float e) _ hms)))

flat_id : (z : ℤ) → has_float (id_json z) ≡ false
flat_id (pos n) = refl
flat_id (negsuc n) = refl

flat_put_id : (k : List ℕ) (o : Option ℤ) (ms : Members) → members_have_float ms ≡ false → members_have_float (put_some k (option_map id_json o) ms) ≡ false
flat_put_id k None ms h = h
flat_put_id k (Some z) ms h = flat_put k (id_json z) ms (flat_id z) h

flat_put_size : (k : List ℕ) (o : Option ℕ) (ms : Members) → members_have_float ms ≡ false → members_have_float (put_some k (option_map size_json o) ms) ≡ false
flat_put_size k None ms h = h
flat_put_size k (Some n) ms h = flat_put k (size_json n) ms refl h

flat_put_text : (k : List ℕ) (o : Option (List ℕ)) (ms : Members) → members_have_float ms ≡ false → members_have_float (put_some k (option_map string o) ms) ≡ false
flat_put_text k None ms h = h
flat_put_text k (Some t) ms h = flat_put k (string t) ms refl h

flat_annotations : (l : Option (List ℕ)) (p s : Option ℕ) (ms : Members) → members_have_float ms ≡ false → members_have_float (with_annotations l p s ms) ≡ false
flat_annotations l p s ms h = flat_put_size (codes "scale") s (put_some (codes "precision") (option_map size_json p) (put_some (codes "logicalType") (option_map string l) ms)) (flat_put_size (codes "precision") p (put_some (codes "logicalType") (option_map string l) ms) (flat_put_text (codes "logicalType") l ms h))

flat_type : (word : List ℕ) → members_have_float (type_members word) ≡ false
flat_type word = refl

flat_primitive : (word : List ℕ) (l : Option (List ℕ)) (p s : Option ℕ) → has_float (primitive_json word l p s) ≡ false
flat_primitive word None None None = refl
flat_primitive word None None (Some s) = flat_annotations None None (Some s) (type_members word) (flat_type word)
flat_primitive word None (Some p) None = flat_annotations None (Some p) None (type_members word) (flat_type word)
flat_primitive word None (Some p) (Some s) = flat_annotations None (Some p) (Some s) (type_members word) (flat_type word)
flat_primitive word (Some l) None None = flat_annotations (Some l) None None (type_members word) (flat_type word)
flat_primitive word (Some l) None (Some s) = flat_annotations (Some l) None (Some s) (type_members word) (flat_type word)
flat_primitive word (Some l) (Some p) None = flat_annotations (Some l) (Some p) None (type_members word) (flat_type word)
flat_primitive word (Some l) (Some p) (Some s) = flat_annotations (Some l) (Some p) (Some s) (type_members word) (flat_type word)

flat_space : (b : Bool) (ms : Members) → members_have_float ms ≡ false → members_have_float (put_some (codes "namespace") (cond b None (Some (string []))) ms) ≡ false
flat_space true ms h = h
flat_space false ms h = flat_put (codes "namespace") (string []) ms refl h

flat_named : (word space name : List ℕ) → members_have_float (named_members word space name) ≡ false
flat_named word space name = flat_put (codes "name") (string name) (put_some (codes "namespace") (no_namespace space name) (type_members word)) refl (flat_space (has_dot name || (length space == 0)) (type_members word) (flat_type word))

flat_texts : (ts : List (List ℕ)) → items_have_float (items_of (map string ts)) ≡ false
flat_texts [] = refl
flat_texts (t ∷ ts) = flat_texts ts

definition_by : (name : List ℕ) (names behind : List (List ℕ)) (d : Data) (b : Bool) → has_float d ≡ false → has_float (cond {A = Written Data} b (string name, names) (d, behind)).0 ≡ false
definition_by name names behind d true h = refl
definition_by name names behind d false h = h

flat_definition : (name : List ℕ) (names : List (List ℕ)) (w : Written Data) → has_float w.0 ≡ false → has_float (definition_json name names w).0 ≡ false
flat_definition name names w h = definition_by name names _ w.0 (is_written name names) h

mutual
  pub flat_schema : (t : SchemaTree) (space : List ℕ) (names : List (List ℕ)) → has_float (schema_json t space names).0 ≡ false
  flat_schema (schema_tree shape l p s) space names = flat_shape shape l p s space names

  flat_shape : (shape : ShapeTree) (l : Option (List ℕ)) (p s : Option ℕ) (space : List ℕ) (names : List (List ℕ)) → has_float (shape_json shape l p s space names).0 ≡ false
  flat_shape ShapeTree.null l p s space names = flat_primitive (codes "null") l p s
  flat_shape ShapeTree.boolean l p s space names = flat_primitive (codes "boolean") l p s
  flat_shape ShapeTree.int l p s space names = flat_primitive (codes "int") l p s
  flat_shape ShapeTree.long l p s space names = flat_primitive (codes "long") l p s
  flat_shape ShapeTree.float l p s space names = flat_primitive (codes "float") l p s
  flat_shape ShapeTree.double l p s space names = flat_primitive (codes "double") l p s
  flat_shape ShapeTree.bytes l p s space names = flat_primitive (codes "bytes") l p s
  flat_shape ShapeTree.text l p s space names = flat_primitive (codes "string") l p s
  flat_shape (ShapeTree.fixed_of name size) l p s space names = flat_definition name names (object (with_annotations l p s (fixed_members space name size)), names) (flat_annotations l p s (fixed_members space name size) (flat_put (codes "size") (size_json size) (named_members (codes "fixed") space name) refl (flat_named (codes "fixed") space name)))
  flat_shape (ShapeTree.enum_of name symbols) l p s space names = flat_definition name names (object (with_annotations l p s (enum_members space name symbols)), names) (flat_annotations l p s (enum_members space name symbols) (flat_put (codes "symbols") (array (items_of (map string symbols))) (named_members (codes "enum") space name) (flat_texts symbols) (flat_named (codes "enum") space name)))
  flat_shape (ShapeTree.array_of items id) l p s space names = flat_annotations l p s (array_members (schema_json items space names).0 id) (flat_put_id (codes "element-id") id (put (codes "items") (schema_json items space names).0 (type_members (codes "array"))) (flat_put (codes "items") (schema_json items space names).0 (type_members (codes "array")) (flat_schema items space names) (flat_type (codes "array"))))
  flat_shape (ShapeTree.map_of values key value) l p s space names =
      let d = (schema_json values space names).0 in
      let inner = put (codes "values") d (type_members (codes "map")) in
      flat_annotations l p s (map_members d key value) (flat_put_id (codes "value-id") value (put_some (codes "key-id") (option_map id_json key) inner) (flat_put_id (codes "key-id") key inner (flat_put (codes "values") d (type_members (codes "map")) (flat_schema values space names) (flat_type (codes "map")))))
  flat_shape (ShapeTree.union_of branches) l p s space names = flat_branches branches space names
  flat_shape (ShapeTree.record_of name fields) l p s space names =
      let ds = (fields_json fields (namespace_of name) names).0 in
      flat_definition name names (object (with_annotations l p s (record_members space name ds)), (fields_json fields (namespace_of name) names).1) (flat_annotations l p s (record_members space name ds) (flat_put (codes "fields") (array ds) (named_members (codes "record") space name) (flat_fields fields (namespace_of name) names) (flat_named (codes "record") space name)))

  flat_branches : (ts : BranchTrees) (space : List ℕ) (names : List (List ℕ)) → items_have_float (branches_json ts space names).0 ≡ false
  flat_branches no_branches space names = refl
  flat_branches (branch t ts) space names = or_from _ _ (flat_schema t space names) (flat_branches ts space (schema_json t space names).1)

  flat_fields : (fs : FieldTrees) (space : List ℕ) (names : List (List ℕ)) → items_have_float (fields_json fs space names).0 ≡ false
  flat_fields no_fields space names = refl
  flat_fields (field name t id fs) space names = or_from _ _ (flat_put_id (codes "field-id") id (put (codes "type") (schema_json t space names).0 (put (codes "name") (string name) no_members)) (flat_put (codes "type") (schema_json t space names).0 (put (codes "name") (string name) no_members) (flat_schema t space names) refl)) (flat_fields fs space (schema_json t space names).1)
