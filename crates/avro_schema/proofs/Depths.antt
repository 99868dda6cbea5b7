-- How deep the JSON of a schema nests.
use Rattle.std.proofs.Common.{◌≡◌, ℕ, suc, ◌+◌, ◌*◌, ◌≤◌, max, ℤ, Bool, true, false, ◌||◌, cond, length, ◌==◌, List, [], ◌∷◌, map, Option, None, Some, option_map, refl, codes, arith}
use Rattle.std.specs.declared.cmp.Ordering.{Ordering}
use Rattle.std.specs.declared.cmp.Ordering.TheVariants.{Less, Equal, Greater}
use Rattle.std.specs.Ordering.{nat_cmp, match_ordering}
use Rattle.std.specs.Cmp.Lexicographic.{slice_cmp}
use Rattle.serde_json.specs.Data.{Data, string, array, object, Members, no_members, member, put, depth, items_depth, members_depth}
use Rattle.serde_json.specs.View.{items_of}
use Rattle.avro_schema.specs.Tree.{SchemaTree, schema_tree, ShapeTree, BranchTrees, no_branches, branch, FieldTrees, no_fields, field}
use Rattle.avro_schema.specs.Names.{has_dot, namespace_of}
use Rattle.avro_schema.specs.Sizes.{level_count, branch_level_count, field_level_count}
use Rattle.avro_schema.specs.Spelled.{IsNoUnion}
use Rattle.avro_schema.specs.Plain.{IsSound, BranchesAreSound, FieldsAreSound}
use Rattle.avro_schema.specs.Writing.{Written, put_some, size_json, id_json, with_annotations, type_members, primitive_json, no_namespace, named_members, is_written, definition_json, array_members, map_members, fixed_members, enum_members, record_members, schema_json, branches_json, fields_json}

-- ---- members

deep_by : (r : Ordering) (a b c : Members) (n : ℕ) → members_depth a ≤ n → members_depth b ≤ n → members_depth c ≤ n → members_depth (match_ordering r a b c) ≤ n
deep_by Less a b c n e f g = e
deep_by Equal a b c n e f g = f
deep_by Greater a b c n e f g = g

both : (a b n : ℕ) → a ≤ n → b ≤ n → max a b ≤ n
both a b n e f = omega (arith, e, f)

pub deep_put : (k : List ℕ) (d : Data) (ms : Members) (n : ℕ) → depth d ≤ n → members_depth ms ≤ n → members_depth (put k d ms) ≤ n
deep_put k d no_members n hd hms = both (depth d) 0 n hd hms
deep_put k d (member l e ms) n hd hms =
    let first : depth e ≤ n = omega (arith, hms) in
    let others : members_depth ms ≤ n = omega (arith, hms) in
    deep_by (slice_cmp nat_cmp k l) (member k d (member l e ms)) (member l d ms) (member l e (put k d ms)) n (both (depth d) (members_depth (member l e ms)) n hd hms) (both (depth d) (members_depth ms) n hd others) (both (depth e) (members_depth (put k d ms)) n first (deep_put k d ms n hd others))

pub none : (n : ℕ) → 0 ≤ n
none n = omega arith

pub deep_put_id : (k : List ℕ) (o : Option ℤ) (ms : Members) (n : ℕ) → members_depth ms ≤ n → members_depth (put_some k (option_map id_json o) ms) ≤ n
deep_put_id k None ms n h = h
deep_put_id k (Some z) ms n h = deep_put k (id_json z) ms n (none n) h

deep_put_size : (k : List ℕ) (o : Option ℕ) (ms : Members) (n : ℕ) → members_depth ms ≤ n → members_depth (put_some k (option_map size_json o) ms) ≤ n
deep_put_size k None ms n h = h
deep_put_size k (Some z) ms n h = deep_put k (size_json z) ms n (none n) h

deep_put_text : (k : List ℕ) (o : Option (List ℕ)) (ms : Members) (n : ℕ) → members_depth ms ≤ n → members_depth (put_some k (option_map string o) ms) ≤ n
deep_put_text k None ms n h = h
deep_put_text k (Some t) ms n h = deep_put k (string t) ms n (none n) h

deep_notes : (l : Option (List ℕ)) (p s : Option ℕ) (ms : Members) (n : ℕ) → members_depth ms ≤ n → members_depth (with_annotations l p s ms) ≤ n
deep_notes l p s ms n h = deep_put_size (codes "scale") s (put_some (codes "precision") (option_map size_json p) (put_some (codes "logicalType") (option_map string l) ms)) n (deep_put_size (codes "precision") p (put_some (codes "logicalType") (option_map string l) ms) n (deep_put_text (codes "logicalType") l ms n h))

pub deep_type : (word : List ℕ) (n : ℕ) → members_depth (type_members word) ≤ n
deep_type word n = none n

deep_space : (b : Bool) (ms : Members) (n : ℕ) → members_depth ms ≤ n → members_depth (put_some (codes "namespace") (cond b None (Some (string []))) ms) ≤ n
deep_space true ms n h = h
deep_space false ms n h = deep_put (codes "namespace") (string []) ms n (none n) h

pub deep_named : (word space name : List ℕ) (n : ℕ) → members_depth (named_members word space name) ≤ n
deep_named word space name n = deep_put (codes "name") (string name) (put_some (codes "namespace") (no_namespace space name) (type_members word)) n (none n) (deep_space (has_dot name || (length space == 0)) (type_members word) n (deep_type word n))

pub deep_texts : (ts : List (List ℕ)) → items_depth (items_of (map string ts)) ≡ 0
deep_texts [] = refl
deep_texts (t ∷ ts) = let rest = deep_texts ts in omega (arith, rest)

pub deep_object : (l : Option (List ℕ)) (p s : Option ℕ) (ms : Members) (n : ℕ) → members_depth ms ≤ n → depth (object (with_annotations l p s ms)) ≤ n + 1
deep_object l p s ms n h = let inside : members_depth (with_annotations l p s ms) ≤ n = deep_notes l p s ms n h in omega (arith, inside)

pub deep_primitive : (word : List ℕ) (l : Option (List ℕ)) (p s : Option ℕ) → depth (primitive_json word l p s) ≤ 1
deep_primitive word None None None = none 1
deep_primitive word None None (Some s) = deep_object None None (Some s) (type_members word) 0 (deep_type word 0)
deep_primitive word None (Some p) None = deep_object None (Some p) None (type_members word) 0 (deep_type word 0)
deep_primitive word None (Some p) (Some s) = deep_object None (Some p) (Some s) (type_members word) 0 (deep_type word 0)
deep_primitive word (Some l) None None = deep_object (Some l) None None (type_members word) 0 (deep_type word 0)
deep_primitive word (Some l) None (Some s) = deep_object (Some l) None (Some s) (type_members word) 0 (deep_type word 0)
deep_primitive word (Some l) (Some p) None = deep_object (Some l) (Some p) None (type_members word) 0 (deep_type word 0)
deep_primitive word (Some l) (Some p) (Some s) = deep_object (Some l) (Some p) (Some s) (type_members word) 0 (deep_type word 0)

definition_by : (name : List ℕ) (names behind : List (List ℕ)) (d : Data) (b : Bool) (n : ℕ) → depth d ≤ n → depth (cond {A = Written Data} b (string name, names) (d, behind)).0 ≤ n
definition_by name names behind d true n h = none n
definition_by name names behind d false n h = h

pub deep_definition : (name : List ℕ) (names : List (List ℕ)) (w : Written Data) (n : ℕ) → depth w.0 ≤ n → depth (definition_json name names w).0 ≤ n
deep_definition name names w n h = definition_by name names _ w.0 (is_written name names) n h

pub itself : (n : ℕ) → n ≤ n
itself n = omega arith

pub flat_list : (n : ℕ) → n ≡ 0 → suc n ≤ 1
flat_list n e = omega (arith, e)

pub array_deep : (n : ℕ) → suc n ≤ n + 1
array_deep n = omega arith

enum_deep : (d : ℕ) → d ≤ 2 → d + 2 ≤ 4 * 1
enum_deep d h = omega (arith, h)

part_deep : (d whole n : ℕ) → d + 1 ≤ 4 * n → whole ≤ d + 1 → whole + 2 ≤ 4 * (n + 1)
part_deep d whole n h k = omega (arith, h, k)

record_deep : (d whole n : ℕ) → d ≤ 4 * n → whole ≤ d + 1 + 1 → whole + 2 ≤ 4 * (n + 1)
record_deep d whole n h k = omega (arith, h, k)

union_deep : (d n : ℕ) → d + 2 ≤ 4 * max 1 n → suc d + 1 ≤ 4 * max 1 n
union_deep d n h = omega (arith, h)

branch_deep : (d e m n : ℕ) → d + 2 ≤ 4 * m → e + 2 ≤ 4 * max 1 n → max d e + 2 ≤ 4 * max 1 (max m n)
branch_deep d e m n h k = omega (arith, h, k)

field_deep : (d i e m n : ℕ) → i ≤ d → d + 1 ≤ 4 * m → e ≤ 4 * n → max (suc i) e ≤ 4 * max m n
field_deep d i e m n h k r = omega (arith, h, k, r)

leaf_deep : (d : ℕ) → d ≤ 1 → d + 2 ≤ 4 * 1
leaf_deep d h = omega (arith, h)

-- The bounds of a type that is no union, as a branch and as a part.
bounds : (A : Type 0) (d n : ℕ) → d + 2 ≤ n → (d + 1 ≤ n) × (A → d + 2 ≤ n)
bounds A d n h = (omega (arith, h), λ a. h)

-- ---- all of them

mutual
  pub deep : (t : SchemaTree) (space : List ℕ) (names : List (List ℕ)) → IsSound t → (depth (schema_json t space names).0 + 1 ≤ 4 * level_count t) × (IsNoUnion t → depth (schema_json t space names).0 + 2 ≤ 4 * level_count t)
  deep (schema_tree ShapeTree.null l p s) space names h = bounds (IsNoUnion (schema_tree ShapeTree.null l p s)) _ _ (leaf_deep _ (deep_primitive (codes "null") l p s))
  deep (schema_tree ShapeTree.boolean l p s) space names h = bounds (IsNoUnion (schema_tree ShapeTree.boolean l p s)) _ _ (leaf_deep _ (deep_primitive (codes "boolean") l p s))
  deep (schema_tree ShapeTree.int l p s) space names h = bounds (IsNoUnion (schema_tree ShapeTree.int l p s)) _ _ (leaf_deep _ (deep_primitive (codes "int") l p s))
  deep (schema_tree ShapeTree.long l p s) space names h = bounds (IsNoUnion (schema_tree ShapeTree.long l p s)) _ _ (leaf_deep _ (deep_primitive (codes "long") l p s))
  deep (schema_tree ShapeTree.float l p s) space names h = bounds (IsNoUnion (schema_tree ShapeTree.float l p s)) _ _ (leaf_deep _ (deep_primitive (codes "float") l p s))
  deep (schema_tree ShapeTree.double l p s) space names h = bounds (IsNoUnion (schema_tree ShapeTree.double l p s)) _ _ (leaf_deep _ (deep_primitive (codes "double") l p s))
  deep (schema_tree ShapeTree.bytes l p s) space names h = bounds (IsNoUnion (schema_tree ShapeTree.bytes l p s)) _ _ (leaf_deep _ (deep_primitive (codes "bytes") l p s))
  deep (schema_tree ShapeTree.text l p s) space names h = bounds (IsNoUnion (schema_tree ShapeTree.text l p s)) _ _ (leaf_deep _ (deep_primitive (codes "string") l p s))
  deep (schema_tree (ShapeTree.union_of ts) l p s) space names h = (union_deep (items_depth (branches_json ts space names).0) (branch_level_count ts) (deep_branches ts space names h.2.3), λ alone. absurd alone)
  deep (schema_tree (ShapeTree.fixed_of name size) l p s) space names h =
      bounds (IsNoUnion (schema_tree (ShapeTree.fixed_of name size) l p s)) _ _ (leaf_deep _ (deep_definition name names (object (with_annotations l p s (fixed_members space name size)), names) 1 (deep_object l p s (fixed_members space name size) 0 (deep_put (codes "size") (size_json size) (named_members (codes "fixed") space name) 0 (none 0) (deep_named (codes "fixed") space name 0)))))
  deep (schema_tree (ShapeTree.enum_of name symbols) l p s) space names h =
      let list : depth (array (items_of (map string symbols))) ≤ 1 = flat_list _ (deep_texts symbols) in
      bounds (IsNoUnion (schema_tree (ShapeTree.enum_of name symbols) l p s)) _ _ (enum_deep _ (deep_definition name names (object (with_annotations l p s (enum_members space name symbols)), names) 2 (deep_object l p s (enum_members space name symbols) 1 (deep_put (codes "symbols") (array (items_of (map string symbols))) (named_members (codes "enum") space name) 1 list (deep_named (codes "enum") space name 1)))))
  deep (schema_tree (ShapeTree.array_of inner id) l p s) space names h =
      let d = (schema_json inner space names).0 in
      bounds (IsNoUnion (schema_tree (ShapeTree.array_of inner id) l p s)) _ _ (part_deep (depth d) _ (level_count inner) (deep inner space names h.2.1).0 (deep_object l p s (array_members d id) (depth d) (deep_put_id (codes "element-id") id (put (codes "items") d (type_members (codes "array"))) (depth d) (deep_put (codes "items") d (type_members (codes "array")) (depth d) (itself (depth d)) (deep_type (codes "array") (depth d))))))
  deep (schema_tree (ShapeTree.map_of inner key value) l p s) space names h =
      let d = (schema_json inner space names).0 in
      let base = put (codes "values") d (type_members (codes "map")) in
      bounds (IsNoUnion (schema_tree (ShapeTree.map_of inner key value) l p s)) _ _ (part_deep (depth d) _ (level_count inner) (deep inner space names h.2.2).0 (deep_object l p s (map_members d key value) (depth d) (deep_put_id (codes "value-id") value (put_some (codes "key-id") (option_map id_json key) base) (depth d) (deep_put_id (codes "key-id") key base (depth d) (deep_put (codes "values") d (type_members (codes "map")) (depth d) (itself (depth d)) (deep_type (codes "map") (depth d)))))))
  deep (schema_tree (ShapeTree.record_of name fs) l p s) space names h =
      let ds = (fields_json fs (namespace_of name) names).0 in
      let n = items_depth ds + 1 in
      bounds (IsNoUnion (schema_tree (ShapeTree.record_of name fs) l p s)) _ _ (record_deep (items_depth ds) _ (field_level_count fs) (deep_fields fs (namespace_of name) names h.2.2) (deep_definition name names (object (with_annotations l p s (record_members space name ds)), (fields_json fs (namespace_of name) names).1) (n + 1) (deep_object l p s (record_members space name ds) n (deep_put (codes "fields") (array ds) (named_members (codes "record") space name) n (array_deep (items_depth ds)) (deep_named (codes "record") space name n)))))

  deep_branches : (ts : BranchTrees) (space : List ℕ) (names : List (List ℕ)) → BranchesAreSound ts → items_depth (branches_json ts space names).0 + 2 ≤ 4 * max 1 (branch_level_count ts)
  deep_branches no_branches space names h = omega arith
  deep_branches (branch t ts) space names h =
      let behind = (schema_json t space names).1 in
      let one = deep t space names h.1 in
      branch_deep (depth (schema_json t space names).0) (items_depth (branches_json ts space behind).0) (level_count t) (branch_level_count ts) (one.1 h.0) (deep_branches ts space behind h.2)

  deep_fields : (fs : FieldTrees) (space : List ℕ) (names : List (List ℕ)) → FieldsAreSound fs → items_depth (fields_json fs space names).0 ≤ 4 * field_level_count fs
  deep_fields no_fields space names h = omega arith
  deep_fields (field name t id fs) space names h =
      let d = (schema_json t space names).0 in
      let behind = (schema_json t space names).1 in
      let typed = put (codes "type") d (put (codes "name") (string name) no_members) in
      let inside : members_depth (put_some (codes "field-id") (option_map id_json id) typed) ≤ depth d = deep_put_id (codes "field-id") id typed (depth d) (deep_put (codes "type") d (put (codes "name") (string name) no_members) (depth d) (itself (depth d)) (none (depth d))) in
      field_deep (depth d) (members_depth (put_some (codes "field-id") (option_map id_json id) typed)) (items_depth (fields_json fs space behind).0) (level_count t) (field_level_count fs) inside (deep t space names h.1).0 (deep_fields fs space behind h.2)
