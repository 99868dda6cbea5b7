-- A text can spell each plain schema.
use Rattle.std.proofs.Common.{◌≡◌, ℕ, ◌+◌, ◌*◌, ◌≤◌, Bool, true, false, ◌||◌, cond, List, [], ◌∷◌, ◌++◌, Option, None, Some, refl, ap, sym, ◌∙◌, inr, arith}
use Rattle.std.specs.List.{list_any}
use Rattle.std.specs.Str.{bytes_eq}
use Rattle.std.proofs.lemmas.Slice.Eq.{bytes_eq-Decides}
use Rattle.std.proofs.lemmas.List.Folds.{list_any-append}
use Rattle.std.proofs.lemmas.Bool.{false_from_ne_true, or_from, or_left, or_parts, or_right}
use Rattle.serde_json.specs.Data.{depth}
use Rattle.avro_schema.specs.Tree.{SchemaTree, schema_tree, ShapeTree, BranchTrees, no_branches, branch, FieldTrees, no_fields, field}
use Rattle.avro_schema.specs.Names.{is_name, Definition, definition_of, with_definition, are_distinct}
use Rattle.avro_schema.specs.Sizes.{level_count}
use Rattle.avro_schema.specs.Grammar.{Place, top, is_a_fault, inside}
use Rattle.avro_schema.specs.Writing.{json_of}
use Rattle.avro_schema.specs.Spelled.{IsFree, Stands, ShapeStands, BranchesStand, FieldsStand, IsSpelled}
use Rattle.avro_schema.specs.Plain.{names_in, shape_names, branch_names, names_in_fields, IsSound, ShapeIsSound, BranchesAreSound, FieldsAreSound, IsPlain}
use Rattle.avro_schema.proofs.Respelled.{names_of, put_names}
use Rattle.avro_schema.proofs.Depths.{deep}
use Rattle.lake_basics.proofs.Truth.{false_and_true, true_not_false}
use Rattle.lake_basics.proofs.Texts.{bytes_itself}

abbrev among : List ℕ → List (List ℕ) → Bool
among x xs = list_any (bytes_eq x) xs

abbrev listed : List ℕ → List Definition → Bool
listed x ds = among x (names_of ds)

-- ---- names

-- What isn't listed has no definition.
unlisted_by : (b : Bool) (x : SchemaTree) (r : Bool) (o : Option SchemaTree) → (b || r) ≡ false → (r ≡ false → o ≡ None) → cond b (Some x) o ≡ None
unlisted_by true x r o e later = absurd cc
unlisted_by false x r o e later = later e

unlisted : (name : List ℕ) (ds : List Definition) → listed name ds ≡ false → definition_of name ds ≡ None
unlisted name [] e = refl
unlisted name (d ∷ ds) e = unlisted_by (bytes_eq name d.0) d.1 (listed name ds) (definition_of name ds) e (unlisted name ds)

put_key_by : (x name : List ℕ) (ns : List (List ℕ)) (b : Bool) → bytes_eq x name ≡ false → among x ns ≡ false → among x (cond b ns (ns ++ name ∷ [])) ≡ false
put_key_by x name ns true other e = e
put_key_by x name ns false other e = list_any-append (bytes_eq x) ns (name ∷ []) ∙ rw (e, other) refl

still_unlisted : (x name : List ℕ) (t : SchemaTree) (ds : List Definition) → bytes_eq x name ≡ false → listed x ds ≡ false → listed x (with_definition name t ds) ≡ false
still_unlisted x name t ds other e = ap (among x) (put_names name t ds) ∙ put_key_by x name (names_of ds) (list_any (bytes_eq name) (names_of ds)) other e

apart_by : (b : Bool) (x y : List ℕ) (xs ys : List (List ℕ)) → bytes_eq x y ≡ b → (b || among x xs) ≡ true → among y ys ≡ false → (among x xs ≡ true → among x ys ≡ false) → among x ys ≡ false
apart_by true x y xs ys is h none later = ap (λ (z : List ℕ). among z ys) ((bytes_eq-Decides x y).0 is) ∙ none
apart_by false x y xs ys is h none later = later h

-- Distinct names in two lists are distinct in each, and none is in both.
distinct_parts : (xs ys : List (List ℕ)) → are_distinct (xs ++ ys) ≡ true → (are_distinct xs ≡ true) × (are_distinct ys ≡ true) × ((x : List ℕ) → among x xs ≡ true → among x ys ≡ false)
distinct_parts [] ys e = (refl, e, λ x h. absurd (true_not_false false h refl))
distinct_parts (y ∷ xs) ys e =
    let both = false_and_true (among y (xs ++ ys)) (are_distinct (xs ++ ys)) e in
    let here = or_parts (among y xs) (among y ys) (sym (list_any-append (bytes_eq y) xs ys) ∙ both.0) in
    let rest = distinct_parts xs ys both.1 in
    (rw (here.0, rest.0) refl, rest.1, λ x h. apart_by (bytes_eq x y) x y xs ys refl h here.1 (rest.2 x))

other_than : (x name : List ℕ) (ns : List (List ℕ)) → among name ns ≡ false → among x ns ≡ true → bytes_eq x name ≡ false
other_than x name ns none here = false_from_ne_true (bytes_eq x name) (λ e. true_not_false (among name ns) (ap (λ (z : List ℕ). among z ns) (sym ((bytes_eq-Decides x name).0 e)) ∙ here) none)

split_false : (x : List ℕ) (xs ys : List (List ℕ)) → among x (xs ++ ys) ≡ false → (among x xs ≡ false) × (among x ys ≡ false)
split_false x xs ys e = or_parts (among x xs) (among x ys) (sym (list_any-append (bytes_eq x) xs ys) ∙ e)

in_first : (x : List ℕ) (xs ys : List (List ℕ)) → among x xs ≡ true → among x (xs ++ ys) ≡ true
in_first x xs ys h = list_any-append (bytes_eq x) xs ys ∙ or_left (among x xs) (among x ys) h

in_second : (x : List ℕ) (xs ys : List (List ℕ)) → among x ys ≡ true → among x (xs ++ ys) ≡ true
in_second x xs ys h = list_any-append (bytes_eq x) xs ys ∙ or_right (among x xs) (among x ys) h

-- ---- what is defined behind a type

abbrev mutual
  after_type : SchemaTree → List Definition → List Definition
  after_type (schema_tree shape l p s) before = after_shape shape l p s before

  after_shape : ShapeTree → Option (List ℕ) → Option ℕ → Option ℕ → List Definition → List Definition
  after_shape (ShapeTree.fixed_of name size) l p s before = with_definition name (schema_tree (ShapeTree.fixed_of name size) l p s) before
  after_shape (ShapeTree.enum_of name symbols) l p s before = with_definition name (schema_tree (ShapeTree.enum_of name symbols) l p s) before
  after_shape (ShapeTree.array_of inner id) l p s before = after_type inner before
  after_shape (ShapeTree.map_of inner key value) l p s before = after_type inner before
  after_shape (ShapeTree.union_of ts) l p s before = after_branches ts before
  after_shape (ShapeTree.record_of name fs) l p s before = with_definition name (schema_tree (ShapeTree.record_of name fs) l p s) (after_fields fs before)
  after_shape _ l p s before = before

  after_branches : BranchTrees → List Definition → List Definition
  after_branches no_branches before = before
  after_branches (branch t ts) before = after_branches ts (after_type t before)

  after_fields : FieldTrees → List Definition → List Definition
  after_fields no_fields before = before
  after_fields (field name t id fs) before = after_fields fs (after_type t before)

mutual
  untouched : (x : List ℕ) (t : SchemaTree) (before : List Definition) → among x (names_in t) ≡ false → listed x before ≡ false → listed x (after_type t before) ≡ false
  untouched x (schema_tree shape l p s) before out none = untouched_shape x shape l p s before out none

  untouched_shape : (x : List ℕ) (shape : ShapeTree) (l : Option (List ℕ)) (p s : Option ℕ) (before : List Definition) → among x (shape_names shape) ≡ false → listed x before ≡ false → listed x (after_shape shape l p s before) ≡ false
  untouched_shape x ShapeTree.null l p s before out none = none
  untouched_shape x ShapeTree.boolean l p s before out none = none
  untouched_shape x ShapeTree.int l p s before out none = none
  untouched_shape x ShapeTree.long l p s before out none = none
  untouched_shape x ShapeTree.float l p s before out none = none
  untouched_shape x ShapeTree.double l p s before out none = none
  untouched_shape x ShapeTree.bytes l p s before out none = none
  untouched_shape x ShapeTree.text l p s before out none = none
  untouched_shape x (ShapeTree.fixed_of name size) l p s before out none = still_unlisted x name (schema_tree (ShapeTree.fixed_of name size) l p s) before (or_parts (bytes_eq x name) false out).0 none
  untouched_shape x (ShapeTree.enum_of name symbols) l p s before out none = still_unlisted x name (schema_tree (ShapeTree.enum_of name symbols) l p s) before (or_parts (bytes_eq x name) false out).0 none
  untouched_shape x (ShapeTree.array_of inner id) l p s before out none = untouched x inner before out none
  untouched_shape x (ShapeTree.map_of inner key value) l p s before out none = untouched x inner before out none
  untouched_shape x (ShapeTree.union_of ts) l p s before out none = untouched_branches x ts before out none
  untouched_shape x (ShapeTree.record_of name fs) l p s before out none =
      let both = or_parts (bytes_eq x name) (among x (names_in_fields fs)) out in
      still_unlisted x name (schema_tree (ShapeTree.record_of name fs) l p s) (after_fields fs before) both.0 (untouched_fields x fs before both.1 none)

  untouched_branches : (x : List ℕ) (ts : BranchTrees) (before : List Definition) → among x (branch_names ts) ≡ false → listed x before ≡ false → listed x (after_branches ts before) ≡ false
  untouched_branches x no_branches before out none = none
  untouched_branches x (branch t ts) before out none =
      let both = split_false x (names_in t) (branch_names ts) out in
      untouched_branches x ts (after_type t before) both.1 (untouched x t before both.0 none)

  untouched_fields : (x : List ℕ) (fs : FieldTrees) (before : List Definition) → among x (names_in_fields fs) ≡ false → listed x before ≡ false → listed x (after_fields fs before) ≡ false
  untouched_fields x no_fields before out none = none
  untouched_fields x (field name t id fs) before out none =
      let both = split_false x (names_in t) (names_in_fields fs) out in
      untouched_fields x fs (after_type t before) both.1 (untouched x t before both.0 none)

-- ---- all of them

abbrev AreOutside : Place → List (List ℕ) → Type 0
AreOutside at ns = (x : List ℕ) → among x ns ≡ true → list_any (bytes_eq x) at.open_names ≡ false

abbrev AreUnlisted : List Definition → List (List ℕ) → Type 0
AreUnlisted before ns = (x : List ℕ) → among x ns ≡ true → listed x before ≡ false

free : (at : Place) (before : List Definition) (name : List ℕ) (ns : List (List ℕ)) → is_name name ≡ true → AreOutside at (name ∷ ns) → AreUnlisted before (name ∷ ns) → IsFree at before name
free at before name ns proper out none =
    let here : among name (name ∷ ns) ≡ true = or_left (bytes_eq name name) (among name ns) (bytes_itself name) in
    (proper, out name here, unlisted name before (none name here))

-- The names of the next part are not those of the part before.
next_unlisted : (t : SchemaTree) (before : List Definition) (ns : List (List ℕ)) → ((x : List ℕ) → among x (names_in t) ≡ true → among x ns ≡ false) → AreUnlisted before (names_in t ++ ns) → AreUnlisted (after_type t before) ns
next_unlisted t before ns apart none x h =
    let out : among x (names_in t) ≡ false = false_from_ne_true (among x (names_in t)) (λ e. true_not_false (among x ns) h (apart x e)) in
    untouched x t before out (none x (in_second x (names_in t) ns h))

within_outside : (at : Place) (name : List ℕ) (ns : List (List ℕ)) → among name ns ≡ false → AreOutside at (name ∷ ns) → AreOutside (inside at name) ns
within_outside at name ns alone out x h =
    list_any-append (bytes_eq x) at.open_names (name ∷ []) ∙ or_from (list_any (bytes_eq x) at.open_names) (bytes_eq x name || false) (out x (or_right (bytes_eq x name) (among x ns) h)) (or_from (bytes_eq x name) false (other_than x name ns alone h) refl)

mutual
  stand : (at : Place) (before : List Definition) (t : SchemaTree) → IsSound t → are_distinct (names_in t) ≡ true → AreOutside at (names_in t) → AreUnlisted before (names_in t) → Stands at before t (after_type t before)
  stand at before (schema_tree shape l p s) h d out none = (h.0, h.1, shape_stand at before shape l p s h.2 d out none)

  shape_stand : (at : Place) (before : List Definition) (shape : ShapeTree) (l : Option (List ℕ)) (p s : Option ℕ) → ShapeIsSound shape l p s → are_distinct (shape_names shape) ≡ true → AreOutside at (shape_names shape) → AreUnlisted before (shape_names shape) → ShapeStands at before shape l p s (after_shape shape l p s before)
  shape_stand at before ShapeTree.null l p s h d out none = refl
  shape_stand at before ShapeTree.boolean l p s h d out none = refl
  shape_stand at before ShapeTree.int l p s h d out none = refl
  shape_stand at before ShapeTree.long l p s h d out none = refl
  shape_stand at before ShapeTree.float l p s h d out none = refl
  shape_stand at before ShapeTree.double l p s h d out none = refl
  shape_stand at before ShapeTree.bytes l p s h d out none = refl
  shape_stand at before ShapeTree.text l p s h d out none = refl
  shape_stand at before (ShapeTree.fixed_of name size) l p s h d out none = inr (free at before name [] h.0 out none, h.1, refl)
  shape_stand at before (ShapeTree.enum_of name symbols) l p s h d out none = inr (free at before name [] h.0 out none, h.1, refl)
  shape_stand at before (ShapeTree.array_of inner id) l p s h d out none = (h.0, stand at before inner h.1 d out none)
  shape_stand at before (ShapeTree.map_of inner key value) l p s h d out none = (h.0, h.1, stand at before inner h.2 d out none)
  shape_stand at before (ShapeTree.union_of ts) l p s h d out none = (h.0, h.1, h.2, branches_stand at before ts h.3 d out none)
  shape_stand at before (ShapeTree.record_of name fs) l p s h d out none =
      let ns = names_in_fields fs in
      let both = false_and_true (among name ns) (are_distinct ns) d in
      inr (free at before name ns h.0 out none, h.1, (after_fields fs before, fields_stand (inside at name) before fs h.2 both.1 (within_outside at name ns both.0 out) (λ x k. none x (or_right (bytes_eq x name) (among x ns) k)), refl))

  branches_stand : (at : Place) (before : List Definition) (ts : BranchTrees) → BranchesAreSound ts → are_distinct (branch_names ts) ≡ true → AreOutside at (branch_names ts) → AreUnlisted before (branch_names ts) → BranchesStand at before ts (after_branches ts before)
  branches_stand at before no_branches h d out none = refl
  branches_stand at before (branch t ts) h d out none =
      let ns = branch_names ts in
      let each = distinct_parts (names_in t) ns d in
      (h.0, (after_type t before, stand at before t h.1 each.0 (λ x k. out x (in_first x (names_in t) ns k)) (λ x k. none x (in_first x (names_in t) ns k)), branches_stand at (after_type t before) ts h.2 each.1 (λ x k. out x (in_second x (names_in t) ns k)) (next_unlisted t before ns each.2 none)))

  fields_stand : (at : Place) (before : List Definition) (fs : FieldTrees) → FieldsAreSound fs → are_distinct (names_in_fields fs) ≡ true → AreOutside at (names_in_fields fs) → AreUnlisted before (names_in_fields fs) → FieldsStand at before fs (after_fields fs before)
  fields_stand at before no_fields h d out none = refl
  fields_stand at before (field name t id fs) h d out none =
      let ns = names_in_fields fs in
      let each = distinct_parts (names_in t) ns d in
      (h.0, (after_type t before, stand at before t h.1 each.0 (λ x k. out x (in_first x (names_in t) ns k)) (λ x k. none x (in_first x (names_in t) ns k)), fields_stand at (after_type t before) fs h.2 each.1 (λ x k. out x (in_second x (names_in t) ns k)) (next_unlisted t before ns each.2 none)))

-- A text can spell each plain schema.
pub plain_is_spelled : (t : SchemaTree) → IsPlain t → IsSpelled t
plain_is_spelled t h =
    let levels : level_count t ≤ 32 = h.levels in
    let nested : depth (json_of t) + 1 ≤ 4 * level_count t = (deep t [] [] h.sound).0 in
    record {
      behind = after_type t [];
      stands = stand (top is_a_fault) [] t h.sound h.distinct (λ x k. refl) (λ x k. refl);
      levels = omega (arith, levels);
      types = h.types;
      shallow = omega (arith, nested, levels);
    }
