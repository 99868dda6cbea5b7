-- A loop that writes items: what it has written, before what is written of the rest.
use Rattle.std.proofs.Common.{◌≡◌, ℕ, suc, ◌+◌, ◌<◌, ◌≤◌, List, [], ◌∷◌, ◌++◌, length, get_or, drop, map, Option, ℤ, refl, ap, sym, subst, ◌∙◌, add-one, drop-cons}
use Rattle.std.proofs.Math.ListN.{drop_of_length-le}
use Rattle.serde_json.specs.Data.{Data, Items, no_items, item}
use Rattle.serde_json.specs.View.{view, items_view}
use Rattle.serde_json.specs.declared.value.Value.{Value}
use Rattle.avro_schema.specs.declared.schema.Schema.{Schema}
use Rattle.avro_schema.specs.declared.schema.Field.{Field}
use Rattle.avro_schema.specs.Tree.{SchemaTree, BranchTrees, branch, FieldTrees, field, tree_of, field_of, branches_of, fields_of}
use Rattle.avro_schema.specs.Writing.{Written, written_as, schema_json, branches_json, fields_json, field_json}
use Rattle.avro_schema.proofs.FieldTrees.{field_is}

abbrev pub joined : Items → Items → Items
joined no_items es = es
joined (item d ds) es = item d (joined ds es)

abbrev pub with_items : Items → Written Items → Written Items
with_items front w = (joined front w.0, w.1)

joined_item : (front : Items) (d : Data) (es : Items) → joined (joined front (item d no_items)) es ≡ joined front (item d es)
joined_item no_items d es = refl
joined_item (item e front) d es = ap (item e) (joined_item front d es)

joined_none : (front : Items) → joined front no_items ≡ front
joined_none no_items = refl
joined_none (item e front) = ap (item e) (joined_none front)

pushed : (vs : List Value) (v : Value) → items_view (vs ++ v ∷ []) ≡ joined (items_view vs) (item (view v) no_items)
pushed [] v = refl
pushed (w ∷ ws) v = ap (item (view w)) (pushed ws v)

branch_next : (front : Items) (t : SchemaTree) (ts : BranchTrees) (space : List ℕ) (names behind : List (List ℕ)) (d : Data) → ◌≡◌ {A = Written Data} (d, behind) (schema_json t space names) → with_items (joined front (item d no_items)) (branches_json ts space behind) ≡ with_items front (branches_json (branch t ts) space names)
branch_next front t ts space names behind d e =
    let P : Written Data → Type 0 = λ x. with_items (joined front (item d no_items)) (branches_json ts space behind) ≡ with_items front (written_as (λ ds. item x.0 ds) (branches_json ts space x.1)) in
    subst P e (ap (λ (es : Items). (es, (branches_json ts space behind).1)) (joined_item front d (branches_json ts space behind).0))

pub branch_step : (vs after : List Value) (v : Value) (ts : List Schema) (i : ℕ) (t : Schema) (space : List ℕ) (names behind : List (List ℕ)) → after ≡ vs ++ v ∷ [] → i < length ts → t ≡ get_or ts i t → ◌≡◌ {A = Written Data} (view v, behind) (schema_json (tree_of t) space names) → with_items (items_view after) (branches_json (branches_of (map tree_of (drop (i + 1) ts))) space behind) ≡ with_items (items_view vs) (branches_json (branches_of (map tree_of (drop i ts))) space names)
branch_step vs after v ts i t space names behind put within at is =
    let rest : drop i ts ≡ t ∷ drop (i + 1) ts = drop-cons ts i t within ∙ ap (λ (u : Schema). u ∷ drop (suc i) ts) (sym at) ∙ ap (λ n. t ∷ drop n ts) (sym (add-one i)) in
    let front : items_view after ≡ joined (items_view vs) (item (view v) no_items) = ap items_view put ∙ pushed vs v in
    rw (front, rest) (branch_next (items_view vs) (tree_of t) (branches_of (map tree_of (drop (i + 1) ts))) space names behind (view v) is)

pub branches_end : (front : Items) (ts : List Schema) (i : ℕ) (space : List ℕ) (names : List (List ℕ)) (all : Written Items) → length ts ≤ i → with_items front (branches_json (branches_of (map tree_of (drop i ts))) space names) ≡ all → ◌≡◌ {A = Written Items} (front, names) all
branches_end front ts i space names all past is =
    let none : drop i ts ≡ [] = drop_of_length-le ts past in
    let whole : with_items front (branches_json (branches_of (map tree_of (drop i ts))) space names) ≡ (front, names) = rw none (ap (λ (es : Items). (es, names)) (joined_none front)) in
    sym whole ∙ is

field_next : (front : Items) (name : List ℕ) (t : SchemaTree) (id : Option ℤ) (fs : FieldTrees) (space : List ℕ) (names behind : List (List ℕ)) (d : Data) → ◌≡◌ {A = Written Data} (d, behind) (schema_json t space names) → with_items (joined front (item (field_json name d id) no_items)) (fields_json fs space behind) ≡ with_items front (fields_json (field name t id fs) space names)
field_next front name t id fs space names behind d e =
    let P : Written Data → Type 0 = λ x. with_items (joined front (item (field_json name d id) no_items)) (fields_json fs space behind) ≡ with_items front (written_as (λ ds. item (field_json name x.0 id) ds) (fields_json fs space x.1)) in
    subst P e (ap (λ (es : Items). (es, (fields_json fs space behind).1)) (joined_item front (field_json name d id) (fields_json fs space behind).0))

pub field_step : (vs after : List Value) (v inner : Value) (fs : List Field) (i : ℕ) (f : Field) (space : List ℕ) (names behind : List (List ℕ)) → after ≡ vs ++ v ∷ [] → i < length fs → f ≡ get_or fs i f → ◌≡◌ {A = Written Data} (view inner, behind) (schema_json (tree_of f.schema) space names) → view v ≡ field_json f.name (view inner) f.field_id → with_items (items_view after) (fields_json (fields_of (map field_of (drop (i + 1) fs))) space behind) ≡ with_items (items_view vs) (fields_json (fields_of (map field_of (drop i fs))) space names)
field_step vs after v inner fs i f space names behind put within at is whole =
    let rest : drop i fs ≡ f ∷ drop (i + 1) fs = drop-cons fs i f within ∙ ap (λ (u : Field). u ∷ drop (suc i) fs) (sym at) ∙ ap (λ n. f ∷ drop n fs) (sym (add-one i)) in
    let front : items_view after ≡ joined (items_view vs) (item (field_json f.name (view inner) f.field_id) no_items) = ap items_view put ∙ pushed vs v ∙ ap (λ (d : Data). joined (items_view vs) (item d no_items)) whole in
    rw (front, rest, field_is f) (field_next (items_view vs) f.name (tree_of f.schema) f.field_id (fields_of (map field_of (drop (i + 1) fs))) space names behind (view inner) is)

pub fields_end : (front : Items) (fs : List Field) (i : ℕ) (space : List ℕ) (names : List (List ℕ)) (all : Written Items) → length fs ≤ i → with_items front (fields_json (fields_of (map field_of (drop i fs))) space names) ≡ all → ◌≡◌ {A = Written Items} (front, names) all
fields_end front fs i space names all past is =
    let none : drop i fs ≡ [] = drop_of_length-le fs past in
    let whole : with_items front (fields_json (fields_of (map field_of (drop i fs))) space names) ≡ (front, names) = rw none (ap (λ (es : Items). (es, names)) (joined_none front)) in
    sym whole ∙ is

pub past_same : {A : Type 0} (ys xs : List A) (i : ℕ) → ys ≡ xs → length ys ≤ i → length xs ≤ i
past_same ys xs i e past = rw (← e) past
