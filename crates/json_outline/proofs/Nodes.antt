-- A node level by level, and lists of nodes as they grow.
use Rattle.std.proofs.Common.{◌≡◌, ℕ, List, [], ◌∷◌, ◌++◌, map, Option, Some, None, Bor, Vec, Global, Ordering, Less, Equal, Greater, nat_cmp, Bool, true, false, true≢false, cond, bytes_eq, refl, sym, ap, ◌∙◌, rules}
use Rattle.std.proofs.lemmas.Slice.Eq.{bytes_eq-Decides}
use Rattle.std.specs.BTreeMap.{insert_entry}
use Rattle.std.specs.Cmp.Lexicographic.{slice_cmp}
use Rattle.std.specs.Ordering.{match_ordering}
use Rattle.json.specs.Token.{Token}
use Rattle.json.specs.Json.{parse_map}
use Rattle.serde_json.specs.Data.{array, object, Data, Items, no_items, item, Members, no_members, put}
use Rattle.serde_json.specs.Find.{get_member}
use Rattle.serde_json.proofs.Views.{get_member-put, get_member-put_other}
use Rattle.json_outline.specs.View.{put_all, view, items_view, members_view, sorted_view}
use Rattle.json_outline.specs.declared.node.Node.{Node, Array, Object, the_lemmas}

abbrev pub Member : Type 0
Member = Bor (List ℕ) × Node

pub view-Array : (v : Vec Node Global) → view (Array v) ≡ array (items_view v.items)
view-Array v = search (rules, the_lemmas)

pub view-Object : (v : Vec Member Global) → view (Object v) ≡ object (members_view v.items)
view-Object v = search (rules, the_lemmas)

-- ---- a list that grows at its end

abbrev pub items_before : List Node → Items → Items
items_before [] rest = rest
items_before (v ∷ vs) rest = item (view v) (items_before vs rest)

pub items_before-no_items : (vs : List Node) → items_before vs no_items ≡ items_view vs
items_before-no_items [] = refl
items_before-no_items (v ∷ vs) = ap (item (view v)) (items_before-no_items vs)

items_push : (vs : List Node) (v : Node) (rest : Items) → items_before vs (item (view v) rest) ≡ items_before (vs ++ v ∷ []) rest
items_push [] v rest = refl
items_push (w ∷ vs) v rest = ap (item (view w)) (items_push vs v rest)

pub one_more_item : (vs : List Node) (v : Node) (r : Option (Items × List Token)) → parse_map (items_before vs) (parse_map (item (view v)) r) ≡ parse_map (items_before (vs ++ v ∷ [])) r
one_more_item vs v None = refl
one_more_item vs v (Some p) = ap (λ ds. Some (ds, p.1)) (items_push vs v p.0)

pub none_before : (r : Option (Items × List Token)) → r ≡ parse_map (λ a. a) r
none_before None = refl
none_before (Some p) = refl

-- ---- members that grow at their end

put_all_push : (ms : List (Bor (List ℕ) × Data)) (k : Bor (List ℕ)) (d : Data) (old : Members) → put_all (ms ++ (k, d) ∷ []) old ≡ put k.now d (put_all ms old)
put_all_push [] k d old = refl
put_all_push (m ∷ ms) k d old = put_all_push ms k d (put m.0.now m.1 old)

abbrev shown : List Member → List (Bor (List ℕ) × Data)
shown ms = map {B = Bor (List ℕ) × Data} (λ m. (m.0, view m.1)) ms

shown_push : (ms : List Member) (k : Bor (List ℕ)) (v : Node) → shown (ms ++ (k, v) ∷ []) ≡ shown ms ++ (k, view v) ∷ []
shown_push [] k v = refl
shown_push (m ∷ ms) k v = ap (λ r. (m.0, view m.1) ∷ r) (shown_push ms k v)

pub one_more_member : (ms : List Member) (k : Bor (List ℕ)) (v : Node) → members_view (ms ++ (k, v) ∷ []) ≡ put k.now (view v) (members_view ms)
one_more_member ms k v = ap (λ all. put_all all no_members) (shown_push ms k v) ∙ put_all_push (shown ms) k (view v) no_members

found_by : (name k : List ℕ) (d : Data) (ms : Members) (same : Bool) → bytes_eq k name ≡ same → get_member name (put k d ms) ≡ cond same (Some d) (get_member name ms)
found_by name k d ms true e = let is : k ≡ name = (bytes_eq-Decides k name).0 e in ap (λ l. get_member l (put k d ms)) (sym is) ∙ get_member-put k d ms
found_by name k d ms false e = get_member-put_other name k d ms (λ (h : name ≡ k). true≢false (sym ((bytes_eq-Decides k name).1 (sym h)) ∙ e))

-- what is found with one member more
pub get_member-push : (name : List ℕ) (ms : List Member) (m : Member) → get_member name (members_view (ms ++ m ∷ [])) ≡ cond (bytes_eq m.0.now name) (Some (view m.1)) (get_member name (members_view ms))
get_member-push name ms m = ap (get_member name) (one_more_member ms m.0 m.1) ∙ found_by name m.0.now (view m.1) (members_view ms) (bytes_eq m.0.now name) refl

-- ---- members in the order of their names

abbrev pub Entry : Type 0
Entry = Bor (List ℕ) × Bor Node

sorted_view-match_ordering : (o : Ordering) (a b c : List Entry) → sorted_view (match_ordering o a b c) ≡ match_ordering o (sorted_view a) (sorted_view b) (sorted_view c)
sorted_view-match_ordering Less a b c = refl
sorted_view-match_ordering Equal a b c = refl
sorted_view-match_ordering Greater a b c = refl

pub sorted_view-insert_entry : (es : List Entry) (k : Bor (List ℕ)) (v : Bor Node)
    → sorted_view (insert_entry (λ x y. slice_cmp nat_cmp x.now y.now) es k v) ≡ put k.now (view v.now) (sorted_view es)
sorted_view-insert_entry [] k v = refl
sorted_view-insert_entry (e ∷ es) k v = sorted_view-match_ordering (slice_cmp nat_cmp k.now e.0.now) _ _ _ ∙ rw (sorted_view-insert_entry es k v)
