-- The owners and their rows, step by step.
use Rattle.std.proofs.Common.{◌≡◌, ◌≢◌, ◌+◌, ◌<◌, ◌&&◌, ◌||◌, ℕ, Bool, true, false, cond, Bor, Contains, List, [], ◌∷◌, ◌++◌, Option, Some, None, IsSome, map, take, drop, length, get_or, not, nat_eq, filter, refl, sym, ap, subst, ◌∙◌, ◌⊎◌, inl, inr, ⊎_elim, arith}
use Rattle.std.specs.Prelude.{is_some, option_map}
use Rattle.std.specs.Bool.{Decides}
use Rattle.std.specs.List.{IsDistinct, zip}
use Rattle.std.specs.Str.{bytes_eq}
use Rattle.std.proofs.Math.Bool.{or-false}
use Rattle.std.proofs.lemmas.Bool.{cases_eq, false≢true}
use Rattle.std.proofs.lemmas.Bool.Decides.{Decides-eqb, same_from_decides}
use Rattle.std.proofs.lemmas.List.{append-nil, append_assoc, drop_more, get_or-map, get_or-take, length-map, length-take, map-append, map_more, take-map}
use Rattle.std.proofs.lemmas.List.Elements.{Contains-append_cases, Contains-append_left, Contains-append_right, Contains-push, Contains-push_cases}
use Rattle.std.proofs.lemmas.List.Folds.{list_any-append}
use Rattle.std.proofs.lemmas.Map.Keys.{IsDistinct-cons, IsDistinct-head, IsDistinct-tail, apart_from_distinct}
use Rattle.std.proofs.lemmas.Slice.Eq.{bytes_eq-Decides}
use Rattle.table_history.specs.Row.{Row}
use Rattle.table_history.specs.Rows.{HasDistinctPaths, paths_of}
use Rattle.table_history.proofs.RowListLemmas.{Contains-cases, Contains-head, Contains-none, Contains-paths, Contains-tail, all_at, filter_whole}
use Rattle.file_links.specs.Rows.{AddsOwner, DropsOwner, Entry, Finds, FindsEach, Holds, HoldsJust, HoldsPath, Inserts, IsFirstOf, OwnedRows, Reserves, Unlinks, rows_of, without_slot}
use Rattle.file_links.specs.declared.slots.Held.{Held}
use Rattle.file_links.proofs.SlotLemmas.{the_rows}
use Rattle.iceberg_manifest.specs.declared.info.ManifestInfo.{ManifestInfo}
use Rattle.iceberg_version.specs.Advance.{AddsRows, AppendsRows, AreFresh, EndsEmpty, LosesPaths, owners_of}
use Rattle.iceberg_version.specs.declared.kept.KeptManifest.{KeptManifest}
use Rattle.iceberg_version.specs.KeptEnd.{held_rows}
use Rattle.iceberg_version.specs.Manifests.{born_at, is_lost}
use Rattle.iceberg_version.proofs.CarryingLemmas.{first_none, none_if}
use Rattle.iceberg_version.proofs.LinkLemmas.{none_held, path_from, path_there, same_held, some_held}
use Rattle.iceberg_version.proofs.Shared.{nothing_twice, of_map}
use Rattle.lake_basics.proofs.Truth.{not_by}
use Rattle.lake_basics.proofs.Lists.{all_front}

-- ---- owners without rows

-- the owner at a place isn't one of those before
pub not_before : (owners : List ℕ) (i owner : ℕ) → IsDistinct nat_eq owners → i < length owners → owner ≡ get_or owners i owner → ¬ Contains (take i owners) owner
not_before owners i owner distinct within at there =
    let k = there.0 in
    let below : k < i = omega (arith, there.1, length-take i owners) in
    let first : get_or owners k owner ≡ owner = sym (get_or-take i owners k owner below) ∙ there.2 in
    let apart : nat_eq (get_or owners k owner) (get_or owners i owner) ≡ false = apart_from_distinct nat_eq owners k i owner distinct below within in
    false≢true (sym apart ∙ (Decides-eqb (get_or owners k owner) (get_or owners i owner)).1 (first ∙ at))

kept_at : (ms : List KeptManifest) (i : ℕ) (m : KeptManifest) → i < length ms → m ≡ get_or ms i m → m.owner ≡ get_or (owners_of ms) i m.owner
kept_at ms i m within at = sym (get_or-map (λ (k : KeptManifest). k.owner) ms i m m.owner within ∙ ap (λ (k : KeptManifest). k.owner) (sym at))

pub kept_new : (ms : List KeptManifest) (i : ℕ) (m : KeptManifest) → IsDistinct nat_eq (owners_of ms) → i < length ms → m ≡ get_or ms i m → ¬ Contains (owners_of (take i ms)) m.owner
kept_new ms i m distinct within at =
    subst (λ (os : List ℕ). ¬ Contains os m.owner) (take-map (λ (k : KeptManifest). k.owner) i ms)
    (not_before (owners_of ms) i m.owner distinct (subst (λ (n : ℕ). i < n) (sym (length-map ms (λ (k : KeptManifest). k.owner))) within) (kept_at ms i m within at))

pub kept_more : (ms : List KeptManifest) (i : ℕ) (m : KeptManifest) → i < length ms → m ≡ get_or ms i m → owners_of (take (i + 1) ms) ≡ owners_of (take i ms) ++ m.owner ∷ []
kept_more ms i m within at = map_more (λ (k : KeptManifest). k.owner) ms i m within ∙ ap (λ (k : KeptManifest). owners_of (take i ms) ++ k.owner ∷ []) (sym at)

pub still_there : (owners : List ℕ) (owner : ℕ) (v w : OwnedRows) → ¬ Contains owners owner → IsSome (rows_of v owner) → EndsEmpty owners v w → IsSome (rows_of w owner)
still_there owners owner v w new there ends = subst (λ (o : Option (List Entry)). IsSome o) (sym (ends.others owner new)) there

pub is_empty : (v : OwnedRows) (owner : ℕ) (first : Option ℕ) → IsSome (rows_of v owner) → IsFirstOf v owner first → is_some first ≡ false → rows_of v owner ≡ Some []
is_empty v owner first there is none =
    let r = the_rows (rows_of v owner) there in
    r.1 ∙ ap Some (first_none r.0 (sym (none_if first none) ∙ is r.0 r.1))

pub is_filled : (v : OwnedRows) (owner : ℕ) (first : Option ℕ) → IsFirstOf v owner first → is_some first ≡ true → rows_of v owner ≢ Some []
is_filled v owner first is some empty = false≢true (sym (ap is_some (is [] empty)) ∙ some)

pub ends_none : (v : OwnedRows) → EndsEmpty [] v v
ends_none v = record { each = λ o. inl refl; others = λ o gone. refl; empty = λ o there none. absurd (Contains-none o there) }

pub ends_not : (owners more : List ℕ) (owner : ℕ) (v w : OwnedRows) → more ≡ owners ++ owner ∷ [] → ¬ Contains owners owner → rows_of w owner ≢ Some [] → EndsEmpty owners v w → EndsEmpty more v w
ends_not owners more owner v w is new some before = record {
  others = λ o gone. before.others o (λ there. gone (subst (λ (os : List ℕ). Contains os o) (sym is) (Contains-append_left owners (owner ∷ []) o there)));
  each = before.each;
  empty = λ o there none.
      ⊎_elim
      (λ earlier. before.empty o earlier none)
      (λ same.
      let here : rows_of v owner ≡ Some [] = ap (rows_of v) same ∙ none in
      absurd (some (before.others owner new ∙ here)))
      (Contains-push_cases owners owner o (subst (λ (os : List ℕ). Contains os o) is there));
}

pub ends_one : (owners more : List ℕ) (owner : ℕ) (v w after : OwnedRows) → more ≡ owners ++ owner ∷ [] → ¬ Contains owners owner → rows_of w owner ≡ Some [] → DropsOwner w after owner → EndsEmpty owners v w → EndsEmpty more v after
ends_one owners more owner v w after is new none drops before =
    let was : rows_of v owner ≡ Some [] = sym (before.others owner new) ∙ none in
    record {
      others = λ o gone.
          let apart : o ≢ owner = λ same. gone (subst (λ (os : List ℕ). Contains os o) (sym is) (subst (λ (n : ℕ). Contains (owners ++ owner ∷ []) n) (sym same) (Contains-push owners owner))) in
          drops.others o apart ∙ before.others o (λ there. gone (subst (λ (os : List ℕ). Contains os o) (sym is) (Contains-append_left owners (owner ∷ []) o there)));
      each = λ o.
          ⊎_elim
          (λ same. inr (ap (rows_of v) same ∙ was, ap (rows_of after) same ∙ drops.here))
          (λ apart. ⊎_elim (λ kept. inl (drops.others o apart ∙ kept)) (λ gone. inr (gone.0, drops.others o apart ∙ gone.1)) (before.each o))
          (cases_eq o owner);
      empty = λ o there empty.
          ⊎_elim
          (λ earlier. let apart : o ≢ owner = λ same. new (subst (λ (n : ℕ). Contains owners n) same earlier) in drops.others o apart ∙ before.empty o earlier empty)
          (λ same. ap (rows_of after) (sym same) ∙ drops.here)
          (Contains-push_cases owners owner o (subst (λ (os : List ℕ). Contains os o) is there));
    }

-- ---- rows that are lost

filter_same : {X : Type 0} (p q : X → Bool) (xs : List X) → ((x : X) → Contains xs x → p x ≡ q x) → filter p xs ≡ filter q xs
filter_same p q [] same = refl
filter_same p q (x ∷ xs) same =
    let rest = filter_same p q xs (λ y c. same y (Contains-tail x xs y c)) in
    λ i. cond (same x (Contains-head x xs) i) (x ∷ rest i) (rest i)

twice_by : {X : Type 0} (q : X → Bool) (x : X) (b : Bool) (some whole : List X) → filter q some ≡ whole → filter q (cond b (x ∷ some) some) ≡ cond (b && q x) (x ∷ whole) whole
twice_by q x true some whole same = ap (λ r. cond (q x) (x ∷ r) r) same
twice_by q x false some whole same = same

filter_twice : {X : Type 0} (p q : X → Bool) (xs : List X) → filter q (filter p xs) ≡ filter (λ x. p x && q x) xs
filter_twice p q [] = refl
filter_twice p q (x ∷ xs) = twice_by q x (p x) (filter p xs) (filter (λ y. p y && q y) xs) (filter_twice p q xs)

neither : (a b : Bool) → (not a && not b) ≡ not (a || b)
neither true b = refl
neither false b = refl

-- the entries that stay where these paths are lost
abbrev remaining : List (List ℕ) → List Entry → List Entry
remaining removed rows = filter (λ e. not (is_lost removed e.held)) rows

remaining_both : (removed : List (List ℕ)) (path : List ℕ) (rows : List Entry) → remaining (path ∷ []) (remaining removed rows) ≡ remaining (removed ++ path ∷ []) rows
remaining_both removed path rows =
    filter_twice (λ (e : Entry). not (is_lost removed e.held)) (λ (e : Entry). not (is_lost (path ∷ []) e.held)) rows
    ∙ filter_same (λ (e : Entry). not (is_lost removed e.held) && not (is_lost (path ∷ []) e.held)) (λ (e : Entry). not (is_lost (removed ++ path ∷ []) e.held)) rows
    (λ e c. neither (is_lost removed e.held) (is_lost (path ∷ []) e.held) ∙ ap not (sym (list_any-append (bytes_eq e.held.row.path) removed (path ∷ []))))

lost_both : (removed : List (List ℕ)) (path : List ℕ) (o : Option (List Entry)) → option_map (remaining (path ∷ [])) (option_map (remaining removed) o) ≡ option_map (remaining (removed ++ path ∷ [])) o
lost_both removed path None = refl
lost_both removed path (Some rows) = ap Some (remaining_both removed path rows)

lost_nothing : (o : Option (List Entry)) → o ≡ option_map (remaining []) o
lost_nothing None = refl
lost_nothing (Some rows) = ap Some (sym (filter_whole (λ (e : Entry). not (is_lost [] e.held)) rows (λ e c. refl)))

pub loses_none : (v : OwnedRows) → LosesPaths [] v v
loses_none v = λ o. lost_nothing (rows_of v o)

pub loses_more : (removed more : List (List ℕ)) (path : List ℕ) (v w after : OwnedRows) → more ≡ removed ++ path ∷ [] → LosesPaths (path ∷ []) w after → LosesPaths removed v w → LosesPaths more v after
loses_more removed more path v w after is one before = λ o.
    one o ∙ ap (option_map (remaining (path ∷ []))) (before o) ∙ lost_both removed path (rows_of v o) ∙ ap (λ (ps : List (List ℕ)). option_map (remaining ps) (rows_of v o)) (sym is)

pub lost_decides : (path : List ℕ) (held : Held) → Decides (is_lost (path ∷ []) held) (held.row.path ≡ path)
lost_decides path held = subst (λ (b : Bool). Decides b (held.row.path ≡ path)) (sym (or-false (bytes_eq held.row.path path))) (bytes_eq-Decides held.row.path path)

holds_entry : (w : OwnedRows) (o : ℕ) (rows : List Entry) (e : Entry) → rows_of w o ≡ Some rows → Contains rows e → Holds w e.slot e.held
holds_entry w o rows e is there = (o, (rows, is, there))

unfound_by : (w : OwnedRows) (path : List ℕ) (o : ℕ) (rows : Option (List Entry)) → ¬ HoldsPath w path → rows_of w o ≡ rows → rows ≡ option_map (remaining (path ∷ [])) rows
unfound_by w path o None lacking is = refl
unfound_by w path o (Some rows) lacking is =
    ap Some (sym (filter_whole (λ (e : Entry). not (is_lost (path ∷ []) e.held)) rows
    (λ e there. not_by (is_lost (path ∷ []) e.held) (λ lost. lacking (e.slot, e.held, holds_entry w o rows e is there, (lost_decides path e.held).0 lost)))))

pub loses_unfound : (w : OwnedRows) (path : List ℕ) → ¬ HoldsPath w path → LosesPaths (path ∷ []) w w
loses_unfound w path lacking = λ o. unfound_by w path o (rows_of w o) lacking refl

-- the slot's row is the one of the path
at_slot : (w : OwnedRows) (path : List ℕ) (slot : ℕ) (held : Held) (o : ℕ) (rows : List Entry) (e : Entry) → Finds w path (Some slot) → FindsEach w path (Some slot) → HoldsJust w slot held → rows_of w o ≡ Some rows → Contains rows e → Decides (nat_eq e.slot slot) (e.held.row.path ≡ path)
at_slot w path slot held o rows e finds each just is there = (
  λ same.
      let slots : e.slot ≡ slot = (Decides-eqb e.slot slot).0 same in
      let mine : e.held ≡ held = just.only e.held (subst (λ (s : ℕ). Holds w s e.held) slots (holds_entry w o rows e is there)) in
      let found : finds.0 ≡ held = just.only finds.0 finds.1 in
      ap (λ (h : Held). h.row.path) (mine ∙ sym found) ∙ finds.2,
  λ at.
      let slots : Some slot ≡ Some e.slot = each e.slot e.held (holds_entry w o rows e is there) at in
      let same : e.slot ≡ slot = cc in
      (Decides-eqb e.slot slot).1 same,
)

found_by : (w : OwnedRows) (path : List ℕ) (slot : ℕ) (held : Held) (o : ℕ) (rows : Option (List Entry)) → Finds w path (Some slot) → FindsEach w path (Some slot) → HoldsJust w slot held → rows_of w o ≡ rows → option_map (without_slot slot) rows ≡ option_map (remaining (path ∷ [])) rows
found_by w path slot held o None finds each just is = refl
found_by w path slot held o (Some rows) finds each just is =
    ap Some (filter_same (λ (e : Entry). not (nat_eq e.slot slot)) (λ (e : Entry). not (is_lost (path ∷ []) e.held)) rows
    (λ e there. ap not (same_from_decides (nat_eq e.slot slot) (is_lost (path ∷ []) e.held) (at_slot w path slot held o rows e finds each just is there) (lost_decides path e.held))))

pub loses_found : (w after : OwnedRows) (path : List ℕ) (slot : ℕ) (held : Held) → Finds w path (Some slot) → FindsEach w path (Some slot) → HoldsJust w slot held → Unlinks w after slot → LosesPaths (path ∷ []) w after
loses_found w after path slot held finds each just unlinks = λ o. unlinks.rows o ∙ found_by w path slot held o (rows_of w o) finds each just refl

-- ---- rows that come

distinct_front : {X : Type 0} (e : X → X → Bool) (xs ys : List X) → IsDistinct e (xs ++ ys) → IsDistinct e xs
distinct_front e [] ys d = nothing_twice e
distinct_front e (x ∷ xs) ys d = IsDistinct-cons e x xs (all_front (λ y. e x y ≡ false) xs ys (IsDistinct-head e x (xs ++ ys) d)) (distinct_front e xs ys (IsDistinct-tail e x (xs ++ ys) d))

distinct_back : {X : Type 0} (e : X → X → Bool) (xs ys : List X) → IsDistinct e (xs ++ ys) → IsDistinct e ys
distinct_back e [] ys d = d
distinct_back e (x ∷ xs) ys d = distinct_back e xs ys (IsDistinct-tail e x (xs ++ ys) d)

paths_both : (xs ys : List Row) → HasDistinctPaths (xs ++ ys) → IsDistinct bytes_eq (paths_of xs ++ paths_of ys)
paths_both xs ys d = subst (IsDistinct bytes_eq) (map-append (λ (r : Row). r.path) xs ys) d

apart_in : {X : Type 0} (e : X → X → Bool) (xs ys : List X) (x y : X) → IsDistinct e (xs ++ ys) → Contains xs x → Contains ys y → e x y ≡ false
apart_in e [] ys x y d cx cy = absurd (Contains-none x cx)
apart_in e (z ∷ zs) ys x y d cx cy =
    ⊎_elim
    (λ same. subst (λ u. e u y ≡ false) same (all_at (λ u. e z u ≡ false) (zs ++ ys) y (IsDistinct-head e z (zs ++ ys) d) (Contains-append_right zs ys y cy)))
    (λ later. apart_in e zs ys x y (IsDistinct-tail e z (zs ++ ys) d) later cy)
    (Contains-cases z zs x cx)

-- two rows of one path can't stand in two parts of such a list
rows_apart : (xs ys : List Row) (x y : Row) → HasDistinctPaths (xs ++ ys) → Contains xs x → Contains ys y → x.path ≡ y.path → ⊥
rows_apart xs ys x y d cx cy same =
    let apart : bytes_eq x.path y.path ≡ false = apart_in bytes_eq (paths_of xs) (paths_of ys) x.path y.path (paths_both xs ys d) (Contains-paths xs x cx) (Contains-paths ys y cy) in
    false≢true (sym apart ∙ (bytes_eq-Decides x.path y.path).1 same)

pub inserts_one : (v w : OwnedRows) (owner slot : ℕ) (held : Held) → IsSome (rows_of v owner) → Inserts v w owner slot held → AppendsRows owner (held ∷ []) v w
inserts_one v w owner slot held there inserts =
    let r = the_rows (rows_of v owner) there in
    let entry : Entry = record { slot = slot; held = held } in
    let is : rows_of w owner ≡ Some (r.0 ++ entry ∷ []) = inserts.here ∙ ap (option_map (λ (rows : List Entry). rows ++ entry ∷ [])) r.1 in
    record {
      there = subst (λ (o : Option (List Entry)). IsSome o) (sym is) refl;
      here = some_held w owner (r.0 ++ entry ∷ []) is ∙ map-append (λ (e : Entry). e.held) r.0 (entry ∷ []) ∙ ap (λ (hs : List Held). hs ++ held ∷ []) (sym (some_held v owner r.0 r.1));
      others = inserts.others;
    }

pub appends_none : (v : OwnedRows) (owner : ℕ) → IsSome (rows_of v owner) → AppendsRows owner [] v v
appends_none v owner there = record { there = there; here = sym (append-nil (held_rows v owner)); others = λ o apart. refl }

pub appends_both : (owner : ℕ) (hs ks all : List Held) (v w after : OwnedRows) → all ≡ hs ++ ks → AppendsRows owner hs v w → AppendsRows owner ks w after → AppendsRows owner all v after
appends_both owner hs ks all v w after is a b = record {
  there = b.there;
  here = b.here ∙ ap (λ (xs : List Held). xs ++ ks) a.here ∙ append_assoc (held_rows v owner) hs ks ∙ ap (λ (xs : List Held). held_rows v owner ++ xs) (sym is);
  others = λ o apart. b.others o apart ∙ a.others o apart;
}

-- a row of the owner was there or has come, and one of another was there
pub held_behind : (owner : ℕ) (hs : List Held) (v w : OwnedRows) (o : ℕ) (held : Held) → AppendsRows owner hs v w → Contains (held_rows w o) held → Contains (held_rows v o) held ⊎ Contains hs held
held_behind owner hs v w o held a there =
    ⊎_elim
    (λ same.
    let here : Contains (held_rows v owner ++ hs) held = subst (λ (xs : List Held). Contains xs held) a.here (subst (λ (n : ℕ). Contains (held_rows w n) held) same there) in
    ⊎_elim
    (λ before. inl (subst (λ (n : ℕ). Contains (held_rows v n) held) (sym same) before))
    (λ come. inr come)
    (Contains-append_cases (held_rows v owner) hs held here))
    (λ apart. inl (subst (λ (xs : List Held). Contains xs held) (same_held v w o (a.others o apart)) there))
    (cases_eq o owner)

path_behind : (owner : ℕ) (hs : List Held) (v w : OwnedRows) (path : List ℕ) → AppendsRows owner hs v w → HoldsPath w path → HoldsPath v path ⊎ ((held : Held) × Contains hs held × (held.row.path ≡ path))
path_behind owner hs v w path a holds =
    let f = path_from w path holds in
    ⊎_elim
    (λ before. inl (path_there v f.0 f.1 path before f.3))
    (λ come. inr (f.1, come, f.3))
    (held_behind owner hs v w f.0 f.1 a f.2)

pub fresh_front : (v : OwnedRows) (xs ys : List Row) → AreFresh v (xs ++ ys) → AreFresh v xs
fresh_front v xs ys fresh = record {
  distinct = distinct_front bytes_eq (paths_of xs) (paths_of ys) (paths_both xs ys fresh.distinct);
  unheld = λ row there. fresh.unheld row (Contains-append_left xs ys row there);
}

pub fresh_behind : (owner version : ℕ) (v w : OwnedRows) (xs ys : List Row) → AreFresh v (xs ++ ys) → AppendsRows owner (map (born_at version) xs) v w → AreFresh w ys
fresh_behind owner version v w xs ys fresh a = record {
  distinct = distinct_back bytes_eq (paths_of xs) (paths_of ys) (paths_both xs ys fresh.distinct);
  unheld = λ row there holds.
      ⊎_elim
      (λ before. fresh.unheld row (Contains-append_right xs ys row there) before)
      (λ come.
      let x = of_map (born_at version) xs come.0 come.1 in
      rows_apart xs ys x.0 row fresh.distinct x.1 there (ap (λ (h : Held). h.row.path) x.2 ∙ come.2))
      (path_behind owner (map (born_at version) xs) v w row.path a holds);
}

-- a row more of those that come
pub rows_left : (rows : List (Bor Row)) (i : ℕ) (row : Bor Row) → i < length rows → row ≡ get_or rows i row → map (λ r. r.now) (drop i rows) ≡ (row.now ∷ []) ++ map (λ r. r.now) (drop (i + 1) rows)
rows_left rows i row within at = ap (map (λ (r : Bor Row). r.now)) (drop_more rows i row within ∙ ap (λ (r : Bor Row). r ∷ drop (i + 1) rows) (sym at))

pub rows_more : (version : ℕ) (rows : List (Bor Row)) (i : ℕ) (row : Bor Row) → i < length rows → row ≡ get_or rows i row → map (born_at version) (map (λ r. r.now) (take (i + 1) rows)) ≡ map (born_at version) (map (λ r. r.now) (take i rows)) ++ born_at version row.now ∷ []
rows_more version rows i row within at =
    ap (map (born_at version)) (map_more (λ (r : Bor Row). r.now) rows i row within ∙ ap (λ (r : Bor Row). map (λ (x : Bor Row). x.now) (take i rows) ++ r.now ∷ []) (sym at))
    ∙ map-append (born_at version) (map (λ (x : Bor Row). x.now) (take i rows)) (row.now ∷ [])

pub unheld_next : (v : OwnedRows) (rows : List (Bor Row)) (i : ℕ) (row : Bor Row) → i < length rows → row ≡ get_or rows i row → AreFresh v (map (λ r. r.now) (drop i rows)) → ¬ HoldsPath v row.now.path
unheld_next v rows i row within at fresh = fresh.unheld row.now (subst (λ (rs : List Row). Contains rs row.now) (sym (rows_left rows i row within at)) (Contains-head row.now (map (λ (r : Bor Row). r.now) (drop (i + 1) rows))))

pub inserted : (version owner slot : ℕ) (v w : OwnedRows) (row : Bor Row) (copy : Row) (born : ℕ) → copy ≡ row.now → born ≡ version → IsSome (rows_of v owner) → Inserts v w owner slot (record { row = copy; born = born }) → AppendsRows owner (map (born_at version) (row.now ∷ [])) v w
inserted version owner slot v w row copy born same at there inserts =
    let held : record { row = copy; born = born } ≡ born_at version row.now = λ i. record { row = same i; born = at i } in
    inserts_one v w owner slot (born_at version row.now) there (subst (λ (h : Held). Inserts v w owner slot h) held inserts)

-- an owner that is begun has no row yet
pub begins : (owner want : ℕ) (v w after : OwnedRows) → Reserves v w 1 want → AddsOwner w after owner → AddsRows owner [] v after
begins owner want v w after reserves adds =
    let free : rows_of v owner ≡ None = sym (reserves.same owner) ∙ adds.free in
    record {
      free = free;
      appends = record {
        there = subst (λ (o : Option (List Entry)). IsSome o) (sym adds.here) refl;
        here = some_held after owner [] adds.here ∙ ap (λ (hs : List Held). hs ++ []) (sym (none_held v owner free));
        others = λ o apart. adds.others o apart ∙ reserves.same o;
      };
    }

pub adds_more : (owner : ℕ) (hs : List Held) (v w after : OwnedRows) → AddsRows owner [] v w → AppendsRows owner hs w after → AddsRows owner hs v after
adds_more owner hs v w after begun more = record { free = begun.free; appends = appends_both owner [] hs hs v w after refl begun.appends more }

-- ---- the manifests with their owners

abbrev pub kept_of : ManifestInfo × ℕ → KeptManifest
kept_of pair = record { info = pair.0; owner = pair.1 }

pub infos_paired : (infos : List ManifestInfo) (owners : List ℕ) → length infos ≡ length owners → map (λ m. m.info) (map kept_of (zip infos owners)) ≡ infos
infos_paired [] owners same = refl
infos_paired (x ∷ infos) [] same = absurd (omega arith)
infos_paired (x ∷ infos) (y ∷ owners) same = ap (λ (xs : List ManifestInfo). x ∷ xs) (infos_paired infos owners (omega arith))

pub owners_paired : (infos : List ManifestInfo) (owners : List ℕ) → length infos ≡ length owners → owners_of (map kept_of (zip infos owners)) ≡ owners
owners_paired [] [] same = refl
owners_paired [] (y ∷ owners) same = absurd (omega arith)
owners_paired (x ∷ infos) [] same = absurd (omega arith)
owners_paired (x ∷ infos) (y ∷ owners) same = ap (λ (ys : List ℕ). y ∷ ys) (owners_paired infos owners (omega arith))
