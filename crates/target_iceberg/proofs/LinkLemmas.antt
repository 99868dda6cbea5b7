-- The live rows of manifests under owners, row by row and manifest by manifest.
use Rattle.std.proofs.Common.{◌≡◌, ◌≢◌, ◌⊎◌, ◌+◌, ◌<◌, ◌≤◌, ◌^◌, ℕ, false, List, [], ◌∷◌, ◌++◌, map, length, nat_eq, Contains, Option, Some, None, refl, sym, ap, subst, ◌∙◌, inl, inr, ⊎_elim, append_assoc, arith}
use Rattle.std.specs.Prelude.{◌||◌, is_some, IsSome, option_map, slice_get}
use Rattle.std.specs.List.{IsDistinct, list_any}
use Rattle.std.specs.Str.{bytes_eq}
use Rattle.std.proofs.lemmas.Bool.{cases_Bool, false≢true}
use Rattle.std.proofs.lemmas.Bool.Decides.{Decides-eqb}
use Rattle.std.proofs.lemmas.Cmp.{nat_eq_equiv}
use Rattle.std.proofs.lemmas.Grind.{flat_map-append}
use Rattle.std.proofs.lemmas.List.{length-append, length-map, map-append}
use Rattle.std.proofs.lemmas.List.Elements.{Contains-append_left, Contains-append_right, Contains-push, Contains-push_cases}
use Rattle.std.proofs.lemmas.Map.Keys.{IsDistinct-push, IsDistinct-tail}
use Rattle.file_links.specs.Rows.{joined, AddsOwner, Entry, HoldsPath, Inserts, OwnedRows, Owns, Reserves, rows_of as owned_by}
use Rattle.file_links.specs.declared.slots.Held.{Held}
use Rattle.table_history.specs.Row.{Row}
use Rattle.table_history.specs.Rows.{HasDistinctPaths, HasPath, paths_of}
use Rattle.table_history.proofs.RowListLemmas.{Contains-cases, Contains-head, Contains-none}
use Rattle.iceberg_manifest.specs.Lists.{AreEach}
use Rattle.iceberg_table.specs.Tables.{rows_in, rows_of}
use Rattle.iceberg_table.proofs.EachLaws.{each_back, each_push}
use Rattle.iceberg_table.proofs.LiveLaws.{in_flat}
use Rattle.iceberg_table.proofs.RowLaws.{distinct_front, shared}
use Rattle.target_iceberg.specs.Kept.{IsKeptOf, held_of}
use Rattle.target_iceberg.specs.InspectSteps.{AreLinked, FillsOwner, LinksManifest}
use Rattle.iceberg_live.specs.declared.live.LiveRow.{LiveRow}
use Rattle.iceberg_table.specs.declared.manifest.Manifest.{Manifest}
use Rattle.iceberg_version.specs.Sound.{OwnEachPath}
use Rattle.iceberg_version.specs.declared.kept.KeptManifest.{KeptManifest}
use Rattle.iceberg_version.proofs.Shared.{in_map, nothing_twice, of_map}
use Rattle.lake_basics.proofs.Options.{none_or_some, some_once}

-- ---- lists

-- a list around an item that it has
around : {X : Type 0} (xs : List X) (x : X) → Contains xs x → (front : List X) × (behind : List X) × (xs ≡ front ++ x ∷ behind)
around [] x there = absurd (Contains-none x there)
around (z ∷ xs) x there =
    ⊎_elim
    (λ (same : z ≡ x). ([], xs, ap (λ w. w ∷ xs) same))
    (λ later. let rest = around xs x later in (z ∷ rest.0, rest.1, ap (λ l. z ∷ l) rest.2))
    (Contains-cases z xs x there)

one_or_other : (a b : ℕ) → (a ≡ b) ⊎ (a ≢ b)
one_or_other a b = ⊎_elim (λ is. inl ((Decides-eqb a b).0 is)) (λ is. inr (λ same. false≢true (sym is ∙ (Decides-eqb a b).1 same))) (cases_Bool (nat_eq a b))

differ_tested : (a b : ℕ) → a ≢ b → nat_eq a b ≡ false
differ_tested a b differ = ⊎_elim (λ is. absurd (differ ((Decides-eqb a b).0 is))) (λ is. is) (cases_Bool (nat_eq a b))

-- ---- distinct paths

behind_distinct : (rows rest : List Row) → HasDistinctPaths (rows ++ rest) → HasDistinctPaths rest
behind_distinct [] rest distinct = distinct
behind_distinct (r ∷ rows) rest distinct = behind_distinct rows rest (IsDistinct-tail bytes_eq r.path (paths_of (rows ++ rest)) distinct)

-- ---- one row more

module _ (v v1 : OwnedRows) (owner : ℕ) (front : List LiveRow) (fills : FillsOwner v v1 owner front) where
  pub row_in : (live : LiveRow) (v2 : OwnedRows) (slot : ℕ) (held : Held) → held ≡ held_of live → held.born < 2 ^ 63 → Inserts v1 v2 owner slot held → FillsOwner v v2 owner (front ++ live ∷ [])
  row_in live v2 slot held is small ins =
      let e : Entry = record { slot = slot; held = held } in
      let before = fills.room in
      let less = ins.room in
      record {
        entries = fills.entries ++ e ∷ [];
        here = ins.here ∙ ap (λ (o : Option (List Entry)). option_map (λ rows. rows ++ e ∷ []) o) fills.here;
        same = map-append (λ (x : Entry). x.held) fills.entries (e ∷ []) ∙ ap (λ (l : List Held). l ++ held ∷ []) fills.same ∙ ap (λ (h : Held). map held_of front ++ h ∷ []) is ∙ sym (map-append held_of front (live ∷ []));
        others = λ o apart. ins.others o apart ∙ fills.others o apart;
        owner_room = ins.owner_room ∙ fills.owner_room;
        room = omega (arith, before, less, length-append front (live ∷ []));
        born = λ x there. ⊎_elim (λ was. fills.born x was) (λ (same : e ≡ x). subst (λ (y : Entry). y.held.born < 2 ^ 63) same small) (Contains-push_cases fills.entries e x there);
      }

  -- a row that is held in the owner is one of these
  pub held_in : (e : Entry) → Owns v1 owner e → (live : LiveRow) × Contains front live × (held_of live ≡ e.held)
  held_in e owns =
      let same : owns.0 ≡ fills.entries = some_once (owned_by v1 owner) owns.0 fills.entries owns.1 fills.here in
      let there : Contains fills.entries e = subst (λ (l : List Entry). Contains l e) same owns.2 in
      of_map held_of front e.held (subst (λ (l : List Held). Contains l e.held) fills.same (in_map (λ (x : Entry). x.held) fills.entries e there))

  module _ (rows rest : List LiveRow) (live : LiveRow) (split : rows ≡ front ++ live ∷ rest) (apart : (path : List ℕ) → HoldsPath v path → HasPath (rows_in rows) path → ⊥) (distinct : HasDistinctPaths (rows_in rows)) where
    whole : rows_in rows ≡ rows_in front ++ live.row ∷ rows_in rest
    whole = ap rows_in split ∙ map-append (λ (l : LiveRow). l.row) front (live ∷ rest)

    free_of : (o : ℕ) (e : Entry) → Owns v1 o e → e.held.row.path ≡ live.row.path → (o ≡ owner) ⊎ (o ≢ owner) → ⊥
    free_of o e owns path (inl same) =
        let from = held_in e (subst (λ (n : ℕ). Owns v1 n e) same owns) in
        let at : from.0.row.path ≡ live.row.path = ap (λ (h : Held). h.row.path) from.2 ∙ path in
        shared (rows_in front) live.row (rows_in rest) (from.0.row, in_map (λ (l : LiveRow). l.row) front from.0 from.1, at) (subst HasDistinctPaths whole distinct)
    free_of o e owns path (inr other) =
        let was : Owns v o e = (owns.0, sym (fills.others o other) ∙ owns.1, owns.2) in
        let there : Contains (rows_in rows) live.row = subst (λ (l : List Row). Contains l live.row) (sym whole) (Contains-append_right (rows_in front) (live.row ∷ rows_in rest) live.row (Contains-head live.row (rows_in rest))) in
        apart live.row.path (e.slot, e.held, (o, was), path) (live.row, there, refl)

    pub path_free : HoldsPath v1 live.row.path → ⊥
    path_free holds = free_of holds.2.0 (record { slot = holds.0; held = holds.1 }) holds.2.1 holds.3 (one_or_other holds.2.0 owner)

pub some_rows : (v v1 : OwnedRows) (owner : ℕ) (front : List LiveRow) → FillsOwner v v1 owner front → IsSome (owned_by v1 owner)
some_rows v v1 owner front fills = ap is_some fills.here

pub has_room : (v v1 : OwnedRows) (owner : ℕ) (front : List LiveRow) → FillsOwner v v1 owner front → (rows rest more : List LiveRow) (live : LiveRow) → rows ≡ front ++ rest → rest ≡ live ∷ more → length rows ≤ v.room → 0 < v1.room
has_room v v1 owner front fills rows rest more live split next enough =
    let before = fills.room in
    let all = ap length split ∙ length-append front rest in
    let some = ap length next in
    omega (arith, before, all, some, enough)

pub none_yet : (v : OwnedRows) (owner : ℕ) → owned_by v owner ≡ Some [] → FillsOwner v v owner []
none_yet v owner here = record {
  entries = [];
  here = here;
  same = refl;
  others = λ o apart. refl;
  owner_room = refl;
  room = omega arith;
  born = λ e there. absurd (Contains-none e there);
}

-- ---- an owner's rows

module _ (v v1 : OwnedRows) (owner : ℕ) (adds : AddsOwner v v1 owner) where
  -- what is held is what was
  pub was_held : (path : List ℕ) → HoldsPath v1 path → HoldsPath v path
  was_held path holds = by (one_or_other holds.2.0 owner)
    where
      by : (holds.2.0 ≡ owner) ⊎ (holds.2.0 ≢ owner) → HoldsPath v path
      by (inl same) =
          let none : holds.2.1.0 ≡ [] = some_once (owned_by v1 owner) holds.2.1.0 [] (subst (λ (n : ℕ). owned_by v1 n ≡ Some holds.2.1.0) same holds.2.1.1) adds.here in
          absurd (Contains-none (record { slot = holds.0; held = holds.1 }) (subst (λ (l : List Entry). Contains l (record { slot = holds.0; held = holds.1 })) none holds.2.1.2))
      by (inr other) = (holds.0, holds.1, (holds.2.0, (holds.2.1.0, sym (adds.others holds.2.0 other) ∙ holds.2.1.1, holds.2.1.2)), holds.3)

module _ (v v1 v2 : OwnedRows) (owner : ℕ) (manifest : Manifest) (adds : AddsOwner v v1 owner) where
  pub kept_by : (kept : KeptManifest) → kept.owner ≡ owner → kept.info ≡ manifest.file.info → FillsOwner v1 v2 owner manifest.rows → LinksManifest v v2 manifest kept
  kept_by kept owner_is info fills =
      let adds_room = adds.room in
      let adds_owner = adds.owner_room in
      let fills_room = fills.room in
      let fills_owner = fills.owner_room in
      let here : owned_by v2 kept.owner ≡ Some fills.entries = ap (owned_by v2) owner_is ∙ fills.here in
      record {
        is = record { info = info; rows = fills.entries; owned = here; same = fills.same };
        free = ap (owned_by v) owner_is ∙ adds.free;
        others = λ o apart. let other : o ≢ owner = λ same. apart (same ∙ sym owner_is) in fills.others o other ∙ adds.others o other;
        owner_room = omega (arith, adds_owner, fills_owner);
        room = omega (arith, adds_room, fills_room);
        born = λ e owns. fills.born e (subst (λ (l : List Entry). Contains l e) (some_once (owned_by v2 kept.owner) owns.0 fills.entries owns.1 here) owns.2);
      }

-- ---- one manifest more

-- what is kept of a manifest stays where other owners get rows
each_stays : (v v' : OwnedRows) (free : ℕ) → owned_by v free ≡ None → ((o : ℕ) → o ≢ free → owned_by v' o ≡ owned_by v o) → (ms : List Manifest) (ks : List KeptManifest) → AreEach (IsKeptOf v) ms ks → AreEach (IsKeptOf v') ms ks
each_stays v v' free none others [] [] are = tt
each_stays v v' free none others [] (k ∷ ks) are = absurd are
each_stays v v' free none others (m ∷ ms) [] are = absurd are
each_stays v v' free none others (m ∷ ms) (k ∷ ks) are =
    let other : k.owner ≢ free = λ same. none_or_some (owned_by v free) are.0.rows none (subst (λ (n : ℕ). owned_by v n ≡ Some are.0.rows) same are.0.owned) in
    (record { info = are.0.info; rows = are.0.rows; owned = others k.owner other ∙ are.0.owned; same = are.0.same }, each_stays v v' free none others ms ks are.1)

owner_new : (v : OwnedRows) (free : ℕ) → owned_by v free ≡ None → (ms : List Manifest) (ks : List KeptManifest) → AreEach (IsKeptOf v) ms ks → list_any (nat_eq free) (map (λ k. k.owner) ks) ≡ false
owner_new v free none [] [] are = refl
owner_new v free none [] (k ∷ ks) are = absurd are
owner_new v free none (m ∷ ms) [] are = absurd are
owner_new v free none (m ∷ ms) (k ∷ ks) are =
    let other : nat_eq free k.owner ≡ false = ⊎_elim
    (λ (same : free ≡ k.owner). absurd (none_or_some (owned_by v free) are.0.rows none (subst (λ (n : ℕ). owned_by v n ≡ Some are.0.rows) (sym same) are.0.owned)))
    (λ (differ : free ≢ k.owner). differ_tested free k.owner differ)
    (one_or_other free k.owner) in
    ap (λ b. b || list_any (nat_eq free) (map (λ k. k.owner) ks)) other ∙ owner_new v free none ms ks are.1

-- ---- no two owners have rows of one path

crossed : (front rest : List Row) (a b : Row) → Contains front a → Contains rest b → a.path ≡ b.path → HasDistinctPaths (front ++ rest) → ⊥
crossed front rest a b in_front in_rest same distinct =
    let split = around rest b in_rest in
    let all : front ++ rest ≡ (front ++ split.0) ++ b ∷ split.1 = ap (λ (l : List Row). front ++ l) split.2 ∙ sym (append_assoc front split.0 (b ∷ split.1)) in
    shared (front ++ split.0) b split.1 (a, Contains-append_left front split.0 a in_front, same) (subst HasDistinctPaths all distinct)

module _ (v : OwnedRows) where
  row_of_kept : (m : Manifest) (k : KeptManifest) → IsKeptOf v m k → (owner : ℕ) → k.owner ≡ owner → (e : Entry) → Owns v owner e → Contains (rows_in m.rows) e.held.row
  row_of_kept m k is owner of e owns =
      let same : owns.0 ≡ is.rows = some_once (owned_by v owner) owns.0 is.rows owns.1 (ap (owned_by v) (sym of) ∙ is.owned) in
      let there = in_map (λ (x : Entry). x.held) is.rows e (subst (λ (l : List Entry). Contains l e) same owns.2) in
      let live = of_map held_of m.rows e.held (subst (λ (l : List Held). Contains l e.held) is.same there) in
      subst (λ (r : Row). Contains (rows_in m.rows) r) (ap (λ (h : Held). h.row) live.2) (in_map (λ (l : LiveRow). l.row) m.rows live.0 live.1)

  row_of_rest : (ms : List Manifest) (ks : List KeptManifest) → AreEach (IsKeptOf v) ms ks → (k : KeptManifest) → Contains ks k → (owner : ℕ) → k.owner ≡ owner → (e : Entry) → Owns v owner e → Contains (rows_of ms) e.held.row
  row_of_rest ms ks each k there owner of e owns = let m = each_back (IsKeptOf v) ms ks k each there in in_flat ms m.0 e.held.row m.1 (row_of_kept m.0 k m.2 owner of e owns)

  owner_once : (ms : List Manifest) (ks : List KeptManifest) → AreEach (IsKeptOf v) ms ks → HasDistinctPaths (rows_of ms) → (i j : KeptManifest) → Contains ks i → Contains ks j → (a b : ℕ) → i.owner ≡ a → j.owner ≡ b → (d e : Entry) → Owns v a d → Owns v b e
      → d.held.row.path ≡ e.held.row.path → a ≡ b
  owner_once [] [] each distinct i j at_i at_j a b of_a of_b d e owns_d owns_e same = absurd (Contains-none i at_i)
  owner_once [] (k ∷ ks) each distinct i j at_i at_j a b of_a of_b d e owns_d owns_e same = absurd each
  owner_once (m ∷ ms) [] each distinct i j at_i at_j a b of_a of_b d e owns_d owns_e same = absurd each
  owner_once (m ∷ ms) (k ∷ ks) each distinct i j at_i at_j a b of_a of_b d e owns_d owns_e same =
      ⊎_elim
      (λ (is_i : k ≡ i). ⊎_elim
      (λ (is_j : k ≡ j). sym of_a ∙ ap (λ (x : KeptManifest). x.owner) (sym is_i ∙ is_j) ∙ of_b)
      (λ later. absurd (crossed (rows_in m.rows) (rows_of ms) d.held.row e.held.row (row_of_kept m k each.0 a (ap (λ (x : KeptManifest). x.owner) is_i ∙ of_a) d owns_d) (row_of_rest ms ks each.1 j later b of_b e owns_e) same distinct))
      (Contains-cases k ks j at_j))
      (λ later_i. ⊎_elim
      (λ (is_j : k ≡ j). absurd (crossed (rows_in m.rows) (rows_of ms) e.held.row d.held.row (row_of_kept m k each.0 b (ap (λ (x : KeptManifest). x.owner) is_j ∙ of_b) e owns_e) (row_of_rest ms ks each.1 i later_i a of_a d owns_d) (sym same) distinct))
      (λ later_j. owner_once ms ks each.1 (behind_distinct (rows_in m.rows) (rows_of ms) distinct) i j later_i later_j a b of_a of_b d e owns_d owns_e same)
      (Contains-cases k ks j at_j))
      (Contains-cases k ks i at_i)

module _ (ms : List Manifest) (ks : List KeptManifest) (v : OwnedRows) (linked : AreLinked ms ks v) where
  pub own_paths : HasDistinctPaths (rows_of ms) → OwnEachPath v
  own_paths distinct = λ a b d e owns_d owns_e same.
      let i = linked.own.only a d owns_d in
      let j = linked.own.only b e owns_e in
      owner_once v ms ks linked.each distinct i.0 j.0 i.1 j.1 a b i.2 j.2 d e owns_d owns_e same

  -- each held row is a live row of one of the manifests
  pub live_of : (owner : ℕ) (e : Entry) → Owns v owner e → (m : Manifest) × (live : LiveRow) × Contains ms m × Contains m.rows live × (held_of live ≡ e.held)
  live_of owner e owns =
      let k = linked.own.only owner e owns in
      let m = each_back (IsKeptOf v) ms ks k.0 linked.each k.1 in
      let same : owns.0 ≡ m.2.rows = some_once (owned_by v owner) owns.0 m.2.rows owns.1 (ap (owned_by v) (sym k.2) ∙ m.2.owned) in
      let there = in_map (λ (x : Entry). x.held) m.2.rows e (subst (λ (l : List Entry). Contains l e) same owns.2) in
      let live = of_map held_of m.0.rows e.held (subst (λ (l : List Held). Contains l e.held) m.2.same there) in
      (m.0, live.0, m.1, live.1, live.2)

  pub row_of : (owner : ℕ) (e : Entry) → Owns v owner e → Contains (rows_of ms) e.held.row
  row_of owner e owns =
      let live = live_of owner e owns in
      let there = in_flat ms live.0 live.1.row live.2 (in_map (λ (l : LiveRow). l.row) live.0.rows live.1 live.3) in
      subst (λ (r : Row). Contains (rows_of ms) r) (ap (λ (h : Held). h.row) live.4) there

  module _ (m : Manifest) (k : KeptManifest) (v' : OwnedRows) (keeps : LinksManifest v v' m k) where
    owner_of_new : (o : ℕ) (e : Entry) → Owns v' o e → (o ≡ k.owner) ⊎ (o ≢ k.owner) → (j : KeptManifest) × Contains (ks ++ k ∷ []) j × (j.owner ≡ o)
    owner_of_new o e owns (inl same) = (k, Contains-push ks k, sym same)
    owner_of_new o e owns (inr other) = let j = linked.own.only o e (owns.0, sym (keeps.others o other) ∙ owns.1, owns.2) in (j.0, Contains-append_left ks (k ∷ []) j.0 j.1, j.2)

    born_new : (o : ℕ) (e : Entry) → Owns v' o e → (o ≡ k.owner) ⊎ (o ≢ k.owner) → e.held.born < 2 ^ 63
    born_new o e owns (inl same) = keeps.born e (subst (λ (n : ℕ). Owns v' n e) same owns)
    born_new o e owns (inr other) = linked.born o e (owns.0, sym (keeps.others o other) ∙ owns.1, owns.2)

    pub linked_more : AreLinked (ms ++ m ∷ []) (ks ++ k ∷ []) v'
    linked_more = record {
      each = each_push (IsKeptOf v') ms ks m k (each_stays v v' k.owner keeps.free keeps.others ms ks linked.each) keeps.is;
      own = record {
        distinct = subst (IsDistinct nat_eq) (sym (map-append (λ (j : KeptManifest). j.owner) ks (k ∷ []))) (IsDistinct-push nat_eq_equiv (map (λ (j : KeptManifest). j.owner) ks) k.owner linked.own.distinct (owner_new v k.owner keeps.free ms ks linked.each));
        only = λ o e owns. owner_of_new o e owns (one_or_other o k.owner);
      };
      born = λ o e owns. born_new o e owns (one_or_other o k.owner);
    }

  module _ (m : Manifest) (rest : List Manifest) (distinct : HasDistinctPaths (rows_of (ms ++ m ∷ rest))) where
    parts : rows_of (ms ++ m ∷ rest) ≡ rows_of ms ++ (rows_in m.rows ++ rows_of rest)
    parts = flat_map-append (λ (r : Manifest). rows_in r.rows) ms (m ∷ rest)

    -- the rows of the next manifest have paths of their own
    pub next_distinct : HasDistinctPaths (rows_in m.rows)
    next_distinct = distinct_front (rows_in m.rows) (rows_of rest) (behind_distinct (rows_of ms) (rows_in m.rows ++ rows_of rest) (subst HasDistinctPaths parts distinct))

    -- and none that is held
    pub next_apart : (path : List ℕ) → HoldsPath v path → HasPath (rows_in m.rows) path → ⊥
    next_apart path holds there =
        let held = row_of holds.2.0 (record { slot = holds.0; held = holds.1 }) holds.2.1 in
        let split = around (rows_in m.rows) there.0 there.1 in
        let all : rows_of (ms ++ m ∷ rest) ≡ (rows_of ms ++ split.0) ++ there.0 ∷ (split.1 ++ rows_of rest) =
        parts ∙ ap (λ (l : List Row). rows_of ms ++ (l ++ rows_of rest)) split.2
        ∙ ap (λ (l : List Row). rows_of ms ++ l) (append_assoc split.0 (there.0 ∷ split.1) (rows_of rest))
        ∙ sym (append_assoc (rows_of ms) split.0 (there.0 ∷ (split.1 ++ rows_of rest))) in
        shared (rows_of ms ++ split.0) there.0 (split.1 ++ rows_of rest) (holds.1.row, Contains-append_left (rows_of ms) split.0 holds.1.row held, holds.3 ∙ sym there.2) (subst HasDistinctPaths all distinct)

pub none_linked : (v : OwnedRows) → ((owner : ℕ) → owned_by v owner ≡ None) → AreLinked [] [] v
none_linked v none = record {
  each = tt;
  own = record { distinct = nothing_twice nat_eq; only = λ owner e owns. absurd (none_or_some (owned_by v owner) owns.0 (none owner) owns.1) };
  born = λ owner e owns. absurd (none_or_some (owned_by v owner) owns.0 (none owner) owns.1);
}

pub none_owned : (v v' : OwnedRows) (owners rows : ℕ) → v.owners ≡ [] → Reserves v v' owners rows → (owner : ℕ) → owned_by v' owner ≡ None
none_owned v v' owners rows none reserves owner = reserves.same owner ∙ ap (λ (l : List (Option (List Entry))). joined (slice_get l owner)) none

-- ---- room

rows_count : (m : Manifest) (ms : List Manifest) → length (rows_of (m ∷ ms)) ≡ length m.rows + length (rows_of ms)
rows_count m ms = length-append (rows_in m.rows) (rows_of ms) ∙ ap (λ (n : ℕ). n + length (rows_of ms)) (length-map m.rows (λ (l : LiveRow). l.row))

module _ (rest more : List Manifest) (m : Manifest) (next : rest ≡ m ∷ more) (v : OwnedRows) where
  pub one_owner : length rest ≤ v.owner_room → 0 < v.owner_room
  one_owner enough = let some = ap length next in omega (arith, some, enough)

  pub rows_fit : length (rows_of rest) ≤ v.room → length m.rows ≤ v.room
  rows_fit enough = let some = ap (λ (l : List Manifest). length (rows_of l)) next ∙ rows_count m more in omega (arith, some, enough)

  module _ (v' : OwnedRows) (k : KeptManifest) (keeps : LinksManifest v v' m k) where
    pub owners_left : length rest ≤ v.owner_room → length more ≤ v'.owner_room
    owners_left enough =
        let some = ap length next in
        let left = keeps.owner_room in
        omega (arith, some, enough, left)

    pub rows_left : length (rows_of rest) ≤ v.room → length (rows_of more) ≤ v'.room
    rows_left enough =
        let some = ap (λ (l : List Manifest). length (rows_of l)) next ∙ rows_count m more in
        let left = keeps.room in
        omega (arith, some, enough, left)
