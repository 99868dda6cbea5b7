-- The owners of the manifests of a new list, one by one.
use Rattle.std.proofs.Common.{suc, ◌≡◌, ◌≢◌, ◌+◌, ◌<◌, ◌≤◌, ℕ, Bool, true, false, Contains, List, [], ◌∷◌, ◌++◌, Option, Some, None, IsSome, map, drop, length, get_or, nat_eq, slice_get, refl, sym, ap, subst, ◌∙◌, ◌⊎◌, inl, inr, ⊎_elim, arith}
use Rattle.std.specs.Prelude.{is_some}
use Rattle.std.specs.List.{AllByRecursion, IsDistinct}
use Rattle.std.proofs.lemmas.Bool.{cases_eq, cases_lt, false≢true}
use Rattle.std.proofs.lemmas.Bool.Decides.{Decides-eqb}
use Rattle.std.proofs.lemmas.List.{append-nil, append_assoc, drop_all, drop_more}
use Rattle.std.proofs.lemmas.List.Elements.{Contains-append_left, Contains-append_right}
use Rattle.std.proofs.lemmas.Map.Keys.{IsDistinct-cons, apart_from_distinct}
use Rattle.std.proofs.lemmas.Option.{get_or_from_slice_get, slice_get_within}
use Rattle.table_history.specs.Row.{Row}
use Rattle.table_history.proofs.RowListLemmas.{Contains-cases, Contains-head, Contains-none, Contains-tail}
use Rattle.file_links.specs.Rows.{Entry, OwnedRows, rows_of}
use Rattle.file_links.specs.declared.slots.Held.{Held}
use Rattle.iceberg_version.specs.Advance.{AddsRows, AreFresh, HasOwner, HaveOwners, Source, added, added_rows, all_new, before, new_rows, owners_of, source_of}
use Rattle.iceberg_version.specs.KeptEnd.{held_rows}
use Rattle.iceberg_manifest.specs.Lists.{AreEach}
use Rattle.iceberg_version.specs.Manifests.{born_at}
use Rattle.iceberg_version.specs.declared.carrying.Next.{Next}
use Rattle.iceberg_version.specs.declared.kept.KeptManifest.{KeptManifest}
use Rattle.iceberg_version.proofs.LinkLemmas.{none_held, path_there, same_held}
use Rattle.iceberg_version.proofs.AdvanceLemmas.{fresh_behind, fresh_front, held_behind}
use Rattle.iceberg_version.proofs.Shared.{of_map}

-- ---- one manifest more

pub next_left : (next : List Next) (i : ℕ) (one : Next) → i < length next → one ≡ get_or next i one → drop i next ≡ one ∷ drop (i + 1) next
next_left next i one within at = drop_more next i one within ∙ ap (λ (n : Next). n ∷ drop (i + 1) next) (sym at)

pub fresh_next : (parts : List (List Row)) (next : List Next) (i : ℕ) (one : Next) (v : OwnedRows) → i < length next → one ≡ get_or next i one → AreFresh v (added_rows parts (drop i next)) → AreFresh v (new_rows (source_of parts one) ++ added_rows parts (drop (i + 1) next))
fresh_next parts next i one v within at fresh = subst (λ (ns : List Next). AreFresh v (added_rows parts ns)) (next_left next i one within at) fresh

pub fresh_one : (parts : List (List Row)) (next : List Next) (i : ℕ) (one : Next) (v : OwnedRows) → i < length next → one ≡ get_or next i one → AreFresh v (added_rows parts (drop i next)) → AreFresh v (new_rows (source_of parts one))
fresh_one parts next i one v within at fresh = fresh_front v (new_rows (source_of parts one)) (added_rows parts (drop (i + 1) next)) (fresh_next parts next i one v within at fresh)

pub fresh_after : (manifests : List KeptManifest) (version : ℕ) (s : Source) (owner : ℕ) (v w : OwnedRows) (ys : List Row) → HasOwner manifests version s owner v w → AreFresh v (new_rows s ++ ys) → AreFresh w ys
fresh_after manifests version (before place) owner v w ys has fresh = subst (λ (x : OwnedRows). AreFresh x ys) (sym has.1) fresh
fresh_after manifests version (added rows) owner v w ys has fresh = fresh_behind owner version v w rows ys fresh has.appends

-- Whatever owners the manifests from this place on have, they come behind these.
abbrev pub AreGivenUpTo : List KeptManifest → ℕ → List (List Row) → List Next → ℕ → List ℕ → OwnedRows → OwnedRows → Type 0
AreGivenUpTo manifests version parts next i owners v w =
    (rest : List ℕ) (now : OwnedRows) → HaveOwners manifests version (map (source_of parts) (drop i next)) rest w now → HaveOwners manifests version (map (source_of parts) next) (owners ++ rest) v now

pub given_none : (manifests : List KeptManifest) (version : ℕ) (parts : List (List Row)) (next : List Next) (owners : List ℕ) (v : OwnedRows) → owners ≡ [] → AreGivenUpTo manifests version parts next 0 owners v v
given_none manifests version parts next owners v none = λ rest now have. subst (λ (os : List ℕ). HaveOwners manifests version (map (source_of parts) next) (os ++ rest) v now) (sym none) have

pub given_more : (manifests : List KeptManifest) (version : ℕ) (parts : List (List Row)) (next : List Next) (i : ℕ) (one : Next) (owners more : List ℕ) (owner : ℕ) (v w x : OwnedRows) → i < length next → one ≡ get_or next i one → more ≡ owners ++ owner ∷ [] → HasOwner manifests version (source_of parts one) owner w x → AreGivenUpTo manifests version parts next i owners v w → AreGivenUpTo manifests version parts next (i + 1) more v x
given_more manifests version parts next i one owners more owner v w x within at is has given = λ rest now have.
    let here : HaveOwners manifests version (map (source_of parts) (one ∷ drop (i + 1) next)) (owner ∷ rest) w now = (x, has, have) in
    let all = given (owner ∷ rest) now (subst (λ (ns : List Next). HaveOwners manifests version (map (source_of parts) ns) (owner ∷ rest) w now) (sym (next_left next i one within at)) here) in
    let joined : more ++ rest ≡ owners ++ (owner ∷ rest) = ap (λ (os : List ℕ). os ++ rest) is ∙ append_assoc owners (owner ∷ []) rest in
    subst (λ (os : List ℕ). HaveOwners manifests version (map (source_of parts) next) os v now) (sym joined) all

pub given_all : (manifests : List KeptManifest) (version : ℕ) (parts : List (List Row)) (next : List Next) (i : ℕ) (owners : List ℕ) (v w : OwnedRows) → length next ≤ i → AreGivenUpTo manifests version parts next i owners v w → HaveOwners manifests version (map (source_of parts) next) owners v w
given_all manifests version parts next i owners v w past given =
    let empty : HaveOwners manifests version (map (source_of parts) (drop i next)) [] w w = subst (λ (ns : List Next). HaveOwners manifests version (map (source_of parts) ns) [] w w) (sym (drop_all i next past)) refl in
    subst (λ (os : List ℕ). HaveOwners manifests version (map (source_of parts) next) os v w) (append-nil owners) (given [] w empty)

-- ---- one step

step_kept : (ms : List KeptManifest) (version : ℕ) (s : Source) (o : ℕ) (v w : OwnedRows) → HasOwner ms version s o v w → (q : ℕ) → IsSome (rows_of v q) → rows_of w q ≡ rows_of v q
step_kept ms version (before p) o v w has q there = ap (λ (x : OwnedRows). rows_of x q) has.1
step_kept ms version (added rows) o v w has q there =
    has.appends.others q (λ same. false≢true (ap (λ (r : Option (List Entry)). is_some r) (sym (ap (rows_of v) same ∙ has.free)) ∙ there))

step_whose : (ms : List KeptManifest) (version : ℕ) (s : Source) (o : ℕ) (v w : OwnedRows) → HasOwner ms version s o v w → (q : ℕ) → IsSome (rows_of w q) → IsSome (rows_of v q) ⊎ (o ≡ q)
step_whose ms version (before p) o v w has q there = inl (subst (λ (x : OwnedRows). IsSome (rows_of x q)) has.1 there)
step_whose ms version (added rows) o v w has q there =
    ⊎_elim
    (λ same. inr (sym same))
    (λ apart. inl (subst (λ (r : Option (List Entry)). IsSome r) (has.appends.others q apart) there))
    (cases_eq q o)

step_held : (ms : List KeptManifest) (version : ℕ) (s : Source) (o : ℕ) (v w : OwnedRows) → HasOwner ms version s o v w → (q : ℕ) (held : Held) → Contains (held_rows w q) held → Contains (held_rows v q) held ⊎ ((row : Row) × Contains (new_rows s) row × (held ≡ born_at version row))
step_held ms version (before p) o v w has q held there = inl (subst (λ (x : OwnedRows). Contains (held_rows x q) held) has.1 there)
step_held ms version (added rows) o v w has q held there =
    ⊎_elim
    (λ earlier. inl earlier)
    (λ come. let r = of_map (born_at version) rows held come in inr (r.0, r.1, sym r.2))
    (held_behind o (map (born_at version) rows) v w q held has.appends there)

-- ---- all of them

pub all_kept : (ms : List KeptManifest) (version : ℕ) (ss : List Source) (os : List ℕ) (v w : OwnedRows) → HaveOwners ms version ss os v w → (q : ℕ) → IsSome (rows_of v q) → rows_of w q ≡ rows_of v q
all_kept ms version [] [] v w have q there = ap (λ (x : OwnedRows). rows_of x q) have
all_kept ms version [] (o ∷ os) v w have q there = absurd have
all_kept ms version (s ∷ ss) [] v w have q there = absurd have
all_kept ms version (s ∷ ss) (o ∷ os) v w have q there =
    let one = step_kept ms version s o v have.0 have.1 q there in
    all_kept ms version ss os have.0 w have.2 q (subst (λ (r : Option (List Entry)). IsSome r) (sym one) there) ∙ one

pub all_whose : (ms : List KeptManifest) (version : ℕ) (ss : List Source) (os : List ℕ) (v w : OwnedRows) → HaveOwners ms version ss os v w → (q : ℕ) → IsSome (rows_of w q) → IsSome (rows_of v q) ⊎ Contains os q
all_whose ms version [] [] v w have q there = inl (subst (λ (x : OwnedRows). IsSome (rows_of x q)) have there)
all_whose ms version [] (o ∷ os) v w have q there = absurd have
all_whose ms version (s ∷ ss) [] v w have q there = absurd have
all_whose ms version (s ∷ ss) (o ∷ os) v w have q there =
    ⊎_elim
    (λ earlier.
    ⊎_elim
    (λ first. inl first)
    (λ same. inr (subst (λ (n : ℕ). Contains (o ∷ os) n) same (Contains-head o os)))
    (step_whose ms version s o v have.0 have.1 q earlier))
    (λ later. inr (Contains-tail o os q later))
    (all_whose ms version ss os have.0 w have.2 q there)

pub all_held : (ms : List KeptManifest) (version : ℕ) (ss : List Source) (os : List ℕ) (v w : OwnedRows) → HaveOwners ms version ss os v w → (q : ℕ) (held : Held) → Contains (held_rows w q) held → Contains (held_rows v q) held ⊎ ((row : Row) × Contains (all_new ss) row × (held ≡ born_at version row))
all_held ms version [] [] v w have q held there = inl (subst (λ (x : OwnedRows). Contains (held_rows x q) held) have there)
all_held ms version [] (o ∷ os) v w have q held there = absurd have
all_held ms version (s ∷ ss) [] v w have q held there = absurd have
all_held ms version (s ∷ ss) (o ∷ os) v w have q held there =
    ⊎_elim
    (λ earlier.
    ⊎_elim
    (λ first. inl first)
    (λ come. inr (come.0, Contains-append_left (new_rows s) (all_new ss) come.0 come.1, come.2))
    (step_held ms version s o v have.0 have.1 q held earlier))
    (λ come. inr (come.0, Contains-append_right (new_rows s) (all_new ss) come.0 come.1, come.2))
    (all_held ms version ss os have.0 w have.2 q held there)

-- ---- the owners

-- Each place that they name is one of the list before whose owner is there.
abbrev pub AreAlive : List KeptManifest → OwnedRows → List Source → Type 0
AreAlive ms v ss = (p : ℕ) → Contains ss (before p) → (o : ℕ) × (slice_get (owners_of ms) p ≡ Some o) × IsSome (rows_of v o)

-- They name no place twice.
abbrev pub AreApart : List Source → Type 0
AreApart [] = Unit {0}
AreApart (before p ∷ ss) = (¬ Contains ss (before p)) × AreApart ss
AreApart (added rows ∷ ss) = AreApart ss

alive_after : (ms : List KeptManifest) (version : ℕ) (s : Source) (ss : List Source) (o : ℕ) (v w : OwnedRows) → HasOwner ms version s o v w → AreAlive ms v (s ∷ ss) → AreAlive ms w ss
alive_after ms version s ss o v w has alive = λ p there.
    let r = alive p (Contains-tail s ss (before p) there) in
    (r.0, r.1, subst (λ (x : Option (List Entry)). IsSome x) (sym (step_kept ms version s o v w has r.0 r.2)) r.2)

same_owner : (os : List ℕ) (p a b : ℕ) → slice_get os p ≡ Some a → slice_get os p ≡ Some b → a ≡ b
same_owner os p a b at_a at_b = let e = sym at_a ∙ at_b in cc

there_after : (ms : List KeptManifest) (version : ℕ) (s : Source) (ss : List Source) (o : ℕ) (v w : OwnedRows) → HasOwner ms version s o v w → AreAlive ms v (s ∷ ss) → IsSome (rows_of w o)
there_after ms version (before p) ss o v w has alive =
    let r = alive p (Contains-head (before p) ss) in
    let same : r.0 ≡ o = same_owner (owners_of ms) p r.0 o r.1 has.0 in
    subst (λ (x : OwnedRows). IsSome (rows_of x o)) (sym has.1) (subst (λ (n : ℕ). IsSome (rows_of v n)) same r.2)
there_after ms version (added rows) ss o v w has alive = has.appends.there

pub all_there : (ms : List KeptManifest) (version : ℕ) (ss : List Source) (os : List ℕ) (v w : OwnedRows) → HaveOwners ms version ss os v w → AreAlive ms v ss → (q : ℕ) → Contains os q → IsSome (rows_of w q)
all_there ms version [] [] v w have alive q c = absurd (Contains-none q c)
all_there ms version [] (o ∷ os) v w have alive q c = absurd have
all_there ms version (s ∷ ss) [] v w have alive q c = absurd have
all_there ms version (s ∷ ss) (o ∷ os) v w have alive q c =
    ⊎_elim
    (λ same.
    let there : IsSome (rows_of have.0 q) = subst (λ (n : ℕ). IsSome (rows_of have.0 n)) same (there_after ms version s ss o v have.0 have.1 alive) in
    subst (λ (x : Option (List Entry)). IsSome x) (sym (all_kept ms version ss os have.0 w have.2 q there)) there)
    (λ later. all_there ms version ss os have.0 w have.2 (alive_after ms version s ss o v have.0 have.1 alive) q later)
    (Contains-cases o os q c)

-- an owner is that of a place that they name, or it is new
abbrev IsFrom : List KeptManifest → OwnedRows → List Source → ℕ → Type 0
IsFrom ms v ss q = ((p : ℕ) × Contains ss (before p) × (slice_get (owners_of ms) p ≡ Some q)) ⊎ (rows_of v q ≡ None)

absent_before : (ms : List KeptManifest) (version : ℕ) (s : Source) (o : ℕ) (v w : OwnedRows) → HasOwner ms version s o v w → (q : ℕ) → rows_of w q ≡ None → rows_of v q ≡ None
absent_before ms version (before p) o v w has q none = sym (ap (λ (x : OwnedRows). rows_of x q) has.1) ∙ none
absent_before ms version (added rows) o v w has q none =
    ⊎_elim
    (λ same. ap (rows_of v) same ∙ has.free)
    (λ apart. sym (has.appends.others q apart) ∙ none)
    (cases_eq q o)

first_from : (ms : List KeptManifest) (version : ℕ) (s : Source) (ss : List Source) (o : ℕ) (v w : OwnedRows) → HasOwner ms version s o v w → IsFrom ms v (s ∷ ss) o
first_from ms version (before p) ss o v w has = inl (p, Contains-head (before p) ss, has.0)
first_from ms version (added rows) ss o v w has = inr has.free

all_from : (ms : List KeptManifest) (version : ℕ) (ss : List Source) (os : List ℕ) (v w : OwnedRows) → HaveOwners ms version ss os v w → (q : ℕ) → Contains os q → IsFrom ms v ss q
all_from ms version [] [] v w have q c = absurd (Contains-none q c)
all_from ms version [] (o ∷ os) v w have q c = absurd have
all_from ms version (s ∷ ss) [] v w have q c = absurd have
all_from ms version (s ∷ ss) (o ∷ os) v w have q c =
    ⊎_elim
    (λ same. subst (λ (n : ℕ). IsFrom ms v (s ∷ ss) n) same (first_from ms version s ss o v have.0 have.1))
    (λ later.
    ⊎_elim
    (λ named. inl (named.0, Contains-tail s ss (before named.0) named.1, named.2))
    (λ new. inr (absent_before ms version s o v have.0 have.1 q new))
    (all_from ms version ss os have.0 w have.2 q later))
    (Contains-cases o os q c)

-- two places of a list of distinct owners have two owners
same_place : (os : List ℕ) (p q o : ℕ) → IsDistinct nat_eq os → slice_get os p ≡ Some o → slice_get os q ≡ Some o → p ≡ q
same_place os p q o distinct at_p at_q =
    let within_p = slice_get_within os p o at_p in
    let within_q = slice_get_within os q o at_q in
    let first : get_or os p o ≡ o = get_or_from_slice_get os p o o at_p in
    let second : get_or os q o ≡ o = get_or_from_slice_get os q o o at_q in
    let apart : (i j : ℕ) → get_or os i o ≡ o → get_or os j o ≡ o → i < j → j < length os → ⊥ = λ i j a b below within. false≢true (sym (apart_from_distinct nat_eq os i j o distinct below within) ∙ (Decides-eqb (get_or os i o) (get_or os j o)).1 (a ∙ sym b)) in
    ⊎_elim
    (λ same. same)
    (λ other.
    ⊎_elim
    (λ below. absurd (apart p q first second below within_q))
    (λ not_below. absurd (apart q p second first (omega arith) within_p))
    (cases_lt p q))
    (cases_eq p q)

pub not_none : (o : Option (List Entry)) → IsSome o → o ≡ None → ⊥
not_none o some none = false≢true (sym (ap (λ (r : Option (List Entry)). is_some r) none) ∙ some)

not_again : (ms : List KeptManifest) (version : ℕ) (s : Source) (ss : List Source) (os : List ℕ) (o : ℕ) (v mid w : OwnedRows) → IsDistinct nat_eq (owners_of ms) → HasOwner ms version s o v mid → HaveOwners ms version ss os mid w → AreAlive ms v (s ∷ ss) → AreApart (s ∷ ss) → ¬ Contains os o
not_again ms version (before p) ss os o v mid w distinct has have alive apart c =
    ⊎_elim
    (λ named. apart.0 (subst (λ (n : ℕ). Contains ss (before n)) (same_place (owners_of ms) named.0 p o distinct named.2 has.0) named.1))
    (λ new. not_none (rows_of mid o) (there_after ms version (before p) ss o v mid has alive) new)
    (all_from ms version ss os mid w have o c)
not_again ms version (added rows) ss os o v mid w distinct has have alive apart c =
    ⊎_elim
    (λ named.
    let r = alive named.0 (Contains-tail (added rows) ss (before named.0) named.1) in
    let same : r.0 ≡ o = same_owner (owners_of ms) named.0 r.0 o r.1 named.2 in
    not_none (rows_of v o) (subst (λ (n : ℕ). IsSome (rows_of v n)) same r.2) has.free)
    (λ new. not_none (rows_of mid o) has.appends.there new)
    (all_from ms version ss os mid w have o c)

apart_after : (s : Source) (ss : List Source) → AreApart (s ∷ ss) → AreApart ss
apart_after (before p) ss apart = apart.1
apart_after (added rows) ss apart = apart

lacks_all : (o : ℕ) (os : List ℕ) → ¬ Contains os o → AllByRecursion (λ q. nat_eq o q ≡ false) os
lacks_all o [] lacks = tt
lacks_all o (q ∷ os) lacks = (not_same (nat_eq o q) (λ same. lacks (subst (λ (n : ℕ). Contains (q ∷ os) n) (sym ((Decides-eqb o q).0 same)) (Contains-head q os))), lacks_all o os (λ later. lacks (Contains-tail q os o later)))
  where
    not_same : (b : Bool) → (b ≡ true → ⊥) → b ≡ false
    not_same true h = absurd (h refl)
    not_same false h = refl

distinct_nothing : IsDistinct nat_eq []
unfolding IsDistinct
distinct_nothing = tt

pub all_distinct : (ms : List KeptManifest) (version : ℕ) (ss : List Source) (os : List ℕ) (v w : OwnedRows) → IsDistinct nat_eq (owners_of ms) → HaveOwners ms version ss os v w → AreAlive ms v ss → AreApart ss → IsDistinct nat_eq os
all_distinct ms version [] [] v w distinct have alive apart = distinct_nothing
all_distinct ms version [] (o ∷ os) v w distinct have alive apart = absurd have
all_distinct ms version (s ∷ ss) [] v w distinct have alive apart = absurd have
all_distinct ms version (s ∷ ss) (o ∷ os) v w distinct have alive apart =
    IsDistinct-cons nat_eq o os (lacks_all o os (not_again ms version s ss os o v have.0 w distinct have.1 have.2 alive apart))
    (all_distinct ms version ss os have.0 w distinct have.2 (alive_after ms version s ss o v have.0 have.1 alive) (apart_after s ss apart))

-- the owner of a place that is named stays one
first_named : (ms : List KeptManifest) (version : ℕ) (s : Source) (o : ℕ) (v w : OwnedRows) (p q : ℕ) → HasOwner ms version s o v w → s ≡ before p → slice_get (owners_of ms) p ≡ Some q → o ≡ q
first_named ms version (before n) o v w p q has same at = let e : n ≡ p = cc in same_owner (owners_of ms) p o q (subst (λ (k : ℕ). slice_get (owners_of ms) k ≡ Some o) e has.0) at
first_named ms version (added rows) o v w p q has same at = cc

pub named_there : (ms : List KeptManifest) (version : ℕ) (ss : List Source) (os : List ℕ) (v w : OwnedRows) (p q : ℕ) → HaveOwners ms version ss os v w → Contains ss (before p) → slice_get (owners_of ms) p ≡ Some q → Contains os q
named_there ms version [] os v w p q have c at = absurd (Contains-none (before p) c)
named_there ms version (s ∷ ss) [] v w p q have c at = absurd have
named_there ms version (s ∷ ss) (o ∷ os) v w p q have c at =
    ⊎_elim
    (λ same. subst (λ (n : ℕ). Contains (o ∷ os) n) (first_named ms version s o v have.0 p q have.1 same at) (Contains-head o os))
    (λ later. Contains-tail o os q (named_there ms version ss os have.0 w p q have.2 later at))
    (Contains-cases s ss (before p) c)

-- ---- their rows

-- The rows of the owner are those that one named before has, or the added ones.
abbrev pub HasRows : List KeptManifest → ℕ → (ℕ → List Held) → OwnedRows → Source → ℕ → Type 0
HasRows ms version base w (before p) o = (slice_get (owners_of ms) p ≡ Some o) × (held_rows w o ≡ base o)
HasRows ms version base w (added rows) o = held_rows w o ≡ map (born_at version) rows

-- the owners of the places that they name have these rows
abbrev pub AreBased : List KeptManifest → (ℕ → List Held) → OwnedRows → List Source → Type 0
AreBased ms base v ss = (p o : ℕ) → Contains ss (before p) → slice_get (owners_of ms) p ≡ Some o → held_rows v o ≡ base o

based_after : (ms : List KeptManifest) (version : ℕ) (base : ℕ → List Held) (s : Source) (ss : List Source) (o : ℕ) (v w : OwnedRows) → HasOwner ms version s o v w → AreAlive ms v (s ∷ ss) → AreBased ms base v (s ∷ ss) → AreBased ms base w ss
based_after ms version base s ss o v w has alive based = λ p q there at.
    let r = alive p (Contains-tail s ss (before p) there) in
    let same : r.0 ≡ q = same_owner (owners_of ms) p r.0 q r.1 at in
    same_held v w q (step_kept ms version s o v w has q (subst (λ (n : ℕ). IsSome (rows_of v n)) same r.2)) ∙ based p q (Contains-tail s ss (before p) there) at

rows_first : (ms : List KeptManifest) (version : ℕ) (base : ℕ → List Held) (s : Source) (ss : List Source) (o : ℕ) (v mid w : OwnedRows) → HasOwner ms version s o v mid → rows_of w o ≡ rows_of mid o → AreBased ms base v (s ∷ ss) → HasRows ms version base w s o
rows_first ms version base (before p) ss o v mid w has kept based = (has.0, same_held mid w o kept ∙ ap (λ (x : OwnedRows). held_rows x o) has.1 ∙ based p o (Contains-head (before p) ss) has.0)
rows_first ms version base (added rows) ss o v mid w has kept based =
    same_held mid w o kept ∙ has.appends.here ∙ ap (λ (hs : List Held). hs ++ map (born_at version) rows) (none_held v o has.free)

pub all_rows : (ms : List KeptManifest) (version : ℕ) (base : ℕ → List Held) (ss : List Source) (os : List ℕ) (v w : OwnedRows) → HaveOwners ms version ss os v w → AreAlive ms v ss → AreBased ms base v ss → AreEach (HasRows ms version base w) ss os
all_rows ms version base [] [] v w have alive based = tt
all_rows ms version base [] (o ∷ os) v w have alive based = absurd have
all_rows ms version base (s ∷ ss) [] v w have alive based = absurd have
all_rows ms version base (s ∷ ss) (o ∷ os) v w have alive based = (
  rows_first ms version base s ss o v have.0 w have.1 (all_kept ms version ss os have.0 w have.2 o (there_after ms version s ss o v have.0 have.1 alive)) based,
  all_rows ms version base ss os have.0 w have.2 (alive_after ms version s ss o v have.0 have.1 alive) (based_after ms version base s ss o v have.0 have.1 alive based),
)

pub all_counted : (ms : List KeptManifest) (version : ℕ) (ss : List Source) (os : List ℕ) (v w : OwnedRows) → HaveOwners ms version ss os v w → length os ≡ length ss
all_counted ms version [] [] v w have = refl
all_counted ms version [] (o ∷ os) v w have = absurd have
all_counted ms version (s ∷ ss) [] v w have = absurd have
all_counted ms version (s ∷ ss) (o ∷ os) v w have = ap suc (all_counted ms version ss os have.0 w have.2)

-- ---- their paths

-- no two owners have rows of one path
abbrev pub AreOwnPaths : OwnedRows → Type 0
AreOwnPaths v = (a b : ℕ) (h k : Held) → Contains (held_rows v a) h → Contains (held_rows v b) k → h.row.path ≡ k.row.path → a ≡ b

path_clash : (version o : ℕ) (rows more : List Row) (v w : OwnedRows) (b : ℕ) (h k : Held) → AddsRows o (map (born_at version) rows) v w → AreFresh v (rows ++ more) → b ≢ o → Contains (held_rows w o) h → Contains (held_rows w b) k → h.row.path ≡ k.row.path → ⊥
path_clash version o rows more v w b h k has fresh apart ch ck same =
    let come : Contains (map (born_at version) rows) h = subst (λ (hs : List Held). Contains hs h) (has.appends.here ∙ ap (λ (hs : List Held). hs ++ map (born_at version) rows) (none_held v o has.free)) ch in
    let r = of_map (born_at version) rows h come in
    let path : k.row.path ≡ r.0.path = sym same ∙ sym (ap (λ (x : Held). x.row.path) r.2) in
    fresh.unheld r.0 (Contains-append_left rows more r.0 r.1) (path_there v b k r.0.path (subst (λ (hs : List Held). Contains hs k) (same_held v w b (has.appends.others b apart)) ck) path)

step_paths : (ms : List KeptManifest) (version : ℕ) (s : Source) (more : List Row) (o : ℕ) (v w : OwnedRows) → HasOwner ms version s o v w → AreFresh v (new_rows s ++ more) → AreOwnPaths v → AreOwnPaths w
step_paths ms version (before p) more o v w has fresh own = subst (λ (x : OwnedRows). AreOwnPaths x) (sym has.1) own
step_paths ms version (added rows) more o v w has fresh own = λ a b h k ch ck same.
    let was = λ (q : ℕ) (apart : q ≢ o) (held : Held) (c : Contains (held_rows w q) held). subst (λ (hs : List Held). Contains hs held) (same_held v w q (has.appends.others q apart)) c in
    ⊎_elim
    (λ a_is.
    ⊎_elim
    (λ b_is. a_is ∙ sym b_is)
    (λ b_apart. absurd (path_clash version o rows more v w b h k has fresh b_apart (subst (λ (n : ℕ). Contains (held_rows w n) h) a_is ch) ck same))
    (cases_eq b o))
    (λ a_apart.
    ⊎_elim
    (λ b_is. absurd (path_clash version o rows more v w a k h has fresh a_apart (subst (λ (n : ℕ). Contains (held_rows w n) k) b_is ck) ch (sym same)))
    (λ b_apart. own a b h k (was a a_apart h ch) (was b b_apart k ck) same)
    (cases_eq b o))
    (cases_eq a o)

pub all_paths : (ms : List KeptManifest) (version : ℕ) (ss : List Source) (os : List ℕ) (v w : OwnedRows) → HaveOwners ms version ss os v w → AreFresh v (all_new ss) → AreOwnPaths v → AreOwnPaths w
all_paths ms version [] [] v w have fresh own = subst (λ (x : OwnedRows). AreOwnPaths x) (sym have) own
all_paths ms version [] (o ∷ os) v w have fresh own = absurd have
all_paths ms version (s ∷ ss) [] v w have fresh own = absurd have
all_paths ms version (s ∷ ss) (o ∷ os) v w have fresh own =
    all_paths ms version ss os have.0 w have.2 (fresh_after ms version s o v have.0 (all_new ss) have.1 fresh) (step_paths ms version s (all_new ss) o v have.0 have.1 fresh own)
