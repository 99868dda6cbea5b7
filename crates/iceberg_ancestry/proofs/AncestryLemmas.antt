-- Snapshots by their ids, and the way from one to its parents.
use Rattle.std.proofs.Common.{◌≡◌, ◌≢◌, suc, ◌+◌, ℤ, List, [], ◌∷◌, ◌++◌, length, Bool, true, false, cond, ◌||◌, Option, Some, None, option_map, refl, sym, ap, subst, ◌∙◌, Bor, arith, length-append}
use Rattle.std.specs.Prelude.{option_and_then, is_some}
use Rattle.std.specs.BTreeMap as tree
use Rattle.std.specs.BTreeMap.{BTreeMap}
use Rattle.std.specs.List.{list_any}
use Rattle.std.specs.Ordering.{int_cmp, int_eq}
use Rattle.std.proofs.lemmas.Bool.{false≢true}
use Rattle.std.proofs.lemmas.Bool.Decides.{Decides-int_eq}
use Rattle.std.proofs.lemmas.Cmp.{int_eq_equiv}
use Rattle.std.proofs.lemmas.List.Folds.{list_any-append}
use Rattle.std.proofs.lemmas.Option.{none-some, same_Some}
use Rattle.iceberg_metadata.specs.declared.metadata.Metadata.{Metadata}
use Rattle.iceberg_metadata.specs.declared.metadata.Snapshot.{Snapshot}
use Rattle.iceberg_ancestry.specs.Ancestry.{held, held_at, LeadsTo, FormsCycle}
use Rattle.iceberg_ancestry.specs.ById.{is_at, has_id, value_at, held_beside, taken_of}

-- ---- what is held

-- The map has each snapshot under its id, but those whose id one of these has.
abbrev pub HoldsOthers : BTreeMap ℤ (Bor Snapshot) → List Snapshot → List Snapshot → Type 0
HoldsOthers left found snapshots = (q : ℤ) → value_at left q ≡ held_beside found snapshots q

some_first : (b r : Bool) (s : Snapshot) (o : Option Snapshot) → is_some o ≡ r → is_some (cond b (Some s) o) ≡ (b || r)
some_first true r s o is = refl
some_first false r s o is = is

pub is_some_held : (xs : List Snapshot) (id : ℤ) → is_some (held xs id) ≡ list_any (has_id id) xs
is_some_held [] id = refl
is_some_held (s ∷ ss) id = some_first (int_eq s.id id) (list_any (has_id id) ss) s (held ss id) (is_some_held ss id)

id_first : (b : Bool) (s t : Snapshot) (id : ℤ) (o : Option Snapshot) → int_eq s.id id ≡ b → cond b (Some s) o ≡ Some t → (o ≡ Some t → int_eq t.id id ≡ true) → int_eq t.id id ≡ true
id_first true s t id o same is more = subst (λ (u : Snapshot). int_eq u.id id ≡ true) (same_Some s t is) same
id_first false s t id o other is more = more is

pub held_id : (xs : List Snapshot) (id : ℤ) (t : Snapshot) → held xs id ≡ Some t → int_eq t.id id ≡ true
held_id [] id t is = absurd (none-some t is)
held_id (s ∷ ss) id t is = id_first (int_eq s.id id) s t id (held ss id) refl is (λ e. held_id ss id t e)

-- ---- one step of the way

pub leads_on : (xs : List Snapshot) (start : Option ℤ) (found : List Snapshot) (stop : Option ℤ) (s : Snapshot) → LeadsTo xs start found stop → held_at xs stop ≡ Some s → LeadsTo xs start (found ++ s ∷ []) s.parent
leads_on xs start [] stop s chain is = (ap (held_at xs) chain ∙ is, refl)
leads_on xs start (f ∷ fs) stop s chain is = (chain.0, leads_on xs f.parent fs stop s chain.1 is)

beside_more : (a b : Bool) (o : Option Snapshot) → cond b None (cond a None o) ≡ cond (a || (b || false)) None o
beside_more true true o = refl
beside_more true false o = refl
beside_more false true o = refl
beside_more false false o = refl

was_held : (b : Bool) (o : Option Snapshot) (s : Snapshot) → cond b None o ≡ Some s → o ≡ Some s
was_held true o s is = absurd (none-some s is)
was_held false o s is = is

pub taken_held : (left : BTreeMap ℤ (Bor Snapshot)) (found xs : List Snapshot) (next : Option ℤ) (s : Snapshot) → HoldsOthers left found xs → taken_of left next ≡ Some s → held_at xs next ≡ Some s
taken_held left found xs None s holds is = is
taken_held left found xs (Some id) s holds is = was_held (list_any (has_id id) found) (held xs id) s (sym (holds id) ∙ is)

map_cond : (b : Bool) (o : Option (Bor Snapshot)) → option_map (λ (s : Bor Snapshot). s.now) (cond b None o) ≡ cond b None (option_map (λ (s : Bor Snapshot). s.now) o)
map_cond true o = refl
map_cond false o = refl

at_taken : (xs : List Snapshot) (next : Option ℤ) (s : Snapshot) (q : ℤ) → held_at xs next ≡ Some s → is_at next q ≡ int_eq s.id q
at_taken xs None s q is = absurd (none-some s is)
at_taken xs (Some id) s q is = sym (int_eq_equiv.congr s.id id q (held_id xs id s is))

pub holds_others : (left new : BTreeMap ℤ (Bor Snapshot)) (found xs : List Snapshot) (next : Option ℤ) (s : Snapshot) → HoldsOthers left found xs → held_at xs next ≡ Some s
    → ((q : ℤ) → tree.get int_cmp new q ≡ cond (is_at next q) None (tree.get int_cmp left q)) → HoldsOthers new (found ++ s ∷ []) xs
holds_others left new found xs next s holds is updates = λ q.
    ap (option_map (λ (t : Bor Snapshot). t.now)) (updates q) ∙ map_cond (is_at next q) (tree.get int_cmp left q)
    ∙ ap (λ b. cond b None (value_at left q)) (at_taken xs next s q is)
    ∙ ap (λ o. cond (int_eq s.id q) None o) (holds q)
    ∙ beside_more (list_any (has_id q) found) (int_eq s.id q) (held xs q)
    ∙ ap (λ b. cond b None (held xs q)) (sym (list_any-append (has_id q) found (s ∷ [])))

pub nothing_left : (left : BTreeMap ℤ (Bor Snapshot)) (found xs : List Snapshot) (next : Option ℤ) → HoldsOthers left found xs → taken_of left next ≡ None → option_and_then (held_beside found xs) next ≡ None
nothing_left left found xs None holds is = refl
nothing_left left found xs (Some id) holds is = sym (holds id) ∙ is

-- ---- cycles

start_is : (xs : List Snapshot) (start : Option ℤ) (s : Snapshot) (id : ℤ) → held_at xs start ≡ Some s → int_eq s.id id ≡ true → start ≡ Some id
start_is xs None s id is same = absurd (none-some s is)
start_is xs (Some j) s id is same = ap Some ((Decides-int_eq j id).0 (sym (int_eq_equiv.congr s.id j id (held_id xs j s is)) ∙ same))

abbrev Round : List Snapshot → Option ℤ → Type 0
Round xs start = (before : List Snapshot) × (at : Option ℤ) × (around : List Snapshot) × LeadsTo xs start before at × LeadsTo xs at around at × (around ≢ [])

not_empty : (s : Snapshot) (ss : List Snapshot) → (s ∷ ss) ≢ []
not_empty s ss e = cc

met_first : (xs : List Snapshot) (start : Option ℤ) (s : Snapshot) (ss : List Snapshot) (id : ℤ) (b : Bool) → int_eq s.id id ≡ b → (b || list_any (has_id id) ss) ≡ true
    → LeadsTo xs start (s ∷ ss) (Some id) → (list_any (has_id id) ss ≡ true → Round xs s.parent) → Round xs start
met_first xs start s ss id true same any chain more =
    ([], start, s ∷ ss, refl, (chain.0, subst (λ stop. LeadsTo xs s.parent ss stop) (sym (start_is xs start s id chain.0 same)) chain.1), not_empty s ss)
met_first xs start s ss id false other any chain more = let round = more any in (s ∷ round.0, round.1, round.2, (chain.0, round.3), round.4, round.5)

met_again : (xs : List Snapshot) (start : Option ℤ) (found : List Snapshot) (id : ℤ) → LeadsTo xs start found (Some id) → list_any (has_id id) found ≡ true → Round xs start
met_again xs start [] id chain any = absurd (false≢true any)
met_again xs start (s ∷ ss) id chain any = met_first xs start s ss id (int_eq s.id id) refl any chain (λ e. met_again xs s.parent ss id chain.1 e)

exhausted : (b : Bool) (o : Option Snapshot) → cond b None o ≡ None → is_some o ≡ true → b ≡ true
exhausted true o none some = refl
exhausted false o none some = absurd (false≢true (ap is_some (sym none) ∙ some))

round_of : (xs : List Snapshot) (start : Option ℤ) (found : List Snapshot) (stop : Option ℤ) → LeadsTo xs start found stop → option_and_then (held_beside found xs) stop ≡ None → is_some (held_at xs stop) ≡ true → Round xs start
round_of xs start found None chain none some = absurd (false≢true some)
round_of xs start found (Some id) chain none some = met_again xs start found id chain (exhausted (list_any (has_id id) found) (held xs id) none some)

pub cycle_found : (m : Metadata) (xs found : List Snapshot) (stop : Option ℤ) → xs ≡ m.snapshots → LeadsTo xs m.current_snapshot found stop → option_and_then (held_beside found xs) stop ≡ None → is_some (held_at xs stop) ≡ true → FormsCycle m
cycle_found m xs found stop same chain none some =
    let round = subst (λ l. Round l m.current_snapshot) same (round_of xs m.current_snapshot found stop chain none some) in
    record { before = round.0; at = round.1; around = round.2; chain = round.3; back = round.4; moves = round.5 }

-- A way that ends has each other way from its start as its front.
front_of : (xs : List Snapshot) (start : Option ℤ) (ss : List Snapshot) (stop : Option ℤ) (before : List Snapshot) (at : Option ℤ) → LeadsTo xs start ss stop → held_at xs stop ≡ None → LeadsTo xs start before at
    → (rest : List Snapshot) × (ss ≡ before ++ rest) × LeadsTo xs at rest stop
front_of xs start ss stop [] at chain ends way = (ss, refl, subst (λ o. LeadsTo xs o ss stop) way chain)
front_of xs start [] stop (b ∷ bs) at chain ends way = absurd (none-some b (sym ends ∙ ap (held_at xs) (sym chain) ∙ way.0))
front_of xs start (s ∷ ss) stop (b ∷ bs) at chain ends way =
    let same : s ≡ b = same_Some s b (sym chain.0 ∙ way.0) in
    let more = front_of xs b.parent ss stop bs at (subst (λ (t : Snapshot). LeadsTo xs t.parent ss stop) same chain.1) ends way.1 in
    (more.0, ap (λ t. t ∷ ss) same ∙ ap (λ l. b ∷ l) more.1, more.2)

length_zero : (ss : List Snapshot) → length ss ≡ 0 → ss ≡ []
length_zero [] is = refl
length_zero (s ∷ ss) is = absurd (let no : suc (length ss) ≡ 0 = is in omega arith)

no_round : (xs : List Snapshot) (start : Option ℤ) (ss : List Snapshot) (stop : Option ℤ) → LeadsTo xs start ss stop → held_at xs stop ≡ None → Round xs start → ⊥
no_round xs start ss stop chain ends round =
    let first = front_of xs start ss stop round.0 round.1 chain ends round.3 in
    let second = front_of xs round.1 first.0 stop round.2 round.1 first.2 ends round.4 in
    let third = front_of xs round.1 second.0 stop first.0 stop second.2 ends first.2 in
    let longer : length first.0 ≡ length round.2 + length second.0 = ap length second.1 ∙ length-append round.2 second.0 in
    let shorter : length second.0 ≡ length first.0 + length third.0 = ap length third.1 ∙ length-append first.0 third.0 in
    round.5 (length_zero round.2 (omega (arith, longer, shorter)))

some_false : (o : Option Snapshot) → is_some o ≡ false → o ≡ None
some_false None is = refl
some_false (Some s) is = absurd (false≢true (sym is))

pub no_cycle : (m : Metadata) (xs found : List Snapshot) (stop : Option ℤ) → xs ≡ m.snapshots → LeadsTo xs m.current_snapshot found stop → is_some (held_at xs stop) ≡ false → FormsCycle m → ⊥
no_cycle m xs found stop same chain none cycle =
    let back = sym same in
    no_round xs m.current_snapshot found stop chain (some_false (held_at xs stop) none)
    (subst (λ l. Round l m.current_snapshot) back (cycle.before, cycle.at, cycle.around, cycle.chain, cycle.back, cycle.moves))
