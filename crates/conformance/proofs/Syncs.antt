-- How often the targets are synced.
use Rattle.std.proofs.Common.{◌≡◌, ⊎_elim, ℕ, zero, suc, ◌+◌, ◌<◌, ◌≤◌, Bool, true, false, cond, List, [], ◌∷◌, ◌++◌, length, refl, sym, ap, subst, ◌∙◌, arith}
use Rattle.std.specs.List.{filter}
use Rattle.std.specs.Prelude.{if◌then◌else◌}
use Rattle.std.proofs.lemmas.Bool.{cases_lt}
use Rattle.std.proofs.lemmas.List.{append-nil, length-append}
use Rattle.std.proofs.lemmas.List.Elements.{filter-append}
use Rattle.conformance.specs.Drill.{SaysDrill, SpellsDrill, numbers_under}
use Rattle.conformance.specs.Events.{is_sync_point, sync_events, sync_points, syncs_behind}
use Rattle.conformance.specs.declared.event.Event.{Event}
use Rattle.conformance.proofs.Numbers.{more}

abbrev pub one_if : Bool → ℕ
one_if b = cond b 1 0

one_long : (b : Bool) (n : ℕ) → length (cond b (n ∷ []) []) ≡ one_if b
one_long true n = refl
one_long false n = refl

one_most : (b : Bool) → one_if b ≤ 1
one_most true = omega arith
one_most false = omega arith

pub sync_more : (number n : ℕ) → sync_points number (n + 1) ≡ sync_points number n + one_if (is_sync_point number n)
sync_more number n =
    ap (λ (l : List ℕ). length (filter (is_sync_point number) l)) (more n)
    ∙ ap length (filter-append (is_sync_point number) (numbers_under n) (n ∷ []))
    ∙ length-append (filter (is_sync_point number) (numbers_under n)) (filter (is_sync_point number) (n ∷ []))
    ∙ ap (λ k. sync_points number n + k) (one_long (is_sync_point number n) n)

pub sync_few : (number n : ℕ) → sync_points number n ≤ n
sync_few number zero = omega arith
sync_few number (suc n) =
    let before = sync_few number n in
    let next = ap (sync_points number) (let e : suc n ≡ n + 1 = omega arith in e) ∙ sync_more number n in
    let most = one_most (is_sync_point number n) in
    omega (arith, before, next, most)

pub next_none : (number n k : ℕ) (b : Bool) → b ≡ is_sync_point number n → b ≡ false → k ≡ sync_points number n → k ≡ sync_points number (n + 1)
next_none number n k b is off same = let more = sync_more number n ∙ ap (λ (c : Bool). sync_points number n + one_if c) (sym is ∙ off) in omega (arith, more, same)

pub next_some : (number n k : ℕ) (b : Bool) → b ≡ is_sync_point number n → b ≡ true → k ≡ sync_points number n → k + 1 ≡ sync_points number (n + 1)
next_some number n k b is on same = let more = sync_more number n ∙ ap (λ (c : Bool). sync_points number n + one_if c) (sym is ∙ on) in omega (arith, more, same)

-- what is pushed after a commit, by the answer of a test
pub no_syncs : (number : ℕ) (stops : Bool) (n : ℕ) (events : List Event) (b : Bool) → b ≡ is_sync_point number n → b ≡ false → events ≡ events ++ syncs_behind number stops n
no_syncs number stops n events b is off = sym (ap (λ (c : Bool). events ++ (if c then sync_events number stops (sync_points number n) else [])) (sym is ∙ off) ∙ append-nil events)

pub some_syncs : (number : ℕ) (stops : Bool) (n k : ℕ) (events new : List Event) (b : Bool) → b ≡ is_sync_point number n → b ≡ true → k ≡ sync_points number n → new ≡ events ++ sync_events number stops k → new ≡ events ++ syncs_behind number stops n
some_syncs number stops n k events new b is on same pushed =
    pushed ∙ ap (λ (e : ℕ). events ++ sync_events number stops e) same ∙ sym (ap (λ (c : Bool). events ++ (if c then sync_events number stops (sync_points number n) else [])) (sym is ∙ on))

-- ---- one more commit

pub says_more : (number n : ℕ) → ((i : ℕ) → i < n → SaysDrill number i) → SaysDrill number n → (i : ℕ) → i < n + 1 → SaysDrill number i
says_more number n before last i lt = ⊎_elim (λ earlier. before i earlier) (λ past. let same : n ≡ i = omega (arith, lt, past) in subst (SaysDrill number) same last) (cases_lt i n)

pub spells_more : (n : ℕ) → (0 < n → SpellsDrill) → (n ≡ 0 → SpellsDrill) → 0 < n + 1 → SpellsDrill
spells_more zero before first some = first refl
spells_more (suc n) before first some = before (omega arith)
