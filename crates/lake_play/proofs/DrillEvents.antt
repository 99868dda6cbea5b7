-- The events of a drill.
use Rattle.std.proofs.Common.{◌≡◌, ℕ, zero, suc, ◌+◌, ◌*◌, ◌/◌, ◌%◌, ◌≤◌, ◌<◌, Bool, true, false, ◌&&◌, List, [], ◌∷◌, ◌++◌, length, refl, sym, ap, subst, ◌∙◌, append_assoc, arith, if◌then◌else◌}
use Rattle.std.specs.Prelude.{flat_map}
use Rattle.std.proofs.lemmas.Bool.Decides.{nat_tests}
use Rattle.std.proofs.lemmas.Grind.{flat_map-append}
use Rattle.conformance.specs.Drill.{numbers_under}
use Rattle.conformance.specs.Events.{commit_events, drill_events, is_stopped, is_sync_point, stopped_sync, sync_events, sync_points, target_sync}
use Rattle.conformance.proofs.Syncs.{one_if, sync_more}
use Rattle.conformance.specs.declared.event.Event.{Event}
use Rattle.conformance.specs.declared.event.Event.TheVariants as event
use Rattle.table_history.specs.declared.kind.Kind.{Kind}
use Rattle.table_history.specs.declared.kind.Kind.TheVariants.{Hudi, Iceberg}
use Rattle.lake_play.proofs.AtSyncs.{IsPlain, spending}

-- ---- what they are

module _ (number : ℕ) where
  plain_sync : (e : ℕ) (target : Kind) (rest : List Event) → IsPlain true rest → IsPlain true (target_sync number true e target ++ rest)
  plain_sync e target rest plain = by (true && is_stopped number e)
    where
      by : (b : Bool) → IsPlain true ((if b then stopped_sync number e target else (event.Sync target ∷ [])) ++ rest)
      by true = (refl, (refl, plain))
      by false = (refl, plain)

  plain_syncs : (e : ℕ) (rest : List Event) → IsPlain true rest → IsPlain true (sync_events number true e ++ rest)
  plain_syncs e rest plain =
      subst (IsPlain true) (sym (append_assoc (target_sync number true e Hudi) (target_sync number true e Iceberg) rest))
      (plain_sync e Hudi (target_sync number true e Iceberg ++ rest) (plain_sync e Iceberg rest plain))

  plain_commit : (some : Bool) (place : ℕ) (rest : List Event) → IsPlain true rest → IsPlain some (commit_events number true place ++ rest)
  plain_commit some place rest plain = by (is_sync_point number place)
    where
      by : (b : Bool) → IsPlain true ((if b then sync_events number true (sync_points number place) else []) ++ rest)
      by true = plain_syncs (sync_points number place) rest plain
      by false = plain

  plain_places : (some : Bool) (places : List ℕ) → IsPlain some (flat_map (commit_events number true) places)
  plain_places some [] = tt
  plain_places some (place ∷ places) = plain_commit some place (flat_map (commit_events number true) places) (plain_places true places)

  pub plain : IsPlain false (drill_events number true)
  plain = plain_places false (numbers_under 200)

-- ---- how often the targets are synced

one_most : (b : Bool) → one_if b ≤ 1
one_most true = omega arith
one_most false = omega arith

module _ (number : ℕ) where
  every_fifth : (n : ℕ) → 0 < n → n < 199 → is_sync_point number n ≡ true → (number + n) % 5 ≡ 0
  every_fifth n some less is = grind (arith, nat_tests, some, less, is)

  sync_step : (n : ℕ) → 0 < n → n < 199 → one_if (is_sync_point number n) + (number + n + 4) / 5 ≤ (number + n + 5) / 5
  sync_step n some less = by (is_sync_point number n) refl
    where
      by : (b : Bool) → is_sync_point number n ≡ b → one_if b + (number + n + 4) / 5 ≤ (number + n + 5) / 5
      by true is = let fifth = every_fifth n some less is in omega (arith, fifth)
      by false is = omega arith

  sync_next : (n : ℕ) → sync_points number (suc n) ≡ sync_points number n + one_if (is_sync_point number n)
  sync_next n = ap (sync_points number) (let e : suc n ≡ n + 1 = omega arith in e) ∙ sync_more number n

  sync_most : (n : ℕ) → n ≤ 199 → sync_points number n + (number + 4) / 5 ≤ 1 + (number + n + 4) / 5
  sync_most zero le = omega arith
  sync_most (suc zero) le =
      let next = sync_next 0 in
      let most = one_most (is_sync_point number 0) in
      omega (arith, next, most)
  sync_most (suc (suc n)) le =
      let before = sync_most (suc n) (omega (arith, le)) in
      let next = sync_next (suc n) in
      let step = sync_step (suc n) (omega arith) (omega (arith, le)) in
      omega (arith, before, next, step)

  pub few_points : sync_points number 200 ≤ 42
  few_points =
      let before = sync_most 199 (omega arith) in
      let next = sync_next 199 in
      let most = one_most (is_sync_point number 199) in
      omega (arith, before, next, most)

-- ---- how many files they leave room for

-- A commit adds one file, a sync that is done at most so many, a stopped one at most one for each call before the stop, and a crash one for each choice.
abbrev pub drill_weight : Event → ℕ
drill_weight (event.Extend bytes) = 1
drill_weight (event.Shorten below) = 0
drill_weight (event.Sync target) = 10800
drill_weight (event.Full target) = 0
drill_weight (event.Stop call) = call
drill_weight (event.Crash choices) = length choices

spending_append : (weight : Event → ℕ) (xs ys : List Event) → spending weight (xs ++ ys) ≡ spending weight xs + spending weight ys
spending_append weight [] ys = omega arith
spending_append weight (x ∷ xs) ys = let rest = spending_append weight xs ys in omega (arith, rest)

module _ (number : ℕ) where
  target_spends : (e : ℕ) (target : Kind) → spending drill_weight (target_sync number true e target) ≤ 21626
  target_spends e target = by (true && is_stopped number e)
    where
      by : (b : Bool) → spending drill_weight (if b then stopped_sync number e target else (event.Sync target ∷ [])) ≤ 21626
      by true = omega arith
      by false = omega arith

  both_spend : (e : ℕ) → spending drill_weight (sync_events number true e) ≤ 43252
  both_spend e =
      let both = spending_append drill_weight (target_sync number true e Hudi) (target_sync number true e Iceberg) in
      let hudi = target_spends e Hudi in
      let iceberg = target_spends e Iceberg in
      omega (arith, both, hudi, iceberg)

  commit_spends : (place : ℕ) → spending drill_weight (commit_events number true place) ≤ 1 + 43252 * one_if (is_sync_point number place)
  commit_spends place = by (is_sync_point number place)
    where
      by : (b : Bool) → 1 + spending drill_weight (if b then sync_events number true (sync_points number place) else []) ≤ 1 + 43252 * one_if b
      by true = let both = both_spend (sync_points number place) in omega (arith, both)
      by false = omega arith

  places_spend : (n : ℕ) → spending drill_weight (flat_map (commit_events number true) (numbers_under n)) ≤ n + 43252 * sync_points number n
  places_spend zero = omega arith
  places_spend (suc n) =
      let f = commit_events number true in
      let before = places_spend n in
      let split : spending drill_weight (flat_map f (numbers_under n ++ n ∷ [])) ≡ spending drill_weight (flat_map f (numbers_under n) ++ (f n ++ [])) = ap (spending drill_weight) (flat_map-append f (numbers_under n) (n ∷ [])) in
      let first = spending_append drill_weight (flat_map f (numbers_under n)) (f n ++ []) in
      let second = spending_append drill_weight (f n) [] in
      let one = commit_spends n in
      let next = sync_next number n in
      omega (arith, before, split, first, second, one, next)

  pub few_spent : spending drill_weight (drill_events number true) ≤ 1900000
  few_spent = let all = places_spend 200 in let points = few_points number in omega (arith, all, points)
