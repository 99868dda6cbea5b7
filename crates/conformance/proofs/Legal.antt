-- The drill's events are legal.
use Rattle.std.proofs.Common.{◌≡◌, ◌≢◌, ℕ, zero, suc, ◌+◌, ◌<◌, ◌≤◌, Bool, true, false, List, [], ◌∷◌, ◌++◌, length, map, Option, Some, None, refl, sym, ap, subst, ◌∙◌, arith}
use Rattle.std.specs.Prelude.{◌&&◌, flat_map, if◌then◌else◌}
use Rattle.std.specs.Fmt.{decimal}
use Rattle.std.proofs.lemmas.Grind.{flat_map-append}
use Rattle.std.proofs.lemmas.List.{append-nil, append_assoc, map-append}
use Rattle.table_history.specs.History.{History}
use Rattle.table_history.specs.declared.kind.Kind.{Kind}
use Rattle.table_history.specs.declared.kind.Kind.TheVariants.{Delta, Hudi, Iceberg}
use Rattle.table_history.specs.declared.table.Table.{Table}
use Rattle.conformance.specs.Drill.{SaysDrill, SpellsDrill, drill_bytes, drill_commit, numbers_under}
use Rattle.conformance.specs.Events.{commit_events, drill_events, is_stopped, is_sync_point, stopped_sync, sync_events, sync_points, target_sync}
use Rattle.conformance.specs.Histories.{AreInOrder, AreLegal, IsExtension, IsHistoryFrom, extensions}
use Rattle.delta_table.specs.Log.{IsStep}
use Rattle.conformance.specs.declared.event.Event.{Event}
use Rattle.conformance.specs.declared.event.Event.TheVariants as event
use Rattle.conformance.proofs.Tables.{base_of, step_of, table_after}

-- ---- the commits among the events

pub extensions_append : (xs ys : List Event) → extensions (xs ++ ys) ≡ extensions xs ++ extensions ys
extensions_append [] ys = refl
extensions_append (event.Extend bytes ∷ xs) ys = ap (λ (l : List (List ℕ)). bytes ∷ l) (extensions_append xs ys)
extensions_append (event.Shorten below ∷ xs) ys = extensions_append xs ys
extensions_append (event.Sync target ∷ xs) ys = extensions_append xs ys
extensions_append (event.Full target ∷ xs) ys = extensions_append xs ys
extensions_append (event.Stop call ∷ xs) ys = extensions_append xs ys
extensions_append (event.Crash choices ∷ xs) ys = extensions_append xs ys

-- So many events have no commit among them, and are in order after any number of commits.
record AreSyncs (events : List Event) : Type 0 where
  none : extensions events ≡ []
  order : (count : ℕ) (behind : List Event) → AreInOrder count behind → AreInOrder count (events ++ behind)

no_syncs : AreSyncs []
no_syncs = record { none = refl; order = λ count behind are. are }

module _ (number : ℕ) (stops : Bool) (e : ℕ) where
  target_syncs : (target : Kind) → target ≢ Delta → AreSyncs (target_sync number stops e target)
  target_syncs target other = by (stops && is_stopped number e)
    where
      by : (b : Bool) → AreSyncs (if b then stopped_sync number e target else (event.Sync target ∷ []))
      by true = record { none = refl; order = λ count behind are. (other, (other, are)) }
      by false = record { none = refl; order = λ count behind are. (other, are) }

  both_syncs : AreSyncs (sync_events number stops e)
  both_syncs =
      let hudi = target_syncs Hudi (λ is. kinds_apart is) in
      let iceberg = target_syncs Iceberg (λ is. kinds_apart' is) in
      record {
        none = extensions_append (target_sync number stops e Hudi) (target_sync number stops e Iceberg) ∙ ap (λ (l : List (List ℕ)). l ++ extensions (target_sync number stops e Iceberg)) hudi.none ∙ iceberg.none;
        order = λ count behind are. subst (AreInOrder count) (sym (append_assoc (target_sync number stops e Hudi) (target_sync number stops e Iceberg) behind)) (hudi.order count (target_sync number stops e Iceberg ++ behind) (iceberg.order count behind are));
      }
    where
      kinds_apart : Hudi ≡ Delta → ⊥
      kinds_apart is = cc

      kinds_apart' : Iceberg ≡ Delta → ⊥
      kinds_apart' is = cc

are_syncs : (number : ℕ) (stops : Bool) (i : ℕ) → AreSyncs (if is_sync_point number i then sync_events number stops (sync_points number i) else [])
are_syncs number stops i = by (is_sync_point number i)
  where
    by : (b : Bool) → AreSyncs (if b then sync_events number stops (sync_points number i) else [])
    by true = both_syncs number stops (sync_points number i)
    by false = no_syncs

module _ (number : ℕ) (stops : Bool) where
  abbrev first_events : ℕ → List Event
  first_events n = flat_map (commit_events number stops) (numbers_under n)

  one_more : (n : ℕ) → first_events (suc n) ≡ first_events n ++ commit_events number stops n
  one_more n = flat_map-append (commit_events number stops) (numbers_under n) (n ∷ []) ∙ ap (λ (l : List Event). first_events n ++ l) (append-nil (commit_events number stops n))

  pub commits_are : (n : ℕ) → extensions (first_events n) ≡ map (drill_bytes number) (numbers_under n)
  commits_are zero = refl
  commits_are (suc n) =
      ap extensions (one_more n) ∙ extensions_append (first_events n) (commit_events number stops n)
      ∙ (λ k. commits_are n k ++ (drill_bytes number n ∷ (are_syncs number stops n).none k))
      ∙ sym (map-append (drill_bytes number) (numbers_under n) (n ∷ []))

  in_order : (n count : ℕ) (behind : List Event) → AreInOrder (count + n) behind → AreInOrder count (first_events n ++ behind)
  in_order zero count behind are = subst (λ (k : ℕ). AreInOrder k behind) (let e : count + 0 ≡ count = omega arith in e) are
  in_order (suc n) count behind are =
      subst (AreInOrder count) (sym (ap (λ (l : List Event). l ++ behind) (one_more n) ∙ append_assoc (first_events n) (commit_events number stops n) behind))
      (in_order n count (commit_events number stops n ++ behind)
      ((are_syncs number stops n).order ((count + n) + 1) behind (subst (λ (k : ℕ). AreInOrder k behind) (let e : count + suc n ≡ (count + n) + 1 = omega arith in e) are)))

-- ---- the history

-- the table behind a history
abbrev pub last_table : Option Table → History → Option Table
last_table base [] = base
last_table base (entry ∷ history) = last_table (Some entry.1) history

pub history_more : (version : ℕ) (base : Option Table) (commits : List (List ℕ)) (history : History) (bytes : List ℕ) (next : Table)
    → IsHistoryFrom version base commits history → IsExtension bytes (last_table base history) next
    → IsHistoryFrom version base (commits ++ bytes ∷ []) (history ++ (decimal (version + length commits), next) ∷ [])
history_more version base [] [] bytes next is made = (ap decimal (let e : version + 0 ≡ version = omega arith in e), made, tt)
history_more version base [] (entry ∷ history) bytes next is made = absurd is
history_more version base (first ∷ commits) [] bytes next is made = absurd is
history_more version base (first ∷ commits) (entry ∷ history) bytes next is made = (
  is.0,
  is.1,
  subst (λ (k : ℕ). IsHistoryFrom (version + 1) (Some entry.1) (commits ++ bytes ∷ []) (history ++ (decimal k, next) ∷ [])) (let e : (version + 1) + length commits ≡ version + suc (length commits) = omega arith in e)
      (history_more (version + 1) (Some entry.1) commits history bytes next is.2 made),
)

pub last_more : (base : Option Table) (history : History) (entry : List ℕ × Table) → last_table base (history ++ entry ∷ []) ≡ Some entry.1
last_more base [] entry = refl
last_more base (first ∷ history) entry = last_more (Some first.1) history entry

module _ (number : ℕ) (spells : SpellsDrill) (says : (i : ℕ) → i < 200 → SaysDrill number i) where
  pub history_after : (n : ℕ) → n ≤ 200 → (history : History) × IsHistoryFrom 0 None (map (drill_bytes number) (numbers_under n)) history × (last_table None history ≡ base_of number n)
  history_after zero le = ([], tt, refl)
  history_after (suc n) le =
      let few : n < 200 = omega (arith, le) in
      let before = history_after n (omega (arith, le)) in
      let made : IsExtension (drill_bytes number n) (last_table None before.0) (table_after number (suc n)) = record {
        actions = (says n few).actions;
        grammar = (says n few).readable.grammar;
        supported = (says n few).readable.supported;
        commit = drill_commit number n;
        states = (says n few).states;
        step = subst (λ (b : Option Table). IsStep (drill_commit number n) b (table_after number (suc n))) (sym before.2) (step_of number n few spells);
      } in
      let commits = map (drill_bytes number) (numbers_under n) in (
        before.0 ++ (decimal (0 + length commits), table_after number (suc n)) ∷ [],
        subst (λ (l : List (List ℕ)). IsHistoryFrom 0 None l (before.0 ++ (decimal (0 + length commits), table_after number (suc n)) ∷ [])) (sym (map-append (drill_bytes number) (numbers_under n) (n ∷ [])))
            (history_more 0 None commits before.0 (drill_bytes number n) (table_after number (suc n)) before.1 made),
        last_more None before.0 (decimal (0 + length commits), table_after number (suc n)),
      )

pub legal : (number : ℕ) (stops : Bool) → SpellsDrill → ((i : ℕ) → i < 200 → SaysDrill number i) → AreLegal (drill_events number stops)
legal number stops spells says =
    let made = history_after number spells says 200 (omega arith) in
    record {
      history = made.0;
      is = subst (λ (l : List (List ℕ)). IsHistoryFrom 0 None l made.0) (sym (commits_are number stops 200)) made.1;
      order = subst (AreInOrder 0) (append-nil (first_events number stops 200)) (in_order number stops 200 0 [] tt);
    }
