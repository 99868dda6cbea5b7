-- How the events of a drill fold, where each answer is Done but for those of syncs that are stopped.
use Rattle.std.proofs.Common.{◌≡◌, ◌⊎◌, inl, inr, ℕ, zero, suc, ◌+◌, ◌<◌, max, Bool, true, false, ◌&&◌, List, [], ◌∷◌, ◌++◌, length, refl, sym, ap, subst, ◌∙◌, append_assoc, arith, if◌then◌else◌}
use Rattle.std.specs.Prelude.{flat_map}
use Rattle.std.proofs.lemmas.Bool.{false≢true}
use Rattle.std.proofs.lemmas.Grind.{flat_map-append}
use Rattle.std.proofs.lemmas.List.{length-append}
use Rattle.table_history.specs.declared.kind.Kind.{Kind}
use Rattle.table_history.specs.declared.kind.Kind.TheVariants.{Hudi, Iceberg}
use Rattle.conformance.specs.Drill.{drill_bytes, numbers_under}
use Rattle.conformance.specs.Events.{commit_events, drill_events, is_stopped, is_sync_point, stopped_sync, sync_events, sync_points, target_sync}
use Rattle.conformance.specs.declared.event.Event.{Event}
use Rattle.conformance.specs.declared.event.Event.TheVariants as event
use Rattle.target_sync.specs.declared.status.Status.{Status}
use Rattle.target_sync.specs.declared.status.Status.TheVariants as status
use Rattle.lake_play.specs.Standing.{IsSyncedEarly, first_from, floor_behind, floor_from, floor_of, is_same}
use Rattle.lake_play.proofs.Syncs.{floor_other}

-- ---- answers

-- it is done, or behind a stop it is that the store failed
abbrev pub IsGood : Bool → Status → Type 0
IsGood stopped given = (given ≡ status.Done) ⊎ ((given ≡ status.StoreFault) × (stopped ≡ true))

-- so is each answer
abbrev pub GoWell : Bool → List Event → List Status → Type 0
GoWell stopped [] answers = Unit {0}
GoWell stopped (event.Extend bytes ∷ events) answers = GoWell stopped events answers
GoWell stopped (event.Shorten below ∷ events) answers = GoWell stopped events answers
GoWell stopped (event.Sync target ∷ events) [] = ⊥
GoWell stopped (event.Sync target ∷ events) (given ∷ answers) = IsGood stopped given × GoWell stopped events answers
GoWell stopped (event.Full target ∷ events) [] = ⊥
GoWell stopped (event.Full target ∷ events) (given ∷ answers) = IsGood stopped given × GoWell stopped events answers
GoWell stopped (event.Stop call ∷ events) answers = GoWell true events answers
GoWell stopped (event.Crash choices ∷ events) answers = GoWell false events answers

done_here : (given : Status) → IsGood false given → given ≡ status.Done
done_here given (inl is) = is
done_here given (inr is) = absurd (false≢true is.1)

-- ---- one target's sync

-- Behind these events the other one's floor is as it was, and this one's is the number of commits.
record Turn (own other : Kind) (count f g : ℕ) (events : List Event) (answers : List Status) (rest : List Event) : Type 0 where
  left : List Status
  well : GoWell false rest left
  own_floor : floor_from own count f events answers ≡ floor_from own count count rest left
  other_floor : floor_from other count g events answers ≡ floor_from other count g rest left
  own_early : IsSyncedEarly own count count rest left → IsSyncedEarly own count f events answers
  other_early : IsSyncedEarly other count g rest left → IsSyncedEarly other count g events answers

module _ (number e : ℕ) (own other : Kind) (same : is_same own own ≡ true) (apart : is_same other own ≡ false) (count f g : ℕ) (rest : List Event) where
  here : (floor : ℕ) (given : Status) → given ≡ status.Done → floor_behind own own count floor given ≡ count
  here floor given is = ap (λ (s : Status). floor_behind own own count floor s) is ∙ ap (λ (b : Bool). if b && true then count else floor) same

  there : (given : Status) → floor_behind other own count g given ≡ g
  there given = floor_other other own count g given apart

  once : (answers : List Status) → GoWell false (event.Sync own ∷ rest) answers → Turn own other count f g (event.Sync own ∷ rest) answers rest
  once [] well = absurd well
  once (given ∷ answers) well =
      let mine = here f given (done_here given well.0) in
      let theirs = there given in
      record {
        left = answers;
        well = well.1;
        own_floor = ap (λ (n : ℕ). floor_from own count n rest answers) mine;
        other_floor = ap (λ (n : ℕ). floor_from other count n rest answers) theirs;
        own_early = λ early. subst (λ (n : ℕ). IsSyncedEarly own count n rest answers) (sym mine) early;
        other_early = λ early. subst (λ (n : ℕ). IsSyncedEarly other count n rest answers) (sym theirs) early;
      }

  twice : (answers : List Status) → GoWell false (stopped_sync number e own ++ rest) answers → Turn own other count f g (stopped_sync number e own ++ rest) answers rest
  twice [] well = absurd well
  twice (first ∷ []) well = absurd well.1
  twice (first ∷ given ∷ answers) well =
      let mine = here (floor_behind own own count f first) given (done_here given well.1.0) in
      let theirs = ap (λ (n : ℕ). floor_behind other own count n given) (there first) ∙ there given in
      record {
        left = answers;
        well = well.1.1;
        own_floor = ap (λ (n : ℕ). floor_from own count n rest answers) mine;
        other_floor = ap (λ (n : ℕ). floor_from other count n rest answers) theirs;
        own_early = λ early. subst (λ (n : ℕ). IsSyncedEarly own count n rest answers) (sym mine) early;
        other_early = λ early. subst (λ (n : ℕ). IsSyncedEarly other count n rest answers) (sym theirs) early;
      }

  turn_by : (b : Bool) (answers : List Status) → GoWell false ((if b then stopped_sync number e own else (event.Sync own ∷ [])) ++ rest) answers → Turn own other count f g ((if b then stopped_sync number e own else (event.Sync own ∷ [])) ++ rest) answers rest
  turn_by true answers well = twice answers well
  turn_by false answers well = once answers well

  turn : (answers : List Status) → GoWell false (target_sync number true e own ++ rest) answers → Turn own other count f g (target_sync number true e own ++ rest) answers rest
  turn answers well = turn_by (true && is_stopped number e) answers well

-- ---- a commit and the syncs behind it

-- Behind these events there are so many commits and these floors.
record Block (count hudi iceberg : ℕ) (events : List Event) (answers : List Status) (after : ℕ) (rest : List Event) : Type 0 where
  to_hudi : ℕ
  to_iceberg : ℕ
  left : List Status
  well : GoWell false rest left
  hudi_floor : floor_from Hudi count hudi events answers ≡ floor_from Hudi after to_hudi rest left
  iceberg_floor : floor_from Iceberg count iceberg events answers ≡ floor_from Iceberg after to_iceberg rest left
  hudi_early : (count ≡ 0) ⊎ (0 < hudi) → IsSyncedEarly Hudi after to_hudi rest left → IsSyncedEarly Hudi count hudi events answers
  iceberg_early : (count ≡ 0) ⊎ (0 < iceberg) → IsSyncedEarly Iceberg after to_iceberg rest left → IsSyncedEarly Iceberg count iceberg events answers
  some_hudi : 0 < hudi → 0 < to_hudi
  some_iceberg : 0 < iceberg → 0 < to_iceberg

record Synced (count hudi iceberg : ℕ) (events : List Event) (answers : List Status) (rest : List Event) : Type 0 where
  block : Block count hudi iceberg events answers (count + 1) rest
  hudi_here : block.to_hudi ≡ count + 1
  iceberg_here : block.to_iceberg ≡ count + 1

module _ (number : ℕ) (count hudi iceberg : ℕ) (bytes : List ℕ) (e : ℕ) (rest : List Event) (answers : List Status) where
  with_syncs : GoWell false (sync_events number true e ++ rest) answers → Synced count hudi iceberg (event.Extend bytes ∷ (sync_events number true e ++ rest)) answers rest
  with_syncs well =
      let first : List Event = target_sync number true e Hudi in
      let second : List Event = target_sync number true e Iceberg in
      let split : (first ++ second) ++ rest ≡ first ++ (second ++ rest) = append_assoc first second rest in
      let a = turn number e Hudi Iceberg refl refl (count + 1) hudi iceberg (second ++ rest) answers (subst (λ (l : List Event). GoWell false l answers) split well) in
      let b = turn number e Iceberg Hudi refl refl (count + 1) iceberg (count + 1) rest a.left a.well in
      record {
        block = record {
          to_hudi = count + 1;
          to_iceberg = count + 1;
          left = b.left;
          well = b.well;
          hudi_floor = ap (λ (l : List Event). floor_from Hudi (count + 1) hudi l answers) split ∙ a.own_floor ∙ b.other_floor;
          iceberg_floor = ap (λ (l : List Event). floor_from Iceberg (count + 1) iceberg l answers) split ∙ a.other_floor ∙ b.own_floor;
          hudi_early = λ may early. (may, subst (λ (l : List Event). IsSyncedEarly Hudi (count + 1) hudi l answers) (sym split) (a.own_early (b.other_early early)));
          iceberg_early = λ may early. (may, subst (λ (l : List Event). IsSyncedEarly Iceberg (count + 1) iceberg l answers) (sym split) (a.other_early (b.own_early early)));
          some_hudi = λ some. omega arith;
          some_iceberg = λ some. omega arith;
        };
        hudi_here = refl;
        iceberg_here = refl;
      }

  without : GoWell false rest answers → Block count hudi iceberg (event.Extend bytes ∷ rest) answers (count + 1) rest
  without well = record {
    to_hudi = hudi;
    to_iceberg = iceberg;
    left = answers;
    well = well;
    hudi_floor = refl;
    iceberg_floor = refl;
    hudi_early = λ may early. (may, early);
    iceberg_early = λ may early. (may, early);
    some_hudi = λ some. some;
    some_iceberg = λ some. some;
  }

  block_by : (b : Bool) → GoWell false ((if b then sync_events number true e else []) ++ rest) answers → Block count hudi iceberg (event.Extend bytes ∷ ((if b then sync_events number true e else []) ++ rest)) answers (count + 1) rest
  block_by true well = let synced = with_syncs well in synced.block
  block_by false well = without well

  synced_by : (b : Bool) → b ≡ true → GoWell false ((if b then sync_events number true e else []) ++ rest) answers → Synced count hudi iceberg (event.Extend bytes ∷ ((if b then sync_events number true e else []) ++ rest)) answers rest
  synced_by true is well = with_syncs well
  synced_by false is well = absurd (false≢true is)

module _ (number : ℕ) where
  block : (place count hudi iceberg : ℕ) (rest : List Event) (answers : List Status) → GoWell false (commit_events number true place ++ rest) answers → Block count hudi iceberg (commit_events number true place ++ rest) answers (count + 1) rest
  block place count hudi iceberg rest answers well = block_by number count hudi iceberg (drill_bytes number place) (sync_points number place) rest answers (is_sync_point number place) well

  synced : (place count hudi iceberg : ℕ) (rest : List Event) (answers : List Status) → is_sync_point number place ≡ true → GoWell false (commit_events number true place ++ rest) answers → Synced count hudi iceberg (commit_events number true place ++ rest) answers rest
  synced place count hudi iceberg rest answers is well = synced_by number count hudi iceberg (drill_bytes number place) (sync_points number place) rest answers (is_sync_point number place) is well

  -- one block behind another
  join : (count hudi iceberg mid : ℕ) (events rest : List Event) (answers : List Status) (a : Block count hudi iceberg events answers mid rest) (after : ℕ) (behind : List Event)
      → Block mid a.to_hudi a.to_iceberg rest a.left after behind → 0 < hudi → 0 < iceberg → Block count hudi iceberg events answers after behind
  join count hudi iceberg mid events rest answers a after behind b some_hudi some_iceberg = record {
    to_hudi = b.to_hudi;
    to_iceberg = b.to_iceberg;
    left = b.left;
    well = b.well;
    hudi_floor = a.hudi_floor ∙ b.hudi_floor;
    iceberg_floor = a.iceberg_floor ∙ b.iceberg_floor;
    hudi_early = λ may early. a.hudi_early may (b.hudi_early (inr (a.some_hudi some_hudi)) early);
    iceberg_early = λ may early. a.iceberg_early may (b.iceberg_early (inr (a.some_iceberg some_iceberg)) early);
    some_hudi = λ some. b.some_hudi (a.some_hudi some);
    some_iceberg = λ some. b.some_iceberg (a.some_iceberg some);
  }

  -- the commits of these places
  blocks : (places : List ℕ) (count hudi iceberg : ℕ) (rest : List Event) (answers : List Status) → 0 < hudi → 0 < iceberg → GoWell false (flat_map (commit_events number true) places ++ rest) answers
      → Block count hudi iceberg (flat_map (commit_events number true) places ++ rest) answers (count + length places) rest
  blocks [] count hudi iceberg rest answers some_hudi some_iceberg well =
      let none : count ≡ count + 0 = omega arith in
      subst (λ (n : ℕ). Block count hudi iceberg rest answers n rest) none (record {
        to_hudi = hudi;
        to_iceberg = iceberg;
        left = answers;
        well = well;
        hudi_floor = refl;
        iceberg_floor = refl;
        hudi_early = λ may early. early;
        iceberg_early = λ may early. early;
        some_hudi = λ some. some;
        some_iceberg = λ some. some;
      })
  blocks (place ∷ places) count hudi iceberg rest answers some_hudi some_iceberg well =
      let first : List Event = commit_events number true place in
      let others : List Event = flat_map (commit_events number true) places in
      let split : (first ++ others) ++ rest ≡ first ++ (others ++ rest) = append_assoc first others rest in
      let more : count + 1 + length places ≡ count + suc (length places) = omega arith in
      let a = block place count hudi iceberg (others ++ rest) answers (subst (λ (l : List Event). GoWell false l answers) split well) in
      let b = blocks places (count + 1) a.to_hudi a.to_iceberg rest a.left (a.some_hudi some_hudi) (a.some_iceberg some_iceberg) a.well in
      subst (λ (n : ℕ). Block count hudi iceberg ((first ++ others) ++ rest) answers n rest) more
      (subst (λ (l : List Event). Block count hudi iceberg l answers (count + 1 + length places) rest) (sym split)
      (join count hudi iceberg (count + 1) (first ++ (others ++ rest)) (others ++ rest) answers a (count + 1 + length places) rest b some_hudi some_iceberg))

-- ---- the numbers under a number

begins : (n : ℕ) → (tail : List ℕ) × (numbers_under (suc n) ≡ 0 ∷ tail) × (length tail ≡ n)
begins zero = ([], refl, refl)
begins (suc n) =
    let before = begins n in
    let grown : length (before.0 ++ suc n ∷ []) ≡ length before.0 + 1 = length-append before.0 (suc n ∷ []) in
    let count = before.2 in (
      before.0 ++ suc n ∷ [],
      ap (λ (l : List ℕ). l ++ suc n ∷ []) before.1,
      omega (arith, grown, count),
    )

-- ---- the whole drill

-- The targets are synced before each commit behind the first, and stand at the end behind them all.
pub record Folds (number : ℕ) (answers : List Status) : Type 0 where
  pub hudi_floor : floor_of Hudi (drill_events number true) answers ≡ 200
  pub iceberg_floor : floor_of Iceberg (drill_events number true) answers ≡ 200
  pub hudi_early : IsSyncedEarly Hudi 0 0 (drill_events number true) answers
  pub iceberg_early : IsSyncedEarly Iceberg 0 0 (drill_events number true) answers

module _ (number : ℕ) (answers : List Status) where
  abbrev Whole : List Event → Type 0
  Whole events = (floor_from Hudi 0 0 events answers ≡ 200) × (floor_from Iceberg 0 0 events answers ≡ 200) × IsSyncedEarly Hudi 0 0 events answers × IsSyncedEarly Iceberg 0 0 events answers

  in_order : (middle : List ℕ) → length middle ≡ 198 → GoWell false (commit_events number true 0 ++ (flat_map (commit_events number true) middle ++ (commit_events number true 199 ++ []))) answers
      → Whole (commit_events number true 0 ++ (flat_map (commit_events number true) middle ++ (commit_events number true 199 ++ [])))
  in_order middle count well =
      let last : List Event = commit_events number true 199 ++ [] in
      let others : List Event = flat_map (commit_events number true) middle ++ last in
      let a = synced number 0 0 0 0 others answers refl well in
      let hudi : 0 < a.block.to_hudi = let is = a.hudi_here in omega (arith, is) in
      let iceberg : 0 < a.block.to_iceberg = let is = a.iceberg_here in omega (arith, is) in
      let b = blocks number middle 1 a.block.to_hudi a.block.to_iceberg last a.block.left hudi iceberg a.block.well in
      let c = synced number 199 (1 + length middle) b.to_hudi b.to_iceberg [] b.left refl b.well in
      let end_hudi : c.block.to_hudi ≡ 200 = let is = c.hudi_here in omega (arith, is, count) in
      let end_iceberg : c.block.to_iceberg ≡ 200 = let is = c.iceberg_here in omega (arith, is, count) in (
        a.block.hudi_floor ∙ b.hudi_floor ∙ c.block.hudi_floor ∙ end_hudi,
        a.block.iceberg_floor ∙ b.iceberg_floor ∙ c.block.iceberg_floor ∙ end_iceberg,
        a.block.hudi_early (inl refl) (b.hudi_early (inr hudi) (c.block.hudi_early (inr (b.some_hudi hudi)) tt)),
        a.block.iceberg_early (inl refl) (b.iceberg_early (inr iceberg) (c.block.iceberg_early (inr (b.some_iceberg iceberg)) tt)),
      )

  are_in_order : (middle : List ℕ) × (drill_events number true ≡ commit_events number true 0 ++ (flat_map (commit_events number true) middle ++ (commit_events number true 199 ++ []))) × (length middle ≡ 198)
  are_in_order =
      let f = commit_events number true in
      let before = begins 198 in (
        before.0,
        flat_map-append f (numbers_under 199) (199 ∷ []) ∙ ap (λ (l : List ℕ). flat_map f l ++ (f 199 ++ [])) before.1 ∙ append_assoc (f 0) (flat_map f before.0) (f 199 ++ []),
        before.2,
      )

  pub drill_folds : GoWell false (drill_events number true) answers → Folds number answers
  drill_folds well =
      let split = are_in_order in
      let whole = subst Whole (sym split.1) (in_order split.0 split.2 (subst (λ (l : List Event). GoWell false l answers) split.1 well)) in
      record { hudi_floor = whole.0; iceberg_floor = whole.1; hudi_early = whole.2; iceberg_early = whole.3 }

-- ---- no version is removed

first_append : (first : ℕ) (xs ys : List Event) → first_from first (xs ++ ys) ≡ first_from (first_from first xs) ys
first_append first [] ys = refl
first_append first (event.Extend bytes ∷ xs) ys = first_append first xs ys
first_append first (event.Shorten below ∷ xs) ys = first_append (max first below) xs ys
first_append first (event.Sync target ∷ xs) ys = first_append first xs ys
first_append first (event.Full target ∷ xs) ys = first_append first xs ys
first_append first (event.Stop call ∷ xs) ys = first_append first xs ys
first_append first (event.Crash choices ∷ xs) ys = first_append first xs ys

module _ (number : ℕ) where
  one_none : (e : ℕ) (target : Kind) → first_from 0 (target_sync number true e target) ≡ 0
  one_none e target = by (true && is_stopped number e)
    where
      by : (b : Bool) → first_from 0 (if b then stopped_sync number e target else (event.Sync target ∷ [])) ≡ 0
      by true = refl
      by false = refl

  both_none : (e : ℕ) → first_from 0 (sync_events number true e) ≡ 0
  both_none e =
      first_append 0 (target_sync number true e Hudi) (target_sync number true e Iceberg) ∙ ap (λ (n : ℕ). first_from n (target_sync number true e Iceberg)) (one_none e Hudi) ∙ one_none e Iceberg

  commit_none : (place : ℕ) → first_from 0 (commit_events number true place) ≡ 0
  commit_none place = by (is_sync_point number place)
    where
      by : (b : Bool) → first_from 0 (if b then sync_events number true (sync_points number place) else []) ≡ 0
      by true = both_none (sync_points number place)
      by false = refl

  places_none : (places : List ℕ) → first_from 0 (flat_map (commit_events number true) places) ≡ 0
  places_none [] = refl
  places_none (place ∷ places) =
      first_append 0 (commit_events number true place) (flat_map (commit_events number true) places)
      ∙ ap (λ (n : ℕ). first_from n (flat_map (commit_events number true) places)) (commit_none place) ∙ places_none places

  pub none_removed : first_from 0 (drill_events number true) ≡ 0
  none_removed = places_none (numbers_under 200)
