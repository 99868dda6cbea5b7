-- What the timeline that a folder's names tell says of its files.
use Rattle.std.proofs.Common.{◌≡◌, ◌↔◌, ℕ, ◌-◌, ◌&&◌, List, [], ◌∷◌, cond, length, Bool, true, false, not, Contains, MatchOption, Option, Some, None, refl, sym, ap, subst, ◌∙◌, ⊎_elim}
use Rattle.std.specs.Prelude.{find, option_map, slice_get}
use Rattle.std.specs.Ordering.{is_lt, nat_cmp}
use Rattle.std.specs.Cmp.Lexicographic.{slice_cmp}
use Rattle.std.specs.Str.{bytes_eq}
use Rattle.std.specs.declared.cmp.Ordering.TheVariants.{Less}
use Rattle.std.proofs.lemmas.Bool.{and_parts, false≢true}
use Rattle.std.proofs.lemmas.Slice.Eq.{bytes_eq-Decides}
use Rattle.lake_store.specs.Disk.{Files, names_in}
use Rattle.lake_store.proofs.OrderLaws.{names_in_sorted}
use Rattle.hudi_names.specs.Name.{instant_of}
use Rattle.hudi_names.specs.declared.name.Action.{Action}
use Rattle.hudi_names.specs.declared.name.Action.TheVariants as action
use Rattle.hudi_names.specs.declared.name.State.{State}
use Rattle.hudi_names.specs.declared.name.State.TheVariants as state
use Rattle.hudi_groups.proofs.AnyLemmas.{any_from, any_none}
use Rattle.hudi_table.specs.Instants.{HasTime, completed_in, completed_name, completed_of, first_pending, has_name, head_of, instant_named, instant_with, instants_in, is_before, is_commit, is_done, is_missing, is_second, time_of, timeline_folder, timeline_of, up_to_head}
use Rattle.hudi_table.specs.Folder.{AreInOrder, IsCompletedAt, IsEarlier, IsFirstPending, IsHead, IsPendingAt, IsReached, IsUpTo}
use Rattle.hudi_table.specs.declared.instants.InstantName.{InstantName}
use Rattle.hudi_table.specs.declared.instants.CompletedInstant.{CompletedInstant}
use Rattle.hudi_table.proofs.TimeOrder.{earlier_still, earlier_than, times_rise, up_to_itself}
use Rattle.hudi_table.proofs.UpLists.{Up, found_first, found_there, front_passes, last_of_all, last_there, no_last, none_found, passes_front, picked, picked_from, sorted_up, up_front, up_picked}
use Rattle.lake_basics.proofs.Truth.{lt_less}

abbrev Instant : Type 0
Instant = ℕ × Action × State

-- ---- one name

named_parts : (names : List (List ℕ)) (name : List ℕ) (o : Option Instant) (i : InstantName) → option_map (λ (p : Instant). instant_with names name p.1 p.2) o ≡ Some i → (p : Instant) × (o ≡ Some p) × (instant_with names name p.1 p.2 ≡ i)
named_parts names name None i is = cc
named_parts names name (Some p) i is = let same : instant_with names name p.1 p.2 ≡ i = cc (is) in (p, refl, same)

-- a missing file has a name that none of the names is
missing_to : (names : List (List ℕ)) (o : Option (List ℕ)) → is_missing names o ≡ true → (name : List ℕ) × (o ≡ Some name) × ¬ Contains names name
missing_to names None missing = absurd (false≢true missing)
missing_to names (Some name) missing = (name, refl, λ there. not_true (has_name names name) missing (any_from (bytes_eq name) names name there ((bytes_eq-Decides name name).1 refl)))
  where
    not_true : (b : Bool) → not b ≡ true → b ≡ true → ⊥
    not_true true missing is = cc
    not_true false missing is = cc

missing_from : (names : List (List ℕ)) (o : Option (List ℕ)) (name : List ℕ) → o ≡ Some name → ¬ Contains names name → is_missing names o ≡ true
missing_from names o name is none =
    ap (is_missing names) is ∙ ap not (any_none (bytes_eq name) names (λ x there same. none (subst (Contains names) (sym ((bytes_eq-Decides name x).0 same)) there)))

commit_named : (a : Action) (time name : List ℕ) → completed_name a time ≡ Some name → is_commit a ≡ true
commit_named action.Commit time name is = refl
commit_named action.ReplaceCommit time name is = refl
commit_named action.Ignored time name is = cc
commit_named action.MergeOnRead time name is = cc
commit_named action.Restore time name is = cc
commit_named action.Unknown time name is = cc

pub done_state : (s : State) → is_done s ≡ true → s ≡ state.Completed
done_state state.Requested done = cc
done_state state.Inflight done = cc
done_state state.Completed done = refl

module _ (names : List (List ℕ)) where
  completed_parts : (i : InstantName) (c : CompletedInstant) → completed_of names i ≡ Some c → (is_commit i.action ≡ true) × (i.state ≡ state.Completed) × (i.time ≡ c.time) × (i.name ≡ c.name)
  completed_parts i c is = by (is_commit i.action && is_done i.state) refl is
    where
      by : (b : Bool) → (is_commit i.action && is_done i.state) ≡ b → cond b (Some (record { name = i.name; time = i.time; is_second = is_second names i })) None ≡ Some c → (is_commit i.action ≡ true) × (i.state ≡ state.Completed) × (i.time ≡ c.time) × (i.name ≡ c.name)
      by true passes found =
          let parts = and_parts (is_commit i.action) (is_done i.state) passes in
          let same : record { name = i.name; time = i.time; is_second = is_second names i } ≡ c = cc (found) in
          (parts.0, done_state i.state parts.1, ap (λ (d : CompletedInstant). d.time) same, ap (λ (d : CompletedInstant). d.name) same)
      by false fails found = cc

  completed_made : (i : InstantName) → is_commit i.action ≡ true → i.state ≡ state.Completed → completed_of names i ≡ Some (record { name = i.name; time = i.time; is_second = is_second names i })
  completed_made i commit done =
      ap (λ b. cond (b && is_done i.state) (Some (record { name = i.name; time = i.time; is_second = is_second names i })) None) commit
      ∙ ap (λ (s : State). cond (is_done s) (Some (record { name = i.name; time = i.time; is_second = is_second names i })) None) done

  -- what a name says of the instant that it names
  pub record SaysOf (i : InstantName) : Type 0 where
    pub there : Contains names i.name
    pub digits : ℕ
    pub says : instant_of i.name ≡ Some (digits, i.action, i.state)
    pub time : i.time ≡ time_of i.name
    pub pending : i.is_pending ≡ is_missing names (completed_name i.action i.time)

  says_of : (i : InstantName) (name : List ℕ) → Contains names name → instant_named names name ≡ Some i → SaysOf i
  says_of i name there is =
      let parts = named_parts names name (instant_of name) i is in
      subst SaysOf parts.2 (record { there = there; digits = parts.0.0; says = parts.1; time = refl; pending = refl })

  pub instant_says : (i : InstantName) → Contains (instants_in names) i → SaysOf i
  instant_says i within = let from = picked_from (instant_named names) names i within in says_of i from.0 from.1 from.2

-- ---- the whole folder

module _ (files : Files) where
  abbrev names : List (List ℕ)
  names = names_in files timeline_folder

  abbrev instants : List InstantName
  instants = instants_in names

  abbrev completed : List CompletedInstant
  completed = completed_in names instants

  abbrev UpWhereCommits : InstantName → InstantName → Type 0
  UpWhereCommits i j = is_commit i.action ≡ true → is_commit j.action ≡ true → IsUpTo i.time j.time

  abbrev UpTimes : CompletedInstant → CompletedInstant → Type 0
  UpTimes c d = IsUpTo c.time d.time

  named_rise : (n m : List ℕ) (i j : InstantName) → slice_cmp nat_cmp n m ≡ Less → instant_named names n ≡ Some i → instant_named names m ≡ Some j → UpWhereCommits i j
  named_rise n m i j less is_i is_j commit_i commit_j =
      let a = named_parts names n (instant_of n) i is_i in
      let b = named_parts names m (instant_of m) j is_j in
      let first : is_commit a.0.1 ≡ true = ap (λ (k : InstantName). is_commit k.action) a.2 ∙ commit_i in
      let second : is_commit b.0.1 ≡ true = ap (λ (k : InstantName). is_commit k.action) b.2 ∙ commit_j in
      let up = times_rise n m a.0.0 b.0.0 a.0.1 b.0.1 a.0.2 b.0.2 a.1 first b.1 second less in
      let time_i : time_of n ≡ i.time = ap (λ (k : InstantName). k.time) a.2 in
      let time_j : time_of m ≡ j.time = ap (λ (k : InstantName). k.time) b.2 in
      subst (λ t. IsUpTo t j.time) time_i (subst (IsUpTo (time_of n)) time_j up)

  up_instants : Up UpWhereCommits instants
  up_instants = up_picked (instant_named names) (λ n m. slice_cmp nat_cmp n m ≡ Less) UpWhereCommits named_rise names (sorted_up (slice_cmp nat_cmp) names (names_in_sorted files timeline_folder))

  completed_rise : (i j : InstantName) (c d : CompletedInstant) → UpWhereCommits i j → completed_of names i ≡ Some c → completed_of names j ≡ Some d → UpTimes c d
  completed_rise i j c d up is_c is_d =
      let a = completed_parts names i c is_c in
      let b = completed_parts names j d is_d in
      subst (λ t. IsUpTo t d.time) a.2 (subst (IsUpTo i.time) b.2 (up a.0 b.0))

  up_completed : Up UpTimes completed
  up_completed = up_picked (completed_of names) UpWhereCommits UpTimes completed_rise instants up_instants

  in_order : (cs : List CompletedInstant) → Up UpTimes cs → AreInOrder cs
  in_order [] up = tt
  in_order (c ∷ cs) up = (up.0, in_order cs up.1)

  pub order_of_folder : AreInOrder completed
  order_of_folder = in_order completed up_completed

  -- ---- what is pending

  pending_of : (i : InstantName) → Contains instants i → i.is_pending ≡ true → (is_commit i.action ≡ true) × IsPendingAt files i.time
  pending_of i within pending =
      let says = instant_says names i within in
      let lacks = missing_to names (completed_name i.action i.time) (sym says.pending ∙ pending) in (
        commit_named i.action i.time lacks.0 lacks.1,
        (i.action, i.state, record { name = i.name; there = says.there; digits = says.digits; says = says.says; is_time = sym says.time }, lacks),
      )

  pending_from : (time : List ℕ) → IsPendingAt files time → (i : InstantName) × Contains instants i × (i.is_pending ≡ true) × (i.time ≡ time)
  pending_from time at =
      let has = at.2 in
      let lacks = at.3 in
      let i = instant_with names has.name at.0 at.1 in (
        i,
        picked (instant_named names) names has.name i has.there (ap (option_map (λ (p : Instant). instant_with names has.name p.1 p.2)) has.says),
        missing_from names (completed_name at.0 (time_of has.name)) lacks.0 (ap (completed_name at.0) has.is_time ∙ lacks.1) lacks.2,
        has.is_time,
      )

  pub first_of_folder : MatchOption (first_pending instants) ((p : List ℕ) → IsPendingAt files p → ⊥) (IsFirstPending files)
  first_of_folder =
      let p : InstantName → Bool = λ i. i.is_pending in
      elim (find p instants) as (λ (o : Option InstantName). find p instants ≡ o → MatchOption (option_map (λ (i : InstantName). i.time) o) ((q : List ℕ) → IsPendingAt files q → ⊥) (IsFirstPending files)) [
        | None ↦ λ is q at. let i = pending_from q at in none_found p UpWhereCommits instants i.0 is i.1 i.2
        | Some i ↦ λ is.
            let here = found_there p UpWhereCommits instants i is in
            let first = pending_of i here.0 here.1 in (
              first.1,
              λ q at.
                  let j = pending_from q at in
                  let other = pending_of j.0 j.1 j.2 in
                  ⊎_elim
                  (λ same. subst (IsUpTo i.time) (ap (λ (k : InstantName). k.time) same ∙ j.3) (up_to_itself i.time))
                  (λ up. subst (IsUpTo i.time) j.3 (up first.0 other.0))
                  (found_first p UpWhereCommits instants i j.0 is up_instants j.1 j.2),
            )
      ] refl

  -- ---- what is before it

  pub before_to : (o : Option (List ℕ)) → MatchOption o ((p : List ℕ) → IsPendingAt files p → ⊥) (IsFirstPending files) → (c : CompletedInstant) → is_before o c ≡ true → (p : List ℕ) → IsPendingAt files p → IsEarlier c.time p
  before_to None none c before p at = absurd (none p at)
  before_to (Some first) is c before p at = earlier_than c.time first p (lt_less (slice_cmp nat_cmp c.time first) before) (is.1 p at)

  pub before_from : (o : Option (List ℕ)) → MatchOption o ((p : List ℕ) → IsPendingAt files p → ⊥) (IsFirstPending files) → (c : CompletedInstant) → ((p : List ℕ) → IsPendingAt files p → IsEarlier c.time p) → is_before o c ≡ true
  before_from None none c earlier = refl
  before_from (Some first) is c earlier = ap is_lt (earlier first is.0)

  before_closed : (o : Option (List ℕ)) (c d : CompletedInstant) → UpTimes c d → is_before o d ≡ true → is_before o c ≡ true
  before_closed None c d up before = refl
  before_closed (Some first) c d up before = ap is_lt (earlier_still c.time d.time first up (lt_less (slice_cmp nat_cmp d.time first) before))

  -- ---- what is completed

  pub completed_to : (c : CompletedInstant) → Contains completed c → IsCompletedAt files c.time
  completed_to c within =
      let from = picked_from (completed_of names) instants c within in
      let i = from.0 in
      let parts = completed_parts names i c from.2 in
      let says = instant_says names i from.1 in (
        i.action,
        parts.0,
        record { name = i.name; there = says.there; digits = says.digits; says = says.says ∙ ap (λ (s : State). Some (says.digits, i.action, s)) parts.1; is_time = sym says.time ∙ parts.2 },
      )

  completed_from : (time : List ℕ) → IsCompletedAt files time → (c : CompletedInstant) × Contains completed c × (c.time ≡ time)
  completed_from time at =
      let has = at.2 in
      let i = instant_with names has.name at.0 state.Completed in
      let within = picked (instant_named names) names has.name i has.there (ap (option_map (λ (p : Instant). instant_with names has.name p.1 p.2)) has.says) in
      let c : CompletedInstant = record { name = i.name; time = i.time; is_second = is_second names i } in
      (c, picked (completed_of names) instants i c within (completed_made names i at.1 refl), has.is_time)

  -- ---- the head

  reached_in : (time : List ℕ) → IsReached files time → (c : CompletedInstant) × Contains (up_to_head (timeline_of names)) c × (c.time ≡ time)
  reached_in time reached =
      let c = completed_from time reached.0 in
      let before = before_from (first_pending instants) first_of_folder c.0 (λ p at. subst (λ t. IsEarlier t p) (sym c.2) (reached.1 p at)) in
      (c.0, passes_front (is_before (first_pending instants)) UpTimes (before_closed (first_pending instants)) completed c.0 up_completed c.1 before, c.2)

  reached_of : (c : CompletedInstant) → Contains (up_to_head (timeline_of names)) c → IsReached files c.time
  reached_of c within =
      let passes = front_passes (is_before (first_pending instants)) completed c within in
      (completed_to c passes.0, before_to (first_pending instants) first_of_folder c passes.1)

  pub head_of_folder : MatchOption (head_of (timeline_of names)) ((time : List ℕ) → IsReached files time → ⊥) (IsHead files)
  head_of_folder =
      let l = up_to_head (timeline_of names) in
      let up = up_front (is_before (first_pending instants)) UpTimes completed up_completed in
      elim (slice_get l (length l - 1)) as (λ (o : Option CompletedInstant). slice_get l (length l - 1) ≡ o → MatchOption (option_map (λ (c : CompletedInstant). c.time) o) ((time : List ℕ) → IsReached files time → ⊥) (IsHead files)) [
        | None ↦ λ is time reached. let c = reached_in time reached in no_last UpTimes l c.0 is c.1
        | Some c ↦ λ is. (
          reached_of c (last_there UpTimes l c is),
          λ other reached.
              let d = reached_in other reached in
              ⊎_elim
              (λ same. subst (λ t. IsUpTo t c.time) (sym (ap (λ (k : CompletedInstant). k.time) same) ∙ d.2) (up_to_itself c.time))
              (λ below. subst (λ t. IsUpTo t c.time) d.2 below)
              (last_of_all UpTimes l c d.0 is up d.1),
        )
      ] refl

  -- the completed instants before the first pending one are just those that are reached
  pub reached_times : (time : List ℕ) → HasTime (up_to_head (timeline_of names)) time ↔ IsReached files time
  reached_times time = (λ at. subst (IsReached files) at.2 (reached_of at.0 at.1), reached_in time)

  -- and the oldest of them comes first
  pub order_up_to_head : AreInOrder (up_to_head (timeline_of names))
  order_up_to_head = in_order (up_to_head (timeline_of names)) (up_front (is_before (first_pending instants)) UpTimes completed up_completed)
