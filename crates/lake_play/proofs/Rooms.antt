-- That no call of a fuse takes more files than there is room for until its stop.
use Rattle.std.proofs.Common.{◌≡◌, ◌≢◌, ◌⊎◌, inl, inr, ⊎_elim, ℕ, ◌+◌, ◌-◌, ◌*◌, ◌^◌, ◌≤◌, ◌<◌, min, ◌==◌, Bool, true, false, not, if◌then◌else◌, ◌||◌, List, [], ◌∷◌, Option, Some, None, refl, sym, ap, subst, ◌∙◌, arith}
use Rattle.std.specs.Prelude.{Result, IsErrOf, nat_le}
use Rattle.std.specs.List.{list_any}
use Rattle.std.specs.FinMap as map
use Rattle.std.proofs.lemmas.Bool.{cases_lt, false≢true}
use Rattle.std.proofs.lemmas.Bool.Decides.{nat_tests}
use Rattle.lake_store.specs.Cause.{HasContest, HasNoContest, Rose, count_of}
use Rattle.lake_store.specs.Fuse.{FuseCanBeContested, PublishesByScript, RunsByScript, contests_of, fails, is_stopped, next_of, room_of, room_until}
use Rattle.lake_store.specs.declared.fuse.FuseStore.{FuseStore}
use Rattle.lake_store.specs.declared.fuse.Script.{Script}
use Rattle.lake_store.specs.declared.store.StoreError.{StoreError}
use Rattle.lake_store.specs.declared.store.StoreError.TheVariants.{Taken}
use Rattle.lake_play.specs.Scripted.{ScriptedCanBeContested, has_room, known_room, scripted_contests, some_of, stop_of}
use Rattle.lake_play.specs.declared.scripted.Scripted.{Scripted}
use Rattle.lake_basics.proofs.Numbers.{le_test}

-- ---- a call takes no room

-- From a stop on there is none left.
none_left : (stop calls files more : ℕ) → stop ≤ 2 ^ 64 - 1 → stop ≤ calls → more ≡ files → min (more + (stop - next_of calls)) (2 ^ 64 - 1) ≤ min (files + (stop - calls)) (2 ^ 64 - 1)
none_left stop calls files more near past same = omega (arith, near, past, same)

one_less : (stop calls files more : ℕ) → stop ≤ 2 ^ 64 - 1 → calls < stop → more ≤ files + 1 → min (more + (stop - next_of calls)) (2 ^ 64 - 1) ≤ min (files + (stop - calls)) (2 ^ 64 - 1)
one_less stop calls files more near ahead few = omega (arith, near, ahead, few)

is_past : (stop calls : ℕ) (named : Bool) → stop ≤ calls → (nat_le stop calls || named) ≡ true
is_past stop calls named past = ap (λ (b : Bool). b || named) (le_test stop calls past)

-- a stop of 64 bits
within_64 : (stop : ℕ) → stop_of (Some stop) ≡ 1 → stop ≤ 2 ^ 64 - 1
within_64 stop is = by (nat_le stop (2 ^ 64 - 1)) refl is
  where
    by : (b : Bool) → nat_le stop (2 ^ 64 - 1) ≡ b → ◌≡◌ {A = ℕ} (if b then 1 else 2) 1 → stop ≤ 2 ^ 64 - 1
    by true least is = grind (arith, nat_tests, least)
    by false least is = absurd (omega (arith, is))

room_falls : (script : Script) (calls files more : ℕ) → stop_of script.stop ≡ 1 → more ≤ files + 1 → (fails script calls ≡ true → more ≡ files) → room_until script.stop (next_of calls) more ≤ room_until script.stop calls files
room_falls script calls files more near few same = by script.stop refl
  where
    by : (stop : Option ℕ) → script.stop ≡ stop → room_until stop (next_of calls) more ≤ room_until stop calls files
    by None is = omega arith
    by (Some stop) is =
        let within : stop ≤ 2 ^ 64 - 1 = within_64 stop (sym (ap stop_of is) ∙ near) in
        ⊎_elim
        (λ (ahead : calls < stop). one_less stop calls files more within ahead few)
        (λ (past : stop ≤ calls). none_left stop calls files more within past
        (same (ap (λ (o : Option ℕ). is_stopped o calls || list_any (λ n. n == calls) script.failing.items) is ∙ is_past stop calls (list_any (λ n. n == calls) script.failing.items) past)))
        (cases_lt calls stop)

-- ---- a call of the store that has been given room

abbrev given : FuseStore → ℕ → Scripted
given fuse room = record { fuse = fuse; room = room }

one_is : (n : ℕ) → (n == 1) ≡ true → n ≡ 1
one_is n is = grind (arith, nat_tests, is)

still_room : (stop : Bool) (a b room : ℕ) → (stop ≡ true → b ≤ a) → (not stop || nat_le b room) ≡ false → (not stop || nat_le a room) ≡ false
still_room false a b room falls full = full
still_room true a b room falls full = let less = falls refl in grind (arith, nat_tests, less, full)

module _ (old new : FuseStore) (room : ℕ) (calls : new.calls ≡ next_of old.calls) (script : new.script ≡ old.script) (few : map.len new.inner.disk.files ≤ map.len old.inner.disk.files + 1)
    (idle : fails old.script old.calls ≡ true → new.inner ≡ old.inner) where
  rooms : stop_of old.script.stop ≡ 1 → room_of new ≤ room_of old
  rooms near =
      subst (λ (s : Script). room_until s.stop new.calls (map.len new.inner.disk.files) ≤ room_of old) (sym script)
      (subst (λ (n : ℕ). room_until old.script.stop n (map.len new.inner.disk.files) ≤ room_of old) (sym calls)
      (room_falls old.script old.calls (map.len old.inner.disk.files) (map.len new.inner.disk.files) near few (λ stopped. ap (λ m. map.len m.disk.files) (idle stopped))))

  pub full_before : has_room (given new room) ≡ false → has_room (given old room) ≡ false
  full_before full =
      still_room (stop_of old.script.stop == 1) (room_of old) (room_of new) room (λ is. rooms (one_is (stop_of old.script.stop) is))
      (subst (λ (s : Script). (not (stop_of s.stop == 1) || nat_le (room_of new) room) ≡ false) script full)

  still : (FuseCanBeContested new → FuseCanBeContested old) → ScriptedCanBeContested (given new room) → ScriptedCanBeContested (given old room)
  still can (inl contested) = inl (can contested)
  still can (inr full) = inr (full_before full)

  -- what a sync doesn't change
  abbrev low : Script → ℕ
  low s = known_room (given old room) * 8 + (stop_of s.stop * 2 + some_of s.failing.items)

  contests_are : scripted_contests (given new room) ≡ count_of (contests_of new * 2 ^ 35 + low old.script)
  contests_are = ap (λ (s : Script). count_of (contests_of new * 2 ^ 35 + low s)) script

  pub uncounted : contests_of new ≡ contests_of old → scripted_contests (given new room) ≡ scripted_contests (given old room)
  uncounted same = contests_are ∙ ap (λ (n : ℕ). count_of (n * 2 ^ 35 + low old.script)) same

  pub uncontested : (Refused : Type 0) → HasNoContest contests_of FuseCanBeContested old new Refused → HasNoContest scripted_contests ScriptedCanBeContested (given old room) (given new room) Refused
  uncontested Refused none = record { same = uncounted none.same; still = still none.still; never = none.never }

  later : contests_of old ≤ contests_of new → scripted_contests (given old room) ≤ scripted_contests (given new room)
  later up = let is = contests_are in omega (arith, up, is)

  rose : Rose (contests_of old) (contests_of new) → Rose (scripted_contests (given old room)) (scripted_contests (given new room))
  rose up = let is = contests_are in omega (arith, up, is)

  pub contested : (Refused : Type 0) → HasContest contests_of FuseCanBeContested old new Refused → HasContest scripted_contests ScriptedCanBeContested (given old room) (given new room) Refused
  contested Refused by = record {
    later = later by.later;
    still = still by.still;
    rose = λ refused. rose (by.rose refused);
    allowed = λ refused. inl (by.allowed refused);
    same = λ none. uncounted (by.same none);
  }

-- ---- the calls

pub runs_within : {T : Type 0} (old new : FuseStore) (room : ℕ) (r : Result T StoreError) → RunsByScript old new r → map.len new.inner.disk.files ≤ map.len old.inner.disk.files + 1
    → HasNoContest contests_of FuseCanBeContested old new (IsErrOf r Taken) → HasNoContest scripted_contests ScriptedCanBeContested (given old room) (given new room) (IsErrOf r Taken)
runs_within old new room r runs few none =
    uncontested old new room (ap (λ (f : FuseStore). f.calls) runs.counts) (ap (λ (f : FuseStore). f.script) runs.counts) few (λ stopped. (runs.failing stopped).1) (IsErrOf r Taken) none

pub publishes_within : {T : Type 0} (to : List ℕ) (old new : FuseStore) (room : ℕ) (r : Result T StoreError) → PublishesByScript to old new r → map.len new.inner.disk.files ≤ map.len old.inner.disk.files + 1
    → HasContest contests_of FuseCanBeContested old new (IsErrOf r Taken) → HasContest scripted_contests ScriptedCanBeContested (given old room) (given new room) (IsErrOf r Taken)
publishes_within to old new room r runs few by =
    contested old new room (ap (λ (f : FuseStore). f.calls) runs.counts) (ap (λ (f : FuseStore). f.script) runs.counts) few (λ stopped. (runs.failing stopped).1) (IsErrOf r Taken) by

-- ---- what is known behind a sync in which no other writer was in the way

some_most : (calls : List ℕ) → some_of calls ≤ 1
some_most [] = omega arith
some_most (call ∷ calls) = omega arith

pub none_named : (calls : List ℕ) → some_of calls ≡ 0 → calls ≡ []
none_named [] is = refl
none_named (call ∷ calls) is = absurd (omega (arith, is))

stop_most : (stop : Option ℕ) → stop_of stop ≤ 2
stop_most None = omega arith
stop_most (Some stop) = by (nat_le stop (2 ^ 64 - 1))
  where
    by : (b : Bool) → (if b then 1 else 2) ≤ 2
    by true = omega arith
    by false = omega arith

-- What one number tells of four.
pub record Told (d q b y r a x : ℕ) : Type 0 where
  pub contests : d ≡ 0
  pub room : q ≡ r
  pub stop : b ≡ a
  pub some : y ≡ x

numbers_told : (c r a x d q b y : ℕ) → c ≡ 0 → r ≤ 2 ^ 32 - 1 → q ≤ 2 ^ 32 - 1 → a ≤ 2 → b ≤ 2 → x ≤ 1 → y ≤ 1 → min (d * 2 ^ 35 + (q * 8 + (b * 2 + y))) (2 ^ 64 - 1) ≡ min (c * 2 ^ 35 + (r * 8 + (a * 2 + x))) (2 ^ 64 - 1) → Told d q b y r a x
numbers_told c r a x d q b y none r_most q_most a_most b_most x_most y_most same =
    let all : d * 2 ^ 35 + (q * 8 + (b * 2 + y)) ≡ r * 8 + (a * 2 + x) = omega (arith, none, r_most, a_most, x_most, same) in
    let uncounted : d ≡ 0 = omega (arith, all, r_most, a_most, x_most) in
    let room : q ≡ r = omega (arith, all, uncounted, a_most, b_most, x_most, y_most) in
    let stop : b ≡ a = omega (arith, all, uncounted, room, x_most, y_most) in
    record { contests = uncounted; room = room; stop = stop; some = omega (arith, all, uncounted, room, stop) }

pub told_by : (s t : Scripted) → contests_of s.fuse ≡ 0 → scripted_contests t ≡ scripted_contests s
    → Told (contests_of t.fuse) (known_room t) (stop_of t.fuse.script.stop) (some_of t.fuse.script.failing.items) (known_room s) (stop_of s.fuse.script.stop) (some_of s.fuse.script.failing.items)
told_by s t none same =
    numbers_told (contests_of s.fuse) (known_room s) (stop_of s.fuse.script.stop) (some_of s.fuse.script.failing.items) (contests_of t.fuse) (known_room t) (stop_of t.fuse.script.stop) (some_of t.fuse.script.failing.items)
    none (omega arith) (omega arith) (stop_most s.fuse.script.stop) (stop_most t.fuse.script.stop) (some_most s.fuse.script.failing.items) (some_most t.fuse.script.failing.items) same

never_full : (stop : Bool) (n : ℕ) → (not stop || nat_le n n) ≡ false → ⊥
never_full false n is = false≢true (sym is)
never_full true n is = false≢true (sym is ∙ le_test n n (omega arith))

-- With the room that it leaves a fuse enters no contest.
pub enters_free : (fuse : FuseStore) → (FuseCanBeContested fuse → ⊥) → ScriptedCanBeContested (given fuse (room_of fuse)) → ⊥
enters_free fuse none (inl can) = none can
enters_free fuse none (inr full) = never_full (stop_of fuse.script.stop == 1) (room_of fuse) full

within_room : (stop : Bool) (n room : ℕ) → ((not stop || nat_le n room) ≡ false → ⊥) → stop ≡ true → n ≤ room
within_room false n room free is = absurd (false≢true is)
within_room true n room free is = by (nat_le n room) refl
  where
    by : (b : Bool) → nat_le n room ≡ b → n ≤ room
    by true least = grind (arith, nat_tests, least)
    by false least = absurd (free least)

one_tested : (n : ℕ) → n ≡ 1 → (n == 1) ≡ true
one_tested n is = grind (arith, nat_tests, is)

-- ---- files, and calls until the stop

-- the calls until a stop
abbrev pub left_until : Option ℕ → ℕ → ℕ
left_until None calls = 0
left_until (Some stop) calls = stop - calls

-- the files that there may be at most once all calls fail
abbrev pub held_by : FuseStore → ℕ
held_by fuse = map.len fuse.inner.disk.files + left_until fuse.script.stop fuse.calls

room_is : (stop : Option ℕ) (calls files : ℕ) → stop_of stop ≡ 1 → room_until stop calls files ≡ min (files + left_until stop calls) (2 ^ 64 - 1)
room_is None calls files is = absurd (omega (arith, is))
room_is (Some stop) calls files is = refl

-- A sync behind a stop holds no more.
pub held_falls : (old new : FuseStore) (room : ℕ) → (ScriptedCanBeContested (given new room) → ⊥) → known_room (given new room) ≡ known_room (given old (room_of old)) → stop_of old.script.stop ≡ 1 → stop_of new.script.stop ≡ 1
    → held_by old < 2 ^ 31 → held_by new ≤ held_by old
held_falls old new room free same before after few =
    let within = within_room (stop_of new.script.stop == 1) (room_of new) room (λ full. free (inr full)) (one_tested (stop_of new.script.stop) after) in
    let new_is = room_is new.script.stop new.calls (map.len new.inner.disk.files) after in
    let old_is = room_is old.script.stop old.calls (map.len old.inner.disk.files) before in
    omega (arith, within, new_is, old_is, same, few)
