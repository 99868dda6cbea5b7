-- What the ids are that paths are given, and when there are none.
use Rattle.std.proofs.Common.{◌≡◌, ℕ, zero, suc, ◌<◌, List, [], ◌∷◌, length, Bool, true, false, cond, Result, Ok, Err, refl, sym, ap, subst, ◌∙◌, arith}
use Rattle.std.specs.Prelude.{◌≤ℤ◌, ◌<ℤ◌, ◌+ℤ◌, ℤ, pos, int_lt, Option, Some, None, IfOk, IfErr}
use Rattle.std.proofs.lemmas.Int.{ints}
use Rattle.lake_basics.specs.Outcome.{◌>>=◌, GivesUnlessMemory}
use Rattle.lake_basics.specs.declared.limits.TheConstants.{MAX_ICEBERG_VERSION}
use Rattle.table_history.specs.declared.limit.LimitKind.TheVariants.{Versions}
use Rattle.schema_map.specs.declared.fault.MapError.{MapError}
use Rattle.schema_map.specs.declared.fault.MapError.TheVariants as errors
use Rattle.schema_map.specs.declared.fault.MapError.TheVariants.{Limit}
use Rattle.schema_map.specs.Errors.{is_memory}
use Rattle.schema_map.specs.Paths.{Path, known_id}
use Rattle.iceberg_field_ids.specs.Ids.{next_id, id_step, ids_for, new_count, new_ids, ids_after, PassesGreatest, HasNoIds}
use Rattle.schema_map.proofs.Bound.{bound}

pub record AreGiven (known : List (Path × ℤ)) (last : ℤ) (paths : List Path) (ids : List ℤ) : Type 0 where
  pub size : length ids ≡ length paths
  pub next : new_ids known paths ids ≡ ids_after last (new_count known paths)
  pub room : 0 < new_count known paths → (last +ℤ pos (new_count known paths)) ≤ℤ pos MAX_ICEBERG_VERSION

-- the next id, where there is one
record Next (last id : ℤ) : Type 0 where
  is : last +ℤ pos 1 ≡ id
  small : last <ℤ pos MAX_ICEBERG_VERSION

next_is : (last id : ℤ) → next_id last ≡ Ok id → Next last id
next_is last id e = at (int_lt last (pos MAX_ICEBERG_VERSION)) refl e
  where
    at : (b : Bool) → int_lt last (pos MAX_ICEBERG_VERSION) ≡ b → cond b (Ok (last +ℤ pos 1)) (Err (Limit Versions)) ≡ Ok id → Next last id
    at true is h = record { is = cc; small = grind (arith, ints, is) }
    at false is h = absurd (cc)

module _ (known : List (Path × ℤ)) (path : Path) (paths : List Path) where
  known_given : (last i : ℤ) (others : List ℤ) → known_id known path ≡ Some i → AreGiven known last paths others → AreGiven known last (path ∷ paths) (i ∷ others)
  known_given last i others is rest =
      record {
        size = let h = rest.size in omega (arith, h);
        next = rw is rest.next;
        room = rw is rest.room;
      }

  new_given : (last id : ℤ) (others : List ℤ) → known_id known path ≡ None → Next last id → AreGiven known id paths others → AreGiven known last (path ∷ paths) (id ∷ others)
  new_given last id others is next rest =
      record {
        size = let h = rest.size in omega (arith, h);
        next = rw (is, next.is) (ap (λ xs. id ∷ xs) rest.next);
        room = rw is (λ some. room_by (new_count known paths) rest.room);
      }
    where
      room_by : (n : ℕ) → (0 < n → (id +ℤ pos n) ≤ℤ pos MAX_ICEBERG_VERSION) → (last +ℤ pos (suc n)) ≤ℤ pos MAX_ICEBERG_VERSION
      room_by zero more = let a = next.small in omega (arith, ints, a)
      room_by (suc n) more = let a = more (omega arith) in let b = next.is in omega (arith, ints, a, b)

  given_by : (last : ℤ) (ids : List ℤ) (o : Option ℤ) → known_id known path ≡ o → ((later : ℤ) (others : List ℤ) → ids_for known later paths ≡ Ok others → AreGiven known later paths others) → ids_for known last (path ∷ paths) ≡ Ok ids → AreGiven known last (path ∷ paths) ids
  given_by last ids (Some i) is more e =
      let f : (ids_for known last paths >>= λ others. Ok (i ∷ others)) ≡ Ok ids = rw is at e in
      let others = bound (ids_for known last paths) _ ids f in
      let all : i ∷ others.value ≡ ids = let g = others.behind in cc in
      subst (λ xs. AreGiven known last (path ∷ paths) xs) all (known_given last i others.value is (more last others.value others.first))
  given_by last ids None is more e =
      let f : (id_step last None >>= λ t. ids_for known t.1 paths >>= λ others. Ok (t.0 ∷ others)) ≡ Ok ids = rw is at e in
      let t = bound (id_step last None) _ ids f in
      let next = bound (next_id last) _ t.value t.first in
      let others = bound (ids_for known t.value.1 paths) _ ids t.behind in
      let both : (next.value, next.value) ≡ t.value = let g = next.behind in cc in
      let later : t.value.1 ≡ next.value = sym (ap (λ p. p.1) both) in
      let all : next.value ∷ others.value ≡ ids = let g = others.behind in let h : next.value ≡ t.value.0 = ap (λ p. p.0) both in cc in
      let read : ids_for known next.value paths ≡ Ok others.value = subst (λ j. ids_for known j paths ≡ Ok others.value) later others.first in
      subst (λ xs. AreGiven known last (path ∷ paths) xs) all (new_given last next.value others.value is (next_is last next.value next.first) (more next.value others.value read))

pub are_given : (known : List (Path × ℤ)) (last : ℤ) (paths : List Path) (ids : List ℤ) → ids_for known last paths ≡ Ok ids → AreGiven known last paths ids
are_given known last [] ids e =
    let none : [] ≡ ids = cc in
    subst (λ xs. AreGiven known last [] xs) none (record { size = refl; next = refl; room = λ some. absurd (omega (arith, some)) })
are_given known last (path ∷ paths) ids e = given_by known path paths last ids (known_id known path) refl (λ later others. are_given known later paths others) e

-- ---- where there are none

-- the refusal of a new id
record NoNext (last : ℤ) (e : MapError) : Type 0 where
  is : Limit Versions ≡ e
  full : pos MAX_ICEBERG_VERSION ≤ℤ last

no_next : (last : ℤ) (x : MapError) → next_id last ≡ Err x → NoNext last x
no_next last x e = at (int_lt last (pos MAX_ICEBERG_VERSION)) refl e
  where
    at : (b : Bool) → int_lt last (pos MAX_ICEBERG_VERSION) ≡ b → cond b (Ok (last +ℤ pos 1)) (Err (Limit Versions)) ≡ Err x → NoNext last x
    at true is h = absurd (cc)
    at false is h = record { is = cc; full = grind (arith, ints, is) }

-- The ids that are left to give pass the greatest one.
record NoneGiven (known : List (Path × ℤ)) (last : ℤ) (paths : List Path) (e : MapError) : Type 0 where
  is : Limit Versions ≡ e
  some : 0 < new_count known paths
  passes : pos MAX_ICEBERG_VERSION <ℤ (last +ℤ pos (new_count known paths))

-- which of two steps refused
abbrev Refused : {A B E : Type 0} → Result A E → (A → Result B E) → E → Type 0
Refused (Ok x) f e = f x ≡ Err e
Refused (Err d) f e = d ≡ e

refused : {A B E : Type 0} (r : Result A E) (f : A → Result B E) (e : E) → (r >>= f) ≡ Err e → Refused r f e
refused (Ok x) f e h = h
refused (Err d) f e h = cc

module _ (known : List (Path × ℤ)) (path : Path) (paths : List Path) (x : MapError) where
  abbrev Rest : Type 0
  Rest = (later : ℤ) → ids_for known later paths ≡ Err x → NoneGiven known later paths x

  behind_known : (last i : ℤ) (r : Result (List ℤ) MapError) → known_id known path ≡ Some i → ids_for known last paths ≡ r → Rest → (r >>= λ others. Ok (i ∷ others)) ≡ Err x → NoneGiven known last (path ∷ paths) x
  behind_known last i (Ok others) is read more e = absurd (cc)
  behind_known last i (Err d) is read more e =
      let same : d ≡ x = cc in
      let rest = more last (read ∙ ap Err same) in
      record { is = rest.is; some = rw is rest.some; passes = rw is rest.passes }

  behind_new : (last id : ℤ) (r : Result (List ℤ) MapError) → known_id known path ≡ None → Next last id → ids_for known id paths ≡ r → Rest → (r >>= λ others. Ok (id ∷ others)) ≡ Err x → NoneGiven known last (path ∷ paths) x
  behind_new last id (Ok others) is next read more e = absurd (cc)
  behind_new last id (Err d) is next read more e =
      let same : d ≡ x = cc in
      let rest = more id (read ∙ ap Err same) in
      record {
        is = rest.is;
        some = rw is (omega arith);
        passes = rw is (let a = rest.passes in let b = next.is in omega (arith, ints, a, b));
      }

  abbrev both_of : ℤ → Result (ℤ × ℤ) MapError
  both_of id = Ok (id, id)

  at_new : (last : ℤ) (r : Result ℤ MapError) → known_id known path ≡ None → next_id last ≡ r → Rest → ((r >>= both_of) >>= λ t. ids_for known t.1 paths >>= λ others. Ok (t.0 ∷ others)) ≡ Err x → NoneGiven known last (path ∷ paths) x
  at_new last (Ok id) is given more e = behind_new last id (ids_for known id paths) is (next_is last id given) refl more e
  at_new last (Err d) is given more e =
      let same : d ≡ x = cc in
      let none = no_next last d given in
      record {
        is = none.is ∙ same;
        some = rw is (omega arith);
        passes = rw is (let a = none.full in omega (arith, ints, a));
      }

  refused_by : (last : ℤ) (o : Option ℤ) → known_id known path ≡ o → Rest → (id_step last o >>= λ t. ids_for known t.1 paths >>= λ others. Ok (t.0 ∷ others)) ≡ Err x → NoneGiven known last (path ∷ paths) x
  refused_by last (Some i) is more e = behind_known last i (ids_for known last paths) is refl more e
  refused_by last None is more e = at_new last (next_id last) is refl more e

none_given : (known : List (Path × ℤ)) (last : ℤ) (paths : List Path) (x : MapError) → ids_for known last paths ≡ Err x → NoneGiven known last paths x
none_given known last [] x e = absurd (cc)
none_given known last (path ∷ paths) x e = refused_by known path paths x last (known_id known path) refl (λ later. none_given known later paths x) e

refusal_is : (known : List (Path × ℤ)) (last : ℤ) (paths : List Path) (x : MapError) → NoneGiven known last paths x → HasNoIds known last paths x
refusal_is known last paths x none = subst (λ y. HasNoIds known last paths y) none.is (refl, (none.some, none.passes))

-- ---- what a call gives

module _ {A : Type 0} (view : A → List ℤ) (known : List (Path × ℤ)) (last : ℤ) (paths : List Path) where
  pub given_next : (r : Result A MapError) → GivesUnlessMemory is_memory view r (ids_for known last paths) → IfOk r (λ p. new_ids known paths (view p) ≡ ids_after last (new_count known paths))
  given_next (Ok p) given = (are_given known last paths (view p) given).next
  given_next (Err e) given = tt

  pub given_room : (r : Result A MapError) → GivesUnlessMemory is_memory view r (ids_for known last paths) → IfOk r (λ p. PassesGreatest known last paths → ⊥)
  given_room (Ok p) given = λ passes. let most = (are_given known last paths (view p) given).room passes.0 in let over = passes.1 in omega (arith, ints, most, over)
  given_room (Err e) given = tt

  refusal_given : (x : MapError) → ids_for known last paths ≡ Err x → HasNoIds known last paths x
  refusal_given x is = refusal_is known last paths x (none_given known last paths x is)

  pub given_limit : (r : Result A MapError) → GivesUnlessMemory is_memory view r (ids_for known last paths) → IfErr r (λ e. HasNoIds known last paths e)
  given_limit (Ok p) given = tt
  given_limit (Err errors.Memory) given = tt
  given_limit (Err errors.BadSchema) given = refusal_given errors.BadSchema given
  given_limit (Err (errors.SchemaType n)) given = refusal_given (errors.SchemaType n) given
  given_limit (Err (errors.AvroName n)) given = refusal_given (errors.AvroName n) given
  given_limit (Err (errors.Limit w)) given = refusal_given (errors.Limit w) given
