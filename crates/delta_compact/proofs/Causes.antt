-- How refusals of the store are counted from one run to the next.
use Rattle.std.proofs.Common.{◌≡◌, ℕ, Err, refl, sym, ap, ◌∙◌, arith}
use Rattle.std.specs.Prelude.{IsErrOf, Result}
use Rattle.lake_store.specs.Cause.{HasContest, HasFault, HasNoContest}
use Rattle.lake_store.specs.declared.store.StoreError.{StoreError}
use Rattle.lake_store.specs.declared.store.StoreError.TheVariants as store
use Rattle.source_core.specs.declared.error.SourceError.{SourceError}
use Rattle.source_core.specs.declared.error.SourceError.TheVariants as source
use Rattle.delta_compact.specs.Refusals.{HasCause, of_source, of_store}
use Rattle.delta_compact.specs.declared.error.CompactFault.{CompactFault}
use Rattle.delta_compact.specs.declared.error.CompactFault.TheVariants.{Contested, StoreFault}

module _ {S : Type 0} (count : S → ℕ) (may : S → Type 0) where
  module _ (old mid new : S) (P Q R : Type 0) where
    -- a run that wasn't refused, and one that may be
    pub fault_further : HasFault count may old mid P → HasFault count may mid new Q → (R → Q) → HasFault count may old new R
    fault_further one two as_two =
        let first = one.later in
        let second = two.later in
        record {
          later = omega (arith, first, second);
          still = λ m. one.still (two.still m);
          rose = λ r. let rose = two.rose (as_two r) in omega (arith, first, rose);
          allowed = λ r. one.still (two.allowed (as_two r));
        }

    pub contest_further : HasContest count may old mid P → (P → ⊥) → HasContest count may mid new Q → (R → Q) → (Q → R) → HasContest count may old new R
    contest_further one never two as_two of_two =
        let first = one.later in
        let second = two.later in
        record {
          later = omega (arith, first, second);
          still = λ m. one.still (two.still m);
          rose = λ r. let rose = two.rose (as_two r) in omega (arith, first, rose);
          allowed = λ r. one.still (two.allowed (as_two r));
          same = λ none. two.same (λ q. none (of_two q)) ∙ one.same never;
        }

    -- a run in which no other writer was in the way, and one in which one may be
    pub contest_behind : HasNoContest count may old mid P → HasContest count may mid new Q → (R → Q) → (Q → R) → HasContest count may old new R
    contest_behind one two as_two of_two =
        let first = one.same in
        let second = two.later in
        record {
          later = omega (arith, first, second);
          still = λ m. one.still (two.still m);
          rose = λ r. let rose = two.rose (as_two r) in omega (arith, first, rose);
          allowed = λ r. one.still (two.allowed (as_two r));
          same = λ none. two.same (λ q. none (of_two q)) ∙ one.same;
        }

    pub uncontested_more : HasNoContest count may old mid P → HasContest count may mid new Q → (Q → ⊥) → HasNoContest count may old new ⊥
    uncontested_more one two never = record { same = two.same never ∙ one.same; still = λ m. one.still (two.still m); never = λ none. none }

    pub uncontested_further : HasNoContest count may old mid P → HasNoContest count may mid new Q → (R → Q) → HasNoContest count may old new R
    uncontested_further one two as_two = record { same = two.same ∙ one.same; still = λ m. one.still (two.still m); never = λ r. two.never (as_two r) }

  module _ (old new : S) (Q R : Type 0) where
    pub uncontested_as : HasNoContest count may old new Q → (R → ⊥) → HasNoContest count may old new R
    uncontested_as run never = record { same = run.same; still = run.still; never = never }

    pub fault_as : HasFault count may old new Q → (R → Q) → HasFault count may old new R
    fault_as run to = record { later = run.later; still = run.still; rose = λ r. run.rose (to r); allowed = λ r. run.allowed (to r) }

    pub contest_as : HasContest count may old new Q → (R → Q) → (Q → R) → HasContest count may old new R
    contest_as run to back = record { later = run.later; still = run.still; rose = λ r. run.rose (to r); allowed = λ r. run.allowed (to r); same = λ none. run.same (λ q. none (back q)) }

    -- where no other writer was in the way
    pub contest_of_none : HasNoContest count may old new Q → (R → ⊥) → HasContest count may old new R
    contest_of_none run never = record { later = (let same = run.same in omega (arith, same)); still = run.still; rose = λ r. absurd (never r); allowed = λ r. absurd (never r); same = λ none. run.same }

-- ---- how they are told

pub only_failed : (e : StoreError) → of_store e ≡ StoreFault → e ≡ store.Failed
only_failed store.Memory is = absurd (cc)
only_failed store.Failed is = refl
only_failed (store.TooLong n) is = absurd (cc)
only_failed store.Taken is = absurd (cc)

pub only_taken : (e : StoreError) → of_store e ≡ Contested → e ≡ store.Taken
only_taken store.Memory is = absurd (cc)
only_taken store.Failed is = absurd (cc)
only_taken (store.TooLong n) is = absurd (cc)
only_taken store.Taken is = refl

pub source_contested : (e : SourceError) → of_source e ≡ Contested → ⊥
source_contested source.Memory is = cc
source_contested source.Absent is = cc
source_contested (source.Malformed path) is = cc
source_contested (source.Unsupported feature path) is = cc
source_contested (source.Limit which number) is = cc
source_contested source.StoreFault is = cc

pub source_failed : (e : SourceError) → of_source e ≡ StoreFault → e ≡ source.StoreFault
source_failed source.Memory is = absurd (cc)
source_failed source.Absent is = absurd (cc)
source_failed (source.Malformed path) is = absurd (cc)
source_failed (source.Unsupported feature path) is = absurd (cc)
source_failed (source.Limit which number) is = absurd (cc)
source_failed source.StoreFault is = refl

-- no file shows a cause
pub store_caused : (P : CompactFault → Type 0) (e : StoreError) → HasCause P (of_store e)
store_caused P store.Memory = tt
store_caused P store.Failed = tt
store_caused P (store.TooLong n) = tt
store_caused P store.Taken = tt

-- ---- how an error goes on

pub err_same : {T U : Type 0} (r : Result T CompactFault) (e f g : CompactFault) → r ≡ Err e → e ≡ f → IsErrOf {T = U} (Err f) g → IsErrOf r g
err_same r e f g is same told = is ∙ ap (λ x. Err x) same ∙ (let one : f ≡ g = cc in ap (λ x. Err x) one)

pub err_back : {T U : Type 0} (r : Result T CompactFault) (e f g : CompactFault) → r ≡ Err e → e ≡ f → IsErrOf r g → IsErrOf {T = U} (Err f) g
err_back r e f g is same told = let one : e ≡ g = cc in ap (λ x. Err x) (sym same ∙ one)

pub err_once : (a b : CompactFault) → IsErrOf {T = Unit {0}} (Err a) b → a ≡ b
err_once a b is = cc

err_one : {T : Type 0} (a b : CompactFault) → IsErrOf {T = T} (Err a) b → a ≡ b
err_one a b is = cc

store_once : {T : Type 0} (a b : StoreError) → IsErrOf {T = T} (Err a) b → a ≡ b
store_once a b is = cc

module _ {T U : Type 0} (e : StoreError) (told : CompactFault) (is : told ≡ of_store e) where
  pub taken_told : IsErrOf {T = T} (Err e) store.Taken → IsErrOf {T = U} (Err told) Contested
  taken_told taken = ap (λ x. Err x) (is ∙ ap of_store (store_once e store.Taken taken))

  pub taken_of : IsErrOf {T = U} (Err told) Contested → IsErrOf {T = T} (Err e) store.Taken
  taken_of contested = ap (λ x. Err x) (only_taken e (sym is ∙ err_one told Contested contested))

  pub failed_of : IsErrOf {T = U} (Err told) StoreFault → IsErrOf {T = T} (Err e) store.Failed
  failed_of failed = ap (λ x. Err x) (only_failed e (sym is ∙ err_one told StoreFault failed))
