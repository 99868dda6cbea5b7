-- How the counts of a store go on from one run to the next.
use Rattle.std.proofs.Common.{◌≡◌, ◌≤◌, ◌∙◌, ℕ, refl, arith}
use Rattle.lake_store.specs.Cause.{HasContest, HasFault, HasNoContest, Rose}
pub use Rattle.source_core.proofs.Runs.{fails_as}

pub rose_from : (a b c : ℕ) → a ≤ b → Rose b c → Rose a c
rose_from a b c le rose = omega (arith, le, rose)

module _ {S : Type 0} (count : S → ℕ) (may : S → Type 0) where
  -- the same run, of another answer
  pub contested_as : (old new : S) (A B : Type 0) → (B → A) → (A → B) → HasContest count may old new A → HasContest count may old new B
  contested_as old new A B from back run = record { later = run.later; still = run.still; rose = λ b. run.rose (from b); allowed = λ b. run.allowed (from b); same = λ never. run.same (λ a. never (back a)) }

  -- no run at all
  pub fails_never : (s : S) (A : Type 0) → (A → ⊥) → HasFault count may s s A
  fails_never s A never = record { later = omega arith; still = λ m. m; rose = λ a. absurd (never a); allowed = λ a. absurd (never a) }

  pub contested_never : (s : S) (A : Type 0) → (A → ⊥) → HasContest count may s s A
  contested_never s A never = record { later = omega arith; still = λ m. m; rose = λ a. absurd (never a); allowed = λ a. absurd (never a); same = λ n. refl }

  pub uncontested_never : (s : S) → HasNoContest count may s s ⊥
  uncontested_never s = record { same = refl; still = λ m. m; never = λ never. never }

  -- two runs, of which the first was not refused
  pub fails_then : (old mid new : S) (A B : Type 0) → HasFault count may old mid A → HasFault count may mid new B → HasFault count may old new B
  fails_then old mid new A B run call =
      let one = run.later in
      let two = call.later in
      record {
        later = omega (arith, one, two);
        still = λ m. run.still (call.still m);
        rose = λ b. rose_from (count old) (count mid) (count new) one (call.rose b);
        allowed = λ b. run.still (call.allowed b);
      }

  pub contested_then : (old mid new : S) (A B : Type 0) → HasNoContest count may old mid A → HasContest count may mid new B → HasContest count may old new B
  contested_then old mid new A B run call =
      let one = run.same in
      let two = call.later in
      record {
        later = omega (arith, one, two);
        still = λ m. run.still (call.still m);
        rose = λ b. rose_same (count old) (count mid) (count new) one (call.rose b);
        allowed = λ b. run.still (call.allowed b);
        same = λ never. call.same never ∙ one;
      }
    where
      rose_same : (a b c : ℕ) → b ≡ a → Rose b c → Rose a c
      rose_same a b c same rose = omega (arith, same, rose)

  pub uncontested_then : (old mid new : S) (A B : Type 0) → HasNoContest count may old mid A → HasNoContest count may mid new B → HasNoContest count may old new B
  uncontested_then old mid new A B run call = record { same = call.same ∙ run.same; still = λ m. run.still (call.still m); never = call.never }

  -- without another writer, and of an answer that is no contest
  pub contested_of_none : (old new : S) (A B : Type 0) → (B → A) → HasNoContest count may old new A → HasContest count may old new B
  contested_of_none old new A B from run =
      let same = run.same in
      record { later = omega (arith, same); still = run.still; rose = λ b. absurd (run.never (from b)); allowed = λ b. absurd (run.never (from b)); same = λ never. same }
