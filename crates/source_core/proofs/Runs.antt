-- How causes go on from one run of a store to the next.
use Rattle.std.proofs.Common.{ℕ, arith}
use Rattle.lake_store.specs.Cause.{HasFault}

module _ {S : Type 0} (count : S → ℕ) (may : S → Type 0) where
  -- a refusal in the second run
  pub fails_then : (old mid new : S) (First Second Told : Type 0) → HasFault count may old mid First → HasFault count may mid new Second → (Told → Second) → HasFault count may old new Told
  fails_then old mid new First Second Told run call from =
      let one = run.later in
      let two = call.later in
      record {
        later = omega (arith, one, two);
        still = λ m. run.still (call.still m);
        rose = λ t. let three = call.rose (from t) in omega (arith, one, three);
        allowed = λ t. run.still (call.allowed (from t));
      }

  -- the same run, of another answer
  pub fails_as : (old new : S) (Refused Told : Type 0) → (Told → Refused) → HasFault count may old new Refused → HasFault count may old new Told
  fails_as old new Refused Told from run = record { later = run.later; still = run.still; rose = λ t. run.rose (from t); allowed = λ t. run.allowed (from t) }
