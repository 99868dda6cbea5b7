-- How causes go on from one run of a store to the next.
use Rattle.std.proofs.Common.{◌∙◌, ℕ, arith}
use Rattle.lake_store.specs.Cause.{HasFault, HasNoContest}

module _ {S : Type 0} (count : S → ℕ) (may : S → Type 0) (old mid new : S) where
  pub fails_never : (Refused : Type 0) → HasFault count may old mid ⊥ → HasFault count may mid new Refused → HasFault count may old new ⊥
  fails_never Refused run call =
      let one = run.later in
      let two = call.later in
      record {
        later = omega (arith, one, two);
        still = λ m. run.still (call.still m);
        rose = λ never. absurd never;
        allowed = λ never. absurd never;
      }

  pub uncontested_further : HasNoContest count may old mid ⊥ → HasNoContest count may mid new ⊥ → HasNoContest count may old new ⊥
  uncontested_further run call = record {
    same = call.same ∙ run.same;
    still = λ m. run.still (call.still m);
    never = λ none. none;
  }
