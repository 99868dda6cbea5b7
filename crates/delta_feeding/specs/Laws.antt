-- What pieces come to, however the bytes of a commit are cut.
use Rattle.std.specs.Prelude.{◌≡◌, ℕ, ◌-◌, ◌^◌, ◌<◌, List, [], ◌∷◌, ◌++◌, length, true, IfOk, IfErr, Result, Ok, Err}
use Rattle.lake_basics.specs.Outcome.{◌>>=◌}
use Rattle.delta_log.specs.declared.commit.DeltaCommit.{DeltaCommit}
use Rattle.delta_log.specs.declared.error.DeltaError.{DeltaError}
use Rattle.delta_log.specs.Judging.{Answers, with_lines, no_lines, is_newline, lines_of, commit_of}
use Rattle.delta_log.specs.Readable.{IsFirstFault, IsReadableCommit, IsRefusal}
use Rattle.delta_feeding.specs.Feeding.{SoFar, State, nothing_read, fed, ended}

-- Two pieces make of it what they make as one.
abbrev pub PiecesJoin : Type 0
PiecesJoin = (state : State) (p q : List ℕ) → fed state (p ++ q) ≡ fed (fed state p) q

-- After some bytes just this has been read: how many lines newlines end, what these lines say, and the bytes behind the last newline. A line at fault is refused as soon as its newline is read.
abbrev pub IsJustRead : Type 0
IsJustRead = (bytes : List ℕ) (whole : List (List ℕ)) (rest : List ℕ) → length bytes < 2 ^ 64 - 1 → lines_of bytes ≡ whole ++ rest ∷ []
    → fed nothing_read bytes ≡ (with_lines 1 no_lines whole >>= λ c. Ok (record { whole = record { lines = length whole; commit = c }; rest = rest }))

-- The end of the bytes gives what all of them are.
abbrev pub EndIsWhole : Type 0
EndIsWhole = (bytes : List ℕ) → length bytes < 2 ^ 64 - 1 → ended (fed nothing_read bytes) ≡ commit_of bytes

-- What `read_commit` answers for the bytes.
pub record IsAnswerFor (bytes : List ℕ) (result : Result DeltaCommit DeltaError) : Type 0 where
  pub found : IfOk result (λ c. IsReadableCommit bytes c)
  pub only : (c : DeltaCommit) → IsReadableCommit bytes c → Answers result (Ok c)
  pub fault : IfErr result (λ e. IsRefusal bytes e)
  pub exact : Answers result (commit_of bytes)

-- ---- faults that are told before the end

-- A line that a newline ends among these bytes is the first at fault, and has this fault.
pub record IsFaultWithin (bytes : List ℕ) (e : DeltaError) : Type 0 where
  pub front : List ℕ
  pub newline : ℕ
  pub behind : List ℕ
  pub is : is_newline newline ≡ true
  pub split : bytes ≡ front ++ newline ∷ behind
  pub fault : IsFirstFault front e

-- What is refused after some bytes is such a line.
abbrev pub IsToldEarly : Type 0
IsToldEarly = (bytes : List ℕ) (e : DeltaError) → length bytes < 2 ^ 64 - 1 → fed nothing_read bytes ≡ Err e → IsFaultWithin bytes e

-- Where nothing is refused there is no such line.
abbrev pub IsTakenSound : Type 0
IsTakenSound = (bytes : List ℕ) (s : SoFar) (e : DeltaError) → length bytes < 2 ^ 64 - 1 → fed nothing_read bytes ≡ Ok s → ¬ IsFaultWithin bytes e

-- It stays the first fault, whatever bytes follow.
abbrev pub IsFaultForGood : Type 0
IsFaultForGood = (bytes more : List ℕ) (e : DeltaError) → IsFaultWithin bytes e → IsFirstFault (bytes ++ more) e
