-- A commit that comes in pieces: what has been read of it, and what a piece more makes of that.
use Rattle.std.specs.Prelude.{ℕ, ◌+◌, ◌-◌, ◌^◌, min, List, [], ◌∷◌, ◌++◌, Result, Ok, Err, if◌then◌else◌}
use Rattle.lake_basics.specs.Outcome.{◌>>=◌}
use Rattle.delta_log.specs.declared.commit.DeltaCommit.{DeltaCommit}
use Rattle.delta_log.specs.declared.error.DeltaError.{DeltaError}
use Rattle.delta_log.specs.declared.error.Fault.{Fault}
use Rattle.delta_log.specs.Judging.{with_line, at_line, no_lines, is_newline}

-- ---- whole lines

-- how many lines there are, and what they say
pub record LinesRead : Type 0 where
  pub lines : ℕ
  pub commit : DeltaCommit

-- No line yet.
abbrev pub no_lines_read : LinesRead
no_lines_read = record { lines = 0; commit = no_lines }

-- One line more. Lines past the last number of 64 bits have that number.
abbrev pub one_more : LinesRead → LinesRead
one_more s = record s { lines = min (s.lines + 1) (2 ^ 64 - 1) }

-- What the last line makes of the commit, or its fault with its number.
abbrev pub on_line : LinesRead → Result DeltaCommit Fault → Result LinesRead DeltaError
on_line s reading = at_line s.lines reading >>= λ c. Ok (record s { commit = c })

-- the lines with this one behind
unfoldable pub with_next_line : LinesRead → List ℕ → Result LinesRead DeltaError
with_next_line s line = on_line (one_more s) (with_line s.commit line)

-- ---- pieces

-- the lines that are ended by a newline, and the bytes behind the last newline
pub record SoFar : Type 0 where
  pub whole : LinesRead
  pub rest : List ℕ

-- The unfinished line with these bytes behind is a line.
abbrev pub with_end : SoFar → List ℕ → Result SoFar DeltaError
with_end s end = with_next_line s.whole (s.rest ++ end) >>= λ w. Ok (record { whole = w; rest = [] })

-- One byte more: a newline ends a line, and any other byte goes on with it.
abbrev pub with_byte : ℕ → SoFar → Result SoFar DeltaError
with_byte b s = if is_newline b then with_end s [] else Ok (record s { rest = s.rest ++ b ∷ [] })

-- What has been read, or the refusal that it was answered with.
abbrev pub State : Type 0
State = Result SoFar DeltaError

-- Nothing has been read.
abbrev pub nothing_read : State
nothing_read = Ok (record { whole = no_lines_read; rest = [] })

-- what a piece makes of it
unfoldable pub fed : State → List ℕ → State
fed state [] = state
fed state (b ∷ piece) = fed (state >>= with_byte b) piece

-- What a call of `feed` answers where this has been read then.
abbrev pub told : State → Result (Unit {0}) DeltaError
told (Ok s) = Ok tt
told (Err e) = Err e

-- What the end of the bytes makes of it: the bytes behind the last newline are the last line.
unfoldable pub ended : State → Result DeltaCommit DeltaError
ended state = state >>= λ s. with_next_line s.whole s.rest >>= λ w. Ok w.commit
