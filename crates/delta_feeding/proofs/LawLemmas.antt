-- What has been read after some bytes, and at their end.
use Rattle.std.proofs.Common.{◌≡◌, ℕ, ◌+◌, ◌-◌, ◌^◌, ◌<◌, min, List, [], ◌∷◌, ◌++◌, length, Bool, true, false, Result, Ok, Err, refl, sym, ap, ◌∙◌, append_assoc, zero-add, add-zero, arith}
use Rattle.std.proofs.lemmas.List.{append-nil}
use Rattle.std.proofs.lemmas.List.Splits.{slice_split-cons_yes, slice_split-cons_no, length-slice_split}
use Rattle.std.specs.List.{list_any, onto_first}
use Rattle.std.proofs.lemmas.Bool.{or_parts}
use Rattle.lake_basics.specs.Outcome.{◌>>=◌}
use Rattle.delta_log.specs.declared.commit.DeltaCommit.{DeltaCommit}
use Rattle.delta_log.specs.declared.error.Fault.{Fault}
use Rattle.delta_log.specs.Judging.{with_line, with_lines, at_line, error_at, no_lines, is_newline, lines_of, commit_of}
use Rattle.delta_feeding.specs.Feeding.{SoFar, State, on_line, fed, with_byte, with_end, with_next_line, ended}
use Rattle.delta_feeding.specs.Laws.{EndIsWhole, IsJustRead}
use Rattle.delta_feeding.proofs.PieceLemmas.{fed_refused}

-- ---- lines

-- bytes without a newline are one line
one_line : (bytes : List ℕ) → list_any is_newline bytes ≡ false → lines_of bytes ≡ bytes ∷ []
one_line [] none = refl
one_line (b ∷ bytes) none =
    let both = or_parts (is_newline b) (list_any is_newline bytes) none in
    slice_split-cons_no is_newline b bytes both.0 ∙ ap (onto_first b) (one_line bytes both.1)

-- the first line, which a newline ends
first_ended : (line : List ℕ) (b : ℕ) (behind : List ℕ) → list_any is_newline line ≡ false → is_newline b ≡ true → lines_of (line ++ b ∷ behind) ≡ line ∷ lines_of behind
first_ended [] b behind none is = slice_split-cons_yes is_newline b behind is
first_ended (x ∷ line) b behind none is =
    let both = or_parts (is_newline x) (list_any is_newline line) none in
    slice_split-cons_no is_newline x (line ++ b ∷ behind) both.0 ∙ ap (onto_first x) (first_ended line b behind both.1 is)

still_none : (line : List ℕ) (b : ℕ) → list_any is_newline line ≡ false → is_newline b ≡ false → list_any is_newline (line ++ b ∷ []) ≡ false
still_none [] b none not = rw not refl
still_none (x ∷ line) b none not =
    let both = or_parts (is_newline x) (list_any is_newline line) none in rw (both.0, still_none line b both.1 not) refl

abbrev at_place : ℕ → DeltaCommit → List ℕ → SoFar
at_place n c rest = record { whole = record { lines = n; commit = c }; rest = rest }

number_is : (n : ℕ) → n < 2 ^ 64 - 1 → min (n + 1) (2 ^ 64 - 1) ≡ n + 1
number_is n small = omega arith

-- ---- a newline

-- the lines and the bytes behind them, where this is what the last of them makes of the commit
abbrev on_newline : ℕ → Result DeltaCommit Fault → State
on_newline n r = at_line n r >>= λ c. Ok (at_place n c [])

closed : (n : ℕ) (c : DeltaCommit) (r : Result DeltaCommit Fault) → (on_line (record { lines = n; commit = c }) r >>= λ w. Ok (record { whole = w; rest = [] })) ≡ on_newline n r
closed n c (Ok d) = refl
closed n c (Err fault) = refl

line_ended : (n : ℕ) (c : DeltaCommit) (rest : List ℕ) → n < 2 ^ 64 - 1 → with_end (at_place n c rest) [] ≡ on_newline (n + 1) (with_line c rest)
unfolding with_next_line
line_ended n c rest small = rw (append-nil rest, number_is n small) (closed (n + 1) c (with_line c rest))

on_byte : (b : ℕ) (bytes : List ℕ) (n : ℕ) (c : DeltaCommit) (rest : List ℕ) → n < 2 ^ 64 - 1 → is_newline b ≡ true → fed (Ok (at_place n c rest)) (b ∷ bytes) ≡ fed (on_newline (n + 1) (with_line c rest)) bytes
unfolding fed
on_byte b bytes n c rest small is =
    let here : with_byte b (at_place n c rest) ≡ with_end (at_place n c rest) [] = rw is refl in
    ap (λ (t : State). fed t bytes) (here ∙ line_ended n c rest small)

goes_on : (b : ℕ) (bytes : List ℕ) (n : ℕ) (c : DeltaCommit) (rest : List ℕ) → is_newline b ≡ false → fed (Ok (at_place n c rest)) (b ∷ bytes) ≡ fed (Ok (at_place n c (rest ++ b ∷ []))) bytes
unfolding fed
goes_on b bytes n c rest not = rw not refl

-- ---- the end

abbrev Ends : List ℕ → Type 0
Ends bytes = (n : ℕ) (c : DeltaCommit) (rest : List ℕ) → list_any is_newline rest ≡ false → n + length bytes < 2 ^ 64 - 1 → ended (fed (Ok (at_place n c rest)) bytes) ≡ with_lines (n + 1) c (lines_of (rest ++ bytes))

last_line : (n : ℕ) (c : DeltaCommit) (r : Result DeltaCommit Fault) → (on_line (record { lines = n; commit = c }) r >>= λ w. Ok w.commit) ≡ (at_line n r >>= λ d. with_lines (n + 1) d [])
unfolding with_lines
last_line n c (Ok d) = refl
last_line n c (Err fault) = refl

ends_here : Ends []
unfolding fed ended with_next_line with_lines
ends_here n c rest none small =
    let least : n < 2 ^ 64 - 1 = omega arith in
    let line : lines_of (rest ++ []) ≡ rest ∷ [] = ap lines_of (append-nil rest) ∙ one_line rest none in
    rw (number_is n least, line) (last_line (n + 1) c (with_line c rest))

ends_line : (bytes : List ℕ) → Ends bytes → (n : ℕ) (r : Result DeltaCommit Fault) → n + length bytes < 2 ^ 64 - 1 → ended (fed (on_newline n r) bytes) ≡ (at_line n r >>= λ c. with_lines (n + 1) c (lines_of bytes))
unfolding ended
ends_line bytes more n (Ok c) small = more n c [] refl small
ends_line bytes more n (Err fault) small = ap ended (fed_refused (error_at n fault) bytes)

ends_more : (b : ℕ) (bytes : List ℕ) (v : Bool) → is_newline b ≡ v → Ends bytes → Ends (b ∷ bytes)
unfolding with_lines
ends_more b bytes true is more n c rest none small =
    let least : n < 2 ^ 64 - 1 = omega arith in
    let left : n + 1 + length bytes < 2 ^ 64 - 1 = omega arith in
    ap ended (on_byte b bytes n c rest least is) ∙ ends_line bytes more (n + 1) (with_line c rest) left ∙ ap (with_lines (n + 1) c) (sym (first_ended rest b bytes none is))
ends_more b bytes false not more n c rest none small =
    ap ended (goes_on b bytes n c rest not) ∙ more n c (rest ++ b ∷ []) (still_none rest b none not) (omega arith) ∙ ap (λ (l : List ℕ). with_lines (n + 1) c (lines_of l)) (append_assoc rest (b ∷ []) bytes)

ends : (bytes : List ℕ) → Ends bytes
ends [] = ends_here
ends (b ∷ bytes) = ends_more b bytes (is_newline b) refl (ends bytes)

pub end_is_whole : EndIsWhole
unfolding commit_of
end_is_whole bytes small = ends bytes 0 no_lines [] refl (omega arith)

-- ---- what is read

abbrev Reads : List ℕ → Type 0
Reads bytes = (n : ℕ) (c : DeltaCommit) (rest : List ℕ) → list_any is_newline rest ≡ false → n + length bytes < 2 ^ 64 - 1 → (whole : List (List ℕ)) (last : List ℕ) → lines_of (rest ++ bytes) ≡ whole ++ last ∷ []
    → fed (Ok (at_place n c rest)) bytes ≡ (with_lines (n + 1) c whole >>= λ d. Ok (at_place (n + length whole) d last))

no_more : {A : Type 0} (xs : List A) (x : A) → [] ≡ xs ++ x ∷ [] → ⊥
no_more [] x e = absurd (cc)
no_more (y ∷ xs) x e = absurd (cc)

pub some_line : (bytes : List ℕ) → lines_of bytes ≡ [] → ⊥
some_line bytes none = let len = length-slice_split is_newline bytes in let zero_lines : length (lines_of bytes) ≡ 0 = ap length none in omega (arith, len, zero_lines)

alone : (n : ℕ) (c : DeltaCommit) (rest : List ℕ) (whole : List (List ℕ)) (last : List ℕ) → rest ∷ [] ≡ whole ++ last ∷ [] → Ok (at_place n c rest) ≡ (with_lines (n + 1) c whole >>= λ d. Ok (at_place (n + length whole) d last))
unfolding with_lines
alone n c rest [] last e =
    let same : rest ≡ last = cc in
    ap (λ (r : List ℕ). Ok (at_place n c r)) same ∙ ap (λ (k : ℕ). Ok (at_place k c last)) (sym (add-zero n))
alone n c rest (w ∷ whole) last e = let none : [] ≡ whole ++ last ∷ [] = cc in absurd (no_more whole last none)

reads_here : Reads []
unfolding fed
reads_here n c rest none small whole last e =
    let line : lines_of (rest ++ []) ≡ rest ∷ [] = ap lines_of (append-nil rest) ∙ one_line rest none in
    alone n c rest whole last (sym line ∙ e)

reads_line : (bytes : List ℕ) → Reads bytes → (n : ℕ) (r : Result DeltaCommit Fault) (whole : List (List ℕ)) (last : List ℕ) → n + 1 + length bytes < 2 ^ 64 - 1 → lines_of bytes ≡ whole ++ last ∷ []
    → fed (on_newline (n + 1) r) bytes ≡ ((at_line (n + 1) r >>= λ c. with_lines (n + 1 + 1) c whole) >>= λ d. Ok (at_place (n + (length whole + 1)) d last))
reads_line bytes more n (Ok c) whole last small e =
    let count : n + 1 + length whole ≡ n + (length whole + 1) = omega arith in
    more (n + 1) c [] refl small whole last e ∙ ap (λ (k : ℕ). with_lines (n + 1 + 1) c whole >>= λ d. Ok (at_place k d last)) count
reads_line bytes more n (Err fault) whole last small e = fed_refused (error_at (n + 1) fault) bytes

after_line : (bytes : List ℕ) → Reads bytes → (n : ℕ) (c : DeltaCommit) (rest : List ℕ) (whole : List (List ℕ)) (last : List ℕ) → n + 1 + length bytes < 2 ^ 64 - 1 → rest ∷ lines_of bytes ≡ whole ++ last ∷ []
    → fed (on_newline (n + 1) (with_line c rest)) bytes ≡ (with_lines (n + 1) c whole >>= λ d. Ok (at_place (n + length whole) d last))
unfolding with_lines
after_line bytes more n c rest [] last small e = let none : lines_of bytes ≡ [] = cc in absurd (some_line bytes none)
after_line bytes more n c rest (w ∷ whole) last small e =
    let first : rest ≡ w = cc in
    let others : lines_of bytes ≡ whole ++ last ∷ [] = cc in
    let len : length (w ∷ whole) ≡ length whole + 1 = omega arith in
    rw (len, ← first) (reads_line bytes more n (with_line c rest) whole last small others)

reads_more : (b : ℕ) (bytes : List ℕ) (v : Bool) → is_newline b ≡ v → Reads bytes → Reads (b ∷ bytes)
reads_more b bytes true is more n c rest none small whole last e =
    let least : n < 2 ^ 64 - 1 = omega arith in
    let left : n + 1 + length bytes < 2 ^ 64 - 1 = omega arith in
    on_byte b bytes n c rest least is ∙ after_line bytes more n c rest whole last left (sym (first_ended rest b bytes none is) ∙ e)
reads_more b bytes false not more n c rest none small whole last e =
    goes_on b bytes n c rest not ∙ more n c (rest ++ b ∷ []) (still_none rest b none not) (omega arith) whole last (ap lines_of (append_assoc rest (b ∷ []) bytes) ∙ e)

reads : (bytes : List ℕ) → Reads bytes
reads [] = reads_here
reads (b ∷ bytes) = reads_more b bytes (is_newline b) refl (reads bytes)

pub is_just_read : IsJustRead
is_just_read bytes whole rest small e =
    reads bytes 0 no_lines [] refl (omega arith) whole rest e ∙ ap (λ (k : ℕ). with_lines 1 no_lines whole >>= λ c. Ok (at_place k c rest)) (zero-add (length whole))
