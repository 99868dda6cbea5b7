-- Faults that are told before the end of the bytes.
use Rattle.std.proofs.Common.{◌≡◌, ℕ, ◌+◌, ◌-◌, ◌^◌, ◌<◌, List, [], ◌∷◌, ◌++◌, length, Bool, true, false, Result, Ok, Err, refl, sym, ap, subst, ◌∙◌, append_assoc, length-append, arith}
use Rattle.std.proofs.lemmas.List.{append-nil}
use Rattle.std.proofs.lemmas.List.Splits.{slice_split-cons_yes, slice_split-cons_no}
use Rattle.std.specs.List.{onto_first}
use Rattle.lake_basics.specs.Outcome.{◌>>=◌}
use Rattle.delta_log.specs.declared.commit.DeltaCommit.{DeltaCommit}
use Rattle.delta_log.specs.declared.error.DeltaError.{DeltaError}
use Rattle.delta_log.specs.declared.error.DeltaError.TheVariants as errors
use Rattle.delta_log.specs.declared.error.Fault.{Fault}
use Rattle.delta_log.specs.declared.error.Fault.TheVariants.{Malformed, Unsupported, Limit, DoublePath}
use Rattle.delta_log.specs.Judging.{at_line, error_at, with_line, with_lines, no_lines, is_newline, lines_of, commit_of}
use Rattle.delta_log.specs.Readable.{IsFirstFault}
use Rattle.delta_log.proofs.ReadableLemmas.{commit_readable, fault_by, fault_excluded}
use Rattle.delta_feeding.specs.Feeding.{LinesRead, SoFar, State, nothing_read, fed, with_byte, with_end, with_next_line, ended}
use Rattle.delta_feeding.specs.Laws.{IsFaultForGood, IsFaultWithin, IsTakenSound, IsToldEarly}
use Rattle.delta_feeding.proofs.LawLemmas.{end_is_whole, some_line}
use Rattle.delta_feeding.proofs.PieceLemmas.{fed_refused, pieces_join}

-- ---- lines on both sides of a newline

onto_both : (x : ℕ) (ls ms : List (List ℕ)) → (ls ≡ [] → ⊥) → onto_first x (ls ++ ms) ≡ onto_first x ls ++ ms
onto_both x [] ms some = absurd (some refl)
onto_both x (l ∷ ls) ms some = refl

apart_by : (v : Bool) (x : ℕ) (front : List ℕ) (b : ℕ) (more : List ℕ) → is_newline x ≡ v → lines_of (front ++ b ∷ more) ≡ lines_of front ++ lines_of more → lines_of (x ∷ (front ++ b ∷ more)) ≡ lines_of (x ∷ front) ++ lines_of more
apart_by true x front b more is rest =
    slice_split-cons_yes is_newline x (front ++ b ∷ more) is ∙ ap (λ (ls : List (List ℕ)). [] ∷ ls) rest ∙ ap (λ (ls : List (List ℕ)). ls ++ lines_of more) (sym (slice_split-cons_yes is_newline x front is))
apart_by false x front b more not rest =
    slice_split-cons_no is_newline x (front ++ b ∷ more) not ∙ ap (onto_first x) rest ∙ onto_both x (lines_of front) (lines_of more) (some_line front)
    ∙ ap (λ (ls : List (List ℕ)). ls ++ lines_of more) (sym (slice_split-cons_no is_newline x front not))

lines_apart : (front : List ℕ) (b : ℕ) (more : List ℕ) → is_newline b ≡ true → lines_of (front ++ b ∷ more) ≡ lines_of front ++ lines_of more
lines_apart [] b more is = slice_split-cons_yes is_newline b more is
lines_apart (x ∷ front) b more is = apart_by (is_newline x) x front b more refl (lines_apart front b more is)

first_before : (front : List ℕ) (b : ℕ) (more : List ℕ) (e : DeltaError) → is_newline b ≡ true → IsFirstFault front e → IsFirstFault (front ++ b ∷ more) e
first_before front b more e is f = record {
  front = f.front;
  line = f.line;
  behind = f.behind ++ lines_of more;
  before = f.before;
  split = lines_apart front b more is ∙ ap (λ (ls : List (List ℕ)). ls ++ lines_of more) f.split ∙ append_assoc f.front (f.line ∷ f.behind) (lines_of more);
  readable = f.readable;
  fault = f.fault;
}

pub fault_for_good : IsFaultForGood
fault_for_good bytes more e f =
    subst (λ (l : List ℕ). IsFirstFault l e) (sym (ap (λ (l : List ℕ). l ++ more) f.split ∙ append_assoc f.front (f.newline ∷ f.behind) more)) (first_before f.front f.newline (f.behind ++ more) e f.is f.fault)

-- More bytes have it too.
pub within_more : (bytes more : List ℕ) (e : DeltaError) → IsFaultWithin bytes e → IsFaultWithin (bytes ++ more) e
within_more bytes more e f = record {
  front = f.front;
  newline = f.newline;
  behind = f.behind ++ more;
  is = f.is;
  split = ap (λ (l : List ℕ). l ++ more) f.split ∙ append_assoc f.front (f.newline ∷ f.behind) more;
  fault = f.fault;
}

-- ---- the newline at which a line is refused

record RefusedAt (s : SoFar) (bytes : List ℕ) (e : DeltaError) : Type 0 where
  front : List ℕ
  newline : ℕ
  behind : List ℕ
  is : is_newline newline ≡ true
  split : bytes ≡ front ++ newline ∷ behind
  ended : ended (fed (Ok s) front) ≡ Err e

later : (s t : SoFar) (b : ℕ) (bytes : List ℕ) (e : DeltaError) → with_byte b s ≡ Ok t → RefusedAt t bytes e → RefusedAt s (b ∷ bytes) e
unfolding fed
later s t b bytes e one r = record {
  front = b ∷ r.front;
  newline = r.newline;
  behind = r.behind;
  is = r.is;
  split = ap (λ (l : List ℕ). b ∷ l) r.split;
  ended = ap (λ (q : State). ended (fed q r.front)) one ∙ r.ended;
}

abbrev after_newline : Result LinesRead DeltaError → State
after_newline r = r >>= λ w. Ok (record { whole = w; rest = [] })

abbrev at_end : Result LinesRead DeltaError → Result DeltaCommit DeltaError
at_end r = r >>= λ w. Ok w.commit

ends_too : (r : Result LinesRead DeltaError) (e : DeltaError) → after_newline r ≡ Err e → at_end r ≡ Err e
ends_too (Ok w) e h = absurd (cc)
ends_too (Err d) e h = let same : d ≡ e = cc in ap Err same

stops_too : (r : Result LinesRead DeltaError) (e : DeltaError) → at_end r ≡ Err e → after_newline r ≡ Err e
stops_too (Ok w) e h = absurd (cc)
stops_too (Err d) e h = let same : d ≡ e = cc in ap Err same

newline_is : (s : SoFar) → with_end s [] ≡ after_newline (with_next_line s.whole s.rest)
newline_is s = ap (λ (l : List ℕ). after_newline (with_next_line s.whole l)) (append-nil s.rest)

here : (s : SoFar) (b : ℕ) (bytes : List ℕ) (e : DeltaError) → is_newline b ≡ true → with_end s [] ≡ Err e → RefusedAt s (b ∷ bytes) e
unfolding fed ended
here s b bytes e is h = record {
  front = [];
  newline = b;
  behind = bytes;
  is = is;
  split = refl;
  ended = ends_too (with_next_line s.whole s.rest) e (sym (newline_is s) ∙ h);
}

goes : (s : SoFar) (b : ℕ) → is_newline b ≡ false → with_byte b s ≡ Ok (record s { rest = s.rest ++ b ∷ [] })
goes s b not = rw not refl

ends : (s : SoFar) (b : ℕ) → is_newline b ≡ true → with_byte b s ≡ with_end s []
ends s b is = rw is refl

told : (bytes : List ℕ) (d e : DeltaError) → fed (Err d) bytes ≡ Err e → d ≡ e
told bytes d e h = let stays = fed_refused d bytes in cc

refused_by : (v : Bool) (r : State) (s : SoFar) (b : ℕ) (bytes : List ℕ) (e : DeltaError) → is_newline b ≡ v → with_byte b s ≡ r → ((t : SoFar) → fed (Ok t) bytes ≡ Err e → RefusedAt t bytes e) → fed r bytes ≡ Err e → RefusedAt s (b ∷ bytes) e
refused_by v (Ok t) s b bytes e is one more h = later s t b bytes e one (more t h)
refused_by true (Err d) s b bytes e is one more h = here s b bytes e is (sym (ends s b is) ∙ one ∙ ap Err (told bytes d e h))
refused_by false (Err d) s b bytes e not one more h = let on = goes s b not in absurd (cc)

refused_at : (s : SoFar) (bytes : List ℕ) (e : DeltaError) → fed (Ok s) bytes ≡ Err e → RefusedAt s bytes e
unfolding fed
refused_at s [] e h = absurd (cc)
refused_at s (b ∷ bytes) e h = refused_by (is_newline b) (with_byte b s) s b bytes e refl refl (λ t g. refused_at t bytes e g) h

-- ---- what is told before the end

no_want : (n : ℕ) (fault : Fault) → error_at n fault ≡ errors.Memory → ⊥
no_want n Malformed is = absurd (cc)
no_want n (Unsupported feature) is = absurd (cc)
no_want n (Limit which) is = absurd (cc)
no_want n DoublePath is = absurd (cc)

wants_later : (n : ℕ) (r : Result DeltaCommit Fault) (lines : List (List ℕ)) → ((d : DeltaCommit) → with_lines (n + 1) d lines ≡ Err errors.Memory → ⊥) → (at_line n r >>= λ d. with_lines (n + 1) d lines) ≡ Err errors.Memory → ⊥
wants_later n (Ok d) lines more h = more d h
wants_later n (Err fault) lines more h = no_want n fault (cc)

-- no commit is refused for want of memory by its bytes
never_wants : (n : ℕ) (c : DeltaCommit) (lines : List (List ℕ)) → with_lines n c lines ≡ Err errors.Memory → ⊥
unfolding with_lines
never_wants n c [] h = absurd (cc)
never_wants n c (line ∷ lines) h = wants_later n (with_line c line) lines (λ d. never_wants (n + 1) d lines) h

first_of : (bytes : List ℕ) (e : DeltaError) → commit_of bytes ≡ Err e → IsFirstFault bytes e
unfolding commit_of
first_of bytes errors.Memory is = absurd (never_wants 1 no_lines (lines_of bytes) is)
first_of bytes (errors.Malformed n) is = fault_by bytes (Err (errors.Malformed n)) is
first_of bytes (errors.DoublePath n) is = fault_by bytes (Err (errors.DoublePath n)) is
first_of bytes (errors.Unsupported f n) is = fault_by bytes (Err (errors.Unsupported f n)) is
first_of bytes (errors.Limit w) is = fault_by bytes (Err (errors.Limit w)) is

front_small : (bytes front : List ℕ) (b : ℕ) (behind : List ℕ) → bytes ≡ front ++ b ∷ behind → length bytes < 2 ^ 64 - 1 → length front < 2 ^ 64 - 1
front_small bytes front b behind split small = let len : length bytes ≡ length front + length (b ∷ behind) = ap length split ∙ length-append front (b ∷ behind) in omega (arith, len, small)

pub told_early : IsToldEarly
told_early bytes e small h =
    let r = refused_at _ bytes e h in
    record {
      front = r.front;
      newline = r.newline;
      behind = r.behind;
      is = r.is;
      split = r.split;
      fault = first_of r.front e (sym (end_is_whole r.front (front_small bytes r.front r.newline r.behind r.split small)) ∙ r.ended);
    }

-- A newline refuses what the end refuses.
stops_at : (state : State) (b : ℕ) (behind : List ℕ) (d : DeltaError) → is_newline b ≡ true → ended state ≡ Err d → fed state (b ∷ behind) ≡ Err d
unfolding fed ended
stops_at (Ok s) b behind d is h = ap (λ (q : State). fed q behind) (ends s b is ∙ newline_is s ∙ stops_too (with_next_line s.whole s.rest) d h) ∙ fed_refused d behind
stops_at (Err e) b behind d is h = let same : e ≡ d = cc in fed_refused e behind ∙ ap Err same

no_fault : (bytes : List ℕ) (s : SoFar) (e : DeltaError) (f : IsFaultWithin bytes e) (r : Result DeltaCommit DeltaError) → commit_of f.front ≡ r → length bytes < 2 ^ 64 - 1 → fed nothing_read bytes ≡ Ok s → ⊥
no_fault bytes s e f (Ok c) is small h = fault_excluded f.front c e (commit_readable f.front c is) f.fault
no_fault bytes s e f (Err d) is small h =
    let at_front = end_is_whole f.front (front_small bytes f.front f.newline f.behind f.split small) ∙ is in
    let stops = ap (fed nothing_read) f.split ∙ pieces_join nothing_read f.front (f.newline ∷ f.behind) ∙ stops_at (fed nothing_read f.front) f.newline f.behind d f.is at_front in
    absurd (cc)

pub taken_sound : IsTakenSound
taken_sound bytes s e small h f = no_fault bytes s e f (commit_of f.front) refl small h
