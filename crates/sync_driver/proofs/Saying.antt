-- How what a command tells goes on from line to line.
use Rattle.std.proofs.Common.{◌≡◌, ◌≢◌, ◌++◌, ◌∷◌, ◌+◌, List, [], ℕ, length, map, suc, take, inl, inr, ⊎_elim, refl, sym, ap, subst, ◌∙◌, append_assoc, arith}
use Rattle.std.proofs.Math.Seq.{take-length}
use Rattle.std.proofs.lemmas.List.{append-nil}
use Rattle.std.specs.Prelude.{IsErrOf, OnErr, OnOk, Result, Ok, Err}
use Rattle.lake_store.specs.Cause.{HasFault, Rose}
use Rattle.lake_store.specs.declared.sink.Sink.{Ghosts}
use Rattle.lake_store.specs.declared.sink.SinkError.{SinkError}
use Rattle.lake_store.specs.declared.sink.SinkError.TheVariants as sink_error
use Rattle.table_history.specs.Row.{Row}
use Rattle.table_history.specs.declared.kind.Kind.{Kind}
use Rattle.table_history.specs.declared.table.Table.{Table}
use Rattle.table_lines.specs.Lines.{line, printed}
use Rattle.table_lines.specs.TableLines.{lines_over}
use Rattle.sync_driver.specs.Tellings.{Puts, Tells, cut_of_put, put_status}
use Rattle.target_sync.specs.declared.status.Status.{Status}
use Rattle.target_sync.specs.declared.status.Status.TheVariants.{Done, Memory, SinkFault}
use Rattle.target_sync.proofs.Counting.{rose_from}

-- ---- putting lines out

-- a line has its newline
line_there : (text : List ℕ) (rest : List ℕ) → (text ++ 10 ∷ []) ++ rest ≡ [] → ⊥
line_there [] rest none = absurd (cc)
line_there (c ∷ text) rest none = absurd (cc)

-- the lines of a table begin with its own
pub lines_there : (kind : Kind) (position : List ℕ) (table : Table) (rows : List Row) → lines_over kind position table rows ≡ [] → ⊥
lines_there kind position table rows none = line_there _ _ none

-- memory ran out before anything went out
pub nothing_told : {O : Type 0} (sink : Ghosts O) (out : O) (line : List ℕ) (due : Status) → Tells sink out out line due Memory
nothing_told sink out line due = record {
  faults = omega arith;
  can_fail = λ m. m;
  status = inr (inl refl);
  silent = λ none. refl;
  whole = λ tells said. absurd said;
  front = λ tells. (0, sym (append-nil (sink.output out)));
}

-- what a put of lines has told, where there are some
pub put_told : {O : Type 0} (sink : Ghosts O) (old new : O) (lines : List ℕ) (r : Result (Unit {0}) SinkError) → (lines ≡ [] → ⊥)
    → (sink.tells → OnOk r (sink.output new ≡ sink.output old ++ lines)) → (sink.tells → OnErr r ((n : ℕ) × (sink.output new ≡ sink.output old ++ take n lines)))
    → HasFault sink.faults sink.may_fail old new (IsErrOf r sink_error.Failed) → Tells sink old new lines Done (put_status r)
put_told sink old new lines (Ok x) some ok err cause = record {
  faults = cause.later;
  can_fail = cause.still;
  status = inl refl;
  silent = λ none. absurd (some none);
  whole = λ tells said. ok tells;
  front = λ tells. (length lines, ok tells ∙ ap (λ (l : List ℕ). sink.output old ++ l) (sym (take-length lines)));
}
put_told sink old new lines (Err sink_error.Memory) some ok err cause = record {
  faults = cause.later;
  can_fail = cause.still;
  status = inr (inl refl);
  silent = λ none. absurd (some none);
  whole = λ tells said. absurd said;
  front = err;
}
put_told sink old new lines (Err sink_error.Failed) some ok err cause = record {
  faults = cause.later;
  can_fail = cause.still;
  status = inr (inr (refl, (some, (cause.rose refl, cause.allowed refl))));
  silent = λ none. absurd (some none);
  whole = λ tells said. absurd said;
  front = err;
}

-- nothing is put where there is no line
pub nothing_put : {O : Type 0} (sink : Ghosts O) (out : O) → Tells sink out out [] Done Done
nothing_put sink out = record {
  faults = omega arith;
  can_fail = λ m. m;
  status = inl refl;
  silent = λ none. refl;
  whole = λ tells said. sym (append-nil (sink.output out));
  front = λ tells. (0, sym (append-nil (sink.output out)));
}

pub line_is_there : (text : List ℕ) → line text ≡ [] → ⊥
line_is_there text none = line_there (map printed text) [] (append-nil (line text) ∙ none)

pub puts_told : {O : Type 0} (sink : Ghosts O) (old new : O) (lines : List ℕ) (r : Result (Unit {0}) SinkError) → Tells sink old new lines Done (put_status r) → Puts sink old new lines (cut_of_put r)
puts_told sink old new lines (Ok x) told = told
puts_told sink old new lines (Err sink_error.Memory) told = (told, λ is. cc is)
puts_told sink old new lines (Err sink_error.Failed) told = (told, λ is. cc is)

-- ---- one telling behind another

take_behind : (first second : List ℕ) (n : ℕ) → first ++ take n second ≡ take (length first + n) (first ++ second)
take_behind [] second n = let same : 0 + n ≡ n = omega arith in ap (λ (k : ℕ). take k second) (sym same)
take_behind (c ∷ first) second n =
    let same : length (c ∷ first) + n ≡ suc (length first + n) = omega arith in
    ap (λ (l : List ℕ). c ∷ l) (take_behind first second n) ∙ ap (λ (k : ℕ). take k (c ∷ (first ++ second))) (sym same)

none_of_both : (first second : List ℕ) → first ++ second ≡ [] → (first ≡ []) × (second ≡ [])
none_of_both [] second none = (refl, none)
none_of_both (c ∷ first) second none = absurd (cc none)

module _ {O : Type 0} (sink : Ghosts O) (old mid new : O) (first second : List ℕ) (due given : Status) where
  pub told_behind : Tells sink old mid first Done Done → Tells sink mid new second due given → Tells sink old new (first ++ second) due given
  told_behind one two =
      let one_later = one.faults in
      let two_later = two.faults in
      record {
        faults = omega (arith, one_later, two_later);
        can_fail = λ m. one.can_fail (two.can_fail m);
        status = ⊎_elim inl (λ other. ⊎_elim (λ memory. inr (inl memory))
            (λ (failed : (given ≡ SinkFault) × ((second ≢ []) × (Rose (sink.faults mid) (sink.faults new) × sink.may_fail mid))).
            inr (inr (failed.0, ((λ none. failed.1.0 (none_of_both first second none).1), (rose_from (sink.faults old) (sink.faults mid) (sink.faults new) one_later failed.1.1.0, one.can_fail failed.1.1.1))))) other) two.status;
        silent = λ none. let both = none_of_both first second none in two.silent both.1 ∙ one.silent both.0;
        whole = λ tells said. two.whole tells said ∙ ap (λ (l : List ℕ). l ++ second) (one.whole tells tt) ∙ append_assoc (sink.output old) first second;
        front = λ tells.
            let part = two.front tells in (
              length first + part.0,
              part.1 ∙ ap (λ (l : List ℕ). l ++ take part.0 second) (one.whole tells tt) ∙ append_assoc (sink.output old) first (take part.0 second) ∙ ap (λ (l : List ℕ). sink.output old ++ l) (take_behind first second part.0),
            );
      }

-- with no line behind it
pub told_alone : {O : Type 0} (sink : Ghosts O) (old new : O) (line : List ℕ) (due given : Status) → Tells sink old new line due given → Tells sink old new (line ++ []) due given
told_alone sink old new line due given told = subst (λ (l : List ℕ). Tells sink old new l due given) (sym (append-nil line)) told

-- the first line went out whole before the second, of which a part did
pub first_behind : {O : Type 0} (sink : Ghosts O) (old mid new : O) (first second : List ℕ) (due given : Status) → Tells sink old mid first Done Done → Tells sink mid new second due given → sink.tells → (rest : List ℕ) × (sink.output new ≡ sink.output old ++ first ++ rest)
first_behind sink old mid new first second due given one two tells =
    let part = two.front tells in
    (take part.0 second, part.1 ∙ ap (λ (l : List ℕ). l ++ take part.0 second) (one.whole tells tt))

pub first_alone : {O : Type 0} (sink : Ghosts O) (old new : O) (line : List ℕ) (due given : Status) → Tells sink old new line due given → sink.tells → (rest : List ℕ) × (sink.output new ≡ sink.output old ++ [] ++ rest)
first_alone sink old new line due given told tells =
    let part = told.front tells in
    (take part.0 line, part.1 ∙ ap (λ (l : List ℕ). l ++ take part.0 line) (sym (append-nil (sink.output old))))
