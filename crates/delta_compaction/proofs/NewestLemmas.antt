-- The lines that are put in one after another are the newest lines of commits that can be joined.
use Rattle.std.proofs.Common.{◌≡◌, inl, inr, ℕ, ◌+◌, ◌<◌, ◌≤◌, List, [], ◌∷◌, ◌++◌, length, take, get_or, drop, true, false, All, refl, sym, ap, subst, ◌∙◌, append_assoc, length-append, arith}
use Rattle.std.specs.Prelude.{flat_map, ◌-◌, IfOk, OnOk, Option, Some, None, Result, Ok, Err}
use Rattle.std.proofs.lemmas.Grind.{flat_map-append}
use Rattle.std.proofs.lemmas.List.{append-nil, drop_more, length-take-le, take-append-drop, take_more}
use Rattle.std.proofs.lemmas.List.Elements.{All-nil, All-cons, All-append, All-weaker}
use Rattle.delta_log.specs.declared.commit.DeltaCommit.{DeltaCommit}
use Rattle.delta_log.specs.declared.error.DeltaError.{DeltaError}
use Rattle.delta_log.specs.declared.error.DeltaError.TheVariants as delta
use Rattle.table_history.specs.declared.feature.Feature.TheVariants.{CompactAction}
use Rattle.delta_log.specs.Judging.{lines_of}
use Rattle.delta_log.specs.Readable.{AreReadable, IsFirstFault, IsReadableCommit, IsRefusal}
use Rattle.delta_compaction.specs.declared.key.LineKey.{LineKey}
use Rattle.delta_compaction.specs.declared.kind.LineKind.{LineKind}
use Rattle.delta_compaction.specs.Kinds.{HasLines, IsFirstLine, StraysAt, is_stray, line_kind, put_line, rest_of, with_lines}
use Rattle.delta_compaction.specs.Lines.{IsStray}
use Rattle.delta_compaction.specs.Reconciled.{AreNewest, all_lines}
use Rattle.delta_compaction.specs.Taken.{AreTaken, IsCommitRefusal, IsFirstRefused, IsJoinRefusal, IsTaken, IsUnread, error_at}
use Rattle.delta_compaction.specs.declared.error.CompactError.{CompactError}
use Rattle.delta_compaction.proofs.EntryLemmas.{entry_last, keys_rise, last_entry, put_all}
use Rattle.delta_compaction.proofs.KindLemmas.{plain_line, stray_line}
use Rattle.delta_compaction.proofs.LastLemmas.{kept_line, newest_line}
use Rattle.delta_compaction.proofs.LawLemmas.{all_both}
use Rattle.delta_compaction.proofs.ReadsLemmas.{all_exact}
use Rattle.delta_compaction.proofs.SplitLemmas.{HasRead, read_all, read_front, read_more, read_none, read_upto}
use Rattle.lake_basics.proofs.Lists.{none_longer}

abbrev Entries : Type 0
Entries = List (LineKey × List ℕ)

lines_put : (lines : List (List ℕ)) (es : Entries) → with_lines lines es ≡ put_all line_kind lines es
lines_put [] es = refl
lines_put (line ∷ lines) es = lines_put lines (put_line line (line_kind line) es)

pub lines_newest : (commits : List (List ℕ)) (said : List DeltaCommit) → AreTaken commits said → (entries : List (LineKey × List ℕ)) → entries ≡ with_lines (all_lines commits) [] → AreNewest commits entries
lines_newest commits said taken entries is =
    let exact = all_exact commits said taken in
    subst (AreNewest commits) (sym (is ∙ lines_put (all_lines commits) [])) (record {
      sorted = keys_rise line_kind (all_lines commits);
      newest = λ k w. (
        (λ there. newest_line (all_lines commits) k w exact (entry_last line_kind (all_lines commits) k w there)),
        (λ h. last_entry line_kind (all_lines commits) k w (kept_line (all_lines commits) k w exact h)),
      );
    })

pub newest_by : (commits : List (List ℕ)) (r : Result (List (LineKey × List ℕ)) CompactError) → IfOk r (λ n. n ≡ with_lines (all_lines commits) []) → OnOk r ((said : List DeltaCommit) × AreTaken commits said) → IfOk r (AreNewest commits)
newest_by commits (Ok n) is taken = lines_newest commits taken.0 taken.1 n is
newest_by commits (Err e) is taken = tt

-- ---- lines of one commit

pub more_lines : (xs ys : List (List ℕ)) (es : List (LineKey × List ℕ)) → with_lines (xs ++ ys) es ≡ with_lines ys (with_lines xs es)
more_lines [] ys es = refl
more_lines (x ∷ xs) ys es = more_lines xs ys (put_line x (line_kind x) es)

abbrev IsPlain : List ℕ → Type 0
IsPlain line = is_stray (line_kind line) ≡ false

-- So many lines were read and put in, none of them stray, and this is left.
pub record SoFar (bytes : List ℕ) (before : List (LineKey × List ℕ)) (number : ℕ) (rest : Option (List ℕ)) (after : List (LineKey × List ℕ)) : Type 0 where
  pub front : List (List ℕ)
  pub read : HasRead bytes rest front
  pub number_is : number ≡ length front
  pub plain : All (λ line. is_stray (line_kind line) ≡ false) front
  pub put : after ≡ with_lines front before

pub so_far_none : (bytes : List ℕ) (before : List (LineKey × List ℕ)) → SoFar bytes before 0 (Some bytes) before
so_far_none bytes before = record { front = []; read = read_none bytes; number_is = refl; plain = All-nil (λ line. is_stray (line_kind line) ≡ false); put = refl }

module _ (bytes : List ℕ) (before : Entries) (number : ℕ) (rest : List ℕ) (entries : Entries) (so_far : SoFar bytes before number (Some rest) entries) (line : List ℕ) (behind : Option (List ℕ)) (first : IsFirstLine rest line behind) where
  front : List (List ℕ)
  front = so_far.front

  read : HasRead bytes behind (so_far.front ++ line ∷ [])
  read = read_more bytes rest line behind so_far.front so_far.read first

  count : number + 1 ≡ length (so_far.front ++ line ∷ [])
  count = let is = so_far.number_is in sym (length-append so_far.front (line ∷ []) ∙ omega (arith, is))

  pub so_far_more : (is : LineKind) (after : List (LineKey × List ℕ)) → is ≡ line_kind line → is_stray is ≡ false → after ≡ put_line line is entries → SoFar bytes before (number + 1) behind after
  so_far_more is after kind plain put = record {
    front = so_far.front ++ line ∷ [];
    read = read;
    number_is = count;
    plain = All-append (λ l. is_stray (line_kind l) ≡ false) so_far.front (line ∷ []) so_far.plain (All-cons (λ l. is_stray (line_kind l) ≡ false) line [] (ap is_stray (sym kind) ∙ plain) (All-nil (λ l. is_stray (line_kind l) ≡ false)));
    put = put ∙ ap (λ k. put_line line k entries) kind ∙ ap (put_line line (line_kind line)) so_far.put ∙ sym (more_lines so_far.front (line ∷ []) before);
  }

  pub strays : (is : LineKind) → is ≡ line_kind line → is_stray is ≡ true → (n : ℕ) (upto : List ℕ) → n ≡ number + 1 → upto ≡ take (length bytes - length (rest_of behind)) bytes → StraysAt bytes n upto
  strays is kind odd n upto number_is cut =
      let later = read_front bytes behind so_far.front line read in
      let is_count = so_far.number_is in
      record {
        front = so_far.front;
        line = line;
        later = later.0;
        split = later.1;
        number = omega (arith, number_is, is_count);
        plain = so_far.plain;
        stray = ap is_stray (sym kind) ∙ odd;
        cut = ap lines_of cut ∙ read_upto bytes behind so_far.front line read;
      }

  pub within : length (rest_of behind) ≤ length bytes
  within =
      let split = ap length read.split in
      let one = length-append bytes (10 ∷ []) in
      let two = length-append (flat_map (λ l. l ++ 10 ∷ []) (so_far.front ++ line ∷ [])) (rest_of behind) in
      let three = ap length (flat_map-append (λ l. l ++ 10 ∷ []) so_far.front (line ∷ [])) in
      let four = length-append (flat_map (λ l. l ++ 10 ∷ []) so_far.front) (flat_map (λ l. l ++ 10 ∷ []) (line ∷ [])) in
      let five = length-append (line ++ 10 ∷ []) [] in
      let six = length-append line (10 ∷ []) in
      omega (arith, split, one, two, three, four, five, six)

pub all_lines_put : (bytes : List ℕ) (before : List (LineKey × List ℕ)) (number : ℕ) (after : List (LineKey × List ℕ)) → SoFar bytes before number None after → HasLines bytes before after
all_lines_put bytes before number after so_far =
    let lines = read_all bytes so_far.front so_far.read in
    record { plain = subst (All (λ line. is_stray (line_kind line) ≡ false)) (sym lines) so_far.plain; put = so_far.put ∙ ap (λ l. with_lines l before) (sym lines) }

-- ---- one commit

pub taken_by : (bytes : List ℕ) (before after : List (LineKey × List ℕ)) (c : DeltaCommit) → HasLines bytes before after → IsReadableCommit bytes c → IsTaken bytes c
taken_by bytes before after c lines readable = record { readable = readable; plain = All-weaker (λ line. is_stray (line_kind line) ≡ false) (λ line. IsStray line → ⊥) plain_line (lines_of bytes) lines.plain }

all_plain : (lines : List (List ℕ)) → All (λ line. is_stray (line_kind line) ≡ false) lines → All (λ line. IsStray line → ⊥) lines
all_plain lines plain = All-weaker (λ line. is_stray (line_kind line) ≡ false) (λ line. IsStray line → ⊥) plain_line lines plain

item : {X : Type 0} (P : X → Type 0) (xs front : List X) (x : X) (later : List X) → xs ≡ front ++ x ∷ later → All P xs → All P front
item P xs front x later split all = (all_both P front (x ∷ later) (subst (All P) split all)).0

-- a fault of a commit without stray lines
unread : (bytes : List ℕ) → All (λ line. IsStray line → ⊥) (lines_of bytes) → (e : DeltaError) → IsFirstFault bytes e → IsUnread bytes e
unread bytes plain e first = record { first = first; plain = item (λ line. IsStray line → ⊥) (lines_of bytes) first.front first.line first.behind first.split plain }

pub commit_refused : (bytes : List ℕ) → All (λ line. is_stray (line_kind line) ≡ false) (lines_of bytes) → (e : DeltaError) → IsRefusal bytes e → IsCommitRefusal bytes e
commit_refused bytes plain delta.Memory h = tt
commit_refused bytes plain (delta.Malformed n) h = unread bytes (all_plain (lines_of bytes) plain) (delta.Malformed n) h
commit_refused bytes plain (delta.DoublePath n) h = unread bytes (all_plain (lines_of bytes) plain) (delta.DoublePath n) h
commit_refused bytes plain (delta.Unsupported f n) h = inl (unread bytes (all_plain (lines_of bytes) plain) (delta.Unsupported f n) h)
commit_refused bytes plain (delta.Limit w) h = unread bytes (all_plain (lines_of bytes) plain) (delta.Limit w) h

-- ---- a commit with a stray line

before_last : {X : Type 0} (xs : List X) (y : X) (front : List X) (x : X) (later : List X) → xs ++ y ∷ [] ≡ front ++ x ∷ later → (rest : List X) × (xs ≡ front ++ rest)
before_last xs y [] x later e = (xs, refl)
before_last [] y (z ∷ before) x later e = let none : [] ≡ before ++ x ∷ later = cc in absurd (none_longer before x later none)
before_last (w ∷ xs) y (z ∷ before) x later e =
    let same : w ≡ z = cc in
    let tail : xs ++ y ∷ [] ≡ before ++ x ∷ later = cc in
    let rest = before_last xs y before x later tail in
    (rest.0, ap (λ l. w ∷ l) rest.1 ∙ ap (λ v. v ∷ (before ++ rest.0)) same)

module _ (bytes : List ℕ) (n : ℕ) (upto : List ℕ) (strays_at : StraysAt bytes n upto) where
  whole : lines_of bytes ≡ lines_of upto ++ strays_at.later
  whole = strays_at.split ∙ sym (append_assoc strays_at.front (strays_at.line ∷ []) strays_at.later) ∙ ap (λ l. l ++ strays_at.later) (sym strays_at.cut)

  earlier : (e : DeltaError) → IsFirstFault upto e → IsUnread bytes e
  earlier e first =
      let rest = before_last strays_at.front strays_at.line first.front first.line first.behind (sym strays_at.cut ∙ first.split) in
      record {
        first = record {
          front = first.front;
          line = first.line;
          behind = first.behind ++ strays_at.later;
          before = first.before;
          split = whole ∙ ap (λ l. l ++ strays_at.later) first.split ∙ append_assoc first.front (first.line ∷ first.behind) strays_at.later;
          readable = first.readable;
          fault = first.fault;
        };
        plain = all_plain first.front (all_both (λ line. is_stray (line_kind line) ≡ false) first.front rest.0 (subst (All (λ line. is_stray (line_kind line) ≡ false)) rest.1 strays_at.plain)).0;
      }

  pub stray_refused : (e : DeltaError) → IsRefusal upto e → IsCommitRefusal bytes e
  stray_refused delta.Memory h = tt
  stray_refused (delta.Malformed m) h = earlier (delta.Malformed m) h
  stray_refused (delta.DoublePath m) h = earlier (delta.DoublePath m) h
  stray_refused (delta.Unsupported f m) h = inl (earlier (delta.Unsupported f m) h)
  stray_refused (delta.Limit w) h = earlier (delta.Limit w) h

  pub stray_told : (c : DeltaCommit) → IsReadableCommit upto c → IsCommitRefusal bytes (delta.Unsupported CompactAction n)
  stray_told c readable = inr (
    refl,
    record {
      front = strays_at.front;
      line = strays_at.line;
      later = strays_at.later;
      split = strays_at.split;
      number = strays_at.number;
      actions = readable.actions;
      readable = subst (λ l. AreReadable l readable.actions) strays_at.cut readable.readable;
      plain = all_plain strays_at.front strays_at.plain;
      stray = stray_line strays_at.line strays_at.stray;
    },
  )

-- ---- commits one after another

pub taken_more : (commits : List (List ℕ)) (said : List DeltaCommit) (bytes : List ℕ) (c : DeltaCommit) → AreTaken commits said → IsTaken bytes c → AreTaken (commits ++ bytes ∷ []) (said ++ c ∷ [])
taken_more [] [] bytes c taken one = (one, refl)
taken_more [] (d ∷ said) bytes c taken one = absurd (cc)
taken_more (b ∷ commits) [] bytes c taken one = absurd taken
taken_more (b ∷ commits) (d ∷ said) bytes c taken one = (taken.0, taken_more commits said bytes c taken.1 one)

pub all_lines_more : (commits : List (List ℕ)) (bytes : List ℕ) → all_lines (commits ++ bytes ∷ []) ≡ all_lines commits ++ lines_of bytes
all_lines_more commits bytes = flat_map-append lines_of commits (bytes ∷ []) ∙ ap (λ l. all_lines commits ++ l) (append-nil (lines_of bytes))

module _ (front : List (List ℕ)) (bytes : List ℕ) (later : List (List ℕ)) (said : List DeltaCommit) (taken : AreTaken front said) where
  first_refused : (cause : DeltaError) → IsCommitRefusal bytes cause → IsFirstRefused (front ++ bytes ∷ later) (error_at (length front) cause)
  first_refused cause refused = record { front = front; bytes = bytes; later = later; said = said; cause = cause; split = refl; taken = taken; refused = refused; told = refl }

  pub join_refused : (cause : DeltaError) → IsCommitRefusal bytes cause → IsJoinRefusal (front ++ bytes ∷ later) (error_at (length front) cause)
  join_refused delta.Memory refused = tt
  join_refused (delta.Malformed n) refused = first_refused (delta.Malformed n) refused
  join_refused (delta.DoublePath n) refused = first_refused (delta.DoublePath n) refused
  join_refused (delta.Unsupported f n) refused = first_refused (delta.Unsupported f n) refused
  join_refused (delta.Limit w) refused = first_refused (delta.Limit w) refused

-- ---- the loop over the commits

module _ (commits : List (List ℕ)) (i : ℕ) (bytes : List ℕ) (within : i < length commits) (at : bytes ≡ get_or commits i bytes) where
  upto : take (i + 1) commits ≡ take i commits ++ bytes ∷ []
  upto = take_more commits i bytes within ∙ ap (λ b. take i commits ++ b ∷ []) (sym at)

  around : take i commits ++ bytes ∷ drop (i + 1) commits ≡ commits
  around = ap (λ b. take i commits ++ b ∷ drop (i + 1) commits) at ∙ ap (λ l. take i commits ++ l) (sym (drop_more commits i bytes within)) ∙ take-append-drop i commits

  pub next_lines : (before after : List (LineKey × List ℕ)) → before ≡ with_lines (all_lines (take i commits)) [] → after ≡ with_lines (lines_of bytes) before → after ≡ with_lines (all_lines (take (i + 1) commits)) []
  next_lines before after was is =
      is ∙ ap (with_lines (lines_of bytes)) was ∙ sym (more_lines (all_lines (take i commits)) (lines_of bytes) [])
      ∙ ap (λ l. with_lines l []) (sym (ap all_lines upto ∙ all_lines_more (take i commits) bytes))

  pub next_taken : (said : List DeltaCommit) × AreTaken (take i commits) said → (c : DeltaCommit) × IsTaken bytes c → (said : List DeltaCommit) × AreTaken (take (i + 1) commits) said
  next_taken was one = (was.0 ++ one.0 ∷ [], subst (λ l. AreTaken l (was.0 ++ one.0 ∷ [])) (sym upto) (taken_more (take i commits) was.0 bytes one.0 was.1 one.1))

  pub next_refused : (said : List DeltaCommit) × AreTaken (take i commits) said → (e : DeltaError) → IsCommitRefusal bytes e → (told : CompactError) → told ≡ error_at i e → IsJoinRefusal commits told
  next_refused was e refused told is =
      let len : length (take i commits) ≡ i = length-take-le i commits (omega (arith, within)) in
      let whole = join_refused (take i commits) bytes (drop (i + 1) commits) was.0 was.1 e refused in
      let here = subst (λ l. IsJoinRefusal l (error_at (length (take i commits)) e)) around whole in
      subst (IsJoinRefusal commits) (sym (is ∙ ap (λ n. error_at n e) (sym len))) here
