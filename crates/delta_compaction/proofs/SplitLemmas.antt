-- The lines of bytes, each with its newline.
use Rattle.std.proofs.Common.{◌≡◌, ◌⊎◌, inl, inr, ⊎_elim, ℕ, suc, ◌+◌, ◌-◌, ◌<◌, List, [], ◌∷◌, ◌++◌, length, take, Option, Some, None, All, false, refl, sym, ap, subst, ◌∙◌, append_assoc, length-append, arith}
use Rattle.std.specs.Prelude.{flat_map}
use Rattle.std.specs.List.{onto_first}
use Rattle.std.proofs.lemmas.Grind.{flat_map-append}
use Rattle.std.proofs.lemmas.List.{append-nil, append_cancel_right, take_at}
use Rattle.std.proofs.lemmas.List.Elements.{All-nil, All-cons, All-head, All-tail, All-append}
use Rattle.std.proofs.lemmas.Bool.{cases_Bool}
use Rattle.std.proofs.lemmas.List.Splits.{slice_split_none, slice_split_at, slice_split-cons_no, slice_split-cons_yes}
use Rattle.delta_log.specs.Judging.{is_newline, lines_of}
use Rattle.delta_compaction.specs.Kinds.{IsOneLine, IsFirstLine, rest_of}
use Rattle.delta_compaction.specs.Reconciled.{all_lines, ended}
use Rattle.lake_basics.proofs.Lists.{all_middle}

-- ---- cutting at the first newline

not_empty : (bytes : List ℕ) → [] ≡ bytes ++ 10 ∷ [] → ⊥
not_empty [] e = cc
not_empty (b ∷ bytes) e = cc

-- Bytes and a newline that begin with a line and a newline: the bytes are that line, or they begin with both.
abbrev LineCut : List ℕ → List ℕ → List ℕ → Type 0
LineCut bytes line rest = ((rest ≡ []) × (bytes ≡ line)) ⊎ ((more : List ℕ) × (rest ≡ more ++ 10 ∷ []) × (bytes ≡ line ++ 10 ∷ more))

cut_more : (b : ℕ) (bytes line rest : List ℕ) → LineCut bytes line rest → LineCut (b ∷ bytes) (b ∷ line) rest
cut_more b bytes line rest (inl h) = inl (h.0, ap (λ l. b ∷ l) h.1)
cut_more b bytes line rest (inr h) = inr (h.0, h.1, ap (λ l. b ∷ l) h.2)

line_cut : (bytes line rest : List ℕ) → bytes ++ 10 ∷ [] ≡ line ++ 10 ∷ rest → LineCut bytes line rest
line_cut [] [] rest e = let none : [] ≡ rest = cc in inl (sym none, refl)
line_cut [] (c ∷ line) rest e = let none : [] ≡ line ++ 10 ∷ rest = cc in absurd (nothing line rest none)
  where
    nothing : (line rest : List ℕ) → [] ≡ line ++ 10 ∷ rest → ⊥
    nothing [] rest e = cc
    nothing (c ∷ line) rest e = cc
line_cut (b ∷ bytes) [] rest e = let same : b ≡ 10 = cc in let more : bytes ++ 10 ∷ [] ≡ rest = cc in inr (bytes, sym more, ap (λ x. x ∷ bytes) same)
line_cut (b ∷ bytes) (c ∷ line) rest e =
    let same : b ≡ c = cc in
    let more : bytes ++ 10 ∷ [] ≡ line ++ 10 ∷ rest = cc in
    subst (λ x. LineCut (b ∷ bytes) (x ∷ line) rest) same (cut_more b bytes line rest (line_cut bytes line rest more))

-- ---- lines

abbrev AreLines : List (List ℕ) → Type 0
AreLines lines = All IsOneLine lines

-- The bytes begin with these lines, each with its newline: they are the first lines of the bytes.
abbrev Begins : List ℕ → List (List ℕ) → List ℕ → Type 0
Begins bytes front rest = ((rest ≡ []) × (lines_of bytes ≡ front)) ⊎ ((more : List ℕ) × (rest ≡ more ++ 10 ∷ []) × (lines_of bytes ≡ front ++ lines_of more))

begins_more : (line : List ℕ) (bytes : List ℕ) (front : List (List ℕ)) (rest more : List ℕ) → IsOneLine line → bytes ≡ line ++ 10 ∷ more → Begins more front rest → Begins bytes (line ∷ front) rest
begins_more line bytes front rest more one is h =
    let first : lines_of bytes ≡ line ∷ lines_of more = ap lines_of is ∙ slice_split_at is_newline line 10 more one refl in
    ⊎_elim
    (λ (all : (rest ≡ []) × (lines_of more ≡ front)). inl (all.0, first ∙ ap (λ l. line ∷ l) all.1))
    (λ (some : (left : List ℕ) × (rest ≡ left ++ 10 ∷ []) × (lines_of more ≡ front ++ lines_of left)). inr (some.0, some.1, first ∙ ap (λ l. line ∷ l) some.2))
    h

cut_at : (front : List (List ℕ)) (line bytes rest : List ℕ) → bytes ++ 10 ∷ [] ≡ flat_map ended (line ∷ front) ++ rest → LineCut bytes line (flat_map ended front ++ rest)
cut_at front line bytes rest e =
    line_cut bytes line (flat_map ended front ++ rest) (e ∙ append_assoc (ended line) (flat_map ended front) rest ∙ append_assoc line (10 ∷ []) (flat_map ended front ++ rest))

begins_last : (line bytes rest : List ℕ) → IsOneLine line → LineCut bytes line rest → Begins bytes (line ∷ []) rest
begins_last line bytes rest one (inl last) = inl (last.0, ap lines_of last.1 ∙ slice_split_none is_newline line one)
begins_last line bytes rest one (inr more) = inr (more.0, more.1, ap lines_of more.2 ∙ slice_split_at is_newline line 10 more.0 one refl)

not_nothing : (next rest : List ℕ) → ended next ++ rest ≡ [] → ⊥
not_nothing [] rest e = cc
not_nothing (c ∷ next) rest e = cc

begins_next : (line next : List ℕ) (others : List (List ℕ)) (bytes rest : List ℕ) → IsOneLine line → ((more : List ℕ) → more ++ 10 ∷ [] ≡ flat_map ended (next ∷ others) ++ rest → Begins more (next ∷ others) rest)
    → LineCut bytes line (flat_map ended (next ∷ others) ++ rest) → Begins bytes (line ∷ next ∷ others) rest
begins_next line next others bytes rest one again (inl last) = absurd (not_nothing next (flat_map ended others ++ rest) (sym (append_assoc (ended next) (flat_map ended others) rest) ∙ last.0))
begins_next line next others bytes rest one again (inr more) = begins_more line bytes (next ∷ others) rest more.0 one more.2 (again more.0 (sym more.1))

begins : (front : List (List ℕ)) (line bytes rest : List ℕ) → IsOneLine line → AreLines front → bytes ++ 10 ∷ [] ≡ flat_map ended (line ∷ front) ++ rest → Begins bytes (line ∷ front) rest
begins [] line bytes rest one lines e = begins_last line bytes rest one (cut_at [] line bytes rest e)
begins (next ∷ others) line bytes rest one lines e =
    begins_next line next others bytes rest one
    (λ more is. begins others next more rest (All-head IsOneLine next others lines) (All-tail IsOneLine next others lines) is)
    (cut_at (next ∷ others) line bytes rest e)

-- one line and more
abbrev HasLine : List (List ℕ) → Type 0
HasLine lines = 0 < length lines

cut_lines : (lines : List (List ℕ)) (bytes rest : List ℕ) → HasLine lines → AreLines lines → bytes ++ 10 ∷ [] ≡ flat_map ended lines ++ rest → Begins bytes lines rest
cut_lines [] bytes rest some one e = absurd (omega (arith, some))
cut_lines (line ∷ front) bytes rest some one e = begins front line bytes rest (All-head IsOneLine line front one) (All-tail IsOneLine line front one) e

-- all of the bytes
pub lines_are : (lines : List (List ℕ)) (bytes : List ℕ) → All IsOneLine lines → bytes ++ 10 ∷ [] ≡ flat_map ended lines → lines_of bytes ≡ lines
lines_are [] bytes one e = absurd (not_empty bytes (sym e))
lines_are (line ∷ front) bytes one e =
    ⊎_elim (λ (all : ([] ≡ []) × (lines_of bytes ≡ line ∷ front)). all.1)
    (λ (some : (more : List ℕ) × ([] ≡ more ++ 10 ∷ []) × (lines_of bytes ≡ (line ∷ front) ++ lines_of more)). absurd (not_empty some.0 some.1))
    (cut_lines (line ∷ front) bytes [] (omega arith) one (e ∙ sym (append-nil (flat_map ended (line ∷ front)))))

-- lines with their newlines, and nothing behind them, end with an empty line
pub lines_of_text : (lines : List (List ℕ)) → All IsOneLine lines → lines_of (flat_map ended lines) ≡ lines ++ [] ∷ []
lines_of_text [] one = refl
lines_of_text (line ∷ lines) one =
    ap lines_of (append_assoc line (10 ∷ []) (flat_map ended lines))
    ∙ slice_split_at is_newline line 10 (flat_map ended lines) (All-head IsOneLine line lines one) refl
    ∙ ap (λ l. line ∷ l) (lines_of_text lines (All-tail IsOneLine line lines one))

-- ---- the loop over the lines

-- These lines were read, and this is left.
pub record HasRead (bytes : List ℕ) (rest : Option (List ℕ)) (front : List (List ℕ)) : Type 0 where
  pub one : All IsOneLine front
  pub split : bytes ++ 10 ∷ [] ≡ flat_map ended front ++ rest_of rest

pub read_none : (bytes : List ℕ) → HasRead bytes (Some bytes) []
read_none bytes = record { one = All-nil IsOneLine; split = refl }

more_ended : (front : List (List ℕ)) (line : List ℕ) → flat_map ended (front ++ line ∷ []) ≡ flat_map ended front ++ ended line
more_ended front line = flat_map-append ended front (line ∷ []) ∙ ap (λ l. flat_map ended front ++ l) (append-nil (ended line))

pub read_more : (bytes rest line : List ℕ) (behind : Option (List ℕ)) (front : List (List ℕ)) → HasRead bytes (Some rest) front → IsFirstLine rest line behind → HasRead bytes behind (front ++ line ∷ [])
read_more bytes rest line behind front so_far first = record {
  one = All-append IsOneLine front (line ∷ []) so_far.one (All-cons IsOneLine line [] first.one (All-nil IsOneLine));
  split = so_far.split ∙ ap (λ l. flat_map ended front ++ l) first.split ∙ sym (append_assoc (flat_map ended front) (ended line) (rest_of behind)) ∙ ap (λ l. l ++ rest_of behind) (sym (more_ended front line));
}

pub read_all : (bytes : List ℕ) (front : List (List ℕ)) → HasRead bytes None front → lines_of bytes ≡ front
read_all bytes front h = lines_are front bytes h.one (h.split ∙ append-nil (flat_map ended front))

-- the lines that stand behind those that were read
pub read_front : (bytes : List ℕ) (behind : Option (List ℕ)) (front : List (List ℕ)) (line : List ℕ) → HasRead bytes behind (front ++ line ∷ []) → (later : List (List ℕ)) × (lines_of bytes ≡ front ++ line ∷ later)
read_front bytes behind front line h = ⊎_elim
    (λ (all : (rest_of behind ≡ []) × (lines_of bytes ≡ front ++ line ∷ [])). ([], all.1))
    (λ (some : (more : List ℕ) × (rest_of behind ≡ more ++ 10 ∷ []) × (lines_of bytes ≡ (front ++ line ∷ []) ++ lines_of more)). (lines_of some.0, some.2 ∙ append_assoc front (line ∷ []) (lines_of some.0)))
    (cut_lines (front ++ line ∷ []) bytes (rest_of behind) (let len = length-append front (line ∷ []) in omega (arith, len)) h.one h.split)

-- the bytes up to the end of the last line that was read
pub read_upto : (bytes : List ℕ) (behind : Option (List ℕ)) (front : List (List ℕ)) (line : List ℕ) → HasRead bytes behind (front ++ line ∷ [])
    → lines_of (take (length bytes - length (rest_of behind)) bytes) ≡ front ++ line ∷ []
read_upto bytes None front line h =
    let same : take (length bytes - 0) bytes ≡ bytes = take_whole bytes in
    ap lines_of same ∙ lines_are (front ++ line ∷ []) bytes h.one (h.split ∙ append-nil (flat_map ended (front ++ line ∷ [])))
  where
    take_whole : (xs : List ℕ) → take (length xs - 0) xs ≡ xs
    take_whole xs = let none : length xs - 0 ≡ length xs = omega arith in ap (λ n. take n xs) none ∙ take_length xs
      where
        take_length : (ys : List ℕ) → take (length ys) ys ≡ ys
        take_length [] = refl
        take_length (y ∷ ys) = ap (λ l. y ∷ l) (take_length ys)
read_upto bytes (Some rest) front line h =
    let front_bytes = flat_map ended front ++ line in
    let ended_front : flat_map ended (front ++ line ∷ []) ≡ front_bytes ++ 10 ∷ [] = more_ended front line ∙ sym (append_assoc (flat_map ended front) line (10 ∷ [])) in
    let whole : bytes ++ 10 ∷ [] ≡ (front_bytes ++ 10 ∷ rest) ++ 10 ∷ [] =
    h.split ∙ ap (λ l. l ++ (rest ++ 10 ∷ [])) ended_front ∙ append_assoc front_bytes (10 ∷ []) (rest ++ 10 ∷ []) ∙ sym (append_assoc front_bytes (10 ∷ rest) (10 ∷ [])) in
    let is : bytes ≡ front_bytes ++ 10 ∷ rest = append_cancel_right bytes (front_bytes ++ 10 ∷ rest) (10 ∷ []) whole in
    let len : length bytes ≡ length front_bytes + suc (length rest) = ap length is ∙ length-append front_bytes (10 ∷ rest) in
    let behind_len : length (rest ++ 10 ∷ []) ≡ length rest + 1 = length-append rest (10 ∷ []) in
    let upto : length bytes - length (rest ++ 10 ∷ []) ≡ length front_bytes = omega (arith, len, behind_len) in
    let cut : take (length bytes - length (rest ++ 10 ∷ [])) bytes ≡ front_bytes = ap (λ n. take n bytes) upto ∙ ap (take (length front_bytes)) is ∙ take_at front_bytes (10 ∷ rest) (length front_bytes) refl in
    ap lines_of cut ∙ lines_are (front ++ line ∷ []) front_bytes h.one (sym ended_front)

-- ---- each line of a commit is one line

one_first : (b : ℕ) (parts : List (List ℕ)) → is_newline b ≡ false → All IsOneLine parts → All IsOneLine (onto_first b parts)
one_first b [] fails all = All-cons IsOneLine (b ∷ []) [] (All-cons (λ x. is_newline x ≡ false) b [] fails (All-nil (λ x. is_newline x ≡ false))) (All-nil IsOneLine)
one_first b (part ∷ parts) fails all =
    All-cons IsOneLine (b ∷ part) parts (All-cons (λ x. is_newline x ≡ false) b part fails (All-head IsOneLine part parts all)) (All-tail IsOneLine part parts all)

pub each_one : (bytes : List ℕ) → All IsOneLine (lines_of bytes)
each_one [] = All-cons IsOneLine [] [] (All-nil (λ x. is_newline x ≡ false)) (All-nil IsOneLine)
each_one (b ∷ bytes) = ⊎_elim
    (λ holds. subst (All IsOneLine) (sym (slice_split-cons_yes is_newline b bytes holds)) (All-cons IsOneLine [] (lines_of bytes) (All-nil (λ x. is_newline x ≡ false)) (each_one bytes)))
    (λ fails. subst (All IsOneLine) (sym (slice_split-cons_no is_newline b bytes fails)) (one_first b (lines_of bytes) fails (each_one bytes)))
    (cases_Bool (is_newline b))

all_one_line : (commits : List (List ℕ)) → All IsOneLine (all_lines commits)
all_one_line [] = All-nil IsOneLine
all_one_line (bytes ∷ commits) = All-append IsOneLine (lines_of bytes) (all_lines commits) (each_one bytes) (all_one_line commits)

pub line_of : (commits front : List (List ℕ)) (line : List ℕ) (later : List (List ℕ)) → all_lines commits ≡ front ++ line ∷ later → IsOneLine line
line_of commits front line later split = all_middle IsOneLine front line later (subst (All IsOneLine) split (all_one_line commits))
