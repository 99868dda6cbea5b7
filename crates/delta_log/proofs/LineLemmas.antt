-- Lines one after another, and paths that are held.
use Rattle.std.proofs.Common.{◌≡◌, ℕ, ◌+◌, ◌<◌, List, [], ◌∷◌, ◌++◌, length, take, drop, Option, Some, None, Bool, true, false, cond, not, nat_lt, Result, Ok, Err, refl, sym, ap, subst, ◌∙◌, arith, le_refl}
use Rattle.std.proofs.lemmas.Bool.{cond-false, cond-true, false_from_ne_true, le-ltb, lt-ltb}
use Rattle.std.proofs.lemmas.Cmp.{nat_list_eq_equiv}
use Rattle.std.proofs.lemmas.List.Folds.{list_any-append}
use Rattle.std.proofs.lemmas.List.{map-append}
use Rattle.std.proofs.lemmas.List.Splits.{slice_split_first, slice_split-cons_no}
use Rattle.std.proofs.lemmas.List.Sums.{position_or_len_is}
use Rattle.std.specs.Prelude.{◌||◌}
use Rattle.std.specs.List.{slice_split, list_any, position, position_or_len}
use Rattle.std.specs.Str.{bytes_eq}
use Rattle.memchr.specs.Find.{IsFirstByte, NoneBefore, Nowhere, Passes, is_byte}
use Rattle.lake_basics.specs.declared.outcome.ReadError.{ReadError}
use Rattle.lake_basics.specs.declared.outcome.ReadError.TheVariants as read_errors
use Rattle.lake_basics.specs.Outcome.{Fails, FailsUnlessMemory}
use Rattle.lake_basics.proofs.Options.{chosen, not_chosen}
use Rattle.delta_log.specs.declared.commit.DeltaCommit.{DeltaCommit}
use Rattle.delta_log.specs.declared.commit.FileAction.{FileAction}
use Rattle.delta_log.specs.declared.error.DeltaError.{DeltaError}
use Rattle.delta_log.specs.declared.error.Fault.{Fault}
use Rattle.delta_log.specs.declared.error.Fault.TheVariants.{Malformed, Unsupported, Limit, DoublePath}
use Rattle.delta_log.specs.Commit.{file_path, file_paths}
use Rattle.delta_log.specs.Judging.{acts_on, with_line, with_lines, error_at, IsErrorAt, is_memory, is_newline}
use borrow.Author.Tests.{ltb-true}

-- ---- the first line

none_passes : (bytes : List ℕ) → Nowhere (Passes is_newline bytes) 0 (length bytes) → position is_newline bytes ≡ None
none_passes bytes none =
    let all : position_or_len is_newline bytes ≡ length bytes = position_or_len_is is_newline bytes (length bytes) 0 (le_refl (length bytes)) (λ k lt. false_from_ne_true _ (none k (omega arith) lt)) (λ lt. absurd (omega arith)) in
    ap (λ (n : ℕ). cond (nat_lt n (length bytes)) (Some n) None) all ∙ cond-false _ _ _ (le-ltb (length bytes) (length bytes) (le_refl (length bytes)))

first_passes : (bytes : List ℕ) (i : ℕ) → NoneBefore (Passes is_newline bytes) 0 (length bytes) i → Passes is_newline bytes i → position is_newline bytes ≡ Some i
first_passes bytes i before passes =
    let at : position_or_len is_newline bytes ≡ i = position_or_len_is is_newline bytes i 0 (omega (arith, before.high)) (λ k lt. false_from_ne_true _ (before.before k (omega arith) lt)) (λ lt. passes) in
    ap (λ (n : ℕ). cond (nat_lt n (length bytes)) (Some n) None) at ∙ cond-true _ _ _ (lt-ltb i (length bytes) before.high)

-- The first byte that is a newline stands at its position.
pub first_newline : (bytes : List ℕ) (r : Option ℕ) → IsFirstByte (is_byte 10) bytes r → r ≡ position is_newline bytes
first_newline bytes None none = sym (none_passes bytes none)
first_newline bytes (Some i) first = sym (first_passes bytes i first.0 first.1)

pub first_line : (bytes : List ℕ) (i : ℕ) → position is_newline bytes ≡ Some i → slice_split is_newline bytes ≡ take i bytes ∷ slice_split is_newline (drop (i + 1) bytes)
first_line bytes i e =
    let both = chosen _ (position_or_len is_newline bytes) i e in
    let within : position_or_len is_newline bytes < length bytes = omega (arith, ltb-true, both.0) in
    slice_split_first is_newline bytes 0 within ∙ ap (λ n. take n bytes ∷ slice_split is_newline (drop (n + 1) bytes)) both.1

past : (b : Bool) (x : ℕ) (xs : List ℕ) → is_newline x ≡ b → nat_lt (cond (not b) (1 + position_or_len is_newline xs) 0) (length (x ∷ xs)) ≡ false
    → (nat_lt (position_or_len is_newline xs) (length xs) ≡ false → slice_split is_newline xs ≡ xs ∷ []) → slice_split is_newline (x ∷ xs) ≡ (x ∷ xs) ∷ []
past true x xs is none more = absurd (grind arith)
past false x xs is none more = slice_split-cons_no is_newline x xs is ∙ rw (more (grind arith))

no_newline : (bytes : List ℕ) → nat_lt (position_or_len is_newline bytes) (length bytes) ≡ false → slice_split is_newline bytes ≡ bytes ∷ []
no_newline [] none = refl
no_newline (x ∷ xs) none = past (is_newline x) x xs refl none (no_newline xs)

pub only_line : (bytes : List ℕ) → position is_newline bytes ≡ None → slice_split is_newline bytes ≡ bytes ∷ []
only_line bytes e = no_newline bytes (not_chosen _ _ e)

-- ---- one line more

pub lines_step : (n : ℕ) (c d : DeltaCommit) (line : List ℕ) (more all : List (List ℕ)) (r : Result DeltaCommit DeltaError) → all ≡ line ∷ more → with_line c line ≡ Ok d → with_lines n c all ≡ r → with_lines (n + 1) d more ≡ r
unfolding with_lines
lines_step n c d line more all r split read e = let f = rw split at e in rw read at f

pub lines_stop : (n : ℕ) (c : DeltaCommit) (fault : Fault) (line : List ℕ) (more all : List (List ℕ)) (r : Result DeltaCommit DeltaError) → all ≡ line ∷ more → with_line c line ≡ Err fault → with_lines n c all ≡ r → r ≡ Err (error_at n fault)
unfolding with_lines
lines_stop n c fault line more all r split read e = let f = rw split at e in sym (rw read at f)

pub lines_end : (n : ℕ) (c : DeltaCommit) (r : Result DeltaCommit DeltaError) → with_lines n c [] ≡ r → r ≡ Ok c
unfolding with_lines
lines_end n c r e = sym e

fails_at : (n : ℕ) (fault : Fault) (r : Result DeltaCommit DeltaError) → r ≡ Err (error_at n fault) → FailsUnlessMemory (is_memory (error_at n fault)) (error_at n fault) r
fails_at n Malformed r is = is
fails_at n (Unsupported feature) r is = is
fails_at n (Limit which) r is = is
fails_at n DoublePath r is = is

abbrev AnswersErr : Result DeltaCommit DeltaError → DeltaError → Type 0
AnswersErr r e = FailsUnlessMemory (is_memory e) e r

pub lines_refused : (n : ℕ) (c : DeltaCommit) (error : ReadError Fault) (e : DeltaError) (line : List ℕ) (more all : List (List ℕ)) (r : Result DeltaCommit DeltaError)
    → IsErrorAt n error e → Fails error (with_line c line) → all ≡ line ∷ more → with_lines n c all ≡ r → FailsUnlessMemory (is_memory e) e r
lines_refused n c read_errors.Memory e line more all r at reading split so_far = subst (AnswersErr r) (sym at) tt
lines_refused n c (read_errors.Fault fault) e line more all r at reading split so_far = subst (AnswersErr r) (sym at) (fails_at n fault r (lines_stop n c fault line more all r split reading so_far))

-- ---- paths

either : (b old : Bool) → cond b true old ≡ (old || (b || false))
either true true = refl
either true false = refl
either false true = refl
either false false = refl

-- an action more is held by its path
pub one_more_path : (q path : List ℕ) (files new : List FileAction) (f : FileAction) (old found : Bool) → path ≡ file_path f → new ≡ files ++ f ∷ [] → old ≡ acts_on q files → found ≡ cond (bytes_eq path q) true old → found ≡ acts_on q new
one_more_path q path files new f old found named longer was is =
    let paths : file_paths new ≡ file_paths files ++ file_path f ∷ [] = ap file_paths longer ∙ map-append file_path files (f ∷ []) in
    is ∙ ap (λ b. cond b true old) (nat_list_eq_equiv.symm path q) ∙ either (bytes_eq q path) old
    ∙ (rw (was, named) (sym (list_any-append (bytes_eq q) (file_paths files) (file_path f ∷ []))) ∙ ap (list_any (bytes_eq q)) (sym paths))
