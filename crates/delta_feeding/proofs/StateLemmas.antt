-- What has been read, as the code goes.
use Rattle.std.proofs.Common.{◌≡◌, ℕ, ◌-◌, ◌^◌, ◌<◌, List, [], ◌++◌, length, Bool, true, false, Result, Ok, Err, refl, sym, ap, subst, ◌∙◌}
use Rattle.std.specs.List.{list_any}
use Rattle.lake_basics.specs.Outcome.{◌>>=◌, FailsUnlessMemory}
use Rattle.delta_log.specs.declared.commit.DeltaCommit.{DeltaCommit}
use Rattle.delta_log.specs.declared.error.DeltaError.{DeltaError}
use Rattle.delta_log.specs.declared.error.DeltaError.TheVariants as errors
use Rattle.delta_log.specs.Judging.{Answers, is_memory, is_newline, commit_of}
use Rattle.delta_log.proofs.ReadableLemmas.{found_by, only_by, fault_by}
use Rattle.delta_feeding.specs.Cut.{IsCut}
use Rattle.delta_feeding.specs.Feeding.{LinesRead, SoFar, State, nothing_read, with_next_line, with_end, fed, ended}
use Rattle.delta_feeding.specs.Laws.{IsAnswerFor}
use Rattle.delta_feeding.proofs.AnswerLemmas.{fails_on, answers_same}
use Rattle.delta_feeding.proofs.LawLemmas.{end_is_whole}
use Rattle.delta_feeding.proofs.PieceLemmas.{longer, fed_refused, fed_rest, fed_cut}

-- ---- a line that ends

pub out_of_memory : {A : Type 0} (result : Result A DeltaError) (e : DeltaError) (s : Result A DeltaError) → result ≡ Err e → e ≡ errors.Memory → Answers result s
out_of_memory {A} result e s is want = subst (λ (r : Result A DeltaError). Answers r s) (sym (is ∙ ap Err want)) tt

abbrev end_from : LinesRead → List ℕ → State
end_from w line = with_next_line w line >>= λ v. Ok (record { whole = v; rest = [] })

from_view : (s : SoFar) (w : LinesRead) (rest end line : List ℕ) → record { whole = w; rest = rest } ≡ s → line ≡ rest ++ end → end_from w line ≡ with_end s end
from_view s w rest end line view is = ap (end_from w) is ∙ ap (λ (t : SoFar). with_end t end) view

pub end_fails : (s : SoFar) (w : LinesRead) (rest end line : List ℕ) (e : DeltaError) → record { whole = w; rest = rest } ≡ s → line ≡ rest ++ end → FailsUnlessMemory (is_memory e) e (with_next_line w line) → FailsUnlessMemory (is_memory e) e (with_end s end)
end_fails s w rest end line e view is h = subst (λ (r : State). FailsUnlessMemory (is_memory e) e r) (from_view s w rest end line view is) (fails_on e (with_next_line w line) (λ v. Ok (record { whole = v; rest = [] })) h)

pub end_goes : (s : SoFar) (w v : LinesRead) (rest end line after : List ℕ) → record { whole = w; rest = rest } ≡ s → line ≡ rest ++ end → with_next_line w line ≡ Ok v → after ≡ [] → with_end s end ≡ Ok (record { whole = v; rest = after })
end_goes s w v rest end line after view is read none =
    sym (from_view s w rest end line view is) ∙ ap (λ (r : Result LinesRead DeltaError). r >>= λ u. Ok (record { whole = u; rest = [] })) read ∙ ap (λ (l : List ℕ). Ok (record { whole = v; rest = l })) (sym none)

-- ---- pieces

pub cut_goes : (s t : SoFar) (bytes line behind : List ℕ) (r : State) → IsCut bytes line behind → with_end s line ≡ Ok t → fed (Ok s) bytes ≡ r → fed (Ok t) behind ≡ r
cut_goes s t bytes line behind r cut is so_far = sym (ap (λ (q : State). fed q behind) is) ∙ sym (fed_cut s bytes line behind cut) ∙ so_far

cut_fails_by : (s : SoFar) (bytes line behind : List ℕ) (r : State) (v : Bool) (e : DeltaError) → IsCut bytes line behind → FailsUnlessMemory v e (with_end s line) → fed (Ok s) bytes ≡ r → FailsUnlessMemory v e r
cut_fails_by s bytes line behind r true e cut h so_far = tt
cut_fails_by s bytes line behind r false e cut h so_far = sym so_far ∙ fed_cut s bytes line behind cut ∙ ap (λ (q : State). fed q behind) h ∙ fed_refused e behind

pub cut_fails : (s : SoFar) (bytes line behind : List ℕ) (r : State) (e : DeltaError) → IsCut bytes line behind → FailsUnlessMemory (is_memory e) e (with_end s line) → fed (Ok s) bytes ≡ r → FailsUnlessMemory (is_memory e) e r
cut_fails s bytes line behind r e cut h so_far = cut_fails_by s bytes line behind r (is_memory e) e cut h so_far

pub rest_answers : (s : SoFar) (bytes : List ℕ) (result r : State) → list_any is_newline bytes ≡ false → fed (Ok s) bytes ≡ r → Answers result (Ok (longer s bytes)) → Answers result r
rest_answers s bytes result r none so_far h = answers_same result _ _ (sym (fed_rest s bytes none) ∙ so_far) h

refused_by : (v : Bool) (e : DeltaError) (piece : List ℕ) → FailsUnlessMemory v e (fed (Err e) piece)
refused_by true e piece = tt
refused_by false e piece = fed_refused e piece

pub refused_stays : (e : DeltaError) (piece : List ℕ) → FailsUnlessMemory (is_memory e) e (fed (Err e) piece)
refused_stays e piece = refused_by (is_memory e) e piece

-- ---- the end

end_is : (s : SoFar) (w : LinesRead) (rest line : List ℕ) → record { whole = w; rest = rest } ≡ s → line ≡ rest → (with_next_line w line >>= λ v. Ok v.commit) ≡ ended (Ok s)
unfolding ended
end_is s w rest line view is = ap (λ (l : List ℕ). with_next_line w l >>= λ v. Ok v.commit) is ∙ ap (λ (t : SoFar). with_next_line t.whole t.rest >>= λ v. Ok v.commit) view

pub last_fails : (s : SoFar) (w : LinesRead) (rest line : List ℕ) (e : DeltaError) → record { whole = w; rest = rest } ≡ s → line ≡ rest → FailsUnlessMemory (is_memory e) e (with_next_line w line) → FailsUnlessMemory (is_memory e) e (ended (Ok s))
last_fails s w rest line e view is h = subst (λ (r : Result DeltaCommit DeltaError). FailsUnlessMemory (is_memory e) e r) (end_is s w rest line view is) (fails_on e (with_next_line w line) (λ v. Ok v.commit) h)

pub last_goes : (s : SoFar) (w v : LinesRead) (rest line : List ℕ) (c : DeltaCommit) → record { whole = w; rest = rest } ≡ s → line ≡ rest → with_next_line w line ≡ Ok v → c ≡ v.commit → ended (Ok s) ≡ Ok c
last_goes s w v rest line c view is read same = sym (end_is s w rest line view is) ∙ ap (λ (r : Result LinesRead DeltaError). r >>= λ u. Ok u.commit) read ∙ ap Ok (sym same)

end_refused : (v : Bool) (e : DeltaError) → FailsUnlessMemory v e (ended (Err e))
unfolding ended
end_refused true e = tt
end_refused false e = refl

pub refused_at_end : (e : DeltaError) → FailsUnlessMemory (is_memory e) e (ended (Err e))
refused_at_end e = end_refused (is_memory e) e

pub whole_answer : (bytes : List ℕ) (inside s : State) (r : Result DeltaCommit DeltaError) → inside ≡ s → s ≡ fed nothing_read bytes → length bytes < 2 ^ 64 - 1 → Answers r (ended inside) → IsAnswerFor bytes r
whole_answer bytes inside s r view is small h =
    let reading = answers_same r (ended inside) (commit_of bytes) (ap ended (view ∙ is) ∙ end_is_whole bytes small) h in
    record { found = found_by bytes r reading; only = only_by bytes r reading; fault = fault_by bytes r reading; exact = reading }
