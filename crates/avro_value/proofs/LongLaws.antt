-- From what reading a number gives to what is spelled between two places.
use Rattle.std.proofs.Common.{◌≡◌, ℕ, ℤ, ◌+◌, ◌-◌, ◌≤◌, List, length, take, drop, Result, Ok, Err, IfOk, IfErr, refl, sym, ap, subst, ◌∙◌, arith, slice_range}
use Rattle.std.proofs.lemmas.List.{length-append, length-drop, take_at}
use Rattle.std.proofs.lemmas.List.Folds.{drop_split}
use Rattle.avro_value.specs.declared.error.AvroError.{AvroError}
use Rattle.avro_value.specs.declared.fault.Fault.{Fault}
use Rattle.avro_value.specs.Varint.{Long}
use Rattle.avro_value.specs.Reading.{Item, long_at}
use Rattle.avro_value.specs.Answers.{LongAnswers, error_of}
use Rattle.avro_value.specs.Laws.{IsLongAt, IsNoLongAt}
use Rattle.avro_value.proofs.NumberLaws.{ok_is}
use Rattle.avro_value.proofs.ItemLaws.{long_takes, long_again}
use Rattle.avro_value.proofs.FaultLaws.{long_refuses}
use Rattle.avro_value.proofs.FaultAgain.{long_refused}

pub long_found : (bytes : List ℕ) (at : ℕ) (r : Result (ℤ × ℕ) AvroError) → at ≤ length bytes → LongAnswers (length bytes) at r (long_at (drop at bytes)) → IfOk r (λ x. IsLongAt bytes at x.0 x.1)
long_found bytes at (Ok x) inside a =
    let rest = a.0 in
    let is = a.2 in
    let t = long_takes (drop at bytes) (x.0, rest) a.1 in
    let len : length bytes - at ≡ length t.0 + length rest = sym (length-drop at bytes) ∙ ap length t.1 ∙ length-append t.0 rest in
    let width : x.1 - at ≡ length t.0 = omega (arith, len, is) in
    let same : slice_range bytes at x.1 ≡ t.0 = ap (λ (n : ℕ). take n (drop at bytes)) width ∙ ap (take (length t.0)) t.1 ∙ take_at t.0 rest (length t.0) refl in
    record { after = omega (arith, len, is); within = omega (arith, is); spelled = subst (Long x.0) (sym same) t.2 }
long_found bytes at (Err e) inside a = tt

long_reads : (bytes : List ℕ) (at : ℕ) (n : ℤ) (end : ℕ) → IsLongAt bytes at n end → long_at (drop at bytes) ≡ Ok (n, drop end bytes)
long_reads bytes at n end s = rw (drop_split bytes at end s.after) (long_again n (slice_range bytes at end) (drop end bytes) s.spelled)

pub long_only : (bytes : List ℕ) (at : ℕ) (r : Result (ℤ × ℕ) AvroError) → LongAnswers (length bytes) at r (long_at (drop at bytes)) → (n : ℤ) (end : ℕ) → IsLongAt bytes at n end → r ≡ Ok (n, end)
long_only bytes at (Ok x) a n end s =
    let both : ◌≡◌ {A = Item ℤ} (Ok (x.0, a.0)) (Ok (n, drop end bytes)) = sym a.1 ∙ long_reads bytes at n end s in
    let same = ok_is (x.0, a.0) (n, drop end bytes) both in
    let rest : a.0 ≡ drop end bytes = ap (λ (z : ℤ × List ℕ). z.1) same in
    let value : x.0 ≡ n = ap (λ (z : ℤ × List ℕ). z.0) same in
    let len : length a.0 ≡ length bytes - end = ap length rest ∙ length-drop end bytes in
    let within = s.within in
    let place : x.1 ≡ end = omega (arith, a.2, len, within) in
    ap (λ (m : ℤ). Ok (m, x.1)) value ∙ ap (λ (p : ℕ). Ok (n, p)) place
long_only bytes at (Err e) a n end s = absurd (let both : ◌≡◌ {A = Item ℤ} (Err a.0) (Ok (n, drop end bytes)) = sym a.1 ∙ long_reads bytes at n end s in cc)

pub long_refused_at : (bytes : List ℕ) (at : ℕ) (r : Result (ℤ × ℕ) AvroError) → LongAnswers (length bytes) at r (long_at (drop at bytes)) → IfErr r (IsNoLongAt bytes at)
long_refused_at bytes at (Ok x) a = tt
long_refused_at bytes at (Err e) a = (a.0, long_refuses (drop at bytes) a.0 a.1, a.2)

pub long_first : (bytes : List ℕ) (at : ℕ) (r : Result (ℤ × ℕ) AvroError) → LongAnswers (length bytes) at r (long_at (drop at bytes)) → (e : AvroError) → IsNoLongAt bytes at e → r ≡ Err e
long_first bytes at (Ok x) a e h = absurd (let both : ◌≡◌ {A = Item ℤ} (Ok (x.0, a.0)) (Err h.0) = sym a.1 ∙ long_refused (drop at bytes) h.0 h.1 in cc)
long_first bytes at (Err d) a e h =
    let both : ◌≡◌ {A = Item ℤ} (Err a.0) (Err h.0) = sym a.1 ∙ long_refused (drop at bytes) h.0 h.1 in
    let same : a.0 ≡ h.0 = cc in
    let named : d ≡ e = a.2 ∙ ap (λ (f : Fault). error_of f at) same ∙ sym h.2 in
    ap (λ (x : AvroError). Err x) named
