-- From what reading gives to what is spelled between two places.
use Rattle.std.proofs.Common.{◌≡◌, ℕ, ◌+◌, ◌-◌, ◌≤◌, List, length, take, drop, Result, Ok, Err, IfOk, IfErr, ◌⊎◌, MatchResult, refl, sym, ap, subst, ◌∙◌, arith, inl, inr, slice_range}
use Rattle.std.proofs.lemmas.List.{length-append, length-drop, take_at}
use Rattle.std.proofs.lemmas.List.Folds.{drop_split}
use Rattle.avro_value.specs.declared.value.Value.{Value}
use Rattle.avro_value.specs.declared.error.AvroError.{AvroError}
use Rattle.avro_value.specs.declared.error.AvroError.TheVariants as error
use Rattle.avro_value.specs.declared.fault.FaultAt.{FaultAt}
use Rattle.avro_value.specs.declared.fault.Fault.{Fault}
use Rattle.avro_value.specs.declared.fault.Fault.TheVariants.{Short, BadLong, BadLength, BadIndex, BadText, BadBool, Limit}
use Rattle.avro_value.specs.Layout.{Layout}
use Rattle.avro_value.specs.ValueTree.{ValueTree, value_tree, value_count}
use Rattle.avro_value.specs.Spelling.{Spells}
use Rattle.avro_value.specs.Reading.{Read, value_at}
use Rattle.avro_value.specs.Answers.{Answers, error_of}
use Rattle.avro_value.specs.Faults.{FaultsInValue}
use Rattle.avro_value.specs.Laws.{IsSpelled, IsRefused, IsLimit, IsUnspelled}
use Rattle.avro_value.specs.Fitting.{Fits}
use Rattle.avro_value.proofs.NumberLaws.{ok_is}
use Rattle.avro_value.proofs.ValueLaws.{value_takes, value_again}
use Rattle.avro_value.proofs.ValueFaults.{value_faults}
use Rattle.avro_value.proofs.ValueFaultAgain.{value_refused}
use Rattle.avro_value.proofs.MoreValues.{none_spelled}
use Rattle.avro_value.proofs.FittedValues.{spelled_fits}

spelled_of : (limit : ℕ) (l : Layout) (bytes : List ℕ) (at : ℕ) (v : ValueTree) (rest : List ℕ) (budget end : ℕ) → at ≤ length bytes → value_at l (drop at bytes) limit ≡ Ok (v, rest, budget) → end ≡ length bytes - length rest → IsSpelled limit l bytes at v end
spelled_of limit l bytes at v rest budget end inside e is =
    let t = value_takes l (drop at bytes) limit (v, rest, budget) e in
    let c = t.counted in
    let len : length bytes - at ≡ length t.front + length rest = sym (length-drop at bytes) ∙ ap length t.parts ∙ length-append t.front rest in
    let width : end - at ≡ length t.front = omega (arith, len, is) in
    let same : slice_range bytes at end ≡ t.front = ap (λ (n : ℕ). take n (drop at bytes)) width ∙ ap (take (length t.front)) t.parts ∙ take_at t.front rest (length t.front) refl in
    record {
      after = omega (arith, len, is);
      within = omega (arith, is);
      spelled = subst (λ (bs : List ℕ). Spells l v bs) (sym same) t.spelled;
      few = omega (arith, c);
    }

pub is_found : (limit : ℕ) (l : Layout) (bytes : List ℕ) (at : ℕ) (r : Result (Value × ℕ × ℕ) AvroError) → at ≤ length bytes → Answers (length bytes) r (value_at l (drop at bytes) limit)
    → IfOk r (λ x. IsSpelled limit l bytes at (value_tree x.0) x.1)
is_found limit l bytes at (Ok x) inside a = spelled_of limit l bytes at (value_tree x.0) a.0 x.2 x.1 inside a.1 a.2
is_found limit l bytes at (Err e) inside a = tt

pub is_counted : (limit : ℕ) (l : Layout) (bytes : List ℕ) (at : ℕ) (r : Result (Value × ℕ × ℕ) AvroError) → Answers (length bytes) r (value_at l (drop at bytes) limit)
    → IfOk r (λ x. x.2 + value_count (value_tree x.0) ≡ limit)
is_counted limit l bytes at (Ok x) a = let t = value_takes l (drop at bytes) limit (value_tree x.0, a.0, x.2) a.1 in let c = t.counted in omega (arith, c)
is_counted limit l bytes at (Err e) a = tt

reads : (limit : ℕ) (l : Layout) (bytes : List ℕ) (at : ℕ) (v : ValueTree) (end : ℕ) → IsSpelled limit l bytes at v end → value_at l (drop at bytes) limit ≡ Ok (v, drop end bytes, limit - value_count v)
reads limit l bytes at v end s =
    let few = s.few in
    rw (drop_split bytes at end s.after) (value_again l v (slice_range bytes at end) (drop end bytes) limit (limit - value_count v) s.spelled (omega (arith, few)))

pub is_only : (limit : ℕ) (l : Layout) (bytes : List ℕ) (at : ℕ) (r : Result (Value × ℕ × ℕ) AvroError) → Answers (length bytes) r (value_at l (drop at bytes) limit)
    → (v : ValueTree) (end : ℕ) → IsSpelled limit l bytes at v end → MatchResult r (λ x. (value_tree x.0 ≡ v) × (x.1 ≡ end)) (λ e. e ≡ error.Memory)
is_only limit l bytes at (Ok x) a v end s =
    let both : ◌≡◌ {A = Read ValueTree} (Ok (value_tree x.0, a.0, x.2)) (Ok (v, drop end bytes, limit - value_count v)) = sym a.1 ∙ reads limit l bytes at v end s in
    let same = ok_is (value_tree x.0, a.0, x.2) (v, drop end bytes, limit - value_count v) both in
    let rest : a.0 ≡ drop end bytes = ap (λ (z : ValueTree × List ℕ × ℕ). z.1) same in
    let len : length a.0 ≡ length bytes - end = ap length rest ∙ length-drop end bytes in
    let within = s.within in
    (ap (λ (z : ValueTree × List ℕ × ℕ). z.0) same, omega (arith, a.2, len, within))
is_only limit l bytes at (Err e) a v end s = elim a [
  | inl memory ↦ memory
  | inr fault ↦ absurd (let both : ◌≡◌ {A = Read ValueTree} (Err fault.0) (Ok (v, drop end bytes, limit - value_count v)) = sym fault.1 ∙ reads limit l bytes at v end s in cc)
]

pub is_refused : (limit : ℕ) (l : Layout) (bytes : List ℕ) (at : ℕ) (r : Result (Value × ℕ × ℕ) AvroError) → at ≤ length bytes → Answers (length bytes) r (value_at l (drop at bytes) limit)
    → IfErr r (λ e. (e ≡ error.Memory) ⊎ IsRefused limit l bytes at e)
is_refused limit l bytes at (Ok x) inside a = tt
is_refused limit l bytes at (Err e) inside a = elim a [
  | inl memory ↦ inl memory
  | inr given ↦
      (let h = value_faults l (drop at bytes) limit given.0 given.1 in
      let w = h.within in
      inr (record { fault = given.0; first = h.fault; within = omega (arith, w, length-drop at bytes); is = given.2 }))
]

-- A refusal other than the limit is no value's.
unspelled : (limit : ℕ) (l : Layout) (bytes : List ℕ) (at : ℕ) (e : AvroError) (f : FaultAt) → FaultsInValue l (drop at bytes) limit f → e ≡ error_of f.fault (length bytes - f.left) → IsLimit e ⊎ IsUnspelled l bytes at
unspelled limit l bytes at e f h is = go f.fault refl
  where
    none : (f.fault ≡ Limit → ⊥) → IsUnspelled l bytes at
    none other room v end s = none_spelled l (drop at bytes) limit f other h v (slice_range bytes at end) (drop end bytes) (drop_split bytes at end s.after) s.spelled

    go : (r : Fault) → f.fault ≡ r → IsLimit e ⊎ IsUnspelled l bytes at
    go Limit q = inl (length bytes - f.left, is ∙ ap (λ (r : Fault). error_of r (length bytes - f.left)) q)
    go Short q = inr (none (λ p. let both = sym q ∙ p in absurd cc))
    go BadLong q = inr (none (λ p. let both = sym q ∙ p in absurd cc))
    go BadLength q = inr (none (λ p. let both = sym q ∙ p in absurd cc))
    go BadIndex q = inr (none (λ p. let both = sym q ∙ p in absurd cc))
    go BadText q = inr (none (λ p. let both = sym q ∙ p in absurd cc))
    go BadBool q = inr (none (λ p. let both = sym q ∙ p in absurd cc))

pub is_none : (limit : ℕ) (l : Layout) (bytes : List ℕ) (at : ℕ) (r : Result (Value × ℕ × ℕ) AvroError) → Answers (length bytes) r (value_at l (drop at bytes) limit)
    → IfErr r (λ e. (e ≡ error.Memory) ⊎ IsLimit e ⊎ IsUnspelled l bytes at)
is_none limit l bytes at (Ok x) a = tt
is_none limit l bytes at (Err e) a = elim a [
  | inl memory ↦ inl memory
  | inr given ↦ inr (unspelled limit l bytes at e given.0 (value_faults l (drop at bytes) limit given.0 given.1).fault given.2)
]

pub is_fitting : (limit : ℕ) (l : Layout) (bytes : List ℕ) (at : ℕ) (r : Result (Value × ℕ × ℕ) AvroError) → Answers (length bytes) r (value_at l (drop at bytes) limit)
    → IfOk r (λ x. Fits l (value_tree x.0))
is_fitting limit l bytes at (Ok x) a = let t = value_takes l (drop at bytes) limit (value_tree x.0, a.0, x.2) a.1 in spelled_fits l (value_tree x.0) t.front t.spelled
is_fitting limit l bytes at (Err e) a = tt

pub is_first : (limit : ℕ) (l : Layout) (bytes : List ℕ) (at : ℕ) (r : Result (Value × ℕ × ℕ) AvroError) → Answers (length bytes) r (value_at l (drop at bytes) limit)
    → (e : AvroError) → IsRefused limit l bytes at e → (r ≡ Err e) ⊎ (r ≡ Err error.Memory)
is_first limit l bytes at (Ok x) a e h = absurd (let both : ◌≡◌ {A = Read ValueTree} (Ok (value_tree x.0, a.0, x.2)) (Err h.fault) = sym a.1 ∙ value_refused l (drop at bytes) limit h.fault h.first in cc)
is_first limit l bytes at (Err d) a e h = elim a [
  | inl memory ↦ inr (ap (λ (x : AvroError). Err x) memory)
  | inr given ↦
      (let both : ◌≡◌ {A = Read ValueTree} (Err given.0) (Err h.fault) = sym given.1 ∙ value_refused l (drop at bytes) limit h.fault h.first in
      let same : given.0 ≡ h.fault = cc in
      let named : d ≡ e = given.2 ∙ ap (λ (g : FaultAt). error_of g.fault (length bytes - g.left)) same ∙ sym h.is in
      inl (ap (λ (x : AvroError). Err x) named))
]

-- ---- what is refused, behind another answer

pub ok_refused : {A B E : Type 0} (x : A) (y : B) (d e : E) → (◌≡◌ {A = Result A E} (Ok x) (Err d)) ⊎ (◌≡◌ {A = Result A E} (Ok x) (Err e)) → (◌≡◌ {A = Result B E} (Ok y) (Err d)) ⊎ (◌≡◌ {A = Result B E} (Ok y) (Err e))
ok_refused x y d e h = absurd (elim h [ inl f ↦ (let g = f in cc) | inr f ↦ (let g = f in cc) ])

pub err_refused : {A B E : Type 0} (c d e : E) → (◌≡◌ {A = Result A E} (Err c) (Err d)) ⊎ (◌≡◌ {A = Result A E} (Err c) (Err e)) → (◌≡◌ {A = Result B E} (Err c) (Err d)) ⊎ (◌≡◌ {A = Result B E} (Err c) (Err e))
err_refused {B = B} {E = E} c d e h = elim h [
  | inl f ↦ inl (let same : c ≡ d = cc in ap {B = Result B E} (λ (x : E). Err x) same)
  | inr f ↦ inr (let same : c ≡ e = cc in ap {B = Result B E} (λ (x : E). Err x) same)
]
