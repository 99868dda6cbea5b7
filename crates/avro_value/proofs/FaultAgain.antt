-- What is at fault is refused so: no two faults are first.
use Rattle.std.proofs.Common.{◌≡◌, ℕ, zero, suc, ◌+◌, ◌-◌, ◌/◌, ◌%◌, ◌^◌, ◌<◌, ◌≤◌, ℤ, pos, negsuc, Bool, true, false, List, [], ◌∷◌, ◌++◌, length, Err, FitsSigned, refl, sym, subst, arith, inl, inr, nat_lt, eqb}
use Rattle.std.specs.Int.{w32}
use Rattle.std.specs.Str.{is_utf8}
use Rattle.std.specs.List.{AllByRecursion}
use Rattle.std.proofs.lemmas.Bool.{false_from_ne_true, le-ltb, lt-ltb, ltb-true}
use Rattle.std.proofs.lemmas.Str.{IsUtf8-from_is_utf8}
use Rattle.avro_value.specs.declared.fault.Fault.{Fault}
use Rattle.avro_value.specs.declared.fault.Fault.TheVariants.{Short, BadLong, BadLength, BadIndex, BadBool}
use Rattle.avro_value.specs.Varint.{varint_value, zigzag_value}
use Rattle.avro_value.specs.Faults.{LacksItem, LacksVarint, LacksInt, LacksNatural, LacksIndex, LacksBoolean, LacksRun, LacksBytes, LacksText}
use Rattle.avro_value.specs.Reading.{Item, varint_in, varint_at, long_at, int_at, natural_at, index_at, boolean_at, run_at, bytes_at, text_at}
use Rattle.avro_value.proofs.NumberLaws.{groups_again, number_again}
use Rattle.avro_value.proofs.ItemLaws.{fits_32, natural_again, bytes_again}

abbrev pub RefusedAgain : {A : Type 0} → (List ℕ → Item A) → LacksItem → Type 0
RefusedAgain read N = (bytes : List ℕ) (r : Fault) → N r bytes → read bytes ≡ Err r

short_again : (k : ℕ) (bytes : List ℕ) → AllByRecursion (λ b. 128 ≤ b) bytes → length bytes < k → varint_in k bytes ≡ Err Short
unfolding varint_in
short_again zero bytes all lt = absurd (omega arith)
short_again (suc k) [] all lt = refl
short_again (suc k) (b ∷ bs) all lt =
    let high = all.0 in
    let rest = short_again k bs all.1 (omega arith) in
    rw (le-ltb b 128 high, rest) refl

long_again' : (k : ℕ) (front rest : List ℕ) → AllByRecursion (λ b. 128 ≤ b) front → length front ≡ k → varint_in k (front ++ rest) ≡ Err BadLong
unfolding varint_in
long_again' zero front rest all len = refl
long_again' (suc k) [] rest all len = absurd (omega arith)
long_again' (suc k) (b ∷ bs) rest all len =
    let high = all.0 in
    let more = long_again' k bs rest all.1 (omega arith) in
    rw (le-ltb b 128 high, more) refl

pub number_refused : RefusedAgain varint_at LacksVarint
unfolding varint_at
number_refused bytes r n = elim n [
  | inl short ↦ rw (short_again 10 bytes short.1 short.2, short.0) refl
  | inr bad ↦
      (let b = bad.1 in
      elim b.3 [
        | inl long ↦ rw (b.2, long_again' 10 b.0 b.1 long.0 long.1, bad.0) refl
        | inr big ↦ rw (b.2, groups_again 10 b.0 b.1 big.0 big.1, le-ltb (varint_value b.0) (2 ^ 64) big.2, bad.0) refl
      ])
]

pub long_refused : RefusedAgain long_at LacksVarint
unfolding long_at
long_refused bytes r n = rw (number_refused bytes r n) refl

pub int_refused : RefusedAgain int_at LacksInt
unfolding int_at
int_refused bytes r n = elim n [
  | inl bare ↦ rw (number_refused bytes r bare) refl
  | inr out ↦
      (let b = out.3 in
      let l = b.3 in
      let unfit : nat_lt l.0 (2 ^ 32) ≡ false = false_from_ne_true _ (λ h. out.2 (subst (λ (m : ℤ). FitsSigned w32 m) (sym l.1) (fits_32 l.0 (ltb-true _ _ h)))) in
      rw (b.2, number_again l.0 b.0 b.1 l.2, unfit, out.0) refl)
]

odd_of : (z k : ℕ) → negsuc k ≡ zigzag_value z → eqb (z % 2) 0 ≡ false
odd_of z k e = go (eqb (z % 2) 0) refl
  where
    go : (b : Bool) → eqb (z % 2) 0 ≡ b → eqb (z % 2) 0 ≡ false
    go true h = absurd (let f : negsuc k ≡ pos (z / 2) = rw h at e in cc)
    go false h = h

pub natural_refused : (n : Fault) → RefusedAgain (natural_at n) (LacksNatural n)
unfolding natural_at
natural_refused n bytes r m = elim m [
  | inl bare ↦ rw (number_refused bytes r bare) refl
  | inr negative ↦
      (let b = negative.2 in
      let l = b.3 in
      rw (b.2, number_again l.0 b.0 b.1 l.2, odd_of l.0 negative.1 l.1, negative.0) refl)
]

pub index_refused : (count : ℕ) → RefusedAgain (index_at count) (LacksIndex count)
unfolding index_at
index_refused count bytes r m = elim m [
  | inl bare ↦ rw (natural_refused BadIndex bytes r bare) refl
  | inr past ↦ (let b = past.3 in rw (b.2, natural_again BadIndex past.1 b.0 b.1 b.3, le-ltb past.1 count past.2, past.0) refl)
]

pub boolean_refused : RefusedAgain boolean_at LacksBoolean
unfolding boolean_at
boolean_refused bytes r m = elim m [
  | inl short ↦ rw (short.1, short.0) refl
  | inr bad ↦ rw (bad.4, bad.0) (other bad.1 bad.2 bad.3)
]
  where
    other : (b : ℕ) (rest : List ℕ) → 1 < b → boolean_at (b ∷ rest) ≡ Err BadBool
    other zero rest h = absurd (omega arith)
    other (suc zero) rest h = absurd (omega arith)
    other (suc (suc b)) rest h = refl

pub run_refused : (n : ℕ) → RefusedAgain (run_at n) (LacksRun n)
unfolding run_at
run_refused n bytes r m = rw (lt-ltb (length bytes) n m.1, m.0) refl

pub bytes_refused : RefusedAgain bytes_at LacksBytes
unfolding bytes_at
bytes_refused bytes r m = elim m [
  | inl bare ↦ rw (natural_refused BadLength bytes r bare) refl
  | inr short ↦ rw (short.4, natural_again BadLength short.1 short.2 short.3 short.5) (run_refused short.1 short.3 r (short.0, short.6))
]

pub text_refused : RefusedAgain text_at LacksText
unfolding text_at
text_refused bytes r m = elim m [
  | inl bare ↦ rw (bytes_refused bytes r bare) refl
  | inr bad ↦
      (let b = bad.3 in
      let other : is_utf8 bad.1 ≡ false = false_from_ne_true _ (λ h. bad.2 (IsUtf8-from_is_utf8 bad.1 h)) in
      rw (b.2, bytes_again bad.1 b.0 b.1 b.3, other, bad.0) refl)
]
