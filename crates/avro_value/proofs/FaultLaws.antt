-- What is refused is at fault there, and all before it is spelled.
use Rattle.std.proofs.Common.{◌≡◌, ℕ, zero, suc, ◌+◌, ◌-◌, ◌*◌, ◌/◌, ◌%◌, ◌^◌, ◌<◌, ◌≤◌, ◌⊎◌, negsuc, Bool, true, false, cond, List, [], ◌∷◌, length, take, drop, Result, Ok, Err, refl, sym, ap, arith, inl, inr, nat_lt, eqb}
use Rattle.std.specs.Str.{is_utf8}
use Rattle.std.specs.List.{AllByRecursion}
use Rattle.std.proofs.lemmas.Bool.{cases_lt, ltb-true, ltb-false, lt-ltb, le-ltb}
use Rattle.std.proofs.lemmas.Str.{is_utf8-from_IsUtf8}
use Rattle.avro_value.specs.declared.fault.Fault.{Fault}
use Rattle.avro_value.specs.declared.fault.Fault.TheVariants.{Short, BadLong, BadLength, BadIndex, BadText}
use Rattle.avro_value.specs.Varint.{zigzag_value}
use Rattle.avro_value.specs.Faults.{LacksItem, Begins, LacksVarint, LacksInt, LacksNatural, LacksIndex, LacksBoolean, LacksRun, LacksBytes, LacksText}
use Rattle.lake_basics.specs.Outcome.{◌>>=◌}
use Rattle.avro_value.specs.Reading.{Item, varint_in, varint_at, long_at, int_at, natural_at, index_at, boolean_at, run_at, bytes_at, text_at}
use Rattle.avro_value.proofs.NumberLaws.{groups_take, number_takes}
use Rattle.avro_value.proofs.ItemLaws.{natural_takes, bytes_takes, small_32}

pub bind_err : {A B E : Type 0} (r : Result A E) (f : A → Result B E) (d : E) → (r >>= f) ≡ Err d → (r ≡ Err d) ⊎ ((x : A) × (r ≡ Ok x) × (f x ≡ Err d))
bind_err (Ok x) f d e = inr (x, refl, e)
bind_err (Err c) f d e = inl (let h : c ≡ d = cc in ap Err h)

pub err_is : {A E : Type 0} (c d : E) → ◌≡◌ {A = Result A E} (Err c) (Err d) → c ≡ d
err_is c d e = cc

-- a test that failed
pub test_ok : {A E : Type 0} (b : Bool) (c d : E) (x : A) → ◌≡◌ {A = Result A E} (cond {A = Result A E} b (Ok x) (Err c)) (Err d) → (b ≡ false) × (c ≡ d)
test_ok true c d x e = absurd cc
test_ok false c d x e = (refl, cc)

pub test_err : {A E : Type 0} (b : Bool) (c d : E) (x : A) → ◌≡◌ {A = Result A E} (cond {A = Result A E} b (Err c) (Ok x)) (Err d) → (b ≡ true) × (c ≡ d)
test_err true c d x e = (refl, cc)
test_err false c d x e = absurd cc

abbrev pub Refuses : {A : Type 0} → (List ℕ → Item A) → LacksItem → Type 0
Refuses read N = (bytes : List ℕ) (r : Fault) → read bytes ≡ Err r → N r bytes

abbrev NoGroups : ℕ → Fault → List ℕ → Type 0
NoGroups k r bytes = ((r ≡ Short) × AllByRecursion (λ b. 128 ≤ b) bytes × (length bytes < k)) ⊎ ((r ≡ BadLong) × Begins (λ front. AllByRecursion (λ b. 128 ≤ b) front × (length front ≡ k)) bytes)

no_more : (k b : ℕ) (bs : List ℕ) (r : Fault) → 128 ≤ b → NoGroups k r bs → NoGroups (suc k) r (b ∷ bs)
no_more k b bs r high (inl short) = inl (short.0, (high, short.1), (let h = short.2 in omega (arith, h)))
no_more k b bs r high (inr long) = inr (long.0, (b ∷ long.1.0, long.1.1, ap (λ (r : List ℕ). b ∷ r) long.1.2, ((high, long.1.3.0), ap suc long.1.3.1)))

groups_refuse : (k : ℕ) → Refuses (varint_in k) (NoGroups k)
unfolding varint_in
groups_refuse zero bytes r e = let h : BadLong ≡ r = err_is _ _ e in inr (sym h, ([], bytes, refl, (tt, refl)))
groups_refuse (suc k) [] r e = let h : Short ≡ r = err_is _ _ e in inl (sym h, tt, omega arith)
groups_refuse (suc k) (b ∷ bs) r e = elim (cases_lt b 128) [
  | inl lt ↦ absurd (let one : ◌≡◌ {A = Item ℕ} (Ok (b, bs)) (Err r) = rw lt-ltb at e in cc)
  | inr ge ↦
      (let more : ◌≡◌ {A = Item ℕ} (varint_in k bs >>= λ y. Ok (b % 128 + 128 * y.0, y.1)) (Err r) = rw le-ltb at e in
      elim (bind_err (varint_in k bs) (λ y. Ok (b % 128 + 128 * y.0, y.1)) r more) [
        | inl failed ↦ no_more k b bs r ge (groups_refuse k bs r failed)
        | inr done ↦ absurd (let d = done.2 in cc)
      ])
]

pub number_refuses : Refuses varint_at LacksVarint
unfolding varint_at
number_refuses bytes r e = elim (bind_err (varint_in 10 bytes) (λ z. cond (nat_lt z.0 (2 ^ 64)) (Ok z) (Err BadLong)) r e) [
  | inl failed ↦ elim (groups_refuse 10 bytes r failed) [
    | inl short ↦ inl short
    | inr long ↦ inr (long.0, (long.1.0, long.1.1, long.1.2, inl long.1.3))
  ]
  | inr done ↦
      (let t = groups_take 10 bytes done.0 done.1 in
      let g = test_ok (nat_lt done.0.0 (2 ^ 64)) BadLong r done.0 done.2 in
      let big : 2 ^ 64 ≤ done.0.0 = ltb-false _ _ g.0 in
      inr (sym g.1, (t.0, done.0.1, t.1, inr (t.2, t.3, omega (arith, big, t.4)))))
]

pub long_refuses : Refuses long_at LacksVarint
unfolding long_at
long_refuses bytes r e = elim (bind_err (varint_at bytes) (λ z. Ok (zigzag_value z.0, z.1)) r e) [
  | inl failed ↦ number_refuses bytes r failed
  | inr done ↦ absurd (let d = done.2 in cc)
]

pub int_refuses : Refuses int_at LacksInt
unfolding int_at
int_refuses bytes r e = elim (bind_err (varint_at bytes) (λ z. cond (nat_lt z.0 (2 ^ 32)) (Ok (zigzag_value z.0, z.1)) (Err BadLong)) r e) [
  | inl failed ↦ inl (number_refuses bytes r failed)
  | inr done ↦
      (let t = number_takes bytes done.0 done.1 in
      let g = test_ok (nat_lt done.0.0 (2 ^ 32)) BadLong r (zigzag_value done.0.0, done.0.1) done.2 in
      let big : 2 ^ 32 ≤ done.0.0 = ltb-false _ _ g.0 in
      inr (sym g.1, zigzag_value done.0.0, (λ f. absurd (let small = small_32 done.0.0 f in omega (arith, small, big))), (t.0, done.0.1, t.1, (done.0.0, refl, t.2))))
]

pub natural_refuses : (n : Fault) → Refuses (natural_at n) (LacksNatural n)
unfolding natural_at
natural_refuses n bytes r e = elim (bind_err (varint_at bytes) (λ z. cond (eqb (z.0 % 2) 0) (Ok (z.0 / 2, z.1)) (Err n)) r e) [
  | inl failed ↦ inl (number_refuses bytes r failed)
  | inr done ↦
      (let t = number_takes bytes done.0 done.1 in
      let g = test_ok (eqb (done.0.0 % 2) 0) n r (done.0.0 / 2, done.0.1) done.2 in
      let odd : negsuc (done.0.0 / 2) ≡ zigzag_value done.0.0 = rw g.0 refl in
      inr (sym g.1, done.0.0 / 2, (t.0, done.0.1, t.1, (done.0.0, odd, t.2))))
]

pub index_refuses : (count : ℕ) → Refuses (index_at count) (LacksIndex count)
unfolding index_at
index_refuses count bytes r e = elim (bind_err (natural_at BadIndex bytes) (λ i. cond (nat_lt i.0 count) (Ok i) (Err BadIndex)) r e) [
  | inl failed ↦ inl (natural_refuses BadIndex bytes r failed)
  | inr done ↦
      (let t = natural_takes BadIndex bytes done.0 done.1 in
      let g = test_ok (nat_lt done.0.0 count) BadIndex r done.0 done.2 in
      inr (sym g.1, done.0.0, ltb-false _ _ g.0, (t.0, done.0.1, t.1, t.2)))
]

pub boolean_refuses : Refuses boolean_at LacksBoolean
unfolding boolean_at
boolean_refuses [] r e = inl (sym (err_is _ _ e), refl)
boolean_refuses (zero ∷ bytes) r e = absurd cc
boolean_refuses (suc zero ∷ bytes) r e = absurd cc
boolean_refuses (suc (suc b) ∷ bytes) r e = inr (sym (err_is _ _ e), suc (suc b), bytes, omega arith, refl)

pub run_refuses : (n : ℕ) → Refuses (run_at n) (LacksRun n)
unfolding run_at
run_refuses n bytes r e =
    let g = test_err (nat_lt (length bytes) n) Short r (take n bytes, drop n bytes) e in
    (sym g.1, ltb-true _ _ g.0)

pub bytes_refuse : Refuses bytes_at LacksBytes
unfolding bytes_at
bytes_refuse bytes r e = elim (bind_err (natural_at BadLength bytes) (λ n. run_at n.0 n.1) r e) [
  | inl failed ↦ inl (natural_refuses BadLength bytes r failed)
  | inr done ↦
      (let t = natural_takes BadLength bytes done.0 done.1 in
      let s = run_refuses done.0.0 done.0.1 r done.2 in
      inr (s.0, done.0.0, t.0, done.0.1, t.1, t.2, s.1))
]

pub text_refuses : Refuses text_at LacksText
unfolding text_at
text_refuses bytes r e = elim (bind_err (bytes_at bytes) (λ run. cond (is_utf8 run.0) (Ok run) (Err BadText)) r e) [
  | inl failed ↦ inl (bytes_refuse bytes r failed)
  | inr done ↦
      (let t = bytes_takes bytes done.0 done.1 in
      let g = test_ok (is_utf8 done.0.0) BadText r done.0 done.2 in
      inr (sym g.1, done.0.0, (λ u. absurd (let h = is_utf8-from_IsUtf8 done.0.0 u in let f = g.0 in cc)), (t.0, done.0.1, t.1, t.2)))
]
