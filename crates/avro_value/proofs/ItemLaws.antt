-- An item that is read is the one that is spelled there, and what is spelled is read, whatever follows.
use Rattle.std.proofs.Common.{◌≡◌, ℕ, zero, suc, ◌+◌, ◌-◌, ◌/◌, ◌%◌, ◌^◌, ◌<◌, ◌≤◌, ℤ, pos, negsuc, Bool, true, false, cond, List, [], ◌∷◌, ◌++◌, length, take, drop, Ok, Err, refl, sym, ap, subst, ◌∙◌, append_assoc, arith, rules, nat_lt, eqb, FitsSigned}
use Rattle.std.specs.Int.{w32}
use Rattle.std.specs.Str.{is_utf8}
use Rattle.std.proofs.lemmas.Bool.{ltb-true, ltb-false, le-ltb, lt-ltb}
use Rattle.std.proofs.lemmas.List.{take_at, drop_at, take-append-drop, length-append, length-take}
use Rattle.std.proofs.lemmas.Str.{IsUtf8-from_is_utf8, is_utf8-from_IsUtf8}
use Rattle.avro_value.specs.declared.fault.Fault.{Fault}
use Rattle.avro_value.specs.declared.fault.Fault.TheVariants.{Short, BadLong, BadIndex, BadLength, BadText}
use Rattle.avro_value.specs.Varint.{zigzag_value, Long}
use Rattle.avro_value.specs.Spelling.{Spelling, LengthPrefixed, PrefixedText}
use Rattle.avro_value.specs.Reading.{Item, varint_at, long_at, int_at, natural_at, index_at, boolean_at, run_at, bytes_at, text_at}
use Rattle.avro_value.proofs.NumberLaws.{bind_ok, ok_is, guard_ok, guard_err, number_takes, number_again, even_signed}

abbrev pub Taken : {A : Type 0} → Spelling A → List ℕ → A × List ℕ → Type 0
Taken P bytes x = (front : List ℕ) × (bytes ≡ front ++ x.1) × P x.0 front

abbrev pub Takes : {A : Type 0} → (List ℕ → Item A) → Spelling A → Type 0
Takes read P = (bytes : List ℕ) (x : _ × List ℕ) → read bytes ≡ Ok x → Taken P bytes x

abbrev pub Again : {A : Type 0} → (List ℕ → Item A) → Spelling A → Type 0
Again read P = (x : _) (front rest : List ℕ) → P x front → read (front ++ rest) ≡ Ok (x, rest)

-- ---- numbers

pub long_takes : Takes long_at Long
unfolding long_at
long_takes bytes x e =
    let step = bind_ok (varint_at bytes) (λ z. Ok (zigzag_value z.0, z.1)) x e in
    let t = number_takes bytes step.0 step.1 in
    subst (λ (y : ℤ × List ℕ). Taken Long bytes y) (ok_is _ _ step.2) (t.0, t.1, (step.0.0, refl, t.2))

pub long_again : Again long_at Long
unfolding long_at
long_again n front rest p = rw (number_again p.0 front rest p.2, p.1) refl

abbrev pub Int : Spelling ℤ
Int n front = FitsSigned w32 n × Long n front

pub fits_32 : (z : ℕ) → z < 2 ^ 32 → FitsSigned w32 (zigzag_value z)
fits_32 z lt = go (eqb (z % 2) 0) refl
  where
    go : (b : Bool) → eqb (z % 2) 0 ≡ b → FitsSigned w32 (zigzag_value z)
    go true h = rw h (record { sfits = omega arith })
    go false h = rw h (record { sfits = omega arith })

pub small_32 : (z : ℕ) → FitsSigned w32 (zigzag_value z) → z < 2 ^ 32
small_32 z f = go (eqb (z % 2) 0) refl
  where
    go : (b : Bool) → eqb (z % 2) 0 ≡ b → z < 2 ^ 32
    go true h = let g : FitsSigned w32 (pos (z / 2)) = rw h at f in omega (arith, g.sfits)
    go false h = let g : FitsSigned w32 (negsuc (z / 2)) = rw h at f in omega (arith, g.sfits)

pub int_takes : Takes int_at Int
unfolding int_at
int_takes bytes x e =
    let step = bind_ok (varint_at bytes) (λ z. cond (nat_lt z.0 (2 ^ 32)) (Ok (zigzag_value z.0, z.1)) (Err BadLong)) x e in
    let g = guard_ok (nat_lt step.0.0 (2 ^ 32)) BadLong (zigzag_value step.0.0, step.0.1) x step.2 in
    let t = number_takes bytes step.0 step.1 in
    subst (λ (y : ℤ × List ℕ). Taken Int bytes y) g.1 (t.0, t.1, (fits_32 step.0.0 (ltb-true _ _ g.0), (step.0.0, refl, t.2)))

pub int_again : Again int_at Int
unfolding int_at
int_again n front rest p =
    let l = p.1 in
    let small = small_32 l.0 (subst (λ (m : ℤ). FitsSigned w32 m) l.1 p.0) in
    rw (number_again l.0 front rest l.2, lt-ltb l.0 (2 ^ 32) small, l.1) refl

abbrev pub Natural : Spelling ℕ
Natural n front = Long (pos n) front

pub natural_takes : (r : Fault) → Takes (natural_at r) Natural
unfolding natural_at
natural_takes r bytes x e =
    let step = bind_ok (varint_at bytes) (λ z. cond (eqb (z.0 % 2) 0) (Ok (z.0 / 2, z.1)) (Err r)) x e in
    let g = guard_ok (eqb (step.0.0 % 2) 0) r (step.0.0 / 2, step.0.1) x step.2 in
    let t = number_takes bytes step.0 step.1 in
    let n : pos (step.0.0 / 2) ≡ zigzag_value step.0.0 = rw g.0 refl in
    subst (λ (y : ℕ × List ℕ). Taken Natural bytes y) g.1 (t.0, t.1, (step.0.0, n, t.2))

pub natural_again : (r : Fault) → Again (natural_at r) Natural
unfolding natural_at
natural_again r n front rest p =
    let even = even_signed p.0 n p.1 in
    rw (number_again p.0 front rest p.2, even.0, even.1) refl

abbrev pub Index : ℕ → Spelling ℕ
Index count i front = (i < count) × Long (pos i) front

pub index_takes : (count : ℕ) → Takes (index_at count) (Index count)
unfolding index_at
index_takes count bytes x e =
    let step = bind_ok (natural_at BadIndex bytes) (λ i. cond (nat_lt i.0 count) (Ok i) (Err BadIndex)) x e in
    let g = guard_ok (nat_lt step.0.0 count) BadIndex step.0 x step.2 in
    let t = natural_takes BadIndex bytes step.0 step.1 in
    subst (λ (y : ℕ × List ℕ). Taken (Index count) bytes y) g.1 (t.0, t.1, (ltb-true _ _ g.0, t.2))

pub index_again : (count : ℕ) → Again (index_at count) (Index count)
unfolding index_at
index_again count i front rest p = rw (natural_again BadIndex i front rest p.1, lt-ltb i count p.0) refl

-- ---- bytes

abbrev pub Boolean : Spelling Bool
Boolean b front = front ≡ cond b 1 0 ∷ []

pub boolean_takes : Takes boolean_at Boolean
unfolding boolean_at
boolean_takes [] x e = absurd cc
boolean_takes (zero ∷ bytes) x e = subst (λ (y : Bool × List ℕ). Taken Boolean (0 ∷ bytes) y) (ok_is _ _ e) (0 ∷ [], refl, refl)
boolean_takes (suc zero ∷ bytes) x e = subst (λ (y : Bool × List ℕ). Taken Boolean (1 ∷ bytes) y) (ok_is _ _ e) (1 ∷ [], refl, refl)
boolean_takes (suc (suc b) ∷ bytes) x e = absurd cc

pub boolean_again : Again boolean_at Boolean
unfolding boolean_at
boolean_again true front rest p = rw p refl
boolean_again false front rest p = rw p refl

abbrev pub Whole : ℕ → Spelling (List ℕ)
Whole n run front = (run ≡ front) × (length front ≡ n)

pub run_takes : (n : ℕ) → Takes (run_at n) (Whole n)
unfolding run_at
run_takes n bytes x e =
    let g = guard_err (nat_lt (length bytes) n) Short (take n bytes, drop n bytes) x e in
    let long : n ≤ length bytes = ltb-false _ _ g.0 in
    let len : length (take n bytes) ≡ n = omega (arith, length-take n bytes) in
    subst (λ (y : List ℕ × List ℕ). Taken (Whole n) bytes y) g.1 (take n bytes, sym (take-append-drop n bytes), (refl, len))

pub run_again : (n : ℕ) → Again (run_at n) (Whole n)
unfolding run_at
run_again n run front rest p =
    let len = p.1 in
    let long : nat_lt (length (front ++ rest)) n ≡ false = le-ltb _ _ (omega (arith, length-append front rest)) in
    rw (long, take_at front rest n len, drop_at front rest n len, p.0) refl

pub bytes_takes : Takes bytes_at LengthPrefixed
unfolding bytes_at
bytes_takes bytes x e =
    let step = bind_ok (natural_at BadLength bytes) (λ n. run_at n.0 n.1) x e in
    let head = natural_takes BadLength bytes step.0 step.1 in
    let run = run_takes step.0.0 step.0.1 x step.2 in
    let same : run.0 ≡ x.0 = sym run.2.0 in
    let len : step.0.0 ≡ length x.0 = sym run.2.1 ∙ ap length same in
    let parts : bytes ≡ (head.0 ++ x.0) ++ x.1 = head.1 ∙ ap (λ (r : List ℕ). head.0 ++ r) run.1 ∙ sym (append_assoc head.0 run.0 x.1) ∙ ap (λ (r : List ℕ). (head.0 ++ r) ++ x.1) same in
    (head.0 ++ x.0, parts, (head.0, refl, subst (λ (n : ℕ). Long (pos n) head.0) len head.2))

pub bytes_again : Again bytes_at LengthPrefixed
unfolding bytes_at
bytes_again run front rest p =
    let parts : front ++ rest ≡ p.0 ++ (run ++ rest) = ap (λ (f : List ℕ). f ++ rest) p.1 ∙ append_assoc p.0 run rest in
    rw (parts, natural_again BadLength (length run) p.0 (run ++ rest) p.2) (run_again (length run) run run rest (refl, refl))

pub text_takes : Takes text_at PrefixedText
unfolding text_at
text_takes bytes x e =
    let step = bind_ok (bytes_at bytes) (λ run. cond (is_utf8 run.0) (Ok run) (Err BadText)) x e in
    let g = guard_ok (is_utf8 step.0.0) BadText step.0 x step.2 in
    let t = bytes_takes bytes step.0 step.1 in
    subst (λ (y : List ℕ × List ℕ). Taken PrefixedText bytes y) g.1 (t.0, t.1, (IsUtf8-from_is_utf8 _ g.0, t.2))

pub text_again : Again text_at PrefixedText
unfolding text_at
text_again text front rest p = rw (bytes_again text front rest p.1, is_utf8-from_IsUtf8 text p.0) refl
