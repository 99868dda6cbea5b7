-- A text is read as a decimal type exactly where it is the text of one.
use Rattle.std.proofs.Common.{◌≡◌, ℕ, ◌+◌, ◌-◌, ◌*◌, ◌<◌, ◌≤◌, List, [], ◌∷◌, ◌++◌, Bool, true, false, ◌&&◌, cond, Option, Some, None, refl, sym, ap, subst, ◌∙◌, arith, append_assoc}
use Rattle.std.specs.Prelude.{◌==◌, nat_lt, codes, option_and_then}
use Rattle.std.specs.Str.{bytes_eq}
use Rattle.std.proofs.lemmas.Bool.{and_parts, eqb-true, lt-ltb, ltb-true, ne_eqb}
use Rattle.std.proofs.lemmas.Slice.Eq.{bytes_eq-Decides}
use Rattle.schema_map.specs.Decimal.{is_digit, after_spaces, digits_at, number_at, after_byte, after_word, decimal_in_range, decimal_at_end, decimal_of}
use Rattle.schema_map.specs.DecimalText.{AreSpaces, AreDigits, IsNumber, IsDecimalText}

-- ---- what is a text is read

digit : (n : ℕ) → n < 10 → is_digit (48 + n) ≡ true
digit n small = rw (lt-ltb 47 (48 + n) (omega arith), lt-ltb (48 + n) 58 (omega (arith, small)))

no_space : (n : ℕ) → ((48 + n) == 32) ≡ false
no_space n = ne_eqb (48 + n) 32 (λ same. omega (arith, same))

space_first : (b : ℕ) (bytes : List ℕ) → b ≡ 32 → after_spaces (b ∷ bytes) ≡ after_spaces bytes
space_first b bytes is = ap (λ x. after_spaces (x ∷ bytes)) is

other_first : (b : ℕ) (bytes : List ℕ) → (b == 32) ≡ false → after_spaces (b ∷ bytes) ≡ b ∷ bytes
other_first b bytes is = rw is

spaces_past : (spaces rest : List ℕ) → AreSpaces spaces → after_spaces (spaces ++ rest) ≡ after_spaces rest
spaces_past [] rest are = refl
spaces_past (b ∷ spaces) rest are = space_first b (spaces ++ rest) are.0 ∙ spaces_past spaces rest are.1

-- No digit comes next.
abbrev Ends : List ℕ → Type 0
Ends [] = Unit {0}
Ends (b ∷ bytes) = is_digit b ≡ false

ends_behind : (spaces : List ℕ) (b : ℕ) (more : List ℕ) → AreSpaces spaces → is_digit b ≡ false → Ends (spaces ++ b ∷ more)
ends_behind [] b more are ends = ends
ends_behind (c ∷ spaces) b more are ends = ap is_digit are.0

digits_read : (n : ℕ) (digits rest : List ℕ) → AreDigits n digits → Ends rest → digits_at (digits ++ rest) ≡ Some (n, rest)
digits_read n [] rest are ends = absurd are
digits_read n (b ∷ []) [] are ends = rw (are.1, digit n are.0) (ap (λ m. Some (m, [])) (let h : (48 + n) - 48 ≡ n = omega arith in h))
digits_read n (b ∷ []) (r ∷ rest) are ends = rw (are.1, digit n are.0, ends) (ap (λ m. Some (m, r ∷ rest)) (let h : (48 + n) - 48 ≡ n = omega arith in h))
digits_read n (b ∷ c ∷ []) rest are ends =
    let value : 10 * ((48 + are.0) - 48) + ((48 + are.1) - 48) ≡ n = let is = are.6 in omega (arith, is) in
    rw (are.4, are.5, digit are.0 are.2, digit are.1 are.3) (ap (λ m. Some (m, rest)) value)
digits_read n (b ∷ c ∷ x ∷ more) rest are ends = absurd are

digits_first : (n : ℕ) (digits rest : List ℕ) → AreDigits n digits → after_spaces (digits ++ rest) ≡ digits ++ rest
digits_first n [] rest are = absurd are
digits_first n (b ∷ []) rest are = other_first b rest (ap (λ x. x == 32) are.1 ∙ no_space n)
digits_first n (b ∷ c ∷ []) rest are = other_first b (c ∷ rest) (ap (λ x. x == 32) are.4 ∙ no_space are.0)
digits_first n (b ∷ c ∷ x ∷ more) rest are = absurd are

number_read : (n : ℕ) (text : List ℕ) (b : ℕ) (more : List ℕ) → IsNumber n text → is_digit b ≡ false → (b == 32) ≡ false → number_at (text ++ b ∷ more) ≡ Some (n, b ∷ more)
unfolding number_at
number_read n text b more is ends other =
    let rest : List ℕ = is.behind ++ b ∷ more in
    let F : ℕ × List ℕ → Option (ℕ × List ℕ) = λ p. Some (p.0, after_spaces p.1) in
    let whole : text ++ b ∷ more ≡ is.before ++ (is.digits ++ rest) =
    ap (λ t. t ++ b ∷ more) is.whole ∙ append_assoc is.before (is.digits ++ is.behind) (b ∷ more) ∙ ap (λ t. is.before ++ t) (append_assoc is.digits is.behind (b ∷ more)) in
    let past = spaces_past is.before (is.digits ++ rest) is.spaces_before ∙ digits_first n is.digits rest is.are in
    let read = digits_read n is.digits rest is.are (ends_behind is.behind b more is.spaces_behind ends) in
    let left = spaces_past is.behind (b ∷ more) is.spaces_behind ∙ other_first b more other in
    ap (λ t. option_and_then F (digits_at (after_spaces t))) whole
    ∙ ap (λ t. option_and_then F (digits_at t)) past
    ∙ ap (option_and_then F) read
    ∙ ap (λ r. Some (n, r)) left

pub text_read : (p s : ℕ) (text : List ℕ) → IsDecimalText p s text → decimal_of text ≡ Some (p, s)
unfolding decimal_of
text_read p s text is =
    let some = is.some in
    let most = is.most in
    let within = is.within in
    rw (
      is.whole,
      number_read p is.precision 44 (is.scale ++ 41 ∷ []) is.is_precision refl refl,
      number_read s is.scale 41 [] is.is_scale refl refl,
      lt-ltb 0 p some,
      lt-ltb p 39 (omega (arith, most)),
      lt-ltb s (p + 1) (omega (arith, within)),
    )

-- ---- what is read is a text

record Then {A B : Type 0} (f : A → Option B) (o : Option A) (y : B) : Type 0 where
  value : A
  first : o ≡ Some value
  behind : f value ≡ Some y

steps : {A B : Type 0} (f : A → Option B) (o : Option A) (y : B) → option_and_then f o ≡ Some y → Then f o y
steps f None y e = absurd (cc)
steps f (Some x) y e = record { value = x; first = refl; behind = e }

record Split (bytes : List ℕ) : Type 0 where
  spaces : List ℕ
  are : AreSpaces spaces
  whole : bytes ≡ spaces ++ after_spaces bytes

split_by : (b : ℕ) (bytes : List ℕ) (c : Bool) → (b == 32) ≡ c → Split bytes → Split (b ∷ bytes)
split_by b bytes true is rest =
    let space : b ≡ 32 = eqb-true b 32 is in
    record { spaces = b ∷ rest.spaces; are = (space, rest.are); whole = ap (λ xs. b ∷ xs) rest.whole ∙ ap (λ xs. (b ∷ rest.spaces) ++ xs) (sym (space_first b bytes space)) }
split_by b bytes false is rest = record { spaces = []; are = tt; whole = sym (other_first b bytes is) }

split : (bytes : List ℕ) → Split bytes
split [] = record { spaces = []; are = tt; whole = refl }
split (b ∷ bytes) = split_by b bytes (b == 32) refl (split bytes)

record DigitsFound (n : ℕ) (bytes rest : List ℕ) : Type 0 where
  digits : List ℕ
  are : AreDigits n digits
  whole : bytes ≡ digits ++ rest

record Digit (b : ℕ) : Type 0 where
  small : b - 48 < 10
  is : b ≡ 48 + (b - 48)

digit_is : (b : ℕ) → is_digit b ≡ true → Digit b
digit_is b e =
    let tests = and_parts (nat_lt 47 b) (nat_lt b 58) e in
    let least = ltb-true 47 b tests.0 in
    let most = ltb-true b 58 tests.1 in
    record { small = omega (arith, least, most); is = omega (arith, least, most) }

found_as : (n m : ℕ) (bytes rest left : List ℕ) → ◌≡◌ {A = Option (ℕ × List ℕ)} (Some (m, left)) (Some (n, rest)) → DigitsFound m bytes left → DigitsFound n bytes rest
found_as n m bytes rest left e found =
    let p : ℕ × List ℕ = (m, left) in
    let q : ℕ × List ℕ = (n, rest) in
    let same : p ≡ q = cc in
    subst (λ (x : ℕ × List ℕ). DigitsFound x.0 bytes x.1) same found

one_digit : (b : ℕ) (rest : List ℕ) → is_digit b ≡ true → DigitsFound (b - 48) (b ∷ rest) rest
one_digit b rest is = let d = digit_is b is in record { digits = b ∷ []; are = (d.small, d.is); whole = refl }

two_digits : (b c : ℕ) (rest : List ℕ) → is_digit b ≡ true → is_digit c ≡ true → DigitsFound (10 * (b - 48) + (c - 48)) (b ∷ c ∷ rest) rest
two_digits b c rest is more = let d = digit_is b is in let e = digit_is c more in record { digits = b ∷ c ∷ []; are = (b - 48, c - 48, d.small, e.small, d.is, e.is, refl); whole = refl }

abbrev read_as : ℕ → List ℕ → Option (ℕ × List ℕ)
read_as n rest = Some (n, rest)

digits_found : (n : ℕ) (bytes rest : List ℕ) → digits_at bytes ≡ Some (n, rest) → DigitsFound n bytes rest
digits_found n [] rest e = absurd (cc)
digits_found n (b ∷ []) rest e = at (is_digit b) refl e
  where
    at : (k : Bool) → is_digit b ≡ k → cond k (read_as (b - 48) []) None ≡ read_as n rest → DigitsFound n (b ∷ []) rest
    at true is h = found_as n (b - 48) (b ∷ []) rest [] h (one_digit b [] is)
    at false is h = absurd (cc)
digits_found n (b ∷ c ∷ more) rest e = at (is_digit b) (is_digit c) refl refl e
  where
    at : (k l : Bool) → is_digit b ≡ k → is_digit c ≡ l → cond k (cond l (read_as (10 * (b - 48) + (c - 48)) more) (read_as (b - 48) (c ∷ more))) None ≡ read_as n rest → DigitsFound n (b ∷ c ∷ more) rest
    at true true is two h = found_as n (10 * (b - 48) + (c - 48)) (b ∷ c ∷ more) rest more h (two_digits b c more is two)
    at true false is one h = found_as n (b - 48) (b ∷ c ∷ more) rest (c ∷ more) h (one_digit b (c ∷ more) is)
    at false l is other h = absurd (cc)

record NumberFound (n : ℕ) (bytes rest : List ℕ) : Type 0 where
  text : List ℕ
  is : IsNumber n text
  whole : bytes ≡ text ++ rest

number_found : (n : ℕ) (bytes rest : List ℕ) → number_at bytes ≡ Some (n, rest) → NumberFound n bytes rest
unfolding number_at
number_found n bytes rest e =
    let t = steps (λ (p : ℕ × List ℕ). Some (p.0, after_spaces p.1)) (digits_at (after_spaces bytes)) (n, rest) e in
    let found = digits_found t.value.0 (after_spaces bytes) t.value.1 t.first in
    let front = split bytes in
    let back = split t.value.1 in
    let given : ℕ × List ℕ = (t.value.0, after_spaces t.value.1) in
    let wanted : ℕ × List ℕ = (n, rest) in
    let same : given ≡ wanted = let h = t.behind in cc in
    let text : List ℕ = front.spaces ++ (found.digits ++ back.spaces) in
    let whole : bytes ≡ text ++ after_spaces t.value.1 =
    front.whole
    ∙ ap (λ xs. front.spaces ++ xs) (found.whole ∙ ap (λ xs. found.digits ++ xs) back.whole ∙ sym (append_assoc found.digits back.spaces (after_spaces t.value.1)))
    ∙ sym (append_assoc front.spaces (found.digits ++ back.spaces) (after_spaces t.value.1)) in
    let mine : NumberFound t.value.0 bytes (after_spaces t.value.1) = record {
      text = text;
      is = record { before = front.spaces; digits = found.digits; behind = back.spaces; spaces_before = front.are; are = found.are; spaces_behind = back.are; whole = refl };
      whole = whole;
    } in
    subst (λ (x : ℕ × List ℕ). NumberFound x.0 bytes x.1) same mine

byte_found : (b : ℕ) (bytes rest : List ℕ) → after_byte b bytes ≡ Some rest → bytes ≡ b ∷ rest
byte_found b [] rest e = absurd (cc)
byte_found b (c ∷ more) rest e = at (c == b) refl e
  where
    at : (k : Bool) → (c == b) ≡ k → cond k (Some more) None ≡ Some rest → c ∷ more ≡ b ∷ rest
    at true is h = let same : c ≡ b = eqb-true c b is in cc
    at false is h = absurd (cc)

word_found : (word bytes rest : List ℕ) → after_word word bytes ≡ Some rest → bytes ≡ word ++ rest
word_found [] bytes rest e = cc
word_found (b ∷ word) bytes rest e =
    let t = steps (after_word word) (after_byte b bytes) rest e in
    byte_found b bytes t.value t.first ∙ ap (λ xs. b ∷ xs) (word_found word t.value rest t.behind)

-- the end of the text, and the range
record EndFound (p : ℕ) (s : ℕ × List ℕ) (q : ℕ × ℕ) : Type 0 where
  end : s.1 ≡ codes ")"
  is : (p, s.0) ≡ q
  some : 0 < p
  most : p ≤ 38
  within : s.0 ≤ p

range_found : (p : ℕ) (s : ℕ × List ℕ) (q : ℕ × ℕ) → s.1 ≡ codes ")" → decimal_in_range p s.0 ≡ Some q → EndFound p s q
range_found p s q end e = at (nat_lt 0 p && (nat_lt p 39 && nat_lt s.0 (p + 1))) refl e
  where
    at : (k : Bool) → (nat_lt 0 p && (nat_lt p 39 && nat_lt s.0 (p + 1))) ≡ k → cond k (Some (p, s.0)) None ≡ Some q → EndFound p s q
    at true is h =
        let tests = and_parts (nat_lt 0 p) (nat_lt p 39 && nat_lt s.0 (p + 1)) is in
        let more = and_parts (nat_lt p 39) (nat_lt s.0 (p + 1)) tests.1 in
        let some = ltb-true 0 p tests.0 in
        let small = ltb-true p 39 more.0 in
        let scale = ltb-true s.0 (p + 1) more.1 in
        record { end = end; is = cc; some = some; most = omega (arith, small); within = omega (arith, scale) }
    at false is h = absurd (cc)

end_found : (p : ℕ) (s : ℕ × List ℕ) (q : ℕ × ℕ) → decimal_at_end p s ≡ Some q → EndFound p s q
end_found p s q e = at (bytes_eq s.1 (codes ")")) refl e
  where
    at : (k : Bool) → bytes_eq s.1 (codes ")") ≡ k → cond k (decimal_in_range p s.0) None ≡ Some q → EndFound p s q
    at true is h = range_found p s q ((bytes_eq-Decides s.1 (codes ")")).0 is) h
    at false is h = absurd (cc)

pub text_found : (text : List ℕ) (q : ℕ × ℕ) → decimal_of text ≡ Some q → IsDecimalText q.0 q.1 text
unfolding decimal_of
text_found text q e =
    let outer = steps _ (option_and_then number_at (after_word (codes "decimal(") text)) q e in
    let word = steps number_at (after_word (codes "decimal(") text) outer.value outer.first in
    let comma = steps _ (after_byte 44 outer.value.1) q outer.behind in
    let last = steps (decimal_at_end outer.value.0) (number_at comma.value) q comma.behind in
    let first = number_found outer.value.0 word.value outer.value.1 word.behind in
    let second = number_found last.value.0 comma.value last.value.1 last.first in
    let end = end_found outer.value.0 last.value q last.behind in
    let whole : text ≡ codes "decimal(" ++ (first.text ++ (codes "," ++ (second.text ++ codes ")"))) =
    word_found (codes "decimal(") text word.value word.first
    ∙ ap (λ xs. codes "decimal(" ++ xs) (first.whole ∙ ap (λ xs. first.text ++ xs) (byte_found 44 outer.value.1 comma.value comma.first ∙ ap (λ xs. 44 ∷ xs) (second.whole ∙ ap (λ xs. second.text ++ xs) end.end))) in
    let mine : IsDecimalText outer.value.0 last.value.0 text = record { precision = first.text; scale = second.text; is_precision = first.is; is_scale = second.is; whole = whole; some = end.some; most = end.most; within = end.within } in
    subst (λ (x : ℕ × ℕ). IsDecimalText x.0 x.1 text) end.is mine
