-- Names in the metadata folder are paths: decimals are digits, plain text is a path behind the folder, and so is the name of a manifest list. The crates above show the same of their own names with it.
use Rattle.std.proofs.Common.{◌≡◌, ℕ, zero, suc, ◌/◌, ◌%◌, ◌<◌, ◌≤◌, List, [], ◌∷◌, ◌++◌, length, get_or, Bool, true, false, cond, All, codes, refl, sym, ap, subst, ◌∙◌, arith}
use Rattle.std.specs.Prelude.{◌==◌, ◌&&◌, ◌^◌, nat_lt, not}
use Rattle.std.specs.Fmt.{decimal, digit_glyph, digits, digits_onto}
use Rattle.std.specs.List.{AllByRecursion, list_all, slice_split}
use Rattle.std.proofs.lemmas.Bool.{lt-ltb}
use Rattle.std.proofs.lemmas.Bool.Decides.{Decides-eqb, nat_tests}
use Rattle.std.proofs.lemmas.Fmt.{length-decimal-le}
use Rattle.std.proofs.lemmas.List.{length-append}
use Rattle.std.proofs.lemmas.List.Elements.{All-cons, All-nil}
use Rattle.std.proofs.lemmas.List.Splits.{slice_split_at, slice_split_none}
use Rattle.std.proofs.lemmas.Str.{IsUtf8-from_ascii}
use Rattle.std.proofs.lemmas.Str.Ascii.{IsAscii-cons, IsAscii-nil}
use Rattle.std.specs.Str.{IsAscii}
use Rattle.table_history.specs.Path.{IsPath, IsSegment, is_slash}
use Rattle.iceberg_table.specs.Folder.{path_of}
use Rattle.iceberg_version.specs.Names.{list_name}

-- ---- digits

abbrev pub IsDigit : ℕ → Type 0
IsDigit b = (48 ≤ b) × (b ≤ 57)

glyph_digit : (n : ℕ) → IsDigit (digit_glyph false (n % 10))
glyph_digit n = let small : n % 10 < 10 = omega arith in rw (lt-ltb (n % 10) 10 small) (omega (arith, small), omega (arith, small))

digits_by : (b : Bool) (xs ys : List ℕ) → AllByRecursion IsDigit xs → AllByRecursion IsDigit ys → AllByRecursion IsDigit (cond b xs ys)
digits_by true xs ys x y = x
digits_by false xs ys x y = y

onto_digits : (k n : ℕ) (acc : List ℕ) → AllByRecursion IsDigit acc → AllByRecursion IsDigit (digits_onto k 10 false n acc)
onto_digits zero n acc all = all
onto_digits (suc k) n acc all =
    digits_by (n / 10 == 0) (digit_glyph false (n % 10) ∷ acc) (digits_onto k 10 false (n / 10) (digit_glyph false (n % 10) ∷ acc)) (glyph_digit n, all) (onto_digits k (n / 10) (digit_glyph false (n % 10) ∷ acc) (glyph_digit n, all))

-- decimals are digits, however great the number is
pub decimal_digits : (n : ℕ) → AllByRecursion IsDigit (decimal n)
unfolding digits
decimal_digits n = onto_digits 64 n [] tt

-- ---- it is a path

abbrev pub IsPlain : ℕ → Type 0
IsPlain b = (32 ≤ b) × (b < 128) × (b ≡ 47 → ⊥)

pub plain_append : (xs ys : List ℕ) → AllByRecursion IsPlain xs → AllByRecursion IsPlain ys → AllByRecursion IsPlain (xs ++ ys)
plain_append [] ys a b = b
plain_append (x ∷ xs) ys a b = (a.0, plain_append xs ys a.1 b)

pub digits_plain : (xs : List ℕ) → AllByRecursion IsDigit xs → AllByRecursion IsPlain xs
digits_plain [] a = tt
digits_plain (x ∷ xs) a = let low = a.0.0 in let high = a.0.1 in ((omega (arith, low), omega (arith, high), λ slash. omega (arith, low, slash)), digits_plain xs a.1)

other_by : (x : ℕ) (b : Bool) → (x == 47) ≡ b → (x ≡ 47 → ⊥) → b ≡ false
other_by x true is other = absurd (other ((Decides-eqb x 47).0 is))
other_by x false is other = refl

no_slash : (xs : List ℕ) → AllByRecursion IsPlain xs → All (λ b. is_slash b ≡ false) xs
no_slash [] a = All-nil (λ b. is_slash b ≡ false)
no_slash (x ∷ xs) a = All-cons (λ b. is_slash b ≡ false) x xs (other_by x (x == 47) refl a.0.2) (no_slash xs a.1)

-- the same as a test
abbrev pub is_plain : ℕ → Bool
is_plain b = nat_lt 31 b && (nat_lt b 128 && not (b == 47))

pub plain_by : (xs : List ℕ) → list_all is_plain xs ≡ true → AllByRecursion IsPlain xs
plain_by [] all = tt
plain_by (x ∷ xs) all = (grind (arith, nat_tests), plain_by xs (grind (arith, nat_tests)))

folder_plain : AllByRecursion IsPlain (codes "metadata")
folder_plain = plain_by (codes "metadata") refl

low_by : (xs : List ℕ) → list_all (λ b. nat_lt 31 b && nat_lt b 128) xs ≡ true → IsAscii xs × All (λ b. 32 ≤ b) xs
low_by [] all = (IsAscii-nil, All-nil (λ b. 32 ≤ b))
low_by (x ∷ xs) all =
    let rest = low_by xs (grind (arith, nat_tests)) in
    let high : x < 128 = grind (arith, nat_tests) in
    let low : 32 ≤ x = grind (arith, nat_tests) in
    (IsAscii-cons x xs high rest.0, All-cons (λ b. 32 ≤ b) x xs low rest.1)

plain_test : (xs : List ℕ) → AllByRecursion IsPlain xs → list_all (λ b. nat_lt 31 b && nat_lt b 128) xs ≡ true
plain_test [] a = refl
plain_test (x ∷ xs) a = let low = a.0.0 in let high = a.0.1 in rw (lt-ltb 31 x (omega (arith, low)), lt-ltb x 128 high) (plain_test xs a.1)

first_apart : (c : ℕ) (l : List ℕ) (b : ℕ) (m : List ℕ) → (c ≡ b → ⊥) → c ∷ l ≡ b ∷ m → ⊥
first_apart c l b m apart same = apart (ap (λ (x : List ℕ). get_or x 0 0) same)

letter_first : (c : ℕ) (l : List ℕ) → 60 < c → IsSegment (c ∷ l)
letter_first c l late = record {
  filled = λ none. let lengths = ap length none in absurd (omega (arith, lengths));
  no_dot = first_apart c l 46 [] (λ e. omega (arith, e, late));
  no_dots = first_apart c l 46 (46 ∷ []) (λ e. omega (arith, e, late));
}

pub path_by : (rest : List ℕ) → AllByRecursion IsPlain rest → length rest ≤ 500 → IsPath (path_of (108 ∷ rest))
path_by rest plain short =
    let name : AllByRecursion IsPlain (108 ∷ rest) = ((omega arith, omega arith, λ slash. omega (arith, slash)), plain) in
    let parts : slice_split is_slash (path_of (108 ∷ rest)) ≡ codes "metadata" ∷ (108 ∷ rest) ∷ [] =
    slice_split_at is_slash (codes "metadata") 47 (108 ∷ rest) (no_slash (codes "metadata") folder_plain) refl
    ∙ ap (λ (l : List (List ℕ)). codes "metadata" ∷ l) (slice_split_none is_slash (108 ∷ rest) (no_slash (108 ∷ rest) name)) in
    let low = low_by (path_of (108 ∷ rest)) (plain_test rest plain) in
    record {
      form = record {
        utf8 = IsUtf8-from_ascii (path_of (108 ∷ rest)) low.0;
        plain = low.1;
        segments = subst (All IsSegment) (sym parts) (All-cons IsSegment (codes "metadata") ((108 ∷ rest) ∷ []) (letter_first 109 (codes "etadata") (omega arith)) (All-cons IsSegment (108 ∷ rest) [] (letter_first 108 rest (omega arith)) (All-nil IsSegment)));
      };
      short = omega (arith, short);
    }

pub short_decimal : (n : ℕ) → n < 2 ^ 64 → length (decimal n) ≤ 20
short_decimal n small = length-decimal-le 20 n (omega arith) (omega (arith, small)) small

pub list_path : (version : ℕ) → version < 2 ^ 64 → IsPath (path_of (list_name version))
list_path version small =
    let ds = decimal version in
    let end = plain_append ds (codes ".avro") (digits_plain ds (decimal_digits version)) (plain_by (codes ".avro") refl) in
    let lengths = length-append ds (codes ".avro") in
    let few = short_decimal version small in
    path_by (codes "b-s-" ++ (ds ++ codes ".avro")) (plain_append (codes "b-s-") (ds ++ codes ".avro") (plain_by (codes "b-s-") refl) end) (omega (arith, lengths, few))
