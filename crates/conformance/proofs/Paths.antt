-- The paths of the drill's files are paths of a table, and no two files have one.
use Rattle.std.proofs.Common.{◌≡◌, ◌≢◌, ⊎_elim, ℕ, ◌+◌, ◌-◌, ◌%◌, ◌<◌, ◌≤◌, ◌^◌, Bool, true, false, get_or, drop, take, List, [], ◌∷◌, ◌++◌, length, All, refl, sym, ap, subst, ◌∙◌, arith}
use Rattle.std.specs.Prelude.{◌==◌, ◌&&◌, not, nat_le, nat_lt, codes}
use Rattle.std.specs.Fmt.{decimal}
use Rattle.std.specs.List.{AllByRecursion, list_all}
use Rattle.std.specs.Str.{IsAscii}
use Rattle.std.proofs.lemmas.Bool.{and_from, and_parts, cases_lt}
use Rattle.std.proofs.lemmas.Fmt.{decimal_by_steps, decimal_digit, decimal_injective, length-decimal-le}
use Rattle.std.proofs.lemmas.Bool.Decides.{nat_tests}
use Rattle.std.proofs.lemmas.List.{append_cancel_right, get_or_past, length-append}
use Rattle.std.proofs.lemmas.List.Elements.{All-append, All-cons, All-get_or, All-nil, All-weaker}
use Rattle.std.proofs.lemmas.List.Folds.{list_all-append}
use Rattle.std.proofs.lemmas.List.Splits.{slice_split_at, slice_split_none}
use Rattle.std.proofs.lemmas.Str.{IsUtf8-from_ascii}
use Rattle.partition_map.specs.Folder.{folder_components}
use Rattle.table_history.specs.Path.{IsPath, IsSegment, is_slash}
use Rattle.conformance.specs.Drill.{folder_at, path_at}

-- ---- bytes

-- a byte that a segment may have
abbrev is_plain : ℕ → Bool
is_plain b = nat_le 32 b && (nat_lt b 128 && not (b == 47))

record IsPlain (b : ℕ) : Type 0 where
  printed : 32 ≤ b
  ascii : b < 128
  whole : is_slash b ≡ false

plain_by : (b : ℕ) → is_plain b ≡ true → IsPlain b
plain_by b is = record { printed = grind (arith, nat_tests); ascii = grind (arith, nat_tests); whole = grind (arith, nat_tests) }

all_plain : (bs : List ℕ) → list_all is_plain bs ≡ true → All IsPlain bs
all_plain [] is = All-nil IsPlain
all_plain (b ∷ bs) is = let both = and_parts (is_plain b) (list_all is_plain bs) is in All-cons IsPlain b bs (plain_by b both.0) (all_plain bs both.1)

both_plain : (xs ys : List ℕ) → list_all is_plain xs ≡ true → list_all is_plain ys ≡ true → list_all is_plain (xs ++ ys) ≡ true
both_plain xs ys a b = list_all-append is_plain xs ys ∙ and_from (list_all is_plain xs) (list_all is_plain ys) a b

plain_digit : (d : ℕ) → d < 10 → is_plain (48 + d) ≡ true
plain_digit d lt = grind (arith, nat_tests)

plain_one : (d : ℕ) → d < 10 → list_all is_plain ((48 + d) ∷ []) ≡ true
plain_one d lt = and_from (is_plain (48 + d)) true (plain_digit d lt) refl

plain_number : (n : ℕ) → n < 2 ^ 64 → list_all is_plain (decimal n) ≡ true
plain_number n lt = decimal_by_steps (λ n ds. list_all is_plain ds ≡ true) plain_one (λ n ds le plain. both_plain ds ((48 + n % 10) ∷ []) plain (plain_one (n % 10) (omega arith))) n lt

-- ---- a path of two segments

segment : (b : ℕ) (bs : List ℕ) → b ≢ 46 → IsSegment (b ∷ bs)
segment b bs other = record {
  filled = λ is. let same = ap length is in omega (arith, same);
  no_dot = λ is. other (ap (λ (l : List ℕ). get_or l 0 0) is);
  no_dots = λ is. other (ap (λ (l : List ℕ). get_or l 0 0) is);
}

module _ (first second : List ℕ) (first_plain : list_all is_plain first ≡ true) (second_plain : list_all is_plain second ≡ true) where
  all_first : All IsPlain first
  all_first = all_plain first first_plain

  all_second : All IsPlain second
  all_second = all_plain second second_plain

  ascii_all : All (λ b. b < 128) (first ++ 47 ∷ second)
  ascii_all = All-append (λ b. b < 128) first (47 ∷ second)
      (All-weaker IsPlain (λ b. b < 128) (λ b p. p.ascii) first all_first)
      (All-cons (λ b. b < 128) 47 second (omega arith) (All-weaker IsPlain (λ b. b < 128) (λ b p. p.ascii) second all_second))

  ascii : IsAscii (first ++ 47 ∷ second)
  ascii i = ⊎_elim
      (λ within. All-get_or (λ b. b < 128) (first ++ 47 ∷ second) i 0 within ascii_all)
      (λ past. subst (λ b. b < 128) (sym (get_or_past (first ++ 47 ∷ second) i 0 past)) (omega arith))
      (cases_lt i (length (first ++ 47 ∷ second)))

  two_segments : IsSegment first → IsSegment second → length first + length second < 500 → IsPath (first ++ 47 ∷ second)
  two_segments one two short = record {
    form = record {
      utf8 = IsUtf8-from_ascii (first ++ 47 ∷ second) ascii;
      plain = All-append (λ b. 32 ≤ b) first (47 ∷ second)
          (All-weaker IsPlain (λ b. 32 ≤ b) (λ b p. p.printed) first all_first)
          (All-cons (λ b. 32 ≤ b) 47 second (omega arith) (All-weaker IsPlain (λ b. 32 ≤ b) (λ b p. p.printed) second all_second));
      segments = subst (All IsSegment)
          (sym (slice_split_at is_slash first 47 second (All-weaker IsPlain (λ b. is_slash b ≡ false) (λ b p. p.whole) first all_first) refl
          ∙ ap (λ (l : List (List ℕ)). first ∷ l) (slice_split_none is_slash second (All-weaker IsPlain (λ b. is_slash b ≡ false) (λ b p. p.whole) second all_second))))
          (All-cons IsSegment first (second ∷ []) one (All-cons IsSegment second [] two (All-nil IsSegment)));
    };
    short = let both = length-append first (47 ∷ second) in omega (arith, both, short);
  }

  -- the only part of its folder
  one_folder : folder_components (first ++ 47 ∷ second) ≡ first ∷ []
  one_folder =
      ap (λ (parts : List (List ℕ)). take (length parts - 1) parts)
      (slice_split_at is_slash first 47 second (All-weaker IsPlain (λ b. is_slash b ≡ false) (λ b p. p.whole) first all_first) refl
      ∙ ap (λ (l : List (List ℕ)). first ∷ l) (slice_split_none is_slash second (All-weaker IsPlain (λ b. is_slash b ≡ false) (λ b p. p.whole) second all_second)))

-- ---- the path of a file

abbrev name_at : ℕ → ℕ → List ℕ
name_at i j = decimal i ++ (codes "-" ++ (decimal j ++ codes ".parquet"))

module _ (number i j : ℕ) where
  digit : folder_at number i j < 10
  digit = omega arith

  pub path_form : path_at number i j ≡ codes "d=" ++ (((48 + folder_at number i j) ∷ []) ++ (codes "/f-" ++ name_at i j))
  path_form = ap (λ (ds : List ℕ). codes "d=" ++ (ds ++ (codes "/f-" ++ name_at i j))) (decimal_digit (folder_at number i j) digit)

  module _ (small_i : i < 1000) (small_j : j < 1000) where
    second_plain : list_all is_plain (codes "f-" ++ name_at i j) ≡ true
    second_plain = both_plain (codes "f-") (name_at i j) refl
        (both_plain (decimal i) (codes "-" ++ (decimal j ++ codes ".parquet")) (plain_number i (omega (arith, small_i)))
        (both_plain (codes "-") (decimal j ++ codes ".parquet") refl (both_plain (decimal j) (codes ".parquet") (plain_number j (omega (arith, small_j))) refl)))

    short : length (name_at i j) < 100
    short =
        let first = length-append (decimal i) (codes "-" ++ (decimal j ++ codes ".parquet")) in
        let last = length-append (decimal j) (codes ".parquet") in
        let digits_i = length-decimal-le 3 i (omega arith) (omega (arith, small_i)) (omega (arith, small_i)) in
        let digits_j = length-decimal-le 3 j (omega arith) (omega (arith, small_j)) (omega (arith, small_j)) in
        omega (arith, first, last, digits_i, digits_j)

    pub path_is : IsPath (path_at number i j)
    path_is =
        let small = short in
        subst IsPath (sym path_form)
        (two_segments (codes "d=" ++ ((48 + folder_at number i j) ∷ [])) (codes "f-" ++ name_at i j)
        (both_plain (codes "d=") ((48 + folder_at number i j) ∷ []) refl (plain_one (folder_at number i j) digit))
        second_plain
        (segment 100 (61 ∷ (48 + folder_at number i j) ∷ []) (λ is. omega (arith, is)))
        (segment 102 (45 ∷ name_at i j) (λ is. omega (arith, is)))
        (omega (arith, small)))

    pub folder_is : folder_components (path_at number i j) ≡ (codes "d=" ++ ((48 + folder_at number i j) ∷ [])) ∷ []
    folder_is =
        ap folder_components path_form
        ∙ one_folder (codes "d=" ++ ((48 + folder_at number i j) ∷ [])) (codes "f-" ++ name_at i j)
        (both_plain (codes "d=") ((48 + folder_at number i j) ∷ []) refl (plain_one (folder_at number i j) digit))
        second_plain

-- ---- one file for each path

other_digit : (d : ℕ) → d < 10 → 48 + d ≢ 45
other_digit d lt is = omega (arith, is)

no_hyphen : (n : ℕ) → n < 2 ^ 64 → AllByRecursion (λ b. b ≢ 45) (decimal n)
no_hyphen n lt = decimal_by_steps (λ n ds. AllByRecursion (λ b. b ≢ 45) ds) (λ n lt. (other_digit n lt, tt)) (λ n ds le all. behind ds (n % 10) (omega arith) all) n lt
  where
    behind : (ds : List ℕ) (d : ℕ) → d < 10 → AllByRecursion (λ b. b ≢ 45) ds → AllByRecursion (λ b. b ≢ 45) (ds ++ ((48 + d) ∷ []))
    behind [] d lt all = (other_digit d lt, tt)
    behind (c ∷ ds) d lt all = (all.0, behind ds d lt all.1)

first_same : (x y : ℕ) (xs ys : List ℕ) → x ∷ xs ≡ y ∷ ys → x ≡ y
first_same x y xs ys is = ap (λ (l : List ℕ). get_or l 0 0) is

at_hyphen : (xs ys rs ss : List ℕ) → AllByRecursion (λ b. b ≢ 45) xs → AllByRecursion (λ b. b ≢ 45) ys → xs ++ (45 ∷ rs) ≡ ys ++ (45 ∷ ss) → (xs ≡ ys) × (rs ≡ ss)
at_hyphen [] [] rs ss a b is = (refl, ap (drop 1) is)
at_hyphen [] (y ∷ ys) rs ss a b is = absurd (b.0 (sym (first_same 45 y rs (ys ++ (45 ∷ ss)) is)))
at_hyphen (x ∷ xs) [] rs ss a b is = absurd (a.0 (first_same x 45 (xs ++ (45 ∷ rs)) ss is))
at_hyphen (x ∷ xs) (y ∷ ys) rs ss a b is =
    let later = at_hyphen xs ys rs ss a.1 b.1 (ap (drop 1) is) in
    (ap (λ c. c ∷ xs) (first_same x y (xs ++ (45 ∷ rs)) (ys ++ (45 ∷ ss)) is) ∙ ap (λ (l : List ℕ). y ∷ l) later.0, later.1)

pub one_path : (number i j k l : ℕ) → i < 1000 → j < 1000 → k < 1000 → l < 1000 → path_at number i j ≡ path_at number k l → (i ≡ k) × (j ≡ l)
one_path number i j k l small_i small_j small_k small_l is =
    let names : name_at i j ≡ name_at k l = ap (drop 6) (sym (path_form number i j) ∙ is ∙ path_form number k l) in
    let parts = at_hyphen (decimal i) (decimal k) (decimal j ++ codes ".parquet") (decimal l ++ codes ".parquet") (no_hyphen i (omega (arith, small_i))) (no_hyphen k (omega (arith, small_k))) names in (
      decimal_injective i k (omega (arith, small_i)) (omega (arith, small_k)) parts.0,
      decimal_injective j l (omega (arith, small_j)) (omega (arith, small_l)) (append_cancel_right (decimal j) (decimal l) (codes ".parquet") parts.1),
    )
