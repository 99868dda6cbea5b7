-- Names that a commit writes under: each is of one version, and no two kinds of names share one. They are paths.
use Rattle.std.proofs.Common.{◌≡◌, ℕ, zero, suc, ◌+◌, ◌/◌, ◌%◌, ◌^◌, ◌<◌, ◌≤◌, List, [], ◌∷◌, ◌++◌, length, get_or, Bool, true, false, cond, codes, refl, ap, ⊎_elim, arith}
use Rattle.std.specs.Prelude.{◌==◌}
use Rattle.std.specs.Fmt.{decimal, digit_glyph, digits, digits_onto}
use Rattle.std.specs.List.{AllByRecursion}
use Rattle.std.proofs.lemmas.Bool.{cases_lt}
use Rattle.std.proofs.lemmas.Bool.Decides.{Decides-eqb}
use Rattle.std.proofs.lemmas.Fmt.{decimal_injective, length-decimal-le}
use Rattle.std.proofs.lemmas.List.{append_cancel_left, append_cancel_right, length-append}
use Rattle.lake_store.specs.Disk.{IsName}
use Rattle.table_history.proofs.RowListLemmas.{all_at}
use Rattle.table_history.specs.Path.{IsPath}
use Rattle.iceberg_table.specs.Folder.{path_of, version_path}
use Rattle.iceberg_version.specs.Names.{list_name, manifest_name, staged_name}
use Rattle.iceberg_version.proofs.NamePathLemmas.{IsDigit, IsPlain, decimal_digits, digits_plain, path_by, plain_append, plain_by, short_decimal}

-- ---- digits

length_by : (b : Bool) (least : ℕ) (xs ys : List ℕ) → (b ≡ true → least ≤ length xs) → (b ≡ false → least ≤ length ys) → least ≤ length (cond b xs ys)
length_by true least xs ys x y = x refl
length_by false least xs ys x y = y refl

onto_length : (k n : ℕ) (acc : List ℕ) → length acc ≤ length (digits_onto k 10 false n acc)
onto_length zero n acc = omega arith
onto_length (suc k) n acc =
    let more = digit_glyph false (n % 10) ∷ acc in
    let rest = onto_length k (n / 10) more in
    length_by (n / 10 == 0) (length acc) more (digits_onto k 10 false (n / 10) more) (λ is. omega arith) (λ is. omega (arith, rest))

power : (i : ℕ) → 1 ≤ 10 ^ i
power zero = omega arith
power (suc i) = let less = power i in omega (arith, less)

onto_long : (j k n : ℕ) (acc : List ℕ) → j ≤ k → 10 ^ j ≤ n → length acc + j ≤ length (digits_onto k 10 false n acc)
onto_long zero k n acc within much = let all = onto_length k n acc in omega (arith, all)
onto_long (suc j) zero n acc within much = absurd (omega (arith, within))
onto_long (suc j) (suc k) n acc within much =
    let more = digit_glyph false (n % 10) ∷ acc in
    let less : 10 ^ j ≤ n / 10 = omega (arith, much) in
    let some = power j in
    let rest = onto_long j k (n / 10) more (omega (arith, within)) less in
    length_by (n / 10 == 0) (length acc + suc j) more (digits_onto k 10 false (n / 10) more) (λ is. let none : n / 10 ≡ 0 = (Decides-eqb (n / 10) 0).0 is in absurd (omega (arith, none, some, less))) (λ is. omega (arith, rest))

great_long : (n : ℕ) → 2 ^ 64 ≤ n → 19 ≤ length (decimal n)
unfolding digits
great_long n great = let long = onto_long 19 64 n [] (omega arith) (omega (arith, great)) in omega (arith, long)

-- a decimal is that of one number, where one of the two is of 32 bits
pub decimal_once : (v w : ℕ) → w < 2 ^ 32 → decimal v ≡ decimal w → v ≡ w
decimal_once v w small same =
    ⊎_elim
    (λ (less : v < 2 ^ 64). decimal_injective v w less (omega (arith, small)) same)
    (λ (great : 2 ^ 64 ≤ v).
    let long = great_long v great in
    let short = length-decimal-le 10 w (omega arith) (omega (arith, small)) (omega (arith, small)) in
    let lengths = ap length same in
    absurd (omega (arith, long, short, lengths)))
    (cases_lt v (2 ^ 64))

-- ---- each name is of one version

pub one_version : (v w : ℕ) → w < 2 ^ 32 → version_path v ≡ version_path w → v ≡ w
one_version v w small same = decimal_once v w small (append_cancel_right (decimal v) (decimal w) (codes ".metadata.json") (append_cancel_left (codes "metadata/v") (decimal v ++ codes ".metadata.json") (decimal w ++ codes ".metadata.json") same))

pub one_list : (v w : ℕ) → w < 2 ^ 32 → path_of (list_name v) ≡ path_of (list_name w) → v ≡ w
one_list v w small same = decimal_once v w small (append_cancel_right (decimal v) (decimal w) (codes ".avro") (append_cancel_left (codes "metadata/lb-s-") (decimal v ++ codes ".avro") (decimal w ++ codes ".avro") same))

-- digits end at a hyphen
split_hyphen : (xs ys r s : List ℕ) → AllByRecursion IsDigit xs → AllByRecursion IsDigit ys → xs ++ 45 ∷ r ≡ ys ++ 45 ∷ s → xs ≡ ys
split_hyphen [] [] r s a b same = refl
split_hyphen [] (y ∷ ys) r s a b same = let first : 45 ≡ y = ap (λ (l : List ℕ). get_or l 0 0) same in let digit = b.0.0 in absurd (omega (arith, first, digit))
split_hyphen (x ∷ xs) [] r s a b same = let first : x ≡ 45 = ap (λ (l : List ℕ). get_or l 0 0) same in let digit = a.0.0 in absurd (omega (arith, first, digit))
split_hyphen (x ∷ xs) (y ∷ ys) r s a b same =
    let first : x ≡ y = cc same in
    let rest : xs ++ 45 ∷ r ≡ ys ++ 45 ∷ s = cc same in
    λ i. first i ∷ split_hyphen xs ys r s a.1 b.1 rest i

pub one_manifest : (v k w j : ℕ) → w < 2 ^ 32 → path_of (manifest_name v k) ≡ path_of (manifest_name w j) → v ≡ w
one_manifest v k w j small same =
    decimal_once v w small
    (split_hyphen (decimal v) (decimal w) (decimal k ++ codes ".avro") (decimal j ++ codes ".avro") (decimal_digits v) (decimal_digits w)
    (append_cancel_left (codes "metadata/lb-m-") (decimal v ++ (codes "-" ++ (decimal k ++ codes ".avro"))) (decimal w ++ (codes "-" ++ (decimal j ++ codes ".avro"))) same))

-- ---- no two kinds share a name

at_place : (k : ℕ) (a b : List ℕ) → a ≡ b → get_or a k 0 ≡ get_or b k 0
at_place k a b same = ap (λ (l : List ℕ). get_or l k 0) same

pub version_list : (v w : ℕ) → version_path v ≡ path_of (list_name w) → ⊥
version_list v w same = let other : 118 ≡ 108 = at_place 9 _ _ same in omega (arith, other)

pub version_manifest : (v w k : ℕ) → version_path v ≡ path_of (manifest_name w k) → ⊥
version_manifest v w k same = let other : 118 ≡ 108 = at_place 9 _ _ same in omega (arith, other)

pub version_staged : (v w : ℕ) → version_path v ≡ path_of (staged_name w) → ⊥
version_staged v w same = let other : 118 ≡ 108 = at_place 9 _ _ same in omega (arith, other)

pub list_manifest : (v w k : ℕ) → path_of (list_name v) ≡ path_of (manifest_name w k) → ⊥
list_manifest v w k same = let other : 115 ≡ 109 = at_place 12 _ _ same in omega (arith, other)

pub list_staged : (v w : ℕ) → path_of (list_name v) ≡ path_of (staged_name w) → ⊥
list_staged v w same = let other : 115 ≡ 118 = at_place 12 _ _ same in omega (arith, other)

pub manifest_staged : (v k w : ℕ) → path_of (manifest_name v k) ≡ path_of (staged_name w) → ⊥
manifest_staged v k w same = let other : 109 ≡ 118 = at_place 12 _ _ same in omega (arith, other)

-- ---- they are paths

pub manifest_path : (version number : ℕ) → version < 2 ^ 64 → number < 2 ^ 64 → IsPath (path_of (manifest_name version number))
manifest_path version number small less =
    let ds = decimal version in
    let es = decimal number in
    let end = plain_append es (codes ".avro") (digits_plain es (decimal_digits number)) (plain_by (codes ".avro") refl) in
    let behind = plain_append (codes "-") (es ++ codes ".avro") (plain_by (codes "-") refl) end in
    let whole = plain_append ds (codes "-" ++ (es ++ codes ".avro")) (digits_plain ds (decimal_digits version)) behind in
    let lengths = length-append es (codes ".avro") in
    let more = length-append ds (codes "-" ++ (es ++ codes ".avro")) in
    let few = short_decimal version small in
    let fewer = short_decimal number less in
    path_by (codes "b-m-" ++ (ds ++ (codes "-" ++ (es ++ codes ".avro")))) (plain_append (codes "b-m-") (ds ++ (codes "-" ++ (es ++ codes ".avro"))) (plain_by (codes "b-m-") refl) whole) (omega (arith, lengths, more, few, fewer))

-- ---- they are names in the folder

plain_name : (c : ℕ) (name : List ℕ) → AllByRecursion IsPlain (c ∷ name) → IsName (c ∷ name)
plain_name c name plain = (λ none. let lengths = ap length none in absurd (omega (arith, lengths)), λ there. (all_at IsPlain (c ∷ name) 47 plain there).2 refl)

pub version_name : (version : ℕ) → IsName (codes "v" ++ (decimal version ++ codes ".metadata.json"))
version_name version =
    plain_name 118 (decimal version ++ codes ".metadata.json")
    (plain_append (codes "v") (decimal version ++ codes ".metadata.json") (plain_by (codes "v") refl) (plain_append (decimal version) (codes ".metadata.json") (digits_plain (decimal version) (decimal_digits version)) (plain_by (codes ".metadata.json") refl)))
