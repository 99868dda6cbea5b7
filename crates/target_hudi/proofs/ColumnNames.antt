-- Names that are Avro's, joined by commas, are read back.
use Rattle.std.proofs.Common.{◌≡◌, ⊎_elim, ℕ, ◌+◌, ◌-◌, ◌<◌, ◌==◌, true, false, cond, List, [], ◌∷◌, length, take, drop, map, filter, All, Contains, Some, refl, sym, ap, ◌∙◌, arith}
use Rattle.std.specs.List.{join_with_byte, list_all, prefix_len, slice_split, suffix_len}
use Rattle.std.proofs.Math.Seq.{take-length}
use Rattle.std.proofs.lemmas.Bool.{and_parts, cases_Bool, eqb-true, false≢true, or_left}
use Rattle.std.proofs.lemmas.Bool.Decides.{nat_tests}
use Rattle.std.proofs.lemmas.List.Elements.{All-cons, All-get_or, All-head, All-nil}
use Rattle.std.proofs.lemmas.List.Splits.{slice_split_at, slice_split_none}
use Rattle.std.proofs.lemmas.List.Sums.{suffix_len_is}
use Rattle.table_history.proofs.RowListLemmas.{Contains-head, Contains-tail}
use Rattle.schema_map.specs.Image.{is_avro_name, is_letter, is_name_byte}
use Rattle.hudi_properties.specs.TableProperties.{is_name, is_space, names_in, without_spaces}

-- a byte of a name isn't one that no name has
apart : (c b : ℕ) → is_name_byte c ≡ false → is_name_byte b ≡ true → (b == c) ≡ false
apart c b none is = ⊎_elim (λ same. absurd (false≢true (sym none ∙ ap is_name_byte (sym (eqb-true b c same)) ∙ is))) (λ other. other) (cases_Bool (b == c))

all_apart : (c : ℕ) (bytes : List ℕ) → is_name_byte c ≡ false → list_all is_name_byte bytes ≡ true → All (λ b. (b == c) ≡ false) bytes
all_apart c [] none all = All-nil (λ b. (b == c) ≡ false)
all_apart c (b ∷ bytes) none all =
    let parts = and_parts (is_name_byte b) (list_all is_name_byte bytes) all in All-cons (λ x. (x == c) ≡ false) b bytes (apart c b none parts.0) (all_apart c bytes none parts.1)

name_apart : (c : ℕ) (name : List ℕ) → is_name_byte c ≡ false → is_avro_name name ≡ true → All (λ b. (b == c) ≡ false) name
name_apart c [] none is = absurd (false≢true is)
name_apart c (b ∷ bytes) none is =
    let parts = and_parts (is_letter b) (list_all is_name_byte bytes) is in
    All-cons (λ x. (x == c) ≡ false) b bytes (apart c b none (or_left (is_letter b) _ parts.0)) (all_apart c bytes none parts.1)

filled : (name : List ℕ) → is_avro_name name ≡ true → 0 < length name
filled [] is = absurd (false≢true is)
filled (b ∷ bytes) is = omega arith

-- no space is dropped
bare : (name : List ℕ) → 0 < length name → All (λ b. is_space b ≡ false) name → without_spaces name ≡ name
bare [] some all = absurd (omega (arith, some))
bare (b ∷ bytes) some all =
    let name : List ℕ = b ∷ bytes in
    let first : prefix_len is_space name ≡ 0 = ap (λ t. cond t (1 + prefix_len is_space bytes) 0) (All-head (λ x. is_space x ≡ false) b bytes all) in
    let last : suffix_len is_space name ≡ length name - length name =
    suffix_len_is is_space name (length name) 0 (omega arith) (λ k ge lt. absurd (omega (arith, ge, lt))) (λ _. All-get_or (λ x. is_space x ≡ false) name (length name - 1) 0 (omega arith) all) in
    let whole : length name - suffix_len is_space name ≡ length name = omega (arith, last) in
    ap (λ n. take (length (drop n name) - suffix_len is_space (drop n name)) (drop n name)) first ∙ ap (λ n. take n name) whole ∙ take-length name

-- the names, cut at the commas between them
cut : (name : List ℕ) (names : List (List ℕ)) → ((n : List ℕ) → Contains (name ∷ names) n → is_avro_name n ≡ true) → slice_split (λ b. b == 44) (join_with_byte 44 (name ∷ names)) ≡ name ∷ names
cut name [] are = slice_split_none (λ b. b == 44) name (name_apart 44 name refl (are name (Contains-head name [])))
cut name (next ∷ names) are =
    slice_split_at (λ b. b == 44) name 44 (join_with_byte 44 (next ∷ names)) (name_apart 44 name refl (are name (Contains-head name (next ∷ names)))) refl
    ∙ ap (λ l. name ∷ l) (cut next names (λ n there. are n (Contains-tail name (next ∷ names) n there)))

kept : (names : List (List ℕ)) → ((n : List ℕ) → Contains names n → is_avro_name n ≡ true) → filter is_name (map without_spaces names) ≡ names
kept [] are = refl
kept (name ∷ names) are =
    let is = are name (Contains-head name names) in
    let some = filled name is in
    let same = bare name some (name_apart 32 name refl is) in
    let counts : is_name name ≡ true = grind (arith, nat_tests, some) in
    let rest = kept names (λ n there. are n (Contains-tail name names n there)) in
    ap (λ n. cond (is_name n) (n ∷ filter is_name (map without_spaces names)) (filter is_name (map without_spaces names))) same
    ∙ ap (λ t. cond t (name ∷ filter is_name (map without_spaces names)) (filter is_name (map without_spaces names))) counts
    ∙ ap (λ l. name ∷ l) rest

pub names_back : (name : List ℕ) (names : List (List ℕ)) → ((n : List ℕ) → Contains (name ∷ names) n → is_avro_name n ≡ true) → names_in (Some (join_with_byte 44 (name ∷ names))) ≡ name ∷ names
names_back name names are = ap (λ l. filter is_name (map without_spaces l)) (cut name names are) ∙ kept (name ∷ names) are
