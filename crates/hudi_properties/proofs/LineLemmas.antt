-- Lines, one after another.
use Rattle.std.proofs.Common.{◌≡◌, ◌≢◌, ℕ, suc, ◌+◌, ◌<◌, List, [], ◌∷◌, ◌++◌, length, get_or, take, drop, Option, Bool, true, false, refl, sym, ap, subst, ◌∙◌, append_assoc, arith}
use Rattle.std.specs.Prelude.{◌==◌, take_while, option_to_list}
use Rattle.std.proofs.lemmas.Bool.Decides.{nat_tests}
use Rattle.std.proofs.lemmas.List.Sums.{take_while-cons}
use Rattle.hudi_properties.specs.declared.line.LogicalLine.{LogicalLine}
use Rattle.hudi_properties.specs.declared.line.LineStep.{LineStep}
use Rattle.hudi_properties.specs.Lines.{is_line_end, is_ordinary, onto_first, lines_after, natural_lines, stepped, logical_from}

abbrev pub first_len : List ℕ → ℕ
first_len bytes = length (take_while is_ordinary bytes)

first_more : (b : ℕ) (bs : List ℕ) → is_line_end b ≡ false → first_len (b ∷ bs) ≡ suc (first_len bs)
first_more b bs is = ap length (take_while-cons is_ordinary b bs) ∙ rw is

first_none : (b : ℕ) (bs : List ℕ) → is_line_end b ≡ true → first_len (b ∷ bs) ≡ 0
first_none b bs is = ap length (take_while-cons is_ordinary b bs) ∙ rw is

first_by : (r : Bool) (b : ℕ) (bs : List ℕ) (e : ℕ) (rest : List ℕ) → is_line_end b ≡ r → drop (first_len (b ∷ bs)) (b ∷ bs) ≡ e ∷ rest
    → (drop (first_len bs) bs ≡ e ∷ rest → lines_after false bs ≡ take (first_len bs) bs ∷ lines_after (e == 13) rest)
    → lines_after false (b ∷ bs) ≡ take (first_len (b ∷ bs)) (b ∷ bs) ∷ lines_after (e == 13) rest
first_by true b bs e rest is at more =
    let len = first_none b bs is in
    let at' : b ∷ bs ≡ e ∷ rest = subst (λ n. drop n (b ∷ bs) ≡ e ∷ rest) len at in
    let same : b ≡ e = cc in
    let tail : bs ≡ rest = cc in
    let left_side : lines_after false (b ∷ bs) ≡ [] ∷ lines_after (b == 13) bs = rw is in
    left_side ∙ (λ i. [] ∷ lines_after (same i == 13) (tail i)) ∙ ap (λ n. take n (b ∷ bs) ∷ lines_after (e == 13) rest) (sym len)
first_by false b bs e rest is at more =
    let len = first_more b bs is in
    let at' : drop (first_len bs) bs ≡ e ∷ rest = subst (λ n. drop n (b ∷ bs) ≡ e ∷ rest) len at in
    let left_side : lines_after false (b ∷ bs) ≡ onto_first b (lines_after false bs) = rw is in
    left_side ∙ ap (onto_first b) (more at') ∙ ap (λ n. take n (b ∷ bs) ∷ lines_after (e == 13) rest) (sym len)

-- the first line, and those behind its end
pub first_line : (bytes : List ℕ) (e : ℕ) (rest : List ℕ) → drop (first_len bytes) bytes ≡ e ∷ rest → lines_after false bytes ≡ take (first_len bytes) bytes ∷ lines_after (e == 13) rest
first_line [] e rest at = absurd (cc)
first_line (b ∷ bs) e rest at = first_by (is_line_end b) b bs e rest refl at (first_line bs e rest)

only_by : (r : Bool) (b : ℕ) (bs : List ℕ) → is_line_end b ≡ r → drop (first_len (b ∷ bs)) (b ∷ bs) ≡ [] → (drop (first_len bs) bs ≡ [] → lines_after false bs ≡ bs ∷ []) → lines_after false (b ∷ bs) ≡ (b ∷ bs) ∷ []
only_by true b bs is at more =
    let at' : b ∷ bs ≡ [] = subst (λ n. drop n (b ∷ bs) ≡ []) (first_none b bs is) at in absurd (cc)
only_by false b bs is at more =
    let at' : drop (first_len bs) bs ≡ [] = subst (λ n. drop n (b ∷ bs) ≡ []) (first_more b bs is) at in
    let left_side : lines_after false (b ∷ bs) ≡ onto_first b (lines_after false bs) = rw is in
    left_side ∙ ap (onto_first b) (more at')

pub only_line : (bytes : List ℕ) → drop (first_len bytes) bytes ≡ [] → lines_after false bytes ≡ bytes ∷ []
only_line [] at = refl
only_line (b ∷ bs) at = only_by (is_line_end b) b bs refl at (only_line bs)

fresh_by : (r : Bool) (c : ℕ) (cs : List ℕ) → (r ≡ true → c ≢ 10) → lines_after r (c ∷ cs) ≡ lines_after false (c ∷ cs)
fresh_by true c cs other = let no : (c == 10) ≡ false = grind (arith, nat_tests, other refl) in rw no
fresh_by false c cs other = refl

-- a line end of one byte
pub fresh : (e : ℕ) (rest : List ℕ) → ((c : ℕ) (cs : List ℕ) → rest ≡ c ∷ cs → e ≡ 13 → c ≢ 10) → lines_after (e == 13) rest ≡ lines_after false rest
fresh e [] other = refl
fresh e (c ∷ cs) other = fresh_by (e == 13) c cs (λ is. other c cs refl (grind (arith, nat_tests)))

-- ---- lines that are left

pub lines_step : (n : ℕ) (front : Option LogicalLine) (line : List ℕ) (all more : List (List ℕ)) (before after r : List LogicalLine) (s : LineStep) → all ≡ line ∷ more → s ≡ stepped n front line → after ≡ before ++ option_to_list s.whole
    → before ++ logical_from n front all ≡ r → after ++ logical_from (n + 1) s.front more ≡ r
unfolding logical_from
lines_step n front line all more before after r s split is pushed e =
    let f = rw split at e in
    let g = rw (← is) at f in rw pushed (append_assoc before (option_to_list s.whole) (logical_from (n + 1) s.front more) ∙ g)

pub lines_end : (n : ℕ) (front : Option LogicalLine) (before after r : List LogicalLine) → after ≡ before ++ option_to_list front → before ++ logical_from n front [] ≡ r → after ≡ r
unfolding logical_from
lines_end n front before after r pushed e = pushed ∙ e

empty_list : (xs : List ℕ) → length xs ≡ 0 → xs ≡ []
empty_list [] h = refl
empty_list (x ∷ xs) h = absurd (omega (arith, h))

pub whole_line : (bytes ending : List ℕ) (n : ℕ) → n ≡ first_len bytes → ending ≡ drop n bytes → length ending ≡ 0 → natural_lines bytes ≡ bytes ∷ []
unfolding natural_lines
whole_line bytes ending n is at none = only_line bytes (ap (λ k. drop k bytes) (sym is) ∙ sym at ∙ empty_list ending none)

pub split_line : (bytes line ending behind : List ℕ) (n : ℕ) → n ≡ first_len bytes → line ≡ take n bytes → ending ≡ drop n bytes → 0 < length ending → lines_after (get_or ending 0 0 == 13) (drop 1 ending) ≡ natural_lines behind
    → natural_lines bytes ≡ line ∷ natural_lines behind
unfolding natural_lines
split_line bytes line [] behind n is front at some ends = absurd (omega (arith, some))
split_line bytes line (e ∷ rest) behind n is front at some ends =
    first_line bytes e rest (ap (λ k. drop k bytes) (sym is) ∙ sym at) ∙ (λ i. (ap (λ k. take k bytes) (sym is) ∙ sym front) i ∷ ends i)
