-- The file group of a path is spelled by the path's beginning.
use Rattle.std.proofs.Common.{◌≡◌, ℕ, ◌+◌, ◌-◌, ◌<◌, ◌≤◌, ◌==◌, not, List, [], ◌∷◌, ◌++◌, length, take, drop, get_or, Option, Some, None, refl, sym, ap, ◌∙◌, arith}
use Rattle.std.specs.List.{position_or_len, suffix_len}
use Rattle.std.specs.Option.{unwrap_or}
use Rattle.std.proofs.lemmas.Bool.{eqb-true, false_from_ne_true}
use Rattle.std.proofs.lemmas.List.{append_assoc, take-append-drop, take-take, drop-take, take_more, length-take}
use Rattle.std.proofs.lemmas.List.Sums.{position_or_len_is, suffix_len_is}
use Rattle.memchr.specs.Find.{IsFirstByte, NoneAfter, Nowhere, Passes, is_byte}
use Rattle.hudi_groups.specs.Group.{joined}

joined_filled : (folder name : List ℕ) → 0 < length folder → joined folder name ≡ folder ++ 47 ∷ name
joined_filled [] name filled = absurd (omega (arith, filled))
joined_filled (b ∷ bs) name filled = refl

take_both : (n m : ℕ) (path : List ℕ) → take (n + m) path ≡ take n path ++ take m (drop n path)
take_both n m path =
    sym (take-append-drop n (take (n + m) path)) ∙ (λ i. take-take n (n + m) path (omega arith) i ++ drop-take n m path i)

-- the folder, its `/`, and so many bytes of the name
pub joined_behind : (path : List ℕ) (start n : ℕ) → 1 < start → start ≤ length path → get_or path (start - 1) 0 ≡ 47
    → take (start + n) path ≡ joined (take (start - 1) path) (take n (drop start path))
joined_behind path start n above within slash =
    let k = start - 1 in
    let place : k + 1 ≡ start = omega arith in
    let cut : take start path ≡ take k path ++ 47 ∷ [] =
    ap (λ i. take i path) (sym place) ∙ take_more path k 0 (omega arith) ∙ ap (λ b. take k path ++ b ∷ []) slash in
    take_both start n path ∙ ap (λ front. front ++ take n (drop start path)) cut ∙ append_assoc (take k path) (47 ∷ []) (take n (drop start path))
    ∙ sym (joined_filled (take k path) (take n (drop start path)) (omega (arith, length-take k path)))

-- the folder, its `/`, and the whole name
pub joined_whole : (path : List ℕ) (start : ℕ) → 1 < start → start ≤ length path → get_or path (start - 1) 0 ≡ 47
    → path ≡ joined (take (start - 1) path) (drop start path)
joined_whole path start above within slash =
    let k = start - 1 in
    let place : k + 1 ≡ start = omega arith in
    let cut : take start path ≡ take k path ++ 47 ∷ [] =
    ap (λ i. take i path) (sym place) ∙ take_more path k 0 (omega arith) ∙ ap (λ b. take k path ++ b ∷ []) slash in
    sym (take-append-drop start path) ∙ ap (λ front. front ++ drop start path) cut ∙ append_assoc (take k path) (47 ∷ []) (drop start path)
    ∙ sym (joined_filled (take k path) (drop start path) (omega (arith, length-take k path)))

-- ---- searches for a byte

-- all behind a place is of one segment
name_behind : (path : List ℕ) (start : ℕ) → start ≤ length path → Nowhere (Passes (is_byte 47) path) start (length path)
    → (0 < start → get_or path (start - 1) 0 ≡ 47) → start ≡ length path - suffix_len (λ b. not (b == 47)) path
name_behind path start within none slash =
    let behind = suffix_len_is (λ b. not (b == 47)) path start 0 within
    (λ k low high. ap not (false_from_ne_true _ (none k low high)))
    (λ above. ap (λ b. not (b == 47)) (slash above)) in
    omega (arith, behind, within)

pub no_slash : (path : List ℕ) → Nowhere (Passes (is_byte 47) path) 0 (length path) → 0 ≡ length path - suffix_len (λ b. not (b == 47)) path
no_slash path none = name_behind path 0 (omega arith) none (λ above. absurd (omega (arith, above)))

pub last_slash : (path : List ℕ) (k : ℕ) → NoneAfter (Passes (is_byte 47) path) 0 (length path) k → Passes (is_byte 47) path k
    → k + 1 ≡ length path - suffix_len (λ b. not (b == 47)) path
last_slash path k last here =
    name_behind path (k + 1) (omega (arith, last.high)) last.after (λ above. ap (λ i. get_or path i 0) (omega arith) ∙ eqb-true _ _ here)

-- the first `_`, or the end
pub first_underscore : (name : List ℕ) (r : Option ℕ) → IsFirstByte (is_byte 95) name r → unwrap_or r (length name) ≡ position_or_len (λ b. b == 95) name
first_underscore name None none =
    sym (position_or_len_is (λ b. b == 95) name (length name) 0 (omega arith) (λ k below. false_from_ne_true _ (none k (omega arith) below)) (λ below. absurd (omega (arith, below))))
first_underscore name (Some i) first =
    sym (position_or_len_is (λ b. b == 95) name i 0 (omega (arith, first.0.high)) (λ k below. false_from_ne_true _ (first.0.before k (omega arith) below)) (λ below. first.1))
