-- Texts without the spaces round them.
use Rattle.std.proofs.Common.{◌≡◌, ℕ, ◌+◌, ◌-◌, ◌<◌, ◌≤◌, List, [], ◌∷◌, ◌++◌, length, get_or, take, map, true, Bor, sym, ap, subst, ◌∙◌, arith}
use Rattle.std.specs.Prelude.{filter}
use Rattle.std.proofs.lemmas.List.{take_more, map-append}
use Rattle.std.proofs.lemmas.List.Elements.{filter-append}
use Rattle.std.specs.List.{prefix_len}
use Rattle.std.specs.Str.{IsUtf8, IsCharBoundary}
use Rattle.std.proofs.lemmas.Bool.Decides.{nat_tests}
use Rattle.std.proofs.lemmas.List.Sums.{prefix_len-le-length, prefix_len_passes}
use Rattle.std.proofs.lemmas.Str.{IsCharBoundary-after_ascii}
use Rattle.hudi_properties.specs.TableProperties.{is_space, is_name, without_spaces}

space_small : (b : ℕ) → is_space b ≡ true → b < 128
space_small b is = grind (arith, nat_tests)

-- a character begins behind the spaces at the front
pub after_spaces : (text : List ℕ) (n : ℕ) → IsUtf8 text → n ≡ prefix_len is_space text → 0 < n → IsCharBoundary text n
after_spaces text n utf8 is some =
    let within : n ≤ length text = omega (arith, prefix_len-le-length is_space text) in
    let before : n - 1 < prefix_len is_space text = omega arith in
    let small : get_or text (n - 1) 0 < 128 = space_small _ (prefix_len_passes is_space text (n - 1) 0 before) in
    let inside : n - 1 < length text = omega arith in
    let same : n - 1 + 1 ≡ n = omega arith in
    subst (λ (k : ℕ). IsCharBoundary text k) same (IsCharBoundary-after_ascii text (n - 1) utf8 inside small)

-- the names in these parts of a text
abbrev pub names_of_parts : List (Bor (List ℕ)) → List (List ℕ)
names_of_parts parts = filter is_name (map without_spaces (map (λ s. s.now) parts))

one_more : (parts : List (Bor (List ℕ))) (i : ℕ) (part : Bor (List ℕ)) → i < length parts → part ≡ get_or parts i part → take (i + 1) parts ≡ take i parts ++ part ∷ []
one_more parts i part within is = take_more parts i part within ∙ ap (λ p. take i parts ++ p ∷ []) (sym is)

pushed : (parts : List (Bor (List ℕ))) (part : Bor (List ℕ)) → names_of_parts (parts ++ part ∷ []) ≡ names_of_parts parts ++ filter is_name (without_spaces part.now ∷ [])
pushed parts part =
    ap (λ ts. filter is_name (map without_spaces ts)) (map-append (λ (s : Bor (List ℕ)). s.now) parts (part ∷ []))
    ∙ ap (filter is_name) (map-append without_spaces (map (λ (s : Bor (List ℕ)). s.now) parts) (part.now ∷ []))
    ∙ filter-append is_name (map without_spaces (map (λ (s : Bor (List ℕ)). s.now) parts)) (without_spaces part.now ∷ [])

pub names_more : (parts : List (Bor (List ℕ))) (i : ℕ) (part : Bor (List ℕ)) (old new : List (List ℕ)) → i < length parts → part ≡ get_or parts i part → old ≡ names_of_parts (take i parts)
    → new ≡ old ++ filter is_name (without_spaces part.now ∷ []) → new ≡ names_of_parts (take (i + 1) parts)
names_more parts i part old new within is so_far more =
    more ∙ ap (λ o. o ++ filter is_name (without_spaces part.now ∷ [])) so_far ∙ sym (pushed (take i parts) part) ∙ ap names_of_parts (sym (one_more parts i part within is))
