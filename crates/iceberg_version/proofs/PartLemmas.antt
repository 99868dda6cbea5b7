-- A list that is cut into parts, one part more.
use Rattle.std.proofs.Common.{◌≡◌, ◌≢◌, ◌+◌, ◌-◌, ◌<◌, ◌≤◌, ℕ, zero, suc, min, List, [], ◌∷◌, ◌++◌, take, drop, length, sym, ap, subst, ◌∙◌, arith}
use Rattle.std.proofs.lemmas.List.{append-nil, append_assoc, drop-drop, drop_all, length-drop, length-take, take_min}
use Rattle.lake_basics.specs.declared.limits.TheConstants.{MAX_MANIFEST_ENTRIES}
use Rattle.iceberg_version.specs.Manifests.{AreParts}

-- Whatever parts the rest is cut into, they come behind these.
pub record IsCutUpTo {A : Type 0} (xs : List A) (start : ℕ) (parts : List (List A)) : Type 0 where
  pub within : start ≤ length xs
  pub all : (rest : List (List A)) → AreParts MAX_MANIFEST_ENTRIES (drop start xs) rest → AreParts MAX_MANIFEST_ENTRIES xs (parts ++ rest)

pub uncut : {A : Type 0} (xs : List A) (parts : List (List A)) → parts ≡ [] → IsCutUpTo xs 0 parts
uncut {A} xs parts none = subst (λ (ps : List (List A)). IsCutUpTo xs 0 ps) (sym none) (record { within = omega arith; all = λ rest are. are })

drop_min : {A : Type 0} (n : ℕ) (xs : List A) → drop (min n (length xs)) xs ≡ drop n xs
drop_min zero xs = ap (λ k. drop k xs) (let e : min 0 (length xs) ≡ 0 = omega arith in e)
drop_min (suc n) [] = drop_all (min (suc n) 0) [] (omega arith)
drop_min (suc n) (x ∷ xs) = ap (λ k. drop k (x ∷ xs)) (let e : min (suc n) (suc (length xs)) ≡ suc (min n (length xs)) = omega arith in e) ∙ drop_min n xs

pub cut_more : {A : Type 0} (xs : List A) (start : ℕ) (parts after : List (List A)) (part : List A) → start < length xs → part ≡ take MAX_MANIFEST_ENTRIES (drop start xs) → after ≡ parts ++ part ∷ [] → IsCutUpTo xs start parts → IsCutUpTo xs (start + length part) after
cut_more {A} xs start parts after part more part_is pushes before =
    let ys = drop start xs in
    let len : length ys ≡ length xs - start = length-drop start xs in
    let here : length part ≡ min MAX_MANIFEST_ENTRIES (length ys) = ap length part_is ∙ length-take MAX_MANIFEST_ENTRIES ys in
    let some : ys ≢ [] = λ none. let e = ap length none in absurd (omega arith) in
    let left : drop (start + length part) xs ≡ drop MAX_MANIFEST_ENTRIES ys = sym (drop-drop (length part) start xs) ∙ ap (λ n. drop n ys) here ∙ drop_min MAX_MANIFEST_ENTRIES ys in
    let within : start + length part ≤ length xs = omega arith in
    record {
      within = within;
      all = λ rest are.
          let joined : after ++ rest ≡ parts ++ (part ∷ rest) = ap (λ (ps : List (List A)). ps ++ rest) pushes ∙ append_assoc parts (part ∷ []) rest in
          subst (λ (ps : List (List A)). AreParts MAX_MANIFEST_ENTRIES xs ps) (sym joined) (before.all (part ∷ rest) (some, part_is, subst (λ (zs : List A). AreParts MAX_MANIFEST_ENTRIES zs rest) left are));
    }

pub all_cut : {A : Type 0} (xs : List A) (start : ℕ) (parts : List (List A)) → length xs ≤ start → IsCutUpTo xs start parts → AreParts MAX_MANIFEST_ENTRIES xs parts
all_cut {A} xs start parts past before = subst (λ (ps : List (List A)). AreParts MAX_MANIFEST_ENTRIES xs ps) (append-nil parts) (before.all [] (drop_all start xs past))

pub part_is : {A : Type 0} (xs : List A) (start size : ℕ) (part : List A) → start ≤ length xs → size ≡ min (length xs - start) MAX_MANIFEST_ENTRIES → part ≡ take size (drop start xs) → part ≡ take MAX_MANIFEST_ENTRIES (drop start xs)
part_is xs start size part within size_is is =
    let len : length (drop start xs) ≡ length xs - start = length-drop start xs in
    let here : size ≡ min MAX_MANIFEST_ENTRIES (length (drop start xs)) = omega arith in
    is ∙ ap (λ n. take n (drop start xs)) here ∙ take_min MAX_MANIFEST_ENTRIES (drop start xs)
