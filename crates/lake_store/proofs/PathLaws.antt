-- Which folder a path lies in. For the crates above too.
use Rattle.std.proofs.Common.{◌≡◌, ◌≢◌, ◌⊎◌, inl, inr, ℕ, ◌==◌, true, List, [], ◌∷◌, ◌++◌, refl, sym, ◌∙◌, ap, append_assoc, arith, if◌then◌else◌}
use Rattle.std.proofs.lemmas.Bool.Decides.{nat_tests}
use Rattle.std.specs.Prelude.{Option, None, Some}
use Rattle.lake_store.specs.Disk.{behind, front_of}
use Rattle.lake_store.specs.Runs.{IsIn, IsOutside}
use Rattle.lake_store.proofs.NameLaws.{behind_front, behind_splits}

-- what a folder's paths begin with
abbrev pub slashed : List ℕ → List ℕ
slashed folder = folder ++ 47 ∷ []

joined : (folder rest : List ℕ) → folder ++ 47 ∷ rest ≡ slashed folder ++ rest
joined folder rest = sym (append_assoc folder (47 ∷ []) rest)

pub in_or_out : (folder path : List ℕ) → IsIn folder path ⊎ IsOutside folder path
in_or_out folder path =
    elim (behind (slashed folder) path) as (λ o. behind (slashed folder) path ≡ o → IsIn folder path ⊎ IsOutside folder path) [
      | Some rest ↦ λ is. inl (rest, behind_splits (slashed folder) path rest is ∙ sym (joined folder rest))
      | None ↦ λ is. inr (λ within.
          let both : Some within.0 ≡ None = sym (behind_front (slashed folder) within.0) ∙ ap (behind (slashed folder)) (sym (joined folder within.0) ∙ sym within.1) ∙ is in absurd (cc both))
    ] refl

-- the path of a name in a folder lies in it
pub in_folder : (folder name : List ℕ) → folder ≢ [] → IsIn folder (front_of folder ++ name)
in_folder [] name some = absurd (some refl)
in_folder (c ∷ folder) name some = (name, append_assoc (c ∷ folder) (47 ∷ []) name)

-- what lies in a folder of a folder lies in the latter
pub in_outer : (folder inner path : List ℕ) → IsIn (folder ++ 47 ∷ inner) path → IsIn folder path
in_outer folder inner path within = (inner ++ 47 ∷ within.0, within.1 ∙ append_assoc folder (47 ∷ inner) (47 ∷ within.0))

tested : (c d : ℕ) (o : Option (List ℕ)) → c ≡ d → (if c == d then o else None) ≡ o
tested c d o same = ap (λ e. if c == e then o else None) (sym same) ∙ ap (λ b. if b then o else None) (same_number c)
  where
    same_number : (n : ℕ) → (n == n) ≡ true
    same_number n = grind (arith, nat_tests)

split : (p q x y : List ℕ) → p ++ x ≡ q ++ y → behind p q ≡ None → behind q p ≡ None → ⊥
split [] q x y same no_p no_q = cc
split (c ∷ p) [] x y same no_p no_q = cc
split (c ∷ p) (d ∷ q) x y same no_p no_q =
    let first : c ≡ d = cc same in
    let rest : p ++ x ≡ q ++ y = cc same in
    split p q x y rest (sym (tested c d (behind p q) first) ∙ no_p) (sym (tested d c (behind q p) (sym first)) ∙ no_q)

-- Two folders share no path where neither lies in the other. At two given folders both premises compute.
pub folders_apart : (a b path : List ℕ) → behind (slashed a) (slashed b) ≡ None → behind (slashed b) (slashed a) ≡ None → IsIn a path → IsIn b path → ⊥
folders_apart a b path no_a no_b in_a in_b =
    split (slashed a) (slashed b) in_a.0 in_b.0 (sym (joined a in_a.0) ∙ sym in_a.1 ∙ in_b.1 ∙ joined b in_b.0) no_a no_b
