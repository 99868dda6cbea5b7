-- The slashes at a place's end.
use Rattle.std.proofs.Common.{◌≡◌, ℕ, ◌==◌, ◌++◌, List, [], ◌∷◌, Bool, true, false, Option, Some, None, refl, sym, ap, ◌∙◌, arith}
use Rattle.std.specs.Option.{option_map}
use Rattle.std.proofs.lemmas.Bool.Decides.{nat_tests}
use Rattle.sync_driver.specs.Forms.{before, location}

-- one more byte behind a place
location-append_slash : (xs : List ℕ) → location (xs ++ 47 ∷ []) ≡ location xs
location-append_slash [] = refl
location-append_slash (x ∷ xs) = ap (before x) (location-append_slash xs)

-- a text that ends with no slash is a location
pub location_whole : (xs : List ℕ) → ((front : List ℕ) → xs ≡ front ++ 47 ∷ [] → ⊥) → location xs ≡ xs
location_whole [] none = refl
location_whole (x ∷ []) none = last (x == 47) refl
  where
    last : (b : Bool) → (x == 47) ≡ b → before x [] ≡ x ∷ []
    last false is = rw is refl
    last true is = let same : x ≡ 47 = grind (arith, nat_tests) in absurd (none [] (ap (λ (c : ℕ). c ∷ []) same))
location_whole (x ∷ y ∷ xs) none = ap (before x) (location_whole (y ∷ xs) (λ front is. none (x ∷ front) (ap (λ (l : List ℕ). x ∷ l) is)))

pub location_shorter : (place left shorter : List ℕ) → location place ≡ location left → left ≡ shorter ++ 47 ∷ [] → location place ≡ location shorter
location_shorter place left shorter so_far is = so_far ∙ ap location is ∙ location-append_slash shorter

-- a location ends with no slash
location_ends : (place front : List ℕ) → location place ≡ front ++ 47 ∷ [] → ⊥
location_ends [] [] is = cc is
location_ends [] (c ∷ front) is = cc is
location_ends (b ∷ bs) front is = behind b (location bs) (location_ends bs) (b == 47) refl front is
  where
    behind : (b : ℕ) (left : List ℕ) → ((front : List ℕ) → left ≡ front ++ 47 ∷ [] → ⊥) → (t : Bool) → (b == 47) ≡ t → (front : List ℕ) → before b left ≡ front ++ 47 ∷ [] → ⊥
    behind b [] none true slash [] is = let e : before b [] ≡ [] = rw slash refl in let no : [] ≡ 47 ∷ [] = sym e ∙ is in cc no
    behind b [] none true slash (c ∷ front) is = let e : before b [] ≡ [] = rw slash refl in let no : [] ≡ c ∷ (front ++ 47 ∷ []) = sym e ∙ is in cc no
    behind b [] none false slash [] is = let e : before b [] ≡ b ∷ [] = rw slash refl in let same : b ∷ [] ≡ 47 ∷ [] = sym e ∙ is in let byte : b ≡ 47 = cc same in let test : (b == 47) ≡ true = grind (arith, nat_tests) in cc (sym slash ∙ test)
    behind b [] none false slash (c ∷ []) is = let e : before b [] ≡ b ∷ [] = rw slash refl in let no : b ∷ [] ≡ c ∷ 47 ∷ [] = sym e ∙ is in cc no
    behind b [] none false slash (c ∷ d ∷ front) is = let e : before b [] ≡ b ∷ [] = rw slash refl in let no : b ∷ [] ≡ c ∷ d ∷ (front ++ 47 ∷ []) = sym e ∙ is in cc no
    behind b (x ∷ xs) none t slash [] is = cc is
    behind b (x ∷ xs) none t slash (c ∷ front) is = none front (let same : b ∷ x ∷ xs ≡ c ∷ (front ++ 47 ∷ []) = is in cc same)

pub place_ends : (word : Option (List ℕ)) (place : List ℕ) → option_map location word ≡ Some place → (front : List ℕ) → place ≡ front ++ 47 ∷ [] → ⊥
place_ends None place named front is = cc named
place_ends (Some word) place named front is = let same : location word ≡ place = cc named in location_ends word front (same ∙ is)
