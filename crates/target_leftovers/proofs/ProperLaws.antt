-- What a commit writes under is a file's name: it isn't empty, and has no slash.
use Rattle.std.proofs.Common.{◌≡◌, ◌==◌, ℕ, Bool, false, List, [], ◌∷◌, ◌++◌, codes, length, Contains, refl, sym, ap, subst, ◌∙◌, arith}
use Rattle.std.specs.List.{list_any}
use Rattle.std.specs.Str.Parse.{AllDigits}
use Rattle.std.proofs.lemmas.Bool.{eqb-true, false_from_ne_true, or_from}
use Rattle.std.proofs.lemmas.List.Folds.{list_any-append, list_any_at}
use Rattle.std.proofs.lemmas.Str.Parse.{digit_at}
use Rattle.lake_store.specs.Disk.{IsName}
use Rattle.hudi_names.specs.Time.{IsDigits}
use Rattle.target_leftovers.specs.Names.{IsDeltaName, IsIcebergName}

abbrev is_slash : ℕ → Bool
is_slash b = b == 47

digits_free : (ds : List ℕ) → AllDigits 10 ds → list_any is_slash ds ≡ false
digits_free [] all = refl
digits_free (c ∷ ds) all =
    let first = digit_at (c ∷ ds) 0 all (omega arith) in
    or_from (is_slash c) (list_any is_slash ds) (false_from_ne_true (is_slash c) (λ same. let is = eqb-true c 47 same in absurd (omega (arith, first, is)))) (digits_free ds all.1)

joined_free : (xs ys : List ℕ) → list_any is_slash xs ≡ false → list_any is_slash ys ≡ false → list_any is_slash (xs ++ ys) ≡ false
joined_free xs ys p q = list_any-append is_slash xs ys ∙ or_from (list_any is_slash xs) (list_any is_slash ys) p q

no_slash : (xs : List ℕ) → list_any is_slash xs ≡ false → Contains xs 47 → ⊥
no_slash xs free within = absurd (cc (sym free ∙ list_any_at is_slash xs within.0 47 within.1 (ap (λ x. x == 47) within.2)))

proper : (c : ℕ) (name xs : List ℕ) → name ≡ c ∷ xs → list_any is_slash (c ∷ xs) ≡ false → IsName name
proper c name xs is free = (λ none. cc (sym is ∙ none), λ within. no_slash (c ∷ xs) free (subst (λ (l : List ℕ). Contains l 47) is within))

pub claim_is_proper : (name : List ℕ) → IsDigits name → IsName name
claim_is_proper name h = (λ none. let len = h.len in let no = ap length none in absurd (omega (arith, len, no)), λ within. no_slash name (digits_free name h.numeral.1) within)

pub delta_is_proper : (name : List ℕ) → IsDeltaName name → IsName name
delta_is_proper name h = proper 46 name _ h.split (joined_free (codes ".lakebridge-") (h.digits ++ codes ".json") refl (joined_free h.digits (codes ".json") (digits_free h.digits h.numeral.1) refl))

pub iceberg_is_proper : (name : List ℕ) → IsIcebergName name → IsName name
iceberg_is_proper name (IsIcebergName.staged version plain is) = proper 108 name _ is (joined_free (codes "lb-v-") (version ++ codes ".json") refl (joined_free version (codes ".json") (digits_free version plain.numeral.1) refl))
iceberg_is_proper name (IsIcebergName.list version plain is) = proper 108 name _ is (joined_free (codes "lb-s-") (version ++ codes ".avro") refl (joined_free version (codes ".avro") (digits_free version plain.numeral.1) refl))
iceberg_is_proper name (IsIcebergName.manifest version number first second is) =
    proper 108 name _ is
    (joined_free (codes "lb-m-") (version ++ (codes "-" ++ (number ++ codes ".avro"))) refl
    (joined_free version (codes "-" ++ (number ++ codes ".avro")) (digits_free version first.numeral.1)
    (joined_free (codes "-") (number ++ codes ".avro") refl (joined_free number (codes ".avro") (digits_free number second.numeral.1) refl))))
