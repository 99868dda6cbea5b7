-- The newest of the versions that names name, name by name.
use Rattle.std.proofs.Common.{◌≡◌, ◌⊎◌, ℕ, ◌+◌, ◌<◌, ◌≤◌, List, [], ◌++◌, length, get_or, Bool, true, false, Option, None, Some, refl, sym, ap, subst, ◌∙◌, arith, codes, inl, inr, ⊎_elim}
use Rattle.std.specs.Prelude.{MatchOption, nat_lt, if◌then◌else◌}
use Rattle.std.specs.Fmt.{decimal}
use Rattle.std.proofs.lemmas.Bool.Decides.{nat_tests}
use Rattle.std.proofs.lemmas.List.{get_or_default, append_cancel_left}
use Rattle.std.proofs.lemmas.List.Elements.{Contains-get_or}
use Rattle.iceberg_metadata.specs.VersionName.{IsVersionName}
use Rattle.iceberg_metadata.proofs.NameLemmas.{split_decimal}
use Rattle.iceberg_table.specs.Folder.{IsNamed, IsNewest, newer}
use Rattle.lake_basics.proofs.Numbers.{less_or_at}

-- one of the first i names is the version's
abbrev pub IsNamedBefore : List (List ℕ) → ℕ → ℕ → Type 0
IsNamedBefore names i version = (j : ℕ) × (j < i) × (i ≤ length names) × IsVersionName (get_or names j []) version

abbrev pub IsNewestOf : (ℕ → Type 0) → Option ℕ → Type 0
IsNewestOf Held newest = MatchOption newest ((v : ℕ) → Held v → ⊥) (IsNewest Held)

-- a name is one version's
pub one_version : (name : List ℕ) (v w : ℕ) → IsVersionName name v → IsVersionName name w → v ≡ w
one_version name v w nv nw =
    let small_v = nv.within in
    let small_w = nw.within in
    split_decimal (decimal v ++ codes ".metadata.json") (decimal v) (codes ".metadata.json") v w refl refl (omega (arith, small_v)) (omega (arith, small_w)) (append_cancel_left (codes "v") (decimal v ++ codes ".metadata.json") (decimal w ++ codes ".metadata.json") (sym nv.spelled ∙ nw.spelled))

-- the same versions have the same newest
pub newest_alike : (P Q : ℕ → Type 0) (newest : Option ℕ) → ((v : ℕ) → P v → Q v) → ((v : ℕ) → Q v → P v) → IsNewestOf P newest → IsNewestOf Q newest
newest_alike P Q None to from none = λ v held. none v (from v held)
newest_alike P Q (Some n) to from is = record { there = to n is.there; last = λ other held. is.last other (from other held) }

pub seen_begins : (names : List (List ℕ)) → IsNewestOf (IsNamedBefore names 0) None
seen_begins names = λ v held. let before = held.1 in absurd (omega (arith, before))

module _ (names : List (List ℕ)) (i : ℕ) (here : i < length names) (name : List ℕ) (is : get_or names i [] ≡ name) where
  earlier : (v : ℕ) → IsNamedBefore names i v → IsNamedBefore names (i + 1) v
  earlier v held = let before = held.1 in (held.0, omega (arith, before), omega (arith, here), held.3)

  at_name : (v : ℕ) → IsVersionName name v → IsNamedBefore names (i + 1) v
  at_name v of = (i, omega arith, omega (arith, here), subst (λ n. IsVersionName n v) (sym is) of)

  split : (v : ℕ) → IsNamedBefore names (i + 1) v → IsNamedBefore names i v ⊎ IsVersionName name v
  split v held =
      ⊎_elim
      (λ before. inl (held.0, before, omega (arith, here), held.3))
      (λ same. inr (subst (λ n. IsVersionName n v) (ap (λ k. get_or names k []) same ∙ is) held.3))
      (less_or_at held.0 i held.1)

  two : (n f : ℕ) (b : Bool) → nat_lt n f ≡ b → IsNewest (IsNamedBefore names i) n → IsVersionName name f → IsNewestOf (IsNamedBefore names (i + 1)) (Some (if b then f else n))
  two n f true less was of =
      let up : n < f = grind (arith, nat_tests) in
      record { there = at_name f of; last = λ other held. ⊎_elim (λ before. let low = was.last other before in omega (arith, low, up)) (λ here. let same = one_version name other f here of in omega (arith, same)) (split other held) }
  two n f false less was of =
      let up : f ≤ n = grind (arith, nat_tests) in
      record { there = earlier n was.there; last = λ other held. ⊎_elim (λ before. was.last other before) (λ here. let same = one_version name other f here of in omega (arith, same, up)) (split other held) }

  pub seen_more : (newest found : Option ℕ) → IsNewestOf (IsNamedBefore names i) newest → MatchOption found ((v : ℕ) → IsVersionName name v → ⊥) (IsVersionName name) → IsNewestOf (IsNamedBefore names (i + 1)) (newer newest found)
  seen_more None None was of = λ v held. ⊎_elim (λ before. was v before) (λ here. of v here) (split v held)
  seen_more None (Some f) was of = record { there = at_name f of; last = λ other held. ⊎_elim (λ before. absurd (was other before)) (λ here. let same = one_version name other f here of in omega (arith, same)) (split other held) }
  seen_more (Some n) None was of = record { there = earlier n was.there; last = λ other held. ⊎_elim (λ before. was.last other before) (λ here. absurd (of other here)) (split other held) }
  seen_more (Some n) (Some f) was of = two n f (nat_lt n f) refl was of

pub seen_all : (names : List (List ℕ)) (i : ℕ) (newest : Option ℕ) → length names ≤ i → i ≤ length names → IsNewestOf (IsNamedBefore names i) newest → IsNewestOf (IsNamed names) newest
seen_all names i newest past within seen =
    newest_alike (IsNamedBefore names i) (IsNamed names) newest
    (λ v held. let before = held.1 in (get_or names held.0 [], Contains-get_or names held.0 [] (omega (arith, before, within)), held.3))
    (λ v named. let there = named.1 in let low = there.1 in (there.0, omega (arith, low, past), within, subst (λ n. IsVersionName n v) (sym (get_or_default names there.0 [] named.0 low ∙ there.2)) named.2))
    seen
