-- The versions that names name, gathered name by name.
use Rattle.std.proofs.Common.{◌≡◌, ◌⊎◌, ℕ, ◌+◌, ◌<◌, ◌≤◌, List, [], ◌∷◌, ◌++◌, length, get_or, All, Contains, sym, ap, subst, ◌∙◌, arith, ⊎_elim}
use Rattle.std.proofs.lemmas.List.{get_or_default}
use Rattle.std.proofs.lemmas.List.Elements.{All-nil, All-push, Contains-append_left, Contains-get_or, Contains-push, Contains-push_cases}
use Rattle.lake_basics.specs.declared.limits.TheConstants.{MAX_DELTA_VERSION}
use Rattle.lake_basics.proofs.Numbers.{less_or_at}
use Rattle.delta_log.specs.VersionName.{IsVersionName}
use Rattle.delta_table.specs.Versions.{IsNamed}
use Rattle.delta_table.proofs.PathLaws.{one_version}

-- the versions that the first i names name
pub record AreGathered (names : List (List ℕ)) (i : ℕ) (versions : List ℕ) : Type 0 where
  pub named : (w : ℕ) → Contains versions w → IsNamed names w
  pub all : (w j : ℕ) → j < i → IsVersionName (get_or names j []) w → Contains versions w
  pub within : All (λ w. w ≤ MAX_DELTA_VERSION) versions

none_in : (w : ℕ) → Contains [] w → ⊥
none_in w there = let within = there.1 in omega (arith, within)

pub gather_begins : (names : List (List ℕ)) (versions : List ℕ) → versions ≡ [] → AreGathered names 0 versions
gather_begins names versions e = subst (AreGathered names 0) (sym e) (record {
  named = λ w there. absurd (none_in w there);
  all = λ w j before _. absurd (omega (arith, before));
  within = All-nil (λ w. w ≤ MAX_DELTA_VERSION);
})

module _ (names : List (List ℕ)) (i : ℕ) (versions : List ℕ) (was : AreGathered names i versions) (name : List ℕ) (here : i < length names) (is : get_or names i [] ≡ name) where
  pub gather_more : (w : ℕ) → IsVersionName name w → AreGathered names (i + 1) (versions ++ w ∷ [])
  gather_more w of = record {
    named = λ v there. ⊎_elim (was.named v) (λ same. (name, subst (Contains names) is (Contains-get_or names i [] here), subst (IsVersionName name) same of)) (Contains-push_cases versions w v there);
    all = λ v j before named. ⊎_elim (λ earlier. Contains-append_left versions (w ∷ []) v (was.all v j earlier named)) (λ same. let v_of = subst (λ n. IsVersionName n v) (ap (λ k. get_or names k []) same ∙ is) named in subst (Contains (versions ++ w ∷ [])) (one_version name w v of v_of) (Contains-push versions w)) (less_or_at j i before);
    within = All-push (λ v. v ≤ MAX_DELTA_VERSION) versions w was.within of.within;
  }

  pub gather_none : ((w : ℕ) → IsVersionName name w → ⊥) → AreGathered names (i + 1) versions
  gather_none none = record {
    named = was.named;
    all = λ v j before named. ⊎_elim (λ earlier. was.all v j earlier named) (λ same. absurd (none v (subst (λ n. IsVersionName n v) (ap (λ k. get_or names k []) same ∙ is) named))) (less_or_at j i before);
    within = was.within;
  }

pub gather_ends : (names : List (List ℕ)) (i : ℕ) (versions : List ℕ) → length names ≤ i → AreGathered names i versions → (w : ℕ) → IsNamed names w → Contains versions w
gather_ends names i versions past was w named =
    let there = named.1 in
    let within = there.1 in
    let same : get_or names there.0 [] ≡ named.0 = get_or_default names there.0 [] named.0 within ∙ there.2 in
    was.all w there.0 (omega (arith, within, past)) (subst (λ n. IsVersionName n w) (sym same) named.2)
