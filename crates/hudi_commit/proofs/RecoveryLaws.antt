-- What recovery leaves, and that a listed folder shows each claim.
use Rattle.std.proofs.Common.{◌≡◌, inl, inr, ⊎_elim, ℕ, ℤ, ◌+◌, ◌<◌, Bool, true, false, not, ◌||◌, List, length, take, get_or, refl, sym, ◌∙◌, ap, subst}
use Rattle.std.specs.Prelude.{Option, None, Some, is_some, MatchOption, Result, OnOk}
use Rattle.std.specs.List.{list_any}
use Rattle.std.specs.FinMap as map
use Rattle.std.proofs.lemmas.Bool.{and_from}
use Rattle.std.proofs.lemmas.Result.{on_ok_weaker}
use Rattle.std.proofs.lemmas.List.Folds.{list_any_more}
use Rattle.std.proofs.Math.Seq.{take-length}
use Rattle.lake_store.specs.Disk.{Disk, Files, is_name, names_in, removed}
use Rattle.lake_store.proofs.DiskLaws.{get-remove_here, get-remove_other, is_path, path_cases, path_other}
use Rattle.lake_store.proofs.FolderLaws.{any-names_in}
use Rattle.hudi_names.specs.Time.{IsDigits, IsSomeTime, IsTime}
use Rattle.hudi_commit.specs.Names.{IsOf, IsOpenLeftover, IsThere, Requested, Inflight, claim_path, claims_folder, completed_path, pending_path}
use Rattle.hudi_commit.specs.Runs.{IsNoLeftover, IsRecovered, IsRecoveredAt, IsTidied, cleared}
use Rattle.hudi_commit.proofs.NameLaws.{completed_stays, instant_is_name}
use Rattle.hudi_commit.proofs.OpenLaws.{open_leftover, stays_then}
use Rattle.hudi_commit.proofs.OrderlyLaws.{there, there_none}
use Rattle.hudi_commit.proofs.StepLaws.{removed_absent, removed_clean}

pub tidied_refl : (d : Disk) → IsTidied d d
tidied_refl d = record { files = λ q. inl refl; clean = λ q x. x }

pub tidied_same : (d e : Disk) → e ≡ d → IsTidied d e
tidied_same d e same = subst (IsTidied d) (sym same) (tidied_refl d)

module _ (old new : Disk) (tidied : IsTidied old new) where
  pub tidied_fewer : (q : List ℕ) → IsThere new.files q → IsThere old.files q
  tidied_fewer q found = ⊎_elim
      (λ same. there new.files old.files q (sym same) found)
      (λ (gone : IsOpenLeftover old.files q × (map.get new.files q ≡ None)). there_none new.files q found gone.1)
      (tidied.files q)

  pub tidied_others : (q : List ℕ) → IsNoLeftover q → map.get new.files q ≡ map.get old.files q
  tidied_others q free = ⊎_elim (λ same. same)
      (λ (gone : IsOpenLeftover old.files q × (map.get new.files q ≡ None)). absurd (free (open_leftover old.files q gone.0)))
      (tidied.files q)

  pub tidied_completed : (t : List ℕ) → IsDigits t → map.get new.files (completed_path t) ≡ map.get old.files (completed_path t)
  tidied_completed t is = tidied_others (completed_path t) (completed_stays t is)

pub tidied_then : (a b c : Disk) → IsTidied a b → IsTidied b c → IsTidied a c
tidied_then a b c one two = record {
  files = λ q. stays_then a.files q b.files (tidied_completed a b one) c.files (one.files q) (two.files q);
  clean = λ q x. two.clean q (one.clean q x);
}

-- an open leftover is removed
removed_tidied : (d : Disk) (p : List ℕ) → IsOpenLeftover d.files p → IsTidied d (removed d p)
removed_tidied d p open_ = record {
  files = λ q. ⊎_elim
      (λ (here : q ≡ p). inr (subst (IsOpenLeftover d.files) (sym here) open_, ap (map.get (removed d p).files) here ∙ get-remove_here d.files p))
      (λ elsewhere. inl (get-remove_other d.files p q elsewhere))
      (path_cases q p);
  clean = removed_clean d p;
}

pub cleared_tidied : (t : List ℕ) → IsSomeTime t → (d : Disk) → map.get d.files (completed_path t) ≡ None → IsTidied d (cleared t d)
cleared_tidied t is d none =
    let one = removed d (pending_path Inflight t) in
    let two = removed one (pending_path Requested t) in
    let none₁ = removed_absent d (pending_path Inflight t) (completed_path t) none in
    let none₂ = removed_absent one (pending_path Requested t) (completed_path t) none₁ in
    tidied_then d one (cleared t d) (removed_tidied d (pending_path Inflight t) (open_of d none (inr (Inflight, refl))))
    (tidied_then one two (cleared t d) (removed_tidied one (pending_path Requested t) (open_of one none₁ (inr (Requested, refl))))
    (removed_tidied two (claim_path t) (open_of two none₂ (inl refl))))
  where
    open_of : (e : Disk) → map.get e.files (completed_path t) ≡ None → {q : List ℕ} → IsOf t q → IsOpenLeftover e.files q
    open_of e none of = inr (t, is, (λ found. there_none e.files (completed_path t) found none), of)

pub cleared_recovered : (t : List ℕ) (d : Disk) → IsRecoveredAt (cleared t d) t
cleared_recovered t d is found = there_none (cleared t d).files (claim_path t) found
    (get-remove_here (removed (removed d (pending_path Inflight t)) (pending_path Requested t)).files (claim_path t))

-- what a call on one claim leaves, for an open result
module _ {T E : Type 0} (r : Result T E) (t name : List ℕ) (named : t ≡ name) (d₀ d e : Disk) (same : d ≡ d₀) (ok : OnOk r (e ≡ cleared t d)) where
  cleared_here : OnOk r (e ≡ cleared name d₀)
  cleared_here = subst (λ x. OnOk r (e ≡ cleared name x)) same (subst (λ x. OnOk r (e ≡ cleared x d)) named ok)

  pub clearing_tidies : IsSomeTime name → map.get d₀.files (completed_path name) ≡ None → OnOk r (IsTidied d₀ e)
  clearing_tidies is none = on_ok_weaker r (λ is_e. subst (IsTidied d₀) (sym is_e) (cleared_tidied name is d₀ none)) cleared_here

  pub clearing_recovers : OnOk r (IsRecoveredAt e name)
  clearing_recovers = on_ok_weaker r (λ is_e. subst (λ x. IsRecoveredAt x name) (sym is_e) (cleared_recovered name d₀)) cleared_here

-- a claim stays recovered
pub still_recovered : (old new : Disk) (name : List ℕ) → IsTidied old new → IsRecoveredAt old name → IsRecoveredAt new name
still_recovered old new name tidied was is found =
    there old.files new.files (completed_path name) (tidied_completed old new tidied name is.1.digits) (was is (tidied_fewer old new tidied (claim_path name) found))

pub recovered_more : (xs : List (List ℕ)) (i : ℕ) (d : List ℕ) (old new : Disk) → i < length xs → IsTidied old new
    → ((name : List ℕ) → list_any (is_path name) (take i xs) ≡ true → IsRecoveredAt old name)
    → IsRecoveredAt new (get_or xs i d)
    → (name : List ℕ) → list_any (is_path name) (take (i + 1) xs) ≡ true → IsRecoveredAt new name
recovered_more xs i d old new lt tidied before here name within =
    ⊎_elim
    (λ (same : name ≡ get_or xs i d). subst (IsRecoveredAt new) (sym same) here)
    (λ other. still_recovered old new name tidied (before name
    (or_first (list_any (is_path name) (take i xs)) (is_path name (get_or xs i d)) (path_other name (get_or xs i d) other) (sym (list_any_more (is_path name) xs i d lt) ∙ within))))
    (path_cases name (get_or xs i d))
  where
    or_first : (a b : Bool) → b ≡ false → (a || b) ≡ true → a ≡ true
    or_first true b is either = refl
    or_first false b is either = absurd (cc (sym either ∙ is))

pub claim_listed : (files : Files) (t : List ℕ) → IsDigits t → IsThere files (claim_path t) → list_any (is_path t) (names_in files claims_folder) ≡ true
claim_listed files t is found = any-names_in files claims_folder t ∙ and_from (is_name t) (map.contains_key files (claim_path t)) (instant_is_name t is) found

-- when each listed name is done
pub all_recovered : (first now : Disk) (xs : List (List ℕ)) → xs ≡ names_in first.files claims_folder → IsTidied first now
    → ((name : List ℕ) → list_any (is_path name) (take (length xs) xs) ≡ true → IsRecoveredAt now name) → IsRecovered now
all_recovered first now xs listed tidied done name is found =
    done name (ap (list_any (is_path name)) (take-length xs) ∙ ap (list_any (is_path name)) listed ∙ claim_listed first.files name is.1.digits (tidied_fewer first now tidied (claim_path name) found)) is found

-- a name is that of an instant where it is read as a time
module _ (bytes name : List ℕ) (at : bytes ≡ name) (none : Bool) where
  pub real_name : (r : Option ℤ) → MatchOption r ((ms : ℤ) → IsTime bytes ms → ⊥) (λ ms. IsTime bytes ms) → is_some r ≡ not none → none ≡ false → IsSomeTime name
  real_name (Some ms) h is f = (ms, subst (λ t. IsTime t ms) at h)
  real_name None h is f = absurd (cc (is ∙ ap not f))

  pub no_name : (r : Option ℤ) → MatchOption r ((ms : ℤ) → IsTime bytes ms → ⊥) (λ ms. IsTime bytes ms) → is_some r ≡ not none → none ≡ true → IsSomeTime name → ⊥
  no_name (Some ms) h is f time = absurd (cc (is ∙ ap not f))
  no_name None h is f time = h time.0 (subst (λ x. IsTime x time.0) (sym at) time.1)
