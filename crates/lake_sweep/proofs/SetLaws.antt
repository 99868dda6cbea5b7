-- Sets of texts, by the lists of their keys.
use Rattle.std.proofs.Common.{◌≡◌, ◌⊎◌, inl, inr, ⊎_elim, ℕ, ◌+◌, ◌<◌, Bool, true, false, cond, List, [], ◌∷◌, ◌++◌, length, take, get_or, Contains, sym, ap, subst, ◌∙◌}
use Rattle.std.specs.Prelude.{◌↔◌}
use Rattle.std.specs.List.{IsDistinct, list_any}
use Rattle.std.specs.Str.{bytes_eq}
use Rattle.std.proofs.lemmas.Bool.{cases_Bool, false≢true, or_cases}
use Rattle.std.proofs.lemmas.Cmp.{nat_list_eq_equiv}
use Rattle.std.proofs.lemmas.List.{take_more}
use Rattle.std.proofs.lemmas.List.Elements.{Contains-append_left, Contains-push, Contains-push_cases}
use Rattle.std.proofs.lemmas.Map.Keys.{IsDistinct-push}
use Rattle.std.proofs.lemmas.Slice.Eq.{bytes_eq-Decides}
use Rattle.table_history.proofs.RowListLemmas.{Contains-head, Contains-none, Contains-tail}
use Rattle.iceberg_table.specs.declared.list.ManifestFile.{ManifestFile}
use Rattle.lake_sweep.specs.Reading.{IsNamedIn}
use Rattle.lake_basics.proofs.Texts.{any_there}

pub in_keys : (keys : List (List ℕ)) (q : List ℕ) → list_any (bytes_eq q) keys ≡ true → Contains keys q
in_keys [] q h = absurd (false≢true h)
in_keys (x ∷ keys) q h = ⊎_elim
    (λ here. subst (λ (p : List ℕ). Contains (x ∷ keys) p) (sym ((bytes_eq-Decides q x).0 here)) (Contains-head x keys))
    (λ later. Contains-tail x keys q (in_keys keys q later))
    (or_cases (bytes_eq q x) (list_any (bytes_eq q) keys) h)

pub key_test : (keys : List (List ℕ)) (q : List ℕ) (test : Bool) → test ≡ list_any (bytes_eq q) keys → (test ≡ true) ↔ Contains keys q
key_test keys q test is = (λ yes. in_keys keys q (sym is ∙ yes), λ within. is ∙ any_there keys q within)

-- the keys with this one, at the end if it is new
abbrev pub IsPut : List (List ℕ) → List ℕ → List (List ℕ) → Type 0
IsPut keys path after = after ≡ cond (list_any (bytes_eq path) keys) keys (keys ++ path ∷ [])

module _ (keys : List (List ℕ)) (path : List ℕ) (after : List (List ℕ)) (put : IsPut keys path after) where
  by_case : ((list_any (bytes_eq path) keys ≡ true) × (after ≡ keys)) ⊎ ((list_any (bytes_eq path) keys ≡ false) × (after ≡ keys ++ path ∷ []))
  by_case = ⊎_elim
      (λ yes. inl (yes, put ∙ ap (λ (b : Bool). cond b keys (keys ++ path ∷ [])) yes))
      (λ no. inr (no, put ∙ ap (λ (b : Bool). cond b keys (keys ++ path ∷ [])) no))
      (cases_Bool (list_any (bytes_eq path) keys))

  pub put_members : (q : List ℕ) → Contains after q ↔ (Contains keys q ⊎ (q ≡ path))
  put_members q = ⊎_elim
      (λ (old : (list_any (bytes_eq path) keys ≡ true) × (after ≡ keys)). (
        λ within. inl (subst (λ (l : List (List ℕ)). Contains l q) old.1 within),
        λ there. subst (λ (l : List (List ℕ)). Contains l q) (sym old.1) (⊎_elim (λ h. h) (λ (same : q ≡ path). subst (λ (p : List ℕ). Contains keys p) (sym same) (in_keys keys path old.0)) there),
      ))
      (λ (new : (list_any (bytes_eq path) keys ≡ false) × (after ≡ keys ++ path ∷ [])). (
        λ within. ⊎_elim inl (λ (same : path ≡ q). inr (sym same)) (Contains-push_cases keys path q (subst (λ (l : List (List ℕ)). Contains l q) new.1 within)),
        λ there. subst (λ (l : List (List ℕ)). Contains l q) (sym new.1)
            (⊎_elim (λ h. Contains-append_left keys (path ∷ []) q h) (λ (same : q ≡ path). subst (λ (p : List ℕ). Contains (keys ++ path ∷ []) p) (sym same) (Contains-push keys path)) there),
      ))
      by_case

  pub put_distinct : IsDistinct bytes_eq keys → IsDistinct bytes_eq after
  put_distinct distinct = ⊎_elim
      (λ (old : (list_any (bytes_eq path) keys ≡ true) × (after ≡ keys)). subst (λ (l : List (List ℕ)). IsDistinct bytes_eq l) (sym old.1) distinct)
      (λ (new : (list_any (bytes_eq path) keys ≡ false) × (after ≡ keys ++ path ∷ [])). subst (λ (l : List (List ℕ)). IsDistinct bytes_eq l) (sym new.1) (IsDistinct-push nat_list_eq_equiv keys path distinct new.0))
      by_case

-- ---- the paths of manifests

pub none_put : (before : List (List ℕ)) (q : List ℕ) → Contains before q ↔ (Contains before q ⊎ IsNamedIn [] q)
none_put before q = (λ within. inl within, λ h. ⊎_elim (λ was. was) (λ (named : IsNamedIn [] q). absurd (Contains-none named.0 named.1)) h)

module _ (before middle after : List (List ℕ)) (manifests : List ManifestFile) (i : ℕ) (file : ManifestFile) (lt : i < length manifests) (is : file ≡ get_or manifests i file) where
  longer : take (i + 1) manifests ≡ take i manifests ++ file ∷ []
  longer = take_more manifests i file lt ∙ ap (λ (f : ManifestFile). take i manifests ++ f ∷ []) (sym is)

  pub manifest_put : ((q : List ℕ) → Contains middle q ↔ (Contains before q ⊎ IsNamedIn (take i manifests) q)) → ((q : List ℕ) → Contains after q ↔ (Contains middle q ⊎ (q ≡ file.path)))
      → (q : List ℕ) → Contains after q ↔ (Contains before q ⊎ IsNamedIn (take (i + 1) manifests) q)
  manifest_put so_far here q = subst (λ (l : List ManifestFile). Contains after q ↔ (Contains before q ⊎ IsNamedIn l q)) (sym longer) (
    λ within. ⊎_elim
        (λ earlier. ⊎_elim inl (λ (h : IsNamedIn (take i manifests) q). inr (h.0, Contains-append_left (take i manifests) (file ∷ []) h.0 h.1, h.2)) ((so_far q).0 earlier))
        (λ (same : q ≡ file.path). inr (file, Contains-push (take i manifests) file, same))
        ((here q).0 within),
    λ there. ⊎_elim
        (λ old. (here q).1 (inl ((so_far q).1 (inl old))))
        (λ (h : IsNamedIn (take i manifests ++ file ∷ []) q). ⊎_elim
        (λ earlier. (here q).1 (inl ((so_far q).1 (inr (h.0, earlier, h.2)))))
        (λ (same : file ≡ h.0). (here q).1 (inr (h.2 ∙ ap (λ (f : ManifestFile). f.path) (sym same))))
        (Contains-push_cases (take i manifests) file h.0 h.1))
        there,
  )
