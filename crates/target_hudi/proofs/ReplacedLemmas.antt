-- The paths that are lost, and their file groups.
use Rattle.std.proofs.Common.{◌≡◌, ⊎_elim, ℕ, suc, zero, ◌-◌, ◌<◌, ◌≤◌, ◌==◌, not, cond, Bool, true, false, List, [], ◌∷◌, length, get_or, take, drop, filter, map, Contains, refl, sym, ap, subst, ◌∙◌, arith}
use Rattle.std.specs.Prelude.{◌↔◌, IfOk, reverse, Result, Ok, Err}
use Rattle.std.specs.List.{slice_split, suffix_len}
use Rattle.std.proofs.lemmas.Bool.{cases_Bool, eqb-true, false≢true}
use Rattle.std.proofs.lemmas.List.{get_or-reverse, length-reverse}
use Rattle.std.proofs.lemmas.List.Elements.{All-head}
use Rattle.std.proofs.lemmas.List.Sums.{prefix_len_stops, suffix_len-le-length}
use Rattle.table_history.specs.Path.{IsPath, IsSegment, is_slash}
use Rattle.table_history.specs.Row.{Row}
use Rattle.table_history.specs.Rows.{HasPath}
use Rattle.table_history.proofs.RowListLemmas.{Contains-cases, Contains-filter, Contains-head, Contains-none, Contains-tail, filter_contains}
use Rattle.hudi_groups.specs.Group.{file_name_of, folder_of, joined}
use Rattle.hudi_groups.proofs.GroupLemmas.{joined_whole}
use Rattle.table_history.specs.declared.table.Change.{Change}
use Rattle.target_core.specs.Changes.{IsGone}
use Rattle.target_core.proofs.RowPaths.{is_lost, lost_none, none_lost}
use Rattle.target_hudi.specs.Writing.{LeavesAdded, LosesRemoved, replaced_of}

-- ---- the paths that are lost

pub lost_are : (rows : List Row) (removed lost : List (List ℕ)) → lost ≡ filter (is_lost rows) removed → (path : List ℕ) → Contains lost path ↔ (Contains removed path × (HasPath rows path → ⊥))
lost_are rows removed lost is path = (
  λ h. let both = Contains-filter (is_lost rows) removed path (subst (λ (l : List (List ℕ)). Contains l path) is h) in (both.0, lost_none rows path both.1),
  λ h. subst (λ (l : List (List ℕ)). Contains l path) (sym is) (filter_contains (is_lost rows) removed path h.0 (none_lost rows path h.1)),
)

pub filter_few : (p : List ℕ → Bool) (xs : List (List ℕ)) → length (filter p xs) ≤ length xs
filter_few p [] = omega arith
filter_few p (x ∷ xs) =
    let rest = filter_few p xs in
    elim (p x) as (λ b. length (cond b (x ∷ filter p xs) (filter p xs)) ≤ length (x ∷ xs)) [
      | true ↦ omega (arith, rest)
      | false ↦ omega (arith, rest)
    ]

-- ---- a path is its folder and its name

abbrev plain : ℕ → Bool
plain b = not (b == 47)

slash_byte : (b : ℕ) → plain b ≡ false → b ≡ 47
slash_byte b is = ⊎_elim (λ same. eqb-true b 47 same) (λ apart. absurd (false≢true (sym is ∙ ap not apart))) (cases_Bool (b == 47))

slash_before : (path : List ℕ) → suffix_len plain path < length path → get_or path (length path - suffix_len plain path - 1) 0 ≡ 47
slash_before path less =
    let n = suffix_len plain path in
    let long = length-reverse path in
    let stops = prefix_len_stops plain (reverse path) 0 (omega (arith, less, long)) in
    let place : length path - 1 - n ≡ length path - n - 1 = omega arith in
    slash_byte (get_or path (length path - n - 1) 0) (sym (ap plain (get_or-reverse path n 0 less ∙ ap (λ k. get_or path k 0) place)) ∙ stops)

no_first_slash : (path : List ℕ) → 0 < length path → get_or path 0 0 ≡ 47 → IsPath path → ⊥
no_first_slash [] filled at is = omega (arith, filled)
no_first_slash (b ∷ bs) filled at is =
    let is' : IsPath (47 ∷ bs) = subst (λ (c : ℕ). IsPath (c ∷ bs)) at is in
    (All-head IsSegment [] (slice_split is_slash bs) is'.form.segments).filled refl

pub path_whole : (path : List ℕ) → IsPath path → joined (folder_of path) (file_name_of path) ≡ path
path_whole path is = by (length path - suffix_len plain path) refl
  where
    le : suffix_len plain path ≤ length path
    le = suffix_len-le-length plain path

    by : (start : ℕ) → length path - suffix_len plain path ≡ start → joined (folder_of path) (file_name_of path) ≡ path
    by zero at =
        let end : length path - suffix_len plain path - 1 ≡ 0 = omega (arith, at) in
        λ i. joined (take (end i) path) (drop (at i) path)
    by (suc zero) at =
        let first : length path - suffix_len plain path - 1 ≡ 0 = omega (arith, at) in
        absurd (no_first_slash path (omega (arith, at, le)) (sym (ap (λ k. get_or path k 0) first) ∙ slash_before path (omega (arith, at, le))) is)
    by (suc (suc m)) at =
        sym (joined_whole path (length path - suffix_len plain path) (omega (arith, at)) (omega (arith, le)) (slash_before path (omega (arith, at, le))))

pub whole_again : (paths : List (List ℕ)) → ((path : List ℕ) → Contains paths path → IsPath path) → map (λ (p : List ℕ × List ℕ). joined p.0 p.1) (map replaced_of paths) ≡ paths
whole_again [] are = refl
whole_again (path ∷ paths) are =
    let first : joined (folder_of path) (file_name_of path) ≡ path = path_whole path (are path (Contains-head path paths)) in
    let rest = whole_again paths (λ p there. are p (Contains-tail path paths p there)) in
    λ i. first i ∷ rest i

-- ---- the ids

id_there : (paths : List (List ℕ)) (path : List ℕ) → Contains paths path → Contains (map replaced_of paths) (replaced_of path)
id_there [] path there = absurd (Contains-none path there)
id_there (q ∷ paths) path there =
    ⊎_elim
    (λ (here : q ≡ path). subst (λ (x : List ℕ). Contains (map replaced_of (q ∷ paths)) (replaced_of x)) here (Contains-head (replaced_of q) (map replaced_of paths)))
    (λ later. Contains-tail (replaced_of q) (map replaced_of paths) (replaced_of path) (id_there paths path later))
    (Contains-cases q paths path there)

id_from : (paths : List (List ℕ)) (p : List ℕ × List ℕ) → Contains (map replaced_of paths) p → (path : List ℕ) × Contains paths path × (p ≡ replaced_of path)
id_from [] p there = absurd (Contains-none p there)
id_from (q ∷ paths) p there =
    ⊎_elim
    (λ (here : replaced_of q ≡ p). (q, Contains-head q paths, sym here))
    (λ later. let found = id_from paths p later in (found.0, Contains-tail q paths found.0 found.1, found.2))
    (Contains-cases (replaced_of q) (map replaced_of paths) p there)

pub ids_by : {V E : Type 0} (P : List ℕ → Type 0) (lost : List (List ℕ)) (ids : List (List ℕ × List ℕ)) → ((path : List ℕ) → Contains lost path ↔ P path) → ids ≡ map replaced_of lost → (items : V → List (List ℕ × List ℕ)) (r : Result V E)
    → IfOk r (λ v. (p : List ℕ × List ℕ) → Contains (items v) p ↔ Contains ids p) → IfOk r (λ v. (p : List ℕ × List ℕ) → Contains (items v) p ↔ ((path : List ℕ) × P path × (p ≡ replaced_of path)))
ids_by P lost ids are is items (Ok v) h = λ p. (
  λ there. let found = id_from lost p (subst (λ (l : List (List ℕ × List ℕ)). Contains l p) is ((h p).0 there)) in (found.0, (are found.0).0 found.1, found.2),
  λ from. (h p).1 (subst (λ (l : List (List ℕ × List ℕ)). Contains l p) (sym is) (subst (λ (x : List ℕ × List ℕ). Contains (map replaced_of lost) x) (sym from.2) (id_there lost from.0 ((are from.0).1 from.1)))),
)
ids_by P lost ids are is items (Err e) h = tt

-- ---- those of a change

pub gone_from : (change : Change) (rows : List Row) → LeavesAdded change.added rows → LosesRemoved change rows → (path : List ℕ) → (Contains change.removed path × (HasPath rows path → ⊥)) ↔ IsGone change path
gone_from change rows leaves loses path = (
  λ lost. (lost.0, λ again. lost.1 (again.0, leaves again.0 again.1, again.2)),
  λ gone. (gone.0, λ kept. gone.1 (loses path gone.0 kept)),
)

pub ids_gone : (change : Change) (rows : List Row) (ids : List (List ℕ × List ℕ)) → LeavesAdded change.added rows → LosesRemoved change rows
    → ((p : List ℕ × List ℕ) → Contains ids p ↔ ((path : List ℕ) × (Contains change.removed path × (HasPath rows path → ⊥)) × (p ≡ replaced_of path)))
    → (p : List ℕ × List ℕ) → Contains ids p ↔ ((path : List ℕ) × IsGone change path × (p ≡ replaced_of path))
ids_gone change rows ids leaves loses are p = (
  λ there. let found = (are p).0 there in (found.0, (gone_from change rows leaves loses found.0).0 found.1, found.2),
  λ from. (are p).1 (from.0, (gone_from change rows leaves loses from.0).1 from.1, from.2),
)
