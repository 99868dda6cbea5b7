-- The actions of a change, in the order of their paths.
use Rattle.std.proofs.Common.{◌≡◌, ⊎_elim, ℕ, ◌+◌, ◌<◌, Bor, List, [], ◌∷◌, ◌++◌, length, get_or, take, filter, map, All, Contains, refl, sym, ap, subst, ◌∙◌}
use Rattle.std.specs.Prelude.{◌↔◌, IfOk, Result, Ok, Err}
use Rattle.std.proofs.lemmas.List.Elements.{All-cons, All-nil}
use Rattle.std.proofs.lemmas.List.{get_or-map, length-map, map-append}
use Rattle.table_history.proofs.RowListLemmas.{Contains-cases, Contains-filter, Contains-head, Contains-none, Contains-tail, filter_contains}
use Rattle.table_history.specs.Path.{IsPath}
use Rattle.table_history.specs.Row.{Row}
use Rattle.table_history.specs.Rows.{HasPath, IsInByteOrder, IsInPathOrder, SameRows, paths_of}
use Rattle.table_history.specs.declared.table.Change.{Change}
use Rattle.delta_log.specs.Commit.{file_path, file_paths}
use Rattle.delta_log.specs.Sound.{IsSoundFile}
use Rattle.delta_log.specs.declared.commit.FileAction.TheVariants as file
use Rattle.delta_log.specs.declared.commit.FileAction.{FileAction}
use Rattle.target_core.proofs.RowPaths.{is_lost, lost_none, none_lost}
use Rattle.target_delta.specs.Writing.{AreActions, AreAdds, IsAddOf, LeavesAdded, LosesRemoved}
use Rattle.lake_basics.proofs.Lists.{last_of}

-- what references to rows hold
abbrev pub rows_now : List (Bor Row) → List Row
rows_now rows = map (λ r. r.now) rows

row_there : (rows : List (Bor Row)) (i : ℕ) (row : Bor Row) → i < length rows → row ≡ get_or rows i row → Contains (rows_now rows) row.now
row_there rows i row within at =
    let now : Bor Row → Row = λ r. r.now in
    (i, subst (λ (n : ℕ). i < n) (sym (length-map rows now)) within, get_or-map now rows i row row.now within ∙ ap now (sym at))

-- What is said of each row is said of the one at this place.
pub of_row : (P : Row → Type 0) (rows : List (Bor Row)) (i : ℕ) (row : Bor Row) → ((r : Row) → Contains (rows_now rows) r → P r) → i < length rows → row ≡ get_or rows i row → P row.now
of_row P rows i row all within at = all row.now (row_there rows i row within at)

adds_push : (partition : List (List ℕ)) (rows : List Row) (files : List FileAction) (row : Row) (f : FileAction) → AreAdds partition rows files → IsAddOf partition row f → AreAdds partition (rows ++ row ∷ []) (files ++ f ∷ [])
adds_push partition [] [] row f h add = (add, tt)
adds_push partition [] (g ∷ files) row f h add = absurd h
adds_push partition (r ∷ rows) [] row f h add = absurd h
adds_push partition (r ∷ rows) (g ∷ files) row f h add = (h.0, adds_push partition rows files row f h.1 add)

pub adds_more : (partition : List (List ℕ)) (rows : List (Bor Row)) (files : List FileAction) (i : ℕ) (row : Bor Row) (f : FileAction) → i < length rows → row ≡ get_or rows i row
    → AreAdds partition (rows_now (take i rows)) files → IsAddOf partition row.now f → AreAdds partition (rows_now (take (i + 1) rows)) (files ++ f ∷ [])
adds_more partition rows files i row f within at h add =
    let grown : rows_now (take (i + 1) rows) ≡ rows_now (take i rows) ++ row.now ∷ [] = ap rows_now (last_of rows i row within at) ∙ map-append (λ (r : Bor Row). r.now) (take i rows) (row ∷ []) in
    subst (λ (l : List Row). AreAdds partition l (files ++ f ∷ [])) (sym grown) (adds_push partition (rows_now (take i rows)) files row.now f h add)

-- ---- the paths that are lost

pub lost_are : (rows : List Row) (removed : List (List ℕ)) (path : List ℕ) → Contains (filter (is_lost rows) removed) path ↔ (Contains removed path × (HasPath rows path → ⊥))
lost_are rows removed path = (
  λ h. let both = Contains-filter (is_lost rows) removed path h in (both.0, lost_none rows path both.1),
  λ h. filter_contains (is_lost rows) removed path h.0 (none_lost rows path h.1),
)

pub lost_by : {V E : Type 0} (rows : List Row) (removed lost : List (List ℕ)) → lost ≡ filter (is_lost rows) removed → (items : V → List (List ℕ)) (r : Result V E)
    → IfOk r (λ v. (path : List ℕ) → Contains (items v) path ↔ Contains lost path) → IfOk r (λ v. (path : List ℕ) → Contains (items v) path ↔ (Contains removed path × (HasPath rows path → ⊥)))
lost_by rows removed lost is items (Ok v) h = λ path.
    let here = h path in
    let them = lost_are rows removed path in (
      λ a. them.0 (subst (λ (l : List (List ℕ)). Contains l path) is (here.0 a)),
      λ b. here.1 (subst (λ (l : List (List ℕ)). Contains l path) (sym is) (them.1 b)),
    )
lost_by rows removed lost is items (Err e) h = tt

-- ---- the actions of a change

remove_paths : (paths : List (List ℕ)) → file_paths (map file.Remove paths) ≡ paths
remove_paths [] = refl
remove_paths (p ∷ paths) = ap (λ (l : List (List ℕ)). p ∷ l) (remove_paths paths)

remove_there : (paths : List (List ℕ)) (path : List ℕ) → Contains paths path → Contains (map file.Remove paths) (file.Remove path)
remove_there [] path there = absurd (Contains-none path there)
remove_there (p ∷ paths) path there =
    ⊎_elim
    (λ (here : p ≡ path). subst (λ (q : List ℕ). Contains (map file.Remove (p ∷ paths)) (file.Remove q)) here (Contains-head (file.Remove p) (map file.Remove paths)))
    (λ later. Contains-tail (file.Remove p) (map file.Remove paths) (file.Remove path) (remove_there paths path later))
    (Contains-cases p paths path there)

remove_from : (paths : List (List ℕ)) (f : FileAction) → Contains (map file.Remove paths) f → (path : List ℕ) × Contains paths path × (f ≡ file.Remove path)
remove_from [] f there = absurd (Contains-none f there)
remove_from (p ∷ paths) f there =
    ⊎_elim
    (λ (here : file.Remove p ≡ f). (p, Contains-head p paths, sym here))
    (λ later. let found = remove_from paths f later in (found.0, Contains-tail p paths found.0 found.1, found.2))
    (Contains-cases (file.Remove p) (map file.Remove paths) f there)

module _ (partition : List (List ℕ)) where
  add_paths : (rows : List Row) (files : List FileAction) → AreAdds partition rows files → file_paths files ≡ paths_of rows
  add_paths [] [] h = refl
  add_paths [] (f ∷ files) h = absurd h
  add_paths (r ∷ rows) [] h = absurd h
  add_paths (r ∷ rows) (f ∷ files) h =
      let first : file_path f ≡ r.path = ap file_path h.0.is in
      λ i. first i ∷ add_paths rows files h.1 i

  add_from : (rows : List Row) (files : List FileAction) (f : FileAction) → AreAdds partition rows files → Contains files f → (row : Row) × Contains rows row × IsAddOf partition row f
  add_from [] [] f h there = absurd (Contains-none f there)
  add_from [] (g ∷ files) f h there = absurd h
  add_from (r ∷ rows) [] f h there = absurd h
  add_from (r ∷ rows) (g ∷ files) f h there =
      ⊎_elim
      (λ (here : g ≡ f). (r, Contains-head r rows, subst (λ (z : FileAction). IsAddOf partition r z) here h.0))
      (λ later. let found = add_from rows files f h.1 later in (found.0, Contains-tail r rows found.0 found.1, found.2))
      (Contains-cases g files f there)

  add_at : (rows : List Row) (files : List FileAction) (row : Row) → AreAdds partition rows files → Contains rows row → (f : FileAction) × Contains files f × IsAddOf partition row f
  add_at [] [] row h there = absurd (Contains-none row there)
  add_at [] (f ∷ files) row h there = absurd h
  add_at (r ∷ rows) [] row h there = absurd h
  add_at (r ∷ rows) (f ∷ files) row h there =
      ⊎_elim
      (λ (here : r ≡ row). (f, Contains-head f files, subst (λ (x : Row). IsAddOf partition x f) here h.0))
      (λ later. let found = add_at rows files row h.1 later in (found.0, Contains-tail f files found.0 found.1, found.2))
      (Contains-cases r rows row there)

pub actions_are : (partition : List (List ℕ)) (change : Change) (after rows : List Row) (lost : List (List ℕ)) (adds files : List FileAction) → LeavesAdded change.added after → LosesRemoved change after
    → ((path : List ℕ) → Contains lost path ↔ (Contains change.removed path × (HasPath after path → ⊥))) → IsInByteOrder lost
    → SameRows change.added rows → IsInPathOrder rows → AreAdds partition rows adds → files ≡ map file.Remove lost ++ adds → AreActions partition change files
actions_are partition change after rows lost adds files leaves loses lost_is lost_order same order added split = record {
  removes = map file.Remove lost;
  adds = adds;
  split = split;
  gone = λ f. (
    λ there.
        let from = remove_from lost f there in
        let is = (lost_is from.0).0 from.1 in
        (from.0, (is.0, λ again. is.1 (again.0, leaves again.0 again.1, again.2)), from.2),
    λ gone. subst (λ (g : FileAction). Contains (map file.Remove lost) g) (sym gone.2) (remove_there lost gone.0 ((lost_is gone.0).1 (gone.1.0, λ kept. gone.1.1 (loses gone.0 gone.1.0 kept)))),
  );
  from_row = λ f there. let from = add_from partition rows adds f added there in (from.0, (same from.0).1 from.1, from.2);
  of_row = λ row there. add_at partition rows adds row added ((same row).0 there);
  removes_order = subst (λ (l : List (List ℕ)). IsInByteOrder l) (sym (remove_paths lost)) lost_order;
  adds_order = subst (λ (l : List (List ℕ)). IsInByteOrder l) (sym (add_paths partition rows adds added)) order;
}

pub removes_sound : (paths : List (List ℕ)) → ((path : List ℕ) → Contains paths path → IsPath path) → All IsSoundFile (map file.Remove paths)
removes_sound [] are = All-nil IsSoundFile
removes_sound (p ∷ paths) are = All-cons IsSoundFile (file.Remove p) (map file.Remove paths) (are p (Contains-head p paths)) (removes_sound paths (λ path there. are path (Contains-tail p paths path there)))
