-- The list of a new version isn't too long.
use Rattle.std.proofs.Common.{◌≡◌, ⊎_elim, ℕ, suc, ◌≤◌, List, [], ◌∷◌, ◌++◌, map, length, Bool, false, cond, ltb, nat_eq, Contains, refl, sym, ap, subst, ◌∙◌, arith}
use Rattle.std.specs.List.{IsDistinct, filter}
use Rattle.std.specs.Str.{bytes_eq}
use Rattle.std.proofs.lemmas.Bool.{false≢true, lt-ltb}
use Rattle.std.proofs.lemmas.Bool.Decides.{Decides-eqb}
use Rattle.std.proofs.lemmas.Map.Keys.{IsDistinct-cons, IsDistinct-head, IsDistinct-tail}
use Rattle.file_links.specs.Rows.{Entry, OwnedRows, Owns}
use Rattle.file_links.specs.declared.slots.Held.{Held}
use Rattle.table_history.specs.Row.{Row}
use Rattle.table_history.specs.Rows.{paths_of}
use Rattle.table_history.proofs.RowListLemmas.{Contains-cases, Contains-head, Contains-none, Contains-paths, Contains-tail, all_at}
use Rattle.iceberg_version.specs.KeptEnd.{held_rows, live_manifest}
use Rattle.iceberg_version.specs.Manifests.{LiveManifest, has_rows}
use Rattle.iceberg_version.specs.Sound.{AreRowsOf, OwnEachPath}
use Rattle.iceberg_version.specs.declared.kept.KeptManifest.{KeptManifest}
use Rattle.iceberg_version.proofs.BehindLemmas.{apart_all}
use Rattle.iceberg_version.proofs.Shared.{in_map}
use Rattle.lake_basics.proofs.Texts.{fewer}
use Rattle.target_core.proofs.RowPaths.{rows_length}

-- the path of the first row, if there is one
first_path : List Held → List (List ℕ)
first_path [] = []
first_path (h ∷ rows) = h.row.path ∷ []

first_paths : OwnedRows → List KeptManifest → List (List ℕ)
first_paths links [] = []
first_paths links (m ∷ ms) = first_path (held_rows links m.owner) ++ first_paths links ms

first_count : (links : OwnedRows) (ms : List KeptManifest) → length (filter has_rows (map (live_manifest links) ms)) ≡ length (first_paths links ms)
unfolding first_path first_paths
first_count links [] = refl
first_count links (m ∷ ms) = by (held_rows links m.owner) (first_count links ms)
  where
    by : (rows : List Held) → length (filter has_rows (map (live_manifest links) ms)) ≡ length (first_paths links ms) → length (cond (ltb 0 (length rows)) (live_manifest links m ∷ filter has_rows (map (live_manifest links) ms)) (filter has_rows (map (live_manifest links) ms))) ≡ length (first_path rows ++ first_paths links ms)
    by [] rest = rest
    by (h ∷ rows) rest =
        let others : List LiveManifest = filter has_rows (map (live_manifest links) ms) in
        ap (λ (b : Bool). length (cond b (live_manifest links m ∷ others) others)) (lt-ltb 0 (length (h ∷ rows)) (omega arith)) ∙ ap suc rest

-- the row of such a path, and its manifest
record HasFirst (links : OwnedRows) (ms : List KeptManifest) (path : List ℕ) : Type 0 where
  m : KeptManifest
  in_list : Contains ms m
  held : Held
  is : Contains (held_rows links m.owner) held
  at : held.row.path ≡ path

first_of : (links : OwnedRows) (ms : List KeptManifest) (path : List ℕ) → Contains (first_paths links ms) path → HasFirst links ms path
unfolding first_path first_paths
first_of links [] path there = absurd (Contains-none path there)
first_of links (m ∷ ms) path there = by (held_rows links m.owner) refl there (first_of links ms path)
  where
    later : HasFirst links ms path → HasFirst links (m ∷ ms) path
    later rest = record { m = rest.m; in_list = Contains-tail m ms rest.m rest.in_list; held = rest.held; is = rest.is; at = rest.at }

    by : (rows : List Held) → held_rows links m.owner ≡ rows → Contains (first_path rows ++ first_paths links ms) path → (Contains (first_paths links ms) path → HasFirst links ms path) → HasFirst links (m ∷ ms) path
    by [] none here rest = later (rest here)
    by (h ∷ rows) are here rest =
        ⊎_elim
        (λ same. record { m = m; in_list = Contains-head m ms; held = h; is = subst (λ l. Contains l h) (sym are) (Contains-head h rows); at = same })
        (λ more. later (rest more))
        (Contains-cases h.row.path (first_paths links ms) path here)

module _ (links : OwnedRows) (own : OwnEachPath links) (owned : (m : KeptManifest) (held : Held) → Contains (held_rows links m.owner) held → (e : Entry) × Owns links m.owner e × (e.held ≡ held)) where
  own_firsts : (ms : List KeptManifest) → IsDistinct nat_eq (map (λ m. m.owner) ms) → IsDistinct bytes_eq (first_paths links ms)
  unfolding first_path first_paths IsDistinct
  own_firsts [] distinct = tt
  own_firsts (m ∷ ms) distinct = by (held_rows links m.owner) refl (own_firsts ms (IsDistinct-tail nat_eq m.owner (map (λ k. k.owner) ms) distinct))
    where
      other : (h : Held) → Contains (held_rows links m.owner) h → Contains (first_paths links ms) h.row.path → ⊥
      other h is there =
          let f = first_of links ms h.row.path there in
          let a = owned m h is in
          let b = owned f.m f.held f.is in
          let paths : a.0.held.row.path ≡ b.0.held.row.path = ap (λ (x : Held). x.row.path) a.2 ∙ sym f.at ∙ ap (λ (x : Held). x.row.path) (sym b.2) in
          let same : m.owner ≡ f.m.owner = own m.owner f.m.owner a.0 b.0 a.1 b.1 paths in
          false≢true (sym (all_at (λ y. nat_eq m.owner y ≡ false) (map (λ k. k.owner) ms) f.m.owner (IsDistinct-head nat_eq m.owner (map (λ k. k.owner) ms) distinct) (in_map (λ (k : KeptManifest). k.owner) ms f.m f.in_list)) ∙ (Decides-eqb m.owner f.m.owner).1 same)

      by : (rows : List Held) → held_rows links m.owner ≡ rows → IsDistinct bytes_eq (first_paths links ms) → IsDistinct bytes_eq (first_path rows ++ first_paths links ms)
      by [] none rest = rest
      by (h ∷ rows) are rest = IsDistinct-cons bytes_eq h.row.path (first_paths links ms) (apart_all h.row.path (first_paths links ms) (other h (subst (λ l. Contains l h) (sym are) (Contains-head h rows)))) rest

  pub few_firsts : (rows : List Row) → AreRowsOf rows links → (ms : List KeptManifest) → IsDistinct nat_eq (map (λ m. m.owner) ms) → length (filter has_rows (map (live_manifest links) ms)) ≤ length rows
  few_firsts rows linked ms distinct =
      let among = fewer (first_paths links ms) (paths_of rows) (own_firsts ms distinct) (λ path there.
      let f = first_of links ms path there in
      let e = owned f.m f.held f.is in
      subst (λ (p : List ℕ). Contains (paths_of rows) p) (ap (λ (h : Held). h.row.path) e.2 ∙ f.at) (Contains-paths rows e.0.held.row (linked f.m.owner e.0 e.1))) in
      omega (arith, among, first_count links ms, rows_length rows)
