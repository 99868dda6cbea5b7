-- The live rows of a new version's manifests: those before without the removed ones, and the added ones.
use Rattle.std.proofs.Common.{◌≡◌, ◌⊎◌, ◌↔◌, inl, inr, ⊎_elim, ℕ, ◌+◌, ◌≤◌, List, [], ◌∷◌, ◌++◌, map, length, Bool, true, false, not, cond, Contains, refl, sym, ap, subst, ◌∙◌, arith}
use Rattle.std.specs.Prelude.{◌||◌, flat_map, nat_lt}
use Rattle.std.specs.List.{IsDistinct, filter, list_any}
use Rattle.std.specs.Str.{bytes_eq}
use Rattle.std.proofs.lemmas.Bool.{cases_Bool, false≢true, not-true}
use Rattle.std.proofs.lemmas.Bool.Decides.{nat_tests}
use Rattle.std.proofs.lemmas.Grind.{flat_map-append}
use Rattle.std.proofs.lemmas.List.Elements.{Contains-append_cases, Contains-append_left, Contains-append_right, filter-append}
use Rattle.std.proofs.lemmas.Slice.Eq.{bytes_eq-Decides}
use Rattle.table_history.specs.Row.{Row}
use Rattle.table_history.specs.Rows.{HasDistinctPaths, HasPath, IsInPathOrder, SameRows, paths_of}
use Rattle.table_history.specs.Tables.{IsRowAfter}
use Rattle.table_history.proofs.RowListLemmas.{Contains-cases, Contains-filter, Contains-head, Contains-none, Contains-tail, distinct_filter, filter_contains}
use Rattle.table_history.proofs.TableLemmas.{distinct_order}
use Rattle.file_links.specs.declared.slots.Held.{Held}
use Rattle.iceberg_version.specs.Manifests.{AreListed, LiveManifest, NextManifest, added_manifest, born_at, carried, has_rows, is_lost, left, new, rewritten_entries, stays}
use Rattle.iceberg_version.proofs.BehindLemmas.{distinct_joined}
use Rattle.target_iceberg.proofs.WrittenStart.{live_rows, rows_held}
use Rattle.lake_basics.proofs.Texts.{any_there}

-- ---- paths among the removed ones

pub removed_any : (removed : List (List ℕ)) (path : List ℕ) → list_any (bytes_eq path) removed ≡ true → Contains removed path
removed_any [] path is = absurd (false≢true is)
removed_any (p ∷ removed) path is = by (bytes_eq path p) refl is (λ rest. removed_any removed path rest)
  where
    by : (b : Bool) → bytes_eq path p ≡ b → (b || list_any (bytes_eq path) removed) ≡ true → (list_any (bytes_eq path) removed ≡ true → Contains removed path) → Contains (p ∷ removed) path
    by true same is rest = subst (Contains (p ∷ removed)) (sym ((bytes_eq-Decides path p).0 same)) (Contains-head p removed)
    by false other is rest = Contains-tail p removed path (rest is)

-- whether a row stays
abbrev pub is_left : List (List ℕ) → Row → Bool
is_left removed row = not (list_any (bytes_eq row.path) removed)

pub left_other : (removed : List (List ℕ)) (row : Row) → is_left removed row ≡ true → Contains removed row.path → ⊥
left_other removed row is there = false≢true (sym (not-true (list_any (bytes_eq row.path) removed) is) ∙ any_there removed row.path there)

pub other_left : (removed : List (List ℕ)) (row : Row) → (Contains removed row.path → ⊥) → is_left removed row ≡ true
other_left removed row none = ⊎_elim (λ lost. absurd (none (removed_any removed row.path lost))) (λ kept. ap not kept) (cases_Bool (list_any (bytes_eq row.path) removed))

-- ---- the rows of each manifest

abbrev pub rows_next : NextManifest → List Held
rows_next (stays m) = m.rows
rows_next (new entries rows) = rows

abbrev pub next_rows : List NextManifest → List Row
next_rows next = flat_map (λ nx. rows_held (rows_next nx)) next

pub listed_rows : (front : List ℕ) (version k number : ℕ) (next : List NextManifest) (texts : List (List ℕ)) (listed : List LiveManifest) → AreListed front version k number next texts listed → live_rows listed ≡ next_rows next
listed_rows front version k number [] [] [] are = refl
listed_rows front version k number [] [] (l ∷ ls) are = absurd are
listed_rows front version k number [] (t ∷ ts) ls are = absurd are
listed_rows front version k number (stays m ∷ next) texts [] are = absurd are
listed_rows front version k number (stays m ∷ next) texts (l ∷ ls) are =
    let first : rows_held l.rows ≡ rows_held m.rows = ap (λ (x : LiveManifest). rows_held x.rows) are.0 in
    let rest = listed_rows front version (k + 1) number next texts ls are.1 in
    λ i. first i ++ rest i
listed_rows front version k number (new es rs ∷ next) [] ls are = absurd are
listed_rows front version k number (new es rs ∷ next) (t ∷ ts) [] are = absurd are
listed_rows front version k number (new es rs ∷ next) (t ∷ ts) (l ∷ ls) are =
    let first : rows_held l.rows ≡ rows_held rs = ap rows_held are.0 in
    let rest = listed_rows front version (k + 1) (number + 1) next ts ls are.2 in
    λ i. first i ++ rest i

module _ (removed : List (List ℕ)) where
  left_by : (h : Held) (hs : List Held) (b : Bool) → rows_held (left removed hs) ≡ filter (is_left removed) (rows_held hs) → rows_held (cond b (h ∷ left removed hs) (left removed hs)) ≡ cond b (h.row ∷ filter (is_left removed) (rows_held hs)) (filter (is_left removed) (rows_held hs))
  left_by h hs true rest = ap (λ (l : List Row). h.row ∷ l) rest
  left_by h hs false rest = rest

  left_rows : (hs : List Held) → rows_held (left removed hs) ≡ filter (is_left removed) (rows_held hs)
  left_rows [] = refl
  left_rows (h ∷ hs) = left_by h hs (not (is_lost removed h)) (left_rows hs)

  all_left : (hs : List Held) → list_any (is_lost removed) hs ≡ false → left removed hs ≡ hs
  all_left [] none = refl
  all_left (h ∷ hs) none = by (is_lost removed h) none (λ rest. all_left hs rest)
    where
      by : (b : Bool) → (b || list_any (is_lost removed) hs) ≡ false → (list_any (is_lost removed) hs ≡ false → left removed hs ≡ hs) → cond (not b) (h ∷ left removed hs) (left removed hs) ≡ h ∷ hs
      by true is rest = absurd (false≢true (sym is))
      by false is rest = ap (λ (l : List Held). h ∷ l) (rest is)

  module _ (front : List ℕ) (version : ℕ) where
    carried_by : (m : LiveManifest) (b : Bool) → list_any (is_lost removed) m.rows ≡ b → rows_held (rows_next (cond b (new (rewritten_entries front version removed m.rows) (left removed m.rows)) (stays m))) ≡ filter (is_left removed) (rows_held m.rows)
    carried_by m true is = left_rows m.rows
    carried_by m false is = ap rows_held (sym (all_left m.rows is)) ∙ left_rows m.rows

    no_rows : (hs : List Held) → nat_lt 0 (length hs) ≡ false → hs ≡ []
    no_rows [] is = refl
    no_rows (h ∷ hs) is = let short : length (h ∷ hs) ≤ 0 = grind (arith, nat_tests) in absurd (omega (arith, short))

    kept_by : (m : LiveManifest) (ms : List LiveManifest) (b : Bool) → nat_lt 0 (length m.rows) ≡ b → next_rows (map (carried front version removed) (filter has_rows ms)) ≡ filter (is_left removed) (live_rows ms)
        → next_rows (map (carried front version removed) (cond b (m ∷ filter has_rows ms) (filter has_rows ms))) ≡ filter (is_left removed) (rows_held m.rows) ++ filter (is_left removed) (live_rows ms)
    kept_by m ms true is rest =
        let first = carried_by m (list_any (is_lost removed) m.rows) refl in
        λ i. first i ++ rest i
    kept_by m ms false is rest = rest ∙ ap (λ (hs : List Held). filter (is_left removed) (rows_held hs) ++ filter (is_left removed) (live_rows ms)) (sym (no_rows m.rows is))

    carried_rows : (ms : List LiveManifest) → next_rows (map (carried front version removed) (filter has_rows ms)) ≡ filter (is_left removed) (live_rows ms)
    carried_rows [] = refl
    carried_rows (m ∷ ms) = kept_by m ms (nat_lt 0 (length m.rows)) refl (carried_rows ms) ∙ sym (filter-append (is_left removed) (rows_held m.rows) (live_rows ms))

    born_rows : (part : List Row) → rows_held (map (born_at version) part) ≡ part
    born_rows [] = refl
    born_rows (row ∷ part) = ap (λ (l : List Row). row ∷ l) (born_rows part)

    added_rows : (parts : List (List Row)) → next_rows (map (added_manifest front version) parts) ≡ flat_map (λ p. p) parts
    added_rows [] = refl
    added_rows (p ∷ ps) =
        let first = born_rows p in
        let rest = added_rows ps in
        λ i. first i ++ rest i

-- ---- all of them

pub rows_behind : (front : List ℕ) (version : ℕ) (manifests : List LiveManifest) (removed : List (List ℕ)) (next : List NextManifest) (added : List Row) (parts : List (List Row)) → flat_map (λ p. p) parts ≡ added → next ≡ map (carried front version removed) (filter has_rows manifests) ++ map (added_manifest front version) parts
    → next_rows next ≡ filter (is_left removed) (live_rows manifests) ++ added
rows_behind front version manifests removed next added parts joined is =
    let old = carried_rows removed front version manifests in
    let fresh = added_rows removed front version parts ∙ joined in
    ap next_rows is
    ∙ flat_map-append (λ nx. rows_held (rows_next nx)) (map (carried front version removed) (filter has_rows manifests)) (map (added_manifest front version) parts)
    ∙ (λ i. old i ++ fresh i)

-- ---- distinct paths

paths_append : (xs ys : List Row) → paths_of (xs ++ ys) ≡ paths_of xs ++ paths_of ys
paths_append [] ys = refl
paths_append (x ∷ xs) ys = ap (λ (l : List (List ℕ)). x.path ∷ l) (paths_append xs ys)

pub of_paths : (rows : List Row) (path : List ℕ) → Contains (paths_of rows) path → HasPath rows path
of_paths [] path there = absurd (Contains-none path there)
of_paths (r ∷ rows) path there =
    ⊎_elim (λ same. (r, Contains-head r rows, same)) (λ later. let rest = of_paths rows path later in (rest.0, Contains-tail r rows rest.0 rest.1, rest.2)) (Contains-cases r.path (paths_of rows) path there)

-- ---- the rows after a change

module _ (before live : List Row) (removed : List (List ℕ)) (change_added added : List Row) (live_are : (row : Row) → Contains before row ↔ Contains live row) (same : SameRows change_added added) where
  abbrev pub after_rows : List Row
  after_rows = filter (is_left removed) live ++ added

  pub after_are : (row : Row) → Contains after_rows row ↔ IsRowAfter before removed change_added row
  after_are row = (
    λ there. ⊎_elim
        (λ (old : Contains (filter (is_left removed) live) row). let both = Contains-filter (is_left removed) live row old in inr ((live_are row).1 both.0, left_other removed row both.1))
        (λ (fresh : Contains added row). inl ((same row).1 fresh))
        (Contains-append_cases (filter (is_left removed) live) added row there),
    λ is. ⊎_elim
        (λ (fresh : Contains change_added row). Contains-append_right (filter (is_left removed) live) added row ((same row).0 fresh))
        (λ (old : Contains before row × (Contains removed row.path → ⊥)). Contains-append_left (filter (is_left removed) live) added row (filter_contains (is_left removed) live row ((live_are row).0 old.0) (other_left removed row old.1)))
        is,
  )

  pub after_distinct : HasDistinctPaths live → IsInPathOrder added → ((row : Row) → Contains change_added row → HasPath before row.path → Contains removed row.path) → HasDistinctPaths after_rows
  after_distinct distinct order fresh =
      subst (IsDistinct bytes_eq) (sym (paths_append (filter (is_left removed) live) added))
      (distinct_joined (paths_of (filter (is_left removed) live)) (paths_of added) (distinct_filter (is_left removed) live distinct) (distinct_order (paths_of added) order) (λ path a b.
      let old = of_paths (filter (is_left removed) live) path a in
      let add = of_paths added path b in
      let both = Contains-filter (is_left removed) live old.0 old.1 in
      let lost = fresh add.0 ((same add.0).1 add.1) (old.0, (live_are old.0).1 both.0, old.2 ∙ sym add.2) in
      left_other removed old.0 both.1 (subst (Contains removed) (add.2 ∙ sym old.2) lost)))
