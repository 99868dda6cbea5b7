-- The rows behind a commit, and what differs between them and the rows before.
use Rattle.std.proofs.Common.{◌≡◌, ◌↔◌, ℕ, suc, ◌+◌, Bool, true, false, not, cond, ◌||◌, List, [], ◌∷◌, ◌++◌, length, filter, reverse, Option, None, Some, Contains, refl, sym, ap, subst, ◌∙◌, ◌⊎◌, inl, inr, ⊎_elim, arith}
use Rattle.std.specs.Prelude.{is_some}
use Rattle.std.specs.List.{count_by, IsDistinct}
use Rattle.std.specs.Str.{bytes_eq}
use Rattle.std.proofs.lemmas.Bool.{cases_Bool, false≢true, false_from_ne_true}
use Rattle.std.proofs.lemmas.Cmp.{nat_list_eq_equiv}
use Rattle.std.proofs.lemmas.List.{length-append, map-append, reverse-append}
use Rattle.std.proofs.lemmas.List.Elements.{Contains-append_left, Contains-append_right, Contains-append_cases}
use Rattle.std.proofs.lemmas.List.Filters.{length-filter_both}
use Rattle.std.proofs.lemmas.List.Sums.{sum_by-cons}
use Rattle.std.proofs.lemmas.List.Sorted.{IsPermutation-reverse, IsPermutation-map, IsPermutation-sym, Contains-permutation}
use Rattle.std.proofs.lemmas.Map.Keys.{IsDistinct-cons, IsDistinct-head, IsDistinct-tail, IsDistinct-IsPermutation}
use Rattle.std.proofs.lemmas.Map.Views.{Contains-from_any, list_any-from_Contains}
use Rattle.std.proofs.lemmas.Slice.Eq.{bytes_eq-Decides}
use Rattle.table_history.specs.Rows.{row_at, paths_of, HasPath, HasDistinctPaths}
use Rattle.table_history.specs.declared.row.FileRow.{FileRow}
use Rattle.table_history.proofs.RowListLemmas.{Contains-cases, Contains-filter, Contains-head, Contains-lacking, Contains-none, Contains-paths, Contains-tail, all_at, distinct_filter, filter_contains, lacks, row_at-found, row_at-itself, is_in-Decides, all_from}
use Rattle.table_history.proofs.TableLemmas.{Contains-paths_cases, same_path, there_or_not}
use Rattle.delta_log.specs.declared.commit.FileAction.{FileAction}
use Rattle.delta_log.specs.declared.commit.FileAction.TheVariants as file
use Rattle.delta_log.specs.Commit.{file_path, file_paths}
use Rattle.delta_log.specs.Judging.{acts_on}
use Rattle.delta_live.specs.Differences.{IsUnorderedDiff}
use Rattle.delta_live.specs.RowSteps.{has_path, removed_paths, added_paths, lost_paths, is_kept, rows_behind}
use Rattle.lake_basics.proofs.Lists.{empty_of}
use Rattle.lake_basics.proofs.Texts.{distinct_filter as distinct_some}

-- ---- lists of texts

not_later : (x : List ℕ) (xs : List (List ℕ)) → IsDistinct bytes_eq (x ∷ xs) → Contains xs x → ⊥
not_later x xs distinct there = false≢true (sym (all_at (λ y. bytes_eq x y ≡ false) xs x (IsDistinct-head bytes_eq x xs distinct) there) ∙ (bytes_eq-Decides x x).1 refl)

pub distinct_nothing : IsDistinct bytes_eq []
unfolding IsDistinct
distinct_nothing = tt

distinct_one_more : (x : List ℕ) (xs : List (List ℕ)) → (Contains xs x → ⊥) → IsDistinct bytes_eq xs → IsDistinct bytes_eq (x ∷ xs)
distinct_one_more x xs new distinct =
    IsDistinct-cons bytes_eq x xs
    (all_from (λ y. bytes_eq x y ≡ false) xs (λ y there. ⊎_elim (λ t. absurd (new (subst (Contains xs) (sym ((bytes_eq-Decides x y).0 t)) there))) (λ n. n) (cases_Bool (bytes_eq x y))))
    distinct

pub distinct_both : (xs ys : List (List ℕ)) → IsDistinct bytes_eq xs → IsDistinct bytes_eq ys → ((x : List ℕ) → Contains xs x → Contains ys x → ⊥) → IsDistinct bytes_eq (xs ++ ys)
distinct_both [] ys d e apart = e
distinct_both (x ∷ xs) ys d e apart =
    distinct_one_more x (xs ++ ys)
    (λ there. ⊎_elim (λ a. not_later x xs d a) (λ b. apart x (Contains-head x xs) b) (Contains-append_cases xs ys x there))
    (distinct_both xs ys (IsDistinct-tail bytes_eq x xs d) e (λ y a b. apart y (Contains-tail x xs y a) b))

-- ---- the paths of a commit

pub on_path : (path : List ℕ) (files : List FileAction) → acts_on path files ≡ true → Contains (file_paths files) path
on_path path files h = Contains-from_any {eq = bytes_eq} (λ x y. (bytes_eq-Decides x y).0) path (file_paths files) h

pub path_on : (path : List ℕ) (files : List FileAction) → Contains (file_paths files) path → acts_on path files ≡ true
path_on path files h = list_any-from_Contains nat_list_eq_equiv path (file_paths files) h

removed_there : (files : List FileAction) (path : List ℕ) → Contains (removed_paths files) path → Contains (file_paths files) path
removed_there [] path h = h
removed_there (file.Add p vs size count ∷ files) path h = Contains-tail p (file_paths files) path (removed_there files path h)
removed_there (file.Remove p ∷ files) path h =
    ⊎_elim (λ e. subst (Contains (p ∷ file_paths files)) e (Contains-head p (file_paths files))) (λ later. Contains-tail p (file_paths files) path (removed_there files path later)) (Contains-cases p (removed_paths files) path h)

added_there : (files : List FileAction) (path : List ℕ) → Contains (added_paths files) path → Contains (file_paths files) path
added_there [] path h = h
added_there (file.Add p vs size count ∷ files) path h =
    ⊎_elim (λ e. subst (Contains (p ∷ file_paths files)) e (Contains-head p (file_paths files))) (λ later. Contains-tail p (file_paths files) path (added_there files path later)) (Contains-cases p (added_paths files) path h)
added_there (file.Remove p ∷ files) path h = Contains-tail p (file_paths files) path (added_there files path h)

either_path : (files : List FileAction) (path : List ℕ) → Contains (file_paths files) path → Contains (removed_paths files) path ⊎ Contains (added_paths files) path
either_path [] path h = absurd (Contains-none path h)
either_path (file.Add p vs size count ∷ files) path h =
    ⊎_elim
    (λ e. inr (subst (Contains (p ∷ added_paths files)) e (Contains-head p (added_paths files))))
    (λ later. ⊎_elim (λ a. inl a) (λ b. inr (Contains-tail p (added_paths files) path b)) (either_path files path later))
    (Contains-cases p (file_paths files) path h)
either_path (file.Remove p ∷ files) path h =
    ⊎_elim
    (λ e. inl (subst (Contains (p ∷ removed_paths files)) e (Contains-head p (removed_paths files))))
    (λ later. ⊎_elim (λ a. inl (Contains-tail p (removed_paths files) path a)) (λ b. inr b) (either_path files path later))
    (Contains-cases p (file_paths files) path h)

not_both : (files : List FileAction) (path : List ℕ) → IsDistinct bytes_eq (file_paths files) → Contains (removed_paths files) path → Contains (added_paths files) path → ⊥
not_both [] path d a b = Contains-none path a
not_both (file.Add p vs size count ∷ files) path d a b =
    ⊎_elim
    (λ e. not_later p (file_paths files) d (subst (Contains (file_paths files)) (sym e) (removed_there files path a)))
    (λ later. not_both files path (IsDistinct-tail bytes_eq p (file_paths files) d) a later)
    (Contains-cases p (added_paths files) path b)
not_both (file.Remove p ∷ files) path d a b =
    ⊎_elim
    (λ e. not_later p (file_paths files) d (subst (Contains (file_paths files)) (sym e) (added_there files path b)))
    (λ later. not_both files path (IsDistinct-tail bytes_eq p (file_paths files) d) later b)
    (Contains-cases p (removed_paths files) path a)

removed_distinct : (files : List FileAction) → IsDistinct bytes_eq (file_paths files) → IsDistinct bytes_eq (removed_paths files)
removed_distinct [] d = d
removed_distinct (file.Add p vs size count ∷ files) d = removed_distinct files (IsDistinct-tail bytes_eq p (file_paths files) d)
removed_distinct (file.Remove p ∷ files) d =
    distinct_one_more p (removed_paths files) (λ there. not_later p (file_paths files) d (removed_there files p there)) (removed_distinct files (IsDistinct-tail bytes_eq p (file_paths files) d))

pub added_distinct : (files : List FileAction) → IsDistinct bytes_eq (file_paths files) → IsDistinct bytes_eq (added_paths files)
added_distinct [] d = d
added_distinct (file.Add p vs size count ∷ files) d =
    distinct_one_more p (added_paths files) (λ there. not_later p (file_paths files) d (added_there files p there)) (added_distinct files (IsDistinct-tail bytes_eq p (file_paths files) d))
added_distinct (file.Remove p ∷ files) d = added_distinct files (IsDistinct-tail bytes_eq p (file_paths files) d)

-- ---- rows and paths

some_row : (before : List FileRow) (path : List ℕ) (o : Option FileRow) → row_at before path ≡ o → is_some o ≡ true → HasPath before path
some_row before path (Some row) found h = let is = row_at-found before path row found in (row, is.0, is.1)
some_row before path None found h = absurd (false≢true h)

pub has_row : (before : List FileRow) (path : List ℕ) → has_path before path ≡ true → HasPath before path
has_row before path h = some_row before path (row_at before path) refl h

row_has : (before : List FileRow) (row : FileRow) → HasDistinctPaths before → Contains before row → has_path before row.path ≡ true
row_has before row d there = ap is_some (row_at-itself before row d there)

module _ (before rows : List FileRow) (files : List FileAction) (before_distinct : HasDistinctPaths before) (distinct : IsDistinct bytes_eq (file_paths files)) (added : paths_of rows ≡ added_paths files) where
  pub rows_distinct : HasDistinctPaths rows
  rows_distinct = subst (IsDistinct bytes_eq) (sym added) (added_distinct files distinct)

  row_added : (row : FileRow) → Contains rows row → Contains (added_paths files) row.path
  row_added row there = subst (λ l. Contains l row.path) added (Contains-paths rows row there)

  kept_apart : (row : FileRow) (path : List ℕ) → is_kept files row ≡ true → row.path ≡ path → Contains (file_paths files) path → ⊥
  kept_apart row path kept e there = false≢true (sym (ap not (path_on row.path files (subst (Contains (file_paths files)) (sym e) there))) ∙ kept)

  pub behind_distinct : HasDistinctPaths (rows_behind before files rows)
  behind_distinct =
      let kept = filter (is_kept files) before in
      subst (IsDistinct bytes_eq) (sym (map-append (λ (r : FileRow). r.path) kept rows))
      (distinct_both (paths_of kept) (paths_of rows) (distinct_filter (is_kept files) before before_distinct) rows_distinct
      (λ path a b. let row = Contains-paths_cases kept path a in
      kept_apart row.0 path (Contains-filter (is_kept files) before row.0 row.1).1 row.2 (added_there files path (subst (λ l. Contains l path) added b))))

  -- ---- what differs

  module _ (new : List FileRow) (new_is : (row : FileRow) → Contains new row ↔ (Contains rows row × (Contains before row → ⊥))) (new_distinct : HasDistinctPaths new) where
    lost_distinct : IsDistinct bytes_eq (lost_paths before files new)
    lost_distinct =
        distinct_some (has_path before) (removed_paths files ++ paths_of new)
        (distinct_both (removed_paths files) (paths_of new) (removed_distinct files distinct) new_distinct
        (λ path a b. let row = Contains-paths_cases new path b in
        not_both files path distinct a (subst (Contains (added_paths files)) row.2 (row_added row.0 ((new_is row.0).0 row.1).0))))

    gone : (row : FileRow) → Contains before row → Contains (removed_paths files) row.path ⊎ Contains (paths_of new) row.path → Contains (rows_behind before files rows) row → ⊥
    gone row was lost stays =
        let path_there : Contains (file_paths files) row.path =
        ⊎_elim (λ a. removed_there files row.path a) (λ b. let n = Contains-paths_cases new row.path b in subst (Contains (file_paths files)) n.2 (added_there files n.0.path (row_added n.0 ((new_is n.0).0 n.1).0))) lost in
        ⊎_elim
        (λ kept. kept_apart row row.path (Contains-filter (is_kept files) before row kept).1 refl path_there)
        (λ there. ⊎_elim
        (λ a. not_both files row.path distinct a (row_added row there))
        (λ b.
        let n = Contains-paths_cases new row.path b in
        let fresh = (new_is n.0).0 n.1 in
        fresh.1 (subst (Contains before) (same_path rows rows_distinct row n.0 there fresh.0 (sym n.2)) was))
        lost)
        (Contains-append_cases (filter (is_kept files) before) rows row stays)

    lost_to : (path : List ℕ) → Contains (lost_paths before files new) path → (row : FileRow) × Contains before row × (Contains (rows_behind before files rows) row → ⊥) × (row.path ≡ path)
    lost_to path h =
        let both = Contains-filter (has_path before) (removed_paths files ++ paths_of new) path h in
        let row = has_row before path both.1 in
        let lost : Contains (removed_paths files) row.0.path ⊎ Contains (paths_of new) row.0.path =
        subst (λ p. Contains (removed_paths files) p ⊎ Contains (paths_of new) p) (sym row.2) (Contains-append_cases (removed_paths files) (paths_of new) path both.0) in
        (row.0, row.1, gone row.0 row.1 lost, row.2)

    lost_from : (row : FileRow) → Contains before row → (Contains (rows_behind before files rows) row → ⊥) → Contains (lost_paths before files new) row.path
    lost_from row was lost =
        let kept = filter (is_kept files) before in
        let acted : acts_on row.path files ≡ true =
        ⊎_elim (λ t. t) (λ n. absurd (lost (Contains-append_left kept rows row (filter_contains (is_kept files) before row was (ap not n))))) (cases_Bool (acts_on row.path files)) in
        let listed : Contains (removed_paths files ++ paths_of new) row.path =
        ⊎_elim
        (λ a. Contains-append_left (removed_paths files) (paths_of new) row.path a)
        (λ b.
        let n = Contains-paths_cases rows row.path (subst (λ l. Contains l row.path) (sym added) b) in
        ⊎_elim
        (λ held. absurd (lost (Contains-append_right kept rows row (subst (Contains rows) (same_path before before_distinct n.0 row held was n.2) n.1))))
        (λ fresh. Contains-append_right (removed_paths files) (paths_of new) row.path (subst (Contains (paths_of new)) n.2 (Contains-paths new n.0 ((new_is n.0).1 (n.1, fresh)))))
        (there_or_not before n.0))
        (either_path files row.path (on_path row.path files acted)) in
        filter_contains (has_path before) (removed_paths files ++ paths_of new) row.path listed (row_has before row before_distinct was)

    -- what is lost and what is new are the change
    pub diff_behind : IsUnorderedDiff before (rows_behind before files rows) (lost_paths before files new) new
    diff_behind = record {
      removed_paths = λ path. (lost_to path, λ h. subst (Contains (lost_paths before files new)) h.3 (lost_from h.0 h.1 h.2));
      added_rows = λ row. (
        λ h. let fresh = (new_is row).0 h in (Contains-append_right (filter (is_kept files) before) rows row fresh.0, fresh.1),
        λ h.
            ⊎_elim
            (λ kept. absurd (h.1 (Contains-filter (is_kept files) before row kept).0))
            (λ there. (new_is row).1 (there, h.1))
            (Contains-append_cases (filter (is_kept files) before) rows row h.0),
      );
      removed_distinct = lost_distinct;
      added_distinct = new_distinct;
    }

-- ---- how many rows there are

module _ {X : Type 0} (p q : X → Bool) where
  filter_step : (a b : Bool) (x : X) (l m n : List X) → (a ≡ true → b ≡ true → ⊥) → length l ≡ length m + length n → length (cond (a || b) (x ∷ l) l) ≡ length (cond a (x ∷ m) m) + length (cond b (x ∷ n) n)
  filter_step true true x l m n never e = absurd (never refl refl)
  filter_step true false x l m n never e = omega (arith, e)
  filter_step false true x l m n never e = omega (arith, e)
  filter_step false false x l m n never e = e

  filter_either : (xs : List X) → ((x : X) → Contains xs x → p x ≡ true → q x ≡ true → ⊥) → length (filter (λ x. p x || q x) xs) ≡ length (filter p xs) + length (filter q xs)
  filter_either [] never = refl
  filter_either (x ∷ xs) never =
      filter_step (p x) (q x) x (filter (λ y. p y || q y) xs) (filter p xs) (filter q xs) (never x (Contains-head x xs)) (filter_either xs (λ y there. never y (Contains-tail x xs y there)))

filter_nothing : {X : Type 0} (xs : List X) → length (filter (λ x. false) xs) ≡ 0
filter_nothing [] = refl
filter_nothing (x ∷ xs) = filter_nothing xs

one_at_path : (path : List ℕ) (r : FileRow) (rs : List FileRow) → HasDistinctPaths (r ∷ rs) → length (filter (λ (s : FileRow). bytes_eq s.path path) rs) ≡ cond (has_path rs path) 1 0
    → (b : Bool) → bytes_eq path r.path ≡ b
    → length (cond b (r ∷ filter (λ (s : FileRow). bytes_eq s.path path) rs) (filter (λ (s : FileRow). bytes_eq s.path path) rs)) ≡ cond (is_some (cond b (Some r) (row_at rs path))) 1 0
one_at_path path r rs d rest true is =
    let same : path ≡ r.path = (bytes_eq-Decides path r.path).0 is in
    let none : has_path rs path ≡ false =
    ⊎_elim
    (λ t. let s = has_row rs path t in absurd (not_later r.path (paths_of rs) d (subst (Contains (paths_of rs)) (s.2 ∙ same) (Contains-paths rs s.0 s.1))))
    (λ n. n)
    (cases_Bool (has_path rs path)) in
    ap suc (rest ∙ ap (λ b. cond b 1 0) none)
one_at_path path r rs d rest false is = rest

at_most_one : (path : List ℕ) (rows : List FileRow) → HasDistinctPaths rows → length (filter (λ (s : FileRow). bytes_eq s.path path) rows) ≡ cond (has_path rows path) 1 0
at_most_one path [] d = refl
at_most_one path (r ∷ rs) d =
    let others = filter (λ (s : FileRow). bytes_eq s.path path) rs in
    ap (λ b. length (cond b (r ∷ others) others)) (nat_list_eq_equiv.symm r.path path)
    ∙ one_at_path path r rs d (at_most_one path rs (IsDistinct-tail bytes_eq r.path (paths_of rs) d)) (bytes_eq path r.path) refl

pub touched_count : (before : List FileRow) (files : List FileAction) → HasDistinctPaths before → IsDistinct bytes_eq (file_paths files)
    → length (filter (λ r. acts_on r.path files) before) ≡ count_by (λ f. has_path before (file_path f)) files
touched_count before [] before_distinct distinct = filter_nothing before
touched_count before (f ∷ files) before_distinct distinct =
    filter_either (λ (r : FileRow). bytes_eq r.path (file_path f)) (λ (r : FileRow). acts_on r.path files) before
    (λ r there a b. not_later (file_path f) (file_paths files) distinct (subst (Contains (file_paths files)) ((bytes_eq-Decides r.path (file_path f)).0 a) (on_path r.path files b)))
    ∙ (λ i. at_most_one (file_path f) before before_distinct i + touched_count before files before_distinct (IsDistinct-tail bytes_eq (file_path f) (file_paths files) distinct) i)
    ∙ sym (sum_by-cons (λ (g : FileAction). cond (has_path before (file_path g)) 1 0) f files)

-- those on whose paths the commit acts are no longer counted, and the new rows are
pub behind_count : (before rows : List FileRow) (files : List FileAction) → HasDistinctPaths before → IsDistinct bytes_eq (file_paths files)
    → length (rows_behind before files rows) + count_by (λ f. has_path before (file_path f)) files ≡ length before + length rows
behind_count before rows files before_distinct distinct =
    omega (arith, length-append (filter (is_kept files) before) rows, length-filter_both (λ (r : FileRow). acts_on r.path files) (is_kept files) (λ r. refl) before, touched_count before files before_distinct distinct)

-- ---- the rows that weren't there before

fresh_step : (before rest new new' : List FileRow) (row : FileRow) (b : Bool) → lacks before row ≡ b → new ≡ reverse (filter (lacks before) rest) → new' ≡ cond b (new ++ row ∷ []) new → new' ≡ reverse (filter (lacks before) (row ∷ rest))
fresh_step before rest new new' row b is so_far more =
    more ∙ (λ i. cond b (so_far i ++ row ∷ []) (so_far i)) ∙ by b ∙ ap (λ c. reverse (cond c (row ∷ filter (lacks before) rest) (filter (lacks before) rest))) (sym is)
  where
    by : (c : Bool) → cond c (reverse (filter (lacks before) rest) ++ row ∷ []) (reverse (filter (lacks before) rest)) ≡ reverse (cond c (row ∷ filter (lacks before) rest) (filter (lacks before) rest))
    by true = sym (reverse-append (row ∷ []) (filter (lacks before) rest))
    by false = refl

-- the same by whether the row is there before
pub fresh_one : (before rest new new' : List FileRow) (row : FileRow) → (Contains before row × (new' ≡ new)) ⊎ ((Contains before row → ⊥) × (new' ≡ new ++ row ∷ [])) → new ≡ reverse (filter (lacks before) rest)
    → new' ≡ reverse (filter (lacks before) (row ∷ rest))
fresh_one before rest new new' row one so_far =
    ⊎_elim
    (λ there. fresh_step before rest new new' row false (ap not ((is_in-Decides before row).1 there.0)) so_far there.1)
    (λ other. fresh_step before rest new new' row true (ap not (false_from_ne_true _ (λ t. other.0 ((is_in-Decides before row).0 t)))) so_far other.1)
    one

pub all_looked : (left rest rows : List FileRow) → length left ≡ 0 → left ++ rest ≡ rows → rest ≡ rows
all_looked left rest rows none all = ap (λ l. l ++ rest) (sym (empty_of left none)) ∙ all

pub fresh_rows : (before rows new : List FileRow) → new ≡ reverse (filter (lacks before) rows) → (row : FileRow) → Contains new row ↔ (Contains rows row × (Contains before row → ⊥))
fresh_rows before rows new is row =
    let fresh = filter (lacks before) rows in
    let lacking = Contains-lacking rows before row in
    let moved = IsPermutation-reverse fresh in (
      λ h. lacking.0 (Contains-permutation _ _ row (IsPermutation-sym _ _ moved) (subst (λ l. Contains l row) is h)),
      λ h. subst (λ l. Contains l row) (sym is) (Contains-permutation _ _ row moved (lacking.1 h)),
    )

pub fresh_distinct : (before rows new : List FileRow) → HasDistinctPaths rows → new ≡ reverse (filter (lacks before) rows) → HasDistinctPaths new
fresh_distinct before rows new distinct is =
    let fresh = filter (lacks before) rows in
    subst HasDistinctPaths (sym is)
    (IsDistinct-IsPermutation bytes_eq nat_list_eq_equiv.symm (paths_of fresh) (paths_of (reverse fresh)) (IsPermutation-map (λ (r : FileRow). r.path) fresh (reverse fresh) (IsPermutation-reverse fresh)) (distinct_filter (lacks before) rows distinct))
