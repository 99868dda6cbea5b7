-- What one instant writes and replaces, and the live rows behind it.
use Rattle.std.proofs.Common.{◌≡◌, ◌↔◌, ℕ, Bool, true, false, not, ◌||◌, ◌&&◌, List, [], ◌∷◌, filter, reverse, Ok, Contains, refl, sym, ap, subst, ◌∙◌, inl, inr, ⊎_elim}
use Rattle.std.specs.List.{list_any}
use Rattle.std.specs.Str.{bytes_eq}
use Rattle.std.proofs.lemmas.Bool.{cases_Bool, false≢true, eqb-true}
use Rattle.std.proofs.lemmas.List.Elements.{Contains-append_left, Contains-append_right, Contains-append_cases}
use Rattle.std.proofs.lemmas.List.Sorted.{IsPermutation-reverse, IsPermutation-sym, Contains-permutation}
use Rattle.std.proofs.lemmas.Slice.Eq.{bytes_eq-Decides}
use Rattle.lake_basics.specs.Outcome.{each}
use Rattle.lake_basics.proofs.Truth.{false_and_true, or_true}
use Rattle.table_history.specs.Path.{is_slash}
use Rattle.table_history.specs.declared.row.FileRow.{FileRow}
use Rattle.table_history.proofs.RowListLemmas.{Contains-none, Contains-head, Contains-tail, Contains-cases, Contains-filter, filter_contains}
use Rattle.partition_map.specs.declared.kind.PartKind.{PartKind}
use Rattle.partition_map.specs.declared.folder.FolderStyle.{FolderStyle}
use Rattle.hudi_groups.specs.declared.form.Form.{Form}
use Rattle.hudi_instant.specs.declared.instant.Stat.{Stat}
use Rattle.hudi_properties.specs.declared.table.HudiTable.{HudiTable}
use Rattle.hudi_groups.specs.Group.{joined}
use Rattle.hudi_groups.specs.Files.{suffix_of, without_end, group_name}
use Rattle.hudi_files.specs.Stats.{bare_row}
use Rattle.hudi_files.specs.Values.{style_of, HasValues, HaveValues}
use Rattle.hudi_groups.specs.GroupSets.{is_row_of_group, names_group, newest_rows, is_touched, rows_after, IsNewestOfGroup}
use Rattle.hudi_timeline.specs.Live.{Completed, AreRowsOf, Touches, IsLiveAfter}
use Rattle.hudi_groups.proofs.AnyLemmas.{any_from, any_to, any_none}
use Rattle.hudi_groups.proofs.GroupSetLemmas.{row_in_group, group_has_row}
use Rattle.hudi_groups.proofs.NewestLemmas.{newest_from, newest_to}
use Rattle.hudi_files.proofs.StatLemmas.{each_cons, each_all, each_from, bare_path, row_of_file, file_of_row}
use Rattle.hudi_files.proofs.ValueLemmas.{rows_same}

-- ---- the rows of an instant, against its stats
module _ (table : HudiTable) (kinds : List PartKind) (u : Completed) (rows : List FileRow) (are : AreRowsOf table kinds u rows) where
  -- each stat has its row
  pub row_of_stat : (s : Stat) → Contains u.instant.stats s → (row : FileRow) × Contains rows row × (row.path ≡ without_end (suffix_of u.form) s.path)
  row_of_stat s there =
      let file = each_all (bare_row (suffix_of u.form)) u.instant.stats are.0 are.1 s there in
      let row = row_of_file (style_of table) table.partition kinds are.0 rows are.2 file.0 file.1 in
      (row.0, row.1, row.2.path ∙ bare_path (suffix_of u.form) s file.0 file.2)

  -- and each row its stat, whose folder spells the values
  pub stat_of_row : (row : FileRow) → Contains rows row
      → (s : Stat) × Contains u.instant.stats s × (file : FileRow) × (bare_row (suffix_of u.form) s ≡ Ok file) × HasValues (style_of table) table.partition kinds file row
  stat_of_row row there =
      let file = file_of_row (style_of table) table.partition kinds are.0 rows are.2 row there in
      let s = each_from (bare_row (suffix_of u.form)) u.instant.stats are.0 are.1 file.0 file.1 in
      (s.0, s.1, file.0, s.2, file.2)

module _ (form : Form) (style : FolderStyle) (names : List (List ℕ)) (kinds : List PartKind) (q : List ℕ) where
  writes_to : (stats : List Stat) (files rows : List FileRow) → each (bare_row (suffix_of form)) stats ≡ Ok files → HaveValues style names kinds files rows → list_any (is_row_of_group form q) rows ≡ true
      → (s : Stat) × Contains stats s × (q ≡ group_name form (without_end (suffix_of form) s.path))
  writes_to [] files rows h v t =
      let none : files ≡ [] = cc (h) in
      let empty : rows ≡ [] = subst (λ l. HaveValues style names kinds l rows) none v in
      absurd (false≢true (subst (λ l. list_any (is_row_of_group form q) l ≡ true) empty t))
  writes_to (s ∷ ss) files rows h v t =
      let first = each_cons (bare_row (suffix_of form)) s ss files h in
      let vs = subst (λ l. HaveValues style names kinds l rows) first.4 v in
      let path : vs.0.path ≡ without_end (suffix_of form) s.path = vs.2.path ∙ bare_path (suffix_of form) s first.0 first.2 in
      let tested = subst (λ l. list_any (is_row_of_group form q) l ≡ true) vs.4 t in
      ⊎_elim
      (λ yes. (s, Contains-head s ss, row_in_group form q vs.0 yes ∙ ap (group_name form) path))
      (λ no.
      let more = writes_to ss first.1 vs.1 first.3 vs.3 (subst (λ b. (b || list_any (is_row_of_group form q) vs.1) ≡ true) no tested) in
      (more.0, Contains-tail s ss more.0 more.1, more.2))
      (cases_Bool (is_row_of_group form q vs.0))

  writes_from : (stats : List Stat) (files rows : List FileRow) → each (bare_row (suffix_of form)) stats ≡ Ok files → HaveValues style names kinds files rows
      → (s : Stat) → Contains stats s → q ≡ group_name form (without_end (suffix_of form) s.path) → list_any (is_row_of_group form q) rows ≡ true
  writes_from [] files rows h v s there is = absurd (Contains-none s there)
  writes_from (t ∷ ts) files rows h v s there is =
      let first = each_cons (bare_row (suffix_of form)) t ts files h in
      let vs = subst (λ l. HaveValues style names kinds l rows) first.4 v in
      let path : vs.0.path ≡ without_end (suffix_of form) t.path = vs.2.path ∙ bare_path (suffix_of form) t first.0 first.2 in
      subst (λ l. list_any (is_row_of_group form q) l ≡ true) (sym vs.4) (⊎_elim
      (λ e. any_from (is_row_of_group form q) (vs.0 ∷ vs.1) vs.0 (Contains-head vs.0 vs.1) (group_has_row form q vs.0 (is ∙ ap (λ (w : Stat). group_name form (without_end (suffix_of form) w.path)) (sym e) ∙ ap (group_name form) (sym path))))
      (λ later. ap (λ b. is_row_of_group form q vs.0 || b) (writes_from ts first.1 vs.1 first.3 vs.3 s later is) ∙ or_true (is_row_of_group form q vs.0))
      (Contains-cases t ts s there))

-- ---- what one instant makes of rows

both_from : (a b : Bool) → a ≡ false → b ≡ true → (not a && b) ≡ true
both_from a b plain same = (λ i. not (plain i) && same i)

module _ (table : HudiTable) (kinds : List PartKind) (u : Completed) (rows : List FileRow) (are : AreRowsOf table kinds u rows) where
  pub touched_to : (path : List ℕ) → is_touched u.form u.instant.replaced rows (group_name u.form path) ≡ true → Touches u path
  touched_to path t =
      let q = group_name u.form path in
      ⊎_elim
      (λ yes. inl (writes_to u.form (style_of table) table.partition kinds q u.instant.stats are.0 rows are.1 are.2 yes))
      (λ no.
      let gone = any_to (names_group q) u.instant.replaced (subst (λ b. (b || list_any (names_group q) u.instant.replaced) ≡ true) no t) in
      let says = false_and_true (list_any is_slash gone.0.1) (bytes_eq q (joined gone.0.0 gone.0.1)) gone.2 in
      inr (gone.0, gone.1, (λ slash. false≢true (sym says.0 ∙ any_from is_slash gone.0.1 47 slash refl)), (bytes_eq-Decides q (joined gone.0.0 gone.0.1)).0 says.1))
      (cases_Bool (list_any (is_row_of_group u.form q) rows))

  pub touched_from : (path : List ℕ) → Touches u path → is_touched u.form u.instant.replaced rows (group_name u.form path) ≡ true
  touched_from path h =
      let q = group_name u.form path in
      ⊎_elim
      (λ w. ap (λ b. b || list_any (names_group q) u.instant.replaced) (writes_from u.form (style_of table) table.partition kinds q u.instant.stats are.0 rows are.1 are.2 w.0 w.1 w.2))
      (λ r. ap (λ b. list_any (is_row_of_group u.form q) rows || b) (any_from (names_group q) u.instant.replaced r.0 r.1 (both_from (list_any is_slash r.0.1) (bytes_eq q (joined r.0.0 r.0.1)) (any_none is_slash r.0.1 (λ x there t. r.2 (subst (Contains r.0.1) (eqb-true x 47 t) there))) ((bytes_eq-Decides q (joined r.0.0 r.0.1)).1 r.3))) ∙ or_true (list_any (is_row_of_group u.form q) rows))
      h

  -- the rows after the instant
  pub live_after : (before : List FileRow) (row : FileRow) → Contains (rows_after u.form u.instant.replaced before rows) row ↔ IsLiveAfter table kinds u before row
  live_after before row = (
    λ h.
        ⊎_elim
        (λ kept.
        let both = Contains-filter (λ (r : FileRow). not (is_touched u.form u.instant.replaced rows (group_name u.form r.path))) before row kept in
        inr (both.0, λ touches. false≢true (sym (ap not (touched_from row.path touches)) ∙ both.1)))
        (λ new. inl (record {
          rows = rows;
          stats = are;
          newest = newest_from u.form rows row (Contains-permutation _ _ row (IsPermutation-sym _ _ (IsPermutation-reverse (newest_rows u.form rows))) new);
        }))
        (Contains-append_cases (filter (λ (r : FileRow). not (is_touched u.form u.instant.replaced rows (group_name u.form r.path))) before) (reverse (newest_rows u.form rows)) row h),
    λ h.
        ⊎_elim
        (λ w.
        let files : are.0 ≡ w.stats.0 = cc (sym are.1 ∙ w.stats.1) in
        let same : rows ≡ w.rows = rows_same (style_of table) table.partition kinds w.stats.0 rows w.rows (subst (λ l. HaveValues (style_of table) table.partition kinds l rows) files are.2) w.stats.2 in
        Contains-append_right (filter (λ (r : FileRow). not (is_touched u.form u.instant.replaced rows (group_name u.form r.path))) before) (reverse (newest_rows u.form rows)) row
        (Contains-permutation _ _ row (IsPermutation-reverse (newest_rows u.form rows)) (newest_to u.form rows row (subst (λ l. IsNewestOfGroup u.form l row) (sym same) w.newest))))
        (λ kept. Contains-append_left (filter (λ (r : FileRow). not (is_touched u.form u.instant.replaced rows (group_name u.form r.path))) before) (reverse (newest_rows u.form rows)) row
        (filter_contains (λ (r : FileRow). not (is_touched u.form u.instant.replaced rows (group_name u.form r.path))) before row kept.0 (⊎_elim
        (λ yes. absurd (kept.1 (touched_to row.path yes)))
        (λ no. ap not no)
        (cases_Bool (is_touched u.form u.instant.replaced rows (group_name u.form row.path))))))
        h,
  )
