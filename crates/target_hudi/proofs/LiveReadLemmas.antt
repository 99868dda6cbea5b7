-- What an instant that is written for a commit makes of the rows before it: what the commit makes of them.
use Rattle.std.proofs.Common.{◌≡◌, inl, inr, ⊎_elim, ℕ, ◌+◌, ◌-◌, ◌<◌, ◌==◌, not, Bool, List, ◌∷◌, length, get_or, Contains, Option, None, Some, refl, sym, ap, subst, ◌∙◌, arith}
use Rattle.std.specs.Prelude.{◌↔◌, reverse}
use Rattle.std.specs.List.{suffix_len}
use Rattle.std.proofs.lemmas.Bool.{true≢false}
use Rattle.std.proofs.lemmas.List.{get_or-drop, get_or-reverse, length-drop}
use Rattle.std.proofs.lemmas.List.Elements.{Contains-append_right}
use Rattle.std.proofs.lemmas.List.Sums.{prefix_len_passes, suffix_len-le-length}
use Rattle.table_history.specs.Path.{IsPath}
use Rattle.table_history.specs.Row.{Row}
use Rattle.table_history.specs.Rows.{HasDistinctPaths, HasPath, row_at}
use Rattle.table_history.specs.Tables.{IsRowAfter}
use Rattle.table_history.specs.declared.table.Change.{Change}
use Rattle.table_history.proofs.RowListLemmas.{Contains-head, row_at-found, row_at-none}
use Rattle.partition_map.specs.declared.kind.PartKind.{PartKind}
use Rattle.hudi_groups.specs.Files.{suffix_of, without_end}
use Rattle.hudi_groups.specs.Group.{file_name_of, folder_of, joined}
use Rattle.hudi_timeline.specs.Live.{AreRowsOf, Completed, IsLiveAfter, IsWrittenBy, Replaces, Touches, Writes, completed}
use Rattle.hudi_files.specs.Values.{HaveValues, style_of}
use Rattle.hudi_groups.specs.declared.form.Form.TheVariants.{External}
use Rattle.hudi_instant.specs.declared.instant.Instant.{Instant}
use Rattle.hudi_instant.specs.declared.instant.Stat.{Stat}
use Rattle.hudi_properties.specs.declared.table.HudiTable.{HudiTable}
use Rattle.hudi_files.proofs.ValueLemmas.{rows_same}
use Rattle.target_core.specs.Changes.{IsGone}
use Rattle.target_hudi.specs.Reading.{HasStatRow}
use Rattle.target_hudi.specs.Writing.{replaced_of, stat_of}
use Rattle.target_hudi.proofs.ReplacedLemmas.{path_whole}
use Rattle.target_hudi.proofs.StatReadLemmas.{newest, own_group, own_path}

-- ---- a name has no slash

abbrev plain : ℕ → Bool
plain b = not (b == 47)

pub no_slash : (path : List ℕ) → Contains (file_name_of path) 47 → ⊥
no_slash path there =
    let n = suffix_len plain path in
    let k = there.0 in
    let le = suffix_len-le-length plain path in
    let long = length-drop (length path - n) path in
    let within : k < n = omega (arith, there.1, long, le) in
    let back : n - 1 - k < length path = omega (arith, within, le) in
    let place : length path - 1 - (n - 1 - k) ≡ length path - n + k = omega (arith, within, le) in
    let byte : get_or (reverse path) (n - 1 - k) 47 ≡ 47 = get_or-reverse path (n - 1 - k) 47 back ∙ ap (λ j. get_or path j 47) place ∙ sym (get_or-drop (length path - n) path k 47) ∙ there.2 in
    let passes = prefix_len_passes plain (reverse path) (n - 1 - k) 47 (omega (arith, within)) in
    true≢false (sym passes ∙ ap plain byte)

-- ---- the rows that are written

module _ (table : HudiTable) (kinds : List PartKind) (time : List ℕ) (written : Instant) (rows : List Row) (are : AreRowsOf table kinds (completed (External time) written) rows) where
  abbrev u : Completed
  u = completed (External time) written

  same_rows : (other : List Row) → AreRowsOf table kinds u other → rows ≡ other
  same_rows other too =
      let files : are.0 ≡ too.0 = cc (sym are.1 ∙ too.1) in
      rows_same (style_of table) table.partition kinds too.0 rows other (subst (λ l. HaveValues (style_of table) table.partition kinds l rows) files are.2) too.2

  pub written_there : (row : Row) → IsWrittenBy table kinds u row → Contains rows row
  written_there row by =
      let same : rows ≡ by.rows = same_rows by.rows by.stats in
      subst (λ l. Contains l row) (sym (same ∙ by.newest.split)) (Contains-append_right by.newest.before (row ∷ by.newest.after) row (Contains-head row by.newest.after))

  pub stat_row_there : (row : Row) → HasStatRow table kinds u row → Contains rows row
  stat_row_there row has = subst (λ l. Contains l row) (sym (same_rows has.0 has.1)) has.2

  pub there_written : HasDistinctPaths rows → ((row : Row) → Contains rows row → IsPath row.path) → (row : Row) → Contains rows row → IsWrittenBy table kinds u row
  there_written distinct paths row there = record { rows = rows; stats = are; newest = newest time rows distinct paths row there }

-- ---- the rows behind it

-- What is written over these rows for a change.
pub record IsWrittenFor (time : List ℕ) (written : Instant) (old : List Row) (change : Change) : Type 0 where
  pub stats : (s : Stat) → Contains written.stats s ↔ ((row : Row) × Contains change.added row × (s ≡ stat_of time row))
  pub replaced : (p : List ℕ × List ℕ) → Contains written.replaced p ↔ ((path : List ℕ) × IsGone change path × (p ≡ replaced_of path))
  pub old_paths : (row : Row) → Contains old row → IsPath row.path
  pub removed_there : (path : List ℕ) → Contains change.removed path → HasPath old path
  pub added_paths : (row : Row) → Contains change.added row → IsPath row.path
  pub added_new : (row : Row) → Contains change.added row → HasPath old row.path → Contains change.removed row.path

module _ (time : List ℕ) (written : Instant) (old : List Row) (change : Change) (for : IsWrittenFor time written old change) where
  abbrev v : Completed
  v = completed (External time) written

  removed_path : (path : List ℕ) → Contains change.removed path → IsPath path
  removed_path path there = let row = for.removed_there path there in subst IsPath row.2 (for.old_paths row.0 row.1)

  -- the paths that are gone are those that are replaced
  gone_replaced : (path : List ℕ) → IsGone change path ↔ ((p : List ℕ × List ℕ) × Contains written.replaced p × (path ≡ joined p.0 p.1))
  gone_replaced path = (
    λ gone. (replaced_of path, (for.replaced (replaced_of path)).1 (path, gone, refl), sym (path_whole path (removed_path path gone.0))),
    λ by.
        let from = (for.replaced by.0).0 by.1 in
        let same : path ≡ from.0 = by.2 ∙ ap (λ (p : List ℕ × List ℕ). joined p.0 p.1) from.2 ∙ path_whole from.0 (removed_path from.0 from.1.0) in
        subst (λ p. IsGone change p) (sym same) from.1,
  )

  -- so are their ids, and no others
  pub gone_ids : (path : List ℕ) → IsGone change path ↔ (IsPath path × Contains written.replaced (replaced_of path))
  gone_ids path = (
    λ gone. (removed_path path gone.0, (for.replaced (replaced_of path)).1 (path, gone, refl)),
    λ by.
        let from = (for.replaced (replaced_of path)).0 by.1 in
        let there = removed_path from.0 from.1.0 in
        let same : path ≡ from.0 = sym (path_whole path by.0) ∙ ap (λ (p : List ℕ × List ℕ). joined p.0 p.1) from.2 ∙ path_whole from.0 there in
        subst (λ p. IsGone change p) (sym same) from.1,
  )

  pub only_ids : (p : List ℕ × List ℕ) → Contains written.replaced p → (path : List ℕ) × IsPath path × (p ≡ replaced_of path)
  only_ids p there = let from = (for.replaced p).0 there in (from.0, removed_path from.0 from.1.0, from.2)

  gone_touched : (path : List ℕ) → IsGone change path → Touches v path
  gone_touched path gone =
      let is = removed_path path gone.0 in
      inr (replaced_of path, (for.replaced (replaced_of path)).1 (path, gone, refl), no_slash path, refl)

  added_touched : (row : Row) → Contains change.added row → (path : List ℕ) → row.path ≡ path → Touches v path
  added_touched row there path same =
      inl (stat_of time row, (for.stats (stat_of time row)).1 (row, there, refl), ap (λ p. joined (folder_of p) (file_name_of p)) (sym same ∙ sym (own_path time row.path)))

  touched_removed : (row : Row) → Contains old row → Touches v row.path → Contains change.removed row.path
  touched_removed row there touches =
      let own = own_group time row.path (for.old_paths row there) in
      ⊎_elim
      (λ (writes : Writes v (joined (folder_of row.path) (file_name_of row.path))).
      let from = (for.stats writes.0).0 writes.1 in
      let path : row.path ≡ from.0.path = sym own ∙ writes.2 ∙ ap (λ (s : Stat). joined (folder_of (without_end (suffix_of (External time)) s.path)) (file_name_of (without_end (suffix_of (External time)) s.path))) from.2
      ∙ ap (λ p. joined (folder_of p) (file_name_of p)) (own_path time from.0.path) ∙ own_group time from.0.path (for.added_paths from.0 from.1) in
      subst (Contains change.removed) (sym path) (for.added_new from.0 from.1 (row, there, path)))
      (λ (replaces : Replaces v (joined (folder_of row.path) (file_name_of row.path))).
      let gone = (gone_replaced row.path).1 (replaces.0, replaces.1, sym own ∙ replaces.3) in
      gone.0)
      touches

  untouched_kept : (path : List ℕ) → (Touches v path → ⊥) → Contains change.removed path → ⊥
  untouched_kept path untouched removed = by (row_at change.added path) refl
    where
      by : (found : Option Row) → row_at change.added path ≡ found → ⊥
      by None is = untouched (gone_touched path (removed, row_at-none change.added path is))
      by (Some row) is = let added = row_at-found change.added path row is in untouched (added_touched row added.0 path added.1)

  pub live_rows : (table : HudiTable) (kinds : List PartKind) → ((row : Row) → Contains change.added row ↔ IsWrittenBy table kinds v row) → (row : Row) → IsLiveAfter table kinds v old row ↔ IsRowAfter old change.removed change.added row
  live_rows table kinds adds row = (
    λ live. ⊎_elim (λ by. inl ((adds row).1 by)) (λ kept. inr (kept.0, untouched_kept row.path kept.1)) live,
    λ after. ⊎_elim (λ new. inl ((adds row).0 new)) (λ kept. inr (kept.0, λ touches. kept.1 (touched_removed row kept.0 touches))) after,
  )
