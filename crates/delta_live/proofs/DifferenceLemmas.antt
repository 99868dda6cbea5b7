-- What differs between rows before and after leads from those to these, in whatever order, and so does the same in order.
use Rattle.std.proofs.Common.{◌↔◌, ℕ, List, Contains, unwrap_or, refl, sym, ap, subst, ◌∙◌, inl, inr, ⊎_elim}
use Rattle.table_history.specs.Rows.{paths_of, HasDistinctPaths}
use Rattle.table_history.specs.Tables.{CanApply, IsAfter, IsDiff, IsRowAfter, LeadsTo}
use Rattle.table_history.specs.declared.row.FileRow.{FileRow}
use Rattle.table_history.specs.declared.table.Change.{Change}
use Rattle.table_history.specs.declared.table.Table.{Table}
use Rattle.table_history.proofs.TableLemmas.{distinct_order, same_path, there_or_not}
use Rattle.delta_live.specs.Differences.{IsInOrderOf, IsUnorderedDiff}

-- ---- in whatever order

pub unordered_leads : (before after : List FileRow) (removed : List (List ℕ)) (added : List FileRow) → IsUnorderedDiff before after removed added → HasDistinctPaths before → LeadsTo before removed added after
unordered_leads before after removed added d distinct row = (
  λ h.
      ⊎_elim
      (λ new. ((d.added_rows row).0 new).0)
      (λ kept. ⊎_elim (λ there. there) (λ gone. absurd (kept.1 ((d.removed_paths row.path).1 (row, kept.0, gone, refl)))) (there_or_not after row))
      h,
  λ there.
      ⊎_elim
      (λ was. inr (
        was,
        λ gone.
            let lost = (d.removed_paths row.path).0 gone in
            lost.2 (subst (Contains after) (sym (same_path before distinct lost.0 row lost.1 was lost.3)) there),
      ))
      (λ fresh. inl ((d.added_rows row).1 (there, fresh)))
      (there_or_not before row),
)

pub unordered_fits : (table : Table) (after : List FileRow) (change : Change) → IsUnorderedDiff table.rows after change.removed change.added → HasDistinctPaths after → CanApply table change
unordered_fits table after change d distinct = record {
  removed_distinct = d.removed_distinct;
  removed_there = λ path h. let lost = (d.removed_paths path).0 h in (lost.0, lost.1, lost.3);
  added_distinct = d.added_distinct;
  added_new = λ row h held.
      let new = (d.added_rows row).0 h in
      (d.removed_paths row.path).1 (held.0, held.1, (λ stays. new.1 (subst (Contains table.rows) (same_path after distinct held.0 row stays new.0 held.2) held.1)), held.2);
}

-- ---- put in order

module _ (change ordered : Change) (same : IsInOrderOf change ordered) where
  pub ordered_diff : (before after : List FileRow) → IsUnorderedDiff before after change.removed change.added → IsDiff before after ordered.removed ordered.added
  ordered_diff before after d = record {
    removed_paths = λ path. (λ h. (d.removed_paths path).0 ((same.removed path).0 h), λ lost. (same.removed path).1 ((d.removed_paths path).1 lost));
    added_rows = λ row. (λ h. (d.added_rows row).0 ((same.added row).0 h), λ new. (same.added row).1 ((d.added_rows row).1 new));
    removed_order = same.removed_order;
    added_order = same.added_order;
  }

  same_after : (rows : List FileRow) (row : FileRow) → IsRowAfter rows ordered.removed ordered.added row ↔ IsRowAfter rows change.removed change.added row
  same_after rows row = (
    λ h. ⊎_elim (λ new. inl ((same.added row).0 new)) (λ kept. inr (kept.0, λ gone. kept.1 ((same.removed row.path).1 gone))) h,
    λ h. ⊎_elim (λ new. inl ((same.added row).1 new)) (λ kept. inr (kept.0, λ gone. kept.1 ((same.removed row.path).0 gone))) h,
  )

  pub ordered_leads : (before after : List FileRow) → LeadsTo before change.removed change.added after → LeadsTo before ordered.removed ordered.added after
  ordered_leads before after leads row = let alike = same_after before row in (λ h. (leads row).0 (alike.0 h), λ h. alike.1 ((leads row).1 h))

  pub ordered_fits : (table : Table) → CanApply table change → CanApply table ordered
  ordered_fits table fits = record {
    removed_distinct = distinct_order ordered.removed same.removed_order;
    removed_there = λ path h. fits.removed_there path ((same.removed path).0 h);
    added_distinct = distinct_order (paths_of ordered.added) same.added_order;
    added_new = λ row h held. (same.removed row.path).1 (fits.added_new row ((same.added row).0 h) held);
  }

  pub after_ordered : (old new : Table) → IsAfter old ordered new → IsAfter old change new
  after_ordered old new after = record {
    rows = λ row. let alike = same_after old.rows row in (λ h. alike.0 ((after.rows row).0 h), λ h. (after.rows row).1 (alike.1 h));
    distinct = after.distinct;
    schema = after.schema ∙ ap (λ s. unwrap_or s old.schema) same.schema;
    partition = after.partition;
  }
