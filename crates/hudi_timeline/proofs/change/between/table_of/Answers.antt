use Rattle.std.proofs.Common.{◌≡◌, [], Contains, sym, ap, subst, inl, ⊎_elim}
use Rattle.std.specs.List.{IsDistinct}
use Rattle.std.specs.Str.{bytes_eq}
use Rattle.table_history.specs.Rows.{HasDistinctPaths}
use Rattle.table_history.specs.declared.table.Table.{Table}
use Rattle.table_history.proofs.RowListLemmas.{Contains-none}
use Rattle.hudi_groups.proofs.GroupChangeLemmas.{distinct_none}
use Rattle.hudi_timeline.proofs.change.between.table_of.Goals as goal

pub apply_owned-requires : goal.apply_owned-requires
apply_owned-requires c =
    let none : c.in_ok-table.table.rows ≡ [] = ap (λ (t : Table). t.rows) c.in_ok-table.ensures in
    record {
      removed_distinct = subst (IsDistinct bytes_eq) (sym c.new.ensures) distinct_none;
      removed_there = λ path h. absurd (Contains-none path (subst (λ l. Contains l path) c.new.ensures h));
      added_distinct = subst HasDistinctPaths (sym c.from_vec.ensures) c.requires;
      added_new = λ row h held. absurd (Contains-none held.0 (subst (λ l. Contains l held.0) none held.1));
    }

pub returns : goal.returns
returns c =
    let none : c.in_ok-table.table.rows ≡ [] = ap (λ (t : Table). t.rows) c.in_ok-table.ensures in
    λ row. (
      λ h.
          ⊎_elim
          (λ added. subst (λ l. Contains l row) c.from_vec.ensures added)
          (λ kept. absurd (Contains-none row (subst (λ l. Contains l row) none kept.0)))
          ((c.in_ok-apply_owned.ensures.ok.rows row).0 h),
      λ h. (c.in_ok-apply_owned.ensures.ok.rows row).1 (inl (subst (λ l. Contains l row) (sym c.from_vec.ensures) h)),
    )
