-- A snapshot behind the one before it.
use Rattle.std.proofs.Common.{◌≡◌, ◌≤◌, ◌-◌, ◌+◌, ℕ, List, [], ◌++◌, Contains, Option, None, Some, Result, Ok, Err, length, map, true, false, sym, ap, subst, ◌∙◌, ⊎_elim, append-nil, arith}
use Rattle.std.specs.Prelude.{IfOk}
use Rattle.std.proofs.lemmas.List.Elements.{Contains-append_cases, Contains-append_left, Contains-append_right}
use Rattle.lake_basics.specs.declared.limits.TheConstants.{MAX_ACTIONS, MAX_LIVE_FILES}
use Rattle.lake_store.specs.Disk.{Files}
use Rattle.table_history.specs.Rows.{HasDistinctPaths, HasPath, SameRows}
use Rattle.table_history.specs.Tables.{IsDiff}
use Rattle.table_history.specs.declared.row.FileRow.{FileRow}
use Rattle.table_history.specs.declared.table.Change.{Change}
use Rattle.table_history.specs.declared.table.Table.{Table}
use Rattle.table_history.proofs.Laws.{same_rows_length}
use Rattle.iceberg_manifest.specs.declared.partition.PartColumn.{PartColumn}
use Rattle.iceberg_metadata.specs.declared.metadata.Metadata.{Metadata}
use Rattle.iceberg_table.specs.Once.{entries_once}
use Rattle.iceberg_table.specs.Plan.{part_columns}
use Rattle.iceberg_table.specs.Tables.{IsTableOfRows, rows_of}
use Rattle.iceberg_table.specs.declared.manifest.Manifest.{Manifest}
use Rattle.iceberg_table.specs.declared.plan.Plan.{Plan}
use Rattle.iceberg_change.specs.Behind.{AreFit, AreParts, AreRead, GoesOn, HoldsRead, GoesOnFrom, AreReadFor, IsChangeTo, IsJoined, IsListRead, IsListed, IsStart, IsStepBy, held_rows, others_of, slots_rows}
use Rattle.iceberg_change.specs.declared.behind.Listed.{Listed}
use Rattle.iceberg_change.specs.declared.behind.Start.{Start}
use Rattle.iceberg_change.specs.declared.behind.Step.{Step}
use Rattle.iceberg_change.specs.declared.joining.Joining.{Joining}
use Rattle.iceberg_change.specs.declared.joining.Stop.{Stop}
use Rattle.iceberg_change.proofs.BesideLaws.{all_diff, all_distinct, all_length, same_moved}
use Rattle.iceberg_change.proofs.HeldLaws.{filled_rows, filled_with}

-- ---- what is held at the beginning

pub itself : (rows : List FileRow) → SameRows rows rows
itself rows row = (λ h. h, λ h. h)

pub starts_held : (columns : List PartColumn) (before : Table) (manifests : List Manifest) (s : Start) → s.held.slots.items ≡ map Some manifests → s.is_held ≡ true → HasDistinctPaths before.rows
    → IsTableOfRows before.schema before.partition (rows_of manifests) before → AreFit columns manifests → IsStart columns before s
starts_held columns before manifests s slots held own is fit =
    let rows : rows_of manifests ≡ held_rows s.held ++ others_of s.is_held before.rows =
    sym (ap (λ b. held_rows s.held ++ others_of b before.rows) held ∙ append-nil (held_rows s.held) ∙ ap slots_rows slots ∙ filled_rows manifests) in
    record {
      same = subst (SameRows before.rows) rows is.same;
      distinct = subst HasDistinctPaths rows is.distinct;
      fit = λ m there. fit m (filled_with manifests m (subst (λ (l : List (Option Manifest)). Contains l (Some m)) slots there));
    }

pub holds_read : (files : Files) (location : List ℕ) (columns : List PartColumn) (manifests : List Manifest) (s : Start) → s.held.slots.items ≡ map Some manifests → AreRead files location columns manifests → HoldsRead files location columns s.held
holds_read files location columns manifests s slots are = λ m there. are m (filled_with manifests m (subst (λ (l : List (Option Manifest)). Contains l (Some m)) slots there))

pub starts_new : (columns : List PartColumn) (before : Table) (s : Start) → s.held.slots.items ≡ [] → s.is_held ≡ false → HasDistinctPaths before.rows → IsStart columns before s
starts_new columns before s slots is own =
    let rows : before.rows ≡ held_rows s.held ++ others_of s.is_held before.rows =
    sym (ap (λ b. others_of b before.rows) is) ∙ sym (ap (λ l. slots_rows l ++ others_of s.is_held before.rows) slots) in
    record {
      same = subst (SameRows before.rows) rows (itself before.rows);
      distinct = subst HasDistinctPaths rows own;
      fit = λ m there. absurd (nothing m (subst (λ (l : List (Option Manifest)). Contains l (Some m)) slots there));
    }
  where
    nothing : (m : Manifest) → Contains [] (Some m) → ⊥
    nothing m h = absurd (omega (arith, h.1))

pub parts_of : (columns : List PartColumn) (before : Table) (s : Start) (j : Joining) → IsStart columns before s → IsJoined columns (held_rows s.held) None j → AreParts before.rows (others_of s.is_held before.rows) (held_rows j.held) j.came.items (rows_of j.manifests)
parts_of columns before s j start joined = record { held = held_rows s.held; kept = joined.kept; same = start.same; distinct = start.distinct; split = joined.split; whole = joined.whole }

-- ---- the change

module _ (before : List FileRow) (start left came all : List FileRow) (parts : AreParts before start left came all) where
  -- where all rows before are those that weren't held, no row more goes
  pub goes_before : start ≡ before → SameRows before (start ++ left)
  goes_before is row = (
    λ h. Contains-append_left start left row (subst (λ (l : List FileRow). Contains l row) (sym is) h),
    λ h.
        ⊎_elim (λ there. subst (λ (l : List FileRow). Contains l row) is there)
        (λ went. (parts.same row).1 (Contains-append_left parts.held start row ((same_moved parts.held (parts.kept ++ left) parts.split row).1 (Contains-append_right parts.kept left row went))))
        (Contains-append_cases start left row h),
  )

module _ (before : List FileRow) (start left came all : List FileRow) (parts : AreParts before start left came all) (own : HasDistinctPaths before)
    (went after : Table) (gone : SameRows went.rows (start ++ left)) (went_own : HasDistinctPaths went.rows) (new : SameRows after.rows came) (after_own : HasDistinctPaths after.rows) (came_own : HasDistinctPaths came)
    (free : (row : FileRow) → Contains came row → HasPath before row.path → HasPath went.rows row.path) where
  pub change_is : (c : Change) → (length before - length went.rows) + length after.rows ≤ MAX_LIVE_FILES → IsDiff went.rows after.rows c.removed c.added → IsChangeTo before all c
  change_is c within diff =
      let distinct = all_distinct before parts.held start parts.kept left came all parts.same parts.distinct parts.split parts.whole went.rows gone went_own came_own free in
      let long = all_length before parts.held start parts.kept left came all parts.same parts.distinct parts.split parts.whole went.rows gone went_own came_own free own in
      let many = same_rows_length after.rows came after_own came_own new in
      record {
        distinct = distinct;
        few = omega (arith, long, many, within);
        diff = all_diff before parts.held start parts.kept left came all parts.same parts.distinct parts.split parts.whole went.rows gone went_own came_own free after.rows new c.removed c.added diff;
      }

-- ---- what goes on from the snapshot before

pub goes_held : (before : Table) (l : Listed) (columns : List PartColumn) → l.columns ≡ Some columns → GoesOn before l → IsTableOfRows before.schema before.partition (rows_of l.manifests) before × AreFit columns l.manifests
goes_held before l columns is on = subst (λ (o : Option (List PartColumn)). GoesOnFrom before l.manifests o) is on

pub listed_read : (files : Files) (location : List ℕ) (l : Listed) (columns : List PartColumn) → l.columns ≡ Some columns → IsListed files location l → AreRead files location columns l.manifests
listed_read files location l columns is listed = subst (λ (o : Option (List PartColumn)). AreReadFor files location l.manifests o) is listed

pub holds_none : (files : Files) (location : List ℕ) (columns : List PartColumn) (s : Start) → s.held.slots.items ≡ [] → HoldsRead files location columns s.held
holds_none files location columns s slots = λ m there. absurd (no_slot m (subst (λ (l : List (Option Manifest)). Contains l (Some m)) slots there))
  where
    no_slot : (m : Manifest) → Contains [] (Some m) → ⊥
    no_slot m h = absurd (omega (arith, h.1))

pub step_made : (tells : Type 0) (files : Files) (m : Metadata) (plan : Plan) (before : Table) (was : Listed) (columns : List PartColumn) → columns ≡ part_columns plan.columns → (manifests : List Manifest) → entries_once manifests ≤ MAX_ACTIONS → AreFit columns manifests → HasDistinctPaths before.rows
    → (tells → IsListed files m.location was → IsListRead files m plan manifests)
    → (r : Result Step Stop) → IfOk r (λ s. IsChangeTo before.rows (rows_of manifests) s.change) → IfOk r (λ s. s.change.schema ≡ Some plan.schema) → IfOk r (λ s. s.listed.manifests ≡ manifests) → IfOk r (λ s. s.listed.columns ≡ Some columns)
    → IfOk r (IsStepBy tells files m plan before was)
step_made tells files m plan before was columns same manifests within fit own read (Err e) change schema are of = tt
step_made tells files m plan before was columns same manifests within fit own read (Ok step) change schema are of = record {
  change = subst (λ (ms : List Manifest). IsChangeTo before.rows (rows_of ms) step.change) (sym are) change;
  within = subst (λ (ms : List Manifest). entries_once ms ≤ MAX_ACTIONS) (sym are) within;
  columns = of ∙ ap Some same;
  fit = subst (λ (cs : List PartColumn). AreFit cs step.listed.manifests) same (subst (AreFit columns) (sym are) fit);
  schema = schema;
  own = own;
  read = λ told listed. subst (IsListRead files m plan) (sym are) (read told listed);
}
