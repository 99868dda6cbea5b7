-- The rows of live entries fit the columns of their manifest.
use Rattle.std.proofs.Common.{ℕ, List, [], ◌∷◌, Bool, true, false, cond, sym, subst}
use Rattle.std.specs.List.{AllByRecursion, filter}
use Rattle.avro_value.specs.declared.api.TheConstants.{MAX_VALUES}
use Rattle.table_history.proofs.RowListLemmas.{all_at}
use Rattle.iceberg_manifest.specs.Entry.{EntryData}
use Rattle.iceberg_manifest.specs.Kinds.{AreOfKinds}
use Rattle.iceberg_manifest.specs.Lists.{AreEach}
use Rattle.iceberg_live.specs.Live.{IsRowOf}
use Rattle.iceberg_manifest.specs.Entry.{is_live}
use Rattle.iceberg_live.specs.LiveRows.{AreLiveRows}
use Rattle.iceberg_manifest.specs.declared.info.ManifestInfo.{ManifestInfo}
use Rattle.iceberg_live.specs.declared.live.LiveRow.{LiveRow}
use Rattle.iceberg_manifest.specs.declared.partition.PartColumn.{PartColumn}
use Rattle.iceberg_manifest.proofs.KindLaws.{entries_kinds}
use Rattle.iceberg_table.specs.Kinds.{FitLive, FitsColumns}
use Rattle.iceberg_table.specs.Manifests.{AreEntries}

kept_by : (P : EntryData → Type 0) (p : EntryData → Bool) (e : EntryData) (es : List EntryData) (b : Bool) → P e → AllByRecursion P (filter p es) → AllByRecursion P (cond b (e ∷ filter p es) (filter p es))
kept_by P p e es true here rest = (here, rest)
kept_by P p e es false here rest = rest

kept : (P : EntryData → Type 0) (p : EntryData → Bool) (es : List EntryData) → AllByRecursion P es → AllByRecursion P (filter p es)
kept P p [] all = tt
kept P p (e ∷ es) all = kept_by P p e es (p e) all.0 (kept P p es all.1)

row_fits : (location : List ℕ) (columns : List PartColumn) (info : ManifestInfo) (e : EntryData) (live : LiveRow) → AreOfKinds columns e.values → IsRowOf location info e live → FitsColumns columns live.row
row_fits location columns info e live kinds is = record { path = is.path; values = subst (AreOfKinds columns) (sym is.values) kinds }

rows_fit : (location : List ℕ) (columns : List PartColumn) (info : ManifestInfo) (es : List EntryData) (rows : List LiveRow) → AllByRecursion (λ e. AreOfKinds columns e.values) es → AreEach (IsRowOf location info) es rows → AllByRecursion (λ live. FitsColumns columns live.row) rows
rows_fit location columns info [] [] all are = tt
rows_fit location columns info [] (r ∷ rs) all are = absurd are
rows_fit location columns info (e ∷ es) [] all are = absurd are
rows_fit location columns info (e ∷ es) (r ∷ rs) all are = (row_fits location columns info e r all.0 are.0, rows_fit location columns info es rs all.1 are.1)

pub live_fit : (location : List ℕ) (columns : List PartColumn) (info : ManifestInfo) (bytes : List ℕ) (entries : List EntryData) (rows : List LiveRow) → AreEntries columns bytes entries → AreLiveRows location info entries rows → FitLive columns rows
live_fit location columns info bytes entries rows are live =
    λ row there. all_at (λ (l : LiveRow). FitsColumns columns l.row) rows row
    (rows_fit location columns info (filter is_live entries) rows (kept (λ e. AreOfKinds columns e.values) is_live entries (entries_kinds MAX_VALUES columns bytes entries are)) live) there
