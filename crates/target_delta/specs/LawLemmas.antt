-- What is left of the laws of a target.
use Rattle.std.proofs.Common.{◌≡◌, ℕ, ◌≤◌, List, Some, None, subst, sym}
use Rattle.std.specs.Prelude.{◌↔◌}
use Rattle.std.specs.FinMap as map
use Rattle.lake_store.specs.Disk.{Files}
use Rattle.lake_store.specs.Runs.{IsIn}
use Rattle.table_history.specs.History.{FitsColumn, column_type}
use Rattle.table_history.specs.TypeTree.{ColumnTrees}
use Rattle.table_history.specs.declared.limit.LimitKind.{LimitKind}
use Rattle.table_history.specs.declared.row.PartValue.{PartValue}
use Rattle.table_history.specs.declared.table.Change.{Change}
use Rattle.table_history.specs.declared.table.Commit.{Commit}
use Rattle.table_history.specs.declared.table.Table.{Table}
use Rattle.delta_table.specs.SameVersions.{own_versions}
use Rattle.delta_table.specs.Versions.{log_folder}
use Rattle.target_core.specs.Conditions.{IsPublishable}
use Rattle.target_core.specs.Folders.{SameIn}
use Rattle.target_core.specs.Views.{Origin, Standing, View}
use Rattle.target_core.specs.declared.target.TargetError.{TargetError}
use Rattle.target_delta.specs.DeltaMeaning.{image}
use Rattle.target_delta.specs.Fitting.{Unfit}
use Rattle.target_delta.specs.Kept.{StandsFor, end_of, view_of}
use Rattle.target_delta.specs.Names.{HasVersions, IsReached}
use Rattle.target_delta.specs.Reading.{IsCarried, Reads, commits_in}
use Rattle.target_delta.specs.Writing.{LogEnd, Passes}
use Rattle.target_delta.specs.declared.kept.DeltaKept.{DeltaKept}
use Rattle.target_delta.specs.CountLemmas.{count_is}
use Rattle.target_delta.specs.FitLemmas.{unfit_same}
use Rattle.target_delta.specs.KeptLemmas.{one_end, versions_of_reads}
use Rattle.target_delta.specs.ReadingLemmas.{reached_carries, reached_reads, versions_too}

pub kept_counted : (id : List ℕ) (kept : DeltaKept) (files : Files) → StandsFor id kept files → HasVersions files kept.commits
kept_counted id kept files stands = versions_of_reads files (view_of kept) stands.reads

pub counted_own : (n : ℕ) (a b : Files) → SameIn log_folder a b → HasVersions a n → HasVersions b n
counted_own n a b same h = versions_too a b (own_versions a b same) n h

pub image_publishable : (table : Table) (held : ColumnTrees) → image table.schema ≡ Some held → IsPublishable table → IsPublishable (record { schema = held; partition = table.partition; rows = table.rows })
image_publishable table held is may =
    let same : table.schema ≡ held = cc in
    subst (λ (s : ColumnTrees). IsPublishable (record { schema = s; partition = table.partition; rows = table.rows })) same may

pub image_kinds : (schema held : ColumnTrees) → image schema ≡ Some held → (name : List ℕ) (value : PartValue) → FitsColumn (column_type schema name) value ↔ FitsColumn (column_type held name) value
image_kinds schema held is name value =
    let same : schema ≡ held = cc in
    let P : ColumnTrees → Type 0 = λ s. FitsColumn (column_type s name) value in
    (λ fits. subst P same fits, λ fits. subst P (sym same) fits)

pub unfit_alike : (id : List ℕ) (kept other : DeltaKept) (files : Files) (partition : List (List ℕ)) (commits : List Commit) (e : TargetError) → StandsFor id kept files → StandsFor id other files
    → kept.table.partition ≡ other.table.partition → Unfit (end_of kept) partition commits e → Unfit (end_of other) partition commits e
unfit_alike id kept other files partition commits e h k same unfit = unfit_same (end_of kept) (end_of other) partition commits e (one_end files id kept other h k same) unfit

pub passes_alike : (id : List ℕ) (kept other : DeltaKept) (files : Files) (origin : Origin) (now : ℕ) (commits : List Commit) (which : LimitKind) (number : ℕ) → StandsFor id kept files → StandsFor id other files
    → kept.table.partition ≡ other.table.partition → Passes (end_of kept) origin now commits which number → Passes (end_of other) origin now commits which number
passes_alike id kept other files origin now commits which number h k same passes = subst (λ (end : LogEnd). Passes end origin now commits which number) (one_end files id kept other h k same) passes

pub reached_alone : (new : List ℕ) (a b : Files) (v : View) → ((path : List ℕ) → IsReached a path → map.get b path ≡ map.get a path) → ((path : List ℕ) → IsIn log_folder path → (IsReached a path → ⊥) → map.get b path ≡ None)
    → Reads a v → Reads b v × ((c : ℕ) (change : Change) (m : Standing) → c ≤ v.commits → IsCarried new a c change m → IsCarried new b c change m)
reached_alone new a b v same none reads = (reached_reads a b same none v reads, λ c change m le h. reached_carries a b same none new c change m h)

pub commits_read : (files : Files) (v : View) → Reads files v → commits_in files ≡ v.commits
commits_read files v reads = count_is files v.commits (versions_of_reads files v reads)
