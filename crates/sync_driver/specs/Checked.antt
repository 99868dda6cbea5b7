-- What comparing a target with its source answers, and why.
use Rattle.std.specs.Prelude.{◌≡◌, ◌⊎◌, ◌++◌, ℕ, List, [], length, Contains, Option, Some, None, Result, Ok, Err}
use Rattle.std.specs.Ordering.{nat_cmp}
use Rattle.std.specs.declared.cmp.Ordering.TheVariants.{Less}
use Rattle.std.specs.Cmp.Lexicographic.{slice_cmp}
use Rattle.lake_store.specs.Cause.{Rose}
use Rattle.lake_store.specs.Disk.{Files}
use Rattle.lake_store.specs.Runs.{FailsBy, IsUncontestedBy, OnlyReads}
use Rattle.lake_store.specs.declared.sink.Sink as sinks
use Rattle.lake_store.specs.declared.store.Store.{Ghosts}
use Rattle.source_core.specs.Answers.{IsReadable}
use Rattle.source_core.specs.declared.error.SourceError.{SourceError}
use Rattle.source_core.specs.declared.error.SourceError.TheVariants as source_error
use Rattle.source_core.specs.declared.head.Head.{Head}
use Rattle.table_history.specs.Rows.{HasDistinctPaths, SameRows}
use Rattle.table_history.specs.declared.kind.Kind.{Kind}
use Rattle.table_history.specs.declared.limit.LimitKind.{LimitKind}
use Rattle.table_history.specs.declared.row.FileRow.{FileRow}
use Rattle.table_history.specs.declared.table.Table.{Table}
use Rattle.target_core.specs.Conditions.{GoesOn}
use Rattle.target_core.specs.Views.{IsUnpublished, View}
use Rattle.target_core.specs.declared.target.Seen.{Seen}
use Rattle.target_core.specs.declared.target.Seen.TheVariants.{Absent, Ours, Foreign}
use Rattle.target_sync.specs.Answered.{CameBefore, IsAbsence, StandsAt}
use Rattle.target_sync.specs.Applied.{position_at, status_of_source}
use Rattle.sync_driver.specs.Commands.{IsPending}
use Rattle.target_sync.specs.Dues.{IsMarked, MayBeSame}
use Rattle.sync_driver.specs.Lines.{pending_line, refusal_line, same_line}
use Rattle.target_sync.specs.Sources.{HasHead, SourceMeaning}
use Rattle.target_sync.specs.Targets.{TargetFacts}
use Rattle.sync_driver.specs.Tellings.{Tells}
use Rattle.sync_driver.specs.declared.checking.Same.{Same}
use Rattle.target_sync.specs.declared.status.Side.TheVariants as side
use Rattle.target_sync.specs.declared.status.Status.{Status}
use Rattle.target_sync.specs.declared.status.Status.TheVariants as status

-- ---- rows

-- Only one of the two has a row of this path, or they have different ones.
abbrev pub IsDifference : List FileRow → List FileRow → List ℕ → Type 0
IsDifference held rows path =
    ((row : FileRow) × Contains held row × ¬ Contains rows row × (row.path ≡ path))
    ⊎ ((row : FileRow) × Contains rows row × ¬ Contains held row × (row.path ≡ path))

-- the least such path in byte order
pub record IsFirstDifference (held rows : List FileRow) (path : List ℕ) : Type 0 where
  pub is : IsDifference held rows path
  pub first : (other : List ℕ) → IsDifference held rows other → slice_cmp nat_cmp other path ≡ Less → ⊥

-- ---- the target's mark

-- A mark of the head's position, and of the source's table as far as the two say.
abbrev pub IsMarkedAt : Head → View → Type 0
IsMarkedAt head view = IsMarked view (λ standing. (standing.to ≡ head.position) × MayBeSame head.table standing.origin.table)

-- Nothing is published, or the mark is of another position or of another table.
abbrev pub IsBehind : Head → View → Option (List ℕ) → Type 0
IsBehind head view None = IsUnpublished view
IsBehind head view (Some at) = IsMarked view (λ standing. (at ≡ standing.to) × ((standing.to ≡ head.position) × MayBeSame head.table standing.origin.table → ⊥))

-- the target is absent or ours, and behind the source's head
abbrev pub StandsBehind : SourceMeaning → TargetFacts → Files → Head → Option (List ℕ) → Type 0
StandsBehind source target files head at = source.is_head files head × StandsAt target files (λ view. GoesOn source.kind view × IsBehind head view at)

-- the target is ours, and its mark is at the source's head
abbrev pub StandsMarked : SourceMeaning → TargetFacts → Files → (View → Type 0) → Type 0
StandsMarked source target files P = (head : Head) × source.is_head files head × StandsAt target files (λ view. GoesOn source.kind view × IsMarkedAt head view × P view)

-- ---- answers, of which there is none where the command ended before

abbrev pub CheckAnswer : Type 0
CheckAnswer = Option (Result Same Status)

-- What is looked at for the head, or, where the mark is at the head, read for the whole table, has this for a fault.
abbrev pub IsCheckFault : SourceMeaning → TargetFacts → Files → SourceError → Type 0
IsCheckFault source target files e = source.at_head files e ⊎ (StandsMarked source target files (λ view. Unit {0}) × source.from_scratch files e)

abbrev pub IsCheckRefusal : SourceMeaning → TargetFacts → Files → Status → Type 0
IsCheckRefusal source target files status.Memory = Unit {0}
IsCheckRefusal source target files status.StoreFault = Unit {0}
IsCheckRefusal source target files status.Absent = source.is_absent files
IsCheckRefusal source target files (status.Malformed path) = IsCheckFault source target files (source_error.Malformed path)
IsCheckRefusal source target files (status.Unsupported side.Source feature path) = IsCheckFault source target files (source_error.Unsupported feature path)
IsCheckRefusal source target files (status.Limit side.Source which number) = IsCheckFault source target files (source_error.Limit which number)
IsCheckRefusal source target files (status.Limit (side.Target kind) which number) = (kind ≡ target.files.kind) × HasHead source files × target.is_crowded source.kind files which number
IsCheckRefusal source target files (status.Foreign kind path) = (kind ≡ target.files.kind) × HasHead source files × target.is_foreign source.kind files path
IsCheckRefusal source target files (status.Behind kind at position) = (kind ≡ target.files.kind) × ((head : Head) × (position ≡ head.position) × StandsBehind source target files head at)
IsCheckRefusal source target files (status.Differs kind path) =
    (kind ≡ target.files.kind) × StandsMarked source target files (λ view. (table : Table) × source.is_table files table × IsFirstDifference view.table.rows table.rows path)
IsCheckRefusal source target files _ = ⊥

-- a refusal of comparing a target of this format, also where the store tells nothing
abbrev pub IsOfCheck : Kind → Status → Type 0
IsOfCheck target status.Memory = Unit {0}
IsOfCheck target status.StoreFault = Unit {0}
IsOfCheck target status.Absent = Unit {0}
IsOfCheck target (status.Malformed path) = Unit {0}
IsOfCheck target (status.Unsupported side.Source feature path) = Unit {0}
IsOfCheck target (status.Limit side.Source which number) = Unit {0}
IsOfCheck target (status.Limit (side.Target kind) which number) = kind ≡ target
IsOfCheck target (status.Foreign kind path) = kind ≡ target
IsOfCheck target (status.Behind kind at position) = kind ≡ target
IsOfCheck target (status.Differs kind path) = kind ≡ target
IsOfCheck target _ = ⊥

abbrev pub IsFewOfCheck : Kind → CheckAnswer → Type 0
IsFewOfCheck target None = Unit {0}
IsFewOfCheck target (Some (Ok same)) = Unit {0}
IsFewOfCheck target (Some (Err e)) = IsOfCheck target e

-- The target's mark is at the source's head, and it has the rows that the source has from scratch.
abbrev pub IsSame : SourceMeaning → TargetFacts → Files → Same → Type 0
IsSame source target files same = StandsMarked source target files (λ view.
    ((table : Table) × source.is_table files table × SameRows view.table.rows table.rows)
    × HasDistinctPaths view.table.rows × (same.files ≡ length view.table.rows) × IsMarked view (λ standing. same.at ≡ standing.to))

abbrev pub IsCheckedSo : SourceMeaning → TargetFacts → Files → CheckAnswer → Type 0
IsCheckedSo source target files None = Unit {0}
IsCheckedSo source target files (Some (Ok same)) = IsSame source target files same
IsCheckedSo source target files (Some (Err e)) = IsCheckRefusal source target files e

-- finding the head ended it
abbrev pub IsCheckAbsent : SourceMeaning → Files → CheckAnswer → Type 0
IsCheckAbsent source files None = ⊥
IsCheckAbsent source files (Some (Ok same)) = ⊥
IsCheckAbsent source files (Some (Err e)) = IsAbsence source files e

-- the answer is this status, unless another one came before; or there is none
abbrev pub IsCheckStatus : SourceMeaning → TargetFacts → Files → Status → CheckAnswer → Type 0
IsCheckStatus source target files due None = Unit {0}
IsCheckStatus source target files due (Some (Ok same)) = ⊥
IsCheckStatus source target files due (Some (Err e)) = (e ≡ due) ⊎ CameBefore source target files e

-- No file changes, whatever is answered. Each answer has its cause, no other status is answered, and a source that is absent and a target that is foreign
-- or behind are always told so.
pub record IsCheck {S : Type 0} (store : Ghosts S) (source : SourceMeaning) (target : TargetFacts) (old new : S) (answer : CheckAnswer) : Type 0 where
  pub reads : store.tells → OnlyReads store old new
  pub fault : FailsBy store old new (answer ≡ Some (Err status.StoreFault))
  pub contest : IsUncontestedBy store old new ⊥
  pub few : IsFewOfCheck target.files.kind answer
  pub checked : store.tells → IsCheckedSo source target (store.disk old).files answer
  pub absent : store.tells → source.is_absent (store.disk old).files → IsCheckAbsent source (store.disk old).files answer
  pub foreign : store.tells → (path : List ℕ) → target.is_foreign source.kind (store.disk old).files path → IsCheckStatus source target (store.disk old).files (status.Foreign target.files.kind path) answer
  pub behind : store.tells → (head : Head) (at : Option (List ℕ)) → StandsBehind source target (store.disk old).files head at → IsCheckStatus source target (store.disk old).files (status.Behind target.files.kind at head.position) answer

-- ---- the steps

-- What was seen of a target is behind the source's head.
abbrev pub IsSeenBehind : {K : Type 0} → (K → View) → Head → Seen K → Option (List ℕ) → Type 0
IsSeenBehind view head seen None = seen ≡ Absent
IsSeenBehind {K} view head seen (Some at) = (kept : K) × (seen ≡ Ours kept) × IsBehind head (view kept) (Some at)

-- a target that was seen so isn't compared, or memory ran out
abbrev pub IsSeenRefusal : {K : Type 0} → Kind → (K → View) → Head → Seen K → Status → Type 0
IsSeenRefusal target view head seen status.Memory = Unit {0}
IsSeenRefusal target view head seen (status.Foreign kind path) = (kind ≡ target) × (seen ≡ Foreign path)
IsSeenRefusal target view head seen (status.Behind kind at position) = (kind ≡ target) × (position ≡ head.position) × IsSeenBehind view head seen at
IsSeenRefusal target view head seen _ = ⊥

-- what is kept of ours, whose mark is at the head
pub record IsKeptAtHead {K : Type 0} (view : K → View) (head : Head) (seen : Seen K) (kept : K) : Type 0 where
  pub ours : seen ≡ Ours kept
  pub marked : IsMarkedAt head (view kept)

-- The view's rows are compared with the table's, or memory ran out.
abbrev pub IsCompared : Kind → View → Table → Result Same Status → Type 0
IsCompared target view table (Ok same) = SameRows view.table.rows table.rows × HasDistinctPaths view.table.rows × (same.files ≡ length view.table.rows) × (same.at ≡ position_at view.mark)
IsCompared target view table (Err status.Memory) = Unit {0}
IsCompared target view table (Err (status.Differs kind path)) = (kind ≡ target) × IsFirstDifference view.table.rows table.rows path
IsCompared target view table (Err _) = ⊥

-- ---- what is told

abbrev pub check_line : Kind → CheckAnswer → List ℕ
check_line kind None = []
check_line kind (Some (Ok same)) = same_line kind same
check_line kind (Some (Err e)) = refusal_line e

abbrev pub check_status : CheckAnswer → Status
check_status None = status.Done
check_status (Some (Ok same)) = status.Done
check_status (Some (Err e)) = e

-- the target was compared or is behind, or memory ran out
abbrev pub IsCheckEnd : Status → Type 0
IsCheckEnd status.Done = Unit {0}
IsCheckEnd status.Memory = Unit {0}
IsCheckEnd (status.Behind kind at head) = Unit {0}
IsCheckEnd (status.Differs kind path) = Unit {0}
IsCheckEnd _ = ⊥

-- The answer is told, behind the line of a pending commit. There is none only where that line was cut.
-- Where the source can be read, the target is absent or ours and inspecting it passes no number, and no count rises, the target is compared or behind,
-- or memory ran out.
pub record Checks {S O : Type 0} (store : Ghosts S) (sink : sinks.Ghosts O) (source : SourceMeaning) (target : TargetFacts) (old new : S) (out_old out_new : O) (given : Status) : Type 0 where
  pub pending : Option (List ℕ)
  pub answer : CheckAnswer
  pub check : IsCheck store source target old new answer
  pub pending_is : store.tells → IsPending source (store.disk old).files pending (λ e. answer ≡ Some (Err (status_of_source e)))
  pub told : Tells sink out_old out_new (pending_line pending ++ check_line target.files.kind answer) (check_status answer) given
  pub first : sink.tells → ¬ (answer ≡ None) → (rest : List ℕ) × (sink.output out_new ≡ sink.output out_old ++ pending_line pending ++ rest)
  pub answered : answer ≡ None → ¬ (given ≡ status.Done)
  pub complete : store.tells → IsReadable (source.is_absent (store.disk old).files) (source.at_head (store.disk old).files) (source.from_scratch (store.disk old).files)
      → StandsAt target (store.disk old).files (GoesOn source.kind) → ((which : LimitKind) (number : ℕ) → ¬ target.is_crowded source.kind (store.disk old).files which number)
      → ¬ Rose (store.faults old) (store.faults new) → ¬ Rose (sink.faults out_old) (sink.faults out_new) → IsCheckEnd given
