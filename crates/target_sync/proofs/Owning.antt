-- What is said of a source and of a target is the same of files that differ outside of their folders alone.
use Rattle.std.proofs.Common.{◌≡◌, ◌⊎◌, inl, inr, ⊎_elim, ℕ, ◌+◌, Bool, List, length, take, Option, Some, None}
use Rattle.std.specs.Prelude.{Ok, Err}
use Rattle.std.specs.FinMap as map
use Rattle.lake_store.specs.Disk.{Disk, Files, IsClean}
use Rattle.lake_store.specs.Runs.{IsIn}
use Rattle.source_core.specs.declared.error.SourceError.{SourceError}
use Rattle.source_core.specs.declared.error.SourceError.TheVariants as source_error
use Rattle.source_core.specs.declared.head.Head.{Head}
use Rattle.table_history.specs.declared.kind.Kind.{Kind}
use Rattle.table_history.specs.declared.limit.LimitKind.{LimitKind}
use Rattle.table_history.specs.declared.table.Change.{Change}
use Rattle.table_history.specs.declared.table.Commit.{Commit}
use Rattle.table_history.specs.declared.table.Table.{Table}
pub use Rattle.target_core.specs.FolderLemmas.{same_back}
use Rattle.target_core.specs.Folders.{SameIn, folder_of}
use Rattle.target_core.specs.Gained.{Gained}
use Rattle.target_core.specs.Views.{Origin, Standing, View, standing_at}
use Rattle.target_core.specs.declared.target.Target as targets
use Rattle.target_core.specs.declared.target.TargetError.{TargetError}
use Rattle.target_core.specs.declared.target.TargetError.TheVariants as target_error
use Rattle.target_sync.specs.Answered.{Answer, CameBefore, CanSync, IsAbsence, IsAbsent, IsCaused, IsOverAtFirst, IsPassed, IsPassedAtFirst, IsReadFault, IsRefusal, IsSourceFault, IsStatus, IsUnfit, StandsAtHead}
use Rattle.target_sync.specs.Dues.{AreSinceMark, Due, IsIdBehind, IsInFull, IsMarked, IsSinceFault, IsWhole, TakesCommits, origin_of}
use Rattle.target_sync.specs.Plans.{IsDuePlan}
use Rattle.target_sync.specs.Sources.{HasHead, SourceMeaning}
use Rattle.target_sync.specs.Synced.{IsAsBefore, IsAsBeforeOrUnderway, IsAtHead, IsUnderway, with_columns}
use Rattle.target_sync.specs.Targets.{TargetFacts, target_facts}
use Rattle.target_sync.specs.declared.plan.Mode.{Mode}
use Rattle.target_sync.specs.declared.plan.Plan.{Plan}
use Rattle.target_sync.specs.declared.status.Side.TheVariants as side
use Rattle.target_sync.specs.declared.status.Status.{Status}
use Rattle.target_sync.specs.declared.status.Status.TheVariants as status
use Rattle.target_sync.proofs.Standing.{SourceLaws}

-- the faults of a source depend on its own folder alone
pub record FaultLaws (source : SourceMeaning) : Type 0 where
  pub at_head : (a b : Files) (e : SourceError) → SameIn (folder_of source.kind) a b → source.at_head a e → source.at_head b e
  pub from_scratch : (a b : Files) (e : SourceError) → SameIn (folder_of source.kind) a b → source.from_scratch a e → source.from_scratch b e
  pub from_position : (a b : Files) (position : List ℕ) (base : Table) (e : SourceError) → SameIn (folder_of source.kind) a b → source.from_position a position base e → source.from_position b position base e

-- what a target's files mean depends on its own folder alone
pub record OwnLaws (target : TargetFacts) : Type 0 where
  pub reads : (a b : Files) (v : View) → SameIn (folder_of target.files.kind) a b → target.files.reads a v → target.files.reads b v
  pub commits : (a b : Files) → SameIn (folder_of target.files.kind) a b → target.files.commits_in b ≡ target.files.commits_in a
  pub carries : (a b : Files) (c : ℕ) (change : Change) (m : Standing) → SameIn (folder_of target.files.kind) a b → target.files.carries a c change m → target.files.carries b c change m
  pub settled : (a b : Disk) → SameIn (folder_of target.files.kind) a.files b.files → ((path : List ℕ) → IsIn (folder_of target.files.kind) path → IsClean a path → IsClean b path) → target.files.settled a → target.files.settled b
  pub reached_in : (files : Files) (path : List ℕ) → target.files.reached files path → IsIn (folder_of target.files.kind) path
  pub reached_stays : (a b : Files) → ((path : List ℕ) → target.files.reached a path → map.get b path ≡ map.get a path) → (path : List ℕ) → target.files.reached a path → target.files.reached b path
  pub foreign : (a b : Files) (source : Kind) (path : List ℕ) → SameIn (folder_of target.files.kind) a b → target.is_foreign source a path → target.is_foreign source b path
  pub crowded : (a b : Files) (source : Kind) (which : LimitKind) (number : ℕ) → SameIn (folder_of target.files.kind) a b → target.is_crowded source a which number → target.is_crowded source b which number
  pub unfit : (a b : Files) (partition : List (List ℕ)) (commits : List Commit) (e : TargetError) → SameIn (folder_of target.files.kind) a b → target.unfit a partition commits e → target.unfit b partition commits e
  pub passes : (a b : Files) (partition : List (List ℕ)) (origin : Origin) (now : ℕ) (commits : List Commit) (which : LimitKind) (number : ℕ) → SameIn (folder_of target.files.kind) a b
      → target.passes a partition origin now commits which number → target.passes b partition origin now commits which number

-- ---- where the source's folder is the same

module _ (source : SourceMeaning) (laws : SourceLaws source) (a b : Files) (same : SameIn (folder_of source.kind) a b) where
  pub has_head : HasHead source a → HasHead source b
  has_head is = (is.0, laws.head_own a b is.0 same is.1)

  pub whole_own : (standing : Standing) → IsWhole source a standing → IsWhole source b standing
  whole_own standing is = (record { format = is.0.format; head = is.0.head; is_head = laws.head_own a b is.0.head same is.0.is_head; table = is.0.table }, laws.reaches_own a b standing.to same is.1)

  pub marked_own : (start : View) → IsMarked start (IsWhole source a) → IsMarked start (IsWhole source b)
  marked_own start is = (is.0, is.1, whole_own is.0 is.2)

  pub takes_own : (mode : Mode) (start : View) → TakesCommits source mode a start → TakesCommits source mode b start
  takes_own mode start is = (is.0, marked_own start is.1)

  pub stands_at_head : (start : View) → StandsAtHead source a start → StandsAtHead source b start
  stands_at_head start is = (is.0, is.1, (whole_own is.0 is.2.0, (is.2.1.0, laws.head_own a b is.2.1.0 same is.2.1.1, is.2.1.2)))

module _ (source : SourceMeaning) (laws : SourceLaws source) (a b : Files) (same : SameIn (folder_of source.kind) a b) where
  back : SameIn (folder_of source.kind) b a
  back = same_back (folder_of source.kind) a b same

  pub id_own : (start : View) (stated id : Option (List ℕ)) → IsIdBehind source a start stated id → IsIdBehind source b start stated id
  id_own start (Some stated) id is = is
  id_own start None id is = (
    λ standing marked whole. is.0 standing marked (whole_own source laws b a back standing whole),
    λ never. is.1 (λ (whole : IsMarked start (IsWhole source a)). never (marked_own source laws a b same start whole)),
  )

  pub since_own : (mode : Mode) (start : View) (partition : List (List ℕ)) (commits : List Commit) (full : Bool) → AreSinceMark source mode a start partition commits full → AreSinceMark source mode b start partition commits full
  since_own mode start partition commits full is = record {
    sync = is.sync;
    marked =
        let standing : Standing = is.marked.0 in
        let base : Table = is.marked.2.1.0 in
        (standing, is.marked.1, (whole_own source laws a b same standing is.marked.2.0, (base, is.marked.2.1.1, laws.since_own a b standing.to base commits same is.marked.2.1.2)));
    columns = is.columns;
    way = is.way;
  }

  pub full_own : (mode : Mode) (start : View) (head : Head) (partition : List (List ℕ)) (commits : List Commit) (full : Bool) → IsInFull source mode a start head partition commits full → IsInFull source mode b start head partition commits full
  full_own mode start head partition commits full is = record {
    not_since = λ takes. is.not_since (takes_own source laws b a back mode start takes);
    table = is.table;
    is_table = laws.table_own a b is.table same is.is_table;
    commit = is.commit;
    only = is.only;
    position = is.position;
    change = is.change;
    leads = is.leads;
    columns = is.columns;
    way = is.way;
  }

  unfoldable pub due_own : (mode : Mode) (start : View) → Due source mode a start → Due source mode b start
  due_own mode start due = record {
    head = due.head;
    is_head = laws.head_own a b due.head same due.is_head;
    id = due.id;
    is_id = id_own start due.head.table due.id due.is_id;
    partition = due.partition;
    commits = due.commits;
    full = due.full;
    way = ⊎_elim (λ (is : AreSinceMark source mode a start due.partition due.commits due.full). inl (since_own mode start due.partition due.commits due.full is))
        (λ (is : IsInFull source mode a start due.head due.partition due.commits due.full). inr (full_own mode start due.head due.partition due.commits due.full is)) due.way;
  }

-- ---- where the target's folder is the same

module _ (source : SourceMeaning) (target : TargetFacts) (own : OwnLaws target) (mode : Mode) (start : View) (before a b : Files) (same : SameIn (folder_of target.files.kind) a b) where
  pub as_before_own : IsAsBefore target.files start before a → IsAsBefore target.files start before b
  as_before_own is = record { view = is.view; same = is.same; reads = own.reads a b is.view same is.reads; earlier = λ c change m le was. own.carries a b c change m same (is.earlier c change m le was) }

  unfoldable pub gained_own : (origin : Origin) (here : View) (commits : List Commit) (n : ℕ) → Gained target.files origin here before commits n a → Gained target.files origin here before commits n b
  gained_own origin here commits n gained = record {
    within = gained.within;
    view = gained.view;
    leads = gained.leads;
    stands = own.reads a b gained.view same gained.stands;
    each = λ i commit within at. own.carries a b (here.commits + i + 1) commit.change (standing_at origin commit.position) same (gained.each i commit within at);
    earlier = λ c change m le was. own.carries a b c change m same (gained.earlier c change m le was);
  }

  pub underway_own : IsUnderway source target.files mode start before a → IsUnderway source target.files mode start before b
  underway_own is = record {
    due = is.due;
    columns = is.columns;
    gained = record { count = is.gained.count; gained = gained_own (origin_of is.due) (with_columns is.due.partition start) is.due.commits is.gained.count is.gained.gained };
  }

  pub either_own : IsAsBeforeOrUnderway source target.files mode start before a → IsAsBeforeOrUnderway source target.files mode start before b
  either_own (inl is) = inl (as_before_own is)
  either_own (inr is) = inr (underway_own is)

  unfoldable pub at_head_own : IsAtHead source target.files mode start before a → IsAtHead source target.files mode start before b
  unfolding gained_own
  at_head_own is = record {
    due = is.due;
    columns = is.columns;
    gained = gained_own (origin_of is.due) (with_columns is.due.partition start) is.due.commits (length is.due.commits) is.gained;
    position = is.position;
    in_full = is.in_full;
  }

-- the same of the files before
module _ (source : SourceMeaning) (laws : SourceLaws source) (target : TargetFacts) (own : OwnLaws target) (mode : Mode) (start : View) (a b files : Files)
    (source_same : SameIn (folder_of source.kind) a b) (same : SameIn (folder_of target.files.kind) b a) where
  pub as_before_since : IsAsBefore target.files start a files → IsAsBefore target.files start b files
  as_before_since is = record { view = is.view; same = is.same; reads = is.reads; earlier = λ c change m le was. is.earlier c change m le (own.carries b a c change m same was) }

  unfoldable pub gained_since : (origin : Origin) (here : View) (commits : List Commit) (n : ℕ) → Gained target.files origin here a commits n files → Gained target.files origin here b commits n files
  gained_since origin here commits n gained = record {
    within = gained.within;
    view = gained.view;
    leads = gained.leads;
    stands = gained.stands;
    each = gained.each;
    earlier = λ c change m le was. gained.earlier c change m le (own.carries b a c change m same was);
  }

  pub underway_since : IsUnderway source target.files mode start a files → IsUnderway source target.files mode start b files
  unfolding due_own
  underway_since is = record {
    due = due_own source laws a b source_same mode start is.due;
    columns = is.columns;
    gained = record { count = is.gained.count; gained = gained_since (origin_of is.due) (with_columns is.due.partition start) is.due.commits is.gained.count is.gained.gained };
  }

  pub either_since : IsAsBeforeOrUnderway source target.files mode start a files → IsAsBeforeOrUnderway source target.files mode start b files
  either_since (inl is) = inl (as_before_since is)
  either_since (inr is) = inr (underway_since is)

  unfoldable pub at_head_since : IsAtHead source target.files mode start a files → IsAtHead source target.files mode start b files
  unfolding due_own gained_since
  at_head_since is = record {
    due = due_own source laws a b source_same mode start is.due;
    columns = is.columns;
    gained = gained_since (origin_of is.due) (with_columns is.due.partition start) is.due.commits (length is.due.commits) is.gained;
    position = is.position;
    in_full = λ full.
        let table = is.in_full full in
        record { table = table.table; is_table = laws.table_own a b table.table source_same table.is_table; rows = table.rows; partition = table.partition; schema = table.schema };
  }

-- ---- where both folders are the same

module _ (source : SourceMeaning) (laws : SourceLaws source) (faults : FaultLaws source) (target : TargetFacts) (own : OwnLaws target) (mode : Mode) (now : ℕ) (a b : Files)
    (source_same : SameIn (folder_of source.kind) a b) (same : SameIn (folder_of target.files.kind) a b) where
  since_fault_own : (start : View) (e : SourceError) → IsSinceFault source a start e → IsSinceFault source b start e
  since_fault_own start e is = (is.0, is.1, (whole_own source laws a b source_same is.0 is.2.0, faults.from_position a b is.0.to start.table e source_same is.2.1))

  pub read_fault_own : (e : SourceError) → IsReadFault source target mode a e → IsReadFault source target mode b e
  read_fault_own e is = (
    has_head source laws a b source_same is.0,
    (
      is.1.0,
      own.reads a b is.1.0 same is.1.1,
      (
        is.1.2.0,
        ⊎_elim (λ since. inl (since.0, since_fault_own is.1.0 e since.1))
            (λ full. inr ((λ takes. full.0 (takes_own source laws b a (same_back (folder_of source.kind) a b source_same) mode is.1.0 takes)), faults.from_scratch a b e source_same full.1)) is.1.2.1,
      ),
    ),
  )

  pub source_fault_own : (e : SourceError) → IsSourceFault source target mode a e → IsSourceFault source target mode b e
  source_fault_own e (inl head) = inl (faults.at_head a b e source_same head)
  source_fault_own e (inr read) = inr (read_fault_own e read)

  pub unfit_own : (e : TargetError) → IsUnfit source target mode a e → IsUnfit source target mode b e
  unfolding due_own
  unfit_own e is = (
    is.0,
    own.reads a b is.0 same is.1,
    (is.2.0, (due_own source laws a b source_same mode is.0 is.2.1.0, own.unfit a b is.2.1.0.partition is.2.1.0.commits e same is.2.1.1)),
  )

  pub passed_own : (which : LimitKind) (number : ℕ) → IsPassed source target mode now a which number → IsPassed source target mode now b which number
  unfolding due_own
  passed_own which number is =
      let due = is.2.1.0 in
      let passed = is.2.1.1 in (
        is.0,
        own.reads a b is.0 same is.1,
        (is.2.0, (due_own source laws a b source_same mode is.0 due, (passed.0, passed.1, own.passes a b due.partition (origin_of due) now (take (passed.0 + 1) due.commits) which number same passed.2))),
      )

  passed_first_own : (which : LimitKind) (number : ℕ) → IsPassedAtFirst source target mode now a which number → IsPassedAtFirst source target mode now b which number
  unfolding due_own
  passed_first_own which number is =
      let due = is.2.1.0 in (
        is.0,
        own.reads a b is.0 same is.1,
        (is.2.0, (due_own source laws a b source_same mode is.0 due, (is.2.1.1.0, own.passes a b due.partition (origin_of due) now (take 1 due.commits) which number same is.2.1.1.1))),
      )

  pub over_own : (which : LimitKind) (number : ℕ) → IsOverAtFirst source target mode now a which number → IsOverAtFirst source target mode now b which number
  over_own which number (inl crowded) = inl (own.crowded a b source.kind which number same crowded)
  over_own which number (inr (inl unfit)) = inr (inl (unfit_own (target_error.Limit which number) unfit))
  over_own which number (inr (inr passed)) = inr (inr (passed_first_own which number passed))

  limit_own : (Idle : Type 0) (which : LimitKind) (number : ℕ)
      → (Idle × HasHead source a × target.is_crowded source.kind a which number) ⊎ ((Idle × IsUnfit source target mode a (target_error.Limit which number)) ⊎ IsPassed source target mode now a which number)
      → (Idle × HasHead source b × target.is_crowded source.kind b which number) ⊎ ((Idle × IsUnfit source target mode b (target_error.Limit which number)) ⊎ IsPassed source target mode now b which number)
  limit_own Idle which number (inl is) = inl (is.0, has_head source laws a b source_same is.1, own.crowded a b source.kind which number same is.2)
  limit_own Idle which number (inr (inl is)) = inr (inl (is.0, unfit_own (target_error.Limit which number) is.1))
  limit_own Idle which number (inr (inr is)) = inr (inr (passed_own which number is))

  refusal_own : (Idle : Type 0) (e : Status) → IsRefusal Idle source target mode now a e → IsRefusal Idle source target mode now b e
  refusal_own Idle status.Done is = is
  refusal_own Idle status.Memory is = is
  refusal_own Idle status.Usage is = is
  refusal_own Idle status.Absent is = (is.0, laws.absent_own a b source_same is.1)
  refusal_own Idle (status.Malformed path) is = (is.0, source_fault_own (source_error.Malformed path) is.1)
  refusal_own Idle (status.Unsupported side.Source feature path) is = (is.0, source_fault_own (source_error.Unsupported feature path) is.1)
  refusal_own Idle (status.Unsupported (side.Target kind) feature path) is = (is.0, is.1, unfit_own (target_error.Unsupported feature path) is.2)
  refusal_own Idle (status.Limit side.Source which number) is = (is.0, source_fault_own (source_error.Limit which number) is.1)
  refusal_own Idle (status.Limit (side.Target kind) which number) is = (is.0, limit_own Idle which number is.1)
  refusal_own Idle (status.Foreign kind path) is = (is.0, is.1, has_head source laws a b source_same is.2, own.foreign a b source.kind path same is.3)
  refusal_own Idle (status.Contested kind) is = is
  refusal_own Idle status.StoreFault is = is
  refusal_own Idle status.SinkFault is = is
  refusal_own Idle (status.Behind kind at head) is = is
  refusal_own Idle (status.Differs kind path) is = is
  refusal_own Idle (status.Stale path) is = is

  pub caused_own : (Idle : Type 0) (answer : Answer) → IsCaused Idle source target mode now a answer → IsCaused Idle source target mode now b answer
  caused_own Idle None is = is
  caused_own Idle (Some (Ok report)) is = is
  caused_own Idle (Some (Err e)) is = refusal_own Idle e is

  came_before_own : (e : Status) → CameBefore source target a e → CameBefore source target b e
  came_before_own status.Done is = absurd is
  came_before_own status.Memory is = is
  came_before_own status.Usage is = absurd is
  came_before_own status.Absent is = laws.absent_own a b source_same is
  came_before_own (status.Malformed path) is = faults.at_head a b (source_error.Malformed path) source_same is
  came_before_own (status.Unsupported side.Source feature path) is = faults.at_head a b (source_error.Unsupported feature path) source_same is
  came_before_own (status.Unsupported (side.Target kind) feature path) is = absurd is
  came_before_own (status.Limit side.Source which number) is = faults.at_head a b (source_error.Limit which number) source_same is
  came_before_own (status.Limit (side.Target kind) which number) is = (has_head source laws a b source_same is.0, own.crowded a b source.kind which number same is.1)
  came_before_own (status.Foreign kind path) is = absurd is
  came_before_own (status.Contested kind) is = absurd is
  came_before_own status.StoreFault is = is
  came_before_own status.SinkFault is = absurd is
  came_before_own (status.Behind kind at head) is = absurd is
  came_before_own (status.Differs kind path) is = absurd is
  came_before_own (status.Stale path) is = absurd is

  pub status_own : (due : Status) (answer : Answer) → IsStatus source target a due answer → IsStatus source target b due answer
  status_own due None is = is
  status_own due (Some (Ok report)) is = absurd is
  status_own due (Some (Err e)) is = ⊎_elim (λ same. inl same) (λ before. inr (came_before_own e before)) is

  absence_own : (e : Status) → IsAbsence source a e → IsAbsence source b e
  absence_own status.Done is = absurd is
  absence_own status.Memory is = is
  absence_own status.Usage is = absurd is
  absence_own status.Absent is = is
  absence_own (status.Malformed path) is = absurd is
  absence_own (status.Unsupported side.Source feature path) is = absurd is
  absence_own (status.Unsupported (side.Target kind) feature path) is = absurd is
  absence_own (status.Limit side.Source which number) is = faults.at_head a b (source_error.Limit which number) source_same is
  absence_own (status.Limit (side.Target kind) which number) is = absurd is
  absence_own (status.Foreign kind path) is = absurd is
  absence_own (status.Contested kind) is = absurd is
  absence_own status.StoreFault is = is
  absence_own status.SinkFault is = absurd is
  absence_own (status.Behind kind at head) is = absurd is
  absence_own (status.Differs kind path) is = absurd is
  absence_own (status.Stale path) is = absurd is

  pub absent_own : (answer : Answer) → IsAbsent None source a answer → IsAbsent None source b answer
  absent_own None is = is
  absent_own (Some (Ok report)) is = is
  absent_own (Some (Err e)) is = absence_own e is

-- a sync that can be done over the one files can be done over the others
pub can_own : (source : SourceMeaning) → SourceLaws source → FaultLaws source → (target : TargetFacts) → OwnLaws target → (mode : Mode) (now : ℕ) (a b : Files) → SameIn (folder_of source.kind) a b → SameIn (folder_of target.files.kind) a b
    → CanSync source target mode now a → CanSync source target mode now b
can_own source laws faults target own mode now a b source_same same can =
    let source_back = same_back (folder_of source.kind) a b source_same in
    let back = same_back (folder_of target.files.kind) a b same in
    record {
      there = λ absent. can.there (laws.absent_own b a source_back absent);
      readable = λ e is. can.readable e (source_fault_own source laws faults target own mode now b a source_back back e is);
      served = (can.served.0, own.reads a b can.served.0 same can.served.1, can.served.2);
      roomy = λ which number is. can.roomy which number (own.crowded b a source.kind which number back is);
      fits = λ e is. can.fits e (unfit_own source laws faults target own mode now b a source_back back e is);
      small = λ which number is. can.small which number (passed_own source laws faults target own mode now b a source_back back which number is);
    }

-- of two targets one may have no answer
pub absent_of_two : (other : Kind) (source : SourceMeaning) (files : Files) (answer : Answer) → IsAbsent None source files answer → IsAbsent (Some other) source files answer
absent_of_two other source files None is = tt
absent_of_two other source files (Some (Ok report)) is = is
absent_of_two other source files (Some (Err e)) is = is

-- the laws of a target, by those of its trait
pub own_laws : {T K : Type 0} (target : targets.Ghosts T K) (t : T) → ((a b : Files) (v : View) → SameIn (folder_of (target.kind t)) a b → target.reads t a v → target.reads t b v)
    → ((a b : Files) → SameIn (folder_of (target.kind t)) a b → target.commits_in t b ≡ target.commits_in t a)
    → ((a b : Files) (c : ℕ) (change : Change) (m : Standing) → SameIn (folder_of (target.kind t)) a b → target.carries t a c change m → target.carries t b c change m)
    → ((a b : Disk) → SameIn (folder_of (target.kind t)) a.files b.files → ((path : List ℕ) → IsIn (folder_of (target.kind t)) path → IsClean a path → IsClean b path) → target.settled t a → target.settled t b)
    → ((files : Files) (path : List ℕ) → target.reached t files path → IsIn (folder_of (target.kind t)) path)
    → ((a b : Files) → ((path : List ℕ) → target.reached t a path → map.get b path ≡ map.get a path) → (path : List ℕ) → target.reached t a path → target.reached t b path)
    → ((source : Kind) (a b : Files) (path : List ℕ) → SameIn (folder_of (target.kind t)) a b → target.is_foreign t source a path → target.is_foreign t source b path)
    → ((source : Kind) (a b : Files) (which : LimitKind) (number : ℕ) → SameIn (folder_of (target.kind t)) a b → target.is_crowded t source a which number → target.is_crowded t source b which number)
    → ((kept : K) (a b : Files) (origin : Origin) (now : ℕ) (commits : List Commit) (which : LimitKind) (number : ℕ) → SameIn (folder_of (target.kind t)) a b → target.passes t kept a origin now commits which number → target.passes t kept b origin now commits which number)
    → ((kept : K) (a b : Files) → SameIn (folder_of (target.kind t)) a b → target.stands_for t kept a → target.stands_for t kept b) → OwnLaws (target_facts target t)
own_laws target t reads commits carries settled reached_in reached_stays foreign crowded passes kept_own = record {
  reads = reads;
  commits = commits;
  carries = carries;
  settled = settled;
  reached_in = reached_in;
  reached_stays = reached_stays;
  foreign = λ a b source path same is. foreign source a b path same is;
  crowded = λ a b source which number same is. crowded source a b which number same is;
  unfit = λ a b partition commits e same is. (is.0, (kept_own is.0 a b same is.1.0, is.1.1), is.2);
  passes = λ a b partition origin now commits which number same is. (is.0, (kept_own is.0 a b same is.1.0, is.1.1), passes is.0 a b origin now commits which number same is.2);
}

-- what is due over the one files is due over the others
pub due_plan_own : {K : Type 0} (view : K → View) (stands_for : K → Files → Type 0) (source : SourceMeaning) → SourceLaws source → (a b : Files) → ((kept : K) → stands_for kept a → stands_for kept b) → SameIn (folder_of source.kind) a b
    → (mode : Mode) (head : Head) (plan : Plan K) → IsDuePlan view stands_for source mode a head plan → IsDuePlan view stands_for source mode b head plan
due_plan_own view stands_for source laws a b kept_own same mode head plan is = record {
  stands = kept_own plan.kept is.stands;
  is_id = id_own source laws a b same (view plan.kept) head.table plan.table is.is_id;
  way = ⊎_elim (λ (since : AreSinceMark source mode a (view plan.kept) plan.partition plan.commits plan.full). inl (since_own source laws a b same mode (view plan.kept) plan.partition plan.commits plan.full since))
      (λ (full : IsInFull source mode a (view plan.kept) head plan.partition plan.commits plan.full). inr (full_own source laws a b same mode (view plan.kept) head plan.partition plan.commits plan.full full)) is.way;
}
