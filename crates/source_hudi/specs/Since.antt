-- The commits of a Hudi timeline after a position, over the table that a target has of that position, and what speaks against them (Hudi technical specification, "Timeline").
use Rattle.std.specs.Prelude.{◌≡◌, ◌≢◌, ◌⊎◌, ◌&&◌, ◌+◌, ◌<◌, ◌≤◌, ℕ, Bool, List, [], ◌∷◌, ◌++◌, codes, filter, length, Some}
use Rattle.std.specs.Cmp.Lexicographic.{slice_cmp}
use Rattle.std.specs.Ordering.{is_lt, nat_cmp}
use Rattle.lake_basics.specs.declared.limits.TheConstants.{MAX_ACTIONS, MAX_COMMITS}
use Rattle.lake_store.specs.Disk.{Files}
use Rattle.table_history.specs.Tables.{IsAfter}
use Rattle.table_history.specs.declared.feature.Feature.TheVariants.{PartitionChange}
use Rattle.table_history.specs.declared.limit.LimitKind.TheVariants as limit
use Rattle.table_history.specs.declared.table.Commit.{Commit}
use Rattle.table_history.specs.declared.table.Table.{Table}
use Rattle.hudi_names.specs.declared.name.Action.{Action}
use Rattle.hudi_timeline.specs.Change.{GoesOn, IsChangeOf}
use Rattle.hudi_timeline.specs.Live.{completed}
use Rattle.hudi_groups.specs.declared.form.Form.TheVariants as form
use Rattle.hudi_instant.specs.declared.instant.Instant.{Instant}
use Rattle.hudi_properties.specs.declared.table.HudiTable.{HudiTable}
use Rattle.hudi_table.specs.Files.{SaysInstant, SaysProperties}
use Rattle.hudi_table.specs.Folder.{IsEarlier, IsHead, IsReached, IsUpTo}
use Rattle.hudi_table.specs.Instants.{path_of, time_of}
use Rattle.hudi_table.specs.Refusals.{IsChangeRefusal, IsInstantRefusal}
use Rattle.hudi_table.specs.declared.error.TimelineError.{TimelineError}
use Rattle.hudi_table.specs.declared.instants.CompletedInstant.{CompletedInstant}
use Rattle.hudi_table.specs.declared.instants.InstantName.{InstantName}
use Rattle.hudi_table.specs.declared.properties.Properties.{Properties}
use Rattle.hudi_table.specs.declared.reading.Naming.TheVariants.{Base}
use Rattle.source_core.specs.declared.error.SourceError.{SourceError}
use Rattle.source_core.specs.declared.error.SourceError.TheVariants.{Limit, Unsupported}
use Rattle.source_hudi.specs.Instants.{IsUnread, feature_of, is_unread, reached_in}
use Rattle.source_hudi.specs.Reading.{HasNoProperties, Tells}

-- ---- which instants

abbrev pub is_later : List ℕ → List ℕ → Bool
is_later position time = is_lt (slice_cmp nat_cmp position time)

-- the completed commits and replacecommits after the position up to the head, the oldest first
abbrev pub later_in : Files → List ℕ → List CompletedInstant
later_in files position = filter (λ c. is_later position c.time) (reached_in files)

-- the instant is after the position and not later than the head, and its action isn't read
abbrev pub is_unread_after : List ℕ → List ℕ → InstantName → Bool
is_unread_after head position i = is_later position i.time && is_unread head i

-- A file of the folder is of an instant after the position and not later than the head, and whose action isn't read.
abbrev pub IsUnreadAfter : Files → List ℕ → List ℕ → List ℕ → Action → Type 0
IsUnreadAfter files position head name action = IsEarlier position (time_of name) × IsUnread files head name action

-- the first of these names in byte order
pub record IsFirstUnreadAfter (files : Files) (position head name : List ℕ) (action : Action) : Type 0 where
  pub is : IsUnreadAfter files position head name action
  pub first : (other : List ℕ) (a : Action) → IsUnreadAfter files position head other a → IsUpTo name other

-- All instants after the position up to the head are of actions that are read.
abbrev pub AreAllReadAfter : Files → List ℕ → List ℕ → Type 0
AreAllReadAfter files position head = (name : List ℕ) (action : Action) → ¬ IsUnreadAfter files position head name action

-- ---- their commits

-- The commit has the instant's time for its position, and the change that the instant makes of the table before it.
pub record IsCommitOf (files : Files) (table : HudiTable) (before : Table) (c : CompletedInstant) (commit : Commit) : Type 0 where
  pub position : commit.position ≡ c.time
  pub instant : Instant
  pub says : SaysInstant files c instant
  pub change : IsChangeOf (completed form.Base instant) table (Some before) commit.change

-- One commit for each instant, each over the table that those before it make of the base, and the table after the last.
abbrev pub AreCommits : Files → HudiTable → Table → List CompletedInstant → List Commit → Table → Type 0
AreCommits files table base [] commits last = (commits ≡ []) × (last ≡ base)
AreCommits files table base (c ∷ cs) commits last =
    (commit : Commit) × (rest : List Commit) × (after : Table) × (commits ≡ commit ∷ rest) × IsCommitOf files table base c commit × IsAfter base commit.change after × AreCommits files table after cs rest last

-- the write stats and replaced ids of an instant
abbrev pub actions_of : Instant → ℕ
actions_of i = length i.stats + length i.replaced

-- The instants' files say so many together.
abbrev pub HaveActions : Files → List CompletedInstant → ℕ → Type 0
HaveActions files [] n = n ≡ 0
HaveActions files (c ∷ cs) n = (instant : Instant) × (rest : ℕ) × SaysInstant files c instant × HaveActions files cs rest × (n ≡ actions_of instant + rest)

-- The instants are taken one after another over the base: these are their commits and the table after them, and their actions aren't too many.
pub record AreTaken (files : Files) (table : HudiTable) (base : Table) (instants : List CompletedInstant) (commits : List Commit) (last : Table) (actions : ℕ) : Type 0 where
  pub made : AreCommits files table base instants commits last
  pub counted : HaveActions files instants actions
  pub few : actions ≤ MAX_ACTIONS

-- One instant more is taken: its commit stands behind those before it, and its actions count with theirs.
pub record IsTakenFurther (files : Files) (table : HudiTable) (c : CompletedInstant) (commits : List Commit) (before : Table) (actions : ℕ) (more : List Commit) (next : Table) (together : ℕ) : Type 0 where
  pub commit : Commit
  pub is : IsCommitOf files table before c commit
  pub behind : more ≡ commits ++ commit ∷ []
  pub after : IsAfter before commit.change next
  pub counted : together ≡ actions + actions_of is.instant
  pub few : together ≤ MAX_ACTIONS

-- What callers go on with: the commit's change fits the table before it, and the table after it is one that instants may leave where that one is.
pub record GoesFurther (table : HudiTable) (commits : List Commit) (before : Table) (more : List Commit) (next : Table) : Type 0 where
  pub commit : Commit
  pub behind : more ≡ commits ++ commit ∷ []
  pub after : IsAfter before commit.change next
  pub goes_on : GoesOn table (Some before) commit.change

-- The commits of instants that aren't too many, taken so.
pub record AreCommitsOf (files : Files) (table : HudiTable) (base : Table) (instants : List CompletedInstant) (commits : List Commit) : Type 0 where
  pub few : length instants ≤ MAX_COMMITS
  pub last : Table
  pub actions : ℕ
  pub taken : AreTaken files table base instants commits last actions

-- The commits after the position up to this head of a table of the base's partition columns, all instants there being of actions that are read.
pub record AreCommitsUpTo (files : Files) (position head : List ℕ) (table : HudiTable) (base : Table) (commits : List Commit) : Type 0 where
  pub partition : table.partition ≡ base.partition
  pub all_read : AreAllReadAfter files position head
  pub made : AreCommitsOf files table base (later_in files position) commits

-- the same up to the head, of the properties that the folder holds
pub record IsSince (files : Files) (position : List ℕ) (base : Table) (commits : List Commit) : Type 0 where
  pub head : List ℕ
  pub is_head : IsHead files head
  pub properties : Properties
  pub says : SaysProperties files properties
  pub up_to : AreCommitsUpTo files position head properties.table base commits

-- ---- causes

-- The partition columns of the properties aren't those of the base.
abbrev pub HasOtherPartition : HudiTable → Table → SourceError → Type 0
HasOtherPartition table base e = (table.partition ≢ base.partition) × (e ≡ Unsupported PartitionChange (path_of (codes "hoodie.properties")))

-- An instant after the position up to the head is of an action that isn't read, and the first such name is told.
abbrev pub HasUnreadAfter : Files → List ℕ → List ℕ → SourceError → Type 0
HasUnreadAfter files position head e = (name : List ℕ) × (action : Action) × IsFirstUnreadAfter files position head name action × (e ≡ Unsupported (feature_of action) (path_of name))

-- The file of the completed instant is refused by itself.
abbrev pub HasBadInstant : Files → CompletedInstant → SourceError → Type 0
HasBadInstant files c e = (cause : TimelineError) × IsInstantRefusal files c cause × Tells cause e

-- The instant that was read can't be taken over the table before it.
abbrev pub HasUnfit : HudiTable → CompletedInstant → Instant → Table → SourceError → Type 0
HasUnfit table c instant before e = (cause : TimelineError) × IsChangeRefusal Base table c instant (Some before) cause × Tells cause e

-- The instant's actions are too many together with so many before it.
abbrev pub HasManyActions : ℕ → Instant → SourceError → Type 0
HasManyActions before instant e = (MAX_ACTIONS < before + actions_of instant) × (e ≡ Limit limit.Actions MAX_ACTIONS)

-- An instant that was read is judged by the number of its actions, and then over the table before it.
abbrev pub ShowsOfInstant : HudiTable → CompletedInstant → Instant → Table → ℕ → SourceError → Type 0
ShowsOfInstant table c instant before actions e = HasManyActions actions instant e ⊎ ((actions + actions_of instant ≤ MAX_ACTIONS) × HasUnfit table c instant before e)

-- the completed instant's file comes before these
abbrev pub ShowsAtInstant : Files → HudiTable → CompletedInstant → Table → ℕ → SourceError → Type 0
ShowsAtInstant files table c before actions e = HasBadInstant files c e ⊎ ((instant : Instant) × SaysInstant files c instant × ShowsOfInstant table c instant before actions e)

-- One of the instants is refused, those before it being taken over the base.
pub record HasRefusedAfter (files : Files) (table : HudiTable) (base : Table) (instants : List CompletedInstant) (e : SourceError) : Type 0 where
  pub front : List CompletedInstant
  pub instant : CompletedInstant
  pub behind : List CompletedInstant
  pub split : instants ≡ front ++ instant ∷ behind
  pub commits : List Commit
  pub before : Table
  pub actions : ℕ
  pub taken : AreTaken files table base front commits before actions
  pub refused : ShowsAtInstant files table instant before actions e

abbrev pub HasManyCommits : List CompletedInstant → SourceError → Type 0
HasManyCommits instants e = (MAX_COMMITS < length instants) × (e ≡ Limit limit.Commits MAX_COMMITS)

-- The number of instants is judged before the first of them is read.
abbrev pub ShowsInLater : Files → HudiTable → Table → List CompletedInstant → SourceError → Type 0
ShowsInLater files table base instants e = HasManyCommits instants e ⊎ ((length instants ≤ MAX_COMMITS) × HasRefusedAfter files table base instants e)

-- The instants after the position are judged by their names before that.
abbrev pub ShowsAfter : Files → List ℕ → List ℕ → HudiTable → Table → SourceError → Type 0
ShowsAfter files position head table base e = HasUnreadAfter files position head e ⊎ (AreAllReadAfter files position head × ShowsInLater files table base (later_in files position) e)

-- The partition columns come before them.
abbrev pub ShowsOver : Files → List ℕ → List ℕ → HudiTable → Table → SourceError → Type 0
ShowsOver files position head table base e = HasOtherPartition table base e ⊎ ((table.partition ≡ base.partition) × ShowsAfter files position head table base e)

-- The properties are read before that.
abbrev pub ShowsReached : Files → List ℕ → Table → SourceError → Type 0
ShowsReached files position base e = HasNoProperties files e ⊎ ((p : Properties) × SaysProperties files p × (head : List ℕ) × IsHead files head × ShowsOver files position head p.table base e)

-- All of it is told of a position that is reached.
abbrev pub ShowsSince : Files → List ℕ → Table → SourceError → Type 0
ShowsSince files position base e = IsReached files position × ShowsReached files position base e
