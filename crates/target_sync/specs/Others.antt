-- What is said of one target of a command that may name another one.
use Rattle.std.specs.Prelude.{◌≡◌, ℕ, List, Option, Some, None}
use Rattle.lake_store.specs.Cause.{HasFault}
use Rattle.lake_store.specs.Disk.{Files}
use Rattle.lake_store.specs.Runs.{IsContestedBy, LeavesAlone, OnlyReads}
use Rattle.lake_store.specs.declared.store.Store.{Ghosts}
use Rattle.table_history.specs.declared.kind.Kind.{Kind}
use Rattle.target_core.specs.Folders.{SameIn, folder_of}
use Rattle.target_core.specs.OwnFiles.{MayNotTouch, TouchesOwn}

-- no file of either target
abbrev pub NeitherTouches : Kind → Kind → List ℕ → Type 0
NeitherTouches target other path = MayNotTouch target path × MayNotTouch other path

-- No files change but the target's own, and those of the other target, if there is one. All else in their folders stays.
abbrev pub ChangesTargets : {S : Type 0} → Ghosts S → Kind → Option Kind → S → S → Type 0
ChangesTargets store target None old new = TouchesOwn store target old new
ChangesTargets store target (Some other) old new = LeavesAlone store (NeitherTouches target other) old new

-- Files are read alone, but for those of the other target, if there is one.
abbrev pub IsIdle : {S : Type 0} → Ghosts S → Option Kind → S → S → Type 0
IsIdle store None old new = OnlyReads store old new
IsIdle store (Some other) old new = TouchesOwn store other old new

-- the source is of another format than the targets
abbrev pub IsApart : Kind → Kind → Option Kind → Type 0
IsApart source target None = ¬ (source ≡ target)
IsApart source target (Some other) = ¬ (source ≡ target) × ¬ (source ≡ other)

-- What was written to the target's folder is this. The other target, if there is one, has its own folder written to before it or behind it.
abbrev pub HasWritten : Kind → Option Kind → (Files → Files → Type 0) → Files → Files → Type 0
HasWritten target None writes before files = writes before files
HasWritten target (Some other) writes before files = (from to : Files) × SameIn (folder_of target) before from × SameIn (folder_of target) to files × writes from to

-- It is refused so only where another writer was in the way, which was counted. Without another target nothing else is counted.
abbrev pub CountsContest : {S : Type 0} → Ghosts S → Option Kind → S → S → Type 0 → Type 0
CountsContest store None old new Refused = IsContestedBy store old new Refused
CountsContest store (Some other) old new Refused = HasFault store.contests store.may_contest old new Refused
