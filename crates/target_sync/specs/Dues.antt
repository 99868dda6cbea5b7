-- What is to be published to a target that is brought to the source's head.
use Rattle.std.specs.Prelude.{◌≡◌, ◌⊎◌, ℕ, Bool, true, false, List, [], ◌∷◌, Option, Some, None}
use Rattle.lake_store.specs.Disk.{Files}
use Rattle.source_core.specs.declared.error.SourceError.{SourceError}
use Rattle.source_core.specs.declared.head.Head.{Head}
use Rattle.table_history.specs.Tables.{IsDiff, LeadsTo, SameTable}
use Rattle.table_history.specs.declared.table.Change.{Change}
use Rattle.table_history.specs.declared.table.Commit.{Commit}
use Rattle.table_history.specs.declared.table.Table.{Table}
use Rattle.target_core.specs.Views.{Origin, Standing, View}
use Rattle.target_sync.specs.Sources.{SourceMeaning}
use Rattle.target_sync.specs.declared.plan.Mode.{Mode}
use Rattle.target_sync.specs.declared.plan.Mode.TheVariants as modes

-- What differs between the rows of the two tables, and the schema of the second.
pub record IsChangeTo (before after : Table) (change : Change) : Type 0 where
  pub rows : IsDiff before.rows after.rows change.removed change.added
  pub schema : change.schema ≡ Some after.schema

-- ---- the history since a mark

-- The two ids are the same, or one of them isn't stated.
abbrev pub MayBeSame : Option (List ℕ) → Option (List ℕ) → Type 0
MayBeSame None b = Unit {0}
MayBeSame (Some a) None = Unit {0}
MayBeSame (Some a) (Some b) = a ≡ b

-- The mark is of the source's format, and of its table as far as the two say.
pub record IsOfTable (source : SourceMeaning) (files : Files) (standing : Standing) : Type 0 where
  pub format : standing.origin.source ≡ source.kind
  pub head : Head
  pub is_head : source.is_head files head
  pub table : MayBeSame head.table standing.origin.table

-- The history since the mark is whole: it is a mark of the source's table, and all commits after its position are there.
abbrev pub IsWhole : SourceMeaning → Files → Standing → Type 0
IsWhole source files standing = IsOfTable source files standing × source.reaches files standing.to

-- the target's mark has this
abbrev pub IsMarked : View → (Standing → Type 0) → Type 0
IsMarked start P = (standing : Standing) × (start.mark ≡ Some standing) × P standing

-- A sync takes the commits since the mark where the history since it is whole. Otherwise, and in full, the target takes the whole table.
abbrev pub TakesCommits : SourceMeaning → Mode → Files → View → Type 0
TakesCommits source mode files start = (mode ≡ modes.Sync) × IsMarked start (IsWhole source files)

-- what is read for the commits after the mark, where the history since it is whole, has this for a fault
abbrev pub IsSinceFault : SourceMeaning → Files → View → SourceError → Type 0
IsSinceFault source files start e = IsMarked start (λ standing. IsWhole source files standing × source.from_position files standing.to start.table e)

-- ---- what is due

-- The id that marks state: the source's, where it states one, or else that of the mark before, where the history since it is whole.
abbrev pub IsIdBehind : SourceMeaning → Files → View → Option (List ℕ) → Option (List ℕ) → Type 0
IsIdBehind source files start (Some id) stated = stated ≡ Some id
IsIdBehind source files start None stated =
    ((standing : Standing) → start.mark ≡ Some standing → IsWhole source files standing → stated ≡ standing.origin.table) × ((¬ IsMarked start (IsWhole source files)) → stated ≡ None)

-- Each later commit once, with the change that it makes of the target's table, or of the one that those before it make of that.
pub record AreSinceMark (source : SourceMeaning) (mode : Mode) (files : Files) (start : View) (partition : List (List ℕ)) (commits : List Commit) (full : Bool) : Type 0 where
  pub sync : mode ≡ modes.Sync
  pub marked : IsMarked start (λ standing. IsWhole source files standing × ((base : Table) × SameTable start.table base × source.is_since files standing.to base commits))
  pub columns : partition ≡ start.table.partition
  pub way : full ≡ false

-- One commit, which changes the target's table into the source's.
pub record IsInFull (source : SourceMeaning) (mode : Mode) (files : Files) (start : View) (head : Head) (partition : List (List ℕ)) (commits : List Commit) (full : Bool) : Type 0 where
  pub not_since : ¬ TakesCommits source mode files start
  pub table : Table
  pub is_table : source.is_table files table
  pub commit : Commit
  pub only : commits ≡ commit ∷ []
  pub position : commit.position ≡ head.position
  pub change : IsChangeTo start.table table commit.change
  pub leads : LeadsTo start.table.rows commit.change.removed commit.change.added table.rows
  pub columns : partition ≡ table.partition
  pub way : full ≡ true

-- The commits that are due to a target at this view, the source's partition columns, and the id that their marks state.
pub record Due (source : SourceMeaning) (mode : Mode) (files : Files) (start : View) : Type 0 where
  pub head : Head
  pub is_head : source.is_head files head
  pub id : Option (List ℕ)
  pub is_id : IsIdBehind source files start head.table id
  pub partition : List (List ℕ)
  pub commits : List Commit
  pub full : Bool
  pub way : AreSinceMark source mode files start partition commits full ⊎ IsInFull source mode files start head partition commits full

-- what their marks say of the source
abbrev pub origin_of : {source : SourceMeaning} {mode : Mode} {files : Files} {start : View} → Due source mode files start → Origin
origin_of {source} due = record { source = source.kind; table = due.id }
