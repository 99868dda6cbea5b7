-- What two targets need of the source alike.
use Rattle.std.specs.Prelude.{◌≡◌, true, false, Some}
use Rattle.table_history.specs.Tables.{SameTable}
use Rattle.source_core.specs.declared.head.Head.{Head}
use Rattle.target_core.specs.Views.{Standing, View}
use Rattle.target_sync.specs.Dues.{MayBeSame}
use Rattle.target_sync.specs.declared.plan.Mode.{Mode}
use Rattle.target_sync.specs.declared.plan.Mode.TheVariants as modes
use Rattle.target_sync.specs.declared.plan.Plan.{Plan}
use Rattle.target_sync.specs.declared.sharing.Alike.{Alike}
use Rattle.target_sync.specs.declared.sharing.Alike.TheVariants.{Commits, Whole, Nothing}

-- The marks of the two have one position, and are of the source's table as far as they and it say.
pub record AreAtOnePosition (head : Head) (first other : View) : Type 0 where
  pub standing : Standing
  pub mark : first.mark ≡ Some standing
  pub other_standing : Standing
  pub other_mark : other.mark ≡ Some other_standing
  pub position : other_standing.to ≡ standing.to
  pub table : MayBeSame head.table standing.origin.table
  pub other_table : MayBeSame head.table other_standing.origin.table

-- The commits since the first target's mark are planned, and the other target, of which this is kept, has the same table at the same position.
pub record IsDueToo {K L : Type 0} (view : K → View) (other : L → View) (head : Head) (plan : Plan K) (kept : L) : Type 0 where
  pub since : plan.full ≡ false
  pub marks : AreAtOnePosition head (view plan.kept) (other kept)
  pub table : SameTable (other kept).table (view plan.kept).table

-- The whole table is planned for the first target of a sync, and the other one has the same position: the history since that isn't whole for either.
pub record IsNotReachedToo {K L : Type 0} (view : K → View) (other : L → View) (head : Head) (mode : Mode) (plan : Plan K) (kept : L) : Type 0 where
  pub sync : mode ≡ modes.Sync
  pub full : plan.full ≡ true
  pub marks : AreAtOnePosition head (view plan.kept) (other kept)

abbrev pub IsAlike : {K L : Type 0} → (K → View) → (L → View) → Head → Mode → Plan K → L → Alike → Type 0
IsAlike view other head mode plan kept (Commits commits) = (commits ≡ plan.commits) × IsDueToo view other head plan kept
IsAlike view other head mode plan kept Whole = IsNotReachedToo view other head mode plan kept
IsAlike view other head mode plan kept Nothing = Unit {0}

-- In a sync the history since the position of both isn't whole, where it isn't since that of the one; in full nothing is asked of it.
abbrev pub whole_in : Mode → Alike
whole_in modes.Sync = Whole
whole_in modes.Full = Nothing
