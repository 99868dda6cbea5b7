-- What holds of a Hudi target's files, whatever writes and reads them.
use Rattle.std.specs.Prelude.{ℕ, List}
use Rattle.lake_store.specs.Disk.{Files}
use Rattle.table_history.specs.declared.kind.Kind.{Kind}
use Rattle.table_history.specs.declared.table.Change.{Change}
use Rattle.hudi_commit.specs.Orderly.{IsOrderly, IsSameTimeline}
use Rattle.target_core.specs.Views.{Standing, View}
use Rattle.target_hudi.specs.Inspecting.{IsForeign}
use Rattle.target_hudi.specs.Reading.{IsCarried, Reads}

-- What files are read as: each view that they stand for, what each commit carries, and each path that is told as the first at fault.
pub record AreReadAs (a b : Files) : Type 0 where
  pub reads : (view : View) → Reads a view → Reads b view
  pub carries : (number : ℕ) (change : Change) (standing : Standing) → IsCarried a number change standing → IsCarried b number change standing
  pub foreign : (source : Kind) (path : List ℕ) → IsForeign source a path → IsForeign source b path

-- Orderly files with the same completed instants and properties are read alike, whatever else is pending or claimed.
abbrev pub ReadingLemma : Type 0
ReadingLemma = (a b : Files) → IsOrderly a → IsOrderly b → IsSameTimeline a b → AreReadAs a b
