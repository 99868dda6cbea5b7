-- The lines that tell of rows.
use Rattle.std.proofs.Common.{◌≡◌, ℕ, List, Result, Ok, Err}
use Rattle.std.specs.Prelude.{IfOk}
use Rattle.table_history.specs.Row.{Row}
use Rattle.table_history.specs.Rows.{IsInPathOrder, SameRows}
use Rattle.lake_play.specs.Drilled.{TellsOf}

pub tells_of : {S E : Type 0} (bytes : S → List ℕ) (line : List Row → List ℕ) (rows ordered : List Row) (r : Result S E) → IsInPathOrder ordered → SameRows ordered rows → IfOk r (λ part. bytes part ≡ line ordered) → IfOk r (λ part. TellsOf line rows (bytes part))
tells_of bytes line rows ordered (Ok part) order same is = (ordered, order, same, is)
tells_of bytes line rows ordered (Err e) order same is = tt
