-- How many commits are due to a target.
use Rattle.std.proofs.Common.{◌≡◌, ⊎_elim, ℕ, ◌+◌, ◌≤◌, List, length, ap, arith}
use Rattle.lake_store.specs.Disk.{Disk}
use Rattle.table_history.specs.declared.table.Commit.{Commit}
use Rattle.target_core.specs.Views.{View}
use Rattle.target_sync.specs.Dues.{AreSinceMark, Due, IsInFull}
use Rattle.target_sync.specs.declared.plan.Mode.{Mode}
use Rattle.lake_play.specs.Formats.{from_delta}
use Rattle.lake_play.proofs.Logs.{HoldsCommits}

-- They are no more than the commits of the source, or there is one.
pub few_due : (commits : List (List ℕ)) (first : ℕ) (disk : Disk) → HoldsCommits commits first disk → (mode : Mode) (start : View) (due : Due from_delta mode disk.files start) → length due.commits ≤ length commits + 1
few_due commits first disk log mode start due =
    ⊎_elim
    (λ (since : AreSinceMark from_delta mode disk.files start due.partition due.commits due.full).
    let is = since.marked.2.1.2 in
    let within = (log.only (is.version + length due.commits) is.newest.there).1 in
    omega (arith, within))
    (λ (whole : IsInFull from_delta mode disk.files start due.head due.partition due.commits due.full).
    let one : length due.commits ≡ 1 = ap (λ (l : List Commit). length l) whole.only in
    omega (arith, one))
    due.way
