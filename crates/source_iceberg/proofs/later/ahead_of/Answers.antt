use Rattle.std.proofs.Common.{List, Option, ℕ, subst}
use Rattle.std.specs.Prelude.{MatchOption}
use Rattle.iceberg_metadata.specs.declared.metadata.Snapshot.{Snapshot}
use Rattle.source_iceberg.specs.Later.{HasNone, IsFirstAt}
use Rattle.source_iceberg.proofs.LaterLaws.{ahead_placed}
use Rattle.source_iceberg.proofs.later.ahead_of.Goals as goal

pub returns-in-Some : goal.returns-in-Some
returns-in-Some c =
    let position = c.args.position.now in
    let ys = c.as_slice.result.now in
    let first = subst (λ (o : Option ℕ). MatchOption o (HasNone ys position) (IsFirstAt ys position)) c.in-Some.is c.in_ok-place.ensures in
    ahead_placed c.args.snapshots c.up_to_place.result position c.in-Some.place (subst (λ (l : List Snapshot). IsFirstAt l position c.in-Some.place) c.as_slice.ensures first) c.up_to_place.ensures

pub returns-in-None : goal.returns-in-None
returns-in-None c =
    let position = c.args.position.now in
    let ys = c.as_slice.result.now in
    subst (λ (l : List Snapshot). HasNone l position) c.as_slice.ensures
    (subst (λ (o : Option ℕ). MatchOption o (HasNone ys position) (IsFirstAt ys position)) c.in-None.is c.in_ok-place.ensures)
