use Rattle.std.proofs.Common.{List, Option, ℕ, subst}
use Rattle.std.specs.Prelude.{MatchOption}
use Rattle.iceberg_metadata.specs.declared.metadata.Snapshot.{Snapshot}
use Rattle.source_iceberg.specs.Later.{HasNone, IsFirstAt}
use Rattle.source_iceberg.proofs.LaterLaws.{from_none, from_placed, place_within}
use Rattle.source_iceberg.proofs.later.from_position.Goals as goal

pub from_place-requires : goal.from_place-requires
from_place-requires c =
    let position = c.args.position.now in
    let ys = c.as_slice.result.now in
    let first = subst (λ (o : Option ℕ). MatchOption o (HasNone ys position) (IsFirstAt ys position)) c.in-Some.is c.in_ok-place.ensures in
    place_within c.args.snapshots position c.in-Some.place (subst (λ (l : List Snapshot). IsFirstAt l position c.in-Some.place) c.as_slice.ensures first)

pub returns-in-Some : goal.returns-in-Some
returns-in-Some c =
    let position = c.args.position.now in
    let ys = c.as_slice.result.now in
    let first = subst (λ (o : Option ℕ). MatchOption o (HasNone ys position) (IsFirstAt ys position)) c.in-Some.is c.in_ok-place.ensures in
    from_placed c.args.snapshots position c.in-Some.place c.from_place.result (subst (λ (l : List Snapshot). IsFirstAt l position c.in-Some.place) c.as_slice.ensures first) c.from_place.ensures

pub returns-in-None : goal.returns-in-None
returns-in-None c =
    let position = c.args.position.now in
    let ys = c.as_slice.result.now in
    let none = subst (λ (o : Option ℕ). MatchOption o (HasNone ys position) (IsFirstAt ys position)) c.in-None.is c.in_ok-place.ensures in
    from_none c.args.snapshots c.new.result position (subst (λ (l : List Snapshot). HasNone l position) c.as_slice.ensures none) c.new.ensures
