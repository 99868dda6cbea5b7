use Rattle.std.proofs.Common.{List, Option, subst}
use Rattle.std.specs.Prelude.{MatchOption}
use Rattle.iceberg_metadata.specs.declared.metadata.Snapshot.{Snapshot}
use Rattle.source_iceberg.specs.Later.{AreAhead, HasNone}
use Rattle.source_iceberg.proofs.LaterLaws.{found_behind, not_behind}
use Rattle.source_iceberg.proofs.later.later_ancestors.Goals as goal

pub returns-in-Some-clause-found : goal.returns-in-Some-clause-found
returns-in-Some-clause-found c =
    let ancestors = c.args.ancestors in
    let position = c.args.position.now in
    let found = subst (λ (o : Option (List Snapshot)). MatchOption o (HasNone ancestors position) (AreAhead ancestors position)) c.in-Some.is c.in_ok-ahead.ensures in
    found_behind position ancestors c.in-Some.ahead c.reversed.result found c.reversed.ensures

pub returns-in-None-clause-found : goal.returns-in-None-clause-found
returns-in-None-clause-found c =
    let ancestors = c.args.ancestors in
    let position = c.args.position.now in
    let none = subst (λ (o : Option (List Snapshot)). MatchOption o (HasNone ancestors position) (AreAhead ancestors position)) c.in-None.is c.in_ok-ahead.ensures in
    not_behind position ancestors none
