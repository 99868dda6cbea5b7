use Rattle.std.proofs.Common.{List, Option, Result, sym, subst}
use Rattle.std.specs.Prelude.{IfErr, MatchOption}
use Rattle.std.proofs.lemmas.Result.{err_from_is_err_and}
use Rattle.lake_store.proofs.RunLaws.{reading_begins}
use Rattle.iceberg_metadata.specs.declared.metadata.Snapshot.{Snapshot}
use Rattle.source_core.proofs.Answers.{weaker}
use Rattle.source_core.specs.Answers.{IsReadRefusal}
use Rattle.source_core.specs.Since.{IsSinceRefusal}
use Rattle.source_core.specs.declared.error.SourceError.{SourceError}
use Rattle.source_core.specs.declared.since.Since.{Since}
use Rattle.source_iceberg.specs.Later.{IsFoundBehind, IsNotBehind}
use Rattle.source_iceberg.specs.Since.{AreCommitsOver, Reaches, ShowsBehind, ShowsFromPosition}
use Rattle.source_iceberg.proofs.LaterLaws.{all_ancestors, head_there}
use Rattle.source_iceberg.proofs.SinceLaws.{not_reached, reached_by, since_refused}
use Rattle.source_iceberg.proofs.since.since_in.Goals as goal

pub returns-in_err-commits_behind-in-Some-clause-refused :
    goal.returns-in_err-commits_behind-in-Some-clause-refused
returns-in_err-commits_behind-in-Some-clause-refused g c told =
    let exit = err_from_is_err_and c.from_residual-in_err-commits_behind-in-Some.result c.from_residual-in_err-commits_behind-in-Some.ensures.1 in
    let files = (g.S.Store.disk c.args.store.now).files in
    let position = c.args.position.now in
    let base = c.args.base.now in
    let newest = c.args.newest.now in
    let later = c.in-Some.later in
    let e = c.in_err-commits_behind-in-Some.field-0.0 in
    let ancestors = c.in_ok-ancestors.ancestors in
    let is = c.requires.newest told in
    let are = all_ancestors files newest.version newest.metadata is c.args.head.now (c.requires.head told) ancestors c.in_ok-ancestors.ensures.found in
    let found = subst (λ (o : Option (List Snapshot)). MatchOption o (IsNotBehind ancestors position) (IsFoundBehind ancestors position)) c.in-Some.is c.in_ok-later.ensures.found in
    let reached = reached_by files position newest.version newest.metadata ancestors later is are found in
    let refused = subst (λ (ss : List Snapshot). IsReadRefusal (ShowsBehind files newest.version newest.metadata base ss) e) c.as_slice.ensures (c.in_err-commits_behind-in-Some.ensures.refused told) in
    let shows = weaker (ShowsBehind files newest.version newest.metadata base later) (ShowsFromPosition files position base) (λ d h. (newest.version, newest.metadata, later, reached, h)) e refused in
    let P : SourceError → Type 0 = IsSinceRefusal (Reaches files position) (ShowsFromPosition files position base) in
    subst (λ (r : Result Since SourceError). IfErr r P) (sym exit.1)
    (subst P (sym exit.2) (since_refused (Reaches files position) (ShowsFromPosition files position base) (newest.version, newest.metadata, later, reached) e shows))

pub returns-in-None-clause-since : goal.returns-in-None-clause-since
returns-in-None-clause-since g c told =
    let files = (g.S.Store.disk c.args.store.now).files in
    let position = c.args.position.now in
    let newest = c.args.newest.now in
    let ancestors = c.in_ok-ancestors.ancestors in
    let is = c.requires.newest told in
    let are = all_ancestors files newest.version newest.metadata is c.args.head.now (c.requires.head told) ancestors c.in_ok-ancestors.ensures.found in
    let none = subst (λ (o : Option (List Snapshot)). MatchOption o (IsNotBehind ancestors position) (IsFoundBehind ancestors position)) c.in-None.is c.in_ok-later.ensures.found in
    λ at. not_reached files position newest.version newest.metadata ancestors is are none at

pub returns-then-is_empty-clause-refused : goal.returns-then-is_empty-clause-refused
returns-then-is_empty-clause-refused g c told =
    let files = (g.S.Store.disk c.args.store.now).files in
    let newest = c.args.newest.now in
    absurd (head_there files newest.version newest.metadata (c.requires.newest told) c.args.head.now (c.requires.head told) c.in_ok-ancestors.ancestors c.in_ok-ancestors.ensures.found (c.is_empty.ensures.0 c.if-is_empty.true))

pub returns-in_ok-commits_behind-in-Some-clause-since : goal.returns-in_ok-commits_behind-in-Some-clause-since
returns-in_ok-commits_behind-in-Some-clause-since g c told =
    let files = (g.S.Store.disk c.args.store.now).files in
    let position = c.args.position.now in
    let base = c.args.base.now in
    let newest = c.args.newest.now in
    let later = c.in-Some.later in
    let ancestors = c.in_ok-ancestors.ancestors in
    let is = c.requires.newest told in
    let are = all_ancestors files newest.version newest.metadata is c.args.head.now (c.requires.head told) ancestors c.in_ok-ancestors.ensures.found in
    let found = subst (λ (o : Option (List Snapshot)). MatchOption o (IsNotBehind ancestors position) (IsFoundBehind ancestors position)) c.in-Some.is c.in_ok-later.ensures.found in
    let reached = reached_by files position newest.version newest.metadata ancestors later is are found in
    let commits = c.in_ok-commits_behind-in-Some.field-0 in
    let over = subst (λ (ss : List Snapshot). AreCommitsOver files newest.metadata base ss commits) c.as_slice.ensures (c.in_ok-commits_behind-in-Some.ensures.commits told) in
    ((newest.version, newest.metadata, later, reached), record { version = newest.version; metadata = newest.metadata; later = later; reached = reached; over = over })

pub returns-in_err-ancestors-clause-only_reads : goal.returns-in_err-ancestors-clause-only_reads
returns-in_err-ancestors-clause-only_reads g c = reading_begins g.S.Store g.met.S.Store.only_now c.args.store.now

pub returns-then-is_empty-clause-only_reads : goal.returns-then-is_empty-clause-only_reads
returns-then-is_empty-clause-only_reads g c = reading_begins g.S.Store g.met.S.Store.only_now c.args.store.now

pub returns-in_err-later-clause-only_reads : goal.returns-in_err-later-clause-only_reads
returns-in_err-later-clause-only_reads g c = reading_begins g.S.Store g.met.S.Store.only_now c.args.store.now

pub returns-in-None-clause-only_reads : goal.returns-in-None-clause-only_reads
returns-in-None-clause-only_reads g c = reading_begins g.S.Store g.met.S.Store.only_now c.args.store.now
