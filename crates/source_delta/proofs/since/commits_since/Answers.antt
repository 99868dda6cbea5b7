use Rattle.std.proofs.Common.{ℕ, Option, Result, sym, subst}
use Rattle.std.proofs.lemmas.Result.{err_from_is_err_and}
use Rattle.std.specs.Prelude.{IfErr, MatchOption}
use Rattle.lake_store.specs.Disk.{Disk}
use Rattle.source_core.specs.Answers.{IsReadRefusal}
use Rattle.source_core.specs.Since.{IsSinceRefusal}
use Rattle.source_core.specs.declared.error.SourceError.{SourceError}
use Rattle.source_core.specs.declared.since.Since.{Since}
use Rattle.source_delta.specs.Since.{IsReached, Reaches, ShowsFromPosition}
use Rattle.source_delta.proofs.SinceLaws.{names_refused, since_refused}
use Rattle.source_delta.proofs.since.commits_since.Goals as goal

pub returns-in_err-version-clause-refused : goal.returns-in_err-version-clause-refused
returns-in_err-version-clause-refused g c told = λ newest few.
    let exit = err_from_is_err_and c.from_residual.result c.from_residual.ensures.1 in
    let files = (g.S.Store.disk c.args.store.now).files in
    let position = c.args.position.now in
    let base = c.args.base.now in
    let e = c.in_err-version.field-0.0 in
    subst (λ (r : Result Since SourceError). IfErr r (IsSinceRefusal (Reaches files position) (ShowsFromPosition files position base))) (sym exit.1)
    (subst (IsSinceRefusal (Reaches files position) (ShowsFromPosition files position base)) (sym exit.2) (since_refused files position base e (names_refused files position base few e (c.in_err-version.ensures.refused told))))

pub returns-in_err-later_commits-in-Some-clause-refused : goal.returns-in_err-later_commits-in-Some-clause-refused
returns-in_err-later_commits-in-Some-clause-refused g c told = λ newest few.
    let exit = err_from_is_err_and c.from_residual-in_err-later_commits-in-Some.result c.from_residual-in_err-later_commits-in-Some.ensures.1 in
    let files = (g.S.Store.disk c.args.store.now).files in
    let position = c.args.position.now in
    let base = c.args.base.now in
    let same = (c.in_ok-version.ensures.only_reads told).disk in
    let reached = subst (λ (o : Option ℕ). MatchOption o (Reaches files position → ⊥) (λ version. IsReached files position version c.args.newest)) c.in-Some.is (c.in_ok-version.ensures.reached told newest) in
    let e = c.in_err-later_commits-in-Some.field-0.0 in
    let here = subst (λ (d : Disk). IsReached d.files position c.in-Some.version c.args.newest) (sym same) reached in
    let refused = subst (λ (d : Disk). IsReadRefusal (ShowsFromPosition d.files position base) e) same (c.in_err-later_commits-in-Some.ensures.refused told position here) in
    subst (λ (r : Result Since SourceError). IfErr r (IsSinceRefusal (Reaches files position) (ShowsFromPosition files position base))) (sym exit.1)
    (subst (IsSinceRefusal (Reaches files position) (ShowsFromPosition files position base)) (sym exit.2) (since_refused files position base e refused))
