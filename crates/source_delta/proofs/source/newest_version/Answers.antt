use Rattle.std.proofs.Common.{ℕ, Option, subst}
use Rattle.std.specs.Prelude.{MatchOption}
use Rattle.delta_table.specs.Versions.{AreVersions, HasVersion}
use Rattle.delta_table.specs.declared.versions.Versions.{Versions}
use Rattle.source_delta.proofs.Refusals.{list_refused, names_at_head, newest_listed}
use Rattle.source_delta.proofs.source.newest_version.Goals as goal

pub returns-in-Ok-Some-clause-newest : goal.returns-in-Ok-Some-clause-newest
returns-in-Ok-Some-clause-newest g c told =
    let files = (g.S.Store.disk c.args.store.now).files in
    newest_listed files c.in-Ok-Some.versions
    (subst (λ (o : Option Versions). MatchOption o ((w : ℕ) → HasVersion files w → ⊥) (AreVersions (HasVersion files))) c.in-Ok-Some.field-0-is (c.in-Ok-Some.ensures.found told))

pub returns-in-Ok-None-clause-refused : goal.returns-in-Ok-None-clause-refused
returns-in-Ok-None-clause-refused g c told =
    let files = (g.S.Store.disk c.args.store.now).files in
    subst (λ (o : Option Versions). MatchOption o ((w : ℕ) → HasVersion files w → ⊥) (AreVersions (HasVersion files))) c.in-Ok-None.field-0-is (c.in-Ok-None.ensures.found told)

pub returns-in-Err-clause-refused : goal.returns-in-Err-clause-refused
returns-in-Err-clause-refused g c told =
    let files = (g.S.Store.disk c.args.store.now).files in
    names_at_head files c.list_error.result (list_refused files c.in-Err.error c.list_error.result (c.in-Err.ensures.refused told) c.list_error.ensures.told)
