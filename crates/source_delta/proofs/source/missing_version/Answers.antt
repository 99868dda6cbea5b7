use Rattle.std.proofs.Common.{ℕ, Option, subst}
use Rattle.std.specs.Prelude.{MatchOption}
use Rattle.delta_table.specs.Versions.{AreVersions, HasVersion}
use Rattle.delta_table.specs.declared.versions.Versions.{Versions}
use Rattle.source_delta.proofs.Refusals.{list_refused, missing_before}
use Rattle.source_delta.proofs.source.missing_version.Goals as goal

pub returns-in-Ok-Some-clause-missing : goal.returns-in-Ok-Some-clause-missing
returns-in-Ok-Some-clause-missing g c told = λ is.
    let files = (g.S.Store.disk c.args.store.now).files in
    missing_before files c.args.newest is c.in-Ok-Some.versions
    (subst (λ (o : Option Versions). MatchOption o ((w : ℕ) → HasVersion files w → ⊥) (AreVersions (HasVersion files))) c.in-Ok-Some.field-0-is (c.in-Ok-Some.ensures.found told))
    c.version_before.result c.version_before.ensures

pub returns-in-Ok-None-clause-missing : goal.returns-in-Ok-None-clause-missing
returns-in-Ok-None-clause-missing g c told = λ is.
    let files = (g.S.Store.disk c.args.store.now).files in
    absurd (subst (λ (o : Option Versions). MatchOption o ((w : ℕ) → HasVersion files w → ⊥) (AreVersions (HasVersion files))) c.in-Ok-None.field-0-is (c.in-Ok-None.ensures.found told) c.args.newest is.there)

pub returns-in-Err-clause-refused : goal.returns-in-Err-clause-refused
returns-in-Err-clause-refused g c told = λ is.
    let files = (g.S.Store.disk c.args.store.now).files in
    list_refused files c.in-Err.error c.list_error.result (c.in-Err.ensures.refused told) c.list_error.ensures.told
