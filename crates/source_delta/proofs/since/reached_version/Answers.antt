use Rattle.std.proofs.Common.{◌≡◌, ◌≤◌, ℕ, Option, sym, subst, ◌∙◌}
use Rattle.std.specs.Fmt.{decimal}
use Rattle.std.specs.Prelude.{MatchOption}
use Rattle.lake_basics.specs.declared.limits.TheConstants.{MAX_DELTA_VERSION}
use Rattle.delta_table.specs.Versions.{AreVersions, HasVersion}
use Rattle.delta_table.specs.declared.versions.Versions.{Versions}
use Rattle.source_delta.proofs.SinceLaws.{reached_of}
use Rattle.source_delta.proofs.since.reached_version.Goals as goal

pub returns-in-Ok-Some-clause-reached : goal.returns-in-Ok-Some-clause-reached
returns-in-Ok-Some-clause-reached g c told = λ is.
    let files = (g.S.Store.disk c.args.store.now).files in
    let position = c.args.position.now in
    let text = c.as_str.result.now in
    let found = subst (λ (o : Option ℕ). MatchOption o ((v : ℕ) → v ≤ MAX_DELTA_VERSION → text ≡ decimal v → ⊥) (λ v. (v ≤ MAX_DELTA_VERSION) × (text ≡ decimal v))) c.in-Some.is c.in_ok-version.ensures in
    let are = subst (λ (o : Option Versions). MatchOption o ((w : ℕ) → HasVersion files w → ⊥) (AreVersions (HasVersion files))) c.in-Ok-Some.field-0-is (c.in-Ok-Some.ensures.found told) in
    reached_of files position c.in-Some.version c.args.newest (sym c.as_str.ensures.value ∙ found.1) found.0 is c.in-Ok-Some.versions are c.reached.result c.reached.ensures

pub returns-in-Ok-None-clause-reached : goal.returns-in-Ok-None-clause-reached
returns-in-Ok-None-clause-reached g c told = λ is.
    let files = (g.S.Store.disk c.args.store.now).files in
    let none = subst (λ (o : Option Versions). MatchOption o ((w : ℕ) → HasVersion files w → ⊥) (AreVersions (HasVersion files))) c.in-Ok-None.field-0-is (c.in-Ok-None.ensures.found told) in
    absurd (none c.args.newest is.there)
