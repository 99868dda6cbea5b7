use Rattle.std.proofs.Common.{◌≡◌, ℕ, Some, sym, subst, ◌∙◌}
use Rattle.source_delta.specs.Heads.{IsNewest}
use Rattle.source_delta.specs.SinceLemmas.{version_within}
use Rattle.source_delta.proofs.source.DeltaSourceSource.since.Goals as goal

pub returns-in-Some-clause-refused : goal.returns-in-Some-clause-refused
returns-in-Some-clause-refused g c told =
    let files = (g.S.Store.disk c.args.store.now).files in
    let is = c.requires told in
    let known = c.version_at.ensures.known is.newest (version_within files is.newest is.is.there) (c.as_str.ensures.value ∙ is.position) in
    let both : Some c.in-Some.newest ≡ Some is.newest = sym c.in-Some.is ∙ known in
    let same : is.newest ≡ c.in-Some.newest = cc in
    c.commits_since.ensures.refused told (subst (λ (n : ℕ). IsNewest files n) same is.is) is.few
