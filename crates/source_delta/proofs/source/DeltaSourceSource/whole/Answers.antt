use Rattle.std.proofs.Common.{◌≡◌, ℕ, Some, sym, subst, ◌∙◌}
use Rattle.source_delta.specs.Heads.{IsNewest}
use Rattle.source_delta.specs.SinceLemmas.{version_within}
use Rattle.source_delta.proofs.source.DeltaSourceSource.whole.Goals as goal

pub returns-in-Some-clause-table : goal.returns-in-Some-clause-table
returns-in-Some-clause-table g c told =
    let files = (g.S.Store.disk c.args.store.now).files in
    let is = c.requires told in
    let known = c.version_at.ensures.known is.newest (version_within files is.newest is.is.there) (c.as_str.ensures.value ∙ is.position) in
    let both : Some c.in-Some.newest ≡ Some is.newest = sym c.in-Some.is ∙ known in
    let same : is.newest ≡ c.in-Some.newest = cc in
    c.whole_table.ensures.table told (subst (λ (n : ℕ). IsNewest files n) same is.is)

pub returns-in-Some-clause-refused : goal.returns-in-Some-clause-refused
returns-in-Some-clause-refused g c told =
    let files = (g.S.Store.disk c.args.store.now).files in
    let is = c.requires told in
    let known = c.version_at.ensures.known is.newest (version_within files is.newest is.is.there) (c.as_str.ensures.value ∙ is.position) in
    let both : Some c.in-Some.newest ≡ Some is.newest = sym c.in-Some.is ∙ known in
    let same : is.newest ≡ c.in-Some.newest = cc in
    c.whole_table.ensures.refused told is.few (subst (λ (n : ℕ). IsNewest files n) same is.is)

pub returns-in-None-clause-refused : goal.returns-in-None-clause-refused
returns-in-None-clause-refused g c told =
    let files = (g.S.Store.disk c.args.store.now).files in
    let is = c.requires told in
    let known = c.version_at.ensures.known is.newest (version_within files is.newest is.is.there) (c.as_str.ensures.value ∙ is.position) in
    let no = c.in-None.is in
    absurd (cc)
