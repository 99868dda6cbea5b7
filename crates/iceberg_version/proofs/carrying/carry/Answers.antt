use Rattle.std.proofs.Common.{sym, ◌∙◌}
use Rattle.std.proofs.lemmas.Bool.{false≢true}
use Rattle.iceberg_version.specs.KeptEnd.{live_manifest}
use Rattle.iceberg_version.specs.Touched.{IsTouched}
use Rattle.iceberg_version.proofs.CarryingLemmas.{any_lost, no_rows, none_lost, rewritten, some_rows, stays_as_it_is}
use Rattle.iceberg_version.proofs.carrying.carry.Goals as goal

pub returns-then-contains : goal.returns-then-contains
returns-then-contains c = λ paths touched.
    let links = c.args.links.now in
    let owner = c.args.manifest.now.owner in
    let here = (touched owner).0 (sym c.contains.ensures ∙ c.if-contains.true) in
    rewritten paths c.args.place (live_manifest links c.args.manifest.now) (any_lost links owner paths here)

pub returns-then-is_none : goal.returns-then-is_none
returns-then-is_none c = λ paths touched. no_rows c.args.links.now c.args.manifest.now.owner c.first.result c.requires c.first.ensures c.if-is_none.ensures

pub returns : goal.returns
returns c = λ paths touched.
    let links = c.args.links.now in
    let owner = c.args.manifest.now.owner in
    let lacks : IsTouched links paths owner → ⊥ = λ t. false≢true (sym c.if-contains.false ∙ c.contains.ensures ∙ (touched owner).1 t) in
    stays_as_it_is paths c.args.place (live_manifest links c.args.manifest.now) (some_rows links owner c.first.result c.requires c.first.ensures c.if-is_none.ensures) (none_lost links owner paths c.requires lacks)
