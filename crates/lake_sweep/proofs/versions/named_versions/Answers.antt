use Rattle.std.proofs.Common.{ℕ, List, [], Contains, sym, subst}
use Rattle.std.specs.Prelude.{◌↔◌}
use Rattle.iceberg_table.specs.Folder.{IsNamed}
use Rattle.lake_sweep.proofs.VersionLaws.{named_all, named_more, none_named}
use Rattle.lake_sweep.proofs.versions.named_versions.Goals as goal

pub loop-name-init : goal.loop-name-init
loop-name-init c = subst (λ (l : List ℕ). (v : ℕ) → Contains l v ↔ IsNamed [] v) (sym c.new-versions.ensures.items) none_named

pub loop-name-preserved : goal.loop-name-preserved
loop-name-preserved c =
    named_more c.args.names.now c.loop-name.name-index c.name-item.result c.loop-name.versions.items c.in_ok-versions.versions.items c.loop-name-test.true c.name-item.is c.loop-name.invariant c.in_ok-versions.ensures

pub returns : goal.returns
returns c = named_all c.args.names.now c.loop-name.name-index c.loop-name.versions.items c.loop-name-test.false c.loop-name.invariant
