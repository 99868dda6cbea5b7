use Rattle.std.proofs.Common.{◌≡◌, ◌⊎◌, ℕ, List, Contains, subst}
use Rattle.std.specs.Prelude.{◌↔◌}
use Rattle.std.proofs.lemmas.List.{take_all}
use Rattle.iceberg_table.specs.declared.list.ManifestFile.{ManifestFile}
use Rattle.lake_sweep.specs.Reading.{IsNamedIn}
use Rattle.lake_sweep.proofs.SetLaws.{manifest_put, none_put, put_distinct, put_members}
use Rattle.lake_sweep.proofs.reached.with_manifest_paths.Goals as goal

pub loop-manifest-init : goal.loop-manifest-init
loop-manifest-init c = record { members = none_put c.args.before.keys; distinct = λ distinct. distinct }

pub loop-manifest-preserved : goal.loop-manifest-preserved
loop-manifest-preserved c =
    let before = c.loop-manifest.paths.keys in
    let after = c.insert.new.self.keys in
    let path = c.in_ok-copy.field-0 in
    let file = c.manifest-item.result in
    let put = c.in_ok-insert.ensures.keys in
    record {
      members = manifest_put c.args.before.keys before after c.args.manifests.now c.loop-manifest.manifest-index file c.loop-manifest-test.true c.manifest-item.is c.loop-manifest.invariant.members
          (λ q. subst (λ (p : List ℕ). Contains after q ↔ (Contains before q ⊎ (q ≡ p))) c.in_ok-copy.ensures (put_members before path after put q));
      distinct = λ distinct. put_distinct before path after put (c.loop-manifest.invariant.distinct distinct);
    }

pub returns-clause-members : goal.returns-clause-members
returns-clause-members c path =
    subst (λ (l : List ManifestFile). Contains c.loop-manifest.paths.keys path ↔ (Contains c.args.before.keys path ⊎ IsNamedIn l path)) (take_all c.loop-manifest.manifest-index c.args.manifests.now c.loop-manifest-test.false) (c.loop-manifest.invariant.members path)
