use Rattle.std.proofs.Common.{[], ℕ, List, Contains, Option, sym, subst}
use Rattle.std.specs.Prelude.{MatchOption}
use Rattle.std.proofs.lemmas.List.{take_all}
use Rattle.iceberg_live.specs.MetadataPaths.{IsMetadataPath}
use Rattle.iceberg_manifest.specs.Lists.{AreEach}
use Rattle.iceberg_metadata.specs.declared.metadata.Snapshot.{Snapshot}
use Rattle.lake_sweep.proofs.VersionLaws.{lacks_path, snapshot_more, snapshot_there}
use Rattle.lake_sweep.proofs.versions.list_paths.Goals as goal

pub loop-snapshot-init : goal.loop-snapshot-init
loop-snapshot-init c = subst (λ (l : List (List ℕ)). AreEach (λ (s : Snapshot). IsMetadataPath c.args.metadata.now.location s.list) [] l) (sym c.new-paths.ensures) tt

pub loop-snapshot-preserved : goal.loop-snapshot-preserved
loop-snapshot-preserved c =
    let m = c.args.metadata.now in
    let s = c.snapshot-item.result in
    let found = subst (λ (o : Option (List ℕ)). MatchOption o ((path : List ℕ) → ¬ IsMetadataPath m.location s.list path) (λ path. IsMetadataPath m.location s.list path)) c.in-Some.is c.in_ok-path.ensures.found in
    snapshot_more m.location c.as_slice-snapshots.result.now c.loop-snapshot.snapshot-index s c.loop-snapshot-test.true c.snapshot-item.is c.loop-snapshot.paths c.loop-snapshot.invariant c.in-Some.path found c.push.new.self c.in_ok-push.ensures.ok

pub returns-in_default-clause-found : goal.returns-in_default-clause-found
returns-in_default-clause-found c =
    let m = c.args.metadata.now in
    let s = c.snapshot-item.result in
    let lacks = lacks_path m.location s.list c.in_ok-path.field-0 c.in_default.not-Some c.in_ok-path.ensures.found in
    (s, subst (λ (l : List Snapshot). Contains l s) c.as_slice-snapshots.ensures (snapshot_there c.as_slice-snapshots.result.now c.loop-snapshot.snapshot-index s c.loop-snapshot-test.true c.snapshot-item.is), lacks)

pub returns-clause-found : goal.returns-clause-found
returns-clause-found c =
    let P = λ (s : Snapshot) (path : List ℕ). IsMetadataPath c.args.metadata.now.location s.list path in
    subst (λ (l : List Snapshot). AreEach P l c.loop-snapshot.paths) c.as_slice-snapshots.ensures
    (subst (λ (l : List Snapshot). AreEach P l c.loop-snapshot.paths) (take_all c.loop-snapshot.snapshot-index c.as_slice-snapshots.result.now c.loop-snapshot-test.false) c.loop-snapshot.invariant)
