use Rattle.std.proofs.Common.{◌≡◌, List, ℕ, Bool, true, length, Err, arith, refl, subst, sym, ap, ◌∙◌}
use Rattle.std.specs.Prelude.{IsErrOf, is_ok, is_some}
use Rattle.std.specs.FinMap as map
use Rattle.lake_basics.specs.declared.limits.TheConstants.{MAX_FILE_BYTES}
use Rattle.lake_store.proofs.ShortLaws.{short_publish, short_same, short_sync, short_then, short_write}
use Rattle.iceberg_commit.specs.Texts.{IsShort}
use Rattle.std.proofs.lemmas.Result.{err_from_is_err_and}
use Rattle.iceberg_table.specs.Folder.{path_of, version_path}
use Rattle.iceberg_version.specs.Names.{staged_name}
use Rattle.iceberg_commit.specs.NextVersion.{VersionFiles}
use Rattle.target_core.specs.Outcome.{Uncontested}
use Rattle.target_core.specs.declared.target.TargetError.TheVariants.{Contested}
use Rattle.target_core.proofs.StoreAnswers.{contested_by, err_same, not_ok, untaken_by}
use Rattle.target_iceberg.specs.Publishing.{AreManifestPaths, IsNotAside, PublishesVersion}
use Rattle.target_iceberg.proofs.PublishingLemmas.{alone_begun, apart_paths, aside₁, aside₂, aside₃, aside₄, memory_never, metadata_not_aside, not_published, ok_contested, err_ok, published_as, written_aside}
use Rattle.target_iceberg.proofs.publish.publish_version.Goals as goal

pub returns-in_err-manifest_paths-clause-publishes : goal.returns-in_err-manifest_paths-clause-publishes
returns-in_err-manifest_paths-clause-publishes g c told =
    let store = g.S.Store in
    let only_now = g.met.S.Store.only_now in
    let new : VersionFiles = record { version = c.args.version; manifests = c.args.manifests.now; list = c.args.list.now; metadata = c.args.metadata.now } in
    let s₀ = c.args.store.now in
    let exit = err_from_is_err_and c.from_residual.result c.from_residual.ensures.1 in
    let never : IsErrOf c.from_residual.result Contested → ⊥ = memory_never c.from_residual.result exit.0 exit.1 exit.2 in
    subst (λ (done : Bool). PublishesVersion store new (Uncontested c.from_residual.result) (IsErrOf c.from_residual.result Contested) done s₀ s₀) (sym (ap is_ok exit.1))
    (not_published store told only_now new s₀ s₀ (alone_begun store told only_now (IsNotAside new) s₀) (Uncontested c.from_residual.result) (IsErrOf c.from_residual.result Contested) never)

pub returns-in_err-list_path-clause-publishes : goal.returns-in_err-list_path-clause-publishes
returns-in_err-list_path-clause-publishes g c told =
    let store = g.S.Store in
    let only_now = g.met.S.Store.only_now in
    let new : VersionFiles = record { version = c.args.version; manifests = c.args.manifests.now; list = c.args.list.now; metadata = c.args.metadata.now } in
    let s₀ = c.args.store.now in
    let exit = err_from_is_err_and c.from_residual-in_err-list_path.result c.from_residual-in_err-list_path.ensures.1 in
    let never : IsErrOf c.from_residual-in_err-list_path.result Contested → ⊥ = memory_never c.from_residual-in_err-list_path.result exit.0 exit.1 exit.2 in
    subst (λ (done : Bool). PublishesVersion store new (Uncontested c.from_residual-in_err-list_path.result) (IsErrOf c.from_residual-in_err-list_path.result Contested) done s₀ s₀) (sym (ap is_ok exit.1))
    (not_published store told only_now new s₀ s₀ (alone_begun store told only_now (IsNotAside new) s₀) (Uncontested c.from_residual-in_err-list_path.result) (IsErrOf c.from_residual-in_err-list_path.result Contested) never)

pub returns-in_err-staged_path-clause-publishes : goal.returns-in_err-staged_path-clause-publishes
returns-in_err-staged_path-clause-publishes g c told =
    let store = g.S.Store in
    let only_now = g.met.S.Store.only_now in
    let new : VersionFiles = record { version = c.args.version; manifests = c.args.manifests.now; list = c.args.list.now; metadata = c.args.metadata.now } in
    let s₀ = c.args.store.now in
    let exit = err_from_is_err_and c.from_residual-in_err-staged_path.result c.from_residual-in_err-staged_path.ensures.1 in
    let never : IsErrOf c.from_residual-in_err-staged_path.result Contested → ⊥ = memory_never c.from_residual-in_err-staged_path.result exit.0 exit.1 exit.2 in
    subst (λ (done : Bool). PublishesVersion store new (Uncontested c.from_residual-in_err-staged_path.result) (IsErrOf c.from_residual-in_err-staged_path.result Contested) done s₀ s₀) (sym (ap is_ok exit.1))
    (not_published store told only_now new s₀ s₀ (alone_begun store told only_now (IsNotAside new) s₀) (Uncontested c.from_residual-in_err-staged_path.result) (IsErrOf c.from_residual-in_err-staged_path.result Contested) never)

pub returns-in_err-path-clause-publishes : goal.returns-in_err-path-clause-publishes
returns-in_err-path-clause-publishes g c told =
    let store = g.S.Store in
    let only_now = g.met.S.Store.only_now in
    let new : VersionFiles = record { version = c.args.version; manifests = c.args.manifests.now; list = c.args.list.now; metadata = c.args.metadata.now } in
    let s₀ = c.args.store.now in
    let exit = err_from_is_err_and c.from_residual-in_err-path.result c.from_residual-in_err-path.ensures.1 in
    let never : IsErrOf c.from_residual-in_err-path.result Contested → ⊥ = memory_never c.from_residual-in_err-path.result exit.0 exit.1 exit.2 in
    subst (λ (done : Bool). PublishesVersion store new (Uncontested c.from_residual-in_err-path.result) (IsErrOf c.from_residual-in_err-path.result Contested) done s₀ s₀) (sym (ap is_ok exit.1))
    (not_published store told only_now new s₀ s₀ (alone_begun store told only_now (IsNotAside new) s₀) (Uncontested c.from_residual-in_err-path.result) (IsErrOf c.from_residual-in_err-path.result Contested) never)

pub returns-in_err-write_manifests-clause-publishes : goal.returns-in_err-write_manifests-clause-publishes
returns-in_err-write_manifests-clause-publishes g c told =
    let store = g.S.Store in
    let only_now = g.met.S.Store.only_now in
    let new : VersionFiles = record { version = c.args.version; manifests = c.args.manifests.now; list = c.args.list.now; metadata = c.args.metadata.now } in
    let s₀ = c.args.store.now in
    let paths = c.as_slice.result.now in
    let are = subst (AreManifestPaths c.args.version (length c.args.manifests.now)) (sym c.as_slice.ensures.value) c.in_ok-manifest_paths.ensures in
    let s₁ = c.write_manifests.new.store in
    let so_far = aside₁ store told only_now new paths are s₀ s₁ c.write_manifests.ensures.alone in
    let exit = err_from_is_err_and c.from_residual-in_err-write_manifests.result c.from_residual-in_err-write_manifests.ensures.1 in
    let error = c.in_err-write_manifests.field-0.0 in
    let never : IsErrOf c.from_residual-in_err-write_manifests.result Contested → ⊥ = λ contested. c.in_err-write_manifests.ensures.contest.never (ap (λ e. Err e) (contested_by c.from_residual-in_err-write_manifests.result exit.0 error exit.1 exit.2 contested)) in
    subst (λ (done : Bool). PublishesVersion store new (Uncontested c.from_residual-in_err-write_manifests.result) (IsErrOf c.from_residual-in_err-write_manifests.result Contested) done s₀ s₁) (sym (ap is_ok exit.1))
    (not_published store told only_now new s₀ s₁ so_far (Uncontested c.from_residual-in_err-write_manifests.result) (IsErrOf c.from_residual-in_err-write_manifests.result Contested) never)

pub returns-in_err-write-clause-publishes : goal.returns-in_err-write-clause-publishes
returns-in_err-write-clause-publishes g c told =
    let store = g.S.Store in
    let only_now = g.met.S.Store.only_now in
    let new : VersionFiles = record { version = c.args.version; manifests = c.args.manifests.now; list = c.args.list.now; metadata = c.args.metadata.now } in
    let s₀ = c.args.store.now in
    let paths = c.as_slice.result.now in
    let are = subst (AreManifestPaths c.args.version (length c.args.manifests.now)) (sym c.as_slice.ensures.value) c.in_ok-manifest_paths.ensures in
    let s₁ = c.write_manifests.new.store in
    let list_path_is = c.as_str.ensures.value ∙ c.in_ok-list_path.ensures in
    let s₂ = c.write.new.self in
    let so_far = aside₂ store told only_now new paths are s₀ s₁ c.write_manifests.ensures.alone s₂ c.write.ensures.elapses c.write.result c.as_str.result.now c.as_slice-2.result.now list_path_is c.write.ensures.ok c.write.ensures.err in
    let exit = err_from_is_err_and c.from_residual-in_err-write.result c.from_residual-in_err-write.ensures.1 in
    let error = c.in_err-write.field-0.0 in
    let never : IsErrOf c.from_residual-in_err-write.result Contested → ⊥ = λ contested. c.in_err-write.ensures.contest.never (ap (λ e. Err e) (contested_by c.from_residual-in_err-write.result exit.0 error exit.1 exit.2 contested)) in
    subst (λ (done : Bool). PublishesVersion store new (Uncontested c.from_residual-in_err-write.result) (IsErrOf c.from_residual-in_err-write.result Contested) done s₀ s₂) (sym (ap is_ok exit.1))
    (not_published store told only_now new s₀ s₂ so_far (Uncontested c.from_residual-in_err-write.result) (IsErrOf c.from_residual-in_err-write.result Contested) never)

pub returns-in_err-write-2-clause-publishes : goal.returns-in_err-write-2-clause-publishes
returns-in_err-write-2-clause-publishes g c told =
    let store = g.S.Store in
    let only_now = g.met.S.Store.only_now in
    let new : VersionFiles = record { version = c.args.version; manifests = c.args.manifests.now; list = c.args.list.now; metadata = c.args.metadata.now } in
    let s₀ = c.args.store.now in
    let paths = c.as_slice.result.now in
    let are = subst (AreManifestPaths c.args.version (length c.args.manifests.now)) (sym c.as_slice.ensures.value) c.in_ok-manifest_paths.ensures in
    let s₁ = c.write_manifests.new.store in
    let list_path_is = c.as_str.ensures.value ∙ c.in_ok-list_path.ensures in
    let s₂ = c.write.new.self in
    let staged_path_is = c.as_str-2.ensures.value ∙ c.in_ok-staged_path.ensures in
    let s₃ = c.write-2.new.self in
    let so_far = aside₃ store told only_now new paths are s₀ s₁ c.write_manifests.ensures.alone s₂ c.write.ensures.elapses c.write.result c.as_str.result.now c.as_slice-2.result.now list_path_is c.write.ensures.ok c.write.ensures.err s₃ c.write-2.ensures.elapses c.write-2.result c.as_str-2.result.now c.as_slice-3.result.now staged_path_is c.write-2.ensures.ok c.write-2.ensures.err in
    let exit = err_from_is_err_and c.from_residual-in_err-write-2.result c.from_residual-in_err-write-2.ensures.1 in
    let error = c.in_err-write-2.field-0.0 in
    let never : IsErrOf c.from_residual-in_err-write-2.result Contested → ⊥ = λ contested. c.in_err-write-2.ensures.contest.never (ap (λ e. Err e) (contested_by c.from_residual-in_err-write-2.result exit.0 error exit.1 exit.2 contested)) in
    subst (λ (done : Bool). PublishesVersion store new (Uncontested c.from_residual-in_err-write-2.result) (IsErrOf c.from_residual-in_err-write-2.result Contested) done s₀ s₃) (sym (ap is_ok exit.1))
    (not_published store told only_now new s₀ s₃ so_far (Uncontested c.from_residual-in_err-write-2.result) (IsErrOf c.from_residual-in_err-write-2.result Contested) never)

pub returns-in_err-sync-clause-publishes : goal.returns-in_err-sync-clause-publishes
returns-in_err-sync-clause-publishes g c told =
    let store = g.S.Store in
    let only_now = g.met.S.Store.only_now in
    let new : VersionFiles = record { version = c.args.version; manifests = c.args.manifests.now; list = c.args.list.now; metadata = c.args.metadata.now } in
    let s₀ = c.args.store.now in
    let paths = c.as_slice.result.now in
    let are = subst (AreManifestPaths c.args.version (length c.args.manifests.now)) (sym c.as_slice.ensures.value) c.in_ok-manifest_paths.ensures in
    let s₁ = c.write_manifests.new.store in
    let list_path_is = c.as_str.ensures.value ∙ c.in_ok-list_path.ensures in
    let s₂ = c.write.new.self in
    let staged_path_is = c.as_str-2.ensures.value ∙ c.in_ok-staged_path.ensures in
    let s₃ = c.write-2.new.self in
    let s₄ = c.sync.new.self in
    let so_far = aside₄ store told only_now new paths are s₀ s₁ c.write_manifests.ensures.alone s₂ c.write.ensures.elapses c.write.result c.as_str.result.now c.as_slice-2.result.now list_path_is c.write.ensures.ok c.write.ensures.err s₃ c.write-2.ensures.elapses c.write-2.result c.as_str-2.result.now c.as_slice-3.result.now staged_path_is c.write-2.ensures.ok c.write-2.ensures.err s₄ c.sync.ensures.elapses c.sync.result c.sync.ensures.ok c.sync.ensures.err in
    let exit = err_from_is_err_and c.from_residual-in_err-sync.result c.from_residual-in_err-sync.ensures.1 in
    let error = c.in_err-sync.field-0.0 in
    let never : IsErrOf c.from_residual-in_err-sync.result Contested → ⊥ = λ contested. c.in_err-sync.ensures.contest.never (ap (λ e. Err e) (contested_by c.from_residual-in_err-sync.result exit.0 error exit.1 exit.2 contested)) in
    subst (λ (done : Bool). PublishesVersion store new (Uncontested c.from_residual-in_err-sync.result) (IsErrOf c.from_residual-in_err-sync.result Contested) done s₀ s₄) (sym (ap is_ok exit.1))
    (not_published store told only_now new s₀ s₄ so_far (Uncontested c.from_residual-in_err-sync.result) (IsErrOf c.from_residual-in_err-sync.result Contested) never)

pub write_manifests-requires-clause-apart : goal.write_manifests-requires-clause-apart
write_manifests-requires-clause-apart g c =
    let are = subst (AreManifestPaths c.args.version (length c.args.manifests.now)) (sym c.as_slice.ensures.value) c.in_ok-manifest_paths.ensures in
    apart_paths c.args.version (length c.args.manifests.now) c.as_slice.result.now (omega (arith, c.as_slice.type_inv.0, are.count_is)) are

pub publish-requires-clause-there : goal.publish-requires-clause-there
publish-requires-clause-there g c told =
    let store = g.S.Store in
    let only_now = g.met.S.Store.only_now in
    let new : VersionFiles = record { version = c.args.version; manifests = c.args.manifests.now; list = c.args.list.now; metadata = c.args.metadata.now } in
    let s₀ = c.args.store.now in
    let paths = c.as_slice.result.now in
    let are = subst (AreManifestPaths c.args.version (length c.args.manifests.now)) (sym c.as_slice.ensures.value) c.in_ok-manifest_paths.ensures in
    let s₁ = c.write_manifests.new.store in
    let list_path_is = c.as_str.ensures.value ∙ c.in_ok-list_path.ensures in
    let s₂ = c.write.new.self in
    let staged_path_is = c.as_str-2.ensures.value ∙ c.in_ok-staged_path.ensures in
    let s₃ = c.write-2.new.self in
    let s₄ = c.sync.new.self in
    let so_far = aside₄ store told only_now new paths are s₀ s₁ c.write_manifests.ensures.alone s₂ c.write.ensures.elapses c.write.result c.as_str.result.now c.as_slice-2.result.now list_path_is c.write.ensures.ok c.write.ensures.err s₃ c.write-2.ensures.elapses c.write-2.result c.as_str-2.result.now c.as_slice-3.result.now staged_path_is c.write-2.ensures.ok c.write-2.ensures.err s₄ c.sync.ensures.elapses c.sync.result c.sync.ensures.ok c.sync.ensures.err in
    let w = written_aside new paths are (store.disk s₁) (store.disk s₂) (store.disk s₃) (store.disk s₄) (c.in_ok-write_manifests.ensures.written told)
    c.as_str.result.now c.as_slice-2.result.now list_path_is c.as_slice-2.ensures.value (c.in_ok-write.ensures.ok told)
    c.as_str-2.result.now c.as_slice-3.result.now staged_path_is c.as_slice-3.ensures.value (c.in_ok-write-2.ensures.ok told) (c.in_ok-sync.ensures.ok told) in
    let staged_is : c.as_str-3.result.now ≡ path_of (staged_name c.args.version) = c.as_str-3.ensures.value ∙ c.in_ok-staged_path.ensures in
    ap is_some (ap (map.get (store.disk s₄).files) staged_is ∙ w.staged)

pub publish-requires-clause-durable : goal.publish-requires-clause-durable
publish-requires-clause-durable g c told =
    let store = g.S.Store in
    let only_now = g.met.S.Store.only_now in
    let new : VersionFiles = record { version = c.args.version; manifests = c.args.manifests.now; list = c.args.list.now; metadata = c.args.metadata.now } in
    let s₀ = c.args.store.now in
    let paths = c.as_slice.result.now in
    let are = subst (AreManifestPaths c.args.version (length c.args.manifests.now)) (sym c.as_slice.ensures.value) c.in_ok-manifest_paths.ensures in
    let s₁ = c.write_manifests.new.store in
    let list_path_is = c.as_str.ensures.value ∙ c.in_ok-list_path.ensures in
    let s₂ = c.write.new.self in
    let staged_path_is = c.as_str-2.ensures.value ∙ c.in_ok-staged_path.ensures in
    let s₃ = c.write-2.new.self in
    let s₄ = c.sync.new.self in
    let so_far = aside₄ store told only_now new paths are s₀ s₁ c.write_manifests.ensures.alone s₂ c.write.ensures.elapses c.write.result c.as_str.result.now c.as_slice-2.result.now list_path_is c.write.ensures.ok c.write.ensures.err s₃ c.write-2.ensures.elapses c.write-2.result c.as_str-2.result.now c.as_slice-3.result.now staged_path_is c.write-2.ensures.ok c.write-2.ensures.err s₄ c.sync.ensures.elapses c.sync.result c.sync.ensures.ok c.sync.ensures.err in
    let w = written_aside new paths are (store.disk s₁) (store.disk s₂) (store.disk s₃) (store.disk s₄) (c.in_ok-write_manifests.ensures.written told)
    c.as_str.result.now c.as_slice-2.result.now list_path_is c.as_slice-2.ensures.value (c.in_ok-write.ensures.ok told)
    c.as_str-2.result.now c.as_slice-3.result.now staged_path_is c.as_slice-3.ensures.value (c.in_ok-write-2.ensures.ok told) (c.in_ok-sync.ensures.ok told) in
    w.clean c.as_str-3.result.now

pub publish-requires-clause-free : goal.publish-requires-clause-free
publish-requires-clause-free g c told =
    let store = g.S.Store in
    let only_now = g.met.S.Store.only_now in
    let new : VersionFiles = record { version = c.args.version; manifests = c.args.manifests.now; list = c.args.list.now; metadata = c.args.metadata.now } in
    let s₀ = c.args.store.now in
    let paths = c.as_slice.result.now in
    let are = subst (AreManifestPaths c.args.version (length c.args.manifests.now)) (sym c.as_slice.ensures.value) c.in_ok-manifest_paths.ensures in
    let s₁ = c.write_manifests.new.store in
    let list_path_is = c.as_str.ensures.value ∙ c.in_ok-list_path.ensures in
    let s₂ = c.write.new.self in
    let staged_path_is = c.as_str-2.ensures.value ∙ c.in_ok-staged_path.ensures in
    let s₃ = c.write-2.new.self in
    let s₄ = c.sync.new.self in
    let so_far = aside₄ store told only_now new paths are s₀ s₁ c.write_manifests.ensures.alone s₂ c.write.ensures.elapses c.write.result c.as_str.result.now c.as_slice-2.result.now list_path_is c.write.ensures.ok c.write.ensures.err s₃ c.write-2.ensures.elapses c.write-2.result c.as_str-2.result.now c.as_slice-3.result.now staged_path_is c.write-2.ensures.ok c.write-2.ensures.err s₄ c.sync.ensures.elapses c.sync.result c.sync.ensures.ok c.sync.ensures.err in
    let path_is : c.as_str-4.result.now ≡ version_path c.args.version = c.as_str-4.ensures.value ∙ c.in_ok-path.ensures in
    ap (map.get (store.disk s₄).files) path_is ∙ so_far.disk.files (version_path c.args.version) (metadata_not_aside new) ∙ c.requires.free told

pub returns-in_err-publish-clause-publishes : goal.returns-in_err-publish-clause-publishes
returns-in_err-publish-clause-publishes g c told =
    let store = g.S.Store in
    let only_now = g.met.S.Store.only_now in
    let new : VersionFiles = record { version = c.args.version; manifests = c.args.manifests.now; list = c.args.list.now; metadata = c.args.metadata.now } in
    let s₀ = c.args.store.now in
    let paths = c.as_slice.result.now in
    let are = subst (AreManifestPaths c.args.version (length c.args.manifests.now)) (sym c.as_slice.ensures.value) c.in_ok-manifest_paths.ensures in
    let s₁ = c.write_manifests.new.store in
    let list_path_is = c.as_str.ensures.value ∙ c.in_ok-list_path.ensures in
    let s₂ = c.write.new.self in
    let staged_path_is = c.as_str-2.ensures.value ∙ c.in_ok-staged_path.ensures in
    let s₃ = c.write-2.new.self in
    let s₄ = c.sync.new.self in
    let so_far = aside₄ store told only_now new paths are s₀ s₁ c.write_manifests.ensures.alone s₂ c.write.ensures.elapses c.write.result c.as_str.result.now c.as_slice-2.result.now list_path_is c.write.ensures.ok c.write.ensures.err s₃ c.write-2.ensures.elapses c.write-2.result c.as_str-2.result.now c.as_slice-3.result.now staged_path_is c.write-2.ensures.ok c.write-2.ensures.err s₄ c.sync.ensures.elapses c.sync.result c.sync.ensures.ok c.sync.ensures.err in
    let w = written_aside new paths are (store.disk s₁) (store.disk s₂) (store.disk s₃) (store.disk s₄) (c.in_ok-write_manifests.ensures.written told)
    c.as_str.result.now c.as_slice-2.result.now list_path_is c.as_slice-2.ensures.value (c.in_ok-write.ensures.ok told)
    c.as_str-2.result.now c.as_slice-3.result.now staged_path_is c.as_slice-3.ensures.value (c.in_ok-write-2.ensures.ok told) (c.in_ok-sync.ensures.ok told) in
    let staged_is : c.as_str-3.result.now ≡ path_of (staged_name c.args.version) = c.as_str-3.ensures.value ∙ c.in_ok-staged_path.ensures in
    let path_is : c.as_str-4.result.now ≡ version_path c.args.version = c.as_str-4.ensures.value ∙ c.in_ok-path.ensures in
    let s₅ = c.publish.new.self in
    let exit = err_from_is_err_and c.from_residual-in_err-publish.result c.from_residual-in_err-publish.ensures.1 in
    let error = c.in_err-publish.field-0.0 in
    published_as store told only_now new s₀ s₄ s₅ so_far w c.publish.ensures.elapses c.as_str-3.result.now c.as_str-4.result.now staged_is path_is c.publish.result c.publish.ensures.ok c.publish.ensures.taken c.publish.ensures.err
    (Uncontested c.from_residual-in_err-publish.result) (IsErrOf c.from_residual-in_err-publish.result Contested) (is_ok c.from_residual-in_err-publish.result)
    (λ un taken. untaken_by c.from_residual-in_err-publish.result exit.0 error exit.1 exit.2 un (err_same error (sym c.in_err-publish.was ∙ taken)))
    (λ contested. c.in_err-publish.was ∙ ap (λ e. Err e) (contested_by c.from_residual-in_err-publish.result exit.0 error exit.1 exit.2 contested))
    (λ ok. absurd (not_ok c.from_residual-in_err-publish.result exit.0 exit.1 ok))

pub returns-clause-publishes : goal.returns-clause-publishes
returns-clause-publishes g c told =
    let store = g.S.Store in
    let only_now = g.met.S.Store.only_now in
    let new : VersionFiles = record { version = c.args.version; manifests = c.args.manifests.now; list = c.args.list.now; metadata = c.args.metadata.now } in
    let s₀ = c.args.store.now in
    let paths = c.as_slice.result.now in
    let are = subst (AreManifestPaths c.args.version (length c.args.manifests.now)) (sym c.as_slice.ensures.value) c.in_ok-manifest_paths.ensures in
    let s₁ = c.write_manifests.new.store in
    let list_path_is = c.as_str.ensures.value ∙ c.in_ok-list_path.ensures in
    let s₂ = c.write.new.self in
    let staged_path_is = c.as_str-2.ensures.value ∙ c.in_ok-staged_path.ensures in
    let s₃ = c.write-2.new.self in
    let s₄ = c.sync.new.self in
    let so_far = aside₄ store told only_now new paths are s₀ s₁ c.write_manifests.ensures.alone s₂ c.write.ensures.elapses c.write.result c.as_str.result.now c.as_slice-2.result.now list_path_is c.write.ensures.ok c.write.ensures.err s₃ c.write-2.ensures.elapses c.write-2.result c.as_str-2.result.now c.as_slice-3.result.now staged_path_is c.write-2.ensures.ok c.write-2.ensures.err s₄ c.sync.ensures.elapses c.sync.result c.sync.ensures.ok c.sync.ensures.err in
    let w = written_aside new paths are (store.disk s₁) (store.disk s₂) (store.disk s₃) (store.disk s₄) (c.in_ok-write_manifests.ensures.written told)
    c.as_str.result.now c.as_slice-2.result.now list_path_is c.as_slice-2.ensures.value (c.in_ok-write.ensures.ok told)
    c.as_str-2.result.now c.as_slice-3.result.now staged_path_is c.as_slice-3.ensures.value (c.in_ok-write-2.ensures.ok told) (c.in_ok-sync.ensures.ok told) in
    let staged_is : c.as_str-3.result.now ≡ path_of (staged_name c.args.version) = c.as_str-3.ensures.value ∙ c.in_ok-staged_path.ensures in
    let path_is : c.as_str-4.result.now ≡ version_path c.args.version = c.as_str-4.ensures.value ∙ c.in_ok-path.ensures in
    let s₅ = c.publish.new.self in
    published_as store told only_now new s₀ s₄ s₅ so_far w c.publish.ensures.elapses c.as_str-3.result.now c.as_str-4.result.now staged_is path_is c.publish.result c.publish.ensures.ok c.publish.ensures.taken c.publish.ensures.err
    _ _ true (λ un taken. err_ok c.publish.result c.in_ok-publish.field-0 c.in_ok-publish.was taken) (λ contested. absurd (ok_contested contested)) (λ ok. ap is_ok c.in_ok-publish.was)

pub returns-in_err-manifest_paths-clause-short : goal.returns-in_err-manifest_paths-clause-short
returns-in_err-manifest_paths-clause-short g c told =
    let files = (g.S.Store.disk c.args.store.now).files in
    short_same MAX_FILE_BYTES files files refl

pub returns-in_err-list_path-clause-short : goal.returns-in_err-list_path-clause-short
returns-in_err-list_path-clause-short g c told =
    let files = (g.S.Store.disk c.args.store.now).files in
    short_same MAX_FILE_BYTES files files refl

pub returns-in_err-staged_path-clause-short : goal.returns-in_err-staged_path-clause-short
returns-in_err-staged_path-clause-short g c told =
    let files = (g.S.Store.disk c.args.store.now).files in
    short_same MAX_FILE_BYTES files files refl

pub returns-in_err-path-clause-short : goal.returns-in_err-path-clause-short
returns-in_err-path-clause-short g c told =
    let files = (g.S.Store.disk c.args.store.now).files in
    short_same MAX_FILE_BYTES files files refl

pub write_manifests-requires-clause-short : goal.write_manifests-requires-clause-short
write_manifests-requires-clause-short g c = c.requires.short.manifests_are

pub returns-in_err-write_manifests-clause-short : goal.returns-in_err-write_manifests-clause-short
returns-in_err-write_manifests-clause-short g c told = c.write_manifests.ensures.short told

pub returns-in_err-write-clause-short : goal.returns-in_err-write-clause-short
returns-in_err-write-clause-short g c told =
    let disk = g.S.Store.disk in
    let s₀ = c.args.store.now in
    let s₁ = c.write_manifests.new.store in
    let s₂ = c.write.new.self in
    let list_short : IsShort c.as_slice-2.result.now = subst IsShort (sym c.as_slice-2.ensures.value) c.requires.short.list_is in
    let so_far₂ = short_then MAX_FILE_BYTES (disk s₀).files (disk s₁).files (disk s₂).files (c.write_manifests.ensures.short told)
    (short_write c.write.result MAX_FILE_BYTES (disk s₁) (disk s₂) c.as_str.result.now c.as_slice-2.result.now list_short (c.write.ensures.ok told) (c.write.ensures.short told)) in
    so_far₂

pub returns-in_err-write-2-clause-short : goal.returns-in_err-write-2-clause-short
returns-in_err-write-2-clause-short g c told =
    let disk = g.S.Store.disk in
    let s₀ = c.args.store.now in
    let s₁ = c.write_manifests.new.store in
    let s₂ = c.write.new.self in
    let list_short : IsShort c.as_slice-2.result.now = subst IsShort (sym c.as_slice-2.ensures.value) c.requires.short.list_is in
    let so_far₂ = short_then MAX_FILE_BYTES (disk s₀).files (disk s₁).files (disk s₂).files (c.write_manifests.ensures.short told)
    (short_write c.write.result MAX_FILE_BYTES (disk s₁) (disk s₂) c.as_str.result.now c.as_slice-2.result.now list_short (c.write.ensures.ok told) (c.write.ensures.short told)) in
    let s₃ = c.write-2.new.self in
    let metadata_short : IsShort c.as_slice-3.result.now = subst IsShort (sym c.as_slice-3.ensures.value) c.requires.short.metadata_is in
    let so_far₃ = short_then MAX_FILE_BYTES (disk s₀).files (disk s₂).files (disk s₃).files so_far₂
    (short_write c.write-2.result MAX_FILE_BYTES (disk s₂) (disk s₃) c.as_str-2.result.now c.as_slice-3.result.now metadata_short (c.write-2.ensures.ok told) (c.write-2.ensures.short told)) in
    so_far₃

pub returns-in_err-sync-clause-short : goal.returns-in_err-sync-clause-short
returns-in_err-sync-clause-short g c told =
    let disk = g.S.Store.disk in
    let s₀ = c.args.store.now in
    let s₁ = c.write_manifests.new.store in
    let s₂ = c.write.new.self in
    let list_short : IsShort c.as_slice-2.result.now = subst IsShort (sym c.as_slice-2.ensures.value) c.requires.short.list_is in
    let so_far₂ = short_then MAX_FILE_BYTES (disk s₀).files (disk s₁).files (disk s₂).files (c.write_manifests.ensures.short told)
    (short_write c.write.result MAX_FILE_BYTES (disk s₁) (disk s₂) c.as_str.result.now c.as_slice-2.result.now list_short (c.write.ensures.ok told) (c.write.ensures.short told)) in
    let s₃ = c.write-2.new.self in
    let metadata_short : IsShort c.as_slice-3.result.now = subst IsShort (sym c.as_slice-3.ensures.value) c.requires.short.metadata_is in
    let so_far₃ = short_then MAX_FILE_BYTES (disk s₀).files (disk s₂).files (disk s₃).files so_far₂
    (short_write c.write-2.result MAX_FILE_BYTES (disk s₂) (disk s₃) c.as_str-2.result.now c.as_slice-3.result.now metadata_short (c.write-2.ensures.ok told) (c.write-2.ensures.short told)) in
    let s₄ = c.sync.new.self in
    let so_far₄ = short_then MAX_FILE_BYTES (disk s₀).files (disk s₃).files (disk s₄).files so_far₃
    (short_sync c.sync.result MAX_FILE_BYTES (disk s₃) (disk s₄) (c.sync.ensures.ok told) (c.sync.ensures.err told)) in
    so_far₄

pub returns-in_err-publish-clause-short : goal.returns-in_err-publish-clause-short
returns-in_err-publish-clause-short g c told =
    let disk = g.S.Store.disk in
    let s₀ = c.args.store.now in
    let s₁ = c.write_manifests.new.store in
    let s₂ = c.write.new.self in
    let list_short : IsShort c.as_slice-2.result.now = subst IsShort (sym c.as_slice-2.ensures.value) c.requires.short.list_is in
    let so_far₂ = short_then MAX_FILE_BYTES (disk s₀).files (disk s₁).files (disk s₂).files (c.write_manifests.ensures.short told)
    (short_write c.write.result MAX_FILE_BYTES (disk s₁) (disk s₂) c.as_str.result.now c.as_slice-2.result.now list_short (c.write.ensures.ok told) (c.write.ensures.short told)) in
    let s₃ = c.write-2.new.self in
    let metadata_short : IsShort c.as_slice-3.result.now = subst IsShort (sym c.as_slice-3.ensures.value) c.requires.short.metadata_is in
    let so_far₃ = short_then MAX_FILE_BYTES (disk s₀).files (disk s₂).files (disk s₃).files so_far₂
    (short_write c.write-2.result MAX_FILE_BYTES (disk s₂) (disk s₃) c.as_str-2.result.now c.as_slice-3.result.now metadata_short (c.write-2.ensures.ok told) (c.write-2.ensures.short told)) in
    let s₄ = c.sync.new.self in
    let so_far₄ = short_then MAX_FILE_BYTES (disk s₀).files (disk s₃).files (disk s₄).files so_far₃
    (short_sync c.sync.result MAX_FILE_BYTES (disk s₃) (disk s₄) (c.sync.ensures.ok told) (c.sync.ensures.err told)) in
    let s₅ = c.publish.new.self in
    let new : VersionFiles = record { version = c.args.version; manifests = c.args.manifests.now; list = c.args.list.now; metadata = c.args.metadata.now } in
    let are = subst (AreManifestPaths c.args.version (length c.args.manifests.now)) (sym c.as_slice.ensures.value) c.in_ok-manifest_paths.ensures in
    let w = written_aside new c.as_slice.result.now are (disk s₁) (disk s₂) (disk s₃) (disk s₄) (c.in_ok-write_manifests.ensures.written told)
    c.as_str.result.now c.as_slice-2.result.now (c.as_str.ensures.value ∙ c.in_ok-list_path.ensures) c.as_slice-2.ensures.value (c.in_ok-write.ensures.ok told)
    c.as_str-2.result.now c.as_slice-3.result.now (c.as_str-2.ensures.value ∙ c.in_ok-staged_path.ensures) c.as_slice-3.ensures.value (c.in_ok-write-2.ensures.ok told) (c.in_ok-sync.ensures.ok told) in
    let staged_file = ap (λ (p : List ℕ). map.get (disk s₄).files p) (c.as_str-3.ensures.value ∙ c.in_ok-staged_path.ensures) ∙ w.staged in
    short_then MAX_FILE_BYTES (disk s₀).files (disk s₄).files (disk s₅).files so_far₄
    (short_publish c.publish.result (disk s₄) (disk s₅) c.as_str-3.result.now c.as_str-4.result.now c.args.metadata.now staged_file c.requires.short.metadata_is (c.publish.ensures.ok told) (c.publish.ensures.taken told) (c.publish.ensures.err told) (c.publish.ensures.short told))

pub returns-clause-short : goal.returns-clause-short
returns-clause-short g c told =
    let disk = g.S.Store.disk in
    let s₀ = c.args.store.now in
    let s₁ = c.write_manifests.new.store in
    let s₂ = c.write.new.self in
    let list_short : IsShort c.as_slice-2.result.now = subst IsShort (sym c.as_slice-2.ensures.value) c.requires.short.list_is in
    let so_far₂ = short_then MAX_FILE_BYTES (disk s₀).files (disk s₁).files (disk s₂).files (c.write_manifests.ensures.short told)
    (short_write c.write.result MAX_FILE_BYTES (disk s₁) (disk s₂) c.as_str.result.now c.as_slice-2.result.now list_short (c.write.ensures.ok told) (c.write.ensures.short told)) in
    let s₃ = c.write-2.new.self in
    let metadata_short : IsShort c.as_slice-3.result.now = subst IsShort (sym c.as_slice-3.ensures.value) c.requires.short.metadata_is in
    let so_far₃ = short_then MAX_FILE_BYTES (disk s₀).files (disk s₂).files (disk s₃).files so_far₂
    (short_write c.write-2.result MAX_FILE_BYTES (disk s₂) (disk s₃) c.as_str-2.result.now c.as_slice-3.result.now metadata_short (c.write-2.ensures.ok told) (c.write-2.ensures.short told)) in
    let s₄ = c.sync.new.self in
    let so_far₄ = short_then MAX_FILE_BYTES (disk s₀).files (disk s₃).files (disk s₄).files so_far₃
    (short_sync c.sync.result MAX_FILE_BYTES (disk s₃) (disk s₄) (c.sync.ensures.ok told) (c.sync.ensures.err told)) in
    let s₅ = c.publish.new.self in
    let new : VersionFiles = record { version = c.args.version; manifests = c.args.manifests.now; list = c.args.list.now; metadata = c.args.metadata.now } in
    let are = subst (AreManifestPaths c.args.version (length c.args.manifests.now)) (sym c.as_slice.ensures.value) c.in_ok-manifest_paths.ensures in
    let w = written_aside new c.as_slice.result.now are (disk s₁) (disk s₂) (disk s₃) (disk s₄) (c.in_ok-write_manifests.ensures.written told)
    c.as_str.result.now c.as_slice-2.result.now (c.as_str.ensures.value ∙ c.in_ok-list_path.ensures) c.as_slice-2.ensures.value (c.in_ok-write.ensures.ok told)
    c.as_str-2.result.now c.as_slice-3.result.now (c.as_str-2.ensures.value ∙ c.in_ok-staged_path.ensures) c.as_slice-3.ensures.value (c.in_ok-write-2.ensures.ok told) (c.in_ok-sync.ensures.ok told) in
    let staged_file = ap (λ (p : List ℕ). map.get (disk s₄).files p) (c.as_str-3.ensures.value ∙ c.in_ok-staged_path.ensures) ∙ w.staged in
    short_then MAX_FILE_BYTES (disk s₀).files (disk s₄).files (disk s₅).files so_far₄
    (short_publish c.publish.result (disk s₄) (disk s₅) c.as_str-3.result.now c.as_str-4.result.now c.args.metadata.now staged_file c.requires.short.metadata_is (c.publish.ensures.ok told) (c.publish.ensures.taken told) (c.publish.ensures.err told) (c.publish.ensures.short told))
