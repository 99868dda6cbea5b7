use Rattle.std.proofs.Common.{◌≡◌, ◌⊎◌, List, ℕ, inl, inr, ap, sym, subst, ⊎_elim, refl}
use Rattle.std.specs.Prelude.{Some, is_some}
use Rattle.std.proofs.lemmas.Result.{on_ok_weaker}
use Rattle.lake_store.specs.Disk.{Disk, Files, IsPartlySynced, SameElsewhere, removed}
use Rattle.lake_store.proofs.DiskLaws.{remove_leaves, sync_leaves, write_leaves}
use Rattle.hudi_commit.specs.Names.{properties_path, staged_properties_path}
use Rattle.hudi_commit.specs.Runs.{IsNoProperties, IsQuiet}
use Rattle.hudi_commit.specs.Settled.{Stands}
use Rattle.hudi_commit.proofs.AloneLaws.{alone_begun, alone_publish, alone_remove, alone_sync, alone_write}
use Rattle.hudi_commit.proofs.PublishLaws.{bare_stands, full_base, bare_base, has_properties, has_stands, moved_has, properties_free, staged_clean, staged_here, staged_stands, stored_there, written_stands}
use Rattle.hudi_commit.proofs.StagingLaws.{Standing, before_begun, before_on, uncontested}
use Rattle.lake_basics.specs.declared.limits.TheConstants.{MAX_FILE_BYTES}
use Rattle.lake_store.proofs.ShortLaws.{short_publish, short_removal, short_sync, short_then, short_write}
use Rattle.hudi_commit.proofs.properties.publish_properties.Goals as goal

own_properties : IsNoProperties properties_path → ⊥
own_properties kept = kept.properties refl

own_staged : IsNoProperties staged_properties_path → ⊥
own_staged kept = kept.staged refl

self_part : (d : Disk) → IsPartlySynced d d
self_part d = record { files = refl; clean = λ q c. c }

wrote_at : (d₀ d₁ d₂ : Disk) → d₁ ≡ removed d₀ properties_path → SameElsewhere staged_properties_path d₁ d₂ → SameElsewhere staged_properties_path (removed d₀ properties_path) d₂
wrote_at d₀ d₁ d₂ is same = subst (λ d. SameElsewhere staged_properties_path d d₂) is same

standing_after_remove : (base : Files) (p : List ℕ) (d₀ d₁ : Disk) → Stands base d₀ → IsQuiet d₀ → (d₁ ≡ d₀) ⊎ (d₁ ≡ removed d₀ properties_path) → Standing (Some p) base d₁
standing_after_remove base p d₀ d₁ stands quiet (inl same) = record { base = base; is_base = inl refl; stands = subst (Stands base) (sym same) stands }
standing_after_remove base p d₀ d₁ stands quiet (inr gone) = record { base = bare_base base p; is_base = inr (inl refl); stands = subst (Stands (bare_base base p)) (sym gone) (bare_stands base p d₀ stands quiet) }

pub returns-in_err-remove-clause-keeps : goal.returns-in_err-remove-clause-keeps
returns-in_err-remove-clause-keeps g c told free base stands quiet =
    let store = g.S.Store in
    let p = c.args.properties.now in
    let k0 = before_begun store told (Some p) base g.met.S.Store.only_now c.args.store.now (record { base = base; is_base = inl refl; stands = stands }) in
    let s0 = c.args.store.now in
    let s1 = c.remove.new.self in
    before_on store told (Some p) base s0 s0 s1 k0 (c.remove.ensures.elapses told) (standing_after_remove base p (store.disk s0) (store.disk s1) stands quiet (remove_leaves c.remove.result (store.disk s0) (store.disk s1) properties_path (c.remove.ensures.ok told) (c.remove.ensures.err told)))

pub returns-in_err-remove-clause-alone : goal.returns-in_err-remove-clause-alone
returns-in_err-remove-clause-alone g c told =
    let store = g.S.Store in
    let p = c.args.properties.now in
    let a0 = alone_begun store told g.met.S.Store.only_now IsNoProperties c.args.store.now in
    let s0 = c.args.store.now in
    let s1 = c.remove.new.self in
    alone_remove store told g.met.S.Store.only_now IsNoProperties s0 s0 s1 a0 c.remove.ensures.elapses c.remove.result properties_path own_properties c.remove.ensures.ok c.remove.ensures.err

pub returns-in_err-write-clause-keeps : goal.returns-in_err-write-clause-keeps
returns-in_err-write-clause-keeps g c told free base stands quiet =
    let store = g.S.Store in
    let p = c.args.properties.now in
    let k0 = before_begun store told (Some p) base g.met.S.Store.only_now c.args.store.now (record { base = base; is_base = inl refl; stands = stands }) in
    let s0 = c.args.store.now in
    let s1 = c.remove.new.self in
    let s2 = c.write.new.self in
    let k1 = before_on store told (Some p) base s0 s0 s1 k0 (c.remove.ensures.elapses told) (standing_after_remove base p (store.disk s0) (store.disk s1) stands quiet (remove_leaves c.remove.result (store.disk s0) (store.disk s1) properties_path (c.remove.ensures.ok told) (c.remove.ensures.err told))) in
    before_on store told (Some p) base s0 s1 s2 k1 (c.write.ensures.elapses told) (record { base = (bare_base base p); is_base = inr (inl refl); stands = written_stands base p (store.disk s0) stands quiet (store.disk s2) (store.disk s2) (wrote_at (store.disk s0) (store.disk s1) (store.disk s2) (c.in_ok-remove.ensures.ok told) (write_leaves c.write.result (store.disk s1) (store.disk s2) staged_properties_path p (c.write.ensures.ok told) (c.write.ensures.err told))) (self_part (store.disk s2)) })

pub returns-in_err-write-clause-alone : goal.returns-in_err-write-clause-alone
returns-in_err-write-clause-alone g c told =
    let store = g.S.Store in
    let p = c.args.properties.now in
    let a0 = alone_begun store told g.met.S.Store.only_now IsNoProperties c.args.store.now in
    let s0 = c.args.store.now in
    let s1 = c.remove.new.self in
    let s2 = c.write.new.self in
    let k1 = alone_remove store told g.met.S.Store.only_now IsNoProperties s0 s0 s1 a0 c.remove.ensures.elapses c.remove.result properties_path own_properties c.remove.ensures.ok c.remove.ensures.err in
    alone_write store told g.met.S.Store.only_now IsNoProperties s0 s1 s2 k1 c.write.ensures.elapses c.write.result staged_properties_path p own_staged c.write.ensures.ok c.write.ensures.err

pub returns-in_err-sync-clause-keeps : goal.returns-in_err-sync-clause-keeps
returns-in_err-sync-clause-keeps g c told free base stands quiet =
    let store = g.S.Store in
    let p = c.args.properties.now in
    let k0 = before_begun store told (Some p) base g.met.S.Store.only_now c.args.store.now (record { base = base; is_base = inl refl; stands = stands }) in
    let s0 = c.args.store.now in
    let s1 = c.remove.new.self in
    let s2 = c.write.new.self in
    let s3 = c.sync.new.self in
    let k1 = before_on store told (Some p) base s0 s0 s1 k0 (c.remove.ensures.elapses told) (standing_after_remove base p (store.disk s0) (store.disk s1) stands quiet (remove_leaves c.remove.result (store.disk s0) (store.disk s1) properties_path (c.remove.ensures.ok told) (c.remove.ensures.err told))) in
    let k2 = before_on store told (Some p) base s0 s1 s2 k1 (c.write.ensures.elapses told) (record { base = (bare_base base p); is_base = inr (inl refl); stands = written_stands base p (store.disk s0) stands quiet (store.disk s2) (store.disk s2) (wrote_at (store.disk s0) (store.disk s1) (store.disk s2) (c.in_ok-remove.ensures.ok told) (write_leaves c.write.result (store.disk s1) (store.disk s2) staged_properties_path p (c.write.ensures.ok told) (c.write.ensures.err told))) (self_part (store.disk s2)) }) in
    before_on store told (Some p) base s0 s2 s3 k2 (c.sync.ensures.elapses told) (record { base = (bare_base base p); is_base = inr (inl refl); stands = staged_stands base p (store.disk s0) stands quiet (store.disk s2) (store.disk s3) (wrote_at (store.disk s0) (store.disk s1) (store.disk s2) (c.in_ok-remove.ensures.ok told) (write_leaves c.write.result (store.disk s1) (store.disk s2) staged_properties_path p (c.write.ensures.ok told) (c.write.ensures.err told))) (sync_leaves c.sync.result (store.disk s2) (store.disk s3) (c.sync.ensures.ok told) (c.sync.ensures.err told)) })

pub returns-in_err-sync-clause-alone : goal.returns-in_err-sync-clause-alone
returns-in_err-sync-clause-alone g c told =
    let store = g.S.Store in
    let p = c.args.properties.now in
    let a0 = alone_begun store told g.met.S.Store.only_now IsNoProperties c.args.store.now in
    let s0 = c.args.store.now in
    let s1 = c.remove.new.self in
    let s2 = c.write.new.self in
    let s3 = c.sync.new.self in
    let k1 = alone_remove store told g.met.S.Store.only_now IsNoProperties s0 s0 s1 a0 c.remove.ensures.elapses c.remove.result properties_path own_properties c.remove.ensures.ok c.remove.ensures.err in
    let k2 = alone_write store told g.met.S.Store.only_now IsNoProperties s0 s1 s2 k1 c.write.ensures.elapses c.write.result staged_properties_path p own_staged c.write.ensures.ok c.write.ensures.err in
    alone_sync store told g.met.S.Store.only_now IsNoProperties s0 s2 s3 k2 c.sync.ensures.elapses c.sync.result c.sync.ensures.ok c.sync.ensures.err

pub returns-clause-keeps : goal.returns-clause-keeps
returns-clause-keeps g c told free base stands quiet =
    let store = g.S.Store in
    let p = c.args.properties.now in
    let k0 = before_begun store told (Some p) base g.met.S.Store.only_now c.args.store.now (record { base = base; is_base = inl refl; stands = stands }) in
    let s0 = c.args.store.now in
    let s1 = c.remove.new.self in
    let s2 = c.write.new.self in
    let s3 = c.sync.new.self in
    let s4 = c.publish.new.self in
    let k1 = before_on store told (Some p) base s0 s0 s1 k0 (c.remove.ensures.elapses told) (standing_after_remove base p (store.disk s0) (store.disk s1) stands quiet (remove_leaves c.remove.result (store.disk s0) (store.disk s1) properties_path (c.remove.ensures.ok told) (c.remove.ensures.err told))) in
    let k2 = before_on store told (Some p) base s0 s1 s2 k1 (c.write.ensures.elapses told) (record { base = (bare_base base p); is_base = inr (inl refl); stands = written_stands base p (store.disk s0) stands quiet (store.disk s2) (store.disk s2) (wrote_at (store.disk s0) (store.disk s1) (store.disk s2) (c.in_ok-remove.ensures.ok told) (write_leaves c.write.result (store.disk s1) (store.disk s2) staged_properties_path p (c.write.ensures.ok told) (c.write.ensures.err told))) (self_part (store.disk s2)) }) in
    let k3 = before_on store told (Some p) base s0 s2 s3 k2 (c.sync.ensures.elapses told) (record { base = (bare_base base p); is_base = inr (inl refl); stands = staged_stands base p (store.disk s0) stands quiet (store.disk s2) (store.disk s3) (wrote_at (store.disk s0) (store.disk s1) (store.disk s2) (c.in_ok-remove.ensures.ok told) (write_leaves c.write.result (store.disk s1) (store.disk s2) staged_properties_path p (c.write.ensures.ok told) (c.write.ensures.err told))) (sync_leaves c.sync.result (store.disk s2) (store.disk s3) (c.sync.ensures.ok told) (c.sync.ensures.err told)) }) in
    before_on store told (Some p) base s0 s3 s4 k3 (c.publish.ensures.elapses told) (⊎_elim (λ same. (record { base = (bare_base base p); is_base = inr (inl refl); stands = subst (Stands (bare_base base p)) (sym same) (staged_stands base p (store.disk s0) stands quiet (store.disk s2) (store.disk s3) (wrote_at (store.disk s0) (store.disk s1) (store.disk s2) (c.in_ok-remove.ensures.ok told) (write_leaves c.write.result (store.disk s1) (store.disk s2) staged_properties_path p (c.write.ensures.ok told) (c.write.ensures.err told))) (sync_leaves c.sync.result (store.disk s2) (store.disk s3) (c.sync.ensures.ok told) (c.sync.ensures.err told))) })) (λ gone. (record { base = (full_base base p); is_base = inr (inr refl); stands = subst (Stands (full_base base p)) (sym gone) (has_stands base p (store.disk s0) stands quiet _ (moved_has p (store.disk s0) (store.disk s1) (store.disk s2) (store.disk s3) (c.in_ok-remove.ensures.ok told) (c.in_ok-write.ensures.ok told) (c.in_ok-sync.ensures.ok told))) })) (uncontested c.publish.result (store.disk s3) (store.disk s4) staged_properties_path properties_path p free (staged_here p (store.disk s0) (store.disk s1) (store.disk s2) (store.disk s3) (c.in_ok-remove.ensures.ok told) (c.in_ok-write.ensures.ok told) (c.in_ok-sync.ensures.ok told)) (c.publish.ensures.ok told) (c.publish.ensures.taken told) (c.publish.ensures.err told)))

pub returns-clause-alone : goal.returns-clause-alone
returns-clause-alone g c told =
    let store = g.S.Store in
    let p = c.args.properties.now in
    let a0 = alone_begun store told g.met.S.Store.only_now IsNoProperties c.args.store.now in
    let s0 = c.args.store.now in
    let s1 = c.remove.new.self in
    let s2 = c.write.new.self in
    let s3 = c.sync.new.self in
    let s4 = c.publish.new.self in
    let k1 = alone_remove store told g.met.S.Store.only_now IsNoProperties s0 s0 s1 a0 c.remove.ensures.elapses c.remove.result properties_path own_properties c.remove.ensures.ok c.remove.ensures.err in
    let k2 = alone_write store told g.met.S.Store.only_now IsNoProperties s0 s1 s2 k1 c.write.ensures.elapses c.write.result staged_properties_path p own_staged c.write.ensures.ok c.write.ensures.err in
    let k3 = alone_sync store told g.met.S.Store.only_now IsNoProperties s0 s2 s3 k2 c.sync.ensures.elapses c.sync.result c.sync.ensures.ok c.sync.ensures.err in
    alone_publish store told g.met.S.Store.only_now IsNoProperties s0 s3 s4 k3 c.publish.ensures.elapses c.publish.result staged_properties_path properties_path own_staged own_properties c.publish.ensures.ok c.publish.ensures.taken c.publish.ensures.err

pub publish-requires-clause-there : goal.publish-requires-clause-there
publish-requires-clause-there g c = λ told. let p = c.args.properties.now in ap is_some (staged_here p (g.S.Store.disk c.args.store.now) (g.S.Store.disk c.remove.new.self) (g.S.Store.disk c.write.new.self) (g.S.Store.disk c.sync.new.self) (c.in_ok-remove.ensures.ok told) (c.in_ok-write.ensures.ok told) (c.in_ok-sync.ensures.ok told))

pub publish-requires-clause-durable : goal.publish-requires-clause-durable
publish-requires-clause-durable g c = λ told. let p = c.args.properties.now in staged_clean p (g.S.Store.disk c.args.store.now) (g.S.Store.disk c.remove.new.self) (g.S.Store.disk c.write.new.self) (g.S.Store.disk c.sync.new.self) (c.in_ok-remove.ensures.ok told) (c.in_ok-write.ensures.ok told) (c.in_ok-sync.ensures.ok told) staged_properties_path

pub publish-requires-clause-free : goal.publish-requires-clause-free
publish-requires-clause-free g c = λ told. let p = c.args.properties.now in properties_free p (g.S.Store.disk c.args.store.now) (g.S.Store.disk c.remove.new.self) (g.S.Store.disk c.write.new.self) (g.S.Store.disk c.sync.new.self) (c.in_ok-remove.ensures.ok told) (c.in_ok-write.ensures.ok told) (c.in_ok-sync.ensures.ok told)

pub returns-clause-published : goal.returns-clause-published
returns-clause-published g c told = let p = c.args.properties.now in on_ok_weaker c.publish.result (has_properties p (g.S.Store.disk c.args.store.now) (g.S.Store.disk c.remove.new.self) (g.S.Store.disk c.write.new.self) (g.S.Store.disk c.sync.new.self) (c.in_ok-remove.ensures.ok told) (c.in_ok-write.ensures.ok told) (c.in_ok-sync.ensures.ok told) (g.S.Store.disk c.publish.new.self)) (c.publish.ensures.ok told)

pub returns-clause-taken : goal.returns-clause-taken
returns-clause-taken g c told taken = stored_there (g.S.Store.disk c.sync.new.self) (g.S.Store.disk c.publish.new.self) properties_path properties_path refl (c.publish.ensures.taken told taken)

pub returns-in_err-remove-clause-short : goal.returns-in_err-remove-clause-short
returns-in_err-remove-clause-short g c told le =
    let disk = g.S.Store.disk in
    let d0 = disk c.args.store.now in
    let d1 = disk c.remove.new.self in
    short_removal c.remove.result MAX_FILE_BYTES d0 d1 properties_path (c.remove.ensures.ok told) (c.remove.ensures.err told)

pub returns-in_err-write-clause-short : goal.returns-in_err-write-clause-short
returns-in_err-write-clause-short g c told le =
    let disk = g.S.Store.disk in
    let d0 = disk c.args.store.now in
    let d1 = disk c.remove.new.self in
    let d2 = disk c.write.new.self in
    let p = c.args.properties.now in
    short_then MAX_FILE_BYTES d0.files d1.files d2.files (short_removal c.remove.result MAX_FILE_BYTES d0 d1 properties_path (c.remove.ensures.ok told) (c.remove.ensures.err told)) (short_write c.write.result MAX_FILE_BYTES d1 d2 staged_properties_path p le (c.write.ensures.ok told) (c.write.ensures.short told))

pub returns-in_err-sync-clause-short : goal.returns-in_err-sync-clause-short
returns-in_err-sync-clause-short g c told le =
    let disk = g.S.Store.disk in
    let d0 = disk c.args.store.now in
    let d1 = disk c.remove.new.self in
    let d2 = disk c.write.new.self in
    let d3 = disk c.sync.new.self in
    let p = c.args.properties.now in
    short_then MAX_FILE_BYTES d0.files d1.files d3.files (short_removal c.remove.result MAX_FILE_BYTES d0 d1 properties_path (c.remove.ensures.ok told) (c.remove.ensures.err told))
    (short_then MAX_FILE_BYTES d1.files d2.files d3.files (short_write c.write.result MAX_FILE_BYTES d1 d2 staged_properties_path p le (c.write.ensures.ok told) (c.write.ensures.short told)) (short_sync c.sync.result MAX_FILE_BYTES d2 d3 (c.sync.ensures.ok told) (c.sync.ensures.err told)))

pub returns-clause-short : goal.returns-clause-short
returns-clause-short g c told le =
    let disk = g.S.Store.disk in
    let d0 = disk c.args.store.now in
    let d1 = disk c.remove.new.self in
    let d2 = disk c.write.new.self in
    let d3 = disk c.sync.new.self in
    let d4 = disk c.publish.new.self in
    let p = c.args.properties.now in
    short_then MAX_FILE_BYTES d0.files d1.files d4.files (short_removal c.remove.result MAX_FILE_BYTES d0 d1 properties_path (c.remove.ensures.ok told) (c.remove.ensures.err told))
    (short_then MAX_FILE_BYTES d1.files d2.files d4.files (short_write c.write.result MAX_FILE_BYTES d1 d2 staged_properties_path p le (c.write.ensures.ok told) (c.write.ensures.short told))
    (short_then MAX_FILE_BYTES d2.files d3.files d4.files (short_sync c.sync.result MAX_FILE_BYTES d2 d3 (c.sync.ensures.ok told) (c.sync.ensures.err told)) (short_publish c.publish.result d3 d4 staged_properties_path properties_path p (staged_here p d0 d1 d2 d3 (c.in_ok-remove.ensures.ok told) (c.in_ok-write.ensures.ok told) (c.in_ok-sync.ensures.ok told)) le (c.publish.ensures.ok told) (c.publish.ensures.taken told) (c.publish.ensures.err told) (c.publish.ensures.short told))))
