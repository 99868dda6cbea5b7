use Rattle.hudi_commit.specs.Names.{Requested, Inflight}
use Rattle.std.proofs.Common.{inl, inr}
use Rattle.hudi_commit.specs.Runs.{IsNotOf}
use Rattle.hudi_commit.proofs.AloneLaws.{alone_begun, alone_remove}
use Rattle.hudi_commit.proofs.KeepLaws.{begun, remove_keeps}
use Rattle.hudi_commit.proofs.StepLaws.{claim_removed_at, pending_removed_at}
use Rattle.lake_basics.specs.declared.limits.TheConstants.{MAX_FILE_BYTES}
use Rattle.lake_store.proofs.ShortLaws.{short_removal, short_then}
use Rattle.hudi_commit.proofs.recovery.clear_claim.Goals as goal

pub returns-in_err-remove-clause-keeps : goal.returns-in_err-remove-clause-keeps
returns-in_err-remove-clause-keeps g c told base stands =
    let store = g.S.Store in
    let t = c.args.paths.now in
    let is = c.requires.1.digits in
    let k0 = begun store told base g.met.S.Store.only_now c.args.store.now stands in
    let s0 = c.args.store.now in
    let s1 = c.remove.new.self in
    remove_keeps store told base s0 s0 s1 k0 c.inflight.result.now (pending_removed_at base Inflight t c.inflight.result.now is c.inflight.ensures (store.disk s0) k0.disk) c.remove.result c.remove.ensures.ok c.remove.ensures.err c.remove.ensures.elapses

pub returns-in_err-remove-clause-alone : goal.returns-in_err-remove-clause-alone
returns-in_err-remove-clause-alone g c told =
    let store = g.S.Store in
    let t = c.args.paths.now in
    let is = c.requires.1.digits in
    let a0 = alone_begun store told g.met.S.Store.only_now (IsNotOf t) c.args.store.now in
    let s0 = c.args.store.now in
    let s1 = c.remove.new.self in
    alone_remove store told g.met.S.Store.only_now (IsNotOf t) s0 s0 s1 a0 c.remove.ensures.elapses c.remove.result c.inflight.result.now (λ kept. kept (inr (Inflight, c.inflight.ensures))) c.remove.ensures.ok c.remove.ensures.err

pub returns-in_err-remove-2-clause-keeps : goal.returns-in_err-remove-2-clause-keeps
returns-in_err-remove-2-clause-keeps g c told base stands =
    let store = g.S.Store in
    let t = c.args.paths.now in
    let is = c.requires.1.digits in
    let k0 = begun store told base g.met.S.Store.only_now c.args.store.now stands in
    let s0 = c.args.store.now in
    let s1 = c.remove.new.self in
    let s2 = c.remove-2.new.self in
    let k1 = remove_keeps store told base s0 s0 s1 k0 c.inflight.result.now (pending_removed_at base Inflight t c.inflight.result.now is c.inflight.ensures (store.disk s0) k0.disk) c.remove.result c.remove.ensures.ok c.remove.ensures.err c.remove.ensures.elapses in
    remove_keeps store told base s0 s1 s2 k1 c.requested.result.now (pending_removed_at base Requested t c.requested.result.now is c.requested.ensures (store.disk s1) k1.disk) c.remove-2.result c.remove-2.ensures.ok c.remove-2.ensures.err c.remove-2.ensures.elapses

pub returns-in_err-remove-2-clause-alone : goal.returns-in_err-remove-2-clause-alone
returns-in_err-remove-2-clause-alone g c told =
    let store = g.S.Store in
    let t = c.args.paths.now in
    let is = c.requires.1.digits in
    let a0 = alone_begun store told g.met.S.Store.only_now (IsNotOf t) c.args.store.now in
    let s0 = c.args.store.now in
    let s1 = c.remove.new.self in
    let s2 = c.remove-2.new.self in
    let k1 = alone_remove store told g.met.S.Store.only_now (IsNotOf t) s0 s0 s1 a0 c.remove.ensures.elapses c.remove.result c.inflight.result.now (λ kept. kept (inr (Inflight, c.inflight.ensures))) c.remove.ensures.ok c.remove.ensures.err in
    alone_remove store told g.met.S.Store.only_now (IsNotOf t) s0 s1 s2 k1 c.remove-2.ensures.elapses c.remove-2.result c.requested.result.now (λ kept. kept (inr (Requested, c.requested.ensures))) c.remove-2.ensures.ok c.remove-2.ensures.err

pub returns-clause-keeps : goal.returns-clause-keeps
returns-clause-keeps g c told base stands =
    let store = g.S.Store in
    let t = c.args.paths.now in
    let is = c.requires.1.digits in
    let k0 = begun store told base g.met.S.Store.only_now c.args.store.now stands in
    let s0 = c.args.store.now in
    let s1 = c.remove.new.self in
    let s2 = c.remove-2.new.self in
    let s3 = c.remove-3.new.self in
    let k1 = remove_keeps store told base s0 s0 s1 k0 c.inflight.result.now (pending_removed_at base Inflight t c.inflight.result.now is c.inflight.ensures (store.disk s0) k0.disk) c.remove.result c.remove.ensures.ok c.remove.ensures.err c.remove.ensures.elapses in
    let k2 = remove_keeps store told base s0 s1 s2 k1 c.requested.result.now (pending_removed_at base Requested t c.requested.result.now is c.requested.ensures (store.disk s1) k1.disk) c.remove-2.result c.remove-2.ensures.ok c.remove-2.ensures.err c.remove-2.ensures.elapses in
    remove_keeps store told base s0 s2 s3 k2 c.claim.result.now (claim_removed_at base t c.inflight.result.now c.requested.result.now c.claim.result.now is c.inflight.ensures c.requested.ensures c.claim.ensures (store.disk s0) (store.disk s1) (store.disk s2) (c.in_ok-remove.ensures.ok told) (c.in_ok-remove-2.ensures.ok told) k2.disk) c.remove-3.result c.remove-3.ensures.ok c.remove-3.ensures.err c.remove-3.ensures.elapses

pub returns-clause-alone : goal.returns-clause-alone
returns-clause-alone g c told =
    let store = g.S.Store in
    let t = c.args.paths.now in
    let is = c.requires.1.digits in
    let a0 = alone_begun store told g.met.S.Store.only_now (IsNotOf t) c.args.store.now in
    let s0 = c.args.store.now in
    let s1 = c.remove.new.self in
    let s2 = c.remove-2.new.self in
    let s3 = c.remove-3.new.self in
    let k1 = alone_remove store told g.met.S.Store.only_now (IsNotOf t) s0 s0 s1 a0 c.remove.ensures.elapses c.remove.result c.inflight.result.now (λ kept. kept (inr (Inflight, c.inflight.ensures))) c.remove.ensures.ok c.remove.ensures.err in
    let k2 = alone_remove store told g.met.S.Store.only_now (IsNotOf t) s0 s1 s2 k1 c.remove-2.ensures.elapses c.remove-2.result c.requested.result.now (λ kept. kept (inr (Requested, c.requested.ensures))) c.remove-2.ensures.ok c.remove-2.ensures.err in
    alone_remove store told g.met.S.Store.only_now (IsNotOf t) s0 s2 s3 k2 c.remove-3.ensures.elapses c.remove-3.result c.claim.result.now (λ kept. kept (inl c.claim.ensures)) c.remove-3.ensures.ok c.remove-3.ensures.err

pub returns-in_err-remove-clause-short : goal.returns-in_err-remove-clause-short
returns-in_err-remove-clause-short g c told =
    let disk = g.S.Store.disk in
    let d0 = disk c.args.store.now in
    let d1 = disk c.remove.new.self in
    short_removal c.remove.result MAX_FILE_BYTES d0 d1 c.inflight.result.now (c.remove.ensures.ok told) (c.remove.ensures.err told)

pub returns-in_err-remove-2-clause-short : goal.returns-in_err-remove-2-clause-short
returns-in_err-remove-2-clause-short g c told =
    let disk = g.S.Store.disk in
    let d0 = disk c.args.store.now in
    let d1 = disk c.remove.new.self in
    let d2 = disk c.remove-2.new.self in
    short_then MAX_FILE_BYTES d0.files d1.files d2.files (short_removal c.remove.result MAX_FILE_BYTES d0 d1 c.inflight.result.now (c.remove.ensures.ok told) (c.remove.ensures.err told)) (short_removal c.remove-2.result MAX_FILE_BYTES d1 d2 c.requested.result.now (c.remove-2.ensures.ok told) (c.remove-2.ensures.err told))

pub returns-clause-short : goal.returns-clause-short
returns-clause-short g c told =
    let disk = g.S.Store.disk in
    let d0 = disk c.args.store.now in
    let d1 = disk c.remove.new.self in
    let d2 = disk c.remove-2.new.self in
    let d3 = disk c.remove-3.new.self in
    short_then MAX_FILE_BYTES d0.files d1.files d3.files (short_removal c.remove.result MAX_FILE_BYTES d0 d1 c.inflight.result.now (c.remove.ensures.ok told) (c.remove.ensures.err told))
    (short_then MAX_FILE_BYTES d1.files d2.files d3.files (short_removal c.remove-2.result MAX_FILE_BYTES d1 d2 c.requested.result.now (c.remove-2.ensures.ok told) (c.remove-2.ensures.err told)) (short_removal c.remove-3.result MAX_FILE_BYTES d2 d3 c.claim.result.now (c.remove-3.ensures.ok told) (c.remove-3.ensures.err told)))
