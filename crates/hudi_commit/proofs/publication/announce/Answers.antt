use Rattle.std.proofs.Common.{[], arith}
use Rattle.hudi_commit.specs.Names.{Requested, Inflight, pending_path}
use Rattle.std.proofs.Common.{inr}
use Rattle.hudi_commit.specs.Runs.{IsNotOf}
use Rattle.hudi_commit.proofs.AloneLaws.{alone_begun, alone_sync, alone_write}
use Rattle.hudi_commit.proofs.KeepLaws.{begun, sync_keeps, write_keeps_at, wrote}
use Rattle.hudi_commit.proofs.StepLaws.{announceable_after, pending_stands}
use Rattle.lake_basics.specs.declared.limits.TheConstants.{MAX_FILE_BYTES}
use Rattle.lake_store.proofs.ShortLaws.{short_sync, short_then, short_write}
use Rattle.hudi_commit.proofs.publication.announce.Goals as goal

pub returns-in_err-write-clause-keeps : goal.returns-in_err-write-clause-keeps
returns-in_err-write-clause-keeps g c told base stands next =
    let store = g.S.Store in
    let t = c.args.paths.now in
    let is = c.requires.1.digits in
    let k0 = begun store told base g.met.S.Store.only_now c.args.store.now stands in
    let s0 = c.args.store.now in
    let s1 = c.write.new.self in
    write_keeps_at store told base s0 s0 s1 k0 c.requested.result.now (pending_path Requested t) [] c.requested.ensures c.write.result (λ same. pending_stands base Requested t is (store.disk s0) (store.disk s1) same next k0.disk) c.write.ensures.ok c.write.ensures.err c.write.ensures.elapses

pub returns-in_err-write-clause-alone : goal.returns-in_err-write-clause-alone
returns-in_err-write-clause-alone g c told =
    let store = g.S.Store in
    let t = c.args.paths.now in
    let is = c.requires.1.digits in
    let a0 = alone_begun store told g.met.S.Store.only_now (IsNotOf t) c.args.store.now in
    let s0 = c.args.store.now in
    let s1 = c.write.new.self in
    alone_write store told g.met.S.Store.only_now (IsNotOf t) s0 s0 s1 a0 c.write.ensures.elapses c.write.result c.requested.result.now [] (λ kept. kept (inr (Requested, c.requested.ensures))) c.write.ensures.ok c.write.ensures.err

pub returns-in_err-write-2-clause-keeps : goal.returns-in_err-write-2-clause-keeps
returns-in_err-write-2-clause-keeps g c told base stands next =
    let store = g.S.Store in
    let t = c.args.paths.now in
    let is = c.requires.1.digits in
    let k0 = begun store told base g.met.S.Store.only_now c.args.store.now stands in
    let s0 = c.args.store.now in
    let s1 = c.write.new.self in
    let s2 = c.write-2.new.self in
    let k1 = write_keeps_at store told base s0 s0 s1 k0 c.requested.result.now (pending_path Requested t) [] c.requested.ensures c.write.result (λ same. pending_stands base Requested t is (store.disk s0) (store.disk s1) same next k0.disk) c.write.ensures.ok c.write.ensures.err c.write.ensures.elapses in
    write_keeps_at store told base s0 s1 s2 k1 c.inflight.result.now (pending_path Inflight t) [] c.inflight.ensures c.write-2.result (λ same. pending_stands base Inflight t is (store.disk s1) (store.disk s2) same (announceable_after base Requested t is (store.disk s0) (store.disk s1) (wrote store told base s0 s1 c.requested.result.now (pending_path Requested t) [] c.requested.ensures c.write.result c.write.ensures.ok c.write.ensures.err) next stands) k1.disk) c.write-2.ensures.ok c.write-2.ensures.err c.write-2.ensures.elapses

pub returns-in_err-write-2-clause-alone : goal.returns-in_err-write-2-clause-alone
returns-in_err-write-2-clause-alone g c told =
    let store = g.S.Store in
    let t = c.args.paths.now in
    let is = c.requires.1.digits in
    let a0 = alone_begun store told g.met.S.Store.only_now (IsNotOf t) c.args.store.now in
    let s0 = c.args.store.now in
    let s1 = c.write.new.self in
    let s2 = c.write-2.new.self in
    let k1 = alone_write store told g.met.S.Store.only_now (IsNotOf t) s0 s0 s1 a0 c.write.ensures.elapses c.write.result c.requested.result.now [] (λ kept. kept (inr (Requested, c.requested.ensures))) c.write.ensures.ok c.write.ensures.err in
    alone_write store told g.met.S.Store.only_now (IsNotOf t) s0 s1 s2 k1 c.write-2.ensures.elapses c.write-2.result c.inflight.result.now [] (λ kept. kept (inr (Inflight, c.inflight.ensures))) c.write-2.ensures.ok c.write-2.ensures.err

pub returns-clause-keeps : goal.returns-clause-keeps
returns-clause-keeps g c told base stands next =
    let store = g.S.Store in
    let t = c.args.paths.now in
    let is = c.requires.1.digits in
    let k0 = begun store told base g.met.S.Store.only_now c.args.store.now stands in
    let s0 = c.args.store.now in
    let s1 = c.write.new.self in
    let s2 = c.write-2.new.self in
    let s3 = c.sync.new.self in
    let k1 = write_keeps_at store told base s0 s0 s1 k0 c.requested.result.now (pending_path Requested t) [] c.requested.ensures c.write.result (λ same. pending_stands base Requested t is (store.disk s0) (store.disk s1) same next k0.disk) c.write.ensures.ok c.write.ensures.err c.write.ensures.elapses in
    let k2 = write_keeps_at store told base s0 s1 s2 k1 c.inflight.result.now (pending_path Inflight t) [] c.inflight.ensures c.write-2.result (λ same. pending_stands base Inflight t is (store.disk s1) (store.disk s2) same (announceable_after base Requested t is (store.disk s0) (store.disk s1) (wrote store told base s0 s1 c.requested.result.now (pending_path Requested t) [] c.requested.ensures c.write.result c.write.ensures.ok c.write.ensures.err) next stands) k1.disk) c.write-2.ensures.ok c.write-2.ensures.err c.write-2.ensures.elapses in
    sync_keeps store told base s0 s2 s3 k2 c.sync.result c.sync.ensures.ok c.sync.ensures.err c.sync.ensures.elapses

pub returns-clause-alone : goal.returns-clause-alone
returns-clause-alone g c told =
    let store = g.S.Store in
    let t = c.args.paths.now in
    let is = c.requires.1.digits in
    let a0 = alone_begun store told g.met.S.Store.only_now (IsNotOf t) c.args.store.now in
    let s0 = c.args.store.now in
    let s1 = c.write.new.self in
    let s2 = c.write-2.new.self in
    let s3 = c.sync.new.self in
    let k1 = alone_write store told g.met.S.Store.only_now (IsNotOf t) s0 s0 s1 a0 c.write.ensures.elapses c.write.result c.requested.result.now [] (λ kept. kept (inr (Requested, c.requested.ensures))) c.write.ensures.ok c.write.ensures.err in
    let k2 = alone_write store told g.met.S.Store.only_now (IsNotOf t) s0 s1 s2 k1 c.write-2.ensures.elapses c.write-2.result c.inflight.result.now [] (λ kept. kept (inr (Inflight, c.inflight.ensures))) c.write-2.ensures.ok c.write-2.ensures.err in
    alone_sync store told g.met.S.Store.only_now (IsNotOf t) s0 s2 s3 k2 c.sync.ensures.elapses c.sync.result c.sync.ensures.ok c.sync.ensures.err

pub returns-in_err-write-clause-short : goal.returns-in_err-write-clause-short
returns-in_err-write-clause-short g c told =
    let disk = g.S.Store.disk in
    let d0 = disk c.args.store.now in
    let d1 = disk c.write.new.self in
    short_write c.write.result MAX_FILE_BYTES d0 d1 c.requested.result.now [] (omega arith) (c.write.ensures.ok told) (c.write.ensures.short told)

pub returns-in_err-write-2-clause-short : goal.returns-in_err-write-2-clause-short
returns-in_err-write-2-clause-short g c told =
    let disk = g.S.Store.disk in
    let d0 = disk c.args.store.now in
    let d1 = disk c.write.new.self in
    let d2 = disk c.write-2.new.self in
    short_then MAX_FILE_BYTES d0.files d1.files d2.files (short_write c.write.result MAX_FILE_BYTES d0 d1 c.requested.result.now [] (omega arith) (c.write.ensures.ok told) (c.write.ensures.short told)) (short_write c.write-2.result MAX_FILE_BYTES d1 d2 c.inflight.result.now [] (omega arith) (c.write-2.ensures.ok told) (c.write-2.ensures.short told))

pub returns-clause-short : goal.returns-clause-short
returns-clause-short g c told =
    let disk = g.S.Store.disk in
    let d0 = disk c.args.store.now in
    let d1 = disk c.write.new.self in
    let d2 = disk c.write-2.new.self in
    let d3 = disk c.sync.new.self in
    short_then MAX_FILE_BYTES d0.files d1.files d3.files (short_write c.write.result MAX_FILE_BYTES d0 d1 c.requested.result.now [] (omega arith) (c.write.ensures.ok told) (c.write.ensures.short told))
    (short_then MAX_FILE_BYTES d1.files d2.files d3.files (short_write c.write-2.result MAX_FILE_BYTES d1 d2 c.inflight.result.now [] (omega arith) (c.write-2.ensures.ok told) (c.write-2.ensures.short told)) (short_sync c.sync.result MAX_FILE_BYTES d2 d3 (c.sync.ensures.ok told) (c.sync.ensures.err told)))
