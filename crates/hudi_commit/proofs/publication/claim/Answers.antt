use Rattle.hudi_commit.specs.Names.{claim_path}
use Rattle.std.proofs.Common.{inl}
use Rattle.hudi_commit.specs.Runs.{IsNotOf}
use Rattle.hudi_commit.proofs.AloneLaws.{alone_begun, alone_sync, alone_write}
use Rattle.hudi_commit.proofs.KeepLaws.{begun, sync_keeps, write_keeps_at}
use Rattle.hudi_commit.proofs.StepLaws.{claim_stands}
use Rattle.lake_basics.specs.declared.limits.TheConstants.{MAX_FILE_BYTES}
use Rattle.lake_store.proofs.ShortLaws.{short_sync, short_then, short_write}
use Rattle.hudi_commit.proofs.publication.claim.Goals as goal

pub returns-in_err-write-clause-keeps : goal.returns-in_err-write-clause-keeps
returns-in_err-write-clause-keeps g c told base stands free =
    let store = g.S.Store in
    let t = c.args.paths.now in
    let is = c.requires.1.digits in
    let k0 = begun store told base g.met.S.Store.only_now c.args.store.now stands in
    let s0 = c.args.store.now in
    let s1 = c.write.new.self in
    write_keeps_at store told base s0 s0 s1 k0 c.claim.result.now (claim_path t) c.args.bytes.now c.claim.ensures c.write.result (λ same. claim_stands base t is (store.disk s0) (store.disk s1) same free stands) c.write.ensures.ok c.write.ensures.err c.write.ensures.elapses

pub returns-in_err-write-clause-alone : goal.returns-in_err-write-clause-alone
returns-in_err-write-clause-alone g c told =
    let store = g.S.Store in
    let t = c.args.paths.now in
    let is = c.requires.1.digits in
    let a0 = alone_begun store told g.met.S.Store.only_now (IsNotOf t) c.args.store.now in
    let s0 = c.args.store.now in
    let s1 = c.write.new.self in
    alone_write store told g.met.S.Store.only_now (IsNotOf t) s0 s0 s1 a0 c.write.ensures.elapses c.write.result c.claim.result.now c.args.bytes.now (λ kept. kept (inl c.claim.ensures)) c.write.ensures.ok c.write.ensures.err

pub returns-clause-keeps : goal.returns-clause-keeps
returns-clause-keeps g c told base stands free =
    let store = g.S.Store in
    let t = c.args.paths.now in
    let is = c.requires.1.digits in
    let k0 = begun store told base g.met.S.Store.only_now c.args.store.now stands in
    let s0 = c.args.store.now in
    let s1 = c.write.new.self in
    let s2 = c.sync.new.self in
    let k1 = write_keeps_at store told base s0 s0 s1 k0 c.claim.result.now (claim_path t) c.args.bytes.now c.claim.ensures c.write.result (λ same. claim_stands base t is (store.disk s0) (store.disk s1) same free stands) c.write.ensures.ok c.write.ensures.err c.write.ensures.elapses in
    sync_keeps store told base s0 s1 s2 k1 c.sync.result c.sync.ensures.ok c.sync.ensures.err c.sync.ensures.elapses

pub returns-clause-alone : goal.returns-clause-alone
returns-clause-alone g c told =
    let store = g.S.Store in
    let t = c.args.paths.now in
    let is = c.requires.1.digits in
    let a0 = alone_begun store told g.met.S.Store.only_now (IsNotOf t) c.args.store.now in
    let s0 = c.args.store.now in
    let s1 = c.write.new.self in
    let s2 = c.sync.new.self in
    let k1 = alone_write store told g.met.S.Store.only_now (IsNotOf t) s0 s0 s1 a0 c.write.ensures.elapses c.write.result c.claim.result.now c.args.bytes.now (λ kept. kept (inl c.claim.ensures)) c.write.ensures.ok c.write.ensures.err in
    alone_sync store told g.met.S.Store.only_now (IsNotOf t) s0 s1 s2 k1 c.sync.ensures.elapses c.sync.result c.sync.ensures.ok c.sync.ensures.err

pub returns-in_err-write-clause-short : goal.returns-in_err-write-clause-short
returns-in_err-write-clause-short g c told le =
    let disk = g.S.Store.disk in
    let d0 = disk c.args.store.now in
    let d1 = disk c.write.new.self in
    short_write c.write.result MAX_FILE_BYTES d0 d1 c.claim.result.now c.args.bytes.now le (c.write.ensures.ok told) (c.write.ensures.short told)

pub returns-clause-short : goal.returns-clause-short
returns-clause-short g c told le =
    let disk = g.S.Store.disk in
    let d0 = disk c.args.store.now in
    let d1 = disk c.write.new.self in
    let d2 = disk c.sync.new.self in
    short_then MAX_FILE_BYTES d0.files d1.files d2.files (short_write c.write.result MAX_FILE_BYTES d0 d1 c.claim.result.now c.args.bytes.now le (c.write.ensures.ok told) (c.write.ensures.short told)) (short_sync c.sync.result MAX_FILE_BYTES d1 d2 (c.sync.ensures.ok told) (c.sync.ensures.err told))
