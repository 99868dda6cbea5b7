use Rattle.std.specs.Prelude.{IsErrOf}
use Rattle.lake_basics.specs.declared.limits.TheConstants.{MAX_FILE_BYTES}
use Rattle.lake_store.specs.declared.store.StoreError.TheVariants.{Taken}
use Rattle.lake_store.proofs.StageLaws.{durable, is_published, is_taken, run₁, run₂, run₃, still_free, there, whole}
use Rattle.lake_store.proofs.ShortLaws.{short_publish, short_sync, short_then, short_write}
use Rattle.lake_store.proofs.publication.stage_and_publish.Goals as goal

pub returns-in_err-write-clause-left : goal.returns-in_err-write-clause-left
returns-in_err-write-clause-left g c = λ told.
    (run₁ g.S.Store g.met.S.Store.only_now c.args.store.now c.write.new.self c.args.staged.now c.args.name.now c.args.bytes.now c.requires.apart c.requires.free
    c.write.result c.write.ensures.ok c.write.ensures.err c.write.ensures.elapses (IsErrOf c.from_residual.result Taken) told).disk

pub returns-in_err-write-clause-any_moment : goal.returns-in_err-write-clause-any_moment
returns-in_err-write-clause-any_moment g c = λ told.
    (run₁ g.S.Store g.met.S.Store.only_now c.args.store.now c.write.new.self c.args.staged.now c.args.name.now c.args.bytes.now c.requires.apart c.requires.free
    c.write.result c.write.ensures.ok c.write.ensures.err c.write.ensures.elapses (IsErrOf c.from_residual.result Taken) told).moments

pub returns-in_err-sync-clause-left : goal.returns-in_err-sync-clause-left
returns-in_err-sync-clause-left g c = λ told.
    (run₂ g.S.Store g.met.S.Store.only_now c.args.store.now c.write.new.self c.args.staged.now c.args.name.now c.args.bytes.now c.requires.apart c.requires.free
    c.write.result c.write.ensures.ok c.write.ensures.err c.write.ensures.elapses
    c.sync.new.self c.sync.result c.sync.ensures.ok c.sync.ensures.err c.sync.ensures.elapses (IsErrOf c.from_residual-in_err-sync.result Taken) told).disk

pub returns-in_err-sync-clause-any_moment : goal.returns-in_err-sync-clause-any_moment
returns-in_err-sync-clause-any_moment g c = λ told.
    (run₂ g.S.Store g.met.S.Store.only_now c.args.store.now c.write.new.self c.args.staged.now c.args.name.now c.args.bytes.now c.requires.apart c.requires.free
    c.write.result c.write.ensures.ok c.write.ensures.err c.write.ensures.elapses
    c.sync.new.self c.sync.result c.sync.ensures.ok c.sync.ensures.err c.sync.ensures.elapses (IsErrOf c.from_residual-in_err-sync.result Taken) told).moments

pub publish-requires-clause-there : goal.publish-requires-clause-there
publish-requires-clause-there g c =
    there g.S.Store g.met.S.Store.only_now c.args.store.now c.write.new.self c.args.staged.now c.args.name.now c.args.bytes.now c.requires.apart c.requires.free
    c.write.result c.write.ensures.ok c.write.ensures.err c.write.ensures.elapses
    c.sync.new.self c.sync.result c.sync.ensures.ok c.sync.ensures.err c.sync.ensures.elapses
    (λ told. c.in_ok-write.ensures.ok told) (λ told. c.in_ok-sync.ensures.ok told)

pub publish-requires-clause-durable : goal.publish-requires-clause-durable
publish-requires-clause-durable g c =
    durable g.S.Store g.met.S.Store.only_now c.args.store.now c.write.new.self c.args.staged.now c.args.name.now c.args.bytes.now c.requires.apart c.requires.free
    c.write.result c.write.ensures.ok c.write.ensures.err c.write.ensures.elapses
    c.sync.new.self c.sync.result c.sync.ensures.ok c.sync.ensures.err c.sync.ensures.elapses
    (λ told. c.in_ok-write.ensures.ok told) (λ told. c.in_ok-sync.ensures.ok told)

pub publish-requires-clause-free : goal.publish-requires-clause-free
publish-requires-clause-free g c =
    still_free g.S.Store g.met.S.Store.only_now c.args.store.now c.write.new.self c.args.staged.now c.args.name.now c.args.bytes.now c.requires.apart c.requires.free
    c.write.result c.write.ensures.ok c.write.ensures.err c.write.ensures.elapses
    c.sync.new.self c.sync.result c.sync.ensures.ok c.sync.ensures.err c.sync.ensures.elapses
    (λ told. c.in_ok-write.ensures.ok told) (λ told. c.in_ok-sync.ensures.ok told)

pub returns-clause-published : goal.returns-clause-published
returns-clause-published g c =
    is_published g.S.Store g.met.S.Store.only_now c.args.store.now c.write.new.self c.args.staged.now c.args.name.now c.args.bytes.now c.requires.apart c.requires.free
    c.write.result c.write.ensures.ok c.write.ensures.err c.write.ensures.elapses
    c.sync.new.self c.sync.result c.sync.ensures.ok c.sync.ensures.err c.sync.ensures.elapses
    (λ told. c.in_ok-write.ensures.ok told) (λ told. c.in_ok-sync.ensures.ok told) c.publish.new.self c.publish.result c.publish.ensures.ok c.publish.ensures.taken c.publish.ensures.err c.publish.ensures.elapses

pub returns-clause-left : goal.returns-clause-left
returns-clause-left g c = λ told.
    (run₃ g.S.Store g.met.S.Store.only_now c.args.store.now c.write.new.self c.args.staged.now c.args.name.now c.args.bytes.now c.requires.apart c.requires.free
    c.write.result c.write.ensures.ok c.write.ensures.err c.write.ensures.elapses
    c.sync.new.self c.sync.result c.sync.ensures.ok c.sync.ensures.err c.sync.ensures.elapses
    (λ told. c.in_ok-write.ensures.ok told) (λ told. c.in_ok-sync.ensures.ok told) c.publish.new.self c.publish.result c.publish.ensures.ok c.publish.ensures.taken c.publish.ensures.err c.publish.ensures.elapses told).disk

pub returns-clause-any_moment : goal.returns-clause-any_moment
returns-clause-any_moment g c = λ told.
    (run₃ g.S.Store g.met.S.Store.only_now c.args.store.now c.write.new.self c.args.staged.now c.args.name.now c.args.bytes.now c.requires.apart c.requires.free
    c.write.result c.write.ensures.ok c.write.ensures.err c.write.ensures.elapses
    c.sync.new.self c.sync.result c.sync.ensures.ok c.sync.ensures.err c.sync.ensures.elapses
    (λ told. c.in_ok-write.ensures.ok told) (λ told. c.in_ok-sync.ensures.ok told) c.publish.new.self c.publish.result c.publish.ensures.ok c.publish.ensures.taken c.publish.ensures.err c.publish.ensures.elapses told).moments

pub returns-clause-taken : goal.returns-clause-taken
returns-clause-taken g c =
    is_taken g.S.Store g.met.S.Store.only_now c.args.store.now c.write.new.self c.args.staged.now c.args.name.now c.args.bytes.now c.requires.apart c.requires.free
    c.write.result c.write.ensures.ok c.write.ensures.err c.write.ensures.elapses
    c.sync.new.self c.sync.result c.sync.ensures.ok c.sync.ensures.err c.sync.ensures.elapses
    (λ told. c.in_ok-write.ensures.ok told) (λ told. c.in_ok-sync.ensures.ok told) c.publish.new.self c.publish.result c.publish.ensures.ok c.publish.ensures.taken c.publish.ensures.err c.publish.ensures.elapses

pub returns-in_err-write-clause-short : goal.returns-in_err-write-clause-short
returns-in_err-write-clause-short g c = λ told le.
    short_write c.write.result MAX_FILE_BYTES (g.S.Store.disk c.args.store.now) (g.S.Store.disk c.write.new.self) c.args.staged.now c.args.bytes.now le (c.write.ensures.ok told) (c.write.ensures.short told)

pub returns-in_err-sync-clause-short : goal.returns-in_err-sync-clause-short
returns-in_err-sync-clause-short g c = λ told le.
    short_then MAX_FILE_BYTES (g.S.Store.disk c.args.store.now).files (g.S.Store.disk c.write.new.self).files (g.S.Store.disk c.sync.new.self).files
    (short_write c.write.result MAX_FILE_BYTES (g.S.Store.disk c.args.store.now) (g.S.Store.disk c.write.new.self) c.args.staged.now c.args.bytes.now le (c.write.ensures.ok told) (c.write.ensures.short told))
    (short_sync c.sync.result MAX_FILE_BYTES (g.S.Store.disk c.write.new.self) (g.S.Store.disk c.sync.new.self) (c.sync.ensures.ok told) (c.sync.ensures.err told))

pub returns-clause-short : goal.returns-clause-short
returns-clause-short g c = λ told le.
    let start = g.S.Store.disk c.args.store.now in
    let behind_write = g.S.Store.disk c.write.new.self in
    let behind_sync = g.S.Store.disk c.sync.new.self in
    let end = g.S.Store.disk c.publish.new.self in
    let staged_file = whole g.S.Store g.met.S.Store.only_now c.args.store.now c.write.new.self c.args.staged.now c.args.name.now c.args.bytes.now c.requires.apart c.requires.free
    c.write.result c.write.ensures.ok c.write.ensures.err c.write.ensures.elapses
    c.sync.new.self c.sync.result c.sync.ensures.ok c.sync.ensures.err c.sync.ensures.elapses
    (λ t. c.in_ok-write.ensures.ok t) (λ t. c.in_ok-sync.ensures.ok t) told in
    short_then MAX_FILE_BYTES start.files behind_write.files end.files
    (short_write c.write.result MAX_FILE_BYTES start behind_write c.args.staged.now c.args.bytes.now le (c.write.ensures.ok told) (c.write.ensures.short told))
    (short_then MAX_FILE_BYTES behind_write.files behind_sync.files end.files
    (short_sync c.sync.result MAX_FILE_BYTES behind_write behind_sync (c.sync.ensures.ok told) (c.sync.ensures.err told))
    (short_publish c.publish.result behind_sync end c.args.staged.now c.args.name.now c.args.bytes.now staged_file le (c.publish.ensures.ok told) (c.publish.ensures.taken told) (c.publish.ensures.err told) (c.publish.ensures.short told)))
