use Rattle.std.proofs.Common.{◌≡◌, ◌<◌, Err, Some, refl, sym, ap, subst}
use Rattle.std.specs.FinMap as map
use Rattle.lake_basics.specs.declared.limits.TheConstants.{MAX_FILE_BYTES}
use Rattle.lake_store.specs.declared.store.StoreError.{StoreError}
use Rattle.lake_store.proofs.RunLaws.{reading_begins, reading_steps}
use Rattle.delta_compact.specs.Refusals.{HasCause}
use Rattle.delta_compact.specs.Whole.{IsLargeFile}
use Rattle.delta_compact.proofs.whole.bytes_at.Goals as goal

pub returns-in-Err-TooLong-clause-refused : goal.returns-in-Err-TooLong-clause-refused
returns-in-Err-TooLong-clause-refused g c told =
    let files = (g.S.Store.disk c.args.store.now).files in
    let n = c.in-Err-TooLong.field-0-0 in
    let long = c.in-Err-TooLong.ensures.too_long n (ap (λ (e : StoreError). Err e) c.in-Err-TooLong.field-0-is) in
    let has = long.1 told in
    subst (HasCause (IsLargeFile files c.args.path.now)) (sym c.too_long.ensures)
    (has.0, subst (λ p. map.get files p ≡ Some has.0) c.as_str.ensures.value has.1, subst (λ k. MAX_FILE_BYTES < k) has.2 long.0, refl)

pub returns-in-Err-TooLong-clause-only_reads : goal.returns-in-Err-TooLong-clause-only_reads
returns-in-Err-TooLong-clause-only_reads g c = reading_steps g.S.Store c.args.store.now c.args.store.now c.read.new.self (reading_begins g.S.Store g.met.S.Store.only_now c.args.store.now) c.read.ensures.same c.read.ensures.elapses

pub returns-in-Err-Failed-clause-only_reads : goal.returns-in-Err-Failed-clause-only_reads
returns-in-Err-Failed-clause-only_reads g c = reading_steps g.S.Store c.args.store.now c.args.store.now c.read.new.self (reading_begins g.S.Store g.met.S.Store.only_now c.args.store.now) c.read.ensures.same c.read.ensures.elapses

pub returns-in-Err-Memory-clause-only_reads : goal.returns-in-Err-Memory-clause-only_reads
returns-in-Err-Memory-clause-only_reads g c = reading_steps g.S.Store c.args.store.now c.args.store.now c.read.new.self (reading_begins g.S.Store g.met.S.Store.only_now c.args.store.now) c.read.ensures.same c.read.ensures.elapses
