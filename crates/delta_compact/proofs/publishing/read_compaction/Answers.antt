use Rattle.std.proofs.Common.{◌≡◌, ◌<◌, ℕ, List, Err, inl, sym, ap, subst}
use Rattle.lake_basics.specs.declared.limits.TheConstants.{MAX_FILE_BYTES}
use Rattle.lake_store.specs.Disk.{Files, HasLength}
use Rattle.lake_store.specs.declared.store.StoreError.{StoreError}
use Rattle.lake_store.proofs.RunLaws.{reading_begins, reading_steps}
use Rattle.delta_compact.specs.Blocks.{IsBlockPath}
use Rattle.delta_compact.specs.Refusals.{IsStale}
use Rattle.delta_compact.specs.declared.error.CompactFault.{CompactFault}
use Rattle.delta_compact.specs.declared.error.CompactFault.TheVariants.{Stale}
use Rattle.delta_compact.proofs.Joins.{cause_weaker}
use Rattle.delta_compact.proofs.publishing.read_compaction.Goals as goal

-- a file that is too large to be read is stale
long_stale : (files : Files) (block : ℕ) (path : List ℕ) (n : ℕ) → IsBlockPath path block → MAX_FILE_BYTES < n → HasLength files path n → IsStale files block
long_stale files block path n is long has = record {
  bytes = has.0;
  there = record { path = path; is = is; there = has.1 };
  cause = inl (subst (λ k. MAX_FILE_BYTES < k) has.2 long);
}

pub returns-in-Err-TooLong-clause-refused : goal.returns-in-Err-TooLong-clause-refused
returns-in-Err-TooLong-clause-refused g c told =
    let files = (g.S.Store.disk c.args.store.now).files in
    let n = c.in-Err-TooLong.field-0-0 in
    let is = subst (λ p. IsBlockPath p c.args.block) (sym c.as_str.ensures.value) c.requires.path in
    let long = c.in-Err-TooLong.ensures.too_long n (ap (λ (e : StoreError). Err e) c.in-Err-TooLong.field-0-is) in
    cause_weaker (λ (e : CompactFault). e ≡ Stale c.args.path.now) (λ (e : CompactFault). IsStale files c.args.block × (e ≡ Stale c.args.path.now))
    (λ e same. (long_stale files c.args.block c.as_str.result.now n is long.0 (long.1 told), same)) c.stale.result c.stale.ensures.told

pub returns-in-Err-TooLong-clause-only_reads : goal.returns-in-Err-TooLong-clause-only_reads
returns-in-Err-TooLong-clause-only_reads g c = reading_steps g.S.Store c.args.store.now c.args.store.now c.read.new.self (reading_begins g.S.Store g.met.S.Store.only_now c.args.store.now) c.read.ensures.same c.read.ensures.elapses

pub returns-in-Err-Failed-clause-only_reads : goal.returns-in-Err-Failed-clause-only_reads
returns-in-Err-Failed-clause-only_reads g c = reading_steps g.S.Store c.args.store.now c.args.store.now c.read.new.self (reading_begins g.S.Store g.met.S.Store.only_now c.args.store.now) c.read.ensures.same c.read.ensures.elapses

pub returns-in-Err-Memory-clause-only_reads : goal.returns-in-Err-Memory-clause-only_reads
returns-in-Err-Memory-clause-only_reads g c = reading_steps g.S.Store c.args.store.now c.args.store.now c.read.new.self (reading_begins g.S.Store g.met.S.Store.only_now c.args.store.now) c.read.ensures.same c.read.ensures.elapses
