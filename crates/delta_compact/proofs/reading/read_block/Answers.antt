use Rattle.std.proofs.Common.{◌≡◌, ◌≤◌, ◌+◌, ◌*◌, ◌<◌, ℕ, List, [], ◌∷◌, ◌++◌, length, refl, sym, ap, subst, length-append, arith}
use Rattle.std.proofs.lemmas.Result.{err_from_is_err_and}
use Rattle.std.specs.Prelude.{IfErr}
use Rattle.lake_basics.specs.declared.limits.TheConstants.{MAX_FILE_BYTES}
use Rattle.lake_store.specs.Disk.{Disk, Files}
use Rattle.lake_store.proofs.RunLaws.{reading_begins, reading_further}
use Rattle.table_history.specs.declared.limit.LimitKind.TheVariants.{File}
use Rattle.delta_table.specs.Versions.{HasVersion, HoldsVersion}
use Rattle.delta_table.proofs.Runs.{fails_never}
use Rattle.delta_compact.proofs.Causes.{uncontested_further}
use Rattle.delta_compact.specs.Blocks.{HoldVersions, HoldsBlock}
use Rattle.delta_compact.specs.Joinable.{ended_length, whole_length}
use Rattle.delta_compact.specs.Refusals.{HasCause, IsLong}
use Rattle.delta_compact.specs.declared.error.CompactFault.{CompactFault}
use Rattle.delta_compact.specs.declared.error.CompactFault.TheVariants.{Limit}
use Rattle.delta_compact.proofs.Held.{block_at, held_more, length_more, length_one, length_part}
use Rattle.delta_compact.proofs.Joins.{cause_of, cause_weaker}
use Rattle.delta_compact.proofs.reading.read_block.Goals as goal

abbrev Why : Files → ℕ → CompactFault → Type 0
Why files block e = (commits : List (List ℕ)) × HoldsBlock files block commits × IsLong commits e

-- one version alone has too many bytes
one_long : (files : Files) (block version : ℕ) (commits : List (List ℕ)) → HoldsBlock files block commits → 10 * block ≤ version → version < 10 * block + 10
    → (e : CompactFault) → ((bytes : List ℕ) × HoldsVersion files version bytes × (MAX_FILE_BYTES < length bytes) × (e ≡ Limit File MAX_FILE_BYTES)) → Why files block e
one_long files block version commits held low high e h =
    let count = held.count in
    let one = length_one files (10 * block) commits version h.0 low (omega (arith, count, high)) held.there h.1 in
    let long = h.2 in
    (commits, held, (omega (arith, one, long), h.3))

-- the first of them together have too many bytes
part_long : (files : Files) (block : ℕ) (commits part : List (List ℕ)) → HoldsBlock files block commits → HoldVersions files (10 * block) part → length part ≤ 10 → MAX_FILE_BYTES < whole_length part → Why files block (Limit File MAX_FILE_BYTES)
part_long files block commits part held some few long =
    let count = held.count in
    let less = length_part files (10 * block) part commits (omega (arith, count, few)) some held.there in
    (commits, held, (omega (arith, less, long), refl))

pub loop-version-init : goal.loop-version-init
loop-version-init g c =
    let none = c.new-commits.ensures.items in
    let len : length c.new-commits.result.items ≡ 0 = ap length none in
    record {
      within = omega arith;
      count = omega (arith, len);
      long = sym (ap whole_length none);
      short = omega arith;
      held = λ told. subst (HoldVersions (g.S.Store.disk c.args.store.now).files (10 * c.args.block)) (sym none) tt;
      reads = λ told. reading_begins g.S.Store g.met.S.Store.only_now c.args.store.now told;
      cause = record { later = omega arith; still = λ m. m; rose = λ never. absurd never; allowed = λ never. absurd never };
      contest = record { same = refl; still = λ m. m; never = λ never. never };
    }

pub read_bytes-requires-clause-there : goal.read_bytes-requires-clause-there
read_bytes-requires-clause-there g c told =
    let store = g.S.Store in
    let so_far = c.loop-version.invariant in
    let count = so_far.count in
    let held = c.requires.held told in
    subst (λ (d : Disk). HasVersion d.files c.loop-version.version) (sym (so_far.reads told).disk)
    (block_at (store.disk c.args.store.now).files c.args.block held.0 c.loop-version.version held.1 (omega (arith, count)) (omega (arith, c.loop-version-test.true)))

pub returns-in_err-bytes-clause-refused : goal.returns-in_err-bytes-clause-refused
returns-in_err-bytes-clause-refused g c told =
    let store = g.S.Store in
    let files = (store.disk c.args.store.now).files in
    let so_far = c.loop-version.invariant in
    let count = so_far.count in
    let exit = err_from_is_err_and c.from_residual.result c.from_residual.ensures.1 in
    let held = c.requires.held told in
    let v = c.loop-version.version in
    let refused = subst (λ (d : Disk). HasCause (λ e. (bytes : List ℕ) × HoldsVersion d.files v bytes × (MAX_FILE_BYTES < length bytes) × (e ≡ Limit File MAX_FILE_BYTES)) c.in_err-bytes.field-0.0) (so_far.reads told).disk (c.in_err-bytes.ensures.refused told) in
    subst (λ r. IfErr r (HasCause (Why files c.args.block))) (sym exit.1)
    (subst (HasCause (Why files c.args.block)) (sym exit.2)
    (cause_weaker (λ e. (bytes : List ℕ) × HoldsVersion files v bytes × (MAX_FILE_BYTES < length bytes) × (e ≡ Limit File MAX_FILE_BYTES)) (Why files c.args.block)
    (λ e h. one_long files c.args.block v held.0 held.1 (omega (arith, count)) (omega (arith, c.loop-version-test.true)) e h) c.in_err-bytes.field-0.0 refused))

pub returns-then-length-gt-MAX_FILE_BYTES-clause-refused : goal.returns-then-length-gt-MAX_FILE_BYTES-clause-refused
returns-then-length-gt-MAX_FILE_BYTES-clause-refused g c told =
    let store = g.S.Store in
    let files = (store.disk c.args.store.now).files in
    let so_far = c.loop-version.invariant in
    let count = so_far.count in
    let xs = c.loop-version.commits.items in
    let bytes = c.in_ok-bytes.bytes in
    let held = c.requires.held told in
    let here = subst (λ (d : Disk). HoldsVersion d.files c.loop-version.version bytes) (so_far.reads told).disk (c.in_ok-bytes.ensures.holds told) in
    let more = held_more files (10 * c.args.block) xs bytes (so_far.held told) (subst (λ v. HoldsVersion files v bytes) (sym count) here) in
    let len = length-append xs (bytes ∷ []) in
    let total = length_more xs bytes in
    let is = so_far.long in
    let added = c.ended_length-length.ensures in
    let same : ended_length c.as_slice.result.now ≡ ended_length bytes = ap ended_length c.as_slice.ensures.value in
    subst (HasCause (Why files c.args.block)) (sym c.too_long.ensures)
    (cause_of (Why files c.args.block) (Limit File MAX_FILE_BYTES)
    (part_long files c.args.block held.0 (xs ++ bytes ∷ []) held.1 more (omega (arith, len, count, c.loop-version-test.true)) (omega (arith, total, is, added, same, c.if-length-gt-MAX_FILE_BYTES.true))))

pub loop-version-preserved : goal.loop-version-preserved
loop-version-preserved g c =
    let store = g.S.Store in
    let files = (store.disk c.args.store.now).files in
    let so_far = c.loop-version.invariant in
    let count = so_far.count in
    let xs = c.loop-version.commits.items in
    let bytes = c.in_ok-bytes.bytes in
    let items = c.in_ok-push.ensures.items in
    let len : length (xs ++ bytes ∷ []) ≡ length xs + 1 = length-append xs (bytes ∷ []) in
    let now : length c.push.new.self.items ≡ length (xs ++ bytes ∷ []) = ap length items in
    let total = length_more xs bytes in
    let is = so_far.long in
    let added = c.ended_length-length.ensures in
    let same : ended_length c.as_slice.result.now ≡ ended_length bytes = ap ended_length c.as_slice.ensures.value in
    let whole : whole_length c.push.new.self.items ≡ whole_length (xs ++ bytes ∷ []) = ap whole_length items in
    record {
      within = omega (arith, c.loop-version-test.true);
      count = omega (arith, now, len, count);
      long = omega (arith, whole, total, is, added, same);
      short = omega (arith, c.if-length-gt-MAX_FILE_BYTES.false);
      held = λ told. subst (HoldVersions files (10 * c.args.block)) (sym items)
          (held_more files (10 * c.args.block) xs bytes (so_far.held told) (subst (λ v. HoldsVersion files v bytes) (sym count)
          (subst (λ (d : Disk). HoldsVersion d.files c.loop-version.version bytes) (so_far.reads told).disk (c.in_ok-bytes.ensures.holds told))));
      reads = reading_further store c.args.store.now c.loop-version.store c.read_bytes.new.store so_far.reads c.in_ok-bytes.ensures.only_reads;
      cause = fails_never store.faults store.may_fail c.args.store.now c.loop-version.store c.read_bytes.new.store _ so_far.cause c.in_ok-bytes.ensures.cause;
      contest = uncontested_further store.contests store.may_contest c.args.store.now c.loop-version.store c.read_bytes.new.store ⊥ _ ⊥ so_far.contest c.in_ok-bytes.ensures.contest (λ never. absurd never);
    }

pub returns-clause-held : goal.returns-clause-held
returns-clause-held g c told =
    let so_far = c.loop-version.invariant in
    let count = so_far.count in
    let within = so_far.within in
    record { count = omega (arith, count, within, c.loop-version-test.false); there = so_far.held told }

pub returns-clause-count : goal.returns-clause-count
returns-clause-count g c =
    let so_far = c.loop-version.invariant in
    let count = so_far.count in
    let within = so_far.within in
    omega (arith, count, within, c.loop-version-test.false)

pub returns-clause-short : goal.returns-clause-short
returns-clause-short g c =
    let so_far = c.loop-version.invariant in
    let is = so_far.long in
    let few = so_far.short in
    omega (arith, is, few)

pub returns-in_err-bytes-clause-only_reads : goal.returns-in_err-bytes-clause-only_reads
returns-in_err-bytes-clause-only_reads g c = reading_further g.S.Store c.args.store.now c.loop-version.store c.read_bytes.new.store c.loop-version.invariant.reads c.in_err-bytes.ensures.only_reads

pub returns-then-length-gt-MAX_FILE_BYTES-clause-only_reads : goal.returns-then-length-gt-MAX_FILE_BYTES-clause-only_reads
returns-then-length-gt-MAX_FILE_BYTES-clause-only_reads g c = reading_further g.S.Store c.args.store.now c.loop-version.store c.read_bytes.new.store c.loop-version.invariant.reads c.in_ok-bytes.ensures.only_reads

pub returns-in_err-push-clause-only_reads : goal.returns-in_err-push-clause-only_reads
returns-in_err-push-clause-only_reads g c = reading_further g.S.Store c.args.store.now c.loop-version.store c.read_bytes.new.store c.loop-version.invariant.reads c.in_ok-bytes.ensures.only_reads
