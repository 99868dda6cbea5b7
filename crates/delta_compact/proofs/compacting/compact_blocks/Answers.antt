use Rattle.std.proofs.Common.{◌≡◌, ◌⊎◌, ⊎_elim, ℕ, List, Err, refl, sym, ap, subst, arith}
use Rattle.std.proofs.lemmas.Result.{err_from_is_err_and}
use Rattle.std.specs.Prelude.{IfErr, IsErrOf}
use Rattle.lake_store.specs.Disk.{Files}
use Rattle.delta_compact.specs.Blocks.{IsBlockPath, IsWithin}
use Rattle.delta_compact.specs.Compacting.{StopsBefore}
use Rattle.delta_compact.specs.Refusals.{HasCause, HasStale, IsUnjoinable}
use Rattle.delta_compact.specs.Steps.{IsToldStale}
use Rattle.delta_compact.specs.declared.error.CompactFault.TheVariants.{Contested, Stale}
use Rattle.delta_compact.proofs.Causes.{contest_behind, err_back, err_once, err_same, contest_of_none, uncontested_more}
use Rattle.delta_compact.proofs.Counting.{IsSoFar, all_compacted, all_compacts, block_under, counted_more, joinable_now, so_far_begins, so_far_more, so_far_refused, so_far_stopped, stale_told}
use Rattle.delta_compact.proofs.Joins.{unjoinable_fresh}
use Rattle.delta_compact.proofs.Paths.{one_block}
use Rattle.delta_table.proofs.Runs.{fails_never}
use Rattle.delta_compact.proofs.compacting.compact_blocks.Goals as goal

pub loop-block-init : goal.loop-block-init
loop-block-init g c = record {
  sum = refl;
  so_far = so_far_begins g.S.Store c.args.store.now g.met.S.Store.only_now _ refl;
  cause = record { later = omega arith; still = λ m. m; rose = λ never. absurd never; allowed = λ never. absurd never };
  contest = record { same = refl; still = λ m. m; never = λ never. never };
}

pub compact_block-requires-clause-within : goal.compact_block-requires-clause-within
compact_block-requires-clause-within g c =
    let inside : IsWithin c.args.newest c.loop-block.block = block_under c.args.newest c.block_count-block-end.result c.loop-block.block c.block_count-block-end.ensures c.loop-block-test.true in
    let most = c.requires.within in
    omega (arith, inside, most)

pub compact_block-requires-clause-held : goal.compact_block-requires-clause-held
compact_block-requires-clause-held g c told =
    let block = c.loop-block.block in
    let inside = block_under c.args.newest c.block_count-block-end.result block c.block_count-block-end.ensures c.loop-block-test.true in
    let now = joinable_now g.S.Store c.args.store.now block c.loop-block.counts c.loop-block.store (c.loop-block.invariant.so_far told) (c.requires.joinable told block inside) in
    (now.commits, now.held)

pub returns-in_err-written-clause-compacts : goal.returns-in_err-written-clause-compacts
returns-in_err-written-clause-compacts g c told =
    let result = c.from_residual.result in
    let exit = err_from_is_err_and result c.from_residual.ensures.1 in
    let block = c.loop-block.block in (
      block,
      so_far_refused g.S.Store c.args.store.now block c.loop-block.counts c.loop-block.store (c.loop-block.invariant.so_far told) c.compact_block.new.store _ (IsErrOf result Contested)
          (λ b h. (h.0, err_same result exit.0 c.in_err-written.field-0.0 Contested exit.1 exit.2 h.1)) told (c.in_err-written.ensures.compacts told),
    )

-- which block is stale
stale_block : (files : Files) (block other : ℕ) (path : List ℕ) → HasCause (λ f. IsUnjoinable files block f ⊎ IsToldStale files block f) (Stale path) → IsBlockPath path other → other ≡ block
stale_block files block other path h is = ⊎_elim
    (λ unjoinable. absurd (unjoinable_fresh files block path unjoinable))
    (λ (stale : IsToldStale files block (Stale path)).
    let told = stale.3 in
    let same : path ≡ stale.1 = cc in
    one_block path other block is (subst (λ (p : List ℕ). IsBlockPath p block) (sym same) stale.2))
    h

pub returns-in_err-written-clause-stale : goal.returns-in_err-written-clause-stale
returns-in_err-written-clause-stale g c told path block told_stale is =
    let store = g.S.Store in
    let result = c.from_residual.result in
    let exit = err_from_is_err_and result c.from_residual.ensures.1 in
    let e = c.in_err-written.field-0.0 in
    let stale : e ≡ Stale path = err_once e (Stale path) (err_back result exit.0 e (Stale path) exit.1 exit.2 told_stale) in
    let here = c.loop-block.block in
    let files = (store.disk c.loop-block.store).files in
    let same = stale_block files here block path (subst (HasCause (λ f. IsUnjoinable files here f ⊎ IsToldStale files here f)) stale (c.in_err-written.ensures.refused told)) is in
    let only = c.in_err-written.ensures.unwritten told path (ap (λ x. Err x) stale) in
    subst (λ n. StopsBefore store n c.args.store.now c.compact_block.new.store) (sym same)
    (so_far_stopped store c.args.store.now here c.loop-block.counts c.loop-block.store (c.loop-block.invariant.so_far told) c.compact_block.new.store told only)

pub returns-in_err-written-clause-refused : goal.returns-in_err-written-clause-refused
returns-in_err-written-clause-refused g c told =
    let files = (g.S.Store.disk c.args.store.now).files in
    let block = c.loop-block.block in
    let newest = c.args.newest in
    let exit = err_from_is_err_and c.from_residual.result c.from_residual.ensures.1 in
    let inside = block_under newest c.block_count-block-end.result block c.block_count-block-end.ensures c.loop-block-test.true in
    subst (λ r. IfErr r (HasCause (HasStale files newest))) (sym exit.1)
    (subst (HasCause (HasStale files newest)) (sym exit.2)
    (stale_told g.S.Store c.args.store.now block c.loop-block.counts c.loop-block.store (c.loop-block.invariant.so_far told) newest inside (c.requires.joinable told) c.in_err-written.field-0.0 (c.in_err-written.ensures.refused told)))

pub returns-in_err-written-clause-contest : goal.returns-in_err-written-clause-contest
returns-in_err-written-clause-contest g c =
    let exit = err_from_is_err_and c.from_residual.result c.from_residual.ensures.1 in
    contest_behind g.S.Store.contests g.S.Store.may_contest c.args.store.now c.loop-block.store c.compact_block.new.store ⊥ _ (IsErrOf c.from_residual.result Contested) c.loop-block.invariant.contest c.in_err-written.ensures.contest
    (err_back c.from_residual.result exit.0 c.in_err-written.field-0.0 Contested exit.1 exit.2) (err_same c.from_residual.result exit.0 c.in_err-written.field-0.0 Contested exit.1 exit.2)

pub loop-block-preserved : goal.loop-block-preserved
loop-block-preserved g c =
    let store = g.S.Store in
    let so_far = c.loop-block.invariant in
    let old = c.args.store.now in
    let new = c.compact_block.new.store in
    record {
      sum = counted_more c.loop-block.block c.in_ok-written.written c.loop-block.counts c.with_block-counts.result so_far.sum c.with_block-counts.ensures;
      so_far = λ told. so_far_more store old c.loop-block.block c.loop-block.counts c.loop-block.store (so_far.so_far told) new c.in_ok-written.written c.with_block-counts.result _ (λ b h. let contested = h.1 in cc) told
          (c.in_ok-written.ensures.compacted told) (c.in_ok-written.ensures.written told) (c.in_ok-written.ensures.fresh told) (c.in_ok-written.ensures.compacts told) c.with_block-counts.ensures;
      cause = fails_never store.faults store.may_fail old c.loop-block.store new _ so_far.cause c.in_ok-written.ensures.cause;
      contest = uncontested_more store.contests store.may_contest old c.loop-block.store new ⊥ _ ⊥ so_far.contest c.in_ok-written.ensures.contest (λ contested. cc);
    }

pub returns-clause-compacted : goal.returns-clause-compacted
returns-clause-compacted g c told =
    let last = c.loop-block.auto.block-end in
    let blocks : c.loop-block.block ≡ c.block_count-block-end.result = omega (arith, last, c.loop-block-test.false) in
    let so_far = subst (λ n. IsSoFar g.S.Store c.args.store.now n c.loop-block.counts c.loop-block.store) blocks (c.loop-block.invariant.so_far told) in
    let sum = c.loop-block.invariant.sum in
    all_compacted g.S.Store c.args.store.now c.args.newest c.block_count-block-end.result c.loop-block.counts c.loop-block.store c.block_count-block-end.ensures (omega (arith, sum, blocks)) so_far

pub returns-clause-compacts : goal.returns-clause-compacts
returns-clause-compacts g c told = (c.loop-block.block, all_compacts g.S.Store c.args.store.now c.loop-block.block c.loop-block.counts c.loop-block.store _ told (c.loop-block.invariant.so_far told) g.met.S.Store.only_now)

pub returns-clause-contest : goal.returns-clause-contest
returns-clause-contest g c = contest_of_none g.S.Store.contests g.S.Store.may_contest c.args.store.now c.loop-block.store ⊥ _ c.loop-block.invariant.contest (λ contested. cc)
