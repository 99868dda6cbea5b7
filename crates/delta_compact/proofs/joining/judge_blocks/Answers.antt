use Rattle.std.proofs.Common.{◌≡◌, ℕ, List, ⊎_elim, refl, sym, subst, arith}
use Rattle.std.proofs.lemmas.Result.{err_from_is_err_and}
use Rattle.std.specs.Prelude.{IfErr, IsErrOf}
use Rattle.lake_store.specs.Disk.{Disk}
use Rattle.lake_store.proofs.RunLaws.{reading_begins, reading_further}
use Rattle.delta_table.proofs.Runs.{fails_never}
use Rattle.delta_compact.proofs.Causes.{err_back, uncontested_further}
use Rattle.delta_compact.specs.Blocks.{HoldsBlock, IsWithin}
use Rattle.delta_compact.specs.Joinable.{IsJoinable}
use Rattle.delta_compact.specs.Refusals.{HasCause, HasUnjoinable, IsUnjoinable}
use Rattle.delta_compact.specs.declared.error.CompactFault.TheVariants.{Contested}
use Rattle.delta_compact.proofs.Counting.{block_under, under_block, under_more}
use Rattle.delta_compact.proofs.Held.{block_from}
use Rattle.delta_compact.proofs.Joins.{cause_weaker}
use Rattle.delta_compact.proofs.joining.judge_blocks.Goals as goal

pub loop-block-init : goal.loop-block-init
loop-block-init g c = record {
  joinable = λ told b under. absurd (omega (arith, under));
  reads = λ told. reading_begins g.S.Store g.met.S.Store.only_now c.args.store.now told;
  cause = record { later = omega arith; still = λ m. m; rose = λ never. absurd never; allowed = λ never. absurd never };
  contest = record { same = refl; still = λ m. m; never = λ never. never };
}

pub judge_block-requires-clause-within : goal.judge_block-requires-clause-within
judge_block-requires-clause-within g c =
    let inside : IsWithin c.args.newest c.loop-block.block = block_under c.args.newest c.block_count-block-end.result c.loop-block.block c.block_count-block-end.ensures c.loop-block-test.true in
    let most = c.requires.within in
    omega (arith, inside, most)

pub judge_block-requires-clause-held : goal.judge_block-requires-clause-held
judge_block-requires-clause-held g c told =
    let inside = block_under c.args.newest c.block_count-block-end.result c.loop-block.block c.block_count-block-end.ensures c.loop-block-test.true in
    let held = block_from (g.S.Store.disk c.args.store.now).files c.loop-block.block c.args.newest inside (c.requires.there told) in
    subst (λ (d : Disk). (commits : List (List ℕ)) × HoldsBlock d.files c.loop-block.block commits) (sym (c.loop-block.invariant.reads told).disk) held

pub returns-in_err-judge_block-clause-refused : goal.returns-in_err-judge_block-clause-refused
returns-in_err-judge_block-clause-refused g c told =
    let files = (g.S.Store.disk c.args.store.now).files in
    let so_far = c.loop-block.invariant in
    let block = c.loop-block.block in
    let newest = c.args.newest in
    let exit = err_from_is_err_and c.from_residual.result c.from_residual.ensures.1 in
    let e = c.in_err-judge_block.field-0.0 in
    let why = subst (λ (d : Disk). HasCause (IsUnjoinable d.files block) e) (so_far.reads told).disk (c.in_err-judge_block.ensures.refused told) in
    subst (λ r. IfErr r (HasCause (HasUnjoinable files newest))) (sym exit.1)
    (subst (HasCause (HasUnjoinable files newest)) (sym exit.2)
    (cause_weaker (IsUnjoinable files block) (HasUnjoinable files newest)
    (λ f h. (block, block_under newest c.block_count-block-end.result block c.block_count-block-end.ensures c.loop-block-test.true, so_far.joinable told, h)) e why))

pub returns-in_err-judge_block-clause-only_reads : goal.returns-in_err-judge_block-clause-only_reads
returns-in_err-judge_block-clause-only_reads g c = reading_further g.S.Store c.args.store.now c.loop-block.store c.judge_block.new.store c.loop-block.invariant.reads c.in_err-judge_block.ensures.only_reads

pub returns-in_err-judge_block-clause-contest : goal.returns-in_err-judge_block-clause-contest
returns-in_err-judge_block-clause-contest g c =
    let exit = err_from_is_err_and c.from_residual.result c.from_residual.ensures.1 in
    uncontested_further g.S.Store.contests g.S.Store.may_contest c.args.store.now c.loop-block.store c.judge_block.new.store ⊥ _ (IsErrOf c.from_residual.result Contested) c.loop-block.invariant.contest c.in_err-judge_block.ensures.contest
    (err_back c.from_residual.result exit.0 c.in_err-judge_block.field-0.0 Contested exit.1 exit.2)

pub loop-block-preserved : goal.loop-block-preserved
loop-block-preserved g c =
    let store = g.S.Store in
    let files = (store.disk c.args.store.now).files in
    let so_far = c.loop-block.invariant in
    let block = c.loop-block.block in
    record {
      joinable = λ told b under. ⊎_elim
          (λ (here : b ≡ block). subst (IsJoinable files) (sym here) (subst (λ (d : Disk). IsJoinable d.files block) (so_far.reads told).disk (c.in_ok-judge_block.ensures.joinable told)))
          (so_far.joinable told b)
          (under_more b block under);
      reads = reading_further store c.args.store.now c.loop-block.store c.judge_block.new.store so_far.reads c.in_ok-judge_block.ensures.only_reads;
      cause = fails_never store.faults store.may_fail c.args.store.now c.loop-block.store c.judge_block.new.store _ so_far.cause c.in_ok-judge_block.ensures.cause;
      contest = uncontested_further store.contests store.may_contest c.args.store.now c.loop-block.store c.judge_block.new.store ⊥ _ ⊥ so_far.contest c.in_ok-judge_block.ensures.contest (λ never. absurd never);
    }

pub returns-clause-joinable : goal.returns-clause-joinable
returns-clause-joinable g c told block within = c.loop-block.invariant.joinable told block (let under = under_block c.args.newest c.block_count-block-end.result block c.block_count-block-end.ensures within in omega (arith, under, c.loop-block-test.false))
