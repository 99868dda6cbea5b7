use Rattle.std.proofs.Common.{◌≡◌, ◌+◌, ◌-◌, ◌<◌, suc, Some, refl, sym, subst, arith}
use Rattle.std.proofs.lemmas.Result.{err_from_is_err_and}
use Rattle.std.specs.Prelude.{IfErr, IsSome}
use Rattle.std.specs.FinMap as map
use Rattle.lake_store.specs.Disk.{Disk}
use Rattle.lake_store.proofs.RunLaws.{reading_begins, reading_further}
use Rattle.delta_table.proofs.Runs.{fails_never}
use Rattle.delta_compact.specs.Refusals.{HasCause}
use Rattle.delta_compact.specs.Whole.{AreReadParts, IsFileRefusal, IsOfReading, IsTakenAt, StopsAtPart, part_count}
use Rattle.delta_compact.proofs.Causes.{uncontested_further}
use Rattle.delta_compact.proofs.Joins.{cause_weaker}
use Rattle.delta_compact.proofs.Made.{table_of_parts}
use Rattle.delta_compact.proofs.Refused.{part_there}
use Rattle.delta_compact.proofs.whole.read_parts.Goals as goal

pub loop-part-init : goal.loop-part-init
loop-part-init g c = record {
  within = omega arith;
  begun = λ under. absurd (omega (arith, under));
  sound = tt;
  read = λ told. refl;
  reads = λ told. reading_begins g.S.Store g.met.S.Store.only_now c.args.store.now told;
  cause = record { later = omega arith; still = λ m. m; rose = λ never. absurd never; allowed = λ never. absurd never };
  contest = record { same = refl; still = λ m. m; never = λ never. never };
}

pub table_behind_file-requires-clause-there : goal.table_behind_file-requires-clause-there
table_behind_file-requires-clause-there g c told =
    let files = (g.S.Store.disk c.args.store.now).files in
    let blocks = c.block_count-blocks.result in
    let under : c.loop-part.part < part_count c.args.head blocks = c.loop-part-test.true in
    subst (λ (d : Disk). IsSome (map.get d.files c.in_ok-path.path)) (sym (c.loop-part.invariant.reads told).disk)
    (part_there files c.args.head (c.requires.compacted told) c.requires.within blocks c.loop-part.part c.in_ok-path.path c.block_count-blocks.ensures under (c.requires.each told) c.in_ok-path.ensures)

pub returns-in_err-path-clause-only_reads : goal.returns-in_err-path-clause-only_reads
returns-in_err-path-clause-only_reads g c = c.loop-part.invariant.reads

pub returns-in_err-table_behind_file-clause-refused : goal.returns-in_err-table_behind_file-clause-refused
returns-in_err-table_behind_file-clause-refused g c told =
    let files = (g.S.Store.disk c.args.store.now).files in
    let so_far = c.loop-part.invariant in
    let result = c.from_residual-in_err-table_behind_file.result in
    let exit = err_from_is_err_and result c.from_residual-in_err-table_behind_file.ensures.1 in
    let e = c.in_err-table_behind_file.field-0.0 in
    let path = c.in_ok-path.path in
    let base = c.loop-part.table in
    let why = subst (λ (d : Disk). HasCause (IsFileRefusal d.files path base) e) (so_far.reads told).disk (c.in_err-table_behind_file.ensures.refused told) in
    subst (λ r. IfErr r (HasCause (StopsAtPart files c.args.head))) (sym exit.1)
    (subst (HasCause (StopsAtPart files c.args.head)) (sym exit.2)
    (cause_weaker (IsFileRefusal files path base) (StopsAtPart files c.args.head)
    (λ f h. record { blocks = c.block_count-blocks.result; are = c.block_count-blocks.ensures; part = c.loop-part.part; within = c.loop-part-test.true; base = base; before = so_far.read told; path = path; is = c.in_ok-path.ensures; refused = h }) e why))

pub returns-in_err-table_behind_file-clause-never : goal.returns-in_err-table_behind_file-clause-never
returns-in_err-table_behind_file-clause-never g c =
    let exit = err_from_is_err_and c.from_residual-in_err-table_behind_file.result c.from_residual-in_err-table_behind_file.ensures.1 in
    subst (λ r. IfErr r IsOfReading) (sym exit.1) (subst IsOfReading (sym exit.2) c.in_err-table_behind_file.ensures.never)

pub loop-part-preserved : goal.loop-part-preserved
loop-part-preserved g c =
    let store = g.S.Store in
    let files = (store.disk c.args.store.now).files in
    let so_far = c.loop-part.invariant in
    let path = c.in_ok-path.path in
    let base = c.loop-part.table in
    let next = c.in_ok-table_behind_file.field-0 in
    let count : suc c.loop-part.part ≡ c.loop-part.part + 1 = omega arith in
    record {
      within = omega (arith, c.loop-part-test.true);
      begun = λ under. refl;
      sound = c.in_ok-table_behind_file.ensures.sound;
      read = λ told. subst (λ n. AreReadParts files c.block_count-blocks.result n (Some next)) count
          (base, so_far.read told, path, c.in_ok-path.ensures, next, subst (λ (d : Disk). IsTakenAt d.files path base next) (so_far.reads told).disk (c.in_ok-table_behind_file.ensures.taken told), refl);
      reads = reading_further store c.args.store.now c.loop-part.store c.table_behind_file.new.store so_far.reads c.in_ok-table_behind_file.ensures.only_reads;
      cause = fails_never store.faults store.may_fail c.args.store.now c.loop-part.store c.table_behind_file.new.store _ so_far.cause c.in_ok-table_behind_file.ensures.cause;
      contest = uncontested_further store.contests store.may_contest c.args.store.now c.loop-part.store c.table_behind_file.new.store ⊥ _ ⊥ so_far.contest c.in_ok-table_behind_file.ensures.contest (λ never. absurd never);
    }

pub returns-clause-table : goal.returns-clause-table
returns-clause-table g c told =
    let files = (g.S.Store.disk c.args.store.now).files in
    let so_far = c.loop-part.invariant in
    let within = so_far.within in
    let blocks = c.block_count-blocks.result in
    let all : c.loop-part.part ≡ part_count c.args.head blocks = omega (arith, within, c.loop-part-test.false) in
    let read = subst (AreReadParts files blocks c.loop-part.part) c.in-Some.is (so_far.read told) in
    table_of_parts files c.args.head blocks (c.requires.compacted told) c.block_count-blocks.ensures c.requires.within c.in-Some.table (subst (λ n. AreReadParts files blocks n (Some c.in-Some.table)) all read)

pub returns-in_err-table_behind_file-clause-only_reads : goal.returns-in_err-table_behind_file-clause-only_reads
returns-in_err-table_behind_file-clause-only_reads g c = reading_further g.S.Store c.args.store.now c.loop-part.store c.table_behind_file.new.store c.loop-part.invariant.reads c.in_err-table_behind_file.ensures.only_reads
