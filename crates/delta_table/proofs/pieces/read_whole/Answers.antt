use Rattle.std.proofs.Common.{◌≡◌, Result, refl, sym, subst, arith}
use Rattle.std.proofs.lemmas.Bool.{not-false}
use Rattle.std.proofs.lemmas.Result.{err_from_is_err_and}
use Rattle.std.specs.Prelude.{IfErr}
use Rattle.lake_store.specs.Disk.{Disk}
use Rattle.lake_store.proofs.RunLaws.{reading_begins, reading_further}
use Rattle.delta_feeding.specs.Feeding.{State}
use Rattle.delta_table.specs.Pieces.{IsReadSoFar}
use Rattle.delta_table.specs.Refusals.{IsVersionRefusal, TellsOf}
use Rattle.delta_table.specs.declared.error.LogError.{LogError}
use Rattle.delta_table.proofs.PieceLaws.{nothing_so_far, whole_read}
use Rattle.delta_table.proofs.Runs.{fails_never, uncontested_further}
use Rattle.delta_table.proofs.pieces.read_whole.Goals as goal

pub reading-init : goal.reading-init
reading-init g c =
    let new = c.new-pieces.ensures in
    let read = new.read in
    record {
      within = omega (arith, read);
      read = λ told. nothing_so_far (g.S.Store.disk c.args.store.now).files c.args.version c.new-pieces.result new.feeder read new.is_whole;
      reads = reading_begins g.S.Store g.met.S.Store.only_now c.args.store.now;
      cause = record { later = omega arith; still = λ may. may; rose = λ never. absurd never; allowed = λ never. absurd never };
      contest = record { same = refl; still = λ may. may; never = λ never. never };
    }

pub reading-preserved : goal.reading-preserved
reading-preserved g c =
    let store = g.S.Store in
    let so_far = c.reading.invariant in
    record {
      within = c.in_ok-pieces.ensures.within;
      read = λ told.
          let same = (so_far.reads told).disk in
          subst (λ (d : Disk). IsReadSoFar d.files c.args.version c.in_ok-pieces.pieces) same
          (c.in_ok-pieces.ensures.read told (subst (λ (d : Disk). IsReadSoFar d.files c.args.version c.reading.pieces) (sym same) (so_far.read told)));
      reads = reading_further store c.args.store.now c.reading.store c.read_on.new.store so_far.reads c.in_ok-pieces.ensures.only_reads;
      cause = fails_never store.faults store.may_fail c.args.store.now c.reading.store c.read_on.new.store _ so_far.cause c.in_ok-pieces.ensures.cause;
      contest = uncontested_further store.contests store.may_contest c.args.store.now c.reading.store c.read_on.new.store so_far.contest c.in_ok-pieces.ensures.contest;
    }

pub returns-in_err-pieces-clause-told : goal.returns-in_err-pieces-clause-told
returns-in_err-pieces-clause-told g c =
    let exit = err_from_is_err_and c.from_residual.result c.from_residual.ensures.1 in
    subst (λ (r : Result State LogError). IfErr r (TellsOf (λ v. v ≡ c.args.version))) (sym exit.1)
    (subst (TellsOf (λ v. v ≡ c.args.version)) (sym exit.2) c.in_err-pieces.ensures.told)

pub returns-in_err-pieces-clause-refused : goal.returns-in_err-pieces-clause-refused
returns-in_err-pieces-clause-refused g c told =
    let exit = err_from_is_err_and c.from_residual.result c.from_residual.ensures.1 in
    let so_far = c.reading.invariant in
    let same = (so_far.reads told).disk in
    let refused = c.in_err-pieces.ensures.refused told (subst (λ (d : Disk). IsReadSoFar d.files c.args.version c.reading.pieces) (sym same) (so_far.read told)) in
    let here = subst (λ (d : Disk). IsVersionRefusal d.files c.args.version c.in_err-pieces.field-0.0) same refused in
    let files = (g.S.Store.disk c.args.store.now).files in
    subst (λ (r : Result State LogError). IfErr r (IsVersionRefusal files c.args.version)) (sym exit.1)
    (subst (IsVersionRefusal files c.args.version) (sym exit.2) here)

pub returns-in_err-pieces-clause-only_reads : goal.returns-in_err-pieces-clause-only_reads
returns-in_err-pieces-clause-only_reads g c = reading_further g.S.Store c.args.store.now c.reading.store c.read_on.new.store c.reading.invariant.reads c.in_err-pieces.ensures.only_reads

pub returns-in_err-pieces-clause-contest : goal.returns-in_err-pieces-clause-contest
returns-in_err-pieces-clause-contest g c = uncontested_further g.S.Store.contests g.S.Store.may_contest c.args.store.now c.reading.store c.read_on.new.store c.reading.invariant.contest c.in_err-pieces.ensures.contest

pub returns-clause-read : goal.returns-clause-read
returns-clause-read g c told =
    let so_far = c.reading.invariant in
    whole_read (g.S.Store.disk c.args.store.now).files c.args.version c.reading.pieces (not-false c.reading.pieces.is_whole c.reading-test.false) so_far.within (so_far.read told)

pub returns-clause-only_reads : goal.returns-clause-only_reads
returns-clause-only_reads g c = c.reading.invariant.reads

pub returns-clause-cause : goal.returns-clause-cause
returns-clause-cause g c = record { later = c.reading.invariant.cause.later; still = c.reading.invariant.cause.still; rose = λ never. absurd cc; allowed = λ never. absurd cc }

pub returns-clause-contest : goal.returns-clause-contest
returns-clause-contest g c = c.reading.invariant.contest
