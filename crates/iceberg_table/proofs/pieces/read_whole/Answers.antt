use Rattle.std.proofs.Common.{[], Result, Ok, refl, sym, subst, arith}
use Rattle.std.proofs.lemmas.Bool.{not-false}
use Rattle.std.proofs.lemmas.Result.{err_from_is_err_and}
use Rattle.std.specs.Prelude.{IfErr, IsErrOf}
use Rattle.lake_store.specs.Disk.{Disk}
use Rattle.lake_store.proofs.RunLaws.{reading_begins, reading_further}
use Rattle.iceberg_manifest_feeding.specs.declared.feeder.ManifestFeeder.{ManifestFeeder}
use Rattle.iceberg_table.specs.Errors.{IsRefusal}
use Rattle.iceberg_table.specs.Pieces.{IsReadSoFar, IsUnread}
use Rattle.iceberg_table.specs.declared.error.IcebergError.{IcebergError}
use Rattle.iceberg_table.specs.declared.error.IcebergError.TheVariants as error
use Rattle.iceberg_table.specs.declared.pieces.Pieces.{Pieces}
use Rattle.iceberg_table.proofs.PieceLaws.{nothing_so_far, nothing_taken, some_read, whole_read}
use Rattle.iceberg_table.proofs.Runs.{fails_never, uncontested_further}
use Rattle.iceberg_table.proofs.pieces.read_whole.Goals as goal

pub reading-init : goal.reading-init
reading-init g c =
    let new = c.new-pieces.ensures in
    let read = new.read in
    record {
      within = omega (arith, read);
      taken = ([], nothing_taken c.args.columns.now c.new-pieces.result (new.feeder c.args.columns.now) read);
      read = λ told. nothing_so_far (g.S.Store.disk c.args.store.now).files c.args.columns.now c.args.path.now c.new-pieces.result (new.feeder c.args.columns.now) read new.is_whole;
      reads = reading_begins g.S.Store g.met.S.Store.only_now c.args.store.now;
      cause = record { later = omega arith; still = λ may. may; rose = λ never. absurd never; allowed = λ never. absurd never };
      contest = record { same = refl; still = λ may. may; never = λ never. never };
    }

pub reading-preserved : goal.reading-preserved
reading-preserved g c =
    let store = g.S.Store in
    let so_far = c.reading.invariant in
    let columns = c.args.columns.now in
    let path = c.args.path.now in
    let read : Result Pieces IcebergError = Ok c.in_ok-pieces.pieces in
    record {
      within = c.in_ok-pieces.ensures.within;
      taken = c.in_ok-pieces.ensures.taken so_far.taken;
      read = λ told.
          let same = (so_far.reads told).disk in
          subst (λ (d : Disk). IsReadSoFar d.files columns path c.in_ok-pieces.pieces) same
          (c.in_ok-pieces.ensures.read told (subst (λ (d : Disk). IsReadSoFar d.files columns path c.reading.pieces) (sym same) (so_far.read told)));
      reads = reading_further store c.args.store.now c.reading.store c.read_on.new.store so_far.reads c.in_ok-pieces.ensures.only_reads;
      cause = fails_never store.faults store.may_fail c.args.store.now c.reading.store c.read_on.new.store (IsErrOf read error.StoreFault) so_far.cause c.in_ok-pieces.ensures.cause;
      contest = uncontested_further store.contests store.may_contest c.args.store.now c.reading.store c.read_on.new.store so_far.contest c.in_ok-pieces.ensures.contest;
    }

pub returns-in_err-pieces-clause-refused : goal.returns-in_err-pieces-clause-refused
returns-in_err-pieces-clause-refused g c told =
    let exit = err_from_is_err_and c.from_residual.result c.from_residual.ensures.1 in
    let columns = c.args.columns.now in
    let path = c.args.path.now in
    let so_far = c.reading.invariant in
    let same = (so_far.reads told).disk in
    let refused = c.in_err-pieces.ensures.refused told (subst (λ (d : Disk). IsReadSoFar d.files columns path c.reading.pieces) (sym same) (so_far.read told)) in
    let here = subst (λ (d : Disk). IsRefusal (IsUnread d.files columns path) c.in_err-pieces.field-0.0) same refused in
    let files = (g.S.Store.disk c.args.store.now).files in
    subst (λ (r : Result ManifestFeeder IcebergError). IfErr r (IsRefusal (IsUnread files columns path))) (sym exit.1)
    (subst (IsRefusal (IsUnread files columns path)) (sym exit.2) here)

pub returns-in_err-pieces-clause-only_reads : goal.returns-in_err-pieces-clause-only_reads
returns-in_err-pieces-clause-only_reads g c = reading_further g.S.Store c.args.store.now c.reading.store c.read_on.new.store c.reading.invariant.reads c.in_err-pieces.ensures.only_reads

pub returns-in_err-pieces-clause-contest : goal.returns-in_err-pieces-clause-contest
returns-in_err-pieces-clause-contest g c = uncontested_further g.S.Store.contests g.S.Store.may_contest c.args.store.now c.reading.store c.read_on.new.store c.reading.invariant.contest c.in_err-pieces.ensures.contest

pub returns-clause-taken : goal.returns-clause-taken
returns-clause-taken g c = some_read c.args.columns.now c.reading.pieces c.reading.invariant.within c.reading.invariant.taken

pub returns-clause-read : goal.returns-clause-read
returns-clause-read g c told =
    let so_far = c.reading.invariant in
    whole_read (g.S.Store.disk c.args.store.now).files c.args.columns.now c.args.path.now c.reading.pieces (not-false c.reading.pieces.is_whole c.reading-test.false) so_far.within (so_far.read told)

pub returns-clause-only_reads : goal.returns-clause-only_reads
returns-clause-only_reads g c = c.reading.invariant.reads

pub returns-clause-cause : goal.returns-clause-cause
returns-clause-cause g c = record { later = c.reading.invariant.cause.later; still = c.reading.invariant.cause.still; rose = λ never. absurd cc; allowed = λ never. absurd cc }

pub returns-clause-contest : goal.returns-clause-contest
returns-clause-contest g c = c.reading.invariant.contest
