use Rattle.std.proofs.Common.{◌≡◌, ◌≤◌, ◌+◌, None, Some, Result, refl, sym, subst, arith}
use Rattle.std.proofs.lemmas.Result.{err_from_is_err_and}
use Rattle.std.specs.Prelude.{IfErr}
use Rattle.lake_basics.specs.declared.limits.TheConstants.{MAX_COMMITS}
use Rattle.lake_store.specs.Disk.{Disk}
use Rattle.lake_store.proofs.RunLaws.{reading_further}
use Rattle.delta_table.specs.Log.{IsLogOf, IsReadLog}
use Rattle.delta_table.specs.Refusals.{IsLogRefusal, IsStepRefusal}
use Rattle.delta_table.specs.declared.error.LogError.{LogError}
use Rattle.delta_table.specs.declared.log.Log.{Log}
use Rattle.delta_table.proofs.LogLaws.{live_rows, read_is_log, stops_at}
use Rattle.delta_table.proofs.Runs.{fails_never, uncontested_further}
use Rattle.delta_table.proofs.log.read_log.Goals as goal

pub loop-version-init : goal.loop-version-init
loop-version-init g c = record {
  within = omega arith;
  sound = c.in_ok-log.ensures.sound;
  log = c.in_ok-log.ensures.log;
  reads = c.in_ok-log.ensures.only_reads;
  cause = record { later = c.in_ok-log.ensures.cause.later; still = c.in_ok-log.ensures.cause.still; rose = λ never. absurd never; allowed = λ never. absurd never };
  contest = c.in_ok-log.ensures.contest;
}

pub returns-in_err-log-clause-refused : goal.returns-in_err-log-clause-refused
returns-in_err-log-clause-refused g c told =
    let exit = err_from_is_err_and c.from_residual.result c.from_residual.ensures.1 in
    let files = (g.S.Store.disk c.args.store.now).files in
    let few : c.args.newest + 1 ≤ MAX_COMMITS = omega (arith, c.if-newest-ge-MAX_COMMITS.false) in
    subst (λ (r : Result Log LogError). IfErr r (IsLogRefusal files c.args.newest)) (sym exit.1)
    (subst (IsLogRefusal files c.args.newest) (sym exit.2) (stops_at files c.args.newest 0 None c.in_err-log.field-0.0 few (omega arith) refl (c.in_err-log.ensures.refused told)))

pub returns-in_err-log-2-clause-refused : goal.returns-in_err-log-2-clause-refused
returns-in_err-log-2-clause-refused g c told =
    let store = g.S.Store in
    let exit = err_from_is_err_and c.from_residual-in_err-log-2.result c.from_residual-in_err-log-2.ensures.1 in
    let so_far = c.loop-version.invariant in
    let files = (store.disk c.args.store.now).files in
    let within : c.loop-version.version ≤ c.args.newest = omega (arith, c.loop-version-test.true) in
    let few : c.args.newest + 1 ≤ MAX_COMMITS = omega (arith, c.if-newest-ge-MAX_COMMITS.false) in
    let step = subst (λ (d : Disk). IsStepRefusal d.files c.loop-version.version (Some c.loop-version.log.table) c.in_err-log-2.field-0.0) (so_far.reads told).disk (c.in_err-log-2.ensures.refused told) in
    subst (λ (r : Result Log LogError). IfErr r (IsLogRefusal files c.args.newest)) (sym exit.1)
    (subst (IsLogRefusal files c.args.newest) (sym exit.2) (stops_at files c.args.newest c.loop-version.version (Some c.loop-version.log.table) c.in_err-log-2.field-0.0 few within (so_far.log told).table step))

pub returns-in_err-log-2-clause-only_reads : goal.returns-in_err-log-2-clause-only_reads
returns-in_err-log-2-clause-only_reads g c = reading_further g.S.Store c.args.store.now c.loop-version.store c.read_next.new.store c.loop-version.invariant.reads c.in_err-log-2.ensures.only_reads

pub returns-in_err-log-2-clause-contest : goal.returns-in_err-log-2-clause-contest
returns-in_err-log-2-clause-contest g c = uncontested_further g.S.Store.contests g.S.Store.may_contest c.args.store.now c.loop-version.store c.read_next.new.store c.loop-version.invariant.contest c.in_err-log-2.ensures.contest

pub loop-version-preserved : goal.loop-version-preserved
loop-version-preserved g c =
    let store = g.S.Store in
    let so_far = c.loop-version.invariant in
    record {
      within = omega (arith, c.loop-version-test.true);
      sound = c.in_ok-log-2.ensures.sound;
      log = λ told.
          let same = (so_far.reads told).disk in
          subst (λ (d : Disk). IsLogOf d.files (c.loop-version.version + 1) c.in_ok-log-2.log) same
          (c.in_ok-log-2.ensures.log told (subst (λ (d : Disk). IsLogOf d.files c.loop-version.version c.loop-version.log) (sym same) (so_far.log told)));
      reads = reading_further store c.args.store.now c.loop-version.store c.read_next.new.store so_far.reads c.in_ok-log-2.ensures.only_reads;
      cause = fails_never store.faults store.may_fail c.args.store.now c.loop-version.store c.read_next.new.store _ so_far.cause c.in_ok-log-2.ensures.cause;
      contest = uncontested_further store.contests store.may_contest c.args.store.now c.loop-version.store c.read_next.new.store so_far.contest c.in_ok-log-2.ensures.contest;
    }

pub returns-clause-log : goal.returns-clause-log
returns-clause-log g c told =
    let so_far = c.loop-version.invariant in
    let within = so_far.within in
    let all : c.loop-version.version ≡ c.args.newest + 1 = omega (arith, c.loop-version-test.false, within) in
    subst (λ n. IsLogOf (g.S.Store.disk c.args.store.now).files n c.loop-version.log) all (so_far.log told)

pub returns-clause-live : goal.returns-clause-live
returns-clause-live g c told =
    let so_far = c.loop-version.invariant in
    let within = so_far.within in
    let all : c.loop-version.version ≡ c.args.newest + 1 = omega (arith, c.loop-version-test.false, within) in
    let files = (g.S.Store.disk c.args.store.now).files in
    live_rows files (c.args.newest + 1) c.loop-version.log.table (read_is_log files (c.args.newest + 1) (Some c.loop-version.log.table) (subst (λ n. IsReadLog files n (Some c.loop-version.log.table)) all (so_far.log told).table))

pub returns-clause-only_reads : goal.returns-clause-only_reads
returns-clause-only_reads g c = c.loop-version.invariant.reads

pub returns-clause-cause : goal.returns-clause-cause
returns-clause-cause g c = record { later = c.loop-version.invariant.cause.later; still = c.loop-version.invariant.cause.still; rose = λ never. absurd cc; allowed = λ never. absurd cc }

pub returns-clause-contest : goal.returns-clause-contest
returns-clause-contest g c = c.loop-version.invariant.contest
