use Rattle.std.proofs.Common.{◌≡◌, ◌+◌, ◌-◌, ◌<◌, ⊎_elim, refl, sym, subst, ◌∙◌, arith}
use Rattle.std.proofs.lemmas.Bool.{cases_eq, cases_lt, false≢true}
use Rattle.std.proofs.lemmas.Result.{err_from_is_err_and}
use Rattle.std.specs.Prelude.{IfErr, IsErrOf}
use Rattle.lake_store.specs.Disk.{Disk}
use Rattle.lake_store.proofs.RunLaws.{reading_begins, reading_further}
use Rattle.delta_table.specs.Versions.{HasVersion}
use Rattle.delta_table.proofs.Runs.{fails_never}
use Rattle.delta_compact.specs.Steps.{IsPlainFault}
use Rattle.delta_compact.specs.declared.error.CompactFault.TheVariants.{Contested}
use Rattle.delta_compact.proofs.Causes.{err_back, uncontested_further}
use Rattle.delta_compact.proofs.whole.missing_version.Goals as goal

pub loop-back-init : goal.loop-back-init
loop-back-init g c = record {
  within = omega arith;
  behind = λ told later low high. absurd (omega (arith, low, high));
  reads = λ told. reading_begins g.S.Store g.met.S.Store.only_now c.args.store.now told;
  cause = record { later = omega arith; still = λ m. m; rose = λ never. absurd never; allowed = λ never. absurd never };
  contest = record { same = refl; still = λ m. m; never = λ never. never };
}

pub returns-in_err-has_version-clause-refused : goal.returns-in_err-has_version-clause-refused
returns-in_err-has_version-clause-refused g c =
    let exit = err_from_is_err_and c.from_residual.result c.from_residual.ensures.1 in
    subst (λ r. IfErr r IsPlainFault) (sym exit.1) (subst IsPlainFault (sym exit.2) c.in_err-has_version.ensures.refused)

pub returns-in_err-has_version-clause-only_reads : goal.returns-in_err-has_version-clause-only_reads
returns-in_err-has_version-clause-only_reads g c = reading_further g.S.Store c.args.store.now c.loop-back.store c.has_version.new.store c.loop-back.invariant.reads c.in_err-has_version.ensures.only_reads

pub returns-in_err-has_version-clause-contest : goal.returns-in_err-has_version-clause-contest
returns-in_err-has_version-clause-contest g c =
    let exit = err_from_is_err_and c.from_residual.result c.from_residual.ensures.1 in
    uncontested_further g.S.Store.contests g.S.Store.may_contest c.args.store.now c.loop-back.store c.has_version.new.store ⊥ _ (IsErrOf c.from_residual.result Contested) c.loop-back.invariant.contest c.in_err-has_version.ensures.contest
    (err_back c.from_residual.result exit.0 c.in_err-has_version.field-0.0 Contested exit.1 exit.2)

pub returns-then-not-branch-clause-missing : goal.returns-then-not-branch-clause-missing
returns-then-not-branch-clause-missing g c told =
    let so_far = c.loop-back.invariant in
    let same = (so_far.reads told).disk in
    let there = c.in_ok-has_version.ensures.there told in
    let under = c.loop-back-test.true in
    let few = c.requires.few in
    let version = c.args.head - c.loop-back.back in
    record {
      within = omega arith;
      missing = λ has. false≢true (sym c.if-not-branch.true ∙ there.1 (subst (λ (d : Disk). HasVersion d.files version) (sym same) has));
      behind = λ later low high. so_far.behind told later (omega (arith, low, under, few)) high;
    }

pub loop-back-preserved : goal.loop-back-preserved
loop-back-preserved g c =
    let store = g.S.Store in
    let files = (store.disk c.args.store.now).files in
    let so_far = c.loop-back.invariant in
    let under = c.loop-back-test.true in
    let few = c.requires.few in
    record {
      within = omega (arith, under);
      behind = λ told later low high. ⊎_elim
          (λ (here : later ≡ c.args.head - c.loop-back.back).
          subst (HasVersion files) (sym here) (subst (λ (d : Disk). HasVersion d.files (c.args.head - c.loop-back.back)) (so_far.reads told).disk ((c.in_ok-has_version.ensures.there told).0 c.if-not-branch.false)))
          (λ (apart : later ≡ c.args.head - c.loop-back.back → ⊥). so_far.behind told later (omega (arith, low, high, apart, under, few)) high)
          (cases_eq later (c.args.head - c.loop-back.back));
      reads = reading_further store c.args.store.now c.loop-back.store c.has_version.new.store so_far.reads c.in_ok-has_version.ensures.only_reads;
      cause = fails_never store.faults store.may_fail c.args.store.now c.loop-back.store c.has_version.new.store _ so_far.cause c.in_ok-has_version.ensures.cause;
      contest = uncontested_further store.contests store.may_contest c.args.store.now c.loop-back.store c.has_version.new.store ⊥ _ ⊥ so_far.contest c.in_ok-has_version.ensures.contest (λ never. absurd never);
    }

pub returns-clause-missing : goal.returns-clause-missing
returns-clause-missing g c told version within =
    let so_far = c.loop-back.invariant in
    let most = so_far.within in
    ⊎_elim
    (λ (late : c.args.head < version + c.args.few). so_far.behind told version (omega (arith, late, most, c.loop-back-test.false)) within)
    (λ early. c.requires.before told version early)
    (cases_lt c.args.head (version + c.args.few))

pub returns-then-not-branch-clause-only_reads : goal.returns-then-not-branch-clause-only_reads
returns-then-not-branch-clause-only_reads g c = reading_further g.S.Store c.args.store.now c.loop-back.store c.has_version.new.store c.loop-back.invariant.reads c.in_ok-has_version.ensures.only_reads
