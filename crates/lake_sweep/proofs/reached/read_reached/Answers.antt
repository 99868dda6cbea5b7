use Rattle.std.proofs.Common.{◌⊎◌, ◌++◌, ◌∷◌, [], ℕ, List, get_or, take, Result, refl, sym, subst, ◌∙◌, arith}
use Rattle.std.proofs.lemmas.List.{take_all, take_more}
use Rattle.std.proofs.lemmas.Result.{err_from_is_err_and}
use Rattle.std.specs.Prelude.{IfErr}
use Rattle.lake_store.specs.Disk.{Disk}
use Rattle.lake_store.proofs.RunLaws.{reading_begins, reading_further}
use Rattle.lake_sweep.specs.Reading.{HasReadVersions}
use Rattle.lake_sweep.specs.Refusals.{HasCause}
use Rattle.lake_sweep.specs.Versions.{HasListRefused, IsFirstRefused, IsVersionRefused}
use Rattle.lake_sweep.specs.declared.error.SweepError.{SweepError}
use Rattle.lake_sweep.specs.declared.reached.Reached.{Reached}
use Rattle.lake_sweep.proofs.RefusalLaws.{first_refused}
use Rattle.lake_sweep.proofs.CauseLaws.{cause_weaker}
use Rattle.lake_sweep.proofs.reached.read_reached.Goals as goal

pub loop-version-init : goal.loop-version-init
loop-version-init g c = record {
  read = λ told. c.in_ok-reached.ensures (g.S.Store.disk c.args.store.now).files;
  only = λ told. reading_begins g.S.Store g.met.S.Store.only_now c.args.store.now told;
  cause = record { later = omega arith; still = λ m. m; rose = λ never. absurd never; allowed = λ never. absurd never };
  contest = record { same = refl; still = λ m. m; never = λ never. never };
}

pub loop-version-preserved : goal.loop-version-preserved
loop-version-preserved g c =
    let store = g.S.Store in
    let s = c.args.store.now in
    let mid = c.loop-version.store in
    let new = c.with_version.new.store in
    let i = c.loop-version.version-index in
    let v = get_or c.args.versions.now i 0 in
    let so_far = c.loop-version.invariant in
    record {
      read = λ told.
          let same = (so_far.only told).disk in
          let here = subst (λ (d : Disk). HasReadVersions d.files (take i c.args.versions.now) c.loop-version.reached) (sym same) (so_far.read told) in
          let more = subst (λ (d : Disk). HasReadVersions d.files (take i c.args.versions.now ++ v ∷ []) c.in_ok-reached-2.reached) same (c.in_ok-reached-2.ensures.read told (take i c.args.versions.now) here) in
          subst (λ (l : List ℕ). HasReadVersions (store.disk s).files l c.in_ok-reached-2.reached) (sym (take_more c.args.versions.now i 0 c.loop-version-test.true)) more;
      only = λ told. reading_further store s mid new so_far.only (λ t. c.with_version.ensures.only_reads t) told;
      cause = record {
        later = omega (arith, so_far.cause.later, c.with_version.ensures.cause.later);
        still = λ m. so_far.cause.still (c.with_version.ensures.cause.still m);
        rose = λ never. absurd never;
        allowed = λ never. absurd never;
      };
      contest = record { same = c.with_version.ensures.contest.same ∙ so_far.contest.same; still = λ m. so_far.contest.still (c.with_version.ensures.contest.still m); never = λ never. never };
    }

pub returns-clause-read : goal.returns-clause-read
returns-clause-read g c told =
    subst (λ (l : List ℕ). HasReadVersions (g.S.Store.disk c.args.store.now).files l c.loop-version.reached) (take_all c.loop-version.version-index c.args.versions.now c.loop-version-test.false) (c.loop-version.invariant.read told)

pub returns-in_err-reached-2-clause-refused : goal.returns-in_err-reached-2-clause-refused
returns-in_err-reached-2-clause-refused g c told =
    let store = g.S.Store in
    let files = (store.disk c.args.store.now).files in
    let versions = c.args.versions.now in
    let i = c.loop-version.version-index in
    let v = get_or versions i 0 in
    let so_far = c.loop-version.invariant in
    let same = (so_far.only told).disk in
    let P : SweepError → Type 0 = λ (e : SweepError). IsVersionRefused files v e ⊎ HasListRefused files v e in
    let Q : SweepError → Type 0 = IsFirstRefused files in
    let has = so_far.read told in
    let exit = err_from_is_err_and c.from_residual-in_err-reached-2.result c.from_residual-in_err-reached-2.ensures.1 in
    let there = subst (HasCause (λ (e : SweepError). IsVersionRefused (store.disk c.loop-version.store).files v e ⊎ HasListRefused (store.disk c.loop-version.store).files v e)) (sym exit.2)
    (c.in_err-reached-2.ensures.refused told (take i versions) (subst (λ (d : Disk). HasReadVersions d.files (take i versions) c.loop-version.reached) (sym same) has)) in
    let here = subst (λ (d : Disk). HasCause (λ (e : SweepError). IsVersionRefused d.files v e ⊎ HasListRefused d.files v e) exit.0) same there in
    subst (λ (r : Result Reached SweepError). IfErr r (HasCause Q)) (sym exit.1)
    (cause_weaker P Q (λ e refused. first_refused files versions i c.loop-version.reached c.requires.rising (c.requires.all told) c.loop-version-test.true has e refused) exit.0 here)

pub returns-in_err-reached-2-clause-only_reads : goal.returns-in_err-reached-2-clause-only_reads
returns-in_err-reached-2-clause-only_reads g c told =
    reading_further g.S.Store c.args.store.now c.loop-version.store c.with_version.new.store c.loop-version.invariant.only (λ t. c.with_version.ensures.only_reads t) told
