use Rattle.std.proofs.Common.{◌++◌, ◌∷◌, [], ℕ, List, map, take, Result, refl, sym, subst, ◌∙◌, arith}
use Rattle.std.proofs.lemmas.List.{take_all}
use Rattle.std.proofs.lemmas.Result.{err_from_is_err_and}
use Rattle.std.specs.Prelude.{IfErr}
use Rattle.lake_store.specs.Disk.{Disk}
use Rattle.lake_store.proofs.RunLaws.{reading_begins, reading_further}
use Rattle.lake_sweep.specs.Reading.{HasRead, ListOf, list_at}
use Rattle.lake_sweep.specs.Refusals.{HasCause}
use Rattle.lake_sweep.specs.Versions.{IsListRefused, IsOneRefused}
use Rattle.lake_sweep.specs.declared.error.SweepError.{SweepError}
use Rattle.lake_sweep.specs.declared.reached.Reached.{Reached}
use Rattle.lake_sweep.proofs.ReadingLaws.{lists_more, lists_none}
use Rattle.lake_sweep.proofs.RefusalLaws.{one_refused}
use Rattle.lake_sweep.proofs.CauseLaws.{cause_weaker}
use Rattle.lake_sweep.proofs.reached.Reached.with_lists.Goals as goal

pub loop-path-init : goal.loop-path-init
loop-path-init g c = record {
  read = λ told lists at has. (at, subst (λ (l : List ListOf). HasRead (g.S.Store.disk c.args.store.now).files l c.args.self) (sym (lists_none lists c.args.metadata.now c.args.paths.now)) has);
  only = λ told. reading_begins g.S.Store g.met.S.Store.only_now c.args.store.now told;
  cause = record { later = omega arith; still = λ m. m; rose = λ never. absurd never; allowed = λ never. absurd never };
  contest = record { same = refl; still = λ m. m; never = λ never. never };
}

pub loop-path-preserved : goal.loop-path-preserved
loop-path-preserved g c =
    let store = g.S.Store in
    let s = c.args.store.now in
    let mid = c.loop-path.store in
    let new = c.with_list.new.store in
    let m = c.args.metadata.now in
    let i = c.loop-path.path-index in
    let so_far = c.loop-path.invariant in
    record {
      read = λ told lists at has.
          let before = so_far.read told lists at has in
          let same = (so_far.only told).disk in
          let here = subst (λ (d : Disk). HasRead d.files (lists ++ map (list_at m) (take i c.args.paths.now)) c.loop-path.reached) (sym same) before.1 in
          let both = c.in_ok-reached.ensures.read told (lists ++ map (list_at m) (take i c.args.paths.now)) before.0 here in
          let more = subst (λ (d : Disk). HasRead d.files ((lists ++ map (list_at m) (take i c.args.paths.now)) ++ list_at m c.path-item.result ∷ []) c.in_ok-reached.reached) same both.1 in
          (both.0, subst (λ (l : List ListOf). HasRead (store.disk s).files l c.in_ok-reached.reached) (lists_more lists m c.args.paths.now i c.path-item.result c.loop-path-test.true c.path-item.is) more);
      only = λ told. reading_further store s mid new so_far.only (λ t. c.with_list.ensures.only_reads t) told;
      cause = record {
        later = omega (arith, so_far.cause.later, c.with_list.ensures.cause.later);
        still = λ m. so_far.cause.still (c.with_list.ensures.cause.still m);
        rose = λ never. absurd never;
        allowed = λ never. absurd never;
      };
      contest = record { same = c.with_list.ensures.contest.same ∙ so_far.contest.same; still = λ m. so_far.contest.still (c.with_list.ensures.contest.still m); never = λ never. never };
    }

pub returns-clause-read : goal.returns-clause-read
returns-clause-read g c told lists at has =
    let whole = take_all c.loop-path.path-index c.args.paths.now c.loop-path-test.false in
    subst (λ (ps : List (List ℕ)). HasRead (g.S.Store.disk c.args.store.now).files (lists ++ map (list_at c.args.metadata.now) ps) c.loop-path.reached) whole (c.loop-path.invariant.read told lists at has).1

pub returns-in_err-reached-clause-refused : goal.returns-in_err-reached-clause-refused
returns-in_err-reached-clause-refused g c told lists at has =
    let files = (g.S.Store.disk c.args.store.now).files in
    let m = c.args.metadata.now in
    let paths = c.args.paths.now in
    let i = c.loop-path.path-index in
    let p = c.path-item.result in
    let so_far = c.loop-path.invariant in
    let P : SweepError → Type 0 = IsListRefused files m p in
    let Q : SweepError → Type 0 = IsOneRefused files m paths in
    let exit = err_from_is_err_and c.from_residual.result c.from_residual.ensures.1 in
    let here = subst (λ (d : Disk). HasCause (IsListRefused d.files m p) exit.0) (so_far.only told).disk (subst (HasCause (IsListRefused (g.S.Store.disk c.loop-path.store).files m p)) (sym exit.2) (c.in_err-reached.ensures.refused told)) in
    subst (λ (r : Result Reached SweepError). IfErr r (HasCause Q)) (sym exit.1)
    (cause_weaker P Q (λ e refused. one_refused files lists m paths i p c.loop-path.reached (so_far.read told lists at has).1 c.loop-path-test.true c.path-item.is e refused) exit.0 here)

pub returns-in_err-reached-clause-only_reads : goal.returns-in_err-reached-clause-only_reads
returns-in_err-reached-clause-only_reads g c told =
    reading_further g.S.Store c.args.store.now c.loop-path.store c.with_list.new.store c.loop-path.invariant.only (λ t. c.with_list.ensures.only_reads t) told
