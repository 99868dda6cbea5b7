use Rattle.std.proofs.Common.{◌≡◌, ◌≤◌, ℕ, ◌+◌, true, false, Some, Err, Result, List, [], ◌∷◌, append-nil, length, take, drop, inr, ⊎_elim, refl, sym, ◌∙◌, ap, subst, arith, rules}
use Rattle.std.proofs.lemmas.List.{take_all}
use Rattle.std.proofs.lemmas.Option.{slice_get-get_or}
use Rattle.std.proofs.lemmas.Result.{err_from_is_err_and}
use Rattle.std.specs.Prelude.{IfErr, slice_get}
use Rattle.std.specs.Option.{option_copied}
use Rattle.lake_basics.specs.declared.limits.TheConstants.{MAX_FILE_BYTES}
use Rattle.lake_store.specs.Disk.{Disk, Files}
use Rattle.lake_store.proofs.ShortLaws.{short_same}
use Rattle.lake_store.proofs.RunLaws.{alone_by_reading, reading_begins, reading_further}
use Rattle.table_history.specs.declared.table.Commit.{Commit}
use Rattle.target_core.specs.Following.{Follows}
use Rattle.target_core.specs.OwnFiles.{MayNotTouch}
use Rattle.target_core.specs.Progress.{IsRefusedAt}
use Rattle.target_core.specs.Refusals.{IsCommitRefusal}
use Rattle.target_core.specs.TargetMeanings.{meaning}
use Rattle.target_core.specs.Views.{Origin, origin_of, standing_at}
use Rattle.target_core.specs.Written.{AreWritten, HaveLeft}
use Rattle.target_core.specs.declared.target.TargetError.{TargetError}
use Rattle.target_core.proofs.Along.{can_here, fits_here, fails_further, more_before, refused_in, stays_further, uncontested_further}
use Rattle.target_core.proofs.Same.{same_refl}
use Rattle.target_core.proofs.Steps.{gained_on, stopped_on, advanced_take, all_on, before_on, count_taken, kept_on, refused_on, under_way_more, under_way_none}
use Rattle.target_core.proofs.Writing.{written_take}
use Rattle.target_core.proofs.in_order.follow.Goals as goal

-- nothing is published yet, and a crash leaves a settled target as it reads
pub loop-commit-init : goal.loop-commit-init
loop-commit-init g c =
    let target = g.T.Target in
    let law = g.met.T.Target in
    let store = g.S.Store in
    let t = c.args.target.now in
    let s = c.args.store.now in
    let start = target.view t c.args.kept.now in
    let origin : Origin = origin_of c.args.source (option_copied c.args.table) in
    let reading = reading_begins store g.met.S.Store.only_now s in
    record {
      own = λ told. record { alone = alone_by_reading store (MayNotTouch (target.kind t)) s s (reading told); short = short_same MAX_FILE_BYTES (store.disk s).files (store.disk s).files refl };
      none = λ told none. reading told;
      view = same_refl start;
      source = c.requires.source;
      can = c.requires.can;
      fits = c.requires.fits;
      counted = c.requires.counted;
      stands = λ told was settled. was;
      under_way = λ told was settled. under_way_none store (meaning target t) origin start c.args.commits.now g.met.S.Store.only_now s told settled
          (λ files may.
          let reads = law.kept_view t c.args.kept.now (store.disk s).files was in (
            law.crash_reads t (store.disk s) files start settled (λ path own clean. may path clean) reads,
            λ n change standing le carries. law.crash_carries t (store.disk s) files start n change standing settled (λ path own clean. may path clean) reads le carries,
            law.crash_settled t (store.disk s) files settled (λ path own clean. may path clean),
          ));
      written = λ told was settled. (refl, refl);
      ahead = λ told commits which number was. was;
      cause = record { later = omega arith; still = λ m. m; rose = λ never. absurd never; allowed = λ never. absurd never };
      contest = record { same = refl; still = λ m. m; never = λ never. never };
    }

pub commit-requires-clause-can : goal.commit-requires-clause-can
commit-requires-clause-can g c =
    let target = g.T.Target in
    let t = c.args.target.now in
    let i = c.loop-commit.commit-index in
    let commit : Commit = c.commit-item.result in
    let origin : Origin = origin_of c.args.source (option_copied c.args.table) in
    let at : slice_get c.args.commits.now i ≡ Some commit = slice_get-get_or c.args.commits.now i commit c.loop-commit-test.true ∙ ap (λ (x : Commit). Some x) (sym c.commit-item.is) in
    (can_here (target.image t) origin (target.view t c.loop-commit.kept) c.args.commits.now i commit at c.loop-commit.invariant.can).0

pub commit-requires-clause-fits : goal.commit-requires-clause-fits
commit-requires-clause-fits g c =
    let target = g.T.Target in
    let t = c.args.target.now in
    let i = c.loop-commit.commit-index in
    let commit : Commit = c.commit-item.result in
    let partition = (target.view t c.loop-commit.kept).table.partition in
    let at : slice_get c.args.commits.now i ≡ Some commit = slice_get-get_or c.args.commits.now i commit c.loop-commit-test.true ∙ ap (λ (x : Commit). Some x) (sym c.commit-item.is) in
    g.met.T.Target.fits_first t c.loop-commit.kept partition commit (drop (i + 1) c.args.commits.now)
    (fits_here (target.unfit t c.loop-commit.kept) partition c.args.commits.now i commit at c.loop-commit.invariant.fits)

pub loop-commit-preserved : goal.loop-commit-preserved
loop-commit-preserved g c =
    let target = g.T.Target in
    let law = g.met.T.Target in
    let store = g.S.Store in
    let t = c.args.target.now in
    let s = c.args.store.now in
    let mid = c.loop-commit.store in
    let so_far = c.loop-commit.invariant in
    let start = target.view t c.args.kept.now in
    let here = target.view t c.loop-commit.kept in
    let next = target.view t c.commit.new.kept in
    let i = c.loop-commit.commit-index in
    let step = c.in_ok-commit.ensures in
    let commit : Commit = c.commit-item.result in
    let commits : List Commit = c.args.commits.now in
    let origin : Origin = origin_of c.args.source (option_copied c.args.table) in
    let at : slice_get commits i ≡ Some commit = slice_get-get_or commits i commit c.loop-commit-test.true ∙ ap (λ (x : Commit). Some x) (sym c.commit-item.is) in
    record {
      own = stays_further store (target.kind t) s mid c.commit.new.store so_far.own step.own;
      none = λ told none. absurd (omega (arith, none));
      view = advanced_take (target.image t) origin start commits i here commit next at so_far.view step.goes_on.advanced;
      can = (can_here (target.image t) origin here commits i commit at so_far.can).1 next step.goes_on.advanced;
      source = inr (standing_at origin commit.position, step.goes_on.advanced.mark, refl);
      fits = step.goes_on.fits (drop (i + 1) commits) (fits_here (target.unfit t c.loop-commit.kept) here.table.partition commits i commit at so_far.fits);
      counted = step.goes_on.counts;
      stands = λ told was settled. (step.publishes told (so_far.stands told was settled) (so_far.under_way told was settled).settled).stands tt;
      under_way = λ told was settled.
          let way = so_far.under_way told was settled in
          under_way_more store (meaning target t) origin start commits i here s mid c.commit.new.store way commit at (Unit {0}) true
          (step.publishes told (so_far.stands told was settled) way.settled).publishes told (law.reached_stays t) tt refl next step.goes_on.advanced;
      written = λ told was settled.
          let settled_here = (so_far.under_way told was settled).settled in
          let stands_here = so_far.stands told was settled in
          written_take (target.stands_for t) (λ kept before commit after. target.writes t kept before origin c.args.now_ms commit after) c.args.kept.now (store.disk s).files commits i c.loop-commit.kept (store.disk mid).files commit
          c.commit.new.kept (store.disk c.commit.new.store).files at (so_far.written told was settled) (step.writes told stands_here) ((step.publishes told stands_here settled_here).stands tt);
      ahead = λ told cs which number was.
          subst (λ (xs : List Commit). target.passes t c.args.kept.now (store.disk s).files origin c.args.now_ms xs which number) (more_before commits i commit at cs)
          (so_far.ahead told (commit ∷ cs) which number (step.goes_on.ahead told cs which number was));
      cause = fails_further store.faults store.may_fail s mid c.commit.new.store _ so_far.cause step.refuses.cause;
      contest = uncontested_further store.contests store.may_contest s mid c.commit.new.store _ so_far.contest step.refuses.contest (λ contested. cc);
    }

pub returns-in_err-commit-clause-own : goal.returns-in_err-commit-clause-own
returns-in_err-commit-clause-own g c = stays_further g.S.Store (g.T.Target.kind c.args.target.now) c.args.store.now c.loop-commit.store c.commit.new.store c.loop-commit.invariant.own c.in_err-commit.ensures.own

pub returns-in_err-commit-clause-publishes : goal.returns-in_err-commit-clause-publishes
returns-in_err-commit-clause-publishes g c told was settled =
    let target = g.T.Target in
    let store = g.S.Store in
    let t = c.args.target.now in
    let s = c.args.store.now in
    let so_far = c.loop-commit.invariant in
    let start = target.view t c.args.kept.now in
    let i = c.loop-commit.commit-index in
    let commit : Commit = c.commit-item.result in
    let commits : List Commit = c.args.commits.now in
    let origin : Origin = origin_of c.args.source (option_copied c.args.table) in
    let at : slice_get commits i ≡ Some commit = slice_get-get_or commits i commit c.loop-commit-test.true ∙ ap (λ (x : Commit). Some x) (sym c.commit-item.is) in
    let exit = err_from_is_err_and c.from_residual.result c.from_residual.ensures.1 in
    let way = so_far.under_way told was settled in
    let one = c.in_err-commit.ensures.publishes told (so_far.stands told was settled) way.settled in
    subst (λ (r : Result ℕ TargetError). Follows target t store origin c.args.now_ms c.args.kept.now commits c.commit.new.kept r s c.commit.new.store) (sym exit.1)
    (record {
      stands = tt;
      publishes = refused_on store (meaning target t) origin start commits i (target.view t c.loop-commit.kept) s c.loop-commit.store c.commit.new.store way commit at _ false
          one.publishes told (g.met.T.Target.reached_stays t) _ (λ uncontested e. uncontested (exit.2 ∙ e));
      written = tt;
      shown = kept_on store (meaning target t) origin start commits i (target.view t c.loop-commit.kept) s c.loop-commit.store c.commit.new.store way commit at _ false
          one.publishes told (g.met.T.Target.reached_stays t) (g.met.T.Target.carries_within t)
          exit.0 (λ free e. free (exit.2 ∙ e)) (λ is. one.kept (ap (λ (e : TargetError). Err e) (sym exit.2 ∙ is)));
    })

pub returns-in_err-commit-clause-refusal : goal.returns-in_err-commit-clause-refusal
returns-in_err-commit-clause-refusal g c told =
    let target = g.T.Target in
    let store = g.S.Store in
    let t = c.args.target.now in
    let s = c.args.store.now in
    let so_far = c.loop-commit.invariant in
    let start = target.view t c.args.kept.now in
    let here = target.view t c.loop-commit.kept in
    let i = c.loop-commit.commit-index in
    let commit : Commit = c.commit-item.result in
    let commits : List Commit = c.args.commits.now in
    let origin : Origin = origin_of c.args.source (option_copied c.args.table) in
    let at : slice_get commits i ≡ Some commit = slice_get-get_or commits i commit c.loop-commit-test.true ∙ ap (λ (x : Commit). Some x) (sym c.commit-item.is) in
    let exit = err_from_is_err_and c.from_residual.result c.from_residual.ensures.1 in
    let files = (store.disk s).files in
    let Settled : Type 0 = target.stands_for t c.args.kept.now files × target.settled t (store.disk s) in
    let left : List Commit → Files → Type 0 = HaveLeft (target.stands_for t) (λ kept before commit after. target.writes t kept before origin c.args.now_ms commit after) c.args.kept.now files in
    let Refused : TargetError → Type 0 = IsRefusedAt store (meaning target t) (target.passes t c.args.kept.now files origin c.args.now_ms) left Settled origin start commits s c.commit.new.store in
    subst (λ (r : Result ℕ TargetError). IfErr r Refused) (sym exit.1)
    (record {
      place = i;
      within = c.loop-commit-test.true;
      cause = subst (λ (e : TargetError). IsCommitRefusal (target.passes t c.args.kept.now files origin c.args.now_ms (take (i + 1) commits)) e) (sym exit.2)
          (refused_in (target.passes t c.loop-commit.kept (store.disk c.loop-commit.store).files origin c.args.now_ms (commit ∷ [])) (target.passes t c.args.kept.now files origin c.args.now_ms (take (i + 1) commits)) _
          (λ which number passed. subst (λ (cs : List Commit). target.passes t c.args.kept.now files origin c.args.now_ms cs which number) (more_before commits i commit at [] ∙ append-nil (take (i + 1) commits))
          (so_far.ahead told (commit ∷ []) which number passed))
          (c.in_err-commit.ensures.refuses.refusal told));
      before = λ was.
          let way = so_far.under_way told was.0 was.1 in
          before_on store (meaning target t) origin start commits i here s c.loop-commit.store c.commit.new.store way commit at _ false
          (c.in_err-commit.ensures.publishes told (so_far.stands told was.0 was.1) way.settled).publishes told (g.met.T.Target.reached_stays t);
      stay = λ was. record {
        middle = c.loop-commit.store;
        left = (c.loop-commit.kept, so_far.written told was.0 was.1);
        stay = (c.in_err-commit.ensures.publishes told (so_far.stands told was.0 was.1) (so_far.under_way told was.0 was.1).settled).publishes.bytes;
      };
      gained = λ was uncontested.
          let way = so_far.under_way told was.0 was.1 in
          let step = c.in_err-commit.ensures.publishes told (so_far.stands told was.0 was.1) way.settled in
          ⊎_elim
          (λ before. (
            i,
            omega arith,
            omega arith,
            before,
            (
              (store.disk c.loop-commit.store).files,
              (c.loop-commit.kept, so_far.written told was.0 was.1),
              λ path reached. step.publishes.bytes.disk.files path reached,
            ),
          ))
          (λ after.
          let like = step.came ((λ e. uncontested (exit.2 ∙ e)), after.1) in (
            i + 1,
            omega arith,
            omega arith,
            after.0,
            (
              like.0,
              (
                c.commit.new.kept,
                written_take (target.stands_for t) (λ kept before commit after. target.writes t kept before origin c.args.now_ms commit after) c.args.kept.now files commits i c.loop-commit.kept (store.disk c.loop-commit.store).files commit
                    c.commit.new.kept like.0 at (so_far.written told was.0 was.1) like.1.0 like.1.1,
              ),
              like.2,
            ),
          ))
          (gained_on store (meaning target t) origin start commits i here s c.loop-commit.store c.commit.new.store way commit at _ false
          step.publishes told (g.met.T.Target.reached_stays t) (g.met.T.Target.commits_read t) (λ e. uncontested (exit.2 ∙ e)));
      contested = λ was is.
          let way = so_far.under_way told was.0 was.1 in
          let few : target.commits_in t (store.disk c.commit.new.store).files ≤ here.commits + 1 = (c.in_err-commit.ensures.publishes told (so_far.stands told was.0 was.1) way.settled).contested (ap (λ (e : TargetError). Err e) (sym exit.2 ∙ is)) in
          let here_is : here.commits ≡ start.commits + i = count_taken (target.image t) origin start commits i here so_far.view way.within in
          omega (arith, few, here_is);
      theirs = λ was is. record {
        came = c.in_err-commit.ensures.refuses.contest.rose (ap (λ (e : TargetError). Err e) (sym exit.2 ∙ is));
        stay = (c.in_err-commit.ensures.publishes told (so_far.stands told was.0 was.1) (so_far.under_way told was.0 was.1).settled).theirs (ap (λ (e : TargetError). Err e) (sym exit.2 ∙ is));
      };
      limited = λ was which number is.
          let way = so_far.under_way told was.0 was.1 in
          stopped_on store (meaning target t) origin start commits i here s c.loop-commit.store c.commit.new.store way commit at _ false
          (c.in_err-commit.ensures.publishes told (so_far.stands told was.0 was.1) way.settled).publishes told (g.met.T.Target.reached_stays t)
          ((c.in_err-commit.ensures.publishes told (so_far.stands told was.0 was.1) way.settled).limited which number (ap (λ (e : TargetError). Err e) (sym exit.2 ∙ is)));
      untouched = λ was which number is other.
          let reads = c.in_err-commit.ensures.refuses.untouched told which number (ap (λ (e : TargetError). Err e) (sym exit.2 ∙ is)) other in (
            c.loop-commit.kept,
            subst
                (λ (d : Disk).
                AreWritten (target.stands_for t) (λ kept before commit after. target.writes t kept before origin c.args.now_ms commit after) c.args.kept.now files (take i commits) c.loop-commit.kept d.files)
                (sym reads.disk) (so_far.written told was.0 was.1),
          );
      unmoved = λ which number is other none.
          reading_further store s c.loop-commit.store c.commit.new.store (λ told. so_far.none told none)
          (λ told. c.in_err-commit.ensures.refuses.untouched told which number (ap (λ (e : TargetError). Err e) (sym exit.2 ∙ is)) other) told;
    })

pub returns-in_err-commit-clause-cause : goal.returns-in_err-commit-clause-cause
returns-in_err-commit-clause-cause g c = let run = c.loop-commit.invariant.cause in let call = c.in_err-commit.ensures.refuses.cause in search rules

pub returns-in_err-commit-clause-contest : goal.returns-in_err-commit-clause-contest
returns-in_err-commit-clause-contest g c = let run = c.loop-commit.invariant.contest in let call = c.in_err-commit.ensures.refuses.contest in search rules

pub returns-clause-publishes : goal.returns-clause-publishes
returns-clause-publishes g c told was settled =
    let target = g.T.Target in
    let store = g.S.Store in
    let t = c.args.target.now in
    let so_far = c.loop-commit.invariant in
    let start = target.view t c.args.kept.now in
    let origin : Origin = origin_of c.args.source (option_copied c.args.table) in
    let stands = so_far.stands told was settled in
    let whole : c.loop-commit.commit-index ≡ length c.args.commits.now = omega arith in
    let end : length c.args.commits.now ≤ c.loop-commit.commit-index = omega arith in
    record {
      stands = stands;
      publishes = all_on store (meaning target t) origin start c.args.commits.now told c.loop-commit.commit-index (target.view t c.loop-commit.kept) c.args.store.now c.loop-commit.store whole (so_far.under_way told was settled)
          (g.met.T.Target.kept_view t c.loop-commit.kept (store.disk c.loop-commit.store).files stands) (Unit {0});
      written = subst (λ (cs : List Commit). AreWritten (target.stands_for t) (λ kept before commit after. target.writes t kept before origin c.args.now_ms commit after) c.args.kept.now (store.disk c.args.store.now).files cs
          c.loop-commit.kept (store.disk c.loop-commit.store).files) (take_all c.loop-commit.commit-index c.args.commits.now end) (so_far.written told was settled);
      shown = tt;
    }
