use Rattle.std.proofs.Common.{◌≡◌, ◌∙◌, ℕ, suc, Bool, true, List, [], ◌∷◌, Err, refl, sym, ap, subst, arith, rules}
use Rattle.std.specs.Prelude.{IsErrOf, is_ok, length, ◌≤◌}
use Rattle.std.specs.Option.{option_copied}
use Rattle.std.proofs.lemmas.Result.{err_from_is_err_and}
use Rattle.lake_basics.specs.declared.limits.TheConstants.{MAX_FILE_BYTES}
use Rattle.lake_store.proofs.RunLaws.{alone_by_reading, reading_begins}
use Rattle.lake_store.proofs.ShortLaws.{short_same}
use Rattle.delta_table.specs.Versions.{IsVersionPath}
use Rattle.table_history.specs.declared.kind.Kind.TheVariants.{Delta}
use Rattle.table_history.specs.declared.limit.LimitKind.TheVariants.{File}
use Rattle.target_core.specs.Outcome.{Uncontested, answer_of}
use Rattle.target_core.specs.OwnFiles.{MayNotTouch}
use Rattle.target_core.specs.Publishing.{Publishes}
use Rattle.target_core.specs.Views.{Origin, origin_of}
use Rattle.target_core.specs.declared.target.TargetError.TheVariants.{Contested}
use Rattle.target_core.proofs.Come.{come_later, come_uncontested, never_come}
use Rattle.target_core.proofs.StoreAnswers.{contested_by, err_same, not_ok, untaken_by}
use Rattle.target_delta.specs.CountLemmas.{count_is}
use Rattle.target_delta.specs.DeltaMeaning.{delta_meaning}
use Rattle.target_delta.specs.Kept.{end_of, view_of}
use Rattle.target_delta.specs.KeptLemmas.{versions_of_reads}
use Rattle.target_delta.specs.Names.{HasVersions, IsStagedPath}
use Rattle.target_delta.specs.NewVersion.{IsNewVersion}
use Rattle.target_delta.specs.Reading.{commits_in}
use Rattle.target_delta.specs.Writing.{LogEnd}
use Rattle.target_delta.proofs.CommitLemmas.{fits_behind, free_path, stands_now}
use Rattle.target_delta.proofs.StoreLemmas.{as_left, as_left_come, beside_now, count_taken, counted_now, kept_taken, ok_taken, publishes_nothing, publishes_staged, stands_come, theirs_taken, touches_staged, unlimited_by, writes_now}
use Rattle.target_delta.proofs.target.DeltaTargetTarget.commit.Goals as goal

pub returns-in_err-version-clause-own : goal.returns-in_err-version-clause-own
returns-in_err-version-clause-own g c told =
    let store = g.S.Store in
    let s = c.args.store.now in
    record { alone = alone_by_reading store (MayNotTouch Delta) s s (reading_begins store g.met.S.Store.only_now s told); short = short_same MAX_FILE_BYTES (store.disk s).files (store.disk s).files refl }

pub returns-in_err-version-clause-publishes : goal.returns-in_err-version-clause-publishes
returns-in_err-version-clause-publishes g c told stands settled =
    let id = c.args.self.now.id in
    let kept = c.args.kept.now in
    let s = c.args.store.now in
    let files = (g.S.Store.disk s).files in
    let origin : Origin = origin_of c.args.source (option_copied c.args.table) in
    let result = c.from_residual.result in
    let exit = err_from_is_err_and result c.from_residual.ensures.1 in
    let count = count_is files kept.commits (versions_of_reads files (view_of kept) stands.reads) in
    record {
      stands = never_come result exit.0 kept.commits (commits_in files) exit.1 (omega (arith, count));
      publishes = subst (λ (done : Bool). Publishes g.S.Store (delta_meaning id) origin (view_of kept) (c.args.commit.now ∷ []) (Uncontested result) done s s) (sym (ap is_ok exit.1))
          (publishes_nothing g.S.Store g.met.S.Store.only_now s told id origin kept c.args.commit.now stands settled (Uncontested result));
      came = never_come result exit.0 kept.commits (commits_in files) exit.1 (omega (arith, count));
      contested = λ is. omega (arith, count);
      kept = λ is. search rules;
      theirs = λ is. search rules;
      limited = λ which number is. stands.reads;
    }

pub returns-in_err-version-clause-refuses : goal.returns-in_err-version-clause-refuses
returns-in_err-version-clause-refuses g c = record {
  refusal = search rules;
  few = search rules;
  untouched = λ told which number is other. reading_begins g.S.Store g.met.S.Store.only_now c.args.store.now told;
  cause = search rules;
  contest = search rules;
}

pub stage_and_publish-requires-clause-free : goal.stage_and_publish-requires-clause-free
stage_and_publish-requires-clause-free g c told =
    let kept = c.args.kept.now in
    let named = subst (λ p. IsVersionPath p kept.commits) (sym c.as_str-path.ensures.value) c.in_ok-version.ensures.path in
    free_path (g.S.Store.disk c.args.store.now).files c.as_str-path.result.now kept.commits named (c.requires.counted told)

pub returns-in_err-stage_and_publish-clause-own : goal.returns-in_err-stage_and_publish-clause-own
returns-in_err-stage_and_publish-clause-own g c told =
    let store = g.S.Store in
    let kept = c.args.kept.now in
    let next = c.new_version.new.kept in
    let old = c.args.store.now in
    let new = c.stage_and_publish.new.store in
    let staged = c.as_str-staged.result.now in
    let name = c.as_str-path.result.now in
    let bytes = c.as_slice.result.now in
    let origin : Origin = origin_of c.args.source (option_copied c.args.table) in
    let is_staged = subst (λ p. IsStagedPath p kept.commits) (sym c.as_str-staged.ensures.value) c.in_ok-version.ensures.staged in
    let named = subst (λ p. IsVersionPath p kept.commits) (sym c.as_str-path.ensures.value) c.in_ok-version.ensures.path in
    let v = subst (λ b. IsNewVersion origin c.args.now_ms kept c.args.commit.now b next) (sym c.as_slice.ensures.value) c.in_ok-version.ensures.is in
    record {
      alone = touches_staged store old new told staged name bytes kept.commits is_staged named _ (c.in_err-stage_and_publish.ensures.left told) c.in_err-stage_and_publish.ensures.any_moment;
      short = c.in_err-stage_and_publish.ensures.short told (subst (λ (b : List ℕ). length b ≤ MAX_FILE_BYTES) (sym c.as_slice.ensures.value) c.in_ok-version.ensures.short);
    }

pub returns-in_err-stage_and_publish-clause-publishes : goal.returns-in_err-stage_and_publish-clause-publishes
returns-in_err-stage_and_publish-clause-publishes g c told stands settled =
    let id = c.args.self.now.id in
    let store = g.S.Store in
    let kept = c.args.kept.now in
    let next = c.new_version.new.kept in
    let old = c.args.store.now in
    let new = c.stage_and_publish.new.store in
    let staged = c.as_str-staged.result.now in
    let name = c.as_str-path.result.now in
    let bytes = c.as_slice.result.now in
    let origin : Origin = origin_of c.args.source (option_copied c.args.table) in
    let is_staged = subst (λ p. IsStagedPath p kept.commits) (sym c.as_str-staged.ensures.value) c.in_ok-version.ensures.staged in
    let named = subst (λ p. IsVersionPath p kept.commits) (sym c.as_str-path.ensures.value) c.in_ok-version.ensures.path in
    let v = subst (λ b. IsNewVersion origin c.args.now_ms kept c.args.commit.now b next) (sym c.as_slice.ensures.value) c.in_ok-version.ensures.is in
    let result = c.from_residual-in_err-stage_and_publish.result in
    let exit = err_from_is_err_and result c.from_residual-in_err-stage_and_publish.ensures.1 in
    let error = c.in_err-stage_and_publish.field-0.0 in
    let count = commits_in (store.disk new).files in
    let is_taken = λ (is : IsErrOf result Contested). c.in_err-stage_and_publish.ensures.taken told (ap (λ e. Err e) (contested_by result exit.0 error exit.1 exit.2 is)) in
    record {
      stands = λ come. stands_come store old new told staged name bytes kept.commits is_staged named _ (c.in_err-stage_and_publish.ensures.left told) c.in_err-stage_and_publish.ensures.any_moment id origin c.args.now_ms kept next c.args.commit.now refl v c.requires.can c.requires.fits stands settled
          (λ taken. untaken_by result exit.0 error exit.1 exit.2 (come_uncontested result kept.commits count come) (err_same error taken)) (come_later result exit.0 kept.commits count exit.1 come);
      publishes = publishes_staged store old new told staged name bytes kept.commits is_staged named _ (c.in_err-stage_and_publish.ensures.left told) c.in_err-stage_and_publish.ensures.any_moment id origin c.args.now_ms kept next c.args.commit.now refl v c.requires.can c.requires.fits stands settled
          (Uncontested result) (λ u taken. untaken_by result exit.0 error exit.1 exit.2 u (err_same error taken)) (is_ok result) (λ ok. absurd (not_ok result exit.0 exit.1 ok));
      came = λ come. as_left_come store old new told staged name bytes kept.commits is_staged named _ (c.in_err-stage_and_publish.ensures.left told) c.in_err-stage_and_publish.ensures.any_moment id origin c.args.now_ms kept next c.args.commit.now refl v c.requires.can c.requires.fits stands settled
          (λ taken. untaken_by result exit.0 error exit.1 exit.2 (come_uncontested result kept.commits count come) (err_same error taken)) (come_later result exit.0 kept.commits count exit.1 come);
      contested = λ is. count_taken store old new told staged name bytes kept.commits is_staged named _ (c.in_err-stage_and_publish.ensures.left told) c.in_err-stage_and_publish.ensures.any_moment (c.requires.counted told) v.within (is_taken is).theirs (is_taken is).file;
      kept = λ is. kept_taken store old new told staged name bytes kept.commits is_staged named _ (c.in_err-stage_and_publish.ensures.left told) c.in_err-stage_and_publish.ensures.any_moment id origin c.args.now_ms kept next c.args.commit.now refl v c.requires.can c.requires.fits stands settled
          (is_taken is).theirs (is_taken is).file (is_taken is).moments;
      theirs = λ is. theirs_taken store old new told staged name bytes kept.commits is_staged named _ (c.in_err-stage_and_publish.ensures.left told) c.in_err-stage_and_publish.ensures.any_moment id origin c.args.now_ms kept next c.args.commit.now refl v c.requires.can c.requires.fits stands settled
          (is_taken is).theirs (is_taken is).file (is_taken is).moments;
      limited = λ which number is. absurd (unlimited_by result exit.0 error which number exit.1 exit.2 (λ n long. c.in_err-stage_and_publish.ensures.not_too_long n (ap (λ e. Err e) long)) is);
    }

pub returns-in_err-stage_and_publish-clause-refuses : goal.returns-in_err-stage_and_publish-clause-refuses
returns-in_err-stage_and_publish-clause-refuses g c =
    let result = c.from_residual-in_err-stage_and_publish.result in
    let exit = err_from_is_err_and result c.from_residual-in_err-stage_and_publish.ensures.1 in
    let error = c.in_err-stage_and_publish.field-0.0 in
    let contest = c.in_err-stage_and_publish.ensures.contest in
    let taken_by = λ (is : IsErrOf result Contested). ap (λ e. Err e) (contested_by result exit.0 error exit.1 exit.2 is) in
    record {
      refusal = search rules;
      few = search rules;
      untouched = λ told which number is other. absurd (unlimited_by result exit.0 error which number exit.1 exit.2 (λ n long. c.in_err-stage_and_publish.ensures.not_too_long n (ap (λ e. Err e) long)) is);
      cause = search rules;
      contest = record {
        later = contest.later;
        still = contest.still;
        rose = λ is. contest.rose (taken_by is);
        allowed = λ is. contest.allowed (taken_by is);
        same = λ never. contest.same (λ taken. never (exit.1 ∙ ap (λ e. Err e) (exit.2 ∙ ap (answer_of File MAX_FILE_BYTES) (err_same error taken))));
      };
    }

pub returns-clause-own : goal.returns-clause-own
returns-clause-own g c told =
    let store = g.S.Store in
    let kept = c.args.kept.now in
    let next = c.new_version.new.kept in
    let old = c.args.store.now in
    let new = c.stage_and_publish.new.store in
    let staged = c.as_str-staged.result.now in
    let name = c.as_str-path.result.now in
    let bytes = c.as_slice.result.now in
    let origin : Origin = origin_of c.args.source (option_copied c.args.table) in
    let is_staged = subst (λ p. IsStagedPath p kept.commits) (sym c.as_str-staged.ensures.value) c.in_ok-version.ensures.staged in
    let named = subst (λ p. IsVersionPath p kept.commits) (sym c.as_str-path.ensures.value) c.in_ok-version.ensures.path in
    let v = subst (λ b. IsNewVersion origin c.args.now_ms kept c.args.commit.now b next) (sym c.as_slice.ensures.value) c.in_ok-version.ensures.is in
    record {
      alone = touches_staged store old new told staged name bytes kept.commits is_staged named _ (c.in_ok-stage_and_publish.ensures.left told) c.in_ok-stage_and_publish.ensures.any_moment;
      short = c.in_ok-stage_and_publish.ensures.short told (subst (λ (b : List ℕ). length b ≤ MAX_FILE_BYTES) (sym c.as_slice.ensures.value) c.in_ok-version.ensures.short);
    }

pub returns-clause-goes_on : goal.returns-clause-goes_on
returns-clause-goes_on g c =
    let store = g.S.Store in
    let kept = c.args.kept.now in
    let next = c.new_version.new.kept in
    let old = c.args.store.now in
    let new = c.stage_and_publish.new.store in
    let staged = c.as_str-staged.result.now in
    let name = c.as_str-path.result.now in
    let bytes = c.as_slice.result.now in
    let origin : Origin = origin_of c.args.source (option_copied c.args.table) in
    let is_staged = subst (λ p. IsStagedPath p kept.commits) (sym c.as_str-staged.ensures.value) c.in_ok-version.ensures.staged in
    let named = subst (λ p. IsVersionPath p kept.commits) (sym c.as_str-path.ensures.value) c.in_ok-version.ensures.path in
    let v = subst (λ b. IsNewVersion origin c.args.now_ms kept c.args.commit.now b next) (sym c.as_slice.ensures.value) c.in_ok-version.ensures.is in
    let count : suc kept.commits ≡ next.commits = omega (arith, ap (λ (e : LogEnd). e.version) v.end) in
    record {
      advanced = search rules;
      fits = fits_behind origin c.args.now_ms kept next c.args.commit.now bytes v;
      counts = λ told. subst (λ (n : ℕ). HasVersions (store.disk new).files n) count
          (counted_now store old new told staged name bytes kept.commits is_staged named _ (c.in_ok-stage_and_publish.ensures.left told) c.in_ok-stage_and_publish.ensures.any_moment (c.requires.counted told) v.within bytes (c.in_ok-stage_and_publish.ensures.published told).file);
      ahead = λ told. search rules;
    }

pub returns-clause-publishes : goal.returns-clause-publishes
returns-clause-publishes g c told stands settled =
    let id = c.args.self.now.id in
    let store = g.S.Store in
    let kept = c.args.kept.now in
    let next = c.new_version.new.kept in
    let old = c.args.store.now in
    let new = c.stage_and_publish.new.store in
    let staged = c.as_str-staged.result.now in
    let name = c.as_str-path.result.now in
    let bytes = c.as_slice.result.now in
    let origin : Origin = origin_of c.args.source (option_copied c.args.table) in
    let is_staged = subst (λ p. IsStagedPath p kept.commits) (sym c.as_str-staged.ensures.value) c.in_ok-version.ensures.staged in
    let named = subst (λ p. IsVersionPath p kept.commits) (sym c.as_str-path.ensures.value) c.in_ok-version.ensures.path in
    let v = subst (λ b. IsNewVersion origin c.args.now_ms kept c.args.commit.now b next) (sym c.as_slice.ensures.value) c.in_ok-version.ensures.is in
    let file = (c.in_ok-stage_and_publish.ensures.published told).file in
    record {
      stands = λ come. stands_now origin c.args.now_ms kept next c.args.commit.now bytes v c.requires.can c.requires.fits id (store.disk old).files stands name named (store.disk new).files
          (beside_now store old new told staged name bytes kept.commits is_staged named _ (c.in_ok-stage_and_publish.ensures.left told) c.in_ok-stage_and_publish.ensures.any_moment (c.requires.counted told)) file;
      publishes = publishes_staged store old new told staged name bytes kept.commits is_staged named _ (c.in_ok-stage_and_publish.ensures.left told) c.in_ok-stage_and_publish.ensures.any_moment id origin c.args.now_ms kept next c.args.commit.now refl v c.requires.can c.requires.fits stands settled
          _ (λ u taken. ok_taken _ _ taken) true (λ ok. file);
      came = λ come. as_left store old new told staged name bytes kept.commits is_staged named _ (c.in_ok-stage_and_publish.ensures.left told) c.in_ok-stage_and_publish.ensures.any_moment id origin c.args.now_ms kept next c.args.commit.now refl v c.requires.can c.requires.fits stands settled file;
      contested = λ is. absurd cc;
      kept = λ is. absurd cc;
      theirs = λ is. absurd cc;
      limited = λ which number is. absurd cc;
    }

pub returns-clause-writes : goal.returns-clause-writes
returns-clause-writes g c told stands =
    let store = g.S.Store in
    let kept = c.args.kept.now in
    let next = c.new_version.new.kept in
    let old = c.args.store.now in
    let new = c.stage_and_publish.new.store in
    let staged = c.as_str-staged.result.now in
    let name = c.as_str-path.result.now in
    let bytes = c.as_slice.result.now in
    let origin : Origin = origin_of c.args.source (option_copied c.args.table) in
    let is_staged = subst (λ p. IsStagedPath p kept.commits) (sym c.as_str-staged.ensures.value) c.in_ok-version.ensures.staged in
    let named = subst (λ p. IsVersionPath p kept.commits) (sym c.as_str-path.ensures.value) c.in_ok-version.ensures.path in
    let v = subst (λ b. IsNewVersion origin c.args.now_ms kept c.args.commit.now b next) (sym c.as_slice.ensures.value) c.in_ok-version.ensures.is in
    writes_now (store.disk old) (store.disk new) staged name bytes kept.commits (end_of kept) origin c.args.now_ms c.args.commit.now v.written is_staged named refl (c.in_ok-stage_and_publish.ensures.published told) v.is v.text
