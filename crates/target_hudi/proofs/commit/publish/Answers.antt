use Rattle.std.proofs.Common.{◌≡◌, ◌<◌, ◌≤◌, ℕ, List, refl, Bool, true, false, [], ◌∷◌, sym, ap, subst, ◌∙◌, arith, rules}
use Rattle.std.specs.Prelude.{IfSome, Option, is_ok, length}
use Rattle.std.specs.Option.{option_copied}
use Rattle.std.proofs.lemmas.Result.{err_from_is_err_and}
use Rattle.lake_basics.specs.declared.limits.TheConstants.{MAX_FILE_BYTES, MAX_NAMES}
use Rattle.lake_store.proofs.ShortLaws.{short_same}
use Rattle.lake_store.proofs.RunLaws.{alone_by_reading, reading_begins}
use Rattle.table_history.specs.declared.kind.Kind.TheVariants.{Hudi}
use Rattle.table_history.specs.declared.limit.LimitKind.TheVariants.{Names}
use Rattle.target_core.specs.Outcome.{Uncontested, answer_of}
use Rattle.target_core.specs.OwnFiles.{MayNotTouch}
use Rattle.target_core.specs.Publishing.{Publishes}
use Rattle.target_core.specs.Views.{Origin, origin_of}
use Rattle.target_core.specs.declared.target.TargetError.TheVariants.{Contested}
use Rattle.target_core.proofs.Come.{never_come}
use Rattle.target_core.proofs.StoreAnswers.{contest_too}
use Rattle.target_hudi.specs.HudiMeaning.{hudi_meaning}
use Rattle.target_hudi.specs.Kept.{end_of, view_of}
use Rattle.target_hudi.specs.Reading.{commits_in}
use Rattle.target_hudi.proofs.TimelineLemmas.{free}
use Rattle.target_hudi.proofs.KeepsLemmas.{advanced, fits_behind}
use Rattle.target_hudi.proofs.PublishLemmas.{earlier}
use Rattle.target_hudi.proofs.StoreLemmas.{as_left, come_there, contested_error, counted_now, few_now, kept_taken, limited_by, only_names, orderly_before, passes_ahead, publishes_instant, publishes_nothing, reads_unmoved, ready, refused_by, same_instant, stands_behind, taken_answer, taken_now, theirs_taken, touches_own, writes}
use Rattle.target_hudi.proofs.commit.publish.Goals as goal

pub returns-in_err-new-clause-own : goal.returns-in_err-new-clause-own
returns-in_err-new-clause-own g c told =
    let store = g.S.Store in
    let s = c.args.store.now in
    record { alone = alone_by_reading store (MayNotTouch Hudi) s s (reading_begins store g.met.S.Store.only_now s told); short = short_same MAX_FILE_BYTES (store.disk s).files (store.disk s).files refl }

pub returns-in_err-new-clause-publishes : goal.returns-in_err-new-clause-publishes
returns-in_err-new-clause-publishes g c told stands settled =
    let kept = c.args.kept.now in
    let s = c.args.store.now in
    let files = (g.S.Store.disk s).files in
    let origin : Origin = origin_of c.args.source (option_copied c.args.table) in
    let result = c.from_residual.result in
    let exit = err_from_is_err_and result c.from_residual.ensures.1 in
    let count = (c.requires.counted told).commits in
    record {
      stands = never_come result exit.0 kept.commits (commits_in files) exit.1 (omega (arith, count));
      publishes = subst (λ (done : Bool). Publishes g.S.Store hudi_meaning origin (view_of kept) (c.args.commit.now ∷ []) (Uncontested result) done s s) (sym (ap is_ok exit.1))
          (publishes_nothing g.S.Store g.met.S.Store.only_now s told origin kept c.args.commit.now stands settled (Uncontested result));
      came = never_come result exit.0 kept.commits (commits_in files) exit.1 (omega (arith, count));
      contested = λ is. omega (arith, count);
      kept = λ is. search rules;
      theirs = λ is. search rules;
      limited = λ which number is. search rules;
    }

pub returns-in_err-new-clause-refuses : goal.returns-in_err-new-clause-refuses
returns-in_err-new-clause-refuses g c = record {
  refusal = search rules;
  few = search rules;
  untouched = λ told which number limited other. reading_begins g.S.Store g.met.S.Store.only_now c.args.store.now told;
  cause = search rules;
  contest = search rules;
}

pub publish_commit-requires-clause-free : goal.publish_commit-requires-clause-free
publish_commit-requires-clause-free g c told =
    let store = g.S.Store in
    let name = c.args.name.now in
    let kept = c.args.kept.now in
    let next = c.new_instant.new.kept in
    let commit = c.args.commit.now in
    let old = c.args.store.now in
    let now = c.args.now_ms in
    let instant = c.as_str.result.now in
    let properties = option_copied c.bytes_of-properties.result in
    let text = c.as_slice.result.now in
    let origin : Origin = origin_of c.args.source (option_copied c.args.table) in
    let v = same_instant (end_of name kept) origin now kept next commit c.in_ok-new.new.time instant c.in_ok-new.new.text text c.in_ok-new.new.properties properties c.as_str.ensures.value c.bytes_of-properties.ensures c.as_slice.ensures.value c.in_ok-new.ensures.is in
    let files = (store.disk old).files in
    free instant v.real files (earlier name origin now kept next commit instant properties text v files (c.requires.counted told).newest)

pub returns-in-Ok-clause-own : goal.returns-in-Ok-clause-own
returns-in-Ok-clause-own g c told =
    let store = g.S.Store in
    let name = c.args.name.now in
    let kept = c.args.kept.now in
    let next = c.new_instant.new.kept in
    let commit = c.args.commit.now in
    let old = c.args.store.now in
    let new = c.publish_commit.new.store in
    let now = c.args.now_ms in
    let instant = c.as_str.result.now in
    let properties = option_copied c.bytes_of-properties.result in
    let text = c.as_slice.result.now in
    let origin : Origin = origin_of c.args.source (option_copied c.args.table) in
    let v = same_instant (end_of name kept) origin now kept next commit c.in_ok-new.new.time instant c.in_ok-new.new.text text c.in_ok-new.new.properties properties c.as_str.ensures.value c.bytes_of-properties.ensures c.as_slice.ensures.value c.in_ok-new.ensures.is in
    record {
      alone = touches_own store old new instant properties v.real (c.publish_commit.ensures.kept told);
      short = c.publish_commit.ensures.short told
          (subst (λ (o : Option (List ℕ)). IfSome o (λ bytes. length bytes ≤ MAX_FILE_BYTES)) (sym c.bytes_of-properties.ensures) c.in_ok-new.ensures.short_properties)
          (subst (λ (bytes : List ℕ). length bytes ≤ MAX_FILE_BYTES) (sym c.as_slice.ensures.value) c.in_ok-new.ensures.short);
    }

pub returns-in-Ok-clause-goes_on : goal.returns-in-Ok-clause-goes_on
returns-in-Ok-clause-goes_on g c =
    let store = g.S.Store in
    let name = c.args.name.now in
    let kept = c.args.kept.now in
    let next = c.new_instant.new.kept in
    let commit = c.args.commit.now in
    let old = c.args.store.now in
    let new = c.publish_commit.new.store in
    let now = c.args.now_ms in
    let instant = c.as_str.result.now in
    let properties = option_copied c.bytes_of-properties.result in
    let text = c.as_slice.result.now in
    let origin : Origin = origin_of c.args.source (option_copied c.args.table) in
    let v = same_instant (end_of name kept) origin now kept next commit c.in_ok-new.new.time instant c.in_ok-new.new.text text c.in_ok-new.new.properties properties c.as_str.ensures.value c.bytes_of-properties.ensures c.as_slice.ensures.value c.in_ok-new.ensures.is in
    record {
      advanced = advanced name origin now kept next commit instant properties text v c.requires.can c.requires.fits;
      fits = fits_behind name origin now kept next commit instant properties text v c.requires.can;
      counts = λ told. counted_now store old new told name origin now kept next commit instant properties text v (c.requires.counted told) (c.in-Ok.ensures.kept told) (c.in-Ok.ensures.comes told tt).completed;
      ahead = λ told. passes_ahead name origin now kept next commit instant properties text v (store.disk old).files (store.disk new).files (c.in-Ok.ensures.comes told tt).not_grown;
    }

pub returns-in-Ok-clause-publishes : goal.returns-in-Ok-clause-publishes
returns-in-Ok-clause-publishes g c told stands settled =
    let store = g.S.Store in
    let name = c.args.name.now in
    let kept = c.args.kept.now in
    let next = c.new_instant.new.kept in
    let commit = c.args.commit.now in
    let old = c.args.store.now in
    let new = c.publish_commit.new.store in
    let now = c.args.now_ms in
    let instant = c.as_str.result.now in
    let properties = option_copied c.bytes_of-properties.result in
    let text = c.as_slice.result.now in
    let origin : Origin = origin_of c.args.source (option_copied c.args.table) in
    let v = same_instant (end_of name kept) origin now kept next commit c.in_ok-new.new.time instant c.in_ok-new.new.text text c.in_ok-new.new.properties properties c.as_str.ensures.value c.bytes_of-properties.ensures c.as_slice.ensures.value c.in_ok-new.ensures.is in
    let counted = c.requires.counted told in
    let alone = c.in-Ok.ensures.kept told in
    let whole = orderly_before store old new told name origin now kept next commit instant properties text v counted alone stands in
    let is_ready = ready store old new told name origin now kept next commit instant properties text v counted alone stands in
    let came = c.in-Ok.ensures.comes told tt in
    record {
      stands = λ come. stands_behind store old new told name origin now kept next commit instant properties text v counted alone stands c.requires.can c.requires.fits c.requires.source settled (came.committed whole is_ready);
      publishes = publishes_instant store old new told name origin now kept next commit instant properties text v counted alone stands c.requires.can c.requires.fits c.requires.source settled _ true
          (λ done. came.committed whole is_ready) (λ u. c.in-Ok.ensures.one_step told tt whole settled.timeline is_ready);
      came = λ come. as_left store old new told name origin now kept next commit instant properties text v counted alone stands c.requires.can c.requires.fits c.requires.source settled came;
      contested = λ is. absurd cc;
      kept = λ is. absurd cc;
      theirs = λ is. absurd cc;
      limited = λ which number is. absurd cc;
    }

pub returns-in-Ok-clause-writes : goal.returns-in-Ok-clause-writes
returns-in-Ok-clause-writes g c told stands =
    let store = g.S.Store in
    let name = c.args.name.now in
    let kept = c.args.kept.now in
    let next = c.new_instant.new.kept in
    let commit = c.args.commit.now in
    let old = c.args.store.now in
    let new = c.publish_commit.new.store in
    let now = c.args.now_ms in
    let instant = c.as_str.result.now in
    let properties = option_copied c.bytes_of-properties.result in
    let text = c.as_slice.result.now in
    let origin : Origin = origin_of c.args.source (option_copied c.args.table) in
    let v = same_instant (end_of name kept) origin now kept next commit c.in_ok-new.new.time instant c.in_ok-new.new.text text c.in_ok-new.new.properties properties c.as_str.ensures.value c.bytes_of-properties.ensures c.as_slice.ensures.value c.in_ok-new.ensures.is in
    let counted = c.requires.counted told in
    let alone = c.in-Ok.ensures.kept told in
    let whole = orderly_before store old new told name origin now kept next commit instant properties text v counted alone stands in
    let is_ready = ready store old new told name origin now kept next commit instant properties text v counted alone stands in
    writes store old new told name origin now kept next commit instant properties text v counted alone stands ((c.in-Ok.ensures.comes told tt).committed whole is_ready) (c.in-Ok.ensures.comes told tt).staged (c.in-Ok.ensures.comes told tt).others

pub returns-clause-own : goal.returns-clause-own
returns-clause-own g c told =
    let store = g.S.Store in
    let name = c.args.name.now in
    let kept = c.args.kept.now in
    let next = c.new_instant.new.kept in
    let commit = c.args.commit.now in
    let old = c.args.store.now in
    let new = c.publish_commit.new.store in
    let now = c.args.now_ms in
    let instant = c.as_str.result.now in
    let properties = option_copied c.bytes_of-properties.result in
    let text = c.as_slice.result.now in
    let origin : Origin = origin_of c.args.source (option_copied c.args.table) in
    let v = same_instant (end_of name kept) origin now kept next commit c.in_ok-new.new.time instant c.in_ok-new.new.text text c.in_ok-new.new.properties properties c.as_str.ensures.value c.bytes_of-properties.ensures c.as_slice.ensures.value c.in_ok-new.ensures.is in
    record {
      alone = touches_own store old new instant properties v.real (c.publish_commit.ensures.kept told);
      short = c.publish_commit.ensures.short told
          (subst (λ (o : Option (List ℕ)). IfSome o (λ bytes. length bytes ≤ MAX_FILE_BYTES)) (sym c.bytes_of-properties.ensures) c.in_ok-new.ensures.short_properties)
          (subst (λ (bytes : List ℕ). length bytes ≤ MAX_FILE_BYTES) (sym c.as_slice.ensures.value) c.in_ok-new.ensures.short);
    }

pub returns-clause-publishes : goal.returns-clause-publishes
returns-clause-publishes g c told stands settled =
    let store = g.S.Store in
    let name = c.args.name.now in
    let kept = c.args.kept.now in
    let next = c.new_instant.new.kept in
    let commit = c.args.commit.now in
    let old = c.args.store.now in
    let new = c.publish_commit.new.store in
    let now = c.args.now_ms in
    let instant = c.as_str.result.now in
    let properties = option_copied c.bytes_of-properties.result in
    let text = c.as_slice.result.now in
    let origin : Origin = origin_of c.args.source (option_copied c.args.table) in
    let v = same_instant (end_of name kept) origin now kept next commit c.in_ok-new.new.time instant c.in_ok-new.new.text text c.in_ok-new.new.properties properties c.as_str.ensures.value c.bytes_of-properties.ensures c.as_slice.ensures.value c.in_ok-new.ensures.is in
    let counted = c.requires.counted told in
    let alone = c.in-Err.ensures.kept told in
    let whole = orderly_before store old new told name origin now kept next commit instant properties text v counted alone stands in
    let is_ready = ready store old new told name origin now kept next commit instant properties text v counted alone stands in
    let gives : c.of_list.result ≡ answer_of Names MAX_NAMES c.in-Err.error = c.of_list.ensures in
    let came = λ (come : (c.of_list.result ≡ Contested → ⊥) × (kept.commits < commits_in (store.disk new).files)).
    c.in-Err.ensures.comes told ((λ taken. come.0 (gives ∙ ap (answer_of Names MAX_NAMES) taken)), come_there store old new told name origin now kept next commit instant properties text v counted alone come.1) in
    record {
      stands = λ come. stands_behind store old new told name origin now kept next commit instant properties text v counted alone stands c.requires.can c.requires.fits c.requires.source settled ((came come).committed whole is_ready);
      publishes = publishes_instant store old new told name origin now kept next commit instant properties text v counted alone stands c.requires.can c.requires.fits c.requires.source settled (c.of_list.result ≡ Contested → ⊥) false
          (λ done. absurd (cc)) (λ u. c.in-Err.ensures.one_step told (λ taken. u (gives ∙ ap (answer_of Names MAX_NAMES) taken)) whole settled.timeline is_ready);
      came = λ come. as_left store old new told name origin now kept next commit instant properties text v counted alone stands c.requires.can c.requires.fits c.requires.source settled (came come);
      contested = λ contested. few_now store old new told name origin now kept next commit instant properties text v counted alone;
      kept = λ contested. kept_taken store old new told name origin now kept next commit instant properties text v counted alone settled (c.in-Err.ensures.theirs told (taken_answer c.in-Err.error c.of_list.result gives contested));
      theirs = λ contested. theirs_taken store old new told name origin now kept next commit instant properties text v counted alone settled (c.in-Err.ensures.theirs told (taken_answer c.in-Err.error c.of_list.result gives contested));
      limited = λ which number limited.
          let long = limited_by c.in-Err.error c.of_list.result gives which number limited in
          reads_unmoved store old new told name origin now kept next commit instant properties text v counted alone stands ((c.in-Err.ensures.too_long long.0 long.1).unmoved told whole);
    }

pub returns-clause-taken : goal.returns-clause-taken
returns-clause-taken g c told contested =
    let store = g.S.Store in
    let name = c.args.name.now in
    let kept = c.args.kept.now in
    let next = c.new_instant.new.kept in
    let commit = c.args.commit.now in
    let old = c.args.store.now in
    let new = c.publish_commit.new.store in
    let now = c.args.now_ms in
    let instant = c.as_str.result.now in
    let properties = option_copied c.bytes_of-properties.result in
    let text = c.as_slice.result.now in
    let origin : Origin = origin_of c.args.source (option_copied c.args.table) in
    let v = same_instant (end_of name kept) origin now kept next commit c.in_ok-new.new.time instant c.in_ok-new.new.text text c.in_ok-new.new.properties properties c.as_str.ensures.value c.bytes_of-properties.ensures c.as_slice.ensures.value c.in_ok-new.ensures.is in
    taken_now store old new told name origin now kept next commit instant properties text v (c.requires.counted told) (c.in-Err.ensures.kept told) (c.in-Err.ensures.taken told (taken_answer c.in-Err.error c.of_list.result c.of_list.ensures contested))

pub returns-clause-refuses : goal.returns-clause-refuses
returns-clause-refuses g c =
    let origin : Origin = origin_of c.args.source (option_copied c.args.table) in
    record {
      refusal = λ told. refused_by c.in-Err.error c.of_list.result c.of_list.ensures (g.S.Store.disk c.args.store.now).files (end_of c.args.name.now c.args.kept.now) origin c.args.now_ms c.args.commit.now
          (λ n long. let is = c.in-Err.ensures.too_long n long in (is.many, is.names told));
      few = search rules;
      untouched = λ told which number limited other. absurd (other (only_names c.in-Err.error c.of_list.result c.of_list.ensures which number limited));
      cause = search rules;
      contest = contest_too g.S.Store.contests g.S.Store.may_contest c.args.store.now c.publish_commit.new.store _ _
          (λ taken. contested_error c.in-Err.error c.of_list.result c.of_list.ensures taken) (λ contested. taken_answer c.in-Err.error c.of_list.result c.of_list.ensures contested) c.in-Err.ensures.contest;
    }
