use Rattle.std.proofs.Common.{◌≡◌, ℕ, true, false, List, Option, Result, Err, sym, ap, subst, ◌∙◌}
use Rattle.std.proofs.lemmas.Result.{err_from_is_err_and}
use Rattle.std.specs.Option.{option_copied}
use Rattle.std.specs.Prelude.{length}
use Rattle.lake_store.specs.Runs.{IsEachMoment}
use Rattle.lake_store.specs.Disk.{Files}
use Rattle.table_history.specs.declared.table.Commit.{Commit}
use Rattle.table_history.specs.declared.limit.LimitKind.{LimitKind}
use Rattle.target_core.specs.Conditions.{CanPublishAll, Fits}
use Rattle.target_core.specs.Progress.{IsRefusedAt, KeepsShown}
use Rattle.target_core.specs.Publishing.{Publishes}
use Rattle.target_core.specs.Refusals.{IsFitsRefusal}
use Rattle.target_core.specs.TargetMeanings.{meaning}
use Rattle.target_core.specs.Views.{IsAdvancedAll, Origin}
use Rattle.target_core.specs.declared.target.TargetError.{TargetError}
use Rattle.target_core.specs.declared.target.TargetError.TheVariants.{Contested}
use Rattle.target_sync.specs.Applied.{Applies, IsReportOf}
use Rattle.target_sync.specs.Targets.{HaveWritten}
use Rattle.target_sync.specs.declared.apply.Report.{Report}
use Rattle.target_sync.proofs.Applying.{applies_all, applies_refused, applies_unfit, applies_untold, can_where, columns_fit, fits_where, goes_on_start}
use Rattle.target_sync.proofs.apply.publish_plan.Goals as goal

pub follow-requires-clause-counted : goal.follow-requires-clause-counted
follow-requires-clause-counted g c = c.requires.counted

pub follow-requires-clause-source : goal.follow-requires-clause-source
follow-requires-clause-source g c = goes_on_start c.args.source c.args.plan.now.partition (g.T.Target.view c.args.target.now c.args.plan.now.kept) c.requires.can.start

pub follow-requires-clause-can : goal.follow-requires-clause-can
follow-requires-clause-can g c =
    let t = c.args.target.now in
    let kept = c.args.plan.now.kept in
    let view = g.T.Target.view t kept in
    let partition = c.args.plan.now.partition in
    let commits = c.args.plan.now.commits in
    let unfit = g.T.Target.unfit t kept in
    let fitted = subst (λ (cs : List Commit). Fits unfit partition cs) c.as_slice-commits.ensures
    (subst (λ (names : List (List ℕ)). Fits unfit names c.as_slice-commits.result.now) c.as_slice.ensures c.in_ok-fits.ensures.fits) in
    let columns = columns_fit c.args.source partition commits view c.requires.can.start (λ some has. g.met.T.Target.fits_partition t kept partition commits some fitted has) in
    let image = g.T.Target.image t in
    let origin_at : Option (List ℕ) → Origin = λ id. record { source = c.args.source; table = id } in
    subst (λ (cs : List Commit). CanPublishAll image (origin_at (option_copied c.as_ref.result)) view cs) (sym c.as_slice-commits.ensures)
    (subst (λ (id : Option (List ℕ)). CanPublishAll image (origin_at id) view commits) (sym c.as_ref.ensures.value) (can_where image (origin_at c.args.plan.now.table) partition commits view columns c.requires.can.can))

pub follow-requires-clause-fits : goal.follow-requires-clause-fits
follow-requires-clause-fits g c =
    let t = c.args.target.now in
    let kept = c.args.plan.now.kept in
    let view = g.T.Target.view t kept in
    let partition = c.args.plan.now.partition in
    let commits = c.args.plan.now.commits in
    let unfit = g.T.Target.unfit t kept in
    let fitted = subst (λ (cs : List Commit). Fits unfit partition cs) c.as_slice-commits.ensures
    (subst (λ (names : List (List ℕ)). Fits unfit names c.as_slice-commits.result.now) c.as_slice.ensures c.in_ok-fits.ensures.fits) in
    let columns = columns_fit c.args.source partition commits view c.requires.can.start (λ some has. g.met.T.Target.fits_partition t kept partition commits some fitted has) in
    subst (λ (cs : List Commit). Fits unfit view.table.partition cs) (sym c.as_slice-commits.ensures)
    (fits_where unfit partition commits view (g.met.T.Target.fits_none t kept) columns fitted)

pub returns-in_err-fits : goal.returns-in_err-fits
returns-in_err-fits g c =
    let t = c.args.target.now in
    let kept = c.args.plan.now.kept in
    let view = g.T.Target.view t kept in
    let partition = c.args.plan.now.partition in
    let commits = c.args.plan.now.commits in
    let unfit = g.T.Target.unfit t kept in
    let store = g.S.Store in
    let old = c.args.store.now in
    let files = (store.disk old).files in
    let origin : Origin = record { source = c.args.source; table = c.args.plan.now.table } in
    let passes = g.T.Target.passes t kept files origin c.args.now_ms in
    let written = HaveWritten g.T.Target t kept files origin c.args.now_ms in
    let Stands : Type 0 = g.T.Target.stands_for t kept files × g.T.Target.settled t (store.disk old) in
    let exit = err_from_is_err_and c.from_residual.result c.from_residual.ensures.1 in
    let e : TargetError = c.in_err-fits.field-0.0 in
    let refused = subst (λ (cs : List Commit). IsFitsRefusal (unfit partition cs) e) c.as_slice-commits.ensures
    (subst (λ (names : List (List ℕ)). IsFitsRefusal (unfit names c.as_slice-commits.result.now) e) c.as_slice.ensures c.in_err-fits.ensures.refusal) in
    subst (λ (r : Result Report TargetError). Applies store (meaning g.T.Target t) (unfit partition commits) passes written origin view partition commits c.args.plan.now.full Stands old old r)
    (sym (exit.1 ∙ ap (λ (x : TargetError). Err x) exit.2))
    (applies_unfit store (meaning g.T.Target t) origin view commits (unfit partition commits) passes written partition c.args.plan.now.full g.met.S.Store.only_now
    (record { reads = g.met.T.Target.crash_reads t; carries = g.met.T.Target.crash_carries t; settled = g.met.T.Target.crash_settled t; within = g.met.T.Target.carries_within t })
    old Stands (λ stands. (g.met.T.Target.kept_view t kept files stands.0, stands.1)) e refused)

pub returns-in_err-published : goal.returns-in_err-published
returns-in_err-published g c =
    let t = c.args.target.now in
    let kept = c.args.plan.now.kept in
    let view = g.T.Target.view t kept in
    let partition = c.args.plan.now.partition in
    let commits = c.args.plan.now.commits in
    let unfit = g.T.Target.unfit t kept in
    let fitted = subst (λ (cs : List Commit). Fits unfit partition cs) c.as_slice-commits.ensures
    (subst (λ (names : List (List ℕ)). Fits unfit names c.as_slice-commits.result.now) c.as_slice.ensures c.in_ok-fits.ensures.fits) in
    let columns = columns_fit c.args.source partition commits view c.requires.can.start (λ some has. g.met.T.Target.fits_partition t kept partition commits some fitted has) in
    let store = g.S.Store in
    let old = c.args.store.now in
    let new = c.follow.new.store in
    let files = (store.disk old).files in
    let origin_at : Option (List ℕ) → Origin = λ id. record { source = c.args.source; table = id } in
    let passes_at : Option (List ℕ) → List Commit → LimitKind → ℕ → Type 0 = λ id. g.T.Target.passes t kept files (origin_at id) c.args.now_ms in
    let written_at : Option (List ℕ) → List Commit → Files → Type 0 = λ id. HaveWritten g.T.Target t kept files (origin_at id) c.args.now_ms in
    let Stands : Type 0 = g.T.Target.stands_for t kept files × g.T.Target.settled t (store.disk old) in
    let commits_is = c.as_slice-commits.ensures in
    let id_is = c.as_ref.ensures.value in
    let exit = err_from_is_err_and c.from_residual-in_err-published.result c.from_residual-in_err-published.ensures.1 in
    let e : TargetError = c.in_err-published.field-0.0 in
    subst (λ (r : Result Report TargetError). Applies store (meaning g.T.Target t) (unfit partition commits) (passes_at c.args.plan.now.table) (written_at c.args.plan.now.table) (origin_at c.args.plan.now.table) view partition commits c.args.plan.now.full Stands old new r)
    (sym (exit.1 ∙ ap (λ (x : TargetError). Err x) exit.2))
    (applies_refused store (meaning g.T.Target t) (origin_at c.args.plan.now.table) view commits (unfit partition commits) (passes_at c.args.plan.now.table) (written_at c.args.plan.now.table) partition c.args.plan.now.full Stands old new columns (λ told none. c.in_err-published.ensures.none told (commits_is ∙ none))
    (λ told. (c.in_err-published.ensures.own told).alone) (λ told. (c.in_err-published.ensures.own told).short) e
    (λ told stands.
    subst (λ (cs : List Commit). Publishes store (meaning g.T.Target t) (origin_at c.args.plan.now.table) view cs (e ≡ Contested → ⊥) false old new) commits_is
    (subst (λ (id : Option (List ℕ)). Publishes store (meaning g.T.Target t) (origin_at id) view c.as_slice-commits.result.now (e ≡ Contested → ⊥) false old new) id_is
    (c.in_err-published.ensures.publishes told stands.0 stands.1).publishes))
    (λ told.
    subst (λ (cs : List Commit). IsRefusedAt store (meaning g.T.Target t) (passes_at c.args.plan.now.table) (written_at c.args.plan.now.table) Stands (origin_at c.args.plan.now.table) view cs old new e) commits_is
    (subst (λ (id : Option (List ℕ)). IsRefusedAt store (meaning g.T.Target t) (passes_at id) (written_at id) Stands (origin_at id) view c.as_slice-commits.result.now old new e) id_is
    (c.in_err-published.ensures.refusal told)))
    (λ told stands.
    subst (λ (cs : List Commit). IsEachMoment store old new (KeepsShown (meaning g.T.Target t) (origin_at c.args.plan.now.table) view cs (store.disk new).files e)) commits_is
    (subst (λ (id : Option (List ℕ)). IsEachMoment store old new (KeepsShown (meaning g.T.Target t) (origin_at id) view c.as_slice-commits.result.now (store.disk new).files e)) id_is
    (c.in_err-published.ensures.publishes told stands.0 stands.1).shown))
    c.in_err-published.ensures.cause c.in_err-published.ensures.contest)

pub returns-in_err-report_of : goal.returns-in_err-report_of
returns-in_err-report_of g c =
    let t = c.args.target.now in
    let kept = c.args.plan.now.kept in
    let view = g.T.Target.view t kept in
    let partition = c.args.plan.now.partition in
    let commits = c.args.plan.now.commits in
    let unfit = g.T.Target.unfit t kept in
    let fitted = subst (λ (cs : List Commit). Fits unfit partition cs) c.as_slice-commits.ensures
    (subst (λ (names : List (List ℕ)). Fits unfit names c.as_slice-commits.result.now) c.as_slice.ensures c.in_ok-fits.ensures.fits) in
    let columns = columns_fit c.args.source partition commits view c.requires.can.start (λ some has. g.met.T.Target.fits_partition t kept partition commits some fitted has) in
    let store = g.S.Store in
    let old = c.args.store.now in
    let new = c.follow.new.store in
    let files = (store.disk old).files in
    let origin_at : Option (List ℕ) → Origin = λ id. record { source = c.args.source; table = id } in
    let passes_at : Option (List ℕ) → List Commit → LimitKind → ℕ → Type 0 = λ id. g.T.Target.passes t kept files (origin_at id) c.args.now_ms in
    let written_at : Option (List ℕ) → List Commit → Files → Type 0 = λ id. HaveWritten g.T.Target t kept files (origin_at id) c.args.now_ms in
    let Stands : Type 0 = g.T.Target.stands_for t kept files × g.T.Target.settled t (store.disk old) in
    let commits_is = c.as_slice-commits.ensures in
    let id_is = c.as_ref.ensures.value in
    let exit = err_from_is_err_and c.from_residual-in_err-report_of.result c.from_residual-in_err-report_of.ensures.1 in
    subst (λ (r : Result Report TargetError). Applies store (meaning g.T.Target t) (unfit partition commits) (passes_at c.args.plan.now.table) (written_at c.args.plan.now.table) (origin_at c.args.plan.now.table) view partition commits c.args.plan.now.full Stands old new r)
    (sym (exit.1 ∙ ap (λ (x : TargetError). Err x) exit.2))
    (applies_untold store (meaning g.T.Target t) (origin_at c.args.plan.now.table) view commits (unfit partition commits) (passes_at c.args.plan.now.table) (written_at c.args.plan.now.table) partition c.args.plan.now.full Stands old new columns (λ told none. c.in_ok-published.ensures.none told (commits_is ∙ none))
    (λ told. (c.in_ok-published.ensures.own told).alone) (λ told. (c.in_ok-published.ensures.own told).short) c.in_ok-published.published
    (λ told stands.
    subst (λ (cs : List Commit). Publishes store (meaning g.T.Target t) (origin_at c.args.plan.now.table) view cs (Unit {0}) true old new) commits_is
    (subst (λ (id : Option (List ℕ)). Publishes store (meaning g.T.Target t) (origin_at id) view c.as_slice-commits.result.now (Unit {0}) true old new) id_is
    (c.in_ok-published.ensures.publishes told stands.0 stands.1).publishes))
    c.in_ok-published.ensures.cause c.in_ok-published.ensures.contest g.met.S.Store.only_now
    (λ told stands.
    subst (λ (cs : List Commit). written_at c.args.plan.now.table cs (store.disk new).files) commits_is
    (subst (λ (id : Option (List ℕ)). written_at id c.as_slice-commits.result.now (store.disk new).files) id_is
    (c.follow.new.kept, (c.in_ok-published.ensures.publishes told stands.0 stands.1).written))))

pub returns : goal.returns
returns g c =
    let t = c.args.target.now in
    let kept = c.args.plan.now.kept in
    let view = g.T.Target.view t kept in
    let partition = c.args.plan.now.partition in
    let commits = c.args.plan.now.commits in
    let unfit = g.T.Target.unfit t kept in
    let fitted = subst (λ (cs : List Commit). Fits unfit partition cs) c.as_slice-commits.ensures
    (subst (λ (names : List (List ℕ)). Fits unfit names c.as_slice-commits.result.now) c.as_slice.ensures c.in_ok-fits.ensures.fits) in
    let columns = columns_fit c.args.source partition commits view c.requires.can.start (λ some has. g.met.T.Target.fits_partition t kept partition commits some fitted has) in
    let store = g.S.Store in
    let old = c.args.store.now in
    let new = c.follow.new.store in
    let files = (store.disk old).files in
    let origin_at : Option (List ℕ) → Origin = λ id. record { source = c.args.source; table = id } in
    let passes_at : Option (List ℕ) → List Commit → LimitKind → ℕ → Type 0 = λ id. g.T.Target.passes t kept files (origin_at id) c.args.now_ms in
    let written_at : Option (List ℕ) → List Commit → Files → Type 0 = λ id. HaveWritten g.T.Target t kept files (origin_at id) c.args.now_ms in
    let Stands : Type 0 = g.T.Target.stands_for t kept files × g.T.Target.settled t (store.disk old) in
    let commits_is = c.as_slice-commits.ensures in
    let id_is = c.as_ref.ensures.value in
    let last = g.T.Target.view t c.follow.new.kept in
    let count = c.in_ok-published.ensures.count ∙ ap (λ (cs : List Commit). length cs) commits_is in
    applies_all store (meaning g.T.Target t) (origin_at c.args.plan.now.table) view commits (unfit partition commits) (passes_at c.args.plan.now.table) (written_at c.args.plan.now.table) partition c.args.plan.now.full Stands old new columns (λ told none. c.in_ok-published.ensures.none told (commits_is ∙ none))
    (λ told. (c.in_ok-published.ensures.own told).alone) (λ told. (c.in_ok-published.ensures.own told).short) c.in_ok-published.published
    (λ told stands.
    subst (λ (cs : List Commit). Publishes store (meaning g.T.Target t) (origin_at c.args.plan.now.table) view cs (Unit {0}) true old new) commits_is
    (subst (λ (id : Option (List ℕ)). Publishes store (meaning g.T.Target t) (origin_at id) view c.as_slice-commits.result.now (Unit {0}) true old new) id_is
    (c.in_ok-published.ensures.publishes told stands.0 stands.1).publishes))
    c.in_ok-published.ensures.cause c.in_ok-published.ensures.contest
    (λ told stands.
    subst (λ (cs : List Commit). written_at c.args.plan.now.table cs (store.disk new).files) commits_is
    (subst (λ (id : Option (List ℕ)). written_at id c.as_slice-commits.result.now (store.disk new).files) id_is
    (c.follow.new.kept, (c.in_ok-published.ensures.publishes told stands.0 stands.1).written)))
    c.in_ok-report_of.field-0
    (record {
      last = last;
      leads = subst (λ (cs : List Commit). IsAdvancedAll (g.T.Target.image t) (origin_at c.args.plan.now.table) view cs last) commits_is
          (subst (λ (id : Option (List ℕ)). IsAdvancedAll (g.T.Target.image t) (origin_at id) view c.as_slice-commits.result.now last) id_is c.in_ok-published.ensures.view);
      is = subst (λ (n : ℕ). IsReportOf n c.args.plan.now.full last c.in_ok-report_of.field-0) count c.in_ok-report_of.ensures;
      reads = λ all. g.met.T.Target.kept_view t c.follow.new.kept (store.disk new).files (c.in_ok-published.ensures.publishes all.0 all.1.0 all.1.1).stands;
    })
