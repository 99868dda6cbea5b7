use Rattle.std.proofs.Common.{◌≡◌, ◌≤◌, ◌∙◌, ◌+◌, ◌++◌, ◌∷◌, [], List, ap, drop, subst, sym, take}
use Rattle.std.specs.Prelude.{IfErr}
use Rattle.std.proofs.lemmas.List.{drop_more, take-append-drop, take_all, take_more}
use Rattle.std.proofs.lemmas.Result.{err_from_is_err_and}
use Rattle.lake_basics.specs.declared.limits.TheConstants.{MAX_ACTIONS}
use Rattle.lake_store.specs.Disk.{Disk}
use Rattle.lake_store.proofs.RunLaws as runs
use Rattle.hudi_table.specs.declared.instants.CompletedInstant.{CompletedInstant}
use Rattle.hudi_table.proofs.Runs.{fails_never, uncontested_further}
use Rattle.source_core.specs.Answers.{IsReadRefusal}
use Rattle.source_hudi.specs.Since.{AreTaken, HasRefusedAfter, IsTakenFurther, ShowsAtInstant}
use Rattle.source_hudi.proofs.Taken.{can_apply_all, fit_each, goes_further, refused_at, taken_further}
use Rattle.source_hudi.proofs.since.take_each.Goals as goal

pub returns-in_err-commit-clause-refused : goal.returns-in_err-commit-clause-refused
returns-in_err-commit-clause-refused g c told =
    let store = g.S.Store in
    let exit = err_from_is_err_and c.from_residual.result c.from_residual.ensures.1 in
    let so_far = c.loop-instant.invariant in
    let files = (store.disk c.args.store.now).files in
    let table = c.args.table.now in
    let base = c.args.base in
    let instants = c.args.instants.now in
    let i = c.loop-instant.instant-index in
    let x = c.instant-item.result in
    let was = c.loop-instant.taken in
    let split : instants ≡ take i instants ++ x ∷ drop (i + 1) instants =
    sym (take-append-drop i instants) ∙ ap (λ l. take i instants ++ l) (drop_more instants i x c.loop-instant-test.true ∙ ap (λ y. y ∷ drop (i + 1) instants) (sym c.instant-item.is)) in
    let step = subst (λ (d : Disk). IsReadRefusal (ShowsAtInstant d.files table x was.last was.actions) c.in_err-commit.field-0.0) (so_far.reads told).disk (c.in_err-commit.ensures.refused told) in
    let refused = refused_at files table base instants (take i instants) x (drop (i + 1) instants) was.commits was.last was.actions split (so_far.taken told) c.in_err-commit.field-0.0 step in
    subst (λ r. IfErr r (IsReadRefusal (HasRefusedAfter files table base instants))) (sym exit.1) (subst (IsReadRefusal (HasRefusedAfter files table base instants)) (sym exit.2) refused)

pub returns-in_err-commit-clause-only_reads : goal.returns-in_err-commit-clause-only_reads
returns-in_err-commit-clause-only_reads g c = runs.reading_further g.S.Store c.args.store.now c.loop-instant.store c.next_commit.new.store c.loop-instant.invariant.reads c.in_err-commit.ensures.only_reads

pub returns-in_err-taken-clause-only_reads : goal.returns-in_err-taken-clause-only_reads
returns-in_err-taken-clause-only_reads g c = runs.reading_further g.S.Store c.args.store.now c.loop-instant.store c.next_commit.new.store c.loop-instant.invariant.reads c.in_ok-commit.ensures.only_reads

pub with_commit-requires : goal.with_commit-requires
with_commit-requires g c = c.in_ok-commit.ensures.goes_on.fits

pub loop-instant-preserved : goal.loop-instant-preserved
loop-instant-preserved g c =
    let store = g.S.Store in
    let so_far = c.loop-instant.invariant in
    let old = c.args.store.now in
    let mid = c.loop-instant.store in
    let new = c.next_commit.new.store in
    let files = (store.disk old).files in
    let table = c.args.table.now in
    let base = c.args.base in
    let instants = c.args.instants.now in
    let i = c.loop-instant.instant-index in
    let x = c.instant-item.result in
    let was = c.loop-instant.taken in
    let next = c.in_ok-taken.taken in
    let commit = c.in_ok-commit.commit in
    let few = subst (λ n. n ≤ MAX_ACTIONS) (sym c.in_ok-taken.ensures.actions) c.in_ok-commit.ensures.few in
    record {
      few = few;
      leads = goes_further table base was.commits was.last next.commits next.last so_far.leads (record { commit = commit; behind = c.in_ok-taken.ensures.commits; after = c.in_ok-taken.ensures.last; goes_on = c.in_ok-commit.ensures.goes_on });
      taken = λ told.
          let of = c.in_ok-commit.ensures.next told in
          let here : IsTakenFurther (store.disk mid).files table x was.commits was.last was.actions next.commits next.last next.actions = record { commit = commit; is = of.0; behind = c.in_ok-taken.ensures.commits; after = c.in_ok-taken.ensures.last; counted = c.in_ok-taken.ensures.actions ∙ of.1; few = few } in
          let step = subst (λ (d : Disk). IsTakenFurther d.files table x was.commits was.last was.actions next.commits next.last next.actions) (so_far.reads told).disk here in
          let longer : take i instants ++ x ∷ [] ≡ take (i + 1) instants = ap (λ y. take i instants ++ y ∷ []) c.instant-item.is ∙ sym (take_more instants i x c.loop-instant-test.true) in
          subst (λ (l : List CompletedInstant). AreTaken files table base l next.commits next.last next.actions) longer
          (taken_further files table base (take i instants) was.commits was.last was.actions x next.commits next.last next.actions (so_far.taken told) step);
      reads = runs.reading_further store old mid new so_far.reads c.in_ok-commit.ensures.only_reads;
      cause = fails_never store.faults store.may_fail old mid new _ so_far.cause c.in_ok-commit.ensures.cause;
      contest = uncontested_further store.contests store.may_contest old mid new so_far.contest c.in_ok-commit.ensures.contest;
    }

pub returns-clause-taken : goal.returns-clause-taken
returns-clause-taken g c told =
    let files = (g.S.Store.disk c.args.store.now).files in
    let instants = c.args.instants.now in
    let was = c.loop-instant.taken in (
      was.last,
      was.actions,
      subst (λ (l : List CompletedInstant). AreTaken files c.args.table.now c.args.base l was.commits was.last was.actions) (take_all c.loop-instant.instant-index instants c.loop-instant-test.false)
          (c.loop-instant.invariant.taken told),
    )

pub returns-clause-sound : goal.returns-clause-sound
returns-clause-sound g c = can_apply_all c.args.table.now c.args.base c.loop-instant.taken.commits c.loop-instant.taken.last c.requires c.loop-instant.invariant.leads

pub returns-clause-fits : goal.returns-clause-fits
returns-clause-fits g c = fit_each c.args.table.now c.args.base c.loop-instant.taken.commits c.loop-instant.taken.last c.loop-instant.invariant.leads
