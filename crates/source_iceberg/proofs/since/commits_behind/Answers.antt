use Rattle.std.proofs.Common.{◌≤◌, length, arith, sym, subst}
use Rattle.lake_basics.specs.declared.limits.TheConstants.{MAX_COMMITS}
use Rattle.source_core.proofs.Answers.{errs, oks}
use Rattle.source_core.specs.Since.{CanApplyAll, FitAll}
use Rattle.source_iceberg.proofs.SinceLaws.{behind_found, behind_refused, decided_not, no_snapshot, none_over}
use Rattle.source_iceberg.proofs.since.commits_behind.Goals as goal

pub returns-clause-refused : goal.returns-clause-refused
returns-clause-refused g c told =
    let files = (g.S.Store.disk c.args.store.now).files in
    let unchanged = decided_not c.in_ok-names_other_columns.field-0 c.in_ok-names_other_columns.ensures.other c.if-branch.false in
    let within = c.if-snapshots-gt-MAX_COMMITS.false in
    let few : length c.args.snapshots.now ≤ MAX_COMMITS = omega (arith, within) in
    errs c.read_later.result _ _ (behind_refused files c.args.version c.args.metadata.now c.args.base.now c.args.snapshots.now unchanged few) (c.read_later.ensures.refused told)

pub returns-clause-commits : goal.returns-clause-commits
returns-clause-commits g c told =
    let files = (g.S.Store.disk c.args.store.now).files in
    let unchanged = decided_not c.in_ok-names_other_columns.field-0 c.in_ok-names_other_columns.ensures.other c.if-branch.false in
    let within = c.if-snapshots-gt-MAX_COMMITS.false in
    let few : length c.args.snapshots.now ≤ MAX_COMMITS = omega (arith, within) in
    oks c.read_later.result _ _ (behind_found files c.args.metadata.now c.args.base.now c.args.snapshots.now unchanged few) (c.read_later.ensures.commits told)

pub returns-then-is_empty-clause-commits : goal.returns-then-is_empty-clause-commits
returns-then-is_empty-clause-commits g c told =
    let files = (g.S.Store.disk c.args.store.now).files in
    let unchanged = decided_not c.in_ok-names_other_columns.field-0 c.in_ok-names_other_columns.ensures.other c.if-branch.false in
    none_over files c.args.metadata.now c.args.base.now c.args.snapshots.now c.new.result (no_snapshot c.args.snapshots.now c.if-is_empty.ensures) c.new.ensures unchanged

pub returns-then-is_empty-clause-fits : goal.returns-then-is_empty-clause-fits
returns-then-is_empty-clause-fits g c = subst (FitAll c.args.base.now) (sym c.new.ensures) tt

pub returns-then-is_empty-clause-sound : goal.returns-then-is_empty-clause-sound
returns-then-is_empty-clause-sound g c = λ is. subst (CanApplyAll c.args.base.now) (sym c.new.ensures) tt
