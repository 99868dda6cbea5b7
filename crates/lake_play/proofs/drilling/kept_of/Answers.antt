use Rattle.std.proofs.Common.{Err, ap, subst}
use Rattle.lake_store.specs.Memory.{disk_of}
use Rattle.table_history.specs.declared.kind.Kind.{Kind}
use Rattle.table_history.specs.declared.kind.Kind.TheVariants.{Delta}
use Rattle.target_core.specs.declared.target.TargetError.{TargetError}
use Rattle.lake_play.specs.Drilled.{IsLookEnd}
use Rattle.lake_play.proofs.Looking.{look_end, only_ours, seen_ours}
use Rattle.lake_play.proofs.drilling.kept_of.Goals as goal

pub returns-in-Ok-Ours-clause-view : goal.returns-in-Ok-Ours-clause-view
returns-in-Ok-Ours-clause-view g c =
    let target = g.T.Target in
    let t = c.args.target.now in
    let files = (disk_of c.args.store.now).files in
    let kept = c.in-Ok-Ours.kept in
    let ours = seen_ours (target.reads t files) (target.is_foreign t Delta files) (target.view t) (λ k. target.stands_for t k files) c.in-Ok-Ours.field-0 kept (c.in-Ok-Ours.ensures.seen tt) c.in-Ok-Ours.field-0-is in
    (g.met.T.Target.kept_view t kept files ours.0, ours.1)

pub unreachable-requires : goal.unreachable-requires
unreachable-requires g c =
    let target = g.T.Target in
    let t = c.args.target.now in
    let files = (disk_of c.args.store.now).files in
    let ours = c.requires.ours in
    only_ours (target.reads t files) (target.is_foreign t Delta files) (target.view t) (λ k. target.stands_for t k files) ours.0 ours.1.0 ours.1.1 (λ w reads. g.met.T.Target.one_view t files ours.0 w ours.1.0 reads)
    (λ path foreign. (g.met.T.Target.not_foreign t Delta files path ours.0 foreign ours.1.0).1 ours.1.1) c.in-Ok-Absent.field-0 (c.in-Ok-Absent.ensures.seen tt) (λ kept is. let other = c.in-Ok-Absent.field-0-is in cc)

pub unreachable-requires-in-Ok-Foreign : goal.unreachable-requires-in-Ok-Foreign
unreachable-requires-in-Ok-Foreign g c =
    let target = g.T.Target in
    let t = c.args.target.now in
    let files = (disk_of c.args.store.now).files in
    let ours = c.requires.ours in
    only_ours (target.reads t files) (target.is_foreign t Delta files) (target.view t) (λ k. target.stands_for t k files) ours.0 ours.1.0 ours.1.1 (λ w reads. g.met.T.Target.one_view t files ours.0 w ours.1.0 reads)
    (λ path foreign. (g.met.T.Target.not_foreign t Delta files path ours.0 foreign ours.1.0).1 ours.1.1) c.in-Ok-Foreign.field-0 (c.in-Ok-Foreign.ensures.seen tt) (λ kept is. let other = c.in-Ok-Foreign.field-0-is in cc)

pub returns-in-Err-clause-refused : goal.returns-in-Err-clause-refused
returns-in-Err-clause-refused g c =
    let t = c.args.target.now in
    let crowded = g.T.Target.is_crowded t Delta (disk_of c.args.store.now).files in
    subst (λ (k : Kind). IsLookEnd k crowded c.status_of_target.result) c.kind.ensures
    (look_end c.kind.result crowded c.in-Err.error c.status_of_target.result c.status_of_target.ensures (c.in-Err.ensures.refusal tt)
    (λ fault. c.in-Err.ensures.cause.allowed (ap (λ (e : TargetError). Err e) fault)))
