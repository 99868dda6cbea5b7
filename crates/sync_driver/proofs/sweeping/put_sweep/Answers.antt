use Rattle.std.proofs.Common.{List, ℕ, Result, sym, subst}
use Rattle.lake_sweep.specs.declared.error.SweepError.{SweepError}
use Rattle.lake_sweep.specs.declared.plan.Swept.{Swept}
use Rattle.sync_driver.specs.Lines.{swept_lines}
use Rattle.sync_driver.specs.Swept.{swept_status, swept_text}
use Rattle.sync_driver.specs.Tellings.{Tells, put_status}
use Rattle.target_sync.specs.declared.status.Status.{Status}
use Rattle.target_sync.specs.declared.status.Status.TheVariants.{Done}
use Rattle.sync_driver.proofs.Saying.{put_told}
use Rattle.sync_driver.proofs.SweepEnds.{swept_there}
use Rattle.sync_driver.proofs.sweeping.put_sweep.Goals as goal

pub returns-in-Ok : goal.returns-in-Ok
returns-in-Ok g c =
    let sink = g.O.Sink in
    let old = c.args.out.now in
    let new = c.put_swept-put.new.out in
    let target = c.args.target in
    let told : Tells sink old new (swept_lines target c.as_slice.result.now) Done (put_status c.put_swept-put.result) =
    put_told sink old new (swept_lines target c.as_slice.result.now) c.put_swept-put.result (swept_there target c.as_slice.result.now) c.put_swept-put.ensures.ok c.put_swept-put.ensures.err c.put_swept-put.ensures.cause in
    let same : Tells sink old new (swept_lines target c.in-Ok.swept.removed) Done (put_status c.put_swept-put.result) = subst (λ (paths : List (List ℕ)). Tells sink old new (swept_lines target paths) Done (put_status c.put_swept-put.result)) c.as_slice.ensures told in
    subst (λ (answer : Result Swept SweepError). Tells sink old new (swept_text target answer) (swept_status target answer) c.status_of_put.result) (sym c.in-Ok.is)
    (subst (λ (given : Status). Tells sink old new (swept_lines target c.in-Ok.swept.removed) Done given) (sym c.status_of_put.ensures) same)
