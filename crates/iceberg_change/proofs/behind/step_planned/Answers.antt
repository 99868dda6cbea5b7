use Rattle.iceberg_change.proofs.BehindLaws.{step_made}
use Rattle.iceberg_change.proofs.behind.step_planned.Goals as goal

pub returns-clause-step : goal.returns-clause-step
returns-clause-step g c =
    let store = g.S.Store in
    let read = c.in_ok-read.ensures in
    let made = c.step_by.ensures in
    step_made store.tells (store.disk c.args.store.now).files c.args.metadata.now c.args.plan c.args.before.now c.args.listed c.in_ok-read.read.columns read.columns c.in_ok-read.read.joining.manifests read.within read.fit c.len-count.ensures.distinct read.read
    c.step_by.result made.change made.schema made.manifests made.columns
