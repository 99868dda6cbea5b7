use Rattle.std.proofs.Common.{ap, subst}
use Rattle.std.specs.Prelude.{IfErr}
use Rattle.lake_store.specs.Disk.{Disk}
use Rattle.lake_store.proofs.RunLaws as runs
use Rattle.iceberg_table.specs.Errors.{IsRefusal}
use Rattle.iceberg_table.specs.Refusals.{IsSnapshotRefusal}
use Rattle.iceberg_change.proofs.OwnLaws.{own_made, step_fits, whole_own}
use Rattle.iceberg_change.proofs.own.read_behind.Goals as goal

pub own_behind-requires : goal.own_behind-requires
own_behind-requires g c = step_fits g.S.Store.tells (g.S.Store.disk c.args.store.now).files c.args.metadata.now c.args.snapshot.now c.args.before c.args.listed c.in-Ok.step c.in-Ok.ensures.step

pub returns-in-Ok-clause-own : goal.returns-in-Ok-clause-own
returns-in-Ok-clause-own g c =
    let made = c.in_ok-own_behind-in-Ok.ensures in
    own_made g.S.Store.tells (g.S.Store.disk c.args.store.now).files c.args.metadata.now c.args.snapshot.now c.args.before c.args.listed c.in-Ok.step c.requires.kept c.in-Ok.ensures.step c.in_ok-own_behind-in-Ok.field-0 made.after made.same.0 made.same.1

pub returns-in-Err-Scratch-clause-own : goal.returns-in-Err-Scratch-clause-own
returns-in-Err-Scratch-clause-own g c =
    let store = g.S.Store in
    whole_own store.tells (store.disk c.step_of.new.store).files (store.disk c.args.store.now).files (λ told. ap (λ (d : Disk). d.files) (c.in-Err-Scratch.ensures.only_reads told).disk) c.args.metadata.now c.args.snapshot.now c.args.before c.args.listed c.read_whole.result (c.read_whole.ensures.own c.args.listed)

pub returns-in-Err-Scratch-clause-refused : goal.returns-in-Err-Scratch-clause-refused
returns-in-Err-Scratch-clause-refused g c told =
    subst (λ (d : Disk). IfErr c.read_whole.result (IsRefusal (IsSnapshotRefusal d.files c.args.metadata.now c.args.version c.args.snapshot.now))) (c.in-Err-Scratch.ensures.only_reads told).disk
    (c.read_whole.ensures.refused told)

pub returns-in-Err-Scratch-clause-only_reads : goal.returns-in-Err-Scratch-clause-only_reads
returns-in-Err-Scratch-clause-only_reads g c = runs.reading_further g.S.Store c.args.store.now c.step_of.new.store c.read_whole.new.store c.in-Err-Scratch.ensures.only_reads c.read_whole.ensures.only_reads
