use Rattle.std.proofs.Common.{sym, subst, ap, ◌∙◌}
use Rattle.lake_store.specs.Disk.{Disk}
use Rattle.lake_store.specs.Memory.{Memory, disk_of}
use Rattle.lake_play.specs.Drilled.{IsReadEnd, LeavesDrill}
use Rattle.lake_play.proofs.DrillEnds.{lines_put, nothing_put, read_end}
use Rattle.lake_play.proofs.DrillStores.{read_through}
use Rattle.lake_play.proofs.drilling.drill_over.Goals as goal

pub lines_of-requires : goal.lines_of-requires
lines_of-requires g c = record { leaves = subst (λ (m : Memory). LeavesDrill c.args.number (disk_of m).files) (sym c.inner.ensures.inner) c.in-Ok.ensures.leaves; said = c.in-Ok.ensures.said }

pub returns-in-Ok-lines_of : goal.returns-in-Ok-lines_of
returns-in-Ok-lines_of g c =
    let same = c.in-Ok-lines_of.ensures.still ∙ ap disk_of c.inner.ensures.inner in
    lines_put g.O.Sink c.args.number c.args.out.now _ c.put_summary.new.out _ c.put_summary.result (record {
      played = read_through c.args.number c.play_drill.new.store c.lines_of.new.store same c.in-Ok.ensures.played;
      leaves = subst (λ (d : Disk). LeavesDrill c.args.number d.files) (sym same) c.in-Ok.ensures.leaves;
      are = c.in-Ok-lines_of.ensures.lines;
    }) c.put_summary.ensures

pub returns-in-Err-lines_of : goal.returns-in-Err-lines_of
returns-in-Err-lines_of g c =
    nothing_put g.O.Sink c.args.number c.args.out.now _ c.in-Err-lines_of.refused
    (read_end c.args.number _ c.in-Err-lines_of.refused c.in-Ok.ensures.said
    (read_through c.args.number c.play_drill.new.store c.lines_of.new.store (c.in-Err-lines_of.ensures.still ∙ ap disk_of c.inner.ensures.inner) c.in-Ok.ensures.played) (subst (λ (d : Disk). LeavesDrill c.args.number d.files) (sym (c.in-Err-lines_of.ensures.still ∙ ap disk_of c.inner.ensures.inner)) c.in-Ok.ensures.leaves)
    (subst (λ (d : Disk). IsReadEnd d.files c.in-Err-lines_of.refused) (sym c.in-Err-lines_of.ensures.still) c.in-Err-lines_of.ensures.refused))

pub returns-in-Err : goal.returns-in-Err
returns-in-Err g c = nothing_put g.O.Sink c.args.number c.args.out.now c.play_drill.new.store c.in-Err.refused c.in-Err.ensures.refused
