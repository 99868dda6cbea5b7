use Rattle.std.proofs.Common.{◌+◌, All, List, take, sym, subst}
use Rattle.std.proofs.lemmas.List.Elements.{All-push}
use Rattle.table_history.specs.Path.{IsPath}
use Rattle.table_history.specs.Row.{Row}
use Rattle.delta_log.specs.Sound.{IsSoundFile}
use Rattle.delta_log.specs.declared.commit.FileAction.{FileAction}
use Rattle.target_delta.specs.Writing.{AreAdds, CanAdd}
use Rattle.target_delta.proofs.ActionLemmas.{adds_more, of_row, rows_now}
use Rattle.target_delta.proofs.actions.adds_of.Goals as goal

pub add_of-requires-clause-len : goal.add_of-requires-clause-len
add_of-requires-clause-len c = (of_row (CanAdd c.args.partition.now) c.args.rows.now c.loop-row.row-index c.row-item.result c.requires c.loop-row-test.true c.row-item.is).len

pub add_of-requires-clause-texts : goal.add_of-requires-clause-texts
add_of-requires-clause-texts c = (of_row (CanAdd c.args.partition.now) c.args.rows.now c.loop-row.row-index c.row-item.result c.requires c.loop-row-test.true c.row-item.is).texts

pub loop-row-preserved : goal.loop-row-preserved
loop-row-preserved c =
    let i = c.loop-row.row-index in
    let partition = c.args.partition.now in
    let rows = c.args.rows.now in
    record {
      adds = subst (λ l. AreAdds partition (rows_now (take (i + 1) rows)) l) (sym c.in_ok-push.ensures.items)
          (adds_more partition rows c.loop-row.files.items i c.row-item.result c.in_ok-add_of.field-0 c.loop-row-test.true c.row-item.is c.loop-row.invariant.adds c.in_ok-add_of.ensures.add);
      sound = λ paths distinct.
          let path = of_row (λ (r : Row). IsPath r.path) rows i c.row-item.result paths c.loop-row-test.true c.row-item.is in
          subst (λ (l : List FileAction). All IsSoundFile l) (sym c.in_ok-push.ensures.items)
          (All-push IsSoundFile c.loop-row.files.items c.in_ok-add_of.field-0 (c.loop-row.invariant.sound paths distinct) (c.in_ok-add_of.ensures.sound path distinct));
    }
