use Rattle.std.proofs.Common.{take, All, Contains}
use Rattle.std.specs.List.{IsDistinct}
use Rattle.std.specs.Str.{bytes_eq}
use Rattle.table_history.specs.Path.{IsPath}
use Rattle.table_history.specs.Row.{Row}
use Rattle.delta_log.specs.Sound.{IsSoundFile}
use Rattle.target_delta.specs.Writing.{AreAdds}
use Rattle.target_delta.proofs.ActionLemmas.{rows_now}
use Rattle.target_delta.proofs.actions.adds_of.Given as goal

abbrev pub invariant-loop-row : goal.invariant-loop-row
invariant-loop-row l = record {
  adds : AreAdds l.partition (rows_now (take l.row-index l.rows)) l.files.items;
  sound : ((row : Row) → Contains (rows_now l.rows) row → IsPath row.path) → IsDistinct bytes_eq l.partition → All IsSoundFile l.files.items;
}
