use Rattle.std.proofs.Common.{sym, subst}
use Rattle.std.specs.List.{IsDistinct}
use Rattle.std.specs.Str.{bytes_eq}
use Rattle.target_core.proofs.HeldRows.{held_paths}
use Rattle.target_delta.proofs.written.written_of.Goals as goal

pub returns-clause-sound : goal.returns-clause-sound
returns-clause-sound c = λ removed distinct.
    c.in_ok-files.ensures.sound removed (held_paths c.args.behind.now.table.rows c.args.behind.now.rows_held) (subst (IsDistinct bytes_eq) (sym c.as_slice-partition.ensures) distinct)
