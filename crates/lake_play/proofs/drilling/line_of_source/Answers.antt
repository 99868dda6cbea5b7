use Rattle.std.proofs.Common.{subst, sym}
use Rattle.std.specs.Prelude.{string_bytes}
use Rattle.lake_store.specs.Memory.{disk_of}
use Rattle.lake_play.specs.Drilled.{IsReadEnd}
use Rattle.lake_play.specs.Lines.{source_line}
use Rattle.lake_play.proofs.DrillLines.{source_tells, table_end}
use Rattle.lake_play.proofs.drilling.line_of_source.Goals as goal

pub returns-in-Ok-source_line-clause-line : goal.returns-in-Ok-source_line-clause-line
returns-in-Ok-source_line-clause-line c history is =
    source_tells c.args.number (disk_of c.args.store.now).files c.requires.leaves history is c.in-Ok.table c.in-Ok.ensures.head.0 c.in-Ok.ensures.table c.in-Ok.ensures.head.1 (source_line c.args.number) (string_bytes c.in-Ok-source_line.line)
    c.in-Ok-source_line.ensures

pub returns-clause-refused : goal.returns-clause-refused
returns-clause-refused c =
    subst (IsReadEnd (disk_of c.args.store.now).files) (sym c.status_of_source.ensures) (table_end c.args.number (disk_of c.args.store.now).files c.requires.leaves c.requires.said c.in-Err.error c.in-Err.ensures.refused)
