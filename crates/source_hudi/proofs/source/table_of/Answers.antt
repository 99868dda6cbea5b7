use Rattle.std.proofs.Common.{subst, sym}
use Rattle.std.specs.Prelude.{IfSome, Option}
use Rattle.table_history.specs.declared.table.Table.{Table}
use Rattle.target_core.specs.Conditions.{IsPublishable}
use Rattle.hudi_timeline.specs.Change.{IsTableOf}
use Rattle.hudi_table.specs.declared.reading.Latest.{Latest}
use Rattle.source_hudi.proofs.Publishable.{publishable_of}
use Rattle.source_hudi.proofs.source.table_of.Goals as goal

pub returns-in-Ok-Some-clause-sound : goal.returns-in-Ok-Some-clause-sound
returns-in-Ok-Some-clause-sound g c =
    subst (λ (t : Table). IsPublishable t) (sym c.into_table.ensures)
    (publishable_of c.args.table.now c.in-Ok-Some.latest.table
    (subst (λ (o : Option Latest). IfSome o (λ l. IsTableOf c.args.table.now l.table)) c.in-Ok-Some.field-0-is c.in-Ok-Some.ensures.sound))
