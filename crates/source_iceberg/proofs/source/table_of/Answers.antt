use Rattle.source_iceberg.proofs.Publishable.{publishable_of_snapshot}
use Rattle.source_iceberg.proofs.source.table_of.Goals as goal

pub returns-in-Ok-clause-read : goal.returns-in-Ok-clause-read
returns-in-Ok-clause-read g c told =
    let read = c.in-Ok.ensures.read told in
    (read.0, read.1)

pub returns-in-Ok-clause-sound : goal.returns-in-Ok-clause-sound
returns-in-Ok-clause-sound g c = λ writable. publishable_of_snapshot c.in-Ok.table (c.in-Ok.ensures.sound writable)
