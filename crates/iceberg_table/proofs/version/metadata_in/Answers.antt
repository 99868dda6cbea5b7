use Rattle.std.proofs.Common.{Err, ap, sym, subst}
use Rattle.iceberg_metadata.specs.declared.error.MetadataError.{MetadataError}
use Rattle.iceberg_table.specs.Errors.{IsFault}
use Rattle.iceberg_table.specs.Refusals.{IsMetadataFault}
use Rattle.iceberg_table.proofs.ManifestLaws.{cycle_shows, metadata_shows}
use Rattle.iceberg_table.proofs.version.metadata_in.Goals as goal

pub returns-in-Err-clause-refused : goal.returns-in-Err-clause-refused
returns-in-Err-clause-refused c = subst (IsFault (IsMetadataFault c.args.bytes.now)) (sym c.metadata_fault.ensures) (metadata_shows c.args.bytes.now c.in-Err.error c.in-Err.ensures.refused)

pub returns-in-Err-ancestry-clause-refused : goal.returns-in-Err-ancestry-clause-refused
returns-in-Err-ancestry-clause-refused c =
    subst (IsFault (IsMetadataFault c.args.bytes.now)) (sym c.metadata_fault-in-Err-ancestry.ensures)
    (cycle_shows c.args.bytes.now c.in-Ok.metadata c.in-Err-ancestry.error c.in-Ok.ensures.found c.in-Ok.ensures.supported c.in-Err-ancestry.ensures.only (λ is. c.in-Err-ancestry.ensures.malformed (ap (λ (e : MetadataError). Err e) is)))
