use Rattle.iceberg_metadata_reading.proofs.AgainLemmas.{given_writable}
use Rattle.iceberg_metadata_reading.proofs.ReadLemmas.{given_found, given_supported, given_refused, given_complete}
use Rattle.iceberg_metadata_reading.proofs.reading.read_metadata.Goals as goal

pub returns : goal.returns
returns c =
    let bytes = c.args.bytes.now in
    let exact = c.metadata_of.ensures.read in
    let found = given_found bytes _ exact in
    let supported = given_supported bytes _ exact in
    record { found = found; supported = supported; refused = given_refused bytes _ exact; complete = given_complete bytes _ exact; writable = given_writable bytes _ found supported c.metadata_of.ensures.own; exact = exact }
