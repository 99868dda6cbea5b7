use Rattle.iceberg_live.proofs.MetadataPathLaws.{found, only, refused, first}
use Rattle.iceberg_live.proofs.metadata_file.metadata_path.Goals as goal

pub returns : goal.returns
returns c =
    let location = c.args.location.now in
    let file = c.args.file.now in
    let exact = c.answer.ensures in
    record { found = found location file _ exact; only = only location file _ exact; refused = refused location file _ exact; first = first location file _ exact }
