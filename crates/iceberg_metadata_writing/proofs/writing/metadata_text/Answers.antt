use Rattle.iceberg_metadata_writing.proofs.WrittenLemmas.{metadata_again}
use Rattle.iceberg_metadata_writing.proofs.writing.metadata_text.Goals as goal

pub returns-clause-reads_back : goal.returns-clause-reads_back
returns-clause-reads_back c =
    let bytes = c.in_ok-metadata_bytes.ensures in
    rw (c.from_vec.ensures, bytes.text) (metadata_again c.args.metadata.now bytes.fits c.requires bytes.reads_back)
