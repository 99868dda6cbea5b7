use Rattle.iceberg_manifest.specs.Scans.{entries_of}
use Rattle.iceberg_manifest.proofs.ContainerLaws.{Reads, found_by, only, refused, first}
use Rattle.iceberg_manifest_reading.proofs.reading.read_manifest.Goals as goal

pub returns : goal.returns
returns c =
    let scan = entries_of c.args.columns.now in
    let bytes = c.args.bytes.now in
    let read = c.read_container in
    let reads : Reads _ bytes read.result = record { found = read.ensures.found; only = read.ensures.only; refused = read.ensures.refused; first = read.ensures.first } in
    record {
      found = found_by scan _ bytes read.result _ reads c.manifest.ensures;
      only = λ es stands. only scan _ bytes read.result _ es reads c.manifest.ensures stands;
      refused = refused scan _ bytes read.result _ reads c.manifest.ensures;
      first = λ e is. first scan _ bytes read.result _ e reads c.manifest.ensures is;
    }
