use Rattle.iceberg_manifest.specs.Scans.{infos_of}
use Rattle.iceberg_manifest.proofs.ContainerLaws.{Reads, found_by, only, refused, first, few_values}
use Rattle.iceberg_manifest_reading.proofs.reading.read_list.Goals as goal

pub list-requires : goal.list-requires
list-requires c = few_values _ c.args.bytes.now c.read_container.result c.read_container.ensures.found

pub returns : goal.returns
returns c =
    let bytes = c.args.bytes.now in
    let read = c.read_container in
    let reads : Reads _ bytes read.result = record { found = read.ensures.found; only = read.ensures.only; refused = read.ensures.refused; first = read.ensures.first } in
    record {
      found = found_by infos_of _ bytes read.result _ reads c.list.ensures;
      only = λ rows stands. only infos_of _ bytes read.result _ rows reads c.list.ensures stands;
      refused = refused infos_of _ bytes read.result _ reads c.list.ensures;
      first = λ e is. first infos_of _ bytes read.result _ e reads c.list.ensures is;
    }
