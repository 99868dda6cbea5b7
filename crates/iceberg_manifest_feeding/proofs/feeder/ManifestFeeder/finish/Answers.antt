use Rattle.iceberg_manifest_feeding.specs.Feeding.{so_far}
use Rattle.iceberg_manifest_feeding.proofs.CallLaws.{end_first, end_found, end_only, end_refused}
use Rattle.iceberg_manifest_feeding.proofs.OrderLaws.{limit_of_values, read_or_refused, refused_once}
use Rattle.iceberg_manifest_feeding.proofs.feeder.ManifestFeeder.finish.Goals as goal

pub returns : goal.returns
returns c =
    let columns = c.args.columns.now in
    let now = so_far c.args.self in
    let r = c.finished.result in
    let gives = c.finished.ensures in
    record {
      found = λ bytes h small. end_found columns bytes now h small r gives;
      only = λ bytes es h small stands. end_only columns bytes r es (end_found columns bytes now h small r gives) (end_refused columns bytes now h small r gives) stands;
      refused = λ bytes h small. end_refused columns bytes now h small r gives;
      first = λ bytes e h small fault. end_first columns bytes r e (end_found columns bytes now h small r gives) (end_refused columns bytes now h small r gives) fault;
      apart = read_or_refused;
      once = refused_once;
      limit = limit_of_values;
    }
