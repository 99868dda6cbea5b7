use Rattle.std.proofs.Common.{◌++◌}
use Rattle.iceberg_manifest_feeding.specs.Feeding.{so_far}
use Rattle.iceberg_manifest_feeding.proofs.CallLaws.{piece_read, piece_refused, told_first}
use Rattle.iceberg_manifest_feeding.proofs.OrderLaws.{fault_for_good, read_sound}
use Rattle.iceberg_manifest_feeding.proofs.feeder.ManifestFeeder.with_piece.Goals as goal

pub returns : goal.returns
returns c =
    let columns = c.args.columns.now in
    let piece = c.args.piece.now in
    let now = so_far c.args.self in
    let r = c.with_read.result in
    let done = c.with_read.ensures in
    record {
      read = λ bytes h small. piece_read so_far columns bytes piece now h r done.gives done.state;
      refused = λ bytes h small. piece_refused so_far columns bytes piece now h r done.gives small;
      first = λ bytes e h small fault. told_first so_far columns (bytes ++ piece) r e (piece_read so_far columns bytes piece now h r done.gives done.state) (piece_refused so_far columns bytes piece now h r done.gives small) fault;
      sound = read_sound;
      for_good = fault_for_good;
    }
