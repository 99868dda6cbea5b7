use Rattle.std.proofs.Common.{[], sym}
use Rattle.avro_feeding.specs.Feeding.{in_header}
use Rattle.avro_feeding.proofs.PieceLemmas.{any_cut}
use Rattle.iceberg_manifest_feeding.proofs.feeder.ManifestFeeder.new.Goals as goal

pub returns : goal.returns
returns c columns = record { place = in_header []; blocks = []; read = sym (any_cut []); waits = c.new.ensures; entries = c.new-2.ensures.items }
