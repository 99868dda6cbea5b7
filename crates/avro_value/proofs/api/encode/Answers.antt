use Rattle.avro_value.proofs.EncodeLaws.{is_spelled, is_read_back}
use Rattle.avro_value.proofs.api.encode.Goals as goal

pub returns-clause-spelled : goal.returns-clause-spelled
returns-clause-spelled c = is_spelled _ _ _ c.requires c.encoded.ensures

pub returns-clause-read_back : goal.returns-clause-read_back
returns-clause-read_back c = is_read_back _ _ _ _ (is_spelled _ _ _ c.requires c.encoded.ensures)
