use Rattle.std.proofs.Common.{ap, ◌∙◌}
use Rattle.json_reading.specs.Json.{json}
use Rattle.hudi_instant.proofs.TextLemmas.{text_again}
use Rattle.hudi_instant.proofs.write.instant_text.Goals as goal

pub returns-clause-reads_back : goal.returns-clause-reads_back
returns-clause-reads_back c = text_again c.from_vec.result c.args.instant.now (ap json c.from_vec.ensures ∙ c.in_ok-bytes.ensures.reads_back) c.requires
