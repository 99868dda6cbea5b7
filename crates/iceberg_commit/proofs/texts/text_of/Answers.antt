use Rattle.iceberg_commit.specs.Texts.{IsMetadataIn}
use Rattle.iceberg_commit.proofs.TextLemmas.{kept_is, long_is, metadata_in}
use Rattle.iceberg_commit.proofs.texts.text_of.Goals as goal

pub returns-in-Ok-clause-text : goal.returns-in-Ok-clause-text
returns-in-Ok-clause-text c = kept_is c.within.result c.in-Ok.bytes (IsMetadataIn c.args.metadata.now) c.within.ensures.same (metadata_in c.args.metadata.now c.in-Ok.bytes c.in-Ok.ensures.text c.in-Ok.ensures.reads_back)

pub returns-in-Ok-clause-refusal : goal.returns-in-Ok-clause-refusal
returns-in-Ok-clause-refusal c = long_is c.within.result c.in-Ok.bytes (IsMetadataIn c.args.metadata.now) c.within.ensures.long (metadata_in c.args.metadata.now c.in-Ok.bytes c.in-Ok.ensures.text c.in-Ok.ensures.reads_back)
