use Rattle.iceberg_metadata.proofs.LocationLemmas.{strip_is}
use Rattle.iceberg_metadata.proofs.location.after_front.Goals as goal

pub returns : goal.returns
returns c = strip_is c.args.front.now c.args.path.now c.strip_prefix.result c.strip_prefix.ensures.cases
