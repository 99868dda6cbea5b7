use Rattle.target_hudi.proofs.FittingLemmas.{never_bad, never_limit}
use Rattle.target_hudi.proofs.fitting.schema_fits.Goals as goal

pub unreachable-requires : goal.unreachable-requires
unreachable-requires c = never_bad c.in-Some.schema c.to_avro.result c.in-Err-BadSchema.field-0 c.to_avro.ensures.exact c.in-Err-BadSchema.is c.in-Err-BadSchema.field-0-is

pub unreachable-requires-in-Err-Limit : goal.unreachable-requires-in-Err-Limit
unreachable-requires-in-Err-Limit c = never_limit c.in-Some.schema c.to_avro.result c.in-Err-Limit.field-0 c.to_avro.ensures.exact c.in-Err-Limit.is c.in-Err-Limit.field-0-0 c.in-Err-Limit.field-0-is
