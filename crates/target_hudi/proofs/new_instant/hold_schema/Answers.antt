use Rattle.std.proofs.Common.{sym, ◌∙◌}
use Rattle.target_hudi.proofs.NewInstantLemmas.{stated_read}
use Rattle.target_hudi.proofs.new_instant.hold_schema.Goals as goal

pub read_schema-requires : goal.read_schema-requires
read_schema-requires c = stated_read c.args.change.now.schema c.args.text.now (sym c.is_some.ensures ∙ c.if-is_some.true) c.requires
