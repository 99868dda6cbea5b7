use Rattle.std.proofs.Common.{rules}
use Rattle.std.specs.Option.{option_copied}
use Rattle.table_history.specs.declared.row.PartValue.TheVariants as value
use Rattle.partition_map.specs.Stands.{DeltaStands}
use Rattle.partition_map.proofs.RefusalLemmas.{read_value, delta_refusal}
use Rattle.partition_map.proofs.StandsLemmas.{delta_only}
use Rattle.partition_map.proofs.texts.from_delta_text.Goals as goal

pub returns-in-None-clause-bad : goal.returns-in-None-clause-bad
returns-in-None-clause-bad c = read_value (DeltaStands c.args.kind (option_copied c.args.text)) value.Null (search rules)

pub returns-then-is_empty-clause-bad : goal.returns-then-is_empty-clause-bad
returns-then-is_empty-clause-bad c = read_value (DeltaStands c.args.kind (option_copied c.args.text)) value.Null (search rules)

pub returns-else-is_empty-clause-bad : goal.returns-else-is_empty-clause-bad
returns-else-is_empty-clause-bad c = delta_refusal c.args.kind c.in-Some.text c.args.text c.text_value.result c.in-Some.is c.if-is_empty.ensures c.text_value.ensures.bad

pub returns-else-is_empty-clause-only : goal.returns-else-is_empty-clause-only
returns-else-is_empty-clause-only c = delta_only c.args.kind (option_copied c.args.text) c.text_value.result (search rules)
