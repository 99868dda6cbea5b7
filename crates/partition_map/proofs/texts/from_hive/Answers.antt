use Rattle.std.proofs.Common.{rules}
use Rattle.table_history.specs.declared.row.PartValue.TheVariants as value
use Rattle.partition_map.specs.Stands.{HiveStands}
use Rattle.partition_map.proofs.RefusalLemmas.{read_value}
use Rattle.partition_map.proofs.texts.from_hive.Goals as goal

pub returns-in-text-clause-bad : goal.returns-in-text-clause-bad
returns-in-text-clause-bad c = read_value (HiveStands c.args.kind c.args.component.now) value.Null (search rules)
