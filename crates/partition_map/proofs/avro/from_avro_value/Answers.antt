use Rattle.std.proofs.Common.{sym, subst}
use Rattle.avro_value.specs.ValueTree.{value_tree}
use Rattle.table_history.specs.declared.row.PartValue.TheVariants as value
use Rattle.partition_map.specs.Avro.{AvroStands, BranchStands}
use Rattle.partition_map.proofs.AvroLemmas.{null_branch}
use Rattle.partition_map.proofs.RefusalLemmas.{read_other}
use Rattle.partition_map.proofs.avro.from_avro_value.Goals as goal

pub returns-in-None-clause-bad : goal.returns-in-None-clause-bad
returns-in-None-clause-bad c =
    let k = c.args.kind in
    read_other (AvroStands k (value_tree c.args.value.now)) _ value.Null (subst (λ t. BranchStands k t value.Null) (sym c.in-None.ensures) (null_branch k))
