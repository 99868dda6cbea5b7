use Rattle.std.proofs.Common.{take, Contains}
use Rattle.table_history.specs.declared.row.PartValue.{PartValue}
use Rattle.partition_map.specs.DeltaText.{HasNoDeltaText}
use Rattle.target_delta.proofs.fitting.has_value_form.Given as goal

abbrev pub invariant-loop-value : goal.invariant-loop-value
invariant-loop-value l = (v : PartValue) → Contains (take l.value-index l.row.values) v → HasNoDeltaText v → ⊥
