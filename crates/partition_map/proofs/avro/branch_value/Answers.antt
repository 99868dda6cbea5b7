use Rattle.std.proofs.Common.{◌↔◌, IsErrOf, sym, subst}
use Rattle.avro_value.specs.ValueTree.{value_tree}
use Rattle.table_history.specs.declared.row.PartValue.{PartValue}
use Rattle.table_history.specs.declared.row.PartValue.TheVariants as value
use Rattle.partition_map.specs.Avro.{BranchStands}
use Rattle.partition_map.specs.declared.error.PartError.TheVariants.{BadValue}
use Rattle.partition_map.proofs.AvroLemmas.{null_stands, boolean_stands, int_stands, long_stands, text_stands, date_stands}
use Rattle.partition_map.proofs.RefusalLemmas.{read_other, want_of_memory, out_of_memory}
use Rattle.partition_map.proofs.avro.branch_value.Goals as goal

pub returns-in_err-copy-in-Text-Text-clause-bad : goal.returns-in_err-copy-in-Text-Text-clause-bad
returns-in_err-copy-in-Text-Text-clause-bad c =
    let P = BranchStands c.args.kind (value_tree c.args.value.now) in
    subst (λ r. IsErrOf r BadValue ↔ ((w : PartValue) → P w → ⊥)) (sym (out_of_memory c.from_residual.result c.from_residual.ensures.1))
    (want_of_memory P (value.Text c.in-Text-Text.text) (text_stands c.args.kind c.args.value.now c.in-Text-Text.text c.in-Text-Text.is-0 c.in-Text-Text.is-1))

pub returns-in_default-Null-clause-bad : goal.returns-in_default-Null-clause-bad
returns-in_default-Null-clause-bad c =
    read_other (BranchStands c.args.kind (value_tree c.args.value.now)) _ value.Null (null_stands c.args.kind c.args.value.now c.in_default-Null.is-1)

pub returns-in-Boolean-Boolean-clause-bad : goal.returns-in-Boolean-Boolean-clause-bad
returns-in-Boolean-Boolean-clause-bad c =
    read_other (BranchStands c.args.kind (value_tree c.args.value.now)) _ (value.Boolean c.in-Boolean-Boolean.b) (boolean_stands c.args.kind c.args.value.now c.in-Boolean-Boolean.b c.in-Boolean-Boolean.is-0 c.in-Boolean-Boolean.is-1)

pub returns-in-Int-Int-clause-bad : goal.returns-in-Int-Int-clause-bad
returns-in-Int-Int-clause-bad c =
    read_other (BranchStands c.args.kind (value_tree c.args.value.now)) _ (value.Int c.in-Int-Int.n) (int_stands c.args.kind c.args.value.now c.in-Int-Int.n c.in-Int-Int.is-0 c.in-Int-Int.is-1)

pub returns-in-Date-Int-clause-bad : goal.returns-in-Date-Int-clause-bad
returns-in-Date-Int-clause-bad c =
    read_other (BranchStands c.args.kind (value_tree c.args.value.now)) _ (value.Date c.in-Date-Int.days) (date_stands c.args.kind c.args.value.now c.in-Date-Int.days c.in-Date-Int.is-0 c.in-Date-Int.is-1)

pub returns-in-Long-Long-clause-bad : goal.returns-in-Long-Long-clause-bad
returns-in-Long-Long-clause-bad c =
    read_other (BranchStands c.args.kind (value_tree c.args.value.now)) _ (value.Long c.in-Long-Long.n) (long_stands c.args.kind c.args.value.now c.in-Long-Long.n c.in-Long-Long.is-0 c.in-Long-Long.is-1)

pub returns-in_ok-copy-in-Text-Text-clause-bad : goal.returns-in_ok-copy-in-Text-Text-clause-bad
returns-in_ok-copy-in-Text-Text-clause-bad c =
    read_other (BranchStands c.args.kind (value_tree c.args.value.now)) _ (value.Text c.in-Text-Text.text) (text_stands c.args.kind c.args.value.now c.in-Text-Text.text c.in-Text-Text.is-0 c.in-Text-Text.is-1)
