use Rattle.std.proofs.Common.{◌↔◌, IsErrOf, sym, subst, rules}
use Rattle.table_history.specs.declared.row.PartValue.{PartValue}
use Rattle.table_history.specs.declared.row.PartValue.TheVariants as value
use Rattle.partition_map.specs.declared.error.PartError.TheVariants.{BadValue}
use Rattle.partition_map.specs.Stands.{IsTextOf, IsDateText}
use Rattle.partition_map.proofs.RefusalLemmas.{read_value, want_of_memory, refused, out_of_memory}
use Rattle.partition_map.proofs.texts.text_value.Goals as goal

pub returns-in_err-from_str-in-Text-clause-bad : goal.returns-in_err-from_str-in-Text-clause-bad
returns-in_err-from_str-in-Text-clause-bad c =
    let P = IsTextOf c.args.kind c.args.text.now in
    subst (λ r. IsErrOf r BadValue ↔ ((w : PartValue) → P w → ⊥)) (sym (out_of_memory c.from_residual.result c.from_residual.ensures.1)) (want_of_memory P (value.Text c.args.text.now) (search rules))

pub returns-in-true-clause-bad : goal.returns-in-true-clause-bad
returns-in-true-clause-bad c = read_value (IsTextOf c.args.kind c.args.text.now) _ (search rules)

pub returns-in-false-clause-bad : goal.returns-in-false-clause-bad
returns-in-false-clause-bad c = read_value (IsTextOf c.args.kind c.args.text.now) _ (search rules)

pub returns-in-Some-clause-bad : goal.returns-in-Some-clause-bad
returns-in-Some-clause-bad c = read_value (IsTextOf c.args.kind c.args.text.now) _ (search rules)

pub returns-in-Some-read_long-clause-bad : goal.returns-in-Some-read_long-clause-bad
returns-in-Some-read_long-clause-bad c = read_value (IsTextOf c.args.kind c.args.text.now) _ (search rules)

pub returns-in_ok-from_str-in-Text-clause-bad : goal.returns-in_ok-from_str-in-Text-clause-bad
returns-in_ok-from_str-in-Text-clause-bad c = read_value (IsTextOf c.args.kind c.args.text.now) _ (search rules)

pub returns-in-Some-read_date-clause-bad : goal.returns-in-Some-read_date-clause-bad
returns-in-Some-read_date-clause-bad c = read_value (IsTextOf c.args.kind c.args.text.now) _ (search rules)

pub returns-in-None-read_date-clause-bad : goal.returns-in-None-read_date-clause-bad
returns-in-None-read_date-clause-bad c = refused (IsTextOf c.args.kind c.args.text.now) (λ w spelled.
    let s = subst (λ k. IsTextOf k c.args.text.now w) c.in-Date.is spelled in
    c.in-None-read_date.ensures s.0 (subst (λ t. IsDateText t s.0) (sym c.as_bytes.ensures.value) s.1))
