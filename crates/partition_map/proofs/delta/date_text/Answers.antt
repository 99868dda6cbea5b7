use Rattle.std.proofs.Common.{◌≡◌, Some, sym, subst, arith, w32, FitsSigned, to_z}
use Rattle.std.proofs.lemmas.Int.{ints}
use mir.Val.{of_z}
use Rattle.table_history.specs.declared.row.PartValue.TheVariants as value
use Rattle.partition_map.specs.DeltaText.{IsDeltaText, WritesDay}
use Rattle.partition_map.proofs.DeltaLemmas.{date_is_written}
use Rattle.partition_map.proofs.delta.date_text.Goals as goal

pub returns-in_ok-ascii_text-in-Some-clause-ok : goal.returns-in_ok-ascii_text-in-Some-clause-ok
returns-in_ok-ascii_text-in-Some-clause-ok c =
    let fits : FitsSigned w32 c.args.days = c.ranges.days in
    let days : to_z w32 (of_z w32 c.args.days) ≡ c.args.days = omega (arith, ints, fits) in
    let writes : WritesDay c.args.days c.in-Some.bytes = subst (λ d. WritesDay d c.in-Some.bytes) days c.in-Some.ensures.text.1 in
    subst (λ t. IsDeltaText (value.Date c.args.days) (Some t)) (sym c.in_ok-ascii_text-in-Some.ensures) (date_is_written c.args.days c.in-Some.bytes writes)
