use Rattle.std.proofs.Common.{arith}
use Rattle.std.proofs.lemmas.Bool.{false≢true}
use Rattle.std.proofs.lemmas.Int.{ints}
use Rattle.partition_map.proofs.DateLemmas.{outside_calendar, early_year, date_written}
use Rattle.partition_map.proofs.date.date_bytes.Goals as goal

pub returns-in_default-clause-text : goal.returns-in_default-clause-text
returns-in_default-clause-text c =
    let fits = c.ranges.days in
    outside_calendar c.args.days (λ inside. false≢true (c.in_default.ensures.succeeds.1 (omega (arith, ints, c.from.ensures, inside), omega (arith, ints, c.from.ensures, inside))))

pub returns-then-date-lt0-clause-text : goal.returns-then-date-lt0-clause-text
returns-then-date-lt0-clause-text c =
    let fits = c.ranges.days in
    early_year c.in-Ok.date c.args.days (omega (arith, ints, c.from.ensures, c.in-Ok.ensures.value)) (grind (arith, ints, c.if-date-lt0.true, c.in-Ok.date.year_in))

pub returns-clause-text : goal.returns-clause-text
returns-clause-text c =
    let fits = c.ranges.days in
    date_written c.in-Ok.date c.args.days _ c.civil_bytes.result (omega (arith, ints, c.from.ensures, c.in-Ok.ensures.value)) (grind (arith, ints, c.if-date-lt0.false, c.in-Ok.date.year_in)) c.civil_bytes.ensures.text
