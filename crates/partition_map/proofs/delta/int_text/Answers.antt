use Rattle.std.proofs.Common.{ap, ◌∙◌, arith, w32, FitsSigned}
use Rattle.std.specs.Fmt.{signed_decimal}
use Rattle.std.proofs.lemmas.Int.{ints}
use Rattle.partition_map.proofs.DeltaLemmas.{int_written}
use Rattle.partition_map.proofs.delta.int_text.Goals as goal

pub returns : goal.returns
returns c =
    let fits : FitsSigned w32 c.args.n = c.ranges.n in
    int_written c.args.n c.from_string.result fits (c.from_string.ensures ∙ c.in_ok-to_string.ensures.ok ∙ ap signed_decimal (omega (arith, ints, fits)))
