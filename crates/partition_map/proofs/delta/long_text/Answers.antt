use Rattle.std.proofs.Common.{ap, ◌∙◌, arith, w64, FitsSigned}
use Rattle.std.specs.Fmt.{signed_decimal}
use Rattle.std.proofs.lemmas.Int.{ints}
use Rattle.partition_map.proofs.DeltaLemmas.{long_written}
use Rattle.partition_map.proofs.delta.long_text.Goals as goal

pub returns : goal.returns
returns c =
    let fits : FitsSigned w64 c.args.n = c.ranges.n in
    long_written c.args.n c.from_string.result fits (c.from_string.ensures ∙ c.in_ok-to_string.ensures.ok ∙ ap signed_decimal (omega (arith, ints, fits)))
