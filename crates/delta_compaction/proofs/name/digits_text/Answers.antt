use Rattle.std.proofs.Common.{◌<◌, ◌^◌, ap, ◌∙◌, arith}
use Rattle.std.specs.Fmt.{styled_decimal}
use Rattle.delta_log.proofs.VersionLemmas.{padded_digits, padded_text}
use Rattle.delta_compaction.proofs.name.digits_text.Goals as goal

pub returns : goal.returns
returns c =
    let small : c.args.version < 2 ^ 64 = omega (arith, c.ranges.version) in
    padded_digits c.args.version c.from_string.result small
    (c.from_string.ensures ∙ c.in_ok-format.ensures.ok ∙ ap (λ s. styled_decimal s c.args.version) c.laid_out.ensures ∙ padded_text c.args.version)
