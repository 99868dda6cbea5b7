use Rattle.std.proofs.Common.{ap, ◌∙◌}
use Rattle.std.specs.Fmt.{styled_decimal}
use Rattle.hudi_names.proofs.TimeLemmas.{padded_digits, padded_text}
use Rattle.hudi_names.proofs.time.digits_text.Goals as goal

pub returns : goal.returns
returns c =
    padded_digits c.args.number c.from_string.result c.requires
    (c.from_string.ensures ∙ c.in_ok-format.ensures.ok ∙ ap (λ s. styled_decimal s c.args.number) c.laid_out.ensures ∙ padded_text c.args.number)
