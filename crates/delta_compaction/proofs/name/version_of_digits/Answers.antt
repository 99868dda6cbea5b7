use Rattle.std.proofs.Common.{◌++◌, codes, ap, ◌∙◌}
use Rattle.delta_compaction.proofs.RangeLemmas.{digits_by}
use Rattle.delta_compaction.proofs.name.version_of_digits.Goals as goal

pub returns : goal.returns
returns c = digits_by c.args.digits.now c.as_slice.result.now c.version_of_name.result (c.as_slice.ensures ∙ ap (λ l. l ++ codes ".json") c.copy_from_slice.ensures.after) c.version_of_name.ensures
