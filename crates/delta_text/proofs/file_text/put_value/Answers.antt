use Rattle.std.proofs.Common.{ap, ◌∙◌}
use Rattle.delta_text.specs.Tokens.{values_members}
use Rattle.delta_text.proofs.TokenLemmas.{values_members-insert_entry}
use Rattle.delta_text.proofs.file_text.put_value.Goals as goal

pub returns : goal.returns
returns c = ap values_members c.in_ok-insert.ensures.entries ∙ values_members-insert_entry c.args.sorted.now.entries c.args.name c.args.value
