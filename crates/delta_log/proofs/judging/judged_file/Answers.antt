use Rattle.std.proofs.Common.{ℕ, List, ap, sym, ◌∙◌}
use Rattle.delta_log.specs.Judging.{acts_on}
use Rattle.delta_log.proofs.judging.judged_file.Goals as goal

pub returns-clause-sound : goal.returns-clause-sound
returns-clause-sound c =
    let path = c.as_str.ensures.value ∙ c.path.ensures in
    (c.requires, (sym c.is_full.ensures ∙ c.if-is_full.false, ap (λ (p : List ℕ). acts_on p c.args.commit.now.files) (sym path) ∙ sym c.has_path.ensures ∙ c.if-has_path.false))
