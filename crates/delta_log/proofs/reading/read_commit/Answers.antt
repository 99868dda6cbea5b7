use Rattle.delta_log.proofs.ReadableLemmas.{found_by, only_by, fault_by, grammar_by}
use Rattle.delta_log.proofs.reading.read_commit.Goals as goal

pub returns : goal.returns
returns c =
    let reading = c.read_lines.ensures.read in
    record { found = found_by _ _ reading; only = only_by _ _ reading; fault = fault_by _ _ reading; grammar = grammar_by _ _ reading; sound = c.read_lines.ensures.sound; exact = reading }
