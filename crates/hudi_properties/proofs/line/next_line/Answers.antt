use Rattle.std.proofs.Common.{arith, ap, sym, ◌∙◌}
use Rattle.hudi_properties.specs.Lines.{natural_lines}
use Rattle.std.proofs.lemmas.Bool.Decides.{nat_tests}
use Rattle.hudi_properties.proofs.LineLemmas.{whole_line, split_line}
use Rattle.hudi_properties.proofs.line.next_line.Goals as goal

pub returns-then-is_empty-clause-split : goal.returns-then-is_empty-clause-split
returns-then-is_empty-clause-split c = whole_line c.args.bytes.now c.split_at.result.1.now c.line_len.result c.line_len.ensures.len c.split_at.ensures.back (grind (arith, nat_tests))

pub returns-clause-split : goal.returns-clause-split
returns-clause-split c = split_line c.args.bytes.now c.split_at.result.0.now c.split_at.result.1.now c.split_at-2.result.1.now c.line_len.result c.line_len.ensures.len c.split_at.ensures.front c.split_at.ensures.back (grind (arith, nat_tests)) (c.ending_len.ensures.lines ∙ ap natural_lines (sym c.split_at-2.ensures.back))
