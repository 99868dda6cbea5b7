use Rattle.std.proofs.Common.{ap, ◌∙◌, arith}
use Rattle.table_history.specs.declared.table.Table.{Table}
use Rattle.target_core.specs.Held.{are_held}
use Rattle.target_hudi.proofs.SeenLemmas.{real_some, some_begun}
use Rattle.target_hudi.proofs.inspect.kept_of.Goals as goal

pub invariant_of-result : goal.invariant_of-result
invariant_of-result c = record {
  newest_real = real_some c.args.time c.requires.real;
  rows_held = ap (λ (t : Table). are_held t.rows) c.into_table.ensures ∙ c.requires.rows;
  commits_bounded = omega arith;
  begun = λ e. some_begun c.args.time e;
}
