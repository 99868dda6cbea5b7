use Rattle.std.proofs.Common.{arith}
use Rattle.std.proofs.lemmas.Bool.{ltb-true, lt-ltb}
use Rattle.delta_live.proofs.BehindLemmas.{behind_count}
use Rattle.delta_live.proofs.change.has_many_files.Goals as goal

pub overflow_sub-result : goal.overflow_sub-result
overflow_sub-result c =
    let all = behind_count c.args.before.now c.args.rows.now c.args.files.now c.len.ensures.distinct c.requires.distinct in
    omega (arith, all, c.len.ensures.len, c.held_count.ensures)

pub returns-then-all-most-clause-many : goal.returns-then-all-most-clause-many
returns-then-all-most-clause-many c =
    let all = behind_count c.args.before.now c.args.rows.now c.args.files.now c.len.ensures.distinct c.requires.distinct in (
      λ t. omega (arith, all, c.len.ensures.len, c.held_count.ensures, ltb-true _ _ t),
      λ many. lt-ltb _ _ (omega (arith, all, c.len.ensures.len, c.held_count.ensures, many)),
    )

pub returns-else-all-most-clause-many : goal.returns-else-all-most-clause-many
returns-else-all-most-clause-many c =
    let all = behind_count c.args.before.now c.args.rows.now c.args.files.now c.len.ensures.distinct c.requires.distinct in (
      λ t. omega (arith, c.if-all-most.false, ltb-true _ _ t),
      λ many. lt-ltb _ _ (omega (arith, all, c.len.ensures.len, c.if-all-most.false, many)),
    )
