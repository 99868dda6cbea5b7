use Rattle.std.proofs.Common.{sym, ◌∙◌, arith}
use Rattle.lake_basics.proofs.Lines.{left_shorter}
use Rattle.delta_compaction.proofs.NewestLemmas.{all_lines_put, so_far_more, so_far_none, strays, within}
use Rattle.delta_compaction.proofs.newest.with_lines.Goals as goal

pub lines-init : goal.lines-init
lines-init c = record { so_far = so_far_none _ _; numbers = omega arith }

pub stray_line-requires : goal.stray_line-requires
stray_line-requires c =
    let so_far = rw c.in-Some.is at c.lines.invariant.so_far in
    within _ _ _ _ _ so_far _ _ c.next_line.ensures.first

pub returns-then-is_stray : goal.returns-then-is_stray
returns-then-is_stray c =
    let so_far = rw c.in-Some.is at c.lines.invariant.so_far in
    strays _ _ _ _ _ so_far _ _ c.next_line.ensures.first _ c.in_ok-kind.ensures (sym c.is_stray.ensures ∙ c.if-is_stray.true) _ _ c.stray_line.ensures.line c.stray_line.ensures.front

pub lines-preserved : goal.lines-preserved
lines-preserved c =
    let so_far = rw c.in-Some.is at c.lines.invariant.so_far in
    let numbers = rw c.in-Some.is at c.lines.invariant.numbers in
    let shorter = left_shorter c.next_line.result.1 _ c.next_line.ensures.shorter in
    record {
      so_far = so_far_more _ _ _ _ _ so_far _ _ c.next_line.ensures.first _ _ c.in_ok-kind.ensures (sym c.is_stray.ensures ∙ c.if-is_stray.false) c.in_ok-newest.ensures;
      numbers = omega (arith, numbers, shorter);
    }

pub returns : goal.returns
returns c = all_lines_put _ _ _ _ (rw c.in_default.is at c.lines.invariant.so_far)
