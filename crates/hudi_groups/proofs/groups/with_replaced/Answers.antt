use Rattle.std.proofs.Common.{◌||◌, take, sym, ap, ◌∙◌, arith}
use Rattle.std.specs.List.{list_any}
use Rattle.std.proofs.lemmas.List.Folds.{list_any_more}
use Rattle.hudi_groups.specs.GroupSets.{has_group, names_group}
use Rattle.hudi_groups.proofs.GroupSetLemmas.{or_last}
use Rattle.hudi_groups.proofs.groups.with_replaced.Goals as goal

pub loop-pair-preserved : goal.loop-pair-preserved
loop-pair-preserved c = λ q.
    let pair = c.pair-item.result in
    let before = has_group c.args.groups q in
    let done = list_any (names_group q) (take c.loop-pair.pair-index c.args.replaced.now) in
    c.in_ok-all.ensures q
    ∙ ap (λ b. names_group q pair || b) (c.loop-pair.invariant q)
    ∙ or_last (names_group q pair) before done
    ∙ ap (λ b. before || (done || b)) (ap (names_group q) c.pair-item.is)
    ∙ ap (λ b. before || b) (sym (list_any_more (names_group q) c.args.replaced.now c.loop-pair.pair-index pair (omega arith)))
