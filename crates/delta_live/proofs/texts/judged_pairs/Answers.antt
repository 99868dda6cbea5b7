use Rattle.std.proofs.Common.{ℕ, List, Option, Contains, All, take, sym, subst, arith}
use Rattle.std.proofs.lemmas.List.{take_all}
use Rattle.std.proofs.lemmas.List.Elements.{All-push}
use Rattle.std.proofs.lemmas.Result.{err_from_is_err_and}
use Rattle.table_history.specs.declared.feature.Feature.TheVariants.{PartitionValue}
use Rattle.delta_live.specs.RowSteps.{kind_in, PairStands, PairFails}
use Rattle.delta_live.proofs.ValueLemmas.{tells_more}
use Rattle.delta_live.proofs.texts.judged_pairs.Goals as goal
use Rattle.lake_basics.proofs.Lists.{last_of, there_at}

pub returns-in_err-judged_pair-clause-refused : goal.returns-in_err-judged_pair-clause-refused
returns-in_err-judged_pair-clause-refused c =
    let p = err_from_is_err_and c.from_residual.result c.from_residual.ensures.1 in
    rw (p.1, p.2) (tells_more PartitionValue _
    ((pair : List ℕ × Option (List ℕ)) × Contains c.args.pairs.now pair × PairFails (kind_in c.args.kinds.now) pair)
    (λ fails. (c.pair-item.result, there_at c.args.pairs.now c.loop-pair.pair-index c.pair-item.result (omega arith) c.pair-item.is, fails)) _ c.in_err-judged_pair.ensures.refused)

pub loop-pair-preserved : goal.loop-pair-preserved
loop-pair-preserved c =
    subst (All (PairStands (kind_in c.args.kinds.now))) (sym (last_of c.args.pairs.now c.loop-pair.pair-index c.pair-item.result (omega arith) c.pair-item.is))
    (All-push (PairStands (kind_in c.args.kinds.now)) (take c.loop-pair.pair-index c.args.pairs.now) c.pair-item.result c.loop-pair.invariant c.in_ok-judged_pair.ensures.ok)

pub returns-clause-ok : goal.returns-clause-ok
returns-clause-ok c = subst (All (PairStands (kind_in c.args.kinds.now))) (take_all c.loop-pair.pair-index c.args.pairs.now c.loop-pair-test.false) c.loop-pair.invariant
