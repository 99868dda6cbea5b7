use Rattle.std.proofs.Common.{All, List, Option, ℕ, OnOk, subst}
use Rattle.delta_live.specs.RowSteps.{kind_in, PairStands}
use Rattle.delta_live.proofs.texts.judged_file.Goals as goal

pub returns-in-Add-clause-ok : goal.returns-in-Add-clause-ok
returns-in-Add-clause-ok c =
    rw (c.in-Add.is) (subst (λ (pairs : List (List ℕ × Option (List ℕ))). OnOk c.judged_pairs.result (All (PairStands (kind_in c.args.kinds.now)) pairs)) c.as_slice.ensures c.judged_pairs.ensures.ok)
