use Rattle.std.proofs.Common.{◌≤◌, arith}
use Rattle.std.proofs.lemmas.Bool.{leb-true}
use Rattle.iceberg_change.proofs.behind.is_within.Goals as goal

pub returns : goal.returns
returns c = λ yes.
    let within : c.saturating_add.result ≤ 200000 = leb-true c.saturating_add.result 200000 yes in
    omega (arith, c.saturating_sub.ensures, c.saturating_add.ensures, within)
