-- What a refused commit that has come tells.
use Rattle.std.proofs.Common.{◌≡◌, ◌<◌, ◌≤◌, ℕ, arith}
use Rattle.std.specs.Prelude.{Err, Ok, Result}
use Rattle.target_core.specs.Outcome.{HasCome, Uncontested}
use Rattle.target_core.specs.declared.target.TargetError.{TargetError}

pub come_uncontested : {T : Type 0} (r : Result T TargetError) (before after : ℕ) → HasCome r before after → Uncontested r
come_uncontested (Ok v) before after come = tt
come_uncontested (Err e) before after come = come.0

pub come_later : {T : Type 0} (r : Result T TargetError) (e : TargetError) (before after : ℕ) → r ≡ Err e → HasCome r before after → before < after
come_later (Ok v) e before after is come = absurd cc
come_later (Err x) e before after is come = come.1

-- it hasn't, where the files hold no more commits than before
pub never_come : {T : Type 0} {A : Type 0} (r : Result T TargetError) (e : TargetError) (before after : ℕ) → r ≡ Err e → after ≤ before → HasCome r before after → A
never_come r e before after is few come =
    let later = come_later r e before after is come in
    absurd (omega (arith, few, later))
