use Rattle.std.proofs.Common.{◌≤ℤ◌, ◌<ℤ◌, ℤ, Bool, [], ◌∷◌, ◌++◌, Some, arith, subst, sym, w64}
use Rattle.std.proofs.lemmas.Int.{ints, to_z-of_z}
use Rattle.iceberg_version.specs.Manifests.{IsLeastOf, if_any}
use Rattle.iceberg_version.proofs.CountLemmas.{first_number, new_least, same_least}
use Rattle.iceberg_version.proofs.infos.least_with.Goals as goal

pub returns-then-not-any : goal.returns-then-not-any
returns-then-not-any c = λ numbers held.
    subst (λ (n : ℤ). IsLeastOf (numbers ++ c.args.number ∷ []) (Some n)) (sym (to_z-of_z w64 c.args.number c.ranges.number)) (first_number numbers c.args.number (subst (λ (b : Bool). IsLeastOf numbers (if_any b c.args.least)) c.if-not-any.true held))

pub returns-then-number-least : goal.returns-then-number-least
returns-then-number-least c = λ numbers held.
    let t = c.if-number-least.true in
    let less : c.args.number <ℤ c.args.least = omega (arith, ints, t) in
    subst (λ (n : ℤ). IsLeastOf (numbers ++ c.args.number ∷ []) (Some n)) (sym (to_z-of_z w64 c.args.number c.ranges.number)) (new_least numbers c.args.least c.args.number (subst (λ (b : Bool). IsLeastOf numbers (if_any b c.args.least)) c.if-not-any.false held) less)

pub returns-else-number-least : goal.returns-else-number-least
returns-else-number-least c = λ numbers held.
    let f = c.if-number-least.false in
    let less : c.args.least ≤ℤ c.args.number = omega (arith, ints, f) in
    subst (λ (n : ℤ). IsLeastOf (numbers ++ c.args.number ∷ []) (Some n)) (sym (to_z-of_z w64 c.args.least c.ranges.least)) (same_least numbers c.args.least c.args.number (subst (λ (b : Bool). IsLeastOf numbers (if_any b c.args.least)) c.if-not-any.false held) less)
