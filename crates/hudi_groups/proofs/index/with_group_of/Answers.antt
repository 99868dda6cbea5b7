use Rattle.std.proofs.Common.{◌≡◌, ℕ, List, Option, Some, [], ◌∷◌, sym, ap, subst, ◌∙◌}
use Rattle.std.specs.List.{IsDistinct}
use Rattle.std.specs.Option.{option_copied}
use Rattle.std.specs.Str.{bytes_eq}
use Rattle.std.proofs.lemmas.Result.{IfOk-weaker}
use Rattle.hudi_groups.specs.declared.index.Paths.{Paths}
use Rattle.hudi_groups.specs.declared.index.Paths.TheVariants.{One}
use Rattle.hudi_groups.specs.GroupIndex.{keys_in}
use Rattle.hudi_groups.proofs.index.with_group_of.Goals as goal

none_distinct : IsDistinct bytes_eq []
unfolding IsDistinct
none_distinct = tt

one_distinct : (key : List ℕ) → IsDistinct bytes_eq (key ∷ [])
unfolding IsDistinct
one_distinct key = (tt, tt)

distinct_at : (found stands : Option Paths) → found ≡ stands → IsDistinct bytes_eq (keys_in found) → IsDistinct bytes_eq (keys_in stands)
distinct_at found stands is = subst (λ o. IsDistinct bytes_eq (keys_in o)) is

pub returns-in-None-clause-unique : goal.returns-in-None-clause-unique
returns-in-None-clause-unique c = distinct_at _ _ (ap option_copied (sym c.in-None.is) ∙ c.get.ensures.value) none_distinct

pub returns-in-Some-One-clause-unique : goal.returns-in-Some-One-clause-unique
returns-in-Some-One-clause-unique c =
    let path = c.in-Some-One.path in
    IfOk-weaker c.with_row_at.result _ _
    (λ _ _. distinct_at (Some (One path)) _ (ap Some (sym c.in-Some-One.field-0-is) ∙ ap option_copied (sym c.in-Some-One.is) ∙ c.get.ensures.value) (one_distinct path))
    c.with_row_at.ensures
