use Rattle.std.proofs.Common.{◌≡◌, ◌≢◌, ◌⊎◌, [], ◌∷◌, ℕ, List, Greater, nat_cmp, sym, ap, subst, ◌∙◌, rules}
use Rattle.std.specs.Cmp.Lexicographic.{slice_cmp}
use Rattle.std.specs.Option.{option_copied}
use Rattle.sync_driver.specs.Checked.{IsFirstDifference}
use Rattle.sync_driver.proofs.Differences.{first_lost, first_new, first_none, first_of_both, first_some}
use Rattle.target_sync.proofs.DueToo.{same_rows}
use Rattle.sync_driver.proofs.checking.first_path.Goals as goal

pub returns-in-None-None : goal.returns-in-None-None
returns-in-None-None c = λ held rows leads diff.
    let change = c.args.change.now in
    same_rows held rows change.removed change.added leads (first_none change.removed (sym c.get.ensures ∙ ap option_copied c.in-None-None.is-0))
    (first_none change.added (sym c.get-2.ensures ∙ ap option_copied c.in-None-None.is-1))

pub returns-in-None-Some : goal.returns-in-None-Some
returns-in-None-Some c = λ held rows leads diff.
    let change = c.args.change.now in
    let none = first_none change.removed (sym c.get.ensures ∙ ap option_copied c.in-None-Some.is-0) in
    let some = first_some change.added c.in-None-Some.new.now (sym c.get-2.ensures ∙ ap option_copied c.in-None-Some.is-1) in
    let path_is : c.new.inside.path ≡ c.in-None-Some.new.now.path = search rules in
    subst (IsFirstDifference held rows) (sym path_is)
    (first_new held rows change.removed change.added diff c.in-None-Some.new.now some.0 some.1
    (λ path rest is. let no : [] ≡ path ∷ rest = sym none ∙ is in absurd (cc no)))

pub returns-in-Some-None : goal.returns-in-Some-None
returns-in-Some-None c = λ held rows leads diff.
    let change = c.args.change.now in
    let none = first_none change.added (sym c.get-2.ensures ∙ ap option_copied c.in-Some-None.is-1) in
    let some = first_some change.removed c.in-Some-None.lost.now (sym c.get.ensures ∙ ap option_copied c.in-Some-None.is-0) in
    first_lost held rows change.removed change.added diff c.in-Some-None.lost.now some.0 some.1
    (λ row more is. let no : [] ≡ row ∷ more = sym none ∙ is in absurd (cc no))

pub returns-in-Some-Some : goal.returns-in-Some-Some
returns-in-Some-Some c = λ held rows leads diff.
    let change = c.args.change.now in
    let lost = first_some change.removed c.in-Some-Some.lost.now (sym c.get.ensures ∙ ap option_copied c.in-Some-Some.is-0) in
    let new = first_some change.added c.in-Some-Some.new.now (sym c.get-2.ensures ∙ ap option_copied c.in-Some-Some.is-1) in
    let path_is : c.new-in-Some-Some.inside.path ≡ c.in-Some-Some.new.now.path = search rules in
    let lost_path : List ℕ = c.in-Some-Some.lost.now in
    let found : List ℕ = c.lesser.result.now in
    let which = subst (λ (p : List ℕ). ((found ≡ lost_path) × (slice_cmp nat_cmp lost_path p ≢ Greater)) ⊎ ((found ≡ p) × (slice_cmp nat_cmp lost_path p ≡ Greater))) path_is c.lesser.ensures in
    first_of_both held rows change.removed change.added diff c.in-Some-Some.lost.now lost.0 lost.1 c.in-Some-Some.new.now new.0 new.1 found which
