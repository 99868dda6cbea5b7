use Rattle.std.proofs.Common.{List, ℕ, ◌≡◌, ◌≢◌, ◌++◌, Some, None, Bor, Option, sym, subst}
use Rattle.std.specs.Prelude.{MatchOption}
use Rattle.std.proofs.lemmas.Bool.Decides.{Decides-eqb}
use Rattle.std.proofs.lemmas.Slice.Eq.{strip_prefix_is, strip_suffix_is}
use Rattle.target_leftovers.proofs.names.between.Goals as goal
use Rattle.lake_basics.proofs.Texts.{between_by}

pub returns-in_err-rest : goal.returns-in_err-rest
returns-in_err-rest c =
    let name = c.args.name.now in
    let front = c.args.front.now in
    let behind = c.args.behind.now in
    let none = strip_prefix_is Decides-eqb name front None c.in_err-rest.ensures.cases in
    subst (λ (r : Option (Bor (List ℕ))). MatchOption r ((middle : List ℕ) → name ≢ front ++ (middle ++ behind)) (λ x. name ≡ front ++ (x.now ++ behind))) (sym c.from_residual.ensures) (λ middle is. none (middle ++ behind) is)

pub returns : goal.returns
returns c =
    let at = strip_prefix_is Decides-eqb c.args.name.now c.args.front.now (Some c.in_ok-rest.rest) c.in_ok-rest.ensures.cases in
    between_by c.args.name.now c.args.front.now c.args.behind.now c.in_ok-rest.rest.now at c.strip_suffix.result (strip_suffix_is Decides-eqb c.in_ok-rest.rest.now c.args.behind.now c.strip_suffix.result c.strip_suffix.ensures.cases)
