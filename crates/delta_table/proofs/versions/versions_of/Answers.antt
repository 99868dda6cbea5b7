use Rattle.std.proofs.Common.{◌≡◌, ◌≤◌, ℕ, All, Contains, List, sym, subst}
use Rattle.std.proofs.lemmas.List.Sorted.{All-permutation, Contains-permutation, IsPermutation-sym}
use Rattle.lake_basics.specs.declared.limits.TheConstants.{MAX_DELTA_VERSION}
use Rattle.delta_table.specs.Versions.{IsNamed}
use Rattle.delta_table.proofs.VersionRuns.{held_alike}
use Rattle.delta_table.proofs.versions.versions_of.Goals as goal

pub last_run-requires-clause-within : goal.last_run-requires-clause-within
last_run-requires-clause-within c =
    let old = c.in_ok-versions.versions.items in
    let new = c.sort_unstable.new.self.items in
    subst (All (λ w. w ≤ MAX_DELTA_VERSION)) (sym c.as_slice.ensures.value) (All-permutation (λ w. w ≤ MAX_DELTA_VERSION) old new c.sort_unstable.ensures.permutation c.in_ok-versions.ensures.within)

pub returns : goal.returns
returns c =
    let names = c.args.names.now in
    let old = c.in_ok-versions.versions.items in
    let new = c.sort_unstable.new.self.items in
    let moved = c.sort_unstable.ensures.permutation in
    let same : c.as_slice.result.now ≡ new = c.as_slice.ensures.value in
    held_alike (Contains c.as_slice.result.now) (IsNamed names)
    (λ v there. c.in_ok-versions.ensures.named v (Contains-permutation new old v (IsPermutation-sym old new moved) (subst (λ (l : List ℕ). Contains l v) same there)))
    (λ v named. subst (λ (l : List ℕ). Contains l v) (sym same) (Contains-permutation old new v moved (c.in_ok-versions.ensures.all v named)))
    c.last_run.result c.last_run.ensures
