use Rattle.std.proofs.Common.{◌≡◌, ◌≤◌, List, ℕ, filter, length, sym, ap, subst, ◌∙◌}
use Rattle.std.specs.List.{IsDistinct}
use Rattle.std.specs.Str.{bytes_eq}
use Rattle.target_core.proofs.RowPaths.{is_lost}
use Rattle.target_hudi.proofs.ReplacedLemmas.{filter_few, lost_are}
use Rattle.target_hudi.proofs.replaced.lost_paths.Goals as goal
use Rattle.lake_basics.proofs.Texts.{distinct_filter}
use Rattle.lake_basics.proofs.Lists.{all_taken}

pub returns-clause-paths : goal.returns-clause-paths
returns-clause-paths c =
    let removed = c.args.removed.now in
    let whole : c.loop-path.lost.items ≡ filter (is_lost c.args.after.now) removed = c.loop-path.invariant ∙ ap (λ (l : List (List ℕ)). filter (is_lost c.args.after.now) l) (all_taken removed c.loop-path.path-index c.loop-path.auto.path-index-end c.loop-path-test.false) in
    lost_are c.args.after.now removed c.loop-path.lost.items whole

pub returns-clause-distinct : goal.returns-clause-distinct
returns-clause-distinct c =
    let removed = c.args.removed.now in
    let whole : c.loop-path.lost.items ≡ filter (is_lost c.args.after.now) removed = c.loop-path.invariant ∙ ap (λ (l : List (List ℕ)). filter (is_lost c.args.after.now) l) (all_taken removed c.loop-path.path-index c.loop-path.auto.path-index-end c.loop-path-test.false) in
    subst (λ (l : List (List ℕ)). IsDistinct bytes_eq l) (sym whole) (distinct_filter (is_lost c.args.after.now) removed c.requires)

pub returns-clause-few : goal.returns-clause-few
returns-clause-few c =
    let removed = c.args.removed.now in
    let whole : c.loop-path.lost.items ≡ filter (is_lost c.args.after.now) removed = c.loop-path.invariant ∙ ap (λ (l : List (List ℕ)). filter (is_lost c.args.after.now) l) (all_taken removed c.loop-path.path-index c.loop-path.auto.path-index-end c.loop-path-test.false) in
    subst (λ (l : List (List ℕ)). length l ≤ length removed) (sym whole) (filter_few (is_lost c.args.after.now) removed)
