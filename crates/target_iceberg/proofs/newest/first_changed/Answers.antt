use Rattle.std.proofs.Common.{◌≡◌, ◌+◌, false, List, Contains, take, drop, ap, sym, subst, ◌∙◌}
use Rattle.schema_map.specs.Paths.{Path}
use Rattle.target_core.proofs.Lists.{one_more}
use Rattle.target_iceberg.specs.Newest.{is_changed, shape_at}
use Rattle.target_iceberg.proofs.newest.first_changed.Goals as goal
use Rattle.lake_basics.proofs.Lists.{all_taken, split_of, there_at}

pub loop-path-preserved : goal.loop-path-preserved
loop-path-preserved c =
    let test : Path → _ = λ (path : Path). is_changed (shape_at c.args.newest.now path) (shape_at c.args.stated.now path) in
    one_more (λ (path : Path). test path ≡ false) c.args.paths.now c.loop-path.path-index c.path-item.result c.loop-path-test.true c.path-item.is c.loop-path.invariant
    (ap test (sym c.as_slice.ensures) ∙ sym c.is_changed.ensures ∙ c.if-is_changed.false)

pub top_name-requires : goal.top_name-requires
top_name-requires c =
    let there : Contains c.args.paths.now c.path-item.result = there_at c.args.paths.now c.loop-path.path-index c.path-item.result c.loop-path-test.true c.path-item.is in
    λ none. c.requires c.path-item.result there (sym c.as_slice-then-is_changed.ensures ∙ none)

pub returns-then-is_changed : goal.returns-then-is_changed
returns-then-is_changed c =
    let test : Path → _ = λ (path : Path). is_changed (shape_at c.args.newest.now path) (shape_at c.args.stated.now path) in
    record {
      front = take c.loop-path.path-index c.args.paths.now;
      path = c.path-item.result;
      behind = drop (c.loop-path.path-index + 1) c.args.paths.now;
      split = split_of c.args.paths.now c.loop-path.path-index c.path-item.result c.loop-path-test.true c.path-item.is;
      here = ap test (sym c.as_slice.ensures) ∙ sym c.is_changed.ensures ∙ c.if-is_changed.true;
      none = c.loop-path.invariant;
      below = c.in_ok-top_name.ensures.0;
      is = sym c.as_slice-then-is_changed.ensures ∙ c.in_ok-top_name.ensures.1;
    }

pub returns : goal.returns
returns c = λ path there.
    c.loop-path.invariant path (subst (λ (l : List Path). Contains l path) (sym (all_taken c.args.paths.now c.loop-path.path-index c.loop-path.auto.path-index-end c.loop-path-test.false)) there)
