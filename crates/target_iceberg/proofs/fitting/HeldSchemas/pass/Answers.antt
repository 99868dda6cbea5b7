use Rattle.std.proofs.Common.{pos, None, subst}
use Rattle.schema_map.specs.Paths.{column_paths}
use Rattle.target_iceberg.specs.Fitting.{HeldState, stated_in}
use Rattle.target_iceberg.specs.Following.{AreHeldBy, IsImageAfter}
use Rattle.target_iceberg.specs.Newest.{IsTop, is_changed, shape_at, with_schema}
use Rattle.target_iceberg.proofs.FollowLemmas.{behind_none, held_still, none_changes, nothing_changes, one_changes}
use Rattle.target_iceberg.proofs.fitting.HeldSchemas.pass.Goals as goal

pub returns-in_default-clause-passed : goal.returns-in_default-clause-passed
returns-in_default-clause-passed c = λ state held ready.
    let none = subst (λ o. IsImageAfter state c.args.commit.now o) c.in_default.is (c.in_ok-image.ensures state ready) in (
      none_changes state c.args.commit.now none.0 none.1,
      subst (λ (s : HeldState). AreHeldBy (shape_at c.args.self.now.newest) c.args.self.now.current c.args.self.now.count s) (behind_none state c.args.commit.now none.0)
          (held_still (shape_at c.args.self.now.newest) c.args.self.now.current c.args.self.now.count state held none.1),
    )

pub returns-in-Some-2-clause-passed : goal.returns-in-Some-2-clause-passed
returns-in-Some-2-clause-passed c = λ state held ready.
    let image = c.in-Some.image in
    let wide = subst (λ o. IsImageAfter state c.args.commit.now o) c.in-Some.is (c.in_ok-image.ensures state ready) in
    let top = subst (λ o. IsTop (λ path. is_changed (shape_at c.args.self.now.newest path) (with_schema None (pos 0, image) path)) (column_paths image) o) c.in-Some-2.is c.in_ok-name.ensures in
    one_changes (shape_at c.args.self.now.newest) c.args.self.now.current c.args.self.now.count state held image (stated_in state c.args.commit.now) wide c.in-Some-2.name top

pub returns-clause-passed : goal.returns-clause-passed
returns-clause-passed c = λ state held ready.
    let image = c.in-Some.image in
    let wide = subst (λ o. IsImageAfter state c.args.commit.now o) c.in-Some.is (c.in_ok-image.ensures state ready) in
    let top = subst (λ o. IsTop (λ path. is_changed (shape_at c.args.self.now.newest path) (with_schema None (pos 0, image) path)) (column_paths image) o) c.in_default-2.is c.in_ok-name.ensures in (
      nothing_changes (shape_at c.args.self.now.newest) c.args.self.now.current c.args.self.now.count state held image (stated_in state c.args.commit.now) wide top,
      c.in_ok-hold.ensures.held state (stated_in state c.args.commit.now) held wide,
    )
