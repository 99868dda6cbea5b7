use Rattle.std.proofs.Common.{ap, sym, ◌∙◌, map}
use Rattle.std.proofs.lemmas.List.{drop_all}
use Rattle.target_iceberg.specs.Newest.{shape_at, with_schemas}
use Rattle.target_iceberg.proofs.NewestLemmas.{none_kept, one_schema_more}
use Rattle.target_iceberg.proofs.newest.newest_shapes.Goals as goal

pub loop-held-init : goal.loop-held-init
loop-held-init c = λ path. ap (λ o. with_schemas o (map (λ s. (s.0, s.1)) c.args.schemas.now) path) (none_kept c.new-newest.result c.new-newest.ensures.empty path)

pub loop-held-preserved : goal.loop-held-preserved
loop-held-preserved c = λ path.
    one_schema_more (λ s. (s.0, s.1)) c.args.schemas.now c.loop-held.held-index c.held-item.result (shape_at c.loop-held.newest path) (shape_at c.keep_held.new.newest path) path c.loop-held-test.true c.held-item.is
    (c.in_ok-keep_held.ensures path)
    ∙ c.loop-held.invariant path

pub returns : goal.returns
returns c = λ path.
    sym (ap (λ l. with_schemas (shape_at c.loop-held.newest path) (map (λ s. (s.0, s.1)) l) path) (drop_all c.loop-held.held-index c.args.schemas.now c.loop-held-test.false)) ∙ c.loop-held.invariant path
