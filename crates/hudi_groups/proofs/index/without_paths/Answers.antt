use Rattle.std.proofs.Common.{◌||◌, ◌&&◌, not, take, sym, ap, ◌∙◌, arith}
use Rattle.std.specs.List.{list_any}
use Rattle.std.proofs.lemmas.List.Folds.{list_any_more}
use Rattle.hudi_groups.specs.GroupIndex.{has_path, is_path_of}
use Rattle.hudi_groups.proofs.GroupIndexLemmas.{and_step}
use Rattle.hudi_groups.proofs.index.without_paths.Goals as goal

pub loop-path-preserved : goal.loop-path-preserved
loop-path-preserved c = λ q p.
    let path = c.path-item.result in
    let before = has_path c.args.index q p in
    let done = list_any (is_path_of q p) (take c.loop-path.path-index c.args.paths.now) in
    c.in_ok-rest.ensures q p
    ∙ (λ i. not (is_path_of q p (c.as_bytes.ensures.value i)) && c.loop-path.invariant q p i)
    ∙ and_step (is_path_of q p path) done before
    ∙ ap (λ b. not (done || b) && before) (ap (is_path_of q p) c.path-item.is)
    ∙ ap (λ b. not b && before) (sym (list_any_more (is_path_of q p) c.args.paths.now c.loop-path.path-index path (omega arith)))
