use Rattle.std.proofs.Common.{drop, take, refl, ap, ◌∙◌}
use Rattle.std.proofs.lemmas.Bool.{false≢true}
use Rattle.delta_compaction.proofs.RangeLemmas.{AreParts, parts_of, range_named}
use Rattle.delta_compaction.proofs.name.range_of_name.Goals.{then-not-is_point-via-then-not-is_point, then-not-is_point-via-else-not-is_point+then-not-is_suffix}
use Rattle.delta_compaction.proofs.name.range_of_name.Goals as goal

pub returns-then-not-is_point : goal.returns-then-not-is_point
returns-then-not-is_point c = λ x y h.
    let parts = parts_of c.args.name.now x y h.padded in
    let digits = c.split_at-2.ensures.back ∙ ap (drop 1) c.split_at.ensures.back in
    elim c.then-not-is_point.branch [
      | then-not-is_point-via-then-not-is_point w ↦ false≢true (w.if-not-is_point.ensures.1 (c.split_at-2.ensures.front ∙ ap (take 1) c.split_at.ensures.back ∙ parts.point))
      | then-not-is_point-via-else-not-is_point+then-not-is_suffix w ↦ false≢true (w.if-not-is_suffix.ensures.1 (c.split_at-3.ensures.back ∙ ap (drop 20) digits ∙ parts.suffix))
    ]

pub returns : goal.returns
returns c =
    let digits = c.split_at-2.ensures.back ∙ ap (drop 1) c.split_at.ensures.back in
    let parts : AreParts c.args.name.now c.split_at.result.0.now c.split_at-2.result.0.now c.split_at-3.result.0.now c.split_at-3.result.1.now = record {
      front_is = c.split_at.ensures.front;
      point_is = c.split_at-2.ensures.front ∙ ap (take 1) c.split_at.ensures.back;
      back_is = c.split_at-3.ensures.front ∙ ap (take 20) digits;
      suffix_is = c.split_at-3.ensures.back ∙ ap (drop 20) digits;
    } in
    range_named c.args.name.now _ _ _ _ c.range_of_digits.result parts (c.if-not-is_point.ensures.0 refl) (c.if-not-is_suffix.ensures.0 refl) c.range_of_digits.ensures
