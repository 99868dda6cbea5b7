use Rattle.std.proofs.Common.{◌∷◌, [], ◌++◌, refl}
use Rattle.iceberg_table.proofs.EachLaws.{left_moved, left_next}
use Rattle.lake_play.specs.Drilled.{IsEnded}
use Rattle.lake_play.proofs.Ends.{all_push}
use Rattle.lake_play.proofs.drilling.refusal_of.Goals as goal

pub loop-answer-preserved : goal.loop-answer-preserved
loop-answer-preserved c =
    let was = c.loop-answer.invariant in
    let x = c.in-Some.answer in
    let split = left_next c.args.answers was.0 c.loop-answer.answer-iterator.rest.items c.next.new.self.rest.items x was.1 c.in-Some.ensures.steps.0 in (
      was.0 ++ x ∷ [],
      left_moved c.args.answers was.0 c.next.new.self.rest.items x split,
      all_push IsEnded was.0 x was.2 (c.if-not-is_ended.ensures.yes refl),
    )
