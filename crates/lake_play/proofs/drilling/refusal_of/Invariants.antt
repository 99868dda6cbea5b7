use Rattle.std.proofs.Common.{◌≡◌, ◌++◌, List}
use Rattle.std.specs.List.{AllByRecursion}
use Rattle.target_sync.specs.declared.status.Status.{Status}
use Rattle.lake_play.specs.Drilled.{IsEnded}
use Rattle.lake_play.proofs.drilling.refusal_of.Given as goal

-- the answers so far ended as they may
abbrev pub invariant-loop-answer : goal.invariant-loop-answer
invariant-loop-answer l = (front : List Status) × (l.fn.answers ≡ front ++ l.answer-iterator.rest.items) × AllByRecursion IsEnded front
