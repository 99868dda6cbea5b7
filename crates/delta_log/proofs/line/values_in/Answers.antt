use Rattle.delta_log.specs.Grammar.{text_or_null}
use Rattle.delta_log.proofs.NameLemmas.{member_pushed}
use Rattle.delta_log.proofs.line.values_in.Goals as goal

pub loop-name-preserved : goal.loop-name-preserved
loop-name-preserved c =
    member_pushed text_or_null c.loop-name.name-iterator c.next.new.self (c.in-Some.name.now, c.in-Some.value.now) c.loop-name.values c.push.new.self c.in_ok-value_pair.field-0 _ c.in-Some.ensures.steps c.in_ok-push.ensures.ok
    c.in_ok-value_pair.ensures c.loop-name.invariant
