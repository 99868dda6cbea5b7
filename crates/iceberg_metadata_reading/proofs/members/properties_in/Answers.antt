use Rattle.std.proofs.Common.{◌∙◌}
use Rattle.iceberg_metadata_reading.proofs.AgainLemmas.{property_pushed, own_at_end}
use Rattle.iceberg_metadata_reading.proofs.members.properties_in.Goals as goal

pub loop-name-preserved : goal.loop-name-preserved
loop-name-preserved c =
    property_pushed c.loop-name.name-iterator c.next.new.self (c.in-Some.name.now, c.in-Some.value.now) c.loop-name.properties c.push.new.self c.in_ok-name.name c.in_ok-text_from.field-0 _
    c.in-Some.ensures.steps c.in_ok-push.ensures.ok (c.in_ok-name.ensures ∙ c.as_str.ensures.value) c.in_ok-text_from.ensures c.loop-name.invariant

pub returns-clause-own : goal.returns-clause-own
returns-clause-own c = own_at_end c.args.members.now.entries c.loop-name.name-iterator _ c.len.ensures.ordered c.in-None.ensures.steps.0 c.loop-name.invariant
