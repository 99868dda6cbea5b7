use Rattle.std.specs.Prelude.{string_bytes}
use Rattle.target_hudi.proofs.PairLemmas.{joined_more}
use Rattle.target_hudi.proofs.properties.joined_names.Goals as goal

pub loop-name-preserved : goal.loop-name-preserved
loop-name-preserved c =
    joined_more c.args.first.now c.args.others.now c.loop-name.name-index c.name-item.result c.name-item.result c.as_str-in-loop-name.result.now (string_bytes c.loop-name.joined) (string_bytes c.push_str.new.self) (string_bytes c.push_str-in-loop-name.new.self)
    c.loop-name-test.true c.name-item.is c.loop-name.invariant c.in_ok-push_str.ensures.bytes c.in_ok-push_str-2.ensures.bytes c.as_str-in-loop-name.ensures.value
