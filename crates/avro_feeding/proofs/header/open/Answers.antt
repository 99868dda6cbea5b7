use Rattle.std.proofs.Common.{None, refl, sym, ◌∙◌}
use Rattle.avro_feeding.proofs.CallLemmas.{opens_plain, opens_other, opens_waiting, opens_faulty}
use Rattle.avro_feeding.proofs.header.open.Goals as goal

pub returns-in-Ok-judged : goal.returns-in-Ok-judged
returns-in-Ok-judged c = opens_plain c.args.bytes.now c.in-Ok.named c.in-Ok-judged.opened c.in-Ok.ensures c.in-Ok-judged.ensures

pub returns-in-Err : goal.returns-in-Err
returns-in-Err c = opens_other c.args.bytes.now c.in-Ok.named c.in-Err.refused c.in-Ok.ensures c.in-Err.ensures

pub returns-in-None : goal.returns-in-None
returns-in-None c =
    let failed = rw c.in-Err-Fault.field-0-is at c.in-Err-Fault.ensures in
    let refused = rw c.in-Err-Fault.field-0-is at c.refusal.ensures in
    opens_waiting c.args.bytes.now c.in-Err-Fault.fault failed (sym (refused c.args.bytes.now refl) ∙ c.in-None.is)

pub returns-in-Some : goal.returns-in-Some
returns-in-Some c =
    let failed = rw c.in-Err-Fault.field-0-is at c.in-Err-Fault.ensures in
    let refused = rw c.in-Err-Fault.field-0-is at c.refusal.ensures in
    opens_faulty c.args.bytes.now c.in-Err-Fault.fault (record { error = c.in-Some.error; schema = None }) failed (sym (refused c.args.bytes.now refl) ∙ c.in-Some.is) refl
