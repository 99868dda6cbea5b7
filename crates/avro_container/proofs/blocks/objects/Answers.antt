use Rattle.std.proofs.Common.{◌≡◌, ◌+◌, arith}
use Rattle.avro_container.proofs.Objects.{objects_within, objects_left, objects_fail}
use Rattle.avro_container.proofs.blocks.objects.Goals as goal

pub returns-in-Err-Fault : goal.returns-in-Err-Fault
returns-in-Err-Fault c =
    let h = rw c.in-Err-Fault.field-0-is at c.in-Err-Fault.ensures in
    let w = objects_within _ _ _ _ _ _ h in
    let left : c.saturating_add.result ≡ c.in-Err-Fault.fault.left + c.args.after = omega (arith, w, rw c.in-Err-Fault.field-0-is at c.saturating_add.ensures, c.requires) in
    rw c.in-Err-Fault.field-0-is (objects_fail _ _ _ _ _ _ _ _ h left)

pub overflow_add-result : goal.overflow_add-result
overflow_add-result c = let w = objects_left _ _ _ _ _ _ c.in-Ok.ensures in record { fits = omega (arith, w, c.requires) }
