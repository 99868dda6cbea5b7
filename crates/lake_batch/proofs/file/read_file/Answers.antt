use Rattle.std.proofs.Common.{◌≡◌, ◌∙◌, List, ℕ, Some, Result, Ok, Err, ap, subst}
use Rattle.lake_basics.specs.declared.outcome.ReadError.{ReadError}
use Rattle.lake_basics.specs.declared.outcome.ReadError.TheVariants as errors
use Rattle.lake_batch.specs.Batch.{IsReadBy}
use Rattle.lake_batch.specs.declared.batch.Batch.{Batch}
use Rattle.lake_batch.specs.declared.batch.Why.{Why}
use Rattle.lake_batch.proofs.FileLaws.{has_bytes, has_failed, has_no_memory, has_none}
use Rattle.lake_batch.proofs.file.read_file.Goals as goal

pub returns-in-Ok : goal.returns-in-Ok
returns-in-Ok g c =
    let is : c.read_part.result ≡ Ok (Some c.in-Ok-Some.bytes) = c.in-Ok-Some.is ∙ ap Ok c.in-Ok-Some.field-0-is in
    let by : IsReadBy c.args.place.now c.in-Ok-Some.bytes (Ok c.in-Ok.batch) =
    subst (λ (b : List ℕ). IsReadBy c.args.place.now b (Ok c.in-Ok.batch)) c.as_slice.ensures.value c.in-Ok.ensures in
    has_bytes g.S.Store g.met.S.Store.only_now c.args.place.now c.args.file.now c.args.store.now c.read_part.new.self c.read_part.result c.read_part.ensures.bytes c.read_part.ensures.same c.read_part.ensures.elapses c.read_part.ensures.cause c.read_part.ensures.contest
    c.in-Ok-Some.bytes (Ok c.in-Ok.batch) is by

pub returns-in-Err-Memory : goal.returns-in-Err-Memory
returns-in-Err-Memory g c = has_no_memory g.S.Store g.met.S.Store.only_now c.args.place.now c.args.file.now c.args.store.now c.read_part.new.self c.read_part.result c.read_part.ensures.bytes c.read_part.ensures.same c.read_part.ensures.elapses c.read_part.ensures.cause c.read_part.ensures.contest

pub returns-in-Ok-Some : goal.returns-in-Ok-Some
returns-in-Ok-Some g c =
    let is : c.read_part.result ≡ Ok (Some c.in-Ok-Some.bytes) = c.in-Ok-Some.is ∙ ap Ok c.in-Ok-Some.field-0-is in
    let fault : c.read_tables.result ≡ Err (errors.Fault c.in-Err-Fault.why) = c.in-Err-Fault.is ∙ ap Err c.in-Err-Fault.field-0-is in
    let read : IsReadBy c.args.place.now c.as_slice.result.now (Err (errors.Fault c.in-Err-Fault.why)) =
    subst (λ (r : Result Batch (ReadError Why)). IsReadBy c.args.place.now c.as_slice.result.now r) fault c.read_tables.ensures in
    let by : IsReadBy c.args.place.now c.in-Ok-Some.bytes (Err (errors.Fault c.in-Err-Fault.why)) =
    subst (λ (b : List ℕ). IsReadBy c.args.place.now b (Err (errors.Fault c.in-Err-Fault.why))) c.as_slice.ensures.value read in
    has_bytes g.S.Store g.met.S.Store.only_now c.args.place.now c.args.file.now c.args.store.now c.read_part.new.self c.read_part.result c.read_part.ensures.bytes c.read_part.ensures.same c.read_part.ensures.elapses c.read_part.ensures.cause c.read_part.ensures.contest
    c.in-Ok-Some.bytes (Err (errors.Fault c.in-Err-Fault.why)) is by

pub returns-in-Ok-None : goal.returns-in-Ok-None
returns-in-Ok-None g c = has_none g.S.Store g.met.S.Store.only_now c.args.place.now c.args.file.now c.args.store.now c.read_part.new.self c.read_part.result c.read_part.ensures.bytes c.read_part.ensures.same c.read_part.ensures.elapses c.read_part.ensures.cause c.read_part.ensures.contest
    (c.in-Ok-None.is ∙ ap Ok c.in-Ok-None.field-0-is)

pub returns-in-Err-Failed : goal.returns-in-Err-Failed
returns-in-Err-Failed g c = has_failed g.S.Store g.met.S.Store.only_now c.args.place.now c.args.file.now c.args.store.now c.read_part.new.self c.read_part.result c.read_part.ensures.bytes c.read_part.ensures.same c.read_part.ensures.elapses c.read_part.ensures.cause c.read_part.ensures.contest
    (c.in-Err-Failed.is ∙ ap Err c.in-Err-Failed.field-0-is)

pub returns : goal.returns
returns g c = has_no_memory g.S.Store g.met.S.Store.only_now c.args.place.now c.args.file.now c.args.store.now c.read_part.new.self c.read_part.result c.read_part.ensures.bytes c.read_part.ensures.same c.read_part.ensures.elapses c.read_part.ensures.cause c.read_part.ensures.contest
