use Rattle.std.proofs.Common.{◌∙◌, Result, Ok, Err, refl, ap, subst}
use Rattle.lake_batch.specs.Whole.{ReadsFile}
use Rattle.lake_batch.specs.declared.batch.Batch.{Batch}
use Rattle.lake_batch.specs.declared.file.FileError.{FileError}
use Rattle.lake_batch.specs.declared.file.FileError.TheVariants as unread
use Rattle.lake_batch.proofs.top.run_file.Goals as goal

pub returns-in-Ok : goal.returns-in-Ok
returns-in-Ok g c = record {
  seen = c.read_file.new.store;
  answer = Ok c.in-Ok.batch;
  read = subst (λ (r : Result Batch FileError). ReadsFile g.S.Store c.args.place.now c.args.file.now c.args.store c.read_file.new.store r) c.in-Ok.is c.read_file.ensures;
  goes_on = (c.run_batch-store.result.1, refl, c.run_batch-store.ensures);
}

pub returns-in-Err-Memory : goal.returns-in-Err-Memory
returns-in-Err-Memory g c = record {
  seen = c.read_file.new.store;
  answer = Err unread.Memory;
  read = subst (λ (r : Result Batch FileError). ReadsFile g.S.Store c.args.place.now c.args.file.now c.args.store c.read_file.new.store r) (c.in-Err-Memory.is ∙ ap Err c.in-Err-Memory.field-0-is) c.read_file.ensures;
  goes_on = (refl, refl, refl);
}

pub returns-in-Err-Failed : goal.returns-in-Err-Failed
returns-in-Err-Failed g c = record {
  seen = c.read_file.new.store;
  answer = Err unread.Failed;
  read = subst (λ (r : Result Batch FileError). ReadsFile g.S.Store c.args.place.now c.args.file.now c.args.store c.read_file.new.store r) (c.in-Err-Failed.is ∙ ap Err c.in-Err-Failed.field-0-is) c.read_file.ensures;
  goes_on = (c.refuse.result, refl, refl, c.refuse.ensures);
}

pub returns-in-Err-No : goal.returns-in-Err-No
returns-in-Err-No g c = record {
  seen = c.read_file.new.store;
  answer = Err (unread.No c.in-Err-No.why);
  read = subst (λ (r : Result Batch FileError). ReadsFile g.S.Store c.args.place.now c.args.file.now c.args.store c.read_file.new.store r) (c.in-Err-No.is ∙ ap Err c.in-Err-No.field-0-is) c.read_file.ensures;
  goes_on = (refl, c.tell_why.ensures);
}
