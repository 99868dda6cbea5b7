use Rattle.std.proofs.Common.{refl}
use Rattle.lake_batch.proofs.TopLaws.{one_batch}
use Rattle.lake_batch.proofs.top.run_all.Goals as goal

pub returns-in-Some : goal.returns-in-Some
returns-in-Some g c = record {
  batch = λ place file is. one_batch g.S.Store g.O.Sink _ (g.C.Clock.gives c.args.clock.now) c.args.words.now c.in-Some.place.now c.in-Some.file.now place file c.args.store c.run_file.result.0 c.args.out.now c.run_file.new.out c.run_file.result.1 c.in-Some.ensures is c.run_file.ensures;
  other = λ none. absurd (none c.in-Some.place.now c.in-Some.file.now c.in-Some.ensures);
}

pub returns-in-None : goal.returns-in-None
returns-in-None g c = record {
  batch = λ place file is. absurd (c.in-None.ensures place file is);
  other = λ none. (c.run-status.result, refl, c.run-status.ensures);
}
