use Rattle.std.proofs.Common.{rules, arith}
use Rattle.file_links.proofs.ChainLemmas.{previous_fits, next_fits}
use Rattle.file_links.proofs.chains.detach.Goals as goal

pub put-requires-clause-place : goal.put-requires-clause-place
put-requires-clause-place c = let h = previous_fits c.args.chains.now c.requires.sound c.args.slot c.requires.slot in grind (arith, h)

pub put-requires-2-clause-place : goal.put-requires-2-clause-place
put-requires-2-clause-place c = let h = next_fits c.args.chains.now c.requires.sound c.args.slot c.requires.slot in let e = c.requires.sound.links.previous_length in grind (arith, h, e)

pub returns : goal.returns
returns c = record {
  size = record {
    first_length = grind arith;
    last_length = grind arith;
    count_length = grind arith;
    next_length = grind arith;
    previous_length = grind arith;
    chain_length = search rules;
  };
  next_here = grind arith;
  next_same = grind arith;
  next_apart = grind arith;
  previous_here = grind arith;
  previous_same = grind arith;
  previous_apart = grind arith;
  chain = search rules;
  count = grind arith;
}
