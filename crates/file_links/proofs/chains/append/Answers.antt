use Rattle.std.proofs.Common.{arith}
use Rattle.file_links.proofs.ChainLemmas.{last_fits, appends_made}
use Rattle.file_links.proofs.chains.append.Goals as goal

pub put-requires-clause-place : goal.put-requires-clause-place
put-requires-clause-place c = let h = last_fits c.args.chains.now c.requires.sound.links c.args.chain c.requires.chain in grind (arith, h)

pub returns : goal.returns
returns c =
    appends_made c.args.chains.now _ c.args.slot c.args.chain c.at-last.result c.write.new.numbers.items c.requires.sound c.requires.slot c.requires.chain
    (record {
      first_length = grind arith;
      last_length = grind arith;
      count_length = grind arith;
      next_length = grind arith;
      previous_length = grind arith;
      chain_length = grind arith;
    })
    (grind arith)
    (grind arith)
    c.put.ensures.here
    c.put.ensures.same
    c.put.ensures.apart
    (grind arith)
    (grind arith)
    (grind arith)
    (grind arith)
