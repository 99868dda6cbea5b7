use Rattle.std.proofs.Common.{arith}
use Rattle.file_links.proofs.ChainLemmas.{detached_sound, appended_sound, moved}
use Rattle.file_links.proofs.chains.Chains.move_to.Goals as goal

pub append-requires-clause-sound : goal.append-requires-clause-sound
append-requires-clause-sound c = detached_sound c.args.self.now c.detach.new.chains c.args.slot c.requires.sound c.requires.slot c.detach.ensures

pub returns-clause-sound : goal.returns-clause-sound
returns-clause-sound c =
    appended_sound c.detach.new.chains c.append.new.chains c.args.slot c.args.chain
    (detached_sound c.args.self.now c.detach.new.chains c.args.slot c.requires.sound c.requires.slot c.detach.ensures)
    (let e = c.detach.ensures.size.next_length in let h = c.requires.slot in omega (arith, e, h))
    (let e = c.detach.ensures.size.first_length in let h = c.requires.chain in omega (arith, e, h))
    c.append.ensures

pub returns-clause-moves : goal.returns-clause-moves
returns-clause-moves c = moved c.args.self.now c.detach.new.chains c.append.new.chains c.args.slot c.args.chain c.requires.sound c.requires.slot c.requires.chain c.detach.ensures c.append.ensures
