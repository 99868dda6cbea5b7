use Rattle.hudi_instant.proofs.GrammarLemmas.{grammar_of, sound_of, refuses_of}
use Rattle.hudi_instant.proofs.instant.read_instant.Goals as goal

pub returns : goal.returns
returns c =
    let bytes = c.args.bytes.now in
    let reading = c.instant_of.ensures in
    record { reading = reading; grammar = grammar_of c.instant_of.result bytes reading; sound = sound_of c.instant_of.result bytes reading; malformed = refuses_of c.instant_of.result bytes reading }
