use Rattle.target_core.proofs.HeldRows.{held_few}
use Rattle.target_delta.proofs.NewVersionLemmas.{text_is}
use Rattle.target_delta.proofs.WritableLemmas.{writable}
use Rattle.target_delta.proofs.version.whole_text.Goals as goal

pub bytes_of-requires : goal.bytes_of-requires
bytes_of-requires c =
    let behind = c.args.behind.now in
    writable behind c.args.change.now c.args.mark.now c.in_ok-written.written c.in_ok-written.ensures.is (c.in_ok-written.ensures.sound c.requires.paths c.requires.partition)
    c.requires.leaves (held_few behind.table.rows behind.rows_held) c.requires.few

pub returns : goal.returns
returns c =
    text_is c.args.behind.now c.args.change.now c.args.mark.now c.args.now_ms c.in_ok-written.written c.bytes_of.result c.in_ok-written.ensures.is c.in_ok-written.ensures.reads_back c.in_ok-written.ensures.spells
    c.bytes_of.ensures.text c.bytes_of.ensures.readable
