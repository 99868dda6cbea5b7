use Rattle.std.proofs.Common.{◌≡◌, drop}
use Rattle.delta_live.specs.Live.{text_of}
use Rattle.delta_live.proofs.rows.text_of.Given as goal

abbrev pub invariant-loop-pair : goal.invariant-loop-pair
invariant-loop-pair l = text_of l.name (drop l.pair-index l.texts) ≡ text_of l.name l.texts
