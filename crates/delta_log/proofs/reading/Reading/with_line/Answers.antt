use Rattle.std.proofs.Common.{subst, sym, ◌∙◌}
use Rattle.delta_log.specs.Sound.{IsWritable}
use Rattle.delta_log.proofs.SoundLemmas.{sound_addition}
use Rattle.delta_log.proofs.reading.Reading.with_line.Goals as goal

pub returns-clause-sound : goal.returns-clause-sound
returns-clause-sound c =
    let before = subst IsWritable (sym c.take_space.ensures) c.requires in
    subst IsWritable (sym (c.keep_space.ensures ∙ c.in_ok-longer.ensures)) (sound_addition _ c.in_ok-addition.addition before c.in_ok-addition.ensures.sound)
