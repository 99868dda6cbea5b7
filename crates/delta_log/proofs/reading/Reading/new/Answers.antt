use Rattle.delta_log.proofs.SoundLemmas.{sound_nothing}
use Rattle.delta_log.proofs.reading.Reading.new.Goals as goal

pub returns-clause-sound : goal.returns-clause-sound
returns-clause-sound c = sound_nothing c.new.result c.new.ensures
