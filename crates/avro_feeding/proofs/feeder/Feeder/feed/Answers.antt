use Rattle.avro_feeding.specs.Calls.{state_of}
use Rattle.avro_feeding.proofs.KeepLemmas.{pieces_kept, pieces_refused}
use Rattle.avro_feeding.proofs.PieceLemmas.{any_cut}
use Rattle.avro_feeding.proofs.feeder.Feeder.feed.Goals as goal

pub returns-clause-any_cut : goal.returns-clause-any_cut
returns-clause-any_cut c = any_cut

pub returns-clause-kept : goal.returns-clause-kept
returns-clause-kept c pieces read small = pieces_kept pieces (state_of c.fed_by-state.result.state) read small

pub returns-clause-next : goal.returns-clause-next
returns-clause-next c pieces read small = pieces_refused pieces (state_of c.fed_by-state.result.state) read small
