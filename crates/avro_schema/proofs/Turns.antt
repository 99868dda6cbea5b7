-- A loop that reads one after another: what it has read, before what the rest gives.
use Rattle.std.proofs.Common.{List, ◌++◌, Ok}
use Rattle.lake_basics.specs.Outcome.{◌>>=◌}
use Rattle.avro_schema.specs.Reading.{State, Reading}

abbrev pub with_turns : {B : Type 0} → List B → Reading (List B × State) → Reading (List B × State)
with_turns front reading = reading >>= λ r. Ok (front ++ r.0, r.1)
