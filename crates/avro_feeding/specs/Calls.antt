-- What the calls of a feeder leave and answer.
use Rattle.std.specs.Prelude.{◌≡◌, ◌⊎◌, ℕ, List, map, Option, option_map, Result, Ok, Err}
use Rattle.avro_schema.specs.Tree.{SchemaTree, tree_of}
use Rattle.avro_schema.specs.declared.schema.Schema.{Schema}
use Rattle.avro_value.specs.declared.value.Value.{Value}
use Rattle.avro_value.specs.ValueTree.{ValueTree, value_tree}
use Rattle.avro_container.specs.declared.error.ContainerError.{ContainerError}
use Rattle.avro_container.specs.declared.error.ContainerError.TheVariants as errors
use Rattle.avro_feeding.specs.declared.blocks.BlocksSoFar.{BlocksSoFar}
use Rattle.avro_feeding.specs.declared.feeder.Feeder.{Feeder}
use Rattle.avro_feeding.specs.declared.place.Place.{Place as PlaceParts}
use Rattle.avro_feeding.specs.declared.place.Place.TheVariants as place
use Rattle.avro_feeding.specs.declared.place.Refused.{Refused}
use Rattle.avro_feeding.specs.Feeding.{Behind, Place, Refusal, in_header, in_blocks, State, fed, told, schema_of_state}

-- ---- what a feeder is seen as

abbrev pub option_tree : Option Schema → Option SchemaTree
option_tree schema = option_map tree_of schema

abbrev pub behind_of : BlocksSoFar → Behind
behind_of b = record { schema = tree_of b.schema; marker = b.marker; offset = b.offset; rest = b.rest; budget = b.budget }

abbrev pub place_of : PlaceParts → Place
place_of (place.Header kept) = in_header kept
place_of (place.Blocks b) = in_blocks (behind_of b)

abbrev pub refusal_of : Refused → Refusal
refusal_of r = record { error = r.error; schema = option_tree r.schema }

abbrev pub state_of : Result PlaceParts Refused → State
state_of (Ok p) = Ok (place_of p)
state_of (Err r) = Err (refusal_of r)

-- what a feeder has read, or its refusal
abbrev pub has_read : Feeder → State
has_read f = state_of f.state

-- ---- what a call leaves and answers

-- the values that a call answers, as trees
abbrev pub trees_told : Result (List Value) ContainerError → Result (List ValueTree) ContainerError
trees_told (Ok vs) = Ok (map value_tree vs)
trees_told (Err e) = Err e

-- What a call of `feed` leaves and answers.
abbrev pub Told : Type 0
Told = State × Result (List ValueTree) ContainerError

abbrev pub told_without_memory : Option SchemaTree → Told
told_without_memory schema = (Err (record { error = errors.Memory; schema = schema }), Err errors.Memory)

-- It leaves and answers what the piece makes of what was read. Where memory runs out, that is its refusal, and the schema that was known before or after it stays.
abbrev pub IsFed : State → List ℕ → State → Result (List ValueTree) ContainerError → Type 0
IsFed old piece now answer =
    ◌≡◌ {A = Told} (now, answer) ((fed old piece).0, told (fed old piece))
    ⊎ ◌≡◌ {A = Told} (now, answer) (told_without_memory (schema_of_state old))
    ⊎ ◌≡◌ {A = Told} (now, answer) (told_without_memory (schema_of_state (fed old piece).0))
