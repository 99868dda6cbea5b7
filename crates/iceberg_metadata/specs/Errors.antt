-- How a reading is refused: for want of memory, which nothing says when, or for a cause that the contracts name.
use Rattle.std.specs.Prelude.{Bool, true, false, Result}
use Rattle.lake_basics.specs.Outcome.{GivesUnlessMemory}
use Rattle.iceberg_metadata.specs.declared.error.MetadataError.{MetadataError}
use Rattle.iceberg_metadata.specs.declared.error.MetadataError.TheVariants.{Memory, FormatVersion, Malformed, SchemaType, Transform, Renamed, PartitionType, Limit}

abbrev pub is_memory : MetadataError → Bool
is_memory Memory = true
is_memory FormatVersion = false
is_memory Malformed = false
is_memory SchemaType = false
is_memory Transform = false
is_memory Renamed = false
is_memory PartitionType = false
is_memory (Limit which) = false

-- What a function returned is what the reading gives, unless memory ran out.
abbrev pub Gives : {A : Type 0} → Result A MetadataError → Result A MetadataError → Type 0
Gives result reading = GivesUnlessMemory is_memory (λ a. a) result reading

-- The same, seen by view.
abbrev pub GivesBy : {A B : Type 0} → (A → B) → Result A MetadataError → Result B MetadataError → Type 0
GivesBy view result reading = GivesUnlessMemory is_memory view result reading
