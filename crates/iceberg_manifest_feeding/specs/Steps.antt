-- What a piece, and the end of the bytes, make of a manifest that comes in pieces.
use Rattle.std.specs.Prelude.{◌≡◌, ◌⊎◌, ℕ, List, [], ◌∷◌, map, Option, Some, None, Result, Ok, Err, IfOk, IfErr}
use Rattle.lake_basics.specs.Outcome.{◌>>=◌, with_fault}
use Rattle.avro_schema.specs.Tree.{SchemaTree}
use Rattle.avro_value.specs.ValueTree.{ValueTree, value_tree}
use Rattle.avro_value.specs.declared.value.Value.{Value}
use Rattle.avro_container.specs.declared.error.ContainerError.{ContainerError}
use Rattle.avro_feeding.specs.Feeding.{Fed, State, ended, fed, joined, schema_of_state, told}
use Rattle.iceberg_manifest.specs.Containers.{container_error}
use Rattle.iceberg_manifest.specs.Entry.{EntryData}
use Rattle.iceberg_manifest.specs.Scans.{entries_of}
use Rattle.iceberg_manifest.specs.declared.error.ManifestError.{ManifestError}
use Rattle.iceberg_manifest.specs.declared.error.ManifestError.TheVariants as errors
use Rattle.iceberg_manifest.specs.declared.partition.PartColumn.{PartColumn}

abbrev pub Entries : Type 0
Entries = Result (List EntryData) ManifestError

-- The entries that these values stand for. There is none before the schema or the first value.
abbrev pub entries_found : List PartColumn → Option SchemaTree → List ValueTree → Entries
entries_found columns None values = Ok []
entries_found columns (Some schema) [] = Ok []
entries_found columns (Some schema) (v ∷ values) = entries_of columns schema (v ∷ values)

-- These entries, or the container's refusal behind them.
abbrev pub unless_refused : List EntryData → State → Entries
unless_refused entries (Ok place) = Ok entries
unless_refused entries (Err refused) = Err (container_error refused.error)

-- The entries of these blocks, or the first fault.
abbrev pub entries_in : List PartColumn → Fed → Entries
entries_in columns r = entries_found columns (schema_of_state r.0) (joined r.1) >>= λ entries. unless_refused entries r.0

-- The schema is that of a manifest, also where there are no values.
abbrev pub schema_judged : List PartColumn → Option SchemaTree → Result (Unit {0}) ManifestError
schema_judged columns None = Ok tt
schema_judged columns (Some schema) = entries_of columns schema [] >>= λ entries. Ok tt

-- The bytes end here.
abbrev pub ended_by : List PartColumn → State → Result (Unit {0}) ManifestError
ended_by columns state = with_fault container_error (ended state) >>= λ _. schema_judged columns (schema_of_state state)

-- All entries, where the bytes end here.
abbrev pub entries_at_end : List PartColumn → List EntryData → State → Entries
entries_at_end columns entries state = ended_by columns state >>= λ _. Ok entries

-- A call of `feed` leaves and answers what the piece makes of what was read, unless memory runs out.
abbrev pub IsFedOn : State → List ℕ → State → Result (List Value) ManifestError → Type 0
IsFedOn old piece now answer = IfOk answer (λ values. (now ≡ (fed old piece).0) × (told (fed old piece) ≡ Ok (map value_tree values))) × IfErr answer (λ e. (e ≡ errors.Memory) ⊎ ((d : ContainerError) × (told (fed old piece) ≡ Err d) × (e ≡ container_error d)))
