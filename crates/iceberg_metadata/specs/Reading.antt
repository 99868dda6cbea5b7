-- What metadata is read as, and why a text isn't read.
use Rattle.std.specs.Prelude.{◌≡◌, ◌≢◌, ◌⊎◌, ℕ, ℤ, pos, List, [], ◌∷◌, Contains, Some}
use Rattle.serde_json.specs.Data.{Data}
use Rattle.json_reading.specs.Json.{json}
use Rattle.table_history.specs.declared.limit.LimitKind.TheVariants.{Columns, Depth, PartitionColumns}
use Rattle.iceberg_metadata.specs.declared.error.MetadataError.{MetadataError}
use Rattle.iceberg_metadata.specs.declared.error.MetadataError.TheVariants.{Memory, FormatVersion, Malformed, SchemaType, Transform, Renamed, PartitionType, Limit}
use Rattle.iceberg_metadata.specs.declared.metadata.Metadata.{Metadata}
use Rattle.iceberg_metadata.specs.Members.{format_version}
use Rattle.iceberg_metadata.specs.Schemas.{SchemaReading, HeldUnread, unread, refusals}
use Rattle.iceberg_metadata.specs.Paths.{all_path_ids, HasOtherTransform, IsRenamed, HasOtherPartition, HasManyPartitionColumns}
use Rattle.iceberg_metadata.specs.Grammar.{IsMetadataText, IsInGrammar}

-- The text is JSON of an object whose format version is a whole number, and another one than 2.
abbrev pub HasOtherVersion : List ℕ → Type 0
HasOtherVersion bytes = (d : Data) × (version : ℤ) × (json bytes ≡ Some d) × (format_version d ≡ Some version) × (version ≢ pos 2)

-- Why what a text says isn't taken over, where these are the held schemas that can't be.
abbrev pub Shows : MetadataError → List HeldUnread → Metadata → Type 0
Shows SchemaType unread m = Contains (refusals unread) SchemaType
Shows Transform unread m = HasOtherTransform m
Shows Renamed unread m = IsRenamed (all_path_ids unread m.schemas)
Shows PartitionType unread m = HasOtherPartition m unread
Shows (Limit which) unread m = Contains (refusals unread) (Limit which) ⊎ ((which ≡ PartitionColumns) × HasManyPartitionColumns m)
Shows _ unread m = ⊥

-- The text is in the grammar, and this is so of what it says.
abbrev pub SaysThat : List ℕ → (List HeldUnread → Metadata → Type 0) → Type 0
SaysThat bytes P = (readings : List SchemaReading) × (m : Metadata) × IsMetadataText bytes readings m × P (unread readings) m

-- why the text isn't read
abbrev pub HasCause : List ℕ → MetadataError → Type 0
HasCause bytes Memory = ⊥
HasCause bytes FormatVersion = HasOtherVersion bytes
HasCause bytes Malformed = ¬ IsInGrammar bytes
HasCause bytes SchemaType = SaysThat bytes (Shows SchemaType)
HasCause bytes Transform = SaysThat bytes (Shows Transform)
HasCause bytes Renamed = SaysThat bytes (Shows Renamed)
HasCause bytes PartitionType = SaysThat bytes (Shows PartitionType)
HasCause bytes (Limit which) = SaysThat bytes (Shows (Limit which))

-- the causes in the order in which they are told
abbrev pub causes : List MetadataError
causes = FormatVersion ∷ Malformed ∷ SchemaType ∷ Transform ∷ Renamed ∷ PartitionType ∷ Limit Columns ∷ Limit Depth ∷ Limit PartitionColumns ∷ []

-- The text is in the grammar, and says this; each held schema can be taken over.
pub record IsRead (bytes : List ℕ) (m : Metadata) : Type 0 where
  pub readings : List SchemaReading
  pub text : IsMetadataText bytes readings m
  pub whole : unread readings ≡ []
