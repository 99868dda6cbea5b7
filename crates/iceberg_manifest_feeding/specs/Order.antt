-- Why a manifest is refused that is read from its first byte on: the first fault decides, block by block (Avro specification, "Object Container Files"; Apache Iceberg specification, "Manifests").
use Rattle.std.specs.Prelude.{◌≡◌, ◌≢◌, ◌⊎◌, ℕ, true, List, [], ◌∷◌, ◌++◌, length, Err}
use Rattle.avro_value.specs.declared.api.TheConstants.{MAX_VALUES}
use Rattle.avro_value.specs.ValueTree.{ValueTree}
use Rattle.avro_container.specs.Faults.{FaultsInHeader, IsFirstFlaw}
use Rattle.avro_container.specs.Laws.{error_of}
use Rattle.avro_container.specs.declared.fault.ContainerFault.{ContainerFault}
use Rattle.avro_container.specs.declared.fault.Flaw.TheVariants as flaw
use Rattle.avro_feeding.specs.Feeding.{Behind, joined}
use Rattle.avro_feeding.specs.Laws.{FaultsNext, StandsBehind, is_header_flaw}
use Rattle.iceberg_manifest.specs.Containers.{container_error}
use Rattle.iceberg_manifest.specs.Scans.{entries_of}
use Rattle.iceberg_manifest.specs.declared.error.ManifestError.{ManifestError}
use Rattle.iceberg_manifest.specs.declared.error.ManifestError.TheVariants as errors
use Rattle.iceberg_manifest.specs.declared.partition.PartColumn.{PartColumn}
use Rattle.iceberg_manifest_feeding.specs.Feeding.{AreReadable}

-- ---- faults that show whatever bytes follow

-- The header is at fault, or the schema or the codec that it names.
abbrev pub IsHeaderFault : List ℕ → ManifestError → Type 0
IsHeaderFault bytes e = (f : ContainerFault) × IsFirstFlaw MAX_VALUES bytes f × (is_header_flaw f.flaw ≡ true) × (e ≡ container_error (error_of (length bytes) f))

-- The values of the blocks in front are entries, and the next block is at fault.
pub record IsBlockFault (columns : List PartColumn) (bytes : List ℕ) (e : ManifestError) : Type 0 where
  pub front : List (List ValueTree)
  pub behind : Behind
  pub stands : StandsBehind bytes front behind
  pub readable : AreReadable columns behind.schema front
  pub fault : ContainerFault
  pub next : FaultsNext behind fault
  pub whole : fault.flaw ≢ flaw.Short
  pub is : e ≡ container_error (error_of (length bytes) fault)

-- The values of the blocks in front are entries, and with those of the next block, which has some, they are none.
pub record IsValueFault (columns : List PartColumn) (bytes : List ℕ) (e : ManifestError) : Type 0 where
  pub front : List (List ValueTree)
  pub last : List ValueTree
  pub behind : Behind
  pub stands : StandsBehind bytes (front ++ last ∷ []) behind
  pub readable : AreReadable columns behind.schema front
  pub some : last ≢ []
  pub refused : entries_of columns behind.schema (joined (front ++ last ∷ [])) ≡ Err e

-- The first fault of the bytes is this one, whatever bytes follow.
abbrev pub IsFaultWithin : List PartColumn → List ℕ → ManifestError → Type 0
IsFaultWithin columns bytes e = IsHeaderFault bytes e ⊎ IsBlockFault columns bytes e ⊎ IsValueFault columns bytes e

-- ---- faults of bytes that end here

-- They end inside the header.
abbrev pub IsCutInHeader : List ℕ → ManifestError → Type 0
IsCutInHeader bytes e = (f : ContainerFault) × FaultsInHeader MAX_VALUES bytes f × (f.flaw ≡ flaw.Short) × (e ≡ errors.Malformed)

-- The values of the blocks in front are entries, and the bytes end inside the next block.
pub record IsCutInBlock (columns : List PartColumn) (bytes : List ℕ) (e : ManifestError) : Type 0 where
  pub front : List (List ValueTree)
  pub behind : Behind
  pub stands : StandsBehind bytes front behind
  pub readable : AreReadable columns behind.schema front
  pub begun : behind.rest ≢ []
  pub fault : ContainerFault
  pub next : FaultsNext behind fault
  pub short : fault.flaw ≡ flaw.Short
  pub is : e ≡ errors.Malformed

-- The bytes are a container without values, whose schema is refused.
pub record IsSchemaFault (columns : List PartColumn) (bytes : List ℕ) (e : ManifestError) : Type 0 where
  pub front : List (List ValueTree)
  pub behind : Behind
  pub stands : StandsBehind bytes front behind
  pub ends : behind.rest ≡ []
  pub none : joined front ≡ []
  pub refused : entries_of columns behind.schema [] ≡ Err e

abbrev pub IsFaultAtEnd : List PartColumn → List ℕ → ManifestError → Type 0
IsFaultAtEnd columns bytes e = IsCutInHeader bytes e ⊎ IsCutInBlock columns bytes e ⊎ IsSchemaFault columns bytes e

-- ---- the whole

-- The bytes are no manifest, and their first fault in reading order is this one.
abbrev pub IsRefusedInOrder : List PartColumn → List ℕ → ManifestError → Type 0
IsRefusedInOrder columns bytes e = IsFaultWithin columns bytes e ⊎ IsFaultAtEnd columns bytes e
