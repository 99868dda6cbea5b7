-- What reading a container promises.
use Rattle.std.specs.Prelude.{◌≡◌, ℕ, ◌-◌, ◌≤◌, ◌⊎◌, List, ◌++◌, length, map, Some, Result, Ok, Err}
use Rattle.avro_schema.specs.Tree.{SchemaTree, tree_of}
use Rattle.avro_value.specs.ValueTree.{ValueTree, value_tree}
use Rattle.avro_container.specs.declared.container.Container.{Container}
use Rattle.avro_container.specs.Format.{Pairs, Header, HasSchema, first_named, codec_name, null_codec, IsContainer}
use Rattle.avro_container.specs.Reading.{Step}
use Rattle.avro_value.specs.Answers.{error_of as value_error}
use Rattle.avro_value.specs.declared.error.AvroError.TheVariants as value_errors
use Rattle.avro_container.specs.declared.error.ContainerError.{ContainerError}
use Rattle.avro_container.specs.declared.error.ContainerError.TheVariants as error
use Rattle.avro_container.specs.declared.fault.Flaw.{Flaw}
use Rattle.avro_container.specs.declared.fault.Flaw.TheVariants as flaw
use Rattle.avro_container.specs.declared.fault.ContainerFault.{ContainerFault}
use Rattle.avro_container.specs.Faults.{IsFirstFlaw}

-- the error of a flaw at that place
abbrev pub flaw_error : Flaw → ℕ → ContainerError
flaw_error flaw.Short at = error.Short at
flaw_error flaw.BadMagic at = error.BadMagic
flaw_error flaw.BadMeta at = error.BadMeta at
flaw_error flaw.BadSchema at = error.BadSchema
flaw_error flaw.Codec at = error.Codec
flaw_error flaw.BadBlock at = error.BadBlock at
flaw_error (flaw.Value r) at = error.Value (value_error r at)
flaw_error flaw.BadSync at = error.BadSync at

-- the error of a fault in an input of that length
abbrev pub error_of : ℕ → ContainerFault → ContainerError
error_of len f = flaw_error f.flaw (len - f.left)

-- The error is that of the input's first flaw, at its place.
pub record IsRefused (limit : ℕ) (bytes : List ℕ) (e : ContainerError) : Type 0 where
  pub fault : ContainerFault
  pub first : IsFirstFlaw limit bytes fault
  pub within : fault.left ≤ length bytes
  pub is : e ≡ error_of (length bytes) fault

-- The refusal is that of objects with too many values.
abbrev pub IsLimit : ContainerError → Type 0
IsLimit e = (at : ℕ) × (e ≡ error.Value (value_errors.Limit at))

-- The bytes are no container, however many values its objects have.
abbrev pub IsNoContainer : ℕ → List ℕ → Type 0
IsNoContainer limit bytes = (meta : Pairs) (t : SchemaTree) (vs : List ValueTree) → IsContainer limit bytes meta t vs → ⊥

-- The header is whole, its schema is read, and the first codec that it names isn't `null`.
pub record HasOtherCodec (limit : ℕ) (bytes : List ℕ) : Type 0 where
  pub meta : Pairs
  pub marker : List ℕ
  pub header : List ℕ
  pub blocks : List ℕ
  pub parts : bytes ≡ header ++ blocks
  pub is_header : Header limit meta marker header
  pub schema : SchemaTree
  pub has_schema : HasSchema meta schema
  pub codec : List ℕ
  pub named : first_named codec_name meta ≡ Some codec
  pub other : codec ≡ null_codec → ⊥

-- what a call over a whole input answers, by what reading gives
abbrev pub Answers : {X A : Type 0} → (X → A) → ℕ → Result X ContainerError → Step A → Type 0
Answers view len (Ok x) reading = reading ≡ Ok (view x)
Answers view len (Err e) reading = (e ≡ error.Memory) ⊎ ((f : ContainerFault) × (reading ≡ Err f) × (e ≡ error_of len f))

-- The container is this one.
pub record IsThat (c : Container) (meta : Pairs) (t : SchemaTree) (vs : List ValueTree) : Type 0 where
  pub metadata : c.meta ≡ meta
  pub schema : tree_of c.schema ≡ t
  pub values : map value_tree c.values ≡ vs
