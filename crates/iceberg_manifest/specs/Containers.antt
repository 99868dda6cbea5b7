-- What a file of Avro values gives, by what its schema and values stand for (Avro specification, "Object
-- Container Files").
use Rattle.std.specs.Prelude.{◌≡◌, ℕ, ◌⊎◌, List, map, Result, Ok, Err}
use Rattle.avro_schema.specs.Tree.{SchemaTree, tree_of}
use Rattle.avro_value.specs.ValueTree.{ValueTree, value_tree}
use Rattle.avro_value.specs.declared.error.AvroError.{AvroError}
use Rattle.avro_value.specs.declared.error.AvroError.TheVariants as values
use Rattle.avro_container.specs.Format.{Pairs, IsWithin}
use Rattle.avro_container.specs.Laws.{IsRefused}
use Rattle.avro_container.specs.declared.container.Container.{Container}
use Rattle.avro_container.specs.declared.error.ContainerError.{ContainerError}
use Rattle.avro_container.specs.declared.error.ContainerError.TheVariants as container
use Rattle.table_history.specs.declared.limit.LimitKind.TheVariants.{Values}
use Rattle.iceberg_manifest.specs.declared.error.ManifestError.{ManifestError}
use Rattle.iceberg_manifest.specs.declared.error.ManifestError.TheVariants as errors

-- what values of a schema stand for
abbrev pub Scan : Type 0 → Type 0
Scan B = SchemaTree → List ValueTree → Result B ManifestError

-- The bytes are a container of no more values than the limit, and its values stand for this.
pub record StandsFor {B : Type 0} (limit : ℕ) (scan : Scan B) (bytes : List ℕ) (x : B) : Type 0 where
  pub meta : Pairs
  pub schema : SchemaTree
  pub values : List ValueTree
  pub container : IsWithin limit bytes meta schema values
  pub read : scan schema values ≡ Ok x

-- The bytes are a container of no more values than the limit, and its values are refused so.
pub record HasFaultyValues {B : Type 0} (limit : ℕ) (scan : Scan B) (bytes : List ℕ) (e : ManifestError) : Type 0 where
  pub meta : Pairs
  pub schema : SchemaTree
  pub values : List ValueTree
  pub container : IsWithin limit bytes meta schema values
  pub read : scan schema values ≡ Err e

abbrev pub value_error : AvroError → ManifestError
value_error (values.Limit at) = errors.Limit Values
value_error _ = errors.Malformed

-- another codec and too many values have words of their own
abbrev pub container_error : ContainerError → ManifestError
container_error container.Memory = errors.Memory
container_error container.Codec = errors.Codec
container_error (container.Value e) = value_error e
container_error _ = errors.Malformed

-- The first flaw of the bytes as a container has this error.
abbrev pub IsNoContainer : ℕ → List ℕ → ManifestError → Type 0
IsNoContainer limit bytes e = (flaw : ContainerError) × IsRefused limit bytes flaw × (e ≡ container_error flaw)

-- The bytes are refused so: as a container, or else for its values.
abbrev pub IsRefusedBy : {B : Type 0} → ℕ → Scan B → List ℕ → ManifestError → Type 0
IsRefusedBy limit scan bytes e = IsNoContainer limit bytes e ⊎ HasFaultyValues limit scan bytes e

-- the same over what reading a container gave
abbrev pub scan_of : {B : Type 0} → Scan B → Result Container ContainerError → Result B ManifestError
scan_of scan (Ok c) = scan (tree_of c.schema) (map value_tree c.values)
scan_of scan (Err flaw) = Err (container_error flaw)
