-- What the files in a timeline's folder say: a table's properties, and its completed instants (Hudi technical specification, "Table Properties" and "Timeline").
use Rattle.std.specs.Prelude.{◌≡◌, ◌⊎◌, ℕ, false, List, codes, Err, Ok, Some}
use Rattle.std.specs.FinMap as map
use Rattle.lake_store.specs.Disk.{Files}
use Rattle.hudi_instant.specs.Instants.{json_instant}
use Rattle.hudi_properties.specs.Pairs.{properties_of}
use Rattle.hudi_properties.specs.TableProperties.{checked_table}
use Rattle.hudi_names.specs.declared.error.HudiError.{HudiError}
use Rattle.hudi_instant.specs.declared.instant.Instant.{Instant}
use Rattle.hudi_table.specs.Instants.{path_of}
use Rattle.hudi_table.specs.declared.instants.CompletedInstant.{CompletedInstant}
use Rattle.hudi_table.specs.declared.properties.Properties.{Properties}

-- The timeline's file of this name is there, with these bytes.
abbrev pub HoldsFile : Files → List ℕ → List ℕ → Type 0
HoldsFile files name bytes = map.get files (path_of name) ≡ Some bytes

-- The bytes are properties of these pairs, which describe this table and show no feature that isn't read.
abbrev pub ReadsAs : List ℕ → Properties → Type 0
ReadsAs bytes p = (properties_of bytes ≡ Ok p.pairs) × (checked_table p.pairs ≡ Ok p.table)

-- The bytes are no properties, or their pairs show a feature.
abbrev pub HasFault : List ℕ → HudiError → Type 0
HasFault bytes e = (properties_of bytes ≡ Err e) ⊎ ((pairs : List (List ℕ × List ℕ)) × (properties_of bytes ≡ Ok pairs) × (checked_table pairs ≡ Err e))

-- The table's properties are there and say this.
pub record SaysProperties (files : Files) (p : Properties) : Type 0 where
  pub bytes : List ℕ
  pub holds : HoldsFile files (codes "hoodie.properties") bytes
  pub read : ReadsAs bytes p

-- The file of the completed instant is there and says this. A replacecommit beside a commit of the same time says nothing.
pub record SaysInstant (files : Files) (c : CompletedInstant) (i : Instant) : Type 0 where
  pub first : c.is_second ≡ false
  pub bytes : List ℕ
  pub holds : HoldsFile files c.name bytes
  pub reads : json_instant bytes ≡ Ok i
