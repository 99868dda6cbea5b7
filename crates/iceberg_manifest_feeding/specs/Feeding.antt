-- A manifest whose bytes come in pieces: what has been read of it (Apache Iceberg specification, "Manifests").
use Rattle.std.specs.Prelude.{◌≡◌, ◌⊎◌, ℕ, List, [], Ok}
use Rattle.avro_schema.specs.Tree.{SchemaTree}
use Rattle.avro_value.specs.ValueTree.{ValueTree}
use Rattle.avro_feeding.specs.Calls.{has_read}
use Rattle.avro_feeding.specs.Feeding.{Fed, Place, State, in_blocks, in_header, joined, fed, nothing_read}
use Rattle.iceberg_manifest.specs.Entry.{EntryData}
use Rattle.iceberg_manifest.specs.Scans.{entries_of}
use Rattle.iceberg_manifest.specs.declared.partition.PartColumn.{PartColumn}
use Rattle.iceberg_manifest_feeding.specs.declared.feeder.ManifestFeeder.{ManifestFeeder}

-- what a feeder is seen as: what has been read of the container, and the entries of its blocks
pub record SoFar : Type 0 where
  pub container : State
  pub entries : List EntryData

abbrev pub so_far : ManifestFeeder → SoFar
so_far f = record { container = has_read f.feeder; entries = f.entries.items }

-- The values of these blocks stand for these entries. Where there is no value yet, the schema isn't judged.
abbrev pub AreEntriesOf : List PartColumn → SchemaTree → List (List ValueTree) → List EntryData → Type 0
AreEntriesOf columns schema blocks entries = ((joined blocks ≡ []) × (entries ≡ [])) ⊎ (entries_of columns schema (joined blocks) ≡ Ok entries)

abbrev pub AreReadable : List PartColumn → SchemaTree → List (List ValueTree) → Type 0
AreReadable columns schema blocks = (entries : List EntryData) × AreEntriesOf columns schema blocks entries

-- No entry stands in the header.
abbrev pub AreEntriesAt : List PartColumn → Place → List (List ValueTree) → List EntryData → Type 0
AreEntriesAt columns (in_header kept) blocks entries = entries ≡ []
AreEntriesAt columns (in_blocks b) blocks entries = AreEntriesOf columns b.schema blocks entries

-- Just these bytes have been read, and nothing in them is refused: where the container waits for more, and the entries of its whole blocks.
pub record HasRead (columns : List PartColumn) (bytes : List ℕ) (now : SoFar) : Type 0 where
  pub place : Place
  pub blocks : List (List ValueTree)
  pub read : ◌≡◌ {A = Fed} (fed nothing_read bytes) (Ok place, blocks)
  pub waits : ◌≡◌ {A = State} now.container (Ok place)
  pub entries : AreEntriesAt columns place blocks now.entries
