-- The formats that a command may name, and which source and target are meant by each of them.
use Rattle.std.specs.Prelude.{◌≡◌, ℕ, List}
use Rattle.source_core.specs.declared.source.Source as sources
use Rattle.source_delta.specs.declared.source.DeltaSource.{DeltaSource}
use Rattle.source_hudi.specs.declared.source.HudiSource.{HudiSource}
use Rattle.source_iceberg.specs.declared.source.IcebergSource.{IcebergSource}
use Rattle.table_history.specs.declared.kind.Kind.{Kind}
use Rattle.table_history.specs.declared.kind.Kind.TheVariants.{Delta, Hudi, Iceberg}
use Rattle.target_core.specs.declared.target.Target as targets
use Rattle.target_delta.specs.TableId.{table_id}
use Rattle.target_delta.specs.declared.kept.DeltaKept.{DeltaKept}
use Rattle.target_delta.specs.declared.target.DeltaTarget.{DeltaTarget}
use Rattle.target_hudi.specs.TableName.{IsTableName}
use Rattle.target_hudi.specs.declared.kept.HudiKept.{HudiKept}
use Rattle.target_hudi.specs.declared.target.HudiTarget.{HudiTarget}
use Rattle.iceberg_version.specs.declared.kept.IcebergKept.{IcebergKept}
use Rattle.target_iceberg.specs.TableId as iceberg
use Rattle.target_iceberg.specs.declared.target.IcebergTarget.{IcebergTarget}
use Rattle.target_sync.specs.Sources.{SourceMeaning, source_meaning}
use Rattle.target_sync.specs.Targets.{TargetFacts, target_facts}

-- what the files of each format mean to its source and to its target
pub record Formats : Type 1 where
  pub delta : sources.Ghosts DeltaSource
  pub hudi : sources.Ghosts HudiSource
  pub iceberg : sources.Ghosts IcebergSource
  pub to_delta : targets.Ghosts DeltaTarget DeltaKept
  pub to_hudi : targets.Ghosts HudiTarget HudiKept
  pub to_iceberg : targets.Ghosts IcebergTarget IcebergKept

-- this is so of a source of the format
abbrev pub FromSource : Formats → Kind → (SourceMeaning → Type 0) → Type 0
FromSource formats Delta P = (source : DeltaSource) × P (source_meaning formats.delta source)
FromSource formats Hudi P = (source : HudiSource) × P (source_meaning formats.hudi source)
FromSource formats Iceberg P = (source : IcebergSource) × P (source_meaning formats.iceberg source)

-- this is so of the format's target at this location
abbrev pub ToTarget : Formats → List ℕ → Kind → (TargetFacts → Type 0) → Type 0
ToTarget formats place Delta P = (target : DeltaTarget) × (target.id ≡ table_id place) × P (target_facts formats.to_delta target)
ToTarget formats place Hudi P = (target : HudiTarget) × IsTableName place target.name × P (target_facts formats.to_hudi target)
ToTarget formats place Iceberg P = (target : IcebergTarget) × (target.id ≡ iceberg.table_id place) × (target.location ≡ place) × P (target_facts formats.to_iceberg target)
