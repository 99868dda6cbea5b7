-- What the files of the Delta source and of its two targets mean, and why they aren't published to.
use Rattle.std.specs.Prelude.{ℕ, List, codes}
use Rattle.iceberg_commit.specs.NextVersion as iceberg_types
use Rattle.iceberg_version.specs.KeptEnd as iceberg_kept
use Rattle.iceberg_version.specs.Writing as iceberg_writing
use Rattle.iceberg_version.specs.declared.kept.IcebergKept.{IcebergKept}
use Rattle.source_delta.specs.Heads.{IsAbsent, IsDeltaHead, IsTableAtHead}
use Rattle.source_delta.specs.Histories.{HoldsHistory}
use Rattle.source_delta.specs.Reading.{ShowsAtHead, ShowsFromScratch}
use Rattle.source_delta.specs.Since.{IsSince, Reaches, ShowsFromPosition}
use Rattle.table_history.specs.declared.kind.Kind.TheVariants.{Delta, Hudi, Iceberg}
use Rattle.target_core.specs.declared.target.Target.{Ghosts}
use Rattle.target_hudi.specs.Fitting as hudi_fitting
use Rattle.target_hudi.specs.HudiMeaning as hudi
use Rattle.target_hudi.specs.Inspecting as hudi_inspecting
use Rattle.target_hudi.specs.Kept as hudi_kept
use Rattle.target_hudi.specs.Reading as hudi_reading
use Rattle.target_hudi.specs.Writes as hudi_writes
use Rattle.target_hudi.specs.Writing as hudi_writing
use Rattle.target_hudi.specs.declared.kept.HudiKept.{HudiKept}
use Rattle.target_hudi.specs.declared.target.HudiTarget.{HudiTarget}
use Rattle.target_iceberg.specs.Fitting as iceberg_fitting
use Rattle.target_iceberg.specs.Inspecting as iceberg_inspecting
use Rattle.target_iceberg.specs.Kept as iceberg_standing
use Rattle.target_iceberg.specs.Reached as iceberg_reached
use Rattle.target_iceberg.specs.Reading as iceberg_reading
use Rattle.target_iceberg.specs.Writes as iceberg_writes
use Rattle.target_iceberg.specs.declared.target.IcebergTarget.{IcebergTarget}
use Rattle.target_sync.specs.Sources.{SourceMeaning}

-- the Delta source
abbrev pub from_delta : SourceMeaning
from_delta = record {
  kind = Delta;
  is_absent = IsAbsent;
  is_head = IsDeltaHead;
  is_table = IsTableAtHead;
  reaches = Reaches;
  is_since = IsSince;
  holds = HoldsHistory;
  at_head = ShowsAtHead;
  from_scratch = ShowsFromScratch;
  from_position = ShowsFromPosition;
}

-- the Hudi targets
abbrev pub to_hudi : Ghosts HudiTarget HudiKept
to_hudi = record {
  kind = λ t. Hudi;
  image = λ t schema. hudi.image schema;
  reads = λ t files view. hudi_reading.Reads files view;
  commits_in = λ t files. hudi_reading.commits_in files;
  is_foreign = λ t source files path. hudi_inspecting.IsForeign source files path;
  is_crowded = λ t source files which number. hudi_inspecting.IsCrowded source files which number;
  unfit = λ t kept partition commits e. hudi_fitting.Unfit (hudi_kept.held_of kept) partition commits e;
  passes = λ t kept files origin now commits which number. hudi_writing.Passes files (hudi_kept.end_of t.name kept) origin now commits which number;
  carries = λ t files number change standing. hudi_reading.IsCarried files number change standing;
  writes = λ t kept before origin now commit after. hudi_writes.Writes t.name kept before origin now commit after;
  reached = λ t files path. hudi_reading.IsReached files path;
  settled = λ t disk. hudi_reading.IsSettledTarget disk;
  counted = λ t kept files. hudi_kept.IsCounted kept files;
  stands_for = λ t kept files. hudi_kept.StandsFor kept files;
  view = λ t kept. hudi_kept.view_of kept;
}

-- the Iceberg targets
abbrev pub to_iceberg : Ghosts IcebergTarget IcebergKept
to_iceberg = record {
  kind = λ t. Iceberg;
  image = λ t schema. iceberg_types.image schema;
  reads = λ t files view. iceberg_reading.Reads files view;
  commits_in = λ t files. iceberg_reading.commits_in files;
  is_foreign = λ t source files path. iceberg_inspecting.IsForeign source files path;
  is_crowded = λ t source files which number. iceberg_inspecting.IsCrowded source files which number;
  unfit = λ t kept partition commits e. iceberg_fitting.Unfit (iceberg_fitting.state_of kept) partition commits e;
  passes = λ t kept files origin now commits which number. iceberg_writing.Passes (iceberg_kept.end_of kept) origin now commits which number;
  carries = λ t files number change standing. iceberg_reading.IsCarried t.id files number change standing;
  writes = λ t kept before origin now commit after. iceberg_writes.Writes (iceberg_kept.end_of kept) before origin now commit after;
  reached = λ t files path. iceberg_reached.IsReached files path;
  settled = λ t disk. iceberg_reached.IsSettled disk;
  counted = λ t kept files. iceberg_standing.IsCounted kept.version files;
  stands_for = λ t kept files. iceberg_standing.StandsFor t.id t.location kept files;
  view = λ t kept. iceberg_kept.view_of kept;
}

-- the location of the table
abbrev pub place : List ℕ
place = codes "/t"
