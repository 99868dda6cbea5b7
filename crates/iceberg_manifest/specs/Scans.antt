-- What the values of manifests and of manifest lists stand for, with the errors of the public calls.
use Rattle.std.specs.Prelude.{List}
use Rattle.lake_basics.specs.Outcome.{with_fault}
use Rattle.iceberg_manifest.specs.Entry.{EntryData}
use Rattle.iceberg_manifest.specs.EntryReading.{entries_in}
use Rattle.iceberg_manifest.specs.ListReading.{infos_in}
use Rattle.iceberg_manifest.specs.Containers.{Scan}
use Rattle.iceberg_manifest.specs.declared.error.Flaw.{Flaw}
use Rattle.iceberg_manifest.specs.declared.error.Flaw.TheVariants as flaw
use Rattle.iceberg_manifest.specs.declared.error.EntryFault.{EntryFault}
use Rattle.iceberg_manifest.specs.declared.error.EntryFault.TheVariants as fault
use Rattle.iceberg_manifest.specs.declared.error.ManifestError.{ManifestError}
use Rattle.iceberg_manifest.specs.declared.error.ManifestError.TheVariants as errors
use Rattle.iceberg_manifest.specs.declared.info.ManifestInfo.{ManifestInfo}
use Rattle.iceberg_manifest.specs.declared.partition.PartColumn.{PartColumn}

abbrev pub entry_error : EntryFault → ManifestError
entry_error fault.Malformed = errors.Malformed
entry_error fault.RowDeletes = errors.RowDeletes
entry_error fault.FileFormat = errors.FileFormat

abbrev pub flaw_error : Flaw → ManifestError
flaw_error flaw.Malformed = errors.Malformed

-- the entries of a manifest
abbrev pub entries_of : List PartColumn → Scan (List EntryData)
entries_of columns t vs = with_fault entry_error (entries_in columns t vs)

-- the rows of a manifest list
abbrev pub infos_of : Scan (List ManifestInfo)
infos_of t vs = with_fault flaw_error (infos_in t vs)
