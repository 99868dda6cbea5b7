use Rattle.std.proofs.Common.{◌≡◌, ◌++◌, List}
use Rattle.iceberg_manifest.specs.Lists.{AreEach}
use Rattle.iceberg_manifest.specs.declared.info.ManifestInfo.{ManifestInfo}
use Rattle.iceberg_table.specs.Lists.{IsListed}
use Rattle.iceberg_table.proofs.list.all_listed.Given as goal

abbrev pub invariant-loop-info : goal.invariant-loop-info
invariant-loop-info l = (front : List ManifestInfo) × (l.fn.infos ≡ front ++ l.info-iterator.rest.items) × AreEach (IsListed l.metadata) front l.files
