use Rattle.std.proofs.Common.{◌≤◌, ◌++◌, List, take}
use Rattle.lake_basics.specs.declared.limits.TheConstants.{MAX_ACTIONS}
use Rattle.iceberg_table.specs.declared.manifest.Manifest.{Manifest}
use Rattle.source_iceberg.specs.Counted.{Counts}
use Rattle.source_iceberg.proofs.counted.Counted.count_each.Given as goal

abbrev pub invariant-loop-manifest : goal.invariant-loop-manifest
invariant-loop-manifest l = record {
  few : l.self.entries ≤ MAX_ACTIONS;
  counts : (read : List Manifest) → Counts read l.fn.self → Counts (read ++ take l.manifest-index l.manifests) l.self;
}
