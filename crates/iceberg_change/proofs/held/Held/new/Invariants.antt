use Rattle.std.proofs.Common.{◌≡◌, ◌++◌, List, Some, map}
use Rattle.iceberg_table.specs.declared.manifest.Manifest.{Manifest}
use Rattle.iceberg_change.proofs.held.Held.new.Given as goal

abbrev pub invariant-loop-manifest : goal.invariant-loop-manifest
invariant-loop-manifest l = (front : List Manifest) × (l.fn.manifests ≡ front ++ l.manifest-iterator.rest.items) × (l.held.slots.items ≡ map Some front)
