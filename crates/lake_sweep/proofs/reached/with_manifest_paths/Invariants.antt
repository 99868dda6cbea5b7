use Rattle.std.proofs.Common.{◌⊎◌, List, ℕ, take, Contains}
use Rattle.std.specs.Prelude.{◌↔◌}
use Rattle.std.specs.List.{IsDistinct}
use Rattle.std.specs.Str.{bytes_eq}
use Rattle.lake_sweep.specs.Reading.{IsNamedIn}
use Rattle.lake_sweep.proofs.reached.with_manifest_paths.Given as goal

abbrev pub invariant-loop-manifest : goal.invariant-loop-manifest
invariant-loop-manifest l = record {
  members : (path : List ℕ) → Contains l.paths.keys path ↔ (Contains l.fn.before.keys path ⊎ IsNamedIn (take l.manifest-index l.manifests) path);
  distinct : IsDistinct bytes_eq l.fn.before.keys → IsDistinct bytes_eq l.paths.keys;
}
