use Rattle.std.proofs.Common.{ℕ, List, map}
use Rattle.iceberg_version.specs.KeptEnd.{live_manifest}
use Rattle.iceberg_version.specs.Touched.{AreTouched}
use Rattle.iceberg_version.proofs.CarryingLemmas.{AreCarriedUpTo}
use Rattle.iceberg_version.proofs.carrying.carry_all.Given as goal

abbrev pub invariant-loop-place : goal.invariant-loop-place
invariant-loop-place l = (paths : List (List ℕ)) → AreTouched l.links paths l.touched → AreCarriedUpTo paths (map (live_manifest l.links) l.manifests) l.place l.next.items
