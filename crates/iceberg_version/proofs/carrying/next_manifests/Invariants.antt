use Rattle.std.proofs.Common.{◌≡◌, ◌++◌, map}
use Rattle.std.specs.List.{range_with_len}
use Rattle.iceberg_version.specs.declared.carrying.Next.TheVariants.{Added}
use Rattle.iceberg_version.proofs.carrying.next_manifests.Given as goal

abbrev pub invariant-loop-place : goal.invariant-loop-place
invariant-loop-place l = l.next.items ≡ l.initial.next.items ++ map (λ place. Added place) (range_with_len 0 l.place)
