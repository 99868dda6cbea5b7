use Rattle.std.proofs.Common.{take}
use Rattle.iceberg_version.specs.Advance.{EndsEmpty, owners_of}
use Rattle.iceberg_version.proofs.advancing.end_empty.Given as goal

abbrev pub invariant-loop-manifest : goal.invariant-loop-manifest
invariant-loop-manifest l = EndsEmpty (owners_of (take l.manifest-index l.manifests)) l.initial.links l.links
