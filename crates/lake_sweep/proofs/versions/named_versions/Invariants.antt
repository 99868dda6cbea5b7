use Rattle.std.proofs.Common.{ℕ, take, Contains}
use Rattle.std.specs.Prelude.{◌↔◌}
use Rattle.iceberg_table.specs.Folder.{IsNamed}
use Rattle.lake_sweep.proofs.versions.named_versions.Given as goal

abbrev pub invariant-loop-name : goal.invariant-loop-name
invariant-loop-name l = (version : ℕ) → Contains l.versions.items version ↔ IsNamed (take l.name-index l.names) version
