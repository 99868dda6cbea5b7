use Rattle.std.proofs.Common.{◌≡◌, ◌+◌, drop, map, take}
use Rattle.iceberg_version.specs.Advance.{AppendsRows, AreFresh}
use Rattle.iceberg_version.specs.Manifests.{born_at}
use Rattle.iceberg_version.proofs.advancing.insert_rows.Given as goal

abbrev pub invariant-loop-row : goal.invariant-loop-row
invariant-loop-row l = record {
  appended : AppendsRows l.owner (map (born_at l.version) (map (λ r. r.now) (take l.row-index l.rows))) l.initial.links l.links;
  room : l.links.room + l.row-index ≡ l.initial.links.room;
  fresh : AreFresh l.links (map (λ r. r.now) (drop l.row-index l.rows));
}
