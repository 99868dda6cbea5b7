use Rattle.std.proofs.Common.{◌≡◌, drop, fold}
use Rattle.std.specs.Int.{int_max}
use Rattle.iceberg_version.proofs.schemas.last_id.Given as goal

abbrev pub invariant-loop-id : goal.invariant-loop-id
invariant-loop-id l = fold int_max l.greatest (drop l.id-index l.ids) ≡ fold int_max l.initial.greatest l.ids
