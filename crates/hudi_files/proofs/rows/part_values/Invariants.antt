use Rattle.std.proofs.Common.{List, ℕ, take, map, Bor}
use Rattle.hudi_files.specs.Values.{PartsStand}
use Rattle.hudi_files.proofs.rows.part_values.Given as goal

abbrev pub invariant-loop-place : goal.invariant-loop-place
invariant-loop-place l = PartsStand l.style (take l.place l.kinds) (take l.place (map (λ (c : Bor (List ℕ)). c.now) l.parts)) l.values
