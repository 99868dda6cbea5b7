use Rattle.std.proofs.Common.{◌≡◌, List, ℕ, ◌++◌, drop, map, Bor}
use Rattle.std.specs.Option.{option_map}
use Rattle.partition_map.specs.Folder.{texts_of}
use Rattle.hudi_files.specs.Values.{component_parts}
use Rattle.hudi_files.proofs.rows.component_parts.Given as goal

abbrev pub invariant-loop-place : goal.invariant-loop-place
invariant-loop-place l =
    option_map (λ rest. texts_of l.parts ++ rest) (component_parts l.style (drop l.place l.names) (drop l.place (map (λ (c : Bor (List ℕ)). c.now) l.components)))
    ≡ component_parts l.style l.names (map (λ (c : Bor (List ℕ)). c.now) l.components)
