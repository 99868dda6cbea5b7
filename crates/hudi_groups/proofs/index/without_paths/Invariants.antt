use Rattle.std.proofs.Common.{◌≡◌, ℕ, ◌&&◌, not, List, take}
use Rattle.std.specs.List.{list_any}
use Rattle.hudi_groups.specs.GroupIndex.{has_path, is_path_of}
use Rattle.hudi_groups.proofs.index.without_paths.Given as goal

abbrev pub invariant-loop-path : goal.invariant-loop-path
invariant-loop-path l = (q p : List ℕ) → has_path l.rest q p ≡ (not (list_any (is_path_of q p) (take l.path-index l.paths)) && has_path l.fn.index q p)
