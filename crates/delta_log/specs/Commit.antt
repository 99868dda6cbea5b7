-- The parts of a commit.
use Rattle.std.specs.Prelude.{ℕ, List, map}
use Rattle.delta_log.specs.declared.commit.FileAction.{FileAction}
use Rattle.delta_log.specs.declared.commit.FileAction.TheVariants as file

abbrev pub file_path : FileAction → List ℕ
file_path (file.Add path values size count) = path
file_path (file.Remove path) = path

abbrev pub file_paths : List FileAction → List (List ℕ)
file_paths files = map file_path files
