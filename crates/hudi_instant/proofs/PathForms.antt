-- The form of a path as a test.
use Rattle.std.proofs.Common.{◌≡◌, ℕ, List, true}
use Rattle.table_history.specs.Path.{IsPathOfAnyLength, is_path_of_any_length}
use Rattle.table_history.proofs.PathTests.{path_of_any_length_decided}

pub is_path_of_any_length-true : (path : List ℕ) → IsPathOfAnyLength path → is_path_of_any_length path ≡ true
is_path_of_any_length-true path form = (path_of_any_length_decided path).1 form
