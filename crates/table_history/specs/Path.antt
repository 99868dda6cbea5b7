-- A path within a table's folder.
use Rattle.std.specs.Prelude.{◌≢◌, ℕ, ◌≤◌, ◌==◌, ◌&&◌, not, nat_le, Bool, List, [], ◌∷◌, length, All, codes}
use Rattle.std.specs.List.{list_all, slice_split}
use Rattle.std.specs.Str.{IsUtf8, is_utf8, bytes_eq}
use Rattle.lake_basics.specs.declared.limits.TheConstants.{MAX_PATH_BYTES}

abbrev pub is_slash : ℕ → Bool
is_slash b = b == 47

-- not empty, `.` or `..`
pub record IsSegment (segment : List ℕ) : Type 0 where
  pub filled : segment ≢ []
  pub no_dot : segment ≢ 46 ∷ []
  pub no_dots : segment ≢ 46 ∷ 46 ∷ []

-- a path but for its length: UTF-8 with no byte under 32, in segments that are parted by `/`
pub record IsPathOfAnyLength (bytes : List ℕ) : Type 0 where
  pub utf8 : IsUtf8 bytes
  pub plain : All (λ b. 32 ≤ b) bytes
  pub segments : All IsSegment (slice_split is_slash bytes)

-- A path is not too long. It has a byte at least, since no segment is empty.
pub record IsPath (bytes : List ℕ) : Type 0 where
  pub form : IsPathOfAnyLength bytes
  pub short : length bytes ≤ MAX_PATH_BYTES

-- ---- the same as tests

abbrev pub is_segment : List ℕ → Bool
is_segment segment = not (bytes_eq segment []) && (not (bytes_eq segment (codes ".")) && not (bytes_eq segment (codes "..")))

abbrev pub is_path_of_any_length : List ℕ → Bool
is_path_of_any_length bytes = is_utf8 bytes && (list_all (λ b. nat_le 32 b) bytes && list_all is_segment (slice_split is_slash bytes))

abbrev pub is_path : List ℕ → Bool
is_path bytes = nat_le (length bytes) MAX_PATH_BYTES && is_path_of_any_length bytes
