-- A commit line by line, as a function: what it says so far, or the first fault.
use Rattle.std.specs.Prelude.{◌≡◌, ℕ, ◌+◌, ◌==◌, nat_le, List, [], ◌∷◌, ◌++◌, length, Bool, true, false, Option, Some, None, is_some, Result, Ok, Err, if◌then◌else◌}
use Rattle.std.specs.List.{list_any, slice_split}
use Rattle.std.specs.Str.{bytes_eq}
use Rattle.lake_basics.specs.declared.limits.TheConstants.{MAX_ACTIONS}
use Rattle.lake_basics.specs.declared.outcome.ReadError.{ReadError}
use Rattle.lake_basics.specs.declared.outcome.ReadError.TheVariants as read_errors
use Rattle.lake_basics.specs.Outcome.{◌>>=◌, with_fault, GivesUnlessMemory}
use Rattle.table_history.specs.Path.{IsPath}
use Rattle.table_history.specs.declared.feature.Feature.TheVariants.{DeletionVector, OutsideTable, NoRecordCount, FileFormat}
use Rattle.table_history.specs.declared.limit.LimitKind.TheVariants.{Path, Actions}
use Rattle.partition_map.specs.UriPath.{UriPath, inside_table, too_long, outside_table, no_path, uri_path}
use Rattle.delta_log.specs.declared.action.LineAction.{LineAction}
use Rattle.delta_log.specs.declared.action.LineAction.TheVariants as action
use Rattle.delta_log.specs.declared.commit.DeltaCommit.{DeltaCommit}
use Rattle.delta_log.specs.declared.commit.FileAction.{FileAction}
use Rattle.delta_log.specs.declared.commit.FileAction.TheVariants as file
use Rattle.delta_log.specs.declared.error.DeltaError.{DeltaError}
use Rattle.delta_log.specs.declared.error.DeltaError.TheVariants as errors
use Rattle.delta_log.specs.declared.error.Fault.{Fault}
use Rattle.delta_log.specs.declared.error.LineFault.{LineFault}
use Rattle.delta_log.specs.declared.error.LineFault.TheVariants as line_faults
use Rattle.delta_log.specs.declared.error.Fault.TheVariants.{Malformed, Unsupported, Limit, DoublePath}
use Rattle.delta_log.specs.declared.place.Place.{Place}
use Rattle.delta_log.specs.declared.place.Place.TheVariants.{Inside, TooLong, Outside}
use Rattle.delta_log.specs.Commit.{file_path, file_paths}
use Rattle.delta_log.specs.Grammar.{line_action}

-- ---- places

abbrev pub place : UriPath → Result Place Fault
place (inside_table path) = Ok (Inside path)
place (too_long path) = Ok TooLong
place outside_table = Ok Outside
place no_path = Err Malformed

abbrev pub IsSoundPlace : Place → Type 0
IsSoundPlace (Inside path) = IsPath path
IsSoundPlace TooLong = Unit {0}
IsSoundPlace Outside = Unit {0}

abbrev pub is_outside : Place → Bool
is_outside (Inside path) = false
is_outside TooLong = false
is_outside Outside = true

-- the path, where it isn't too long
abbrev pub path_within : Place → Result (List ℕ) Fault
path_within (Inside path) = Ok path
path_within TooLong = Err (Limit Path)
path_within Outside = Err (Unsupported OutsideTable)

-- ---- file actions

-- whether a path has an action among these
abbrev pub acts_on : List ℕ → List FileAction → Bool
acts_on path files = list_any (bytes_eq path) (file_paths files)

abbrev pub with_new_file : DeltaCommit → FileAction → DeltaCommit
with_new_file c f = record c { files = c.files ++ f ∷ [] }

abbrev pub with_file : DeltaCommit → FileAction → Result DeltaCommit Fault
with_file c f =
    if nat_le MAX_ACTIONS (length c.files) then Err (Limit Actions)
    else (if acts_on (file_path f) c.files then Err DoublePath
    else Ok (with_new_file c f))

abbrev pub with_counted : DeltaCommit → Place → List (List ℕ × Option (List ℕ)) → ℕ → Option ℕ → Result DeltaCommit Fault
with_counted c at values size None = Err (Unsupported NoRecordCount)
with_counted c at values size (Some count) = path_within at >>= λ path. with_file c (file.Add path values size count)

abbrev pub with_add : DeltaCommit → Place → List (List ℕ × Option (List ℕ)) → ℕ → Option ℕ → Bool → Result DeltaCommit Fault
with_add c at values size count has_deletion_vector =
    if has_deletion_vector then Err (Unsupported DeletionVector)
    else (if is_outside at then Err (Unsupported OutsideTable) else with_counted c at values size count)

abbrev pub with_remove : DeltaCommit → Place → Bool → Result DeltaCommit Fault
with_remove c at has_deletion_vector =
    if has_deletion_vector then Err (Unsupported DeletionVector)
    else (path_within at >>= λ path. with_file c (file.Remove path))

-- ---- lines

-- The commit with the action of one more line. On one line a fault of the grammar goes first, then a feature that isn't supported, then a limit, and then a second action on a path.
abbrev pub with_action : DeltaCommit → LineAction → Result DeltaCommit Fault
with_action c action.NoAction = Ok c
with_action c (action.Protocol p) = if is_some c.protocol then Err Malformed else Ok (record c { protocol = Some p })
with_action c (action.MetaData m is_parquet) =
    if is_some c.meta then Err Malformed
    else (if is_parquet then Ok (record c { meta = Some m }) else Err (Unsupported FileFormat))
with_action c (action.Add uri values size count has_deletion_vector) = place (uri_path uri) >>= λ at. with_add c at values size count has_deletion_vector
with_action c (action.Remove uri has_deletion_vector) = place (uri_path uri) >>= λ at. with_remove c at has_deletion_vector

abbrev pub judged : LineFault → Fault
judged line_faults.Malformed = Malformed

unfoldable pub with_line : DeltaCommit → List ℕ → Result DeltaCommit Fault
with_line c line = with_fault judged (line_action line) >>= with_action c

-- ---- all lines

abbrev pub error_at : ℕ → Fault → DeltaError
error_at n Malformed = errors.Malformed n
error_at n (Unsupported feature) = errors.Unsupported feature n
error_at n (Limit which) = errors.Limit which
error_at n DoublePath = errors.DoublePath n

-- the fault of line n, with its number
abbrev pub at_line : {A : Type 0} → ℕ → Result A Fault → Result A DeltaError
at_line n (Ok x) = Ok x
at_line n (Err fault) = Err (error_at n fault)

abbrev pub no_lines : DeltaCommit
no_lines = record { protocol = None; meta = None; files = [] }

-- the commit with these lines behind, of which the first has number n
unfoldable pub with_lines : ℕ → DeltaCommit → List (List ℕ) → Result DeltaCommit DeltaError
with_lines n c [] = Ok c
with_lines n c (line ∷ lines) = at_line n (with_line c line) >>= λ d. with_lines (n + 1) d lines

abbrev pub is_newline : ℕ → Bool
is_newline b = b == 10

-- the lines of a commit, each ended by a newline but perhaps the last
abbrev pub lines_of : List ℕ → List (List ℕ)
lines_of bytes = slice_split is_newline bytes

-- the lines in what is left, if something is left
abbrev pub lines_in : Option (List ℕ) → List (List ℕ)
lines_in None = []
lines_in (Some bytes) = lines_of bytes

-- what the bytes of a commit say, or the first line at fault
unfoldable pub commit_of : List ℕ → Result DeltaCommit DeltaError
commit_of bytes = with_lines 1 no_lines (lines_of bytes)

-- ---- answers

abbrev pub is_memory : DeltaError → Bool
is_memory errors.Memory = true
is_memory (errors.Malformed n) = false
is_memory (errors.DoublePath n) = false
is_memory (errors.Unsupported f n) = false
is_memory (errors.Limit w) = false

-- What a function returned is what the reading gives, unless memory ran out.
abbrev pub Answers : {A : Type 0} → Result A DeltaError → Result A DeltaError → Type 0
Answers result reading = GivesUnlessMemory is_memory (λ a. a) result reading

-- the error of line n
abbrev pub IsErrorAt : ℕ → ReadError Fault → DeltaError → Type 0
IsErrorAt n read_errors.Memory e = e ≡ errors.Memory
IsErrorAt n (read_errors.Fault fault) e = e ≡ error_at n fault
