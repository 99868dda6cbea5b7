-- What a completed instant did, by the JSON that its file is.
use Rattle.std.specs.Prelude.{ℕ, ◌+◌, ◌^◌, nat_le, nat_lt, option_and_then, List, [], ◌∷◌, ◌++◌, length, if◌then◌else◌, Option, Some, None, option_to_list, Result, Ok, Err, codes}
use Rattle.serde_json.specs.Data.{Data}
use Rattle.serde_json.specs.Find.{get, as_array, as_object}
use Rattle.lake_basics.specs.declared.limits.TheConstants.{MAX_ACTIONS}
use Rattle.table_history.specs.Path.{is_path_of_any_length}
use Rattle.table_history.specs.declared.limit.LimitKind.TheVariants.{Actions}
use Rattle.hudi_names.specs.declared.error.HudiError.{HudiError}
use Rattle.hudi_names.specs.declared.error.HudiError.TheVariants.{Limit}
use Rattle.hudi_names.specs.Errors.{malformed}
use Rattle.hudi_instant.specs.declared.instant.Instant.{Instant}
use Rattle.hudi_instant.specs.declared.instant.Stat.{Stat}
use Rattle.hudi_instant.specs.InstantGrammar.{mark_in}
use Rattle.json_reading.specs.Json.{present, count, items, pairs, json, text}
use Rattle.lake_basics.specs.Outcome.{◌>>=◌, required}

abbrev pub text_member : List ℕ → Data → Result (List ℕ) HudiError
text_member name d = required malformed (get name d) >>= text malformed

abbrev pub if_small : ℕ → Option ℕ
if_small n = if nat_lt n (2 ^ 63) then Some n else None

-- a whole number from 0 to 2 ^ 63 - 1
abbrev pub size_number : Data → Option ℕ
size_number d = option_and_then if_small (count d)

-- A size that isn't stated is 0.
abbrev pub size : Option Data → Result ℕ HudiError
size None = Ok 0
size (Some d) = required malformed (size_number d)

-- The path of a data file may break the rule on its length alone, which is judged with the commit.
abbrev pub data_path : Data → Result (List ℕ) HudiError
data_path d = text malformed d >>= λ path. if is_path_of_any_length path then Ok path else Err malformed

abbrev pub stat_at : Data → Option Data → Result (Option Stat) HudiError
stat_at d None = Ok None
stat_at d (Some named) = do
  path ← data_path named
  file_id ← text_member (codes "fileId") d
  partition_path ← text_member (codes "partitionPath") d
  number ← required malformed (get (codes "numWrites") d)
  writes ← required malformed (size_number number)
  bytes ← size (get (codes "fileSizeInBytes") d)
  Ok (Some (record { file_id = file_id; partition_path = partition_path; path = path; writes = writes; size = bytes }))

-- A write stat without a path is skipped.
unfoldable pub stat : Data → Result (Option Stat) HudiError
stat d = do
  members ← required malformed (as_object d)
  stat_at d (present (codes "path") d)

abbrev pub with_stats : List Stat → List Data → Result (List Stat) HudiError
with_stats found [] = Ok found
with_stats found (d ∷ ds) = stat d >>= λ s. with_stats (found ++ option_to_list s) ds

-- the write stats of the partitions, in the order of their names
abbrev pub with_partitions : List Stat → List (List ℕ × Data) → Result (List Stat) HudiError
with_partitions found [] = Ok found
with_partitions found (p ∷ ps) = required malformed (as_array p.1) >>= λ list. with_stats found (items list) >>= λ more. with_partitions more ps

abbrev pub with_ids : List (List ℕ × List ℕ) → List ℕ → List Data → Result (List (List ℕ × List ℕ)) HudiError
with_ids found partition [] = Ok found
with_ids found partition (d ∷ ds) = text malformed d >>= λ id. with_ids (found ++ (partition, id) ∷ []) partition ds

abbrev pub with_replaced : List (List ℕ × List ℕ) → List (List ℕ × Data) → Result (List (List ℕ × List ℕ)) HudiError
with_replaced found [] = Ok found
with_replaced found (p ∷ ps) = required malformed (as_array p.1) >>= λ list. with_ids found p.0 (items list) >>= λ more. with_replaced more ps

abbrev pub replaced : Option Data → Result (List (List ℕ × List ℕ)) HudiError
replaced None = Ok []
replaced (Some d) = required malformed (as_object d) >>= λ members. with_replaced [] (pairs members)

abbrev pub text_if_any : Option Data → Result (Option (List ℕ)) HudiError
text_if_any None = Ok None
text_if_any (Some d) = text malformed d >>= λ t. Ok (Some t)

abbrev pub extra_text : Option Data → List ℕ → Result (Option (List ℕ)) HudiError
extra_text None name = Ok None
extra_text (Some extra) name = required malformed (as_object extra) >>= λ members. text_if_any (present name extra)

unfoldable pub instant : Data → Result Instant HudiError
instant d = do
  whole ← required malformed (as_object d)
  partitions ← required malformed (get (codes "partitionToWriteStats") d)
  members ← required malformed (as_object partitions)
  stats ← with_partitions [] (pairs members)
  gone ← replaced (present (codes "partitionToReplaceFileIds") d)
  schema ← extra_text (present (codes "extraMetadata") d) (codes "schema")
  Ok (record { stats = stats; replaced = gone; schema = schema; mark = mark_in (present (codes "extraMetadata") d) })

-- so many write stats and replaced ids are read
abbrev pub within_actions : Instant → Result Instant HudiError
within_actions i = if nat_le (length i.stats + length i.replaced) MAX_ACTIONS then Ok i else Err (Limit Actions)

unfoldable pub json_instant : List ℕ → Result Instant HudiError
json_instant bytes = required malformed (json bytes) >>= λ d. instant d >>= within_actions
