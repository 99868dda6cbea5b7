-- The text of a completed replacecommit (Hudi technical specification, commit metadata): compact JSON, the members of its objects in byte order.
use Rattle.std.specs.Prelude.{ℕ, ◌<◌, ◌≤◌, ◌+◌, ◌^◌, List, [], ◌∷◌, length, map, codes, false, Option, Some, None, All, if◌then◌else◌}
use Rattle.std.specs.Cmp.Lexicographic.{slice_cmp}
use Rattle.std.specs.List.Sorted.{IsSorted}
use Rattle.std.specs.Ordering.{nat_cmp, ordering_then}
use Rattle.std.specs.Str.{bytes_eq}
use Rattle.std.specs.declared.cmp.Ordering.{Ordering}
use Rattle.serde_json.specs.Data.{Data, boolean, number, unsigned, string, array, object, Members, no_members, member, put}
use Rattle.serde_json.specs.View.{items_of}
use Rattle.serde_json.specs.Written.{compact_text}
use Rattle.json_reading.specs.Json.{members_with}
use Rattle.table_history.specs.Path.{IsPathOfAnyLength}
use Rattle.lake_basics.specs.declared.limits.TheConstants.{MAX_ACTIONS}
use Rattle.hudi_instant.specs.declared.instant.Instant.{Instant}
use Rattle.hudi_instant.specs.declared.instant.Stat.{Stat}

-- a write stat: every record of the file is an insert
abbrev pub stat_data : Stat → Data
stat_data s = object
    (member (codes "fileId") (string s.file_id)
    (member (codes "fileSizeInBytes") (number (unsigned s.size))
    (member (codes "numDeletes") (number (unsigned 0))
    (member (codes "numInserts") (number (unsigned s.writes))
    (member (codes "numUpdateWrites") (number (unsigned 0))
    (member (codes "numWrites") (number (unsigned s.writes))
    (member (codes "partitionPath") (string s.partition_path)
    (member (codes "path") (string s.path)
    (member (codes "prevCommit") (string (codes "null"))
    (member (codes "totalWriteBytes") (number (unsigned s.size))
    (member (codes "totalWriteErrors") (number (unsigned 0)) no_members)))))))))))

-- ---- lists by their partitions

abbrev pub onto_group : {A : Type 0} → List ℕ → A → List (List ℕ × List A) → List (List ℕ × List A)
onto_group key a [] = (key, a ∷ []) ∷ []
onto_group key a (g ∷ gs) = if bytes_eq key g.0 then (key, a ∷ g.1) ∷ gs else (key, a ∷ []) ∷ g ∷ gs

-- the runs of neighbours with one key, each under its key
abbrev pub runs_by : {A : Type 0} → (A → List ℕ) → List A → List (List ℕ × List A)
runs_by key [] = []
runs_by key (a ∷ xs) = onto_group (key a) a (runs_by key xs)

-- an object that has for each key the array of what stands under it
abbrev pub arrays_by : {A : Type 0} → (A → List ℕ) → (A → Data) → List A → Members → Members
arrays_by key shown xs ms = members_with (λ run. array (items_of (map shown run))) (runs_by key xs) ms

abbrev pub partition_of : Stat → List ℕ
partition_of s = s.partition_path

abbrev pub replaced_partition : List ℕ × List ℕ → List ℕ
replaced_partition p = p.0

abbrev pub id_data : List ℕ × List ℕ → Data
id_data p = string p.1

-- ---- the whole

abbrev pub put_text : List ℕ → Option (List ℕ) → Members → Members
put_text name None ms = ms
put_text name (Some text) ms = put name (string text) ms

-- the mark and the schema, where there are such
abbrev pub extra_data : Option (List ℕ) → Option (List ℕ) → Data
extra_data mark schema = object (put_text (codes "schema") schema (put_text (codes "lakebridge.mark") mark no_members))

abbrev pub whole_data : Data → Data → Data → Data
whole_data extra replaced stats = object
    (member (codes "compacted") (boolean false)
    (member (codes "extraMetadata") extra
    (member (codes "operationType") (string (codes "INSERT_OVERWRITE"))
    (member (codes "partitionToReplaceFileIds") replaced
    (member (codes "partitionToWriteStats") stats no_members)))))

abbrev pub instant_data : Instant → Data
instant_data i = whole_data (extra_data i.mark i.schema) (object (arrays_by replaced_partition id_data i.replaced no_members)) (object (arrays_by partition_of stat_data i.stats no_members))

abbrev pub instant_text : Instant → List ℕ
instant_text i = compact_text (instant_data i)

-- ---- what can be written

-- partitions in byte order, and in one partition paths in byte order
abbrev pub stat_cmp : Stat → Stat → Ordering
stat_cmp a b = ordering_then (slice_cmp nat_cmp a.partition_path b.partition_path) (slice_cmp nat_cmp a.path b.path)

-- partitions in byte order, and in one partition ids in byte order
abbrev pub replaced_cmp : List ℕ × List ℕ → List ℕ × List ℕ → Ordering
replaced_cmp a b = ordering_then (slice_cmp nat_cmp a.0 b.0) (slice_cmp nat_cmp a.1 b.1)

-- The path is one but perhaps for its length, and the numbers are those of JSON's whole numbers from 0.
pub record IsSoundStat (s : Stat) : Type 0 where
  pub path : IsPathOfAnyLength s.path
  pub writes : s.writes < 2 ^ 63
  pub size : s.size < 2 ^ 63

pub record IsSound (i : Instant) : Type 0 where
  pub stats : All IsSoundStat i.stats
  pub few : length i.stats + length i.replaced ≤ MAX_ACTIONS

-- an instant whose lists are in the order that the file has
pub record IsWritable (i : Instant) : Type 0 where
  pub sound : IsSound i
  pub stats : IsSorted stat_cmp i.stats
  pub replaced : IsSorted replaced_cmp i.replaced
