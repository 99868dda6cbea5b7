-- The commits of the drill of a number. The source is a Delta table with two columns, a long `id` and an int `d`, by which it is partitioned.
use Rattle.std.specs.Prelude.{◌≡◌, ℕ, zero, suc, ◌+◌, ◌-◌, ◌%◌, ◌<◌, ◌==◌, nat_le, pos, Bool, true, ◌&&◌, List, [], ◌∷◌, ◌++◌, map, Option, Some, None, Ok, codes, if◌then◌else◌}
use Rattle.std.specs.Fmt.{decimal}
use Rattle.table_history.specs.TypeTree.{ColumnTrees, column, no_columns, int, long}
use Rattle.schema_delta.specs.Delta.{delta_schema_of}
use Rattle.schema_delta.specs.DeltaWriting.{delta_text}
use Rattle.delta_log.specs.Readable.{IsReadableCommit}
use Rattle.delta_log.specs.declared.commit.DeltaCommit.{DeltaCommit}
use Rattle.delta_log.specs.declared.commit.FileAction.{FileAction}
use Rattle.delta_log.specs.declared.commit.FileAction.TheVariants as file
use Rattle.delta_log.specs.declared.commit.MetaData.{MetaData}
use Rattle.delta_log.specs.declared.commit.Protocol.{Protocol}
use Rattle.delta_text.specs.Writing.{commit_text}

-- the numbers from 0 on that are less
abbrev pub numbers_under : ℕ → List ℕ
numbers_under zero = []
numbers_under (suc n) = numbers_under n ++ n ∷ []

-- how many commits there are
abbrev pub commit_count : ℕ
commit_count = 200

-- how many files each commit adds
abbrev pub file_count : ℕ
file_count = 50

-- ---- files

-- the value of `d` of the file that commit i adds at place j
abbrev pub folder_at : ℕ → ℕ → ℕ → ℕ
folder_at number i j = (number + (i + j)) % 7

abbrev pub path_at : ℕ → ℕ → ℕ → List ℕ
path_at number i j = codes "d=" ++ (decimal (folder_at number i j) ++ (codes "/f-" ++ (decimal i ++ (codes "-" ++ (decimal j ++ codes ".parquet")))))

abbrev pub values_at : ℕ → ℕ → ℕ → List (List ℕ × Option (List ℕ))
values_at number i j = (codes "d", Some (decimal (folder_at number i j))) ∷ []

-- how many records it has
abbrev pub count_at : ℕ → ℕ → ℕ
count_at number j = 1 + (number + j) % 50

abbrev pub added_file : ℕ → ℕ → ℕ → FileAction
added_file number i j = file.Add (path_at number i j) (values_at number i j) (1000 + count_at number j) (count_at number j)

abbrev pub removed_file : ℕ → ℕ → ℕ → FileAction
removed_file number i j = file.Remove (path_at number i j)

-- whether commit i removes the files of the tenth commit before it
abbrev pub removes : ℕ → ℕ → Bool
removes number i = nat_le 10 i && ((number + i) % 4 == 0)

abbrev pub removed_files : ℕ → ℕ → List FileAction
removed_files number i = if removes number i then map (removed_file number (i - 10)) (numbers_under file_count) else []

abbrev pub drill_files : ℕ → ℕ → List FileAction
drill_files number i = map (added_file number i) (numbers_under file_count) ++ removed_files number i

-- ---- commits

abbrev pub drill_schema : ColumnTrees
drill_schema = column (codes "id") long true (column (codes "d") int true no_columns)

abbrev pub drill_protocol : Protocol
drill_protocol = record { reader = pos 1; writer = pos 2; reader_features = None; writer_features = None }

abbrev pub drill_meta : MetaData
drill_meta = record { id = codes "drill"; schema = delta_text drill_schema; partition = codes "d" ∷ []; configuration = [] }

-- Commit 0 has the protocol and the metadata too.
abbrev pub drill_commit : ℕ → ℕ → DeltaCommit
drill_commit number i = record {
  protocol = if i == 0 then Some drill_protocol else None;
  meta = if i == 0 then Some drill_meta else None;
  files = drill_files number i;
}

-- 2024-01-05 12:00:00 UTC
abbrev pub drill_time : ℕ
drill_time = 1704456000000

abbrev pub drill_bytes : ℕ → ℕ → List ℕ
drill_bytes number i = commit_text drill_time (drill_commit number i)

-- ---- what is read of them

-- the text of the schema spells it
abbrev pub SpellsDrill : Type 0
SpellsDrill = delta_schema_of (delta_text drill_schema) ≡ Ok drill_schema

-- the bytes of commit i are it
abbrev pub SaysDrill : ℕ → ℕ → Type 0
SaysDrill number i = IsReadableCommit (drill_bytes number i) (drill_commit number i)

-- The text of the schema spells it, and the bytes of each commit are it.
pub record AreSaid (number : ℕ) : Type 0 where
  pub spells : SpellsDrill
  pub says : (i : ℕ) → i < commit_count → SaysDrill number i
