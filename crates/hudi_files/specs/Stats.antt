-- The write stats of an instant, and the files that they name (Hudi technical specification, commit metadata and file layout).
use Rattle.std.specs.Prelude.{ℕ, ◌^◌, ◌&&◌, nat_eq, nat_lt, not, List, [], codes, Bool, false, Option, Some, None, Result, Ok, Err, if◌then◌else◌}
use Rattle.std.specs.List.{ends_with, list_any}
use Rattle.std.specs.Str.{bytes_eq}
use Rattle.table_history.specs.Path.{is_path_of_any_length}
use Rattle.table_history.specs.Row.{Row}
use Rattle.table_history.specs.declared.feature.Feature.{Feature}
use Rattle.table_history.specs.declared.feature.Feature.TheVariants.{ExternalFile, FileId, FileFormat}
use Rattle.hudi_names.specs.declared.error.HudiError.{HudiError}
use Rattle.hudi_names.specs.Errors.{malformed}
use Rattle.hudi_instant.specs.declared.instant.Stat.{Stat}
use Rattle.hudi_groups.specs.declared.form.Form.{Form}
use Rattle.hudi_groups.specs.declared.form.Form.TheVariants.{Base, External}
use Rattle.hudi_groups.specs.Group.{folder_of}
use Rattle.hudi_groups.specs.Files.{without_end, file_id_in}

-- ---- a stat and its row

-- The path has the suffix, and is a path without it, but perhaps for its length.
abbrev pub has_sound_path : List ℕ → Stat → Bool
has_sound_path suffix s = ends_with nat_eq s.path suffix && is_path_of_any_length (without_end suffix s.path)

-- The numbers are those of JSON's whole numbers from 0.
abbrev pub has_sound_numbers : Stat → Bool
has_sound_numbers s = nat_lt s.writes (2 ^ 63) && nat_lt s.size (2 ^ 63)

-- the file of a stat, before the partition values in its folder are read
abbrev pub bare_row : List ℕ → Stat → Result Row HudiError
bare_row suffix s =
    if has_sound_path suffix s
    then (if has_sound_numbers s then Ok (record { path = without_end suffix s.path; values = []; count = s.writes; size = s.size }) else Err malformed)
    else Err malformed

-- ---- what the names of files show

-- a file that Hudi didn't write, in a table whose files it did write
abbrev pub is_external : Form → Stat → Bool
is_external Base s = ends_with nat_eq s.path (codes "_hudiext")
is_external (External time) s = false

-- The path isn't the stat's partition path, `/` and a name of its file id.
abbrev pub has_other_id : Form → List ℕ → Stat → Bool
has_other_id form suffix s =
    not (bytes_eq (folder_of (without_end suffix s.path)) s.partition_path && bytes_eq (file_id_in form (without_end suffix s.path)) s.file_id)

-- a base file that isn't Parquet
abbrev pub is_other_file : Form → Stat → Bool
is_other_file Base s = not (ends_with nat_eq s.path (codes ".parquet"))
is_other_file (External time) s = false

-- the first feature that the names show
abbrev pub name_fault : Form → List ℕ → List Stat → Option Feature
name_fault form suffix stats =
    if list_any (is_external form) stats then Some ExternalFile
    else (if list_any (has_other_id form suffix) stats then Some FileId
    else (if list_any (is_other_file form) stats then Some FileFormat else None))
