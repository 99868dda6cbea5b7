-- How the data files of a table are named in write stats, and the names of their file groups (Hudi technical specification, file layout).
use Rattle.std.specs.Prelude.{ℕ, ◌-◌, List, [], ◌++◌, length, take, codes}
use Rattle.hudi_groups.specs.declared.form.Form.{Form}
use Rattle.hudi_groups.specs.declared.form.Form.TheVariants.{Base, External}
use Rattle.hudi_groups.specs.Group.{folder_of, file_name_of, file_id_of, joined}

-- what stands behind a file's own path
abbrev pub suffix_of : Form → List ℕ
suffix_of Base = []
suffix_of (External time) = codes "_" ++ time ++ codes "_hudiext"

abbrev pub without_end : List ℕ → List ℕ → List ℕ
without_end suffix path = take (length path - length suffix) path

-- ---- file groups

-- the file id in a path: of a file that Hudi didn't write its whole name
abbrev pub file_id_in : Form → List ℕ → List ℕ
file_id_in Base path = file_id_of path
file_id_in (External time) path = file_name_of path

-- The name of a path's file group: its folder and its file id. Of a file that Hudi didn't write that is its path.
abbrev pub group_name : Form → List ℕ → List ℕ
group_name form path = joined (folder_of path) (file_id_in form path)
