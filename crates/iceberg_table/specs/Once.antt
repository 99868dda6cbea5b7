-- The entries of manifests, where a manifest counts once.
use Rattle.std.specs.Prelude.{ℕ, ◌+◌, Bool, List, [], ◌∷◌, not, cond, filter}
use Rattle.std.specs.List.{list_any}
use Rattle.std.specs.Str.{bytes_eq}
use Rattle.iceberg_table.specs.declared.manifest.Manifest.{Manifest}

abbrev pub has_path : List ℕ → Manifest → Bool
has_path path r = bytes_eq path r.file.path

-- of the manifests of each path the first
abbrev pub each_once : List Manifest → List Manifest
each_once [] = []
each_once (r ∷ rs) = r ∷ filter (λ s. not (has_path s.file.path r)) (each_once rs)

-- how many entries manifests have together
abbrev pub entry_count : List Manifest → ℕ
entry_count [] = 0
entry_count (r ∷ rs) = r.entries + entry_count rs

-- so, where those of one path are one manifest
abbrev pub entries_once : List Manifest → ℕ
entries_once rs = entry_count (each_once rs)

-- How many entries count before a manifest of this path. There is none where it was counted itself: its entries don't count again.
abbrev pub counted_before : List ℕ → List Manifest → ℕ
counted_before path read = cond (list_any (has_path path) read) 0 (entries_once read)
