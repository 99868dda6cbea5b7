-- What the files of an instant are refused for.
use Rattle.std.specs.Prelude.{◌≡◌, ◌⊎◌, List, ℕ, true, false, Option, Some, None, Contains}
use Rattle.table_history.specs.Row.{Row}
use Rattle.table_history.specs.declared.feature.Feature.{Feature}
use Rattle.table_history.specs.declared.feature.Feature.TheVariants as feature
use Rattle.partition_map.specs.declared.kind.PartKind.{PartKind}
use Rattle.partition_map.specs.declared.folder.FolderStyle.{FolderStyle}
use Rattle.hudi_names.specs.declared.error.HudiError.{HudiError}
use Rattle.hudi_names.specs.declared.error.HudiError.TheVariants as errors
use Rattle.hudi_files.specs.Values.{is_in_folder, are_in_folders, SpellsNoValues}

-- The refusal is for want of memory, or for this feature, which is shown.
abbrev pub OnlyFeature : (Feature → Type 0) → HudiError → Type 0
OnlyFeature Is errors.Memory = Unit {0}
OnlyFeature Is (errors.Malformed line) = ⊥
OnlyFeature Is (errors.Unsupported shown) = Is shown
OnlyFeature Is (errors.Limit which) = ⊥

-- a feature that the folder of one file shows
abbrev pub IsRowFault : FolderStyle → List (List ℕ) → List PartKind → Row → Feature → Type 0
IsRowFault style names kinds file shown =
    ((shown ≡ feature.PartitionPath) × (is_in_folder style names file ≡ false))
    ⊎ ((shown ≡ feature.PartitionValue) × SpellsNoValues style names kinds file.path)

-- a feature that the folder of some file shows
abbrev pub IsSomeRowFault : FolderStyle → List (List ℕ) → List PartKind → List Row → Feature → Type 0
IsSomeRowFault style names kinds files shown = (file : Row) × Contains files file × IsRowFault style names kinds file shown

-- the feature that the folders of the files show
abbrev pub IsFolderFault : FolderStyle → List (List ℕ) → List PartKind → List Row → Feature → Type 0
IsFolderFault style names kinds files shown =
    ((shown ≡ feature.PartitionPath) × (are_in_folders style names files ≡ false))
    ⊎ ((shown ≡ feature.PartitionValue) × (are_in_folders style names files ≡ true) × (file : Row) × Contains files file × SpellsNoValues style names kinds file.path)

-- the feature that the names of the files show, or else that their folders show
abbrev pub IsFileFault : Option Feature → FolderStyle → List (List ℕ) → List PartKind → List Row → Feature → Type 0
IsFileFault name_fault style names kinds files shown =
    (name_fault ≡ Some shown) ⊎ ((name_fault ≡ None) × IsFolderFault style names kinds files shown)
