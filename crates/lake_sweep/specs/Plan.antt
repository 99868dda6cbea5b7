-- Which paths are swept, and of which targets.
use Rattle.std.specs.Prelude.{◌⊎◌, ◌↔◌, ℕ, List, Contains}
use Rattle.lake_store.specs.Disk.{Files}
use Rattle.table_history.specs.declared.kind.Kind.{Kind}
use Rattle.table_history.specs.declared.kind.Kind.TheVariants.{Delta, Hudi, Iceberg}
use Rattle.target_core.specs.Meaning.{Meaning}
use Rattle.target_core.specs.Views.{IsOfSource, IsUnpublished, View}
use Rattle.target_leftovers.specs.Leftovers.{IsLeftover}
use Rattle.lake_sweep.specs.Order.{AreInOrder, IsRemovedBefore}

-- These are the leftovers of the files, each once, in the order in which they are removed.
pub record IsPlan (kind : Kind) (files : Files) (paths : List (List ℕ)) : Type 0 where
  pub order : AreInOrder (IsRemovedBefore kind) paths
  pub members : (path : List ℕ) → Contains paths path ↔ IsLeftover kind files path

-- the other two formats, in the order in which a target is inspected for their sources
abbrev pub first_source : Kind → Kind
first_source Delta = Iceberg
first_source Iceberg = Delta
first_source Hudi = Delta

abbrev pub second_source : Kind → Kind
second_source Delta = Hudi
second_source Iceberg = Hudi
second_source Hudi = Iceberg

-- The target is without a commit, or all ours for a source of this format.
pub record IsKnownFor (target : Meaning) (source : Kind) (files : Files) : Type 0 where
  pub view : View
  pub reads : target.reads files view
  pub ours : IsUnpublished view ⊎ IsOfSource source view

-- So it is for one of the other two formats.
abbrev pub IsKnown : Meaning → Files → Type 0
IsKnown target files = IsKnownFor target (first_source target.kind) files ⊎ IsKnownFor target (second_source target.kind) files
