-- What is kept of a target stays what the files of its folder hold.
use Rattle.std.proofs.Common.{List, Option, Some, None, sym, ◌∙◌, ℕ}
use Rattle.lake_store.specs.Disk.{Files}
use Rattle.hudi_commit.specs.Names.{timeline_folder}
use Rattle.target_core.specs.Folders.{SameIn}
use Rattle.target_hudi.specs.Kept.{IsCounted, IsNewest, StandsFor, view_of}
use Rattle.target_hudi.specs.Reading.{Reads}
use Rattle.target_hudi.specs.declared.kept.HudiKept.{HudiKept}
use Rattle.target_hudi.specs.SettledLemmas.{commits_own, completed_own, reads_own}

newest_own : (a b : Files) (newest : Option (List ℕ)) → SameIn timeline_folder a b → IsNewest a newest → IsNewest b newest
newest_own a b None same h = completed_own a b same ∙ h
newest_own a b (Some time) same h = (h.0, h.1, completed_own a b same ∙ h.2, h.3)

pub kept_view : (kept : HudiKept) (files : Files) → StandsFor kept files → Reads files (view_of kept)
kept_view kept files h = h.reads

pub kept_counted : (kept : HudiKept) (files : Files) → StandsFor kept files → IsCounted kept files
kept_counted kept files h = h.counted

pub counted_own : (kept : HudiKept) (a b : Files) → SameIn timeline_folder a b → IsCounted kept a → IsCounted kept b
counted_own kept a b same h = record { commits = h.commits ∙ sym (commits_own a b same); newest = newest_own a b kept.newest same h.newest }

pub kept_own : (kept : HudiKept) (a b : Files) → SameIn timeline_folder a b → StandsFor kept a → StandsFor kept b
kept_own kept a b same h = record { reads = reads_own a b (view_of kept) same h.reads; counted = counted_own kept a b same h.counted; at = h.at }
