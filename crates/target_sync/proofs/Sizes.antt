-- What a run leaves of the sizes of files, behind one that only reads. For the crates above too.
use Rattle.std.proofs.Common.{ap}
use Rattle.lake_basics.specs.declared.limits.TheConstants.{MAX_FILE_BYTES}
use Rattle.lake_store.specs.Disk.{AddsShort, Disk}
use Rattle.lake_store.specs.Runs.{OnlyReads}
use Rattle.lake_store.specs.declared.store.Store.{Ghosts}
use Rattle.lake_store.proofs.ShortLaws.{short_same, short_then}

module _ {S : Type 0} (store : Ghosts S) where
  -- No file becomes too large to be read.
  abbrev pub StaysShort : S → S → Type 0
  StaysShort old new = AddsShort MAX_FILE_BYTES (store.disk old).files (store.disk new).files

  pub short_reading : (old new : S) → (store.tells → OnlyReads store old new) → store.tells → StaysShort old new
  short_reading old new reading told = short_same MAX_FILE_BYTES (store.disk old).files (store.disk new).files (ap (λ (d : Disk). d.files) (reading told).disk)

  pub short_further : (old mid new : S) → (store.tells → StaysShort old mid) → (store.tells → StaysShort mid new) → store.tells → StaysShort old new
  short_further old mid new first more told = short_then MAX_FILE_BYTES (store.disk old).files (store.disk mid).files (store.disk new).files (first told) (more told)
