-- What is kept of a Delta target, and when it is what the files hold.
use Rattle.std.specs.Prelude.{◌≡◌, ◌⊎◌, ℕ, suc, List, false, Some, option_map}
use Rattle.std.specs.Fmt.{decimal}
use Rattle.lake_store.specs.Disk.{Files}
use Rattle.delta_log.specs.declared.commit.DeltaCommit.{DeltaCommit}
use Rattle.delta_log.specs.declared.commit.MetaData.{MetaData}
use Rattle.delta_log.specs.declared.commit.Protocol.{Protocol}
use Rattle.delta_table.specs.Log.{IsNewestProtocol, SaysCommit}
use Rattle.target_core.specs.Views.{View, standing_of}
use Rattle.target_delta.specs.Reading.{IsAbsent, Reads}
use Rattle.target_delta.specs.Writing.{LogEnd, names_ntz}
use Rattle.target_delta.specs.declared.kept.DeltaKept.{DeltaKept}

abbrev pub view_of : DeltaKept → View
view_of kept = record { commits = kept.commits; mark = option_map standing_of kept.mark; table = kept.table }

abbrev pub end_of : DeltaKept → LogEnd
end_of kept = record { version = kept.commits; id = kept.id; schema = kept.table.schema; partition = kept.table.partition; ntz = kept.names_ntz }

-- The newest version's metadata has the kept id, the kept mark names that version, and the newest protocol lists the feature as kept.
pub record HoldsEnd (files : Files) (kept : DeltaKept) : Type 0 where
  pub newest : ℕ
  pub count : kept.commits ≡ suc newest
  pub commit : DeltaCommit
  pub says : SaysCommit files newest commit
  pub meta : MetaData
  pub stated : commit.meta ≡ Some meta
  pub id : meta.id ≡ kept.id
  pub at : option_map (λ m. m.at) kept.mark ≡ Some (decimal newest)
  pub protocol : Protocol
  pub newest_protocol : IsNewestProtocol files (suc newest) protocol
  pub ntz : names_ntz protocol ≡ kept.names_ntz

-- Nothing is published, and this is the id that a first commit gives the table.
pub record IsFirst (files : Files) (id : List ℕ) (kept : DeltaKept) : Type 0 where
  pub none : IsAbsent files
  pub commits : kept.commits ≡ 0
  pub id_is : kept.id ≡ id
  pub ntz : kept.names_ntz ≡ false

-- What is kept is what the files hold. `id` is the one that a first commit gives the table.
pub record StandsFor (id : List ℕ) (kept : DeltaKept) (files : Files) : Type 0 where
  pub reads : Reads files (view_of kept)
  pub end : IsFirst files id kept ⊎ HoldsEnd files kept
