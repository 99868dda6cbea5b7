-- What a line adds to a commit.
use Rattle.std.specs.Prelude.{◌≡◌, ℕ, List, length, Some, false, nat_le}
use Rattle.lake_basics.specs.declared.limits.TheConstants.{MAX_ACTIONS}
use Rattle.delta_log.specs.declared.commit.DeltaCommit.{DeltaCommit}
use Rattle.delta_log.specs.declared.judging.Addition.{Addition}
use Rattle.delta_log.specs.declared.judging.Addition.TheVariants as addition
use Rattle.delta_log.specs.Commit.{file_path}
use Rattle.delta_log.specs.Judging.{acts_on, with_new_file}
use Rattle.delta_log.specs.Sound.{HaveDistinctNames, HasNeededFeatures, IsSoundFile}

-- the commit with what is added
abbrev pub with_addition : DeltaCommit → Addition → DeltaCommit
with_addition c addition.Nothing = c
with_addition c (addition.Protocol p) = record c { protocol = Some p }
with_addition c (addition.MetaData m) = record c { meta = Some m }
with_addition c (addition.File f) = with_new_file c f

-- The commit has room for the action on a file, and none on its path.
abbrev pub HasRoomFor : DeltaCommit → List ℕ → Type 0
HasRoomFor c path = (nat_le MAX_ACTIONS (length c.files) ≡ false) × (acts_on path c.files ≡ false)

-- With this the commit stays sound.
abbrev pub IsSoundAddition : DeltaCommit → Addition → Type 0
IsSoundAddition c addition.Nothing = Unit {0}
IsSoundAddition c (addition.Protocol p) = HasNeededFeatures p
IsSoundAddition c (addition.MetaData m) = HaveDistinctNames m.configuration
IsSoundAddition c (addition.File f) = IsSoundFile f × HasRoomFor c (file_path f)
