-- Nothing that events do makes a file of a target too large to be read, so reading a target never passes the bytes of a file.
use Rattle.std.proofs.Common.{◌≡◌, ◌⊎◌, inl, inr, ℕ, List, [], ◌∷◌, length, Contains, codes, refl, sym, ◌∙◌, ap, subst, arith}
use Rattle.std.specs.FinMap as map
use Rattle.std.proofs.lemmas.Option.{none-some}
use Rattle.conformance.specs.declared.event.Event.{Event}
use Rattle.conformance.specs.declared.event.Event.TheVariants as event
use Rattle.delta_table.specs.SameVersions.{version_in}
use Rattle.delta_table.specs.Versions.{log_folder}
use Rattle.hudi_table.specs.Instants.{path_of}
use Rattle.hudi_table.specs.declared.instants.CompletedInstant.{CompletedInstant}
use Rattle.iceberg_table.specs.declared.list.ManifestFile.{ManifestFile}
use Rattle.lake_basics.specs.declared.limits.TheConstants.{MAX_FILE_BYTES}
use Rattle.lake_store.specs.Disk.{AddsShort, Disk, Files}
use Rattle.lake_store.specs.Fuse.{fuse_disk}
use Rattle.lake_store.specs.Runs.{IsIn}
use Rattle.lake_store.specs.declared.fuse.FuseStore.{FuseStore}
use Rattle.table_history.specs.History.{History}
use Rattle.table_history.specs.declared.kind.Kind.{Kind}
use Rattle.table_history.specs.declared.kind.Kind.TheVariants.{Delta, Hudi, Iceberg}
use Rattle.table_history.specs.declared.limit.LimitKind.{LimitKind}
use Rattle.target_core.specs.Folders.{SameIn, folder_of}
use Rattle.target_core.specs.Views.{View}
use Rattle.target_core.proofs.Apart.{folders_apart}
use Rattle.target_hudi.specs.Inspecting as hudi_inspecting
use Rattle.target_hudi.specs.Reading.{completed_in}
use Rattle.target_iceberg.specs.OnceLemmas.{current_in}
use Rattle.target_iceberg.specs.Reached.{IsReached}
use Rattle.target_iceberg.specs.Reading as iceberg_reading
use Rattle.target_iceberg.specs.SameLemmas.{list_reached, manifest_reached, reached_in}
use Rattle.target_sync.specs.declared.plan.Mode.{Mode}
use Rattle.target_sync.specs.declared.status.Status.{Status}
use Rattle.lake_play.specs.Playing.{Crashes, Extends, IsSynced, Plays, PlaysAll, Shortens}
use Rattle.lake_play.specs.Standing.{IsFresh}
use Rattle.lake_play.specs.declared.playing.Progress.{Progress}
use Rattle.lake_play.proofs.AtSyncs.{Stays}
use Rattle.lake_play.proofs.HudiNumbers as hudi
use Rattle.lake_play.proofs.IcebergNumbers as iceberg
use Rattle.lake_play.proofs.Logs.{extended_elsewhere, shed_elsewhere}
use Rattle.lake_play.proofs.ShortFiles.{HoldsShort, short_added, short_crashed, short_same_in}

-- No file of a target is too large to be read.
abbrev pub BothShort : FuseStore → Type 0
BothShort store = HoldsShort (folder_of Hudi) (fuse_disk store).files × HoldsShort (folder_of Iceberg) (fuse_disk store).files

both_added : (old new : FuseStore) → AddsShort MAX_FILE_BYTES (fuse_disk old).files (fuse_disk new).files → BothShort old → BothShort new
both_added old new adds short =
    let a = (fuse_disk old).files in
    let b = (fuse_disk new).files in
    (short_added (folder_of Hudi) a b adds short.0, short_added (folder_of Iceberg) a b adds short.1)

both_same : (old new : FuseStore) → ((kind : Kind) → (Delta ≡ kind → ⊥) → SameIn (folder_of kind) (fuse_disk old).files (fuse_disk new).files) → BothShort old → BothShort new
both_same old new same short =
    let a = (fuse_disk old).files in
    let b = (fuse_disk new).files in
    (short_same_in (folder_of Hudi) a b (same Hudi (λ e. cc)) short.0, short_same_in (folder_of Iceberg) a b (same Iceberg (λ e. cc)) short.1)

-- ---- each event

extended_short : (version : ℕ) (bytes : List ℕ) (old new : FuseStore) → Extends version bytes old new → BothShort old → BothShort new
extended_short version bytes old new is = both_same old new (λ kind apart path within.
    extended_elsewhere (fuse_disk old) (fuse_disk new) is.path bytes path is.disk (λ e. folders_apart kind Delta apart path within (subst (IsIn log_folder) (sym e) (version_in is.path version is.is))))

shortened_short : (from to : ℕ) (old new : FuseStore) → Shortens from to old new → BothShort old → BothShort new
shortened_short from to old new is = both_same old new (λ kind apart path within.
    shed_elsewhere from to (fuse_disk old) (fuse_disk new) path is.disk (λ own. folders_apart kind Delta apart path within own))

synced_short : (target : Kind) (mode : Mode) (now : ℕ) (old new : FuseStore) (given : Status) → IsSynced target mode now old new given → BothShort old → BothShort new
synced_short Delta mode now old new given is short = subst BothShort (sym is.1) short
synced_short Hudi mode now old new given (inl is) short = subst BothShort (sym is.1) short
synced_short Hudi mode now old new given (inr is) short = both_added old new (is.2.sync.sync.short tt) short
synced_short Iceberg mode now old new given (inl is) short = subst BothShort (sym is.1) short
synced_short Iceberg mode now old new given (inr is) short = both_added old new (is.3.sync.sync.short tt) short

crashed_short : (choices : List ℕ) (old new : FuseStore) → Crashes choices old new → BothShort old → BothShort new
crashed_short choices old new is short =
    (short_crashed (folder_of Hudi) (fuse_disk old) (fuse_disk new) choices is.disk short.0, short_crashed (folder_of Iceberg) (fuse_disk old) (fuse_disk new) choices is.disk short.1)

-- ---- along a play

event_short : (now : ℕ) (event : Event) (before : Progress) (old : FuseStore) (after : Progress) (new : FuseStore) → Plays now event before old after new → BothShort old → BothShort new
event_short now (event.Extend bytes) before old after new is short = extended_short before.next bytes old new is.0 short
event_short now (event.Shorten below) before old after new is short = shortened_short _ _ old new is.0 short
event_short now (event.Sync target) before old after new is short = synced_short target _ now old new is.0 is.1 short
event_short now (event.Full target) before old after new is short = synced_short target _ now old new is.0 is.1 short
event_short now (event.Stop call) before old after new is short = subst BothShort (sym is.0) short
event_short now (event.Crash choices) before old after new is short = crashed_short choices old new is.0 short

pub plays_short : (now : ℕ) (events : List Event) (before : Progress) (old : FuseStore) (after : Progress) (new : FuseStore) → PlaysAll now events before old after new → BothShort old → BothShort new
plays_short now [] before old after new plays short = subst BothShort plays.1 short
plays_short now (event ∷ events) before old after new plays short = plays_short now events plays.0 plays.1 after new plays.3 (event_short now event before old plays.0 plays.1 plays.2 short)

-- up to each sync
pub short_stays : (history : History) (now : ℕ) (Ends : Status → Type 0) → Stays history now Ends (λ syncs commits store. BothShort store)
short_stays history now Ends = record {
  extended = λ syncs commits front behind hudi iceberg old new bytes keeps is was. extended_short (length commits) bytes old new is was;
  synced = λ syncs commits front behind hudi iceberg old new target given keeps small some is ends was. synced_short target _ now old new given is was;
  stopped = λ syncs commits old call was. was;
  crashed = λ syncs commits front behind hudi iceberg old new choices keeps is was. crashed_short choices old new is was;
}

-- before the first event
pub fresh_short : (store : FuseStore) → IsFresh store → BothShort store
fresh_short store fresh = (none (folder_of Hudi), none (folder_of Iceberg))
  where
    none : (folder : List ℕ) → HoldsShort folder (fuse_disk store).files
    none folder path bytes within there = absurd (none-some bytes (sym (ap (λ (d : Disk). map.get d.files path) fresh.disk ∙ map.get-empty _ path) ∙ there))

-- ---- reading

-- No file of a Hudi target is too large.
pub hudi_readable : (files : Files) (which : LimitKind) (n : ℕ) → HoldsShort (folder_of Hudi) files → hudi.HasLargeFile files which n → ⊥
hudi_readable files which n short (is, at, large) = by large
  where
    readable : (name : List ℕ) → hudi_inspecting.IsLarge files name → ⊥
    readable name large = let few = short (path_of name) large.0 (name, refl) large.1 in let over = large.2 in omega (arith, few, over)

    by : hudi_inspecting.IsLarge files (codes "hoodie.properties") ⊎ ((c : CompletedInstant) × Contains (completed_in files) c × hudi_inspecting.IsLarge files c.name) → ⊥
    by (inl large) = readable (codes "hoodie.properties") large
    by (inr (c, there, large)) = readable c.name large

-- Nor is one that an Iceberg target's current snapshot names.
pub iceberg_readable : (files : Files) (v : View) (ours : iceberg_reading.IsOurs files v) (which : LimitKind) (n : ℕ) → HoldsShort (folder_of Iceberg) files → iceberg.HasLargeFile files ours.metadata ours.current which n → ⊥
iceberg_readable files v ours which n short (is, at, large) = by large
  where
    readable : (path : List ℕ) → IsReached files path → iceberg.IsLarge files path → ⊥
    readable path reached large = let few = short path large.0 (reached_in files path reached) large.1 in let over = large.2 in omega (arith, few, over)

    by : iceberg.IsLarge files ours.current.plan.list ⊎ ((file : ManifestFile) × Contains ours.current.list file × iceberg.IsLarge files file.path) → ⊥
    by (inl large) = readable ours.current.plan.list
        (list_reached files v.commits ours.metadata ours.newest.there ours.says ours.current.snapshot (current_in ours.metadata ours.current.snapshot ours.current.current) ours.current.plan ours.current.says.planned) large
    by (inr (file, named, large)) = readable file.path
        (manifest_reached files v.commits ours.metadata ours.newest.there ours.says ours.current.snapshot (current_in ours.metadata ours.current.snapshot ours.current.current) ours.current.plan ours.current.list file ours.current.says.planned ours.current.says.says named)
        large
