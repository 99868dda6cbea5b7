-- The field ids of an Iceberg target stay near the number of its versions.
use Rattle.std.proofs.Common.{◌≡◌, inl, inr, ℕ, ◌+◌, ◌*◌, ◌^◌, ◌≤◌, List, [], ◌∷◌, ◌++◌, length, Contains, refl, sym, ap, subst, arith}
use Rattle.std.proofs.lemmas.List.Elements.{Contains-append_left}
use Rattle.delta_table.specs.SameVersions.{version_in}
use Rattle.delta_table.specs.Versions.{log_folder}
use Rattle.lake_store.specs.Disk.{Files}
use Rattle.lake_store.specs.Fuse.{fuse_disk, room_of}
use Rattle.lake_store.specs.Runs.{IsIn}
use Rattle.lake_store.specs.declared.fuse.FuseStore.{FuseStore}
use Rattle.source_core.specs.Histories.{IsAt}
use Rattle.table_history.proofs.RowListLemmas.{Contains-head, Contains-tail}
use Rattle.table_history.specs.History.{History}
use Rattle.table_history.specs.TypeTree.{ColumnTrees}
use Rattle.table_history.specs.declared.kind.Kind.{Kind}
use Rattle.table_history.specs.declared.kind.Kind.TheVariants.{Delta, Hudi, Iceberg}
use Rattle.table_history.specs.declared.table.Commit.{Commit}
use Rattle.table_history.specs.declared.table.Table.{Table}
use Rattle.iceberg_metadata.specs.Schemas.{HeldSchema}
use Rattle.iceberg_metadata.specs.Writing.{SameMetadata}
use Rattle.iceberg_metadata.specs.declared.metadata.Metadata.{Metadata}
use Rattle.iceberg_table.specs.Folder.{metadata_folder}
use Rattle.iceberg_version.specs.KeptEnd.{end_of, view_of}
use Rattle.iceberg_version.specs.Writing.{no_version}
use Rattle.iceberg_version.specs.declared.kept.IcebergKept.{IcebergKept}
use Rattle.target_core.proofs.Apart.{folders_apart}
use Rattle.target_core.specs.Folders.{SameIn}
use Rattle.target_core.specs.Views.{Origin, View}
use Rattle.target_iceberg.specs.IcebergMeaning.{iceberg_meaning}
use Rattle.target_iceberg.specs.Kept.{StandsFor}
use Rattle.target_iceberg.specs.Reading.{Reads}
use Rattle.target_iceberg.specs.SettledLemmas.{crash_reached, own_reached}
use Rattle.target_iceberg.specs.ViewLemmas.{is_absent}
use Rattle.target_iceberg.specs.TableId.{table_id}
use Rattle.target_iceberg.specs.declared.target.IcebergTarget.{IcebergTarget}
use Rattle.target_sync.specs.Answered.{IsReady}
use Rattle.target_sync.specs.Dues.{Due}
use Rattle.target_sync.specs.Targets.{TargetFacts, target_facts}
use Rattle.target_sync.specs.declared.plan.Mode.TheVariants as modes
use Rattle.target_sync.specs.declared.status.Status.{Status}
use Rattle.lake_play.specs.Formats.{from_delta, place, to_iceberg}
use Rattle.lake_play.specs.Playing.{Brings, IsSynced, scripted}
use Rattle.lake_play.specs.Scripted.{scripted_store}
use Rattle.lake_play.specs.Standing.{meaning_of_iceberg}
use Rattle.lake_play.proofs.AtSyncs.{Stays}
use Rattle.lake_play.proofs.Causes.{due_states, iceberg_views}
use Rattle.lake_play.proofs.EachOnce.{iceberg_side}
use Rattle.lake_play.proofs.FieldIds.{AreLow, IsNarrow, StatesNarrow, behind_narrow, no_columns_narrow, none_low, written_low}
use Rattle.lake_play.proofs.Gains.{stays_or_comes}
use Rattle.lake_play.proofs.Logs.{extended_elsewhere}
use Rattle.lake_play.proofs.Newest.{AllMay, IsStep, OfNewest, of_behind, of_kept, of_none, of_same, reached_newest, sync_holds, table_held}
use Rattle.lake_play.proofs.Plays.{Keeps}
use Rattle.lake_play.proofs.Syncs.{alone, going}
use Rattle.lake_play.proofs.Targets.{IsPlayed}

-- They are up to two for each version.
abbrev pub HasLowIds : ℕ → Metadata → Type 0
HasLowIds version m = AreLow (2 * version) m.schemas m.last_column_id

same_low : (most : ℕ) (m n : Metadata) → m.schemas ≡ n.schemas → m.last_column_id ≡ n.last_column_id → AreLow most n.schemas n.last_column_id → AreLow most m.schemas m.last_column_id
same_low most m n schemas last low = subst (λ (l : List HeldSchema). AreLow most l m.last_column_id) (sym schemas) (subst (AreLow most n.schemas) (sym last) low)

alike_low : (version : ℕ) (m n : Metadata) → SameMetadata m n → HasLowIds version n → HasLowIds version m
alike_low version m n same low = same_low (2 * version) m n (ap (λ (x : Metadata). x.schemas) same.others) (ap (λ (x : Metadata). x.last_column_id) same.others) low

alike_back : (version : ℕ) (m n : Metadata) → SameMetadata m n → HasLowIds version m → HasLowIds version n
alike_back version m n same low = same_low (2 * version) n m (ap (λ (x : Metadata). x.schemas) (sym same.others)) (ap (λ (x : Metadata). x.last_column_id) (sym same.others)) low

first_low : (id location : List ℕ) → HasLowIds 0 (no_version id location)
first_low id location = none_low (no_version id location).last_column_id refl

-- ---- what is kept of such files

module _ (id location : List ℕ) (kept : IcebergKept) (files : Files) (stands : StandsFor id location kept files) (holds : OfNewest HasLowIds files) where
  pub kept_low : HasLowIds kept.version kept.metadata
  kept_low = of_kept HasLowIds alike_low id location (first_low id location) kept files stands holds

  narrow_by : Reads files (view_of kept) → IsNarrow kept.table.schema
  narrow_by (inl none) = subst (λ (schema : ColumnTrees). IsNarrow schema) (sym (ap (λ (v : View). v.table.schema) none.1)) no_columns_narrow
  narrow_by (inr ours) =
      let held = table_held (λ (s : HeldSchema). IsNarrow s.1) id location kept files stands (λ version m newest says s there. (holds version m newest says).narrow s there) ours.first in
      subst (λ (schema : ColumnTrees). IsNarrow schema) (sym held.2) held.1

  pub kept_narrow : IsNarrow kept.table.schema
  kept_narrow = narrow_by stands.reads

-- ---- what is published

abbrev May : ℕ → Commit → Type 0
May version commit = StatesNarrow commit

all_may : (version : ℕ) (commits : List Commit) → ((commit : Commit) → Contains commits commit → StatesNarrow commit) → AllMay May version commits
all_may version [] each = tt
all_may version (commit ∷ commits) each = (each commit (Contains-head commit commits), all_may (version + 1) commits (λ other there. each other (Contains-tail commit commits other there)))

step : (id location : List ℕ) (origin : Origin) (now : ℕ) → IsStep (OfNewest HasLowIds) May id location origin now
step id location origin now kept before after commit stands writes within states holds =
    let low = kept_low id location kept before stands holds in
    let stated = behind_narrow (end_of kept) commit.change (kept_narrow id location kept before stands holds) states in
    let two : 2 * kept.version + 2 ≡ 2 * (kept.version + 1) = omega arith in
    let made = written_low (2 * kept.version) (end_of kept) origin now commit writes.written low stated writes.is in
    of_behind id location kept before after origin now commit stands writes within HasLowIds
    (alike_back (kept.version + 1) writes.written.metadata writes.back.metadata.0 writes.back.metadata.2 (subst (λ (most : ℕ). AreLow most writes.written.metadata.schemas writes.written.metadata.last_column_id) two made))

-- ---- along a play

-- the Iceberg target behind so many syncs and these commits
abbrev pub HasIcebergIds : ℕ → List (List ℕ) → FuseStore → Type 0
HasIcebergIds syncs commits store = OfNewest HasLowIds (fuse_disk store).files

module _ (history : History) (narrow : (entry : List ℕ × Table) → Contains history entry → IsNarrow entry.1.schema) (now : ℕ) where
  same_ids : (old new : FuseStore) → SameIn metadata_folder (fuse_disk old).files (fuse_disk new).files → OfNewest HasLowIds (fuse_disk old).files → OfNewest HasLowIds (fuse_disk new).files
  same_ids old new same was = of_same HasLowIds (fuse_disk old).files (fuse_disk new).files (reached_newest (fuse_disk old).files (fuse_disk new).files (own_reached (fuse_disk old).files (fuse_disk new).files same)) was

  module _ (commits : List (List ℕ)) (front behind : History) (hudi iceberg : ℕ) (old new : FuseStore) (given : Status) (keeps : Keeps history commits front behind 0 hudi iceberg old) (small : length commits ≤ 2 ^ 64) where
    played : (t : IcebergTarget) → t.id ≡ table_id place → IsPlayed (target_facts to_iceberg t).files (front ++ behind) iceberg (length commits) (fuse_disk old)
    played t id =
        subst (λ (h : History). IsPlayed (target_facts to_iceberg t).files h iceberg (length commits) (fuse_disk old)) keeps.split
        (subst (λ (i : List ℕ). IsPlayed (iceberg_meaning i) history iceberg (length commits) (fuse_disk old)) (sym id) keeps.to_iceberg)

    -- each commit that is due states a narrow schema or none
    pub states : (t : IcebergTarget) → t.id ≡ table_id place → Brings (target_facts to_iceberg t) modes.Sync now old new given → (start : View) → Reads (fuse_disk old).files start → (due : Due from_delta modes.Sync (fuse_disk old).files start)
        → (commit : Commit) → Contains due.commits commit → StatesNarrow commit
    states t id brings start reads due commit there schema said =
        let of = due_states (target_facts to_iceberg t) (iceberg_views t) modes.Sync now old new given brings keeps.uncontested commits 0 keeps.log front behind keeps.made small iceberg (played t id) start reads due commit schema there said in
        subst (λ (s : ColumnTrees). IsNarrow s) of.2 (narrow of.0 (subst (λ (h : History). Contains h of.0) (sym keeps.split) (Contains-append_left front behind of.0 of.1)))

    own_ids : IsSynced Iceberg modes.Sync now old new given → OfNewest HasLowIds (fuse_disk old).files → OfNewest HasLowIds (fuse_disk new).files
    own_ids (inl gave_up) was = subst (λ (s : FuseStore). OfNewest HasLowIds (fuse_disk s).files) (sym gave_up.1) was
    own_ids (inr is) was =
        let t = is.0 in
        let facts : TargetFacts = target_facts to_iceberg t in
        let before = (fuse_disk old).files in
        let after = (fuse_disk new).files in
        let mine = played t is.1 in
        let at = mine.stands.at in
        let ready : IsReady from_delta facts before at.view (facts.files.settled (fuse_disk old)) =
        record { reads = at.reads; goes_on = going facts modes.Sync now old new given is.3 keeps.uncontested (front ++ behind) mine.stands.j at.view at.shows; settled = mine.settled } in
        sync_holds (OfNewest HasLowIds) May (of_same HasLowIds) from_delta t modes.Sync now at.view before after at.reads was (λ origin. step t.id t.location origin now)
        (λ due kept stands. all_may kept.version due.commits (states t is.1 is.3 at.view at.reads due))
        (stays_or_comes scripted_store tt from_delta facts modes.Sync now (scripted (room_of old) old) (scripted is.3.room new) is.3.answer is.3.sync.sync (alone facts modes.Sync now old new given is.3 keeps.uncontested) at.view ready)

    synced_ids : (target : Kind) → IsSynced target modes.Sync now old new given → OfNewest HasLowIds (fuse_disk old).files → OfNewest HasLowIds (fuse_disk new).files
    synced_ids Delta is was = same_ids old new (iceberg_side.beside Delta modes.Sync now old new given refl keeps.uncontested is) was
    synced_ids Hudi is was = same_ids old new (iceberg_side.beside Hudi modes.Sync now old new given refl keeps.uncontested is) was
    synced_ids Iceberg is was = own_ids is was

  pub iceberg_ids : Stays history now (λ given. Unit {0}) HasIcebergIds
  iceberg_ids = record {
    extended = λ syncs commits front behind hudi iceberg old new bytes keeps is was.
        same_ids old new (λ path within. extended_elsewhere (fuse_disk old) (fuse_disk new) is.path bytes path is.disk (λ e. folders_apart Iceberg Delta (λ same. cc) path within (subst (IsIn log_folder) (sym e) (version_in is.path (length commits) is.is)))) was;
    synced = λ syncs commits front behind hudi iceberg old new target given keeps small some is ends was. synced_ids commits front behind hudi iceberg old new given keeps small target is was;
    stopped = λ syncs commits old call was. was;
    crashed = λ syncs commits front behind hudi iceberg old new choices keeps is was.
        of_same HasLowIds (fuse_disk old).files (fuse_disk new).files (reached_newest (fuse_disk old).files (fuse_disk new).files (crash_reached (fuse_disk old) (fuse_disk new).files keeps.to_iceberg.settled (λ path within clean. is.image path clean))) was;
  }

pub none_ids : (history : History) (store : FuseStore) (hudi iceberg : ℕ) → Keeps history [] [] history 0 hudi iceberg store → HasIcebergIds 0 [] store
none_ids history store hudi iceberg keeps =
    let stands = keeps.to_iceberg.stands in
    let up = stands.up_to in
    let none : stands.j ≡ 0 = omega (arith, up) in
    let at : IsAt Delta meaning_of_iceberg history (fuse_disk store).files 0 = subst (IsAt Delta meaning_of_iceberg history (fuse_disk store).files) none stands.at in
    of_none HasLowIds (fuse_disk store).files (is_absent (fuse_disk store).files at.view.table.partition (subst (Reads (fuse_disk store).files) at.shows at.reads))
