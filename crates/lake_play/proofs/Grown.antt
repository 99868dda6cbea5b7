-- A target has few commits more than it stands tables into the history: at most one for each sync.
use Rattle.std.proofs.Common.{◌≡◌, ⊎_elim, ℕ, ◌+◌, ◌^◌, ◌≤◌, ◌<◌, Bool, true, false, List, [], ◌∷◌, ◌++◌, length, take, None, Some, inl, inr, refl, sym, subst, ◌∙◌, arith}
use Rattle.std.proofs.lemmas.List.{length-append, length-take-le}
use Rattle.conformance.specs.Histories.{IsHistoryFrom}
use Rattle.lake_store.specs.Disk.{Files}
use Rattle.lake_store.specs.Fuse.{FuseCanBeContested, fuse_disk, room_of}
use Rattle.lake_store.specs.Runs.{IsIn}
use Rattle.lake_store.specs.declared.fuse.FuseStore.{FuseStore}
use Rattle.delta_table.specs.SameVersions.{version_in}
use Rattle.delta_table.specs.Versions.{log_folder}
use Rattle.source_core.specs.Histories.{IsAt}
use Rattle.table_history.specs.History.{History}
use Rattle.table_history.specs.declared.kind.Kind.{Kind}
use Rattle.table_history.specs.declared.kind.Kind.TheVariants.{Delta, Hudi, Iceberg}
use Rattle.target_core.specs.Folders.{SameIn, folder_of}
use Rattle.target_core.specs.Meaning.{Meaning}
use Rattle.target_core.specs.Views.{View}
use Rattle.target_core.proofs.Apart.{folders_apart}
use Rattle.target_core.proofs.Unpublished.{no_commits}
use Rattle.target_iceberg.specs.IcebergMeaning.{iceberg_meaning}
use Rattle.target_sync.specs.Along.{GoesOnAlong, HasGoneTo, LeadsAsFar, StandsFrom}
use Rattle.target_sync.specs.Answered.{IsDone, IsUndisturbed}
use Rattle.target_sync.specs.Dues.{origin_of}
use Rattle.target_sync.specs.Synced.{IsAsBefore, with_columns}
use Rattle.target_sync.specs.Targets.{TargetFacts, target_facts}
use Rattle.target_sync.specs.declared.plan.Mode.TheVariants as modes
use Rattle.target_sync.specs.declared.status.Status.{Status}
use Rattle.lake_play.specs.Formats.{from_delta, to_hudi, to_iceberg}
use Rattle.lake_play.specs.Playing.{Brings, IsSynced, scripted}
use Rattle.lake_play.specs.Scripted.{scripted_store}
use Rattle.lake_play.specs.Standing.{is_same, meaning_of_hudi, meaning_of_iceberg}
use Rattle.lake_play.proofs.AtSyncs.{Stays}
use Rattle.lake_play.proofs.EachOnce.{Side, hudi_counts, hudi_side, iceberg_counts, iceberg_side, same_kind}
use Rattle.lake_play.proofs.Histories.{holds_history, is_history, same_length}
use Rattle.lake_play.proofs.Logs.{HoldsCommits, extended_elsewhere}
use Rattle.lake_play.proofs.Once.{Counts, advanced_count}
use Rattle.lake_play.proofs.Plays.{Keeps}
use Rattle.lake_play.proofs.Syncs.{alone}
use Rattle.lake_play.proofs.Targets.{shows_front, shows_whole}

-- After so many syncs.
pub record IsGrown (target : Meaning) (history : History) (syncs count : ℕ) (files : Files) : Type 0 where
  pub j : ℕ
  pub within : j ≤ count
  pub at : IsAt Delta target history files j
  pub few : at.view.commits ≤ j + syncs

-- ---- one sync

module _ (target : TargetFacts) (counts : Counts target.files) (now : ℕ) (old new : FuseStore) (given : Status) (brings : Brings target modes.Sync now old new given) (none : FuseCanBeContested old → ⊥)
    (commits : List (List ℕ)) (log : HoldsCommits commits 0 (fuse_disk old)) (front rest : History) (is : IsHistoryFrom 0 None commits front) (small : length commits ≤ 2 ^ 64) (some : 0 < length commits)
    (settled : target.files.settled (fuse_disk old)) (syncs : ℕ) (was : IsGrown target.files (front ++ rest) syncs (length commits) (fuse_disk old).files) where
  abbrev after : Files
  after = (fuse_disk new).files

  abbrev start : View
  start = was.at.view

  inside : was.j ≤ length front
  inside = let e = same_length 0 None commits front is in let up = was.within in omega (arith, e, up)

  abbrev here : IsAt Delta target.files front (fuse_disk old).files was.j
  here = record { view = start; reads = was.at.reads; shows = shows_front target.files.image front rest was.j start inside was.at.shows }

  goes : GoesOnAlong scripted_store from_delta target.files modes.Sync front was.j here.view (IsUndisturbed (Some brings.answer)) (IsDone (Some brings.answer)) (scripted (room_of old) old) (scripted brings.room new)
  goes = brings.sync.along.goes tt front (is_history commits front is small) (holds_history commits 0 (fuse_disk old) log some front is) was.j here settled

  on : StandsFrom from_delta target.files modes.Sync front was.j start (fuse_disk old).files after
  on = goes.at_return (alone target modes.Sync now old new given brings none)

  same_count : (view : View) → target.files.reads after view → on.at.view.commits ≡ view.commits
  same_count view reads = sym (counts.commits_read after on.at.view on.at.reads) ∙ counts.commits_read after view reads

  as_before : on.j ≡ was.j → IsAsBefore target.files start (fuse_disk old).files after → on.at.view.commits ≤ on.j + (syncs + 1)
  as_before stays before =
      let count = same_count before.view before.reads in
      let same = before.same.commits in
      let few = was.few in
      omega (arith, count, same, few, stays)

  gone : HasGoneTo from_delta target.files modes.Sync front was.j on.j start (fuse_disk old).files after → on.at.view.commits ≤ on.j + (syncs + 1)
  gone by =
      let base : View = with_columns by.due.partition start in
      let within = by.gained.within in
      let taken : length (take by.count by.due.commits) ≡ by.count = length-take-le by.count by.due.commits within in
      let grown = advanced_count target.files.image (origin_of by.due) base by.gained.view (take by.count by.due.commits) by.gained.leads in
      let count = same_count by.gained.view by.gained.stands in
      let few = was.few in
      let far = as_far by.due.full by.as_far in
      omega (arith, taken, grown, count, few, far)
    where
      as_far : (full : Bool) → LeadsAsFar full front was.j by.count on.j → was.j + by.count ≤ on.j + 1
      as_far false far = omega (arith, far)
      as_far true (inl far) = let none_more = far.0 in let stays = far.1 in omega (arith, none_more, stays)
      as_far true (inr far) = let one = far.0 in let from = on.from in omega (arith, one, from)

  pub grown_more : IsGrown target.files (front ++ rest) (syncs + 1) (length commits) after
  grown_more =
      let e = same_length 0 None commits front is in
      let up = on.within in
      record {
        j = on.j;
        within = omega (arith, up, e);
        at = record { view = on.at.view; reads = on.at.reads; shows = shows_whole target.files.image front rest on.j on.at.view up on.at.shows };
        few = ⊎_elim (λ (stays : (on.j ≡ was.j) × IsAsBefore target.files start (fuse_disk old).files after). as_before stays.0 stays.1) gone on.by;
      }

-- ---- along a play

-- the target behind so many syncs and these commits
abbrev pub HasGrown : Meaning → History → ℕ → List (List ℕ) → FuseStore → Type 0
HasGrown target history syncs commits store = IsGrown target history syncs (length commits) (fuse_disk store).files

module _ (kind : Kind) (target : Meaning) (side : Side kind target) (history : History) where
  grown_as : (syncs more count to : ℕ) (a b : Files) → syncs ≤ more → count ≤ to → ((view : View) → target.reads a view → target.reads b view) → IsGrown target history syncs count a → IsGrown target history more to b
  grown_as syncs more count to a b later longer reads was =
      let up = was.within in
      let few = was.few in
      record { j = was.j; within = omega (arith, up, longer); at = record { view = was.at.view; reads = reads was.at.view was.at.reads; shows = was.at.shows }; few = omega (arith, few, later) }

  same_grown : (syncs more count to : ℕ) (a b : Files) → syncs ≤ more → count ≤ to → SameIn (folder_of kind) a b → IsGrown target history syncs count a → IsGrown target history more to b
  same_grown syncs more count to a b later longer same was = grown_as syncs more count to a b later longer (λ view reads. side.laws.reads_own a b view (subst (λ (k : Kind). SameIn (folder_of k) a b) (sym side.is_kind) same) reads) was

  -- what a sync of its own makes of it
  abbrev pub GrowsBySync : ℕ → Type 0
  GrowsBySync now = (syncs : ℕ) (commits : List (List ℕ)) (front behind : History) (hudi iceberg : ℕ) (old new : FuseStore) (given : Status) → Keeps history commits front behind 0 hudi iceberg old → length commits ≤ 2 ^ 64 → 0 < length commits
      → IsSynced kind modes.Sync now old new given → HasGrown target history syncs commits old → HasGrown target history (syncs + 1) commits new

  synced_grown : (now : ℕ) → GrowsBySync now → (syncs : ℕ) (commits : List (List ℕ)) (front behind : History) (hudi iceberg : ℕ) (old new : FuseStore) (synced : Kind) (given : Status) → Keeps history commits front behind 0 hudi iceberg old → length commits ≤ 2 ^ 64 → 0 < length commits
      → IsSynced synced modes.Sync now old new given → HasGrown target history syncs commits old → HasGrown target history (syncs + 1) commits new
  synced_grown now own syncs commits front behind hudi iceberg old new synced given keeps small some is was = by (is_same kind synced) refl
    where
      by : (b : Bool) → is_same kind synced ≡ b → HasGrown target history (syncs + 1) commits new
      by true mine = own syncs commits front behind hudi iceberg old new given keeps small some (subst (λ (k : Kind). IsSynced k modes.Sync now old new given) (sym (same_kind kind synced mine)) is) was
      by false other = same_grown syncs (syncs + 1) (length commits) (length commits) (fuse_disk old).files (fuse_disk new).files (omega arith) (omega arith) (side.beside synced modes.Sync now old new given other keeps.uncontested is) was

  pub grows : (now : ℕ) → GrowsBySync now → Stays history now (λ given. Unit {0}) (HasGrown target history)
  grows now own = record {
    extended = λ syncs commits front behind hudi iceberg old new bytes keeps is was.
        let grown : length (commits ++ bytes ∷ []) ≡ length commits + 1 = length-append commits (bytes ∷ []) in
        same_grown syncs syncs (length commits) (length (commits ++ bytes ∷ [])) (fuse_disk old).files (fuse_disk new).files (omega arith) (omega (arith, grown)) (λ path within.
        extended_elsewhere (fuse_disk old) (fuse_disk new) is.path bytes path is.disk (λ e. folders_apart kind Delta side.apart path within (subst (IsIn log_folder) (sym e) (version_in is.path (length commits) is.is)))) was;
    synced = λ syncs commits front behind hudi iceberg old new synced given keeps small some is ends was. synced_grown now own syncs commits front behind hudi iceberg old new synced given keeps small some is was;
    stopped = λ syncs commits old call was. was;
    crashed = λ syncs commits front behind hudi iceberg old new choices keeps is was.
        let played = side.played history commits front behind 0 hudi iceberg old keeps in
        grown_as syncs syncs (length commits) (length commits) (fuse_disk old).files (fuse_disk new).files (omega arith) (omega arith) (λ view reads. side.laws.crash_reads (fuse_disk old) (fuse_disk new).files view played.settled (λ path own clean. is.image path clean) reads) was;
  }

  pub none_grown : (store : FuseStore) (hudi iceberg : ℕ) → Keeps history [] [] history 0 hudi iceberg store → HasGrown target history 0 [] store
  none_grown store hudi iceberg keeps =
      let stands = (side.played history [] [] history 0 hudi iceberg store keeps).stands in
      let up = stands.up_to in
      let none : stands.j ≡ 0 = omega (arith, up) in
      let at : IsAt Delta target history (fuse_disk store).files 0 = subst (IsAt Delta target history (fuse_disk store).files) none stands.at in
      let count = no_commits at.view at.shows in
      record { j = 0; within = omega arith; at = at; few = omega (arith, count) }

-- ---- the two targets

module _ (history : History) (now : ℕ) where
  still_grown : (target : Meaning) (syncs : ℕ) (commits : List (List ℕ)) (old new : FuseStore) → new ≡ old → HasGrown target history syncs commits old → HasGrown target history (syncs + 1) commits new
  still_grown target syncs commits old new same was =
      let few = was.few in
      subst (HasGrown target history (syncs + 1) commits) (sym same) (record { j = was.j; within = was.within; at = was.at; few = omega (arith, few) })

  hudi_by_sync : GrowsBySync Hudi meaning_of_hudi hudi_side history now
  hudi_by_sync syncs commits front behind hudi iceberg old new given keeps small some (inl is) was = still_grown meaning_of_hudi syncs commits old new is.1 was
  hudi_by_sync syncs commits front behind hudi iceberg old new given keeps small some (inr is) was =
      let facts : TargetFacts = target_facts to_hudi is.0 in
      subst (λ (h : History). IsGrown meaning_of_hudi h (syncs + 1) (length commits) (fuse_disk new).files) (sym keeps.split)
      (grown_more facts hudi_counts now old new given is.2 keeps.uncontested commits keeps.log front behind keeps.made small some keeps.to_hudi.settled syncs
      (subst (λ (h : History). IsGrown meaning_of_hudi h syncs (length commits) (fuse_disk old).files) keeps.split was))

  iceberg_by_sync : GrowsBySync Iceberg meaning_of_iceberg iceberg_side history now
  iceberg_by_sync syncs commits front behind hudi iceberg old new given keeps small some (inl is) was = still_grown meaning_of_iceberg syncs commits old new is.1 was
  iceberg_by_sync syncs commits front behind hudi iceberg old new given keeps small some (inr is) was =
      let id = is.0.id in
      let facts : TargetFacts = target_facts to_iceberg is.0 in
      let settled = subst (λ (i : List ℕ). (iceberg_meaning i).settled (fuse_disk old)) (sym is.1) keeps.to_iceberg.settled in
      let before = subst (λ (i : List ℕ). IsGrown (iceberg_meaning i) (front ++ behind) syncs (length commits) (fuse_disk old).files) (sym is.1) (subst (λ (h : History). IsGrown meaning_of_iceberg h syncs (length commits) (fuse_disk old).files) keeps.split was) in
      let made = grown_more facts (iceberg_counts id) now old new given is.3 keeps.uncontested commits keeps.log front behind keeps.made small some settled syncs before in
      subst (λ (i : List ℕ). IsGrown (iceberg_meaning i) history (syncs + 1) (length commits) (fuse_disk new).files) is.1 (subst (λ (h : History). IsGrown (iceberg_meaning id) h (syncs + 1) (length commits) (fuse_disk new).files) (sym keeps.split) made)

  pub hudi_grows : Stays history now (λ given. Unit {0}) (HasGrown meaning_of_hudi history)
  hudi_grows = grows Hudi meaning_of_hudi hudi_side history now hudi_by_sync

  pub iceberg_grows : Stays history now (λ given. Unit {0}) (HasGrown meaning_of_iceberg history)
  iceberg_grows = grows Iceberg meaning_of_iceberg iceberg_side history now iceberg_by_sync
