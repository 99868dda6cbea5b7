-- What stays true of the source and of both targets while events are played.
use Rattle.std.proofs.Common.{◌≡◌, inl, inr, ℕ, zero, suc, ◌+◌, ◌^◌, ◌≤◌, ◌<◌, max, min, false, List, [], ◌∷◌, ◌++◌, drop, length, Option, Some, None, refl, sym, ap, subst, ◌∙◌, arith}
use Rattle.std.specs.Fmt.{decimal}
use Rattle.std.specs.Prelude.{slice_get}
use Rattle.std.proofs.lemmas.Bool.{false≢true}
use Rattle.std.proofs.lemmas.List.{append-nil, append_assoc, length-append}
use Rattle.std.specs.FinSet as set
use Rattle.std.specs.Ordering.{nat_cmp}
use Rattle.std.specs.Cmp.Lexicographic.{slice_cmp}
use Rattle.std.proofs.lemmas.Option.{same_Some}
use Rattle.conformance.specs.Histories.{AreInOrder, IsExtension, IsHistoryFrom, IsHistoryOf, extensions}
use Rattle.conformance.specs.declared.event.Event.{Event}
use Rattle.conformance.specs.declared.event.Event.TheVariants as event
use Rattle.conformance.proofs.Legal.{history_more, last_more, last_table}
use Rattle.delta_table.specs.SameVersions.{version_in}
use Rattle.delta_table.specs.Versions.{log_folder}
use Rattle.lake_store.specs.Disk.{Disk, Files, IsClean}
use Rattle.lake_store.specs.Fuse.{FuseCanBeContested, fuse_disk, with_stop}
use Rattle.lake_store.specs.Runs.{IsIn}
use Rattle.lake_store.specs.declared.fuse.FuseStore.{FuseStore}
use Rattle.table_history.specs.History.{History}
use Rattle.table_history.specs.declared.kind.Kind.{Kind}
use Rattle.table_history.specs.declared.kind.Kind.TheVariants.{Delta, Hudi, Iceberg}
use Rattle.table_history.specs.declared.table.Table.{Table}
use Rattle.target_core.specs.Folders.{SameIn, after_crash, folder_of}
use Rattle.target_core.proofs.Apart.{folders_apart}
use Rattle.target_sync.specs.Targets.{TargetFacts, target_facts}
use Rattle.target_sync.specs.declared.plan.Mode.{Mode}
use Rattle.target_sync.specs.declared.plan.Mode.TheVariants as modes
use Rattle.target_sync.specs.declared.status.Status.{Status}
use Rattle.target_sync.specs.declared.status.Status.TheVariants as status
use Rattle.target_hudi.specs.declared.target.HudiTarget.{HudiTarget}
use Rattle.target_iceberg.specs.IcebergMeaning.{iceberg_meaning}
use Rattle.target_iceberg.specs.TableId.{table_id}
use Rattle.target_iceberg.specs.declared.target.IcebergTarget.{IcebergTarget}
use Rattle.lake_play.specs.Formats.{place, to_hudi, to_iceberg}
use Rattle.lake_play.specs.Playing.{Brings, Crashes, Extends, IsSynced, Plays, PlaysAll, Shortens, nothing_played, with_answer}
use Rattle.lake_play.specs.Standing.{BothStand, IsFresh, LogHolds, Stands, answer_count, is_done, first_from, floor_behind, floor_from, floor_of, meaning_of_hudi, meaning_of_iceberg}
use Rattle.lake_play.specs.declared.playing.Progress.{Progress}
use Rattle.lake_play.proofs.Logs.{HoldsCommits, extended_clean, extended_elsewhere, fewer_commits, left_commits, no_commits, one_commit_more, same_commits, shed_elsewhere}
use Rattle.lake_play.proofs.Syncs.{brought, clean_beside, floor_other, floor_stays, same_beside, still_uncontested}
use Rattle.lake_play.proofs.Targets.{IsPlayed, at_nothing, crash_played, hudi_laws, iceberg_laws, later_played, left_standing, same_played}

-- So many commits were played, which made these first tables of the history. The source holds those of them that weren't removed, and each target stands
-- at one of the tables, not before its floor, where a crash can't change it.
pub record Keeps (history : History) (commits : List (List ℕ)) (front behind : History) (first hudi iceberg : ℕ) (store : FuseStore) : Type 0 where
  pub split : history ≡ front ++ behind
  pub made : IsHistoryFrom 0 None commits front
  pub log : HoldsCommits commits first (fuse_disk store)
  pub to_hudi : IsPlayed meaning_of_hudi history hudi (length commits) (fuse_disk store)
  pub to_iceberg : IsPlayed meaning_of_iceberg history iceberg (length commits) (fuse_disk store)
  pub uncontested : FuseCanBeContested store → ⊥

module _ (history : History) (commits : List (List ℕ)) (front behind : History) (first hudi iceberg : ℕ) (old new : FuseStore) (keeps : Keeps history commits front behind first hudi iceberg old) where
  -- ---- a commit

  pub extend_keeps : (bytes : List ℕ) (entry : List ℕ × Table) (more : History) → Extends (length commits) bytes old new → behind ≡ entry ∷ more → IsExtension bytes (last_table None front) entry.1
      → entry.0 ≡ decimal (length commits) → Keeps history (commits ++ bytes ∷ []) (front ++ entry ∷ []) more first hudi iceberg new
  extend_keeps bytes entry more is split extends position =
      let none : 0 + length commits ≡ length commits = omega arith in
      let grown : length (commits ++ bytes ∷ []) ≡ length commits + 1 = length-append commits (bytes ∷ []) in
      let clean : (path : List ℕ) → IsClean (fuse_disk new) path = λ path. extended_clean (fuse_disk old) (fuse_disk new) is.path bytes path is.disk in
      let same : (kind : Kind) → (Delta ≡ kind → ⊥) → SameIn (folder_of kind) (fuse_disk old).files (fuse_disk new).files = λ kind apart path within.
      extended_elsewhere (fuse_disk old) (fuse_disk new) is.path bytes path is.disk (λ e. folders_apart kind Delta apart path within (subst (IsIn log_folder) (sym e) (version_in is.path (length commits) is.is))) in
      record {
        split = keeps.split ∙ ap (λ (h : History). front ++ h) split ∙ sym (append_assoc front (entry ∷ []) more);
        made = subst (λ (p : List ℕ). IsHistoryFrom 0 None (commits ++ bytes ∷ []) (front ++ (p, entry.1) ∷ [])) (ap decimal none ∙ sym position) (history_more 0 None commits front bytes entry.1 keeps.made extends);
        log = one_commit_more commits first (fuse_disk old) (fuse_disk new) is.path bytes is.is is.disk keeps.log;
        to_hudi = later_played meaning_of_hudi hudi_laws history hudi (length commits) (length (commits ++ bytes ∷ [])) (fuse_disk new) (omega (arith, grown))
            (same_played meaning_of_hudi hudi_laws history hudi (length commits) (fuse_disk old) (fuse_disk new) (same Hudi (λ e. cc)) (λ path within was. clean path) keeps.to_hudi);
        to_iceberg = later_played meaning_of_iceberg iceberg_laws history iceberg (length commits) (length (commits ++ bytes ∷ [])) (fuse_disk new) (omega (arith, grown))
            (same_played meaning_of_iceberg iceberg_laws history iceberg (length commits) (fuse_disk old) (fuse_disk new) (same Iceberg (λ e. cc)) (λ path within was. clean path) keeps.to_iceberg);
        uncontested = λ can. keeps.uncontested (subst FuseCanBeContested is.outside can);
      }

  -- ---- fewer versions

  pub shorten_keeps : (to : ℕ) → Shortens first to old new → to < length commits → Keeps history commits front behind (max first to) hudi iceberg new
  shorten_keeps to is few =
      let same : (kind : Kind) → (Delta ≡ kind → ⊥) → SameIn (folder_of kind) (fuse_disk old).files (fuse_disk new).files = λ kind apart path within.
      shed_elsewhere first to (fuse_disk old) (fuse_disk new) path is.disk (λ own. folders_apart kind Delta apart path within own) in
      record {
        split = keeps.split;
        made = keeps.made;
        log = fewer_commits commits first to (fuse_disk old) (fuse_disk new) is.disk few keeps.log;
        to_hudi = same_played meaning_of_hudi hudi_laws history hudi (length commits) (fuse_disk old) (fuse_disk new) (same Hudi (λ e. cc)) (λ path within was. is.disk.clean path was) keeps.to_hudi;
        to_iceberg = same_played meaning_of_iceberg iceberg_laws history iceberg (length commits) (fuse_disk old) (fuse_disk new) (same Iceberg (λ e. cc)) (λ path within was. is.disk.clean path was) keeps.to_iceberg;
        uncontested = λ can. keeps.uncontested (subst FuseCanBeContested is.outside can);
      }

  -- ---- a crash

  pub crash_keeps : (choices : List ℕ) → Crashes choices old new → Keeps history commits front behind first hudi iceberg new
  crash_keeps choices is =
      let clean : fuse_disk new ≡ after_crash (fuse_disk new).files = is.disk.2 ∙ ap (λ (files : Files). after_crash files) (sym (ap (λ (d : Disk). d.files) is.disk.2)) in
      let log_same : SameIn log_folder (fuse_disk old).files (fuse_disk new).files = λ path within. is.image path (keeps.log.clean path within) in
      record {
        split = keeps.split;
        made = keeps.made;
        log = same_commits commits first (fuse_disk old) (fuse_disk new) log_same (λ path within was. subst (λ (d : Disk). IsClean d path) (sym clean) (set.contains-empty (slice_cmp nat_cmp) path)) keeps.log;
        to_hudi = crash_played meaning_of_hudi hudi_laws history hudi (length commits) (fuse_disk old) (fuse_disk new) is.image clean keeps.to_hudi;
        to_iceberg = crash_played meaning_of_iceberg iceberg_laws history iceberg (length commits) (fuse_disk old) (fuse_disk new) is.image clean keeps.to_iceberg;
        uncontested = λ can. keeps.uncontested (subst FuseCanBeContested is.outside can);
      }

  -- ---- a stop, and what does nothing

  pub nothing_keeps : (call : Option ℕ) → new ≡ with_stop old call → Keeps history commits front behind first hudi iceberg new
  nothing_keeps call is = subst (Keeps history commits front behind first hudi iceberg) (sym is) (record {
    split = keeps.split;
    made = keeps.made;
    log = keeps.log;
    to_hudi = keeps.to_hudi;
    to_iceberg = keeps.to_iceberg;
    uncontested = keeps.uncontested;
  })

  -- ---- a sync

  module _ (few : length commits ≤ 2 ^ 64) (mode : Mode) (now : ℕ) (given : Status) where
    abbrev After : Kind → Type 0
    After kind = Keeps history commits front behind first (floor_behind Hudi kind (length commits) hudi given) (floor_behind Iceberg kind (length commits) iceberg given) new

    hudi_keeps : (target : HudiTarget) → Brings (target_facts to_hudi target) mode now old new given → After Hudi
    hudi_keeps target brings =
        let facts : TargetFacts = target_facts to_hudi target in
        let moved = brought facts mode now old new given brings keeps.uncontested commits first keeps.log front behind keeps.made few hudi
        (subst (λ (h : History). IsPlayed meaning_of_hudi h hudi (length commits) (fuse_disk old)) keeps.split keeps.to_hudi) in
        let log_same = same_beside facts mode now old new given brings keeps.uncontested Delta (λ e. cc) in
        let log_clean = clean_beside facts mode now old new given brings keeps.uncontested Delta (λ e. cc) in
        let other_same = same_beside facts mode now old new given brings keeps.uncontested Iceberg (λ e. cc) in
        let other_clean = clean_beside facts mode now old new given brings keeps.uncontested Iceberg (λ e. cc) in
        record {
          split = keeps.split;
          made = keeps.made;
          log = same_commits commits first (fuse_disk old) (fuse_disk new) log_same log_clean keeps.log;
          to_hudi = subst (λ (h : History). IsPlayed meaning_of_hudi h (floor_behind Hudi Hudi (length commits) hudi given) (length commits) (fuse_disk new)) (sym keeps.split) moved;
          to_iceberg = subst (λ (n : ℕ). IsPlayed meaning_of_iceberg history n (length commits) (fuse_disk new)) (sym (floor_other Iceberg Hudi (length commits) iceberg given refl))
              (same_played meaning_of_iceberg iceberg_laws history iceberg (length commits) (fuse_disk old) (fuse_disk new) other_same other_clean keeps.to_iceberg);
          uncontested = still_uncontested facts mode now old new given brings keeps.uncontested;
        }

    iceberg_keeps : (target : IcebergTarget) → target.id ≡ table_id place → Brings (target_facts to_iceberg target) mode now old new given → After Iceberg
    iceberg_keeps target id brings =
        let facts : TargetFacts = target_facts to_iceberg target in
        let moved = brought facts mode now old new given brings keeps.uncontested commits first keeps.log front behind keeps.made few iceberg
        (subst (λ (h : History). IsPlayed facts.files h iceberg (length commits) (fuse_disk old)) keeps.split (as_id target.id (sym id) keeps.to_iceberg)) in
        let log_same = same_beside facts mode now old new given brings keeps.uncontested Delta (λ e. cc) in
        let log_clean = clean_beside facts mode now old new given brings keeps.uncontested Delta (λ e. cc) in
        let other_same = same_beside facts mode now old new given brings keeps.uncontested Hudi (λ e. cc) in
        let other_clean = clean_beside facts mode now old new given brings keeps.uncontested Hudi (λ e. cc) in
        record {
          split = keeps.split;
          made = keeps.made;
          log = same_commits commits first (fuse_disk old) (fuse_disk new) log_same log_clean keeps.log;
          to_hudi = subst (λ (n : ℕ). IsPlayed meaning_of_hudi history n (length commits) (fuse_disk new)) (sym (floor_other Hudi Iceberg (length commits) hudi given refl))
              (same_played meaning_of_hudi hudi_laws history hudi (length commits) (fuse_disk old) (fuse_disk new) other_same other_clean keeps.to_hudi);
          to_iceberg = subst (λ (new_id : List ℕ). IsPlayed (iceberg_meaning new_id) history (floor_behind Iceberg Iceberg (length commits) iceberg given) (length commits) (fuse_disk new)) id
              (subst (λ (h : History). IsPlayed facts.files h (floor_behind Iceberg Iceberg (length commits) iceberg given) (length commits) (fuse_disk new)) (sym keeps.split) moved);
          uncontested = still_uncontested facts mode now old new given brings keeps.uncontested;
        }
      where
        as_id : (id : List ℕ) → table_id place ≡ id → IsPlayed meaning_of_iceberg history iceberg (length commits) (fuse_disk old) → IsPlayed (iceberg_meaning id) history iceberg (length commits) (fuse_disk old)
        as_id id same h = subst (λ (i : List ℕ). IsPlayed (iceberg_meaning i) history iceberg (length commits) (fuse_disk old)) same h

    -- what does nothing isn't done
    gave_up : (kind : Kind) (why : Status) → is_done why ≡ false → given ≡ why → new ≡ old → After kind
    gave_up kind why not told same =
        let still : (target : Kind) (floor : ℕ) → floor_behind target kind (length commits) floor given ≡ floor = λ target floor. floor_stays target kind (length commits) floor given (λ done. false≢true (sym not ∙ sym (ap is_done told) ∙ done)) in
        subst (Keeps history commits front behind first (floor_behind Hudi kind (length commits) hudi given) (floor_behind Iceberg kind (length commits) iceberg given)) (sym same)
        (subst (λ (n : ℕ). Keeps history commits front behind first n (floor_behind Iceberg kind (length commits) iceberg given) old) (sym (still Hudi hudi))
        (subst (λ (n : ℕ). Keeps history commits front behind first hudi n old) (sym (still Iceberg iceberg)) keeps))

    pub sync_keeps : (kind : Kind) → IsSynced kind mode now old new given → After kind
    sync_keeps Delta is = gave_up Delta status.Usage refl is.0 is.1
    sync_keeps Hudi (inl is) = gave_up Hudi status.Memory refl is.0 is.1
    sync_keeps Hudi (inr is) = hudi_keeps is.0 is.2
    sync_keeps Iceberg (inl is) = gave_up Iceberg status.Memory refl is.0 is.1
    sync_keeps Iceberg (inr is) = iceberg_keeps is.0 is.1 is.3

-- ---- events one after another

-- These were the other answers, the log holds what the events leave of it, and each target stands at one of so many tables, not before its floor.
pub record Ends (history : History) (events : List Event) (before after : Progress) (commits : List (List ℕ)) (total hudi iceberg : ℕ) (new : FuseStore) : Type 0 where
  pub answers : List Status
  pub told : after.answers ≡ before.answers ++ answers
  pub log : HoldsCommits (commits ++ extensions events) (first_from before.first events) (fuse_disk new)
  pub to_hudi : IsPlayed meaning_of_hudi history (floor_from Hudi (length commits) hudi events answers) total (fuse_disk new)
  pub to_iceberg : IsPlayed meaning_of_iceberg history (floor_from Iceberg (length commits) iceberg events answers) total (fuse_disk new)

module _ (history : History) (total now : ℕ) (few : total ≤ 2 ^ 64) where
  plays_on : (events : List Event) (commits : List (List ℕ)) (front behind : History) (hudi iceberg : ℕ) (before : Progress) (old : FuseStore) (after : Progress) (new : FuseStore)
      → Keeps history commits front behind before.first hudi iceberg old → before.next ≡ length commits → total ≡ length commits + length (extensions events)
      → PlaysAll now events before old after new → AreInOrder (length commits) events → IsHistoryFrom (length commits) (last_table None front) (extensions events) behind
      → Ends history events before after commits total hudi iceberg new
  plays_on [] commits front behind hudi iceberg before old after new keeps next all plays order made =
      let here : length commits ≡ total = omega (arith, all) in
      record {
        answers = [];
        told = sym (ap (λ (p : Progress). p.answers) plays.0) ∙ sym (append-nil before.answers);
        log = subst (λ (l : List (List ℕ)). HoldsCommits l before.first (fuse_disk new)) (sym (append-nil commits)) (subst (λ (s : FuseStore). HoldsCommits commits before.first (fuse_disk s)) plays.1 keeps.log);
        to_hudi = subst (λ (n : ℕ). IsPlayed meaning_of_hudi history hudi n (fuse_disk new)) here (subst (λ (s : FuseStore). IsPlayed meaning_of_hudi history hudi (length commits) (fuse_disk s)) plays.1 keeps.to_hudi);
        to_iceberg = subst (λ (n : ℕ). IsPlayed meaning_of_iceberg history iceberg n (fuse_disk new)) here (subst (λ (s : FuseStore). IsPlayed meaning_of_iceberg history iceberg (length commits) (fuse_disk s)) plays.1 keeps.to_iceberg);
      }
  plays_on (event.Extend bytes ∷ events) commits front [] hudi iceberg before old after new keeps next all plays order made = absurd made
  plays_on (event.Extend bytes ∷ events) commits front (entry ∷ more) hudi iceberg before old after new keeps next all plays order made =
      let between = plays.1 in
      let mid : Progress = record before { next = before.next + 1 } in
      let grown : length (commits ++ bytes ∷ []) ≡ length commits + 1 = length-append commits (bytes ∷ []) in
      let is : Extends (length commits) bytes old between = subst (λ (n : ℕ). Extends n bytes old between) next plays.2.0 in
      let rest : PlaysAll now events mid between after new = subst (λ (m : Progress). PlaysAll now events m between after new) plays.2.1 plays.3 in
      let kept = extend_keeps history commits front (entry ∷ more) before.first hudi iceberg old between keeps bytes entry more is refl made.1 made.0 in
      let ends = plays_on events (commits ++ bytes ∷ []) (front ++ entry ∷ []) more hudi iceberg mid between after new kept (omega (arith, next, grown)) (omega (arith, all, grown)) rest
      (subst (λ (n : ℕ). AreInOrder n events) (sym grown) order)
      (subst (λ (o : Option Table). IsHistoryFrom (length (commits ++ bytes ∷ [])) o (extensions events) more) (sym (last_more None front entry))
      (subst (λ (n : ℕ). IsHistoryFrom n (Some entry.1) (extensions events) more) (sym grown) made.2)) in
      record {
        answers = ends.answers;
        told = ends.told;
        log = subst (λ (l : List (List ℕ)). HoldsCommits l (first_from before.first events) (fuse_disk new)) (append_assoc commits (bytes ∷ []) (extensions events)) ends.log;
        to_hudi = subst (λ (n : ℕ). IsPlayed meaning_of_hudi history (floor_from Hudi n hudi events ends.answers) total (fuse_disk new)) grown ends.to_hudi;
        to_iceberg = subst (λ (n : ℕ). IsPlayed meaning_of_iceberg history (floor_from Iceberg n iceberg events ends.answers) total (fuse_disk new)) grown ends.to_iceberg;
      }
  plays_on (event.Shorten below ∷ events) commits front behind hudi iceberg before old after new keeps next all plays order made =
      let between = plays.1 in
      let low = order.0 in
      let to : min below before.next ≡ below = omega (arith, low, next) in
      let mid : Progress = record before { first = max before.first (min below before.next) } in
      let rest : PlaysAll now events mid between after new = subst (λ (m : Progress). PlaysAll now events m between after new) plays.2.1 plays.3 in
      let kept = shorten_keeps history commits front behind before.first hudi iceberg old between keeps (min below before.next) plays.2.0 (omega (arith, to, low)) in
      let ends = plays_on events commits front behind hudi iceberg mid between after new kept next all rest order.1 made in
      record {
        answers = ends.answers;
        told = ends.told;
        log = subst (λ (n : ℕ). HoldsCommits (commits ++ extensions events) (first_from (max before.first n) events) (fuse_disk new)) to ends.log;
        to_hudi = ends.to_hudi;
        to_iceberg = ends.to_iceberg;
      }
  plays_on (event.Sync target ∷ events) commits front behind hudi iceberg before old after new keeps next all plays order made =
      let between = plays.1 in
      let given = plays.2.0 in
      let rest : PlaysAll now events (with_answer before given) between after new = subst (λ (m : Progress). PlaysAll now events m between after new) plays.2.2 plays.3 in
      let kept = sync_keeps history commits front behind before.first hudi iceberg old between keeps (omega (arith, all, few)) modes.Sync now given target plays.2.1 in
      let ends = plays_on events commits front behind (floor_behind Hudi target (length commits) hudi given) (floor_behind Iceberg target (length commits) iceberg given) (with_answer before given) between after new kept next all rest order.1 made in
      record { answers = given ∷ ends.answers; told = ends.told ∙ append_assoc before.answers (given ∷ []) ends.answers; log = ends.log; to_hudi = ends.to_hudi; to_iceberg = ends.to_iceberg }
  plays_on (event.Full target ∷ events) commits front behind hudi iceberg before old after new keeps next all plays order made =
      let between = plays.1 in
      let given = plays.2.0 in
      let rest : PlaysAll now events (with_answer before given) between after new = subst (λ (m : Progress). PlaysAll now events m between after new) plays.2.2 plays.3 in
      let kept = sync_keeps history commits front behind before.first hudi iceberg old between keeps (omega (arith, all, few)) modes.Full now given target plays.2.1 in
      let ends = plays_on events commits front behind (floor_behind Hudi target (length commits) hudi given) (floor_behind Iceberg target (length commits) iceberg given) (with_answer before given) between after new kept next all rest order.1 made in
      record { answers = given ∷ ends.answers; told = ends.told ∙ append_assoc before.answers (given ∷ []) ends.answers; log = ends.log; to_hudi = ends.to_hudi; to_iceberg = ends.to_iceberg }
  plays_on (event.Stop call ∷ events) commits front behind hudi iceberg before old after new keeps next all plays order made =
      let between = plays.1 in
      let rest : PlaysAll now events before between after new = subst (λ (m : Progress). PlaysAll now events m between after new) plays.2.1 plays.3 in
      let kept = nothing_keeps history commits front behind before.first hudi iceberg old between keeps (Some call) plays.2.0 in
      let ends = plays_on events commits front behind hudi iceberg before between after new kept next all rest order made in
      record { answers = ends.answers; told = ends.told; log = ends.log; to_hudi = ends.to_hudi; to_iceberg = ends.to_iceberg }
  plays_on (event.Crash choices ∷ events) commits front behind hudi iceberg before old after new keeps next all plays order made =
      let between = plays.1 in
      let rest : PlaysAll now events before between after new = subst (λ (m : Progress). PlaysAll now events m between after new) plays.2.1 plays.3 in
      let kept = crash_keeps history commits front behind before.first hudi iceberg old between keeps choices plays.2.0 in
      let ends = plays_on events commits front behind hudi iceberg before between after new kept next all rest order made in
      record { answers = ends.answers; told = ends.told; log = ends.log; to_hudi = ends.to_hudi; to_iceberg = ends.to_iceberg }

pub begins : (history : History) (store : FuseStore) → IsFresh store → Keeps history [] [] history 0 0 0 store
begins history store fresh = record {
  split = refl;
  made = tt;
  log = subst (HoldsCommits [] 0) (sym fresh.disk) no_commits;
  to_hudi = subst (IsPlayed meaning_of_hudi history 0 0) (sym fresh.disk) (at_nothing meaning_of_hudi hudi_laws history);
  to_iceberg = subst (IsPlayed meaning_of_iceberg history 0 0) (sym fresh.disk) (at_nothing meaning_of_iceberg iceberg_laws history);
  uncontested = λ can. can fresh.contested;
}

pub stand_after : (now : ℕ) (events : List Event) (old : FuseStore) (after : Progress) (new : FuseStore) → length (extensions events) ≤ 2 ^ 64 → PlaysAll now events nothing_played old after new → AreInOrder 0 events → IsFresh old
    → (history : History) → IsHistoryOf events history → BothStand events after.answers history (fuse_disk new)
stand_after now events old after new few plays order fresh history is image may =
    let ends = plays_on history (length (extensions events)) now few events [] [] history 0 0 nothing_played old after new (begins history old fresh) refl (omega arith) plays order is in (
      subst (λ (answers : List Status). Stands meaning_of_hudi events answers history image) (sym ends.told) (left_standing meaning_of_hudi hudi_laws history (floor_of Hudi events ends.answers) (length (extensions events)) (fuse_disk new) image may ends.to_hudi),
      subst (λ (answers : List Status). Stands meaning_of_iceberg events answers history image) (sym ends.told) (left_standing meaning_of_iceberg iceberg_laws history (floor_of Iceberg events ends.answers) (length (extensions events)) (fuse_disk new) image may ends.to_iceberg),
    )

pub log_after : (now : ℕ) (events : List Event) (old : FuseStore) (after : Progress) (new : FuseStore) → length (extensions events) ≤ 2 ^ 64 → PlaysAll now events nothing_played old after new → AreInOrder 0 events → IsFresh old
    → (history : History) → IsHistoryOf events history → LogHolds events (fuse_disk new)
log_after now events old after new few plays order fresh history is image may =
    let ends = plays_on history (length (extensions events)) now few events [] [] history 0 0 nothing_played old after new (begins history old fresh) refl (omega arith) plays order is in
    left_commits (extensions events) (first_from 0 events) (fuse_disk new) image may ends.log

-- ---- how many answers there are, and how many commits

pub counts : (now : ℕ) (events : List Event) (before : Progress) (old : FuseStore) (after : Progress) (new : FuseStore) → PlaysAll now events before old after new → length after.answers ≡ length before.answers + answer_count events
counts now [] before old after new plays = let same : length before.answers ≡ length after.answers = ap (λ (p : Progress). length p.answers) plays.0 in omega (arith, same)
counts now (event.Extend bytes ∷ events) before old after new plays = let same : length plays.0.answers ≡ length before.answers = ap (λ (p : Progress). length p.answers) plays.2.1 in let rest = counts now events plays.0 plays.1 after new plays.3 in omega (arith, same, rest)
counts now (event.Shorten below ∷ events) before old after new plays = let same : length plays.0.answers ≡ length before.answers = ap (λ (p : Progress). length p.answers) plays.2.1 in let rest = counts now events plays.0 plays.1 after new plays.3 in omega (arith, same, rest)
counts now (event.Sync target ∷ events) before old after new plays =
    let more : length plays.0.answers ≡ length before.answers + 1 = ap (λ (p : Progress). length p.answers) plays.2.2 ∙ length-append before.answers (plays.2.0 ∷ []) in let rest = counts now events plays.0 plays.1 after new plays.3 in omega (arith, more, rest)
counts now (event.Full target ∷ events) before old after new plays =
    let more : length plays.0.answers ≡ length before.answers + 1 = ap (λ (p : Progress). length p.answers) plays.2.2 ∙ length-append before.answers (plays.2.0 ∷ []) in let rest = counts now events plays.0 plays.1 after new plays.3 in omega (arith, more, rest)
counts now (event.Stop call ∷ events) before old after new plays = let same : length plays.0.answers ≡ length before.answers = ap (λ (p : Progress). length p.answers) plays.2.1 in let rest = counts now events plays.0 plays.1 after new plays.3 in omega (arith, same, rest)
counts now (event.Crash choices ∷ events) before old after new plays = let same : length plays.0.answers ≡ length before.answers = ap (λ (p : Progress). length p.answers) plays.2.1 in let rest = counts now events plays.0 plays.1 after new plays.3 in omega (arith, same, rest)

pub few_commits : (events : List Event) → length (extensions events) ≤ length events
few_commits [] = omega arith
few_commits (event.Extend bytes ∷ events) = let rest = few_commits events in omega (arith, rest)
few_commits (event.Shorten below ∷ events) = let rest = few_commits events in omega (arith, rest)
few_commits (event.Sync target ∷ events) = let rest = few_commits events in omega (arith, rest)
few_commits (event.Full target ∷ events) = let rest = few_commits events in omega (arith, rest)
few_commits (event.Stop call ∷ events) = let rest = few_commits events in omega (arith, rest)
few_commits (event.Crash choices ∷ events) = let rest = few_commits events in omega (arith, rest)

-- ---- an event more

pub one_more : (now : ℕ) (e : Event) (before : Progress) (old : FuseStore) (after : Progress) (new : FuseStore) → Plays now e before old after new → after.next ≤ before.next + 1
one_more now (event.Extend bytes) before old after new plays = let is : after.next ≡ before.next + 1 = ap (λ (p : Progress). p.next) plays.1 in omega (arith, is)
one_more now (event.Shorten below) before old after new plays = let is : after.next ≡ before.next = ap (λ (p : Progress). p.next) plays.1 in omega (arith, is)
one_more now (event.Sync target) before old after new plays = let is : after.next ≡ before.next = ap (λ (p : Progress). p.next) plays.2 in omega (arith, is)
one_more now (event.Full target) before old after new plays = let is : after.next ≡ before.next = ap (λ (p : Progress). p.next) plays.2 in omega (arith, is)
one_more now (event.Stop call) before old after new plays = let is : after.next ≡ before.next = ap (λ (p : Progress). p.next) plays.1 in omega (arith, is)
one_more now (event.Crash choices) before old after new plays = let is : after.next ≡ before.next = ap (λ (p : Progress). p.next) plays.1 in omega (arith, is)

-- ---- what is left of a list

pub drop_here : {X : Type 0} (xs : List X) (i : ℕ) (x : X) → slice_get xs i ≡ Some x → drop i xs ≡ x ∷ drop (i + 1) xs
drop_here [] i x is = cc
drop_here (y ∷ xs) zero x is = let same : y ≡ x = same_Some y x is in ap (λ z. z ∷ xs) same
drop_here (y ∷ xs) (suc i) x is =
    let one : suc (i + 1) ≡ suc i + 1 = omega arith in
    drop_here xs i x is ∙ ap (λ (n : ℕ). x ∷ drop n (y ∷ xs)) one
