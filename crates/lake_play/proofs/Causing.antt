-- The causes of all answers of a list of events.
use Rattle.std.proofs.Common.{◌≡◌, inl, inr, ℕ, ◌+◌, ◌^◌, ◌≤◌, ◌<◌, max, min, true, List, [], ◌∷◌, ◌++◌, length, Option, Some, None, Result, Err, refl, sym, ap, subst, ◌∙◌, arith}
use Rattle.std.proofs.lemmas.List.{length-append}
use Rattle.lake_store.specs.Cause.{Rose}
use Rattle.lake_store.specs.Fuse.{faults_of, fuse_disk}
use Rattle.lake_store.specs.declared.fuse.FuseStore.{FuseStore}
use Rattle.lake_store.specs.declared.fuse.Script.{Script}
use Rattle.conformance.specs.Histories.{AreInOrder, IsHistoryFrom, IsHistoryOf, extensions}
use Rattle.conformance.specs.declared.event.Event.{Event}
use Rattle.conformance.specs.declared.event.Event.TheVariants as event
use Rattle.conformance.proofs.Legal.{last_more, last_table}
use Rattle.table_history.specs.History.{History}
use Rattle.table_history.specs.declared.kind.Kind.{Kind}
use Rattle.table_history.specs.declared.kind.Kind.TheVariants.{Delta, Hudi, Iceberg}
use Rattle.table_history.specs.declared.table.Table.{Table}
use Rattle.target_hudi.specs.TableName.{IsTableName}
use Rattle.target_hudi.specs.declared.target.HudiTarget.{HudiTarget}
use Rattle.target_iceberg.specs.IcebergMeaning.{iceberg_meaning}
use Rattle.target_iceberg.specs.declared.target.IcebergTarget.{IcebergTarget}
use Rattle.target_iceberg.specs.TableId.{table_id}
use Rattle.target_sync.specs.Targets.{TargetFacts, target_facts}
use Rattle.target_sync.specs.declared.apply.Report.{Report}
use Rattle.target_sync.specs.declared.plan.Mode.{Mode}
use Rattle.target_sync.specs.declared.plan.Mode.TheVariants as modes
use Rattle.target_sync.specs.declared.status.Status.{Status}
use Rattle.target_sync.specs.declared.status.Status.TheVariants as status
use Rattle.lake_play.specs.Causes.{AreCaused, Before, IsCause, IsCauseAt, IsFaulty, behind, nothing_before}
use Rattle.lake_play.specs.Formats.{place, to_hudi, to_iceberg}
use Rattle.lake_play.specs.Playing.{Brings, Extends, IsSynced, PlaysAll, Shortens, nothing_played}
use Rattle.lake_play.specs.Standing.{IsFresh, floor_behind}
use Rattle.lake_play.specs.declared.playing.Progress.{Progress}
use Rattle.lake_play.proofs.Causes.{MayFail, answer_caused, brings_may, crash_may, hudi_views, iceberg_views, may_fail_first, same_may, stop_may}
use Rattle.lake_play.proofs.Plays.{Keeps, begins, crash_keeps, extend_keeps, nothing_keeps, shorten_keeps, sync_keeps}
use Rattle.lake_play.proofs.Targets.{IsPlayed}

-- ---- one sync

-- What was played before it, the versions that were removed, and that a call may fail only for a cause.
pub record Knows (script : Script) (commits : List (List ℕ)) (first : ℕ) (before : Before) (store : FuseStore) : Type 0 where
  pub commits_are : before.commits ≡ commits
  pub shortened : 0 < first → before.shortened ≡ true
  pub may : MayFail script before.stopped store

module _ (history : History) (commits : List (List ℕ)) (front rest : History) (first hudi iceberg : ℕ) (old new : FuseStore) (keeps : Keeps history commits front rest first hudi iceberg old) (few : length commits ≤ 2 ^ 64)
    (script : Script) (before : Before) (knows : Knows script commits first before old) (from to : ℕ) (early : from ≤ faults_of old) (mode : Mode) (now : ℕ) (given : Status) where
  -- It has its cause, where the fuse counts no less at the end; the fuse counts no less after it, and may fail for no other cause.
  pub record Shows (kind : Kind) : Type 0 where
    pub later : faults_of old ≤ faults_of new
    pub may : MayFail script before.stopped new
    pub cause : faults_of new ≤ to → IsCause kind mode now history before (fuse_disk old).files (IsFaulty script from to before) given

  gave_up : (kind : Kind) → new ≡ old → IsCause kind mode now history before (fuse_disk old).files (IsFaulty script from to before) given → Shows kind
  gave_up kind same cause = record {
    later = let e : faults_of new ≡ faults_of old = ap faults_of same in omega (arith, e);
    may = subst (MayFail script before.stopped) (sym same) knows.may;
    cause = λ end. cause;
  }

  module _ (target : TargetFacts) (brings : Brings target mode now old new given) where
    faulty : faults_of new ≤ to → brings.answer ≡ Err status.StoreFault → IsFaulty script from to before
    faulty end is =
        let why : Some brings.answer ≡ Some (Err status.StoreFault) = ap (λ (a : Result Report Status). Some a) is in
        let rose : Rose (faults_of old) (faults_of new) = brings.sync.sync.fault.rose why in
        (omega (arith, rose, early, end), knows.may.can (brings.sync.sync.fault.allowed why))

    later : faults_of old ≤ faults_of new
    later = brings.sync.sync.fault.later

    may : MayFail script before.stopped new
    may = brings_may script before.stopped old new knows.may target mode now given brings keeps.uncontested

  hudi_shows : (target : HudiTarget) → IsTableName place target.name → Brings (target_facts to_hudi target) mode now old new given → Shows Hudi
  hudi_shows target name brings =
      let facts : TargetFacts = target_facts to_hudi target in
      record {
        later = later facts brings;
        may = may facts brings;
        cause = λ end. inr (
          target,
          name,
          subst (λ (h : History). IsCauseAt facts mode now h before (fuse_disk old).files (IsFaulty script from to before) given) (sym keeps.split)
              (answer_caused facts (hudi_views target) mode now old new given brings keeps.uncontested commits first keeps.log front rest keeps.made few hudi
              (subst (λ (h : History). IsPlayed facts.files h hudi (length commits) (fuse_disk old)) keeps.split keeps.to_hudi) before knows.commits_are knows.shortened (IsFaulty script from to before) (faulty facts brings end)),
        );
      }

  iceberg_shows : (target : IcebergTarget) → target.id ≡ table_id place → Brings (target_facts to_iceberg target) mode now old new given → Shows Iceberg
  iceberg_shows target id brings =
      let facts : TargetFacts = target_facts to_iceberg target in
      record {
        later = later facts brings;
        may = may facts brings;
        cause = λ end. inr (
          target,
          id,
          subst (λ (h : History). IsCauseAt facts mode now h before (fuse_disk old).files (IsFaulty script from to before) given) (sym keeps.split)
              (answer_caused facts (iceberg_views target) mode now old new given brings keeps.uncontested commits first keeps.log front rest keeps.made few iceberg
              (subst (λ (h : History). IsPlayed facts.files h iceberg (length commits) (fuse_disk old)) keeps.split
              (subst (λ (i : List ℕ). IsPlayed (iceberg_meaning i) history iceberg (length commits) (fuse_disk old)) (sym id) keeps.to_iceberg)) before knows.commits_are knows.shortened (IsFaulty script from to before) (faulty facts brings end)),
        );
      }

  pub shows : (kind : Kind) → IsSynced kind mode now old new given → Shows kind
  shows Delta is = gave_up Delta is.1 is.0
  shows Hudi (inl is) = gave_up Hudi is.1 (inl is.0)
  shows Hudi (inr is) = hudi_shows is.0 is.1 is.2
  shows Iceberg (inl is) = gave_up Iceberg is.1 (inl is.0)
  shows Iceberg (inr is) = iceberg_shows is.0 is.1 is.3

-- ---- events one after another

-- Each answer of the run has its cause, and the fuse counts no less after it.
pub record Caused (script : Script) (from to now : ℕ) (history : History) (before : Before) (events : List Event) (so_far : Progress) (old : FuseStore) (after : Progress) (new : FuseStore) (plays : PlaysAll now events so_far old after new) : Type 0 where
  pub later : faults_of old ≤ faults_of new
  pub caused : AreCaused (IsFaulty script from to) now history before events so_far old after new plays

module _ (history : History) (total now : ℕ) (few : total ≤ 2 ^ 64) (script : Script) (from : ℕ) where
  causes_on : (events : List Event) (commits : List (List ℕ)) (front rest : History) (first hudi iceberg : ℕ) (before : Before) (so_far : Progress) (old : FuseStore) (after : Progress) (new : FuseStore)
      → Keeps history commits front rest first hudi iceberg old → so_far.first ≡ first → so_far.next ≡ length commits → total ≡ length commits + length (extensions events)
      → (plays : PlaysAll now events so_far old after new) → AreInOrder (length commits) events → IsHistoryFrom (length commits) (last_table None front) (extensions events) rest
      → Knows script commits first before old → from ≤ faults_of old → Caused script from (faults_of new) now history before events so_far old after new plays
  causes_on [] commits front rest first hudi iceberg before so_far old after new keeps low next all plays order made knows early =
      record { later = let e : faults_of old ≡ faults_of new = ap faults_of plays.1 in omega (arith, e); caused = tt }
  causes_on (event.Extend bytes ∷ events) commits front [] first hudi iceberg before so_far old after new keeps low next all plays order made knows early = absurd made
  causes_on (event.Extend bytes ∷ events) commits front (entry ∷ more) first hudi iceberg before so_far old after new keeps low next all plays order made knows early =
      let between = plays.1 in
      let now_next : plays.0.next ≡ so_far.next + 1 = ap (λ (p : Progress). p.next) plays.2.1 in
      let grown : length (commits ++ bytes ∷ []) ≡ length commits + 1 = length-append commits (bytes ∷ []) in
      let is : Extends (length commits) bytes old between = subst (λ (n : ℕ). Extends n bytes old between) next plays.2.0 in
      let same : faults_of between ≡ faults_of old = ap faults_of is.outside in
      let kept = extend_keeps history commits front (entry ∷ more) first hudi iceberg old between keeps bytes entry more is refl made.1 made.0 in
      let ends = causes_on events (commits ++ bytes ∷ []) (front ++ entry ∷ []) more first hudi iceberg (behind (event.Extend bytes) before) plays.0 between after new kept (ap (λ (p : Progress). p.first) plays.2.1 ∙ low) (omega (arith, next, now_next, grown)) (omega (arith, all, grown))
      plays.3
      (subst (λ (n : ℕ). AreInOrder n events) (sym grown) order)
      (subst (λ (o : Option Table). IsHistoryFrom (length (commits ++ bytes ∷ [])) o (extensions events) more) (sym (last_more None front entry))
      (subst (λ (n : ℕ). IsHistoryFrom n (Some entry.1) (extensions events) more) (sym grown) made.2))
      (record { commits_are = ap (λ (cs : List (List ℕ)). cs ++ bytes ∷ []) knows.commits_are; shortened = knows.shortened; may = same_may script before.stopped old between knows.may is.outside }) (omega (arith, early, same)) in
      let on = ends.later in
      record { later = omega (arith, on, same); caused = ends.caused }
  causes_on (event.Shorten below ∷ events) commits front rest first hudi iceberg before so_far old after new keeps low next all plays order made knows early =
      let between = plays.1 in
      let under = order.0 in
      let to : min below so_far.next ≡ below = omega (arith, under, next) in
      let gone : Shortens first (min below so_far.next) old between = subst (λ (n : ℕ). Shortens n (min below so_far.next) old between) low plays.2.0 in
      let same : faults_of between ≡ faults_of old = ap faults_of gone.outside in
      let kept = shorten_keeps history commits front rest first hudi iceberg old between keeps (min below so_far.next) gone (omega (arith, to, under)) in
      let ends = causes_on events commits front rest (max first (min below so_far.next)) hudi iceberg (behind (event.Shorten below) before) plays.0 between after new kept
      (ap (λ (p : Progress). p.first) plays.2.1 ∙ ap (λ (n : ℕ). max n (min below so_far.next)) low) (ap (λ (p : Progress). p.next) plays.2.1 ∙ next) all
      plays.3 order.1 made
      (record { commits_are = knows.commits_are; shortened = λ some. refl; may = same_may script before.stopped old between knows.may gone.outside }) (omega (arith, early, same)) in
      let on = ends.later in
      record { later = omega (arith, on, same); caused = ends.caused }
  causes_on (event.Sync target ∷ events) commits front rest first hudi iceberg before so_far old after new keeps low next all plays order made knows early =
      let between = plays.1 in
      let given = plays.2.0 in
      let fit : length commits ≤ 2 ^ 64 = omega (arith, all, few) in
      let kept = sync_keeps history commits front rest first hudi iceberg old between keeps fit modes.Sync now given target plays.2.1 in
      let here = shows history commits front rest first hudi iceberg old between keeps fit script before knows from (faults_of new) early modes.Sync now given target plays.2.1 in
      let step = here.later in
      let ends = causes_on events commits front rest first (floor_behind Hudi target (length commits) hudi given) (floor_behind Iceberg target (length commits) iceberg given) before plays.0 between after new kept
      (ap (λ (p : Progress). p.first) plays.2.2 ∙ low) (ap (λ (p : Progress). p.next) plays.2.2 ∙ next) all plays.3 order.1 made
      (record { commits_are = knows.commits_are; shortened = knows.shortened; may = here.may }) (omega (arith, early, step)) in
      let on = ends.later in
      record { later = omega (arith, on, step); caused = (here.cause on, ends.caused) }
  causes_on (event.Full target ∷ events) commits front rest first hudi iceberg before so_far old after new keeps low next all plays order made knows early =
      let between = plays.1 in
      let given = plays.2.0 in
      let fit : length commits ≤ 2 ^ 64 = omega (arith, all, few) in
      let kept = sync_keeps history commits front rest first hudi iceberg old between keeps fit modes.Full now given target plays.2.1 in
      let here = shows history commits front rest first hudi iceberg old between keeps fit script before knows from (faults_of new) early modes.Full now given target plays.2.1 in
      let step = here.later in
      let ends = causes_on events commits front rest first (floor_behind Hudi target (length commits) hudi given) (floor_behind Iceberg target (length commits) iceberg given) before plays.0 between after new kept
      (ap (λ (p : Progress). p.first) plays.2.2 ∙ low) (ap (λ (p : Progress). p.next) plays.2.2 ∙ next) all plays.3 order.1 made
      (record { commits_are = knows.commits_are; shortened = knows.shortened; may = here.may }) (omega (arith, early, step)) in
      let on = ends.later in
      record { later = omega (arith, on, step); caused = (here.cause on, ends.caused) }
  causes_on (event.Stop call ∷ events) commits front rest first hudi iceberg before so_far old after new keeps low next all plays order made knows early =
      let between = plays.1 in
      let same : faults_of between ≡ faults_of old = ap faults_of plays.2.0 in
      let kept = nothing_keeps history commits front rest first hudi iceberg old between keeps (Some call) plays.2.0 in
      let ends = causes_on events commits front rest first hudi iceberg (behind (event.Stop call) before) plays.0 between after new kept
      (ap (λ (p : Progress). p.first) plays.2.1 ∙ low) (ap (λ (p : Progress). p.next) plays.2.1 ∙ next) all plays.3 order made
      (record { commits_are = knows.commits_are; shortened = knows.shortened; may = stop_may script before.stopped old between knows.may call plays.2.0 }) (omega (arith, early, same)) in
      let on = ends.later in
      record { later = omega (arith, on, same); caused = ends.caused }
  causes_on (event.Crash choices ∷ events) commits front rest first hudi iceberg before so_far old after new keeps low next all plays order made knows early =
      let between = plays.1 in
      let same : faults_of between ≡ faults_of old = ap faults_of plays.2.0.outside in
      let kept = crash_keeps history commits front rest first hudi iceberg old between keeps choices plays.2.0 in
      let ends = causes_on events commits front rest first hudi iceberg (behind (event.Crash choices) before) plays.0 between after new kept
      (ap (λ (p : Progress). p.first) plays.2.1 ∙ low) (ap (λ (p : Progress). p.next) plays.2.1 ∙ next) all plays.3 order made
      (record { commits_are = knows.commits_are; shortened = knows.shortened; may = crash_may script before.stopped old between knows.may plays.2.0.outside }) (omega (arith, early, same)) in
      let on = ends.later in
      record { later = omega (arith, on, same); caused = ends.caused }

pub caused_after : (now : ℕ) (events : List Event) (old : FuseStore) (after : Progress) (new : FuseStore) → length (extensions events) ≤ 2 ^ 64 → (plays : PlaysAll now events nothing_played old after new) → AreInOrder 0 events → IsFresh old
    → (history : History) → IsHistoryOf events history → AreCaused (IsFaulty old.script (faults_of old) (faults_of new)) now history nothing_before events nothing_played old after new plays
caused_after now events old after new few plays order fresh history is =
    (causes_on history (length (extensions events)) now few old.script (faults_of old) events [] [] history 0 0 0 nothing_before nothing_played old after new (begins history old fresh) refl refl (omega arith) plays order is
    (record { commits_are = refl; shortened = λ some. absurd (omega (arith, some)); may = may_fail_first old fresh.contests }) (omega arith)).caused
