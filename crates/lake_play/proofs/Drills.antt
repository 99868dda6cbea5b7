-- What the clauses of `play` say of the events of a drill.
use Rattle.std.proofs.Common.{◌≡◌, ◌≢◌, inl, inr, ⊎_elim, ℕ, zero, suc, ◌+◌, ◌^◌, ◌≤◌, Bool, true, false, List, [], ◌∷◌, ◌++◌, length, map, Contains, Some, None, refl, sym, ap, subst, ◌∙◌, append_assoc, arith}
use Rattle.std.proofs.lemmas.List.{append-nil}
use Rattle.std.specs.List.{AllByRecursion}
use Rattle.std.specs.Prelude.{slice_get}
use Rattle.std.proofs.lemmas.Option.{none-some, same_Some}
use Rattle.conformance.specs.Drill.{AreSaid, drill_bytes, drill_schema, drill_time, numbers_under}
use Rattle.conformance.specs.Events.{drill_events}
use Rattle.conformance.specs.Histories.{AreInOrder, AreLegal, IsHistoryFrom, IsHistoryOf, extensions}
use Rattle.conformance.specs.declared.event.Event.{Event}
use Rattle.conformance.specs.declared.event.Event.TheVariants as event
use Rattle.conformance.proofs.Bounds.{are_history, drill_history}
use Rattle.conformance.proofs.Legal.{commits_are}
use Rattle.conformance.proofs.Numbers.{length_map}
use Rattle.lake_store.specs.Disk.{Files, MayLeave}
use Rattle.lake_store.specs.Fuse.{CanFail, faults_of, fuse_disk, script_of}
use Rattle.lake_store.specs.declared.fuse.FuseStore.{FuseStore}
use Rattle.lake_store.specs.declared.fuse.Script.{Script}
use Rattle.source_core.specs.Histories.{IsAt}
use Rattle.table_history.specs.History.{History}
use Rattle.table_history.specs.declared.feature.Feature.{Feature}
use Rattle.table_history.specs.declared.feature.Feature.TheVariants.{TypeChange}
use Rattle.table_history.specs.declared.kind.Kind.{Kind}
use Rattle.table_history.specs.declared.kind.Kind.TheVariants.{Delta, Hudi, Iceberg}
use Rattle.table_history.specs.declared.table.Table.{Table}
use Rattle.target_core.specs.Meaning.{Meaning}
use Rattle.target_hudi.specs.declared.target.HudiTarget.{HudiTarget}
use Rattle.target_iceberg.specs.declared.target.IcebergTarget.{IcebergTarget}
use Rattle.target_sync.specs.Targets.{TargetFacts, target_facts}
use Rattle.target_sync.specs.declared.plan.Mode.{Mode}
use Rattle.target_sync.specs.declared.plan.Mode.TheVariants as modes
use Rattle.target_sync.specs.declared.status.Side.TheVariants as side
use Rattle.target_sync.specs.declared.status.Status.{Status}
use Rattle.target_sync.specs.declared.status.Status.TheVariants as status
use Rattle.lake_play.specs.Causes.{AreCaused, Before, IsCause, IsCauseAt, IsFaulty, behind, nothing_before}
use Rattle.lake_play.specs.Drilled.{IsBrought, IsEnded, IsFirstRefusal, IsPlayedThrough, LeavesDrill}
use Rattle.lake_play.specs.Formats.{to_hudi, to_iceberg}
use Rattle.lake_play.specs.Playing.{PlaysAll, nothing_played}
use Rattle.lake_play.specs.Standing.{BothHaveEachOnce, BothStand, HasEachOnce, HoldsFrom, IsFresh, IsSyncedEarly, LogHolds, StandsWithin, answer_count, first_from, floor_of, meaning_of_hudi, meaning_of_iceberg}
use Rattle.lake_play.specs.declared.playing.Progress.{Progress}
use Rattle.lake_play.proofs.AtSyncs.{EndBefore, IsPlain}
use Rattle.lake_play.proofs.Causes.{Views, hudi_views, iceberg_views}
use Rattle.lake_play.proofs.DrillEvents.{plain}
use Rattle.lake_play.proofs.DrillFits.{hudi_fits, iceberg_fits, table_of}
use Rattle.lake_play.proofs.DrillLog.{AreFirst}
use Rattle.lake_play.proofs.DrillNumbers.{none_at_sync}
use Rattle.lake_play.proofs.DrillReading.{source_within}
use Rattle.lake_play.proofs.Folds.{Folds, GoWell, IsGood, drill_folds, none_removed}
use Rattle.lake_play.proofs.OneSchema.{types_keep}
use Rattle.lake_play.proofs.Places.{numbers_at}
use Rattle.lake_play.proofs.Targets.{first_get}
use Rattle.lake_basics.proofs.Lists.{all_at_place, get_behind}

-- ---- the answers of a run

-- what its syncs were answered, in order
abbrev answers_in : (now : ℕ) (events : List Event) (so_far : Progress) (old : FuseStore) (after : Progress) (new : FuseStore) → PlaysAll now events so_far old after new → List Status
answers_in now [] so_far old after new plays = []
answers_in now (event.Extend bytes ∷ events) so_far old after new plays = answers_in now events plays.0 plays.1 after new plays.3
answers_in now (event.Shorten below ∷ events) so_far old after new plays = answers_in now events plays.0 plays.1 after new plays.3
answers_in now (event.Sync target ∷ events) so_far old after new plays = plays.2.0 ∷ answers_in now events plays.0 plays.1 after new plays.3
answers_in now (event.Full target ∷ events) so_far old after new plays = plays.2.0 ∷ answers_in now events plays.0 plays.1 after new plays.3
answers_in now (event.Stop call ∷ events) so_far old after new plays = answers_in now events plays.0 plays.1 after new plays.3
answers_in now (event.Crash choices ∷ events) so_far old after new plays = answers_in now events plays.0 plays.1 after new plays.3

told_by : (now : ℕ) (events : List Event) (so_far : Progress) (old : FuseStore) (after : Progress) (new : FuseStore) (plays : PlaysAll now events so_far old after new) → after.answers ≡ so_far.answers ++ answers_in now events so_far old after new plays
told_by now [] so_far old after new plays = sym (ap (λ (p : Progress). p.answers) plays.0) ∙ sym (append-nil so_far.answers)
told_by now (event.Extend bytes ∷ events) so_far old after new plays = told_by now events plays.0 plays.1 after new plays.3 ∙ ap (λ (p : Progress). p.answers ++ answers_in now events plays.0 plays.1 after new plays.3) plays.2.1
told_by now (event.Shorten below ∷ events) so_far old after new plays = told_by now events plays.0 plays.1 after new plays.3 ∙ ap (λ (p : Progress). p.answers ++ answers_in now events plays.0 plays.1 after new plays.3) plays.2.1
told_by now (event.Sync target ∷ events) so_far old after new plays =
    told_by now events plays.0 plays.1 after new plays.3
    ∙ ap (λ (p : Progress). p.answers ++ answers_in now events plays.0 plays.1 after new plays.3) plays.2.2
    ∙ append_assoc so_far.answers (plays.2.0 ∷ []) (answers_in now events plays.0 plays.1 after new plays.3)
told_by now (event.Full target ∷ events) so_far old after new plays =
    told_by now events plays.0 plays.1 after new plays.3
    ∙ ap (λ (p : Progress). p.answers ++ answers_in now events plays.0 plays.1 after new plays.3) plays.2.2
    ∙ append_assoc so_far.answers (plays.2.0 ∷ []) (answers_in now events plays.0 plays.1 after new plays.3)
told_by now (event.Stop call ∷ events) so_far old after new plays = told_by now events plays.0 plays.1 after new plays.3 ∙ ap (λ (p : Progress). p.answers ++ answers_in now events plays.0 plays.1 after new plays.3) plays.2.1
told_by now (event.Crash choices ∷ events) so_far old after new plays = told_by now events plays.0 plays.1 after new plays.3 ∙ ap (λ (p : Progress). p.answers ++ answers_in now events plays.0 plays.1 after new plays.3) plays.2.1

-- ---- one answer

-- the answer of a sync of a target behind a commit, with no version removed, has its cause in the files that the sync had
record IsAnswered (faulty : Before → Type 0) (now : ℕ) (history : History) (all : List (List ℕ)) (given : Status) : Type 0 where
  target : Kind
  other : target ≢ Delta
  before : Before
  files : Files
  kept : before.shortened ≡ false
  some : before.commits ≡ [] → ⊥
  behind : List (List ℕ)
  first : before.commits ++ behind ≡ all
  cause : IsCause target modes.Sync now history before files (faulty before) given

not_empty : (xs : List (List ℕ)) (x : List ℕ) → xs ++ x ∷ [] ≡ [] → ⊥
not_empty [] x is = cc
not_empty (y ∷ xs) x is = cc

module _ (faulty : Before → Type 0) (now : ℕ) (history : History) (all : List (List ℕ)) where
  answered : (events : List Event) (some : Bool) (count : ℕ) (before : Before) (so_far : Progress) (old : FuseStore) (after : Progress) (new : FuseStore) (plays : PlaysAll now events so_far old after new)
      → IsPlain some events → AreInOrder count events → AreCaused faulty now history before events so_far old after new plays → before.shortened ≡ false → (some ≡ true → before.commits ≡ [] → ⊥) → before.commits ++ extensions events ≡ all
      → (place : ℕ) (given : Status) → slice_get (answers_in now events so_far old after new plays) place ≡ Some given → IsAnswered faulty now history all given
  answered [] some count before so_far old after new plays _ order caused kept behind_some whole place given at = absurd (none-some given at)
  answered (event.Extend bytes ∷ events) some count before so_far old after new plays plain order caused kept behind_some whole place given at =
      answered events true (count + 1) (behind (event.Extend bytes) before) plays.0 plays.1 after new plays.3 plain order caused kept (λ is. not_empty before.commits bytes) (append_assoc before.commits (bytes ∷ []) (extensions events) ∙ whole) place given at
  answered (event.Shorten below ∷ events) some count before so_far old after new plays plain order caused kept behind_some whole place given at = absurd plain
  answered (event.Sync target ∷ events) some count before so_far old after new plays plain order caused kept behind_some whole zero given at =
      subst (IsAnswered faulty now history all) (same_Some plays.2.0 given at)
      (record { target = target; other = order.0; before = before; files = (fuse_disk old).files; kept = kept; some = behind_some plain.0; behind = extensions events; first = whole; cause = caused.0 })
  answered (event.Sync target ∷ events) some count before so_far old after new plays plain order caused kept behind_some whole (suc place) given at =
      answered events some count before plays.0 plays.1 after new plays.3 plain.1 order.1 caused.1 kept behind_some whole place given at
  answered (event.Full target ∷ events) some count before so_far old after new plays plain order caused kept behind_some whole place given at = absurd plain
  answered (event.Stop call ∷ events) some count before so_far old after new plays plain order caused kept behind_some whole place given at =
      answered events some count (behind (event.Stop call) before) plays.0 plays.1 after new plays.3 plain order caused kept behind_some whole place given at
  answered (event.Crash choices ∷ events) some count before so_far old after new plays plain order caused kept behind_some whole place given at =
      answered events some count (behind (event.Crash choices) before) plays.0 plays.1 after new plays.3 plain order caused kept behind_some whole place given at

-- ---- the causes

module _ (mode : Mode) (now : ℕ) (history : History) (before : Before) (files : Files) (Faulty : Type 0) where
  -- of Hudi or of Iceberg
  at_either : {P : Type 0} (given : Status) (target : Kind) → target ≢ Delta → IsCause target mode now history before files Faulty given → (given ≡ status.Memory → ⊥)
      → ((t : HudiTarget) → IsCauseAt (target_facts to_hudi t) mode now history before files Faulty given → P) → ((t : IcebergTarget) → IsCauseAt (target_facts to_iceberg t) mode now history before files Faulty given → P) → P
  at_either given Delta other cause not_memory hudi iceberg = absurd (other refl)
  at_either given Hudi other (inl is) not_memory hudi iceberg = absurd (not_memory is)
  at_either given Hudi other (inr is) not_memory hudi iceberg = hudi is.0 is.2
  at_either given Iceberg other (inl is) not_memory hudi iceberg = absurd (not_memory is)
  at_either given Iceberg other (inr is) not_memory hudi iceberg = iceberg is.0 is.2

  at_target : {P : Type 0} (given : Status) (target : Kind) → target ≢ Delta → IsCause target mode now history before files Faulty given → (given ≡ status.Memory → ⊥)
      → ((facts : TargetFacts) → Views facts → IsCauseAt facts mode now history before files Faulty given → P) → P
  at_target given target other cause not_memory on =
      at_either given target other cause not_memory (λ t at. on (target_facts to_hudi t) (hudi_views t) at) (λ t at. on (target_facts to_iceberg t) (iceberg_views t) at)

-- ---- a store that stopped

module _ (script : Script) (from to now : ℕ) (history : History) (unscripted : CanFail script → ⊥) where
  no_usage : status.StoreFault ≡ status.Usage → ⊥
  no_usage is = cc

  no_memory : status.StoreFault ≡ status.Memory → ⊥
  no_memory is = cc

  stopped : (mode : Mode) (before : Before) (files : Files) (target : Kind) → IsCause target mode now history before files (IsFaulty script from to before) status.StoreFault → before.stopped ≡ true
  stopped mode before files Delta is = absurd (no_usage is)
  stopped mode before files Hudi is = at_target mode now history before files (IsFaulty script from to before) status.StoreFault Hudi (λ e. cc) is no_memory (λ facts views faulty. ⊎_elim (λ can. absurd (unscripted can)) (λ stop. stop) faulty.1)
  stopped mode before files Iceberg is = at_target mode now history before files (IsFaulty script from to before) status.StoreFault Iceberg (λ e. cc) is no_memory (λ facts views faulty. ⊎_elim (λ can. absurd (unscripted can)) (λ stop. stop) faulty.1)

  good : (mode : Mode) (before : Before) (files : Files) (target : Kind) (given : Status) → IsCause target mode now history before files (IsFaulty script from to before) given → IsEnded given → IsGood before.stopped given
  good mode before files target given cause (inl done) = inl done
  good mode before files target given cause (inr fault) = inr (fault, stopped mode before files target (subst (IsCause target mode now history before files (IsFaulty script from to before)) fault cause))

  go_well : (events : List Event) (before : Before) (so_far : Progress) (old : FuseStore) (after : Progress) (new : FuseStore) (plays : PlaysAll now events so_far old after new)
      → AreCaused (IsFaulty script from to) now history before events so_far old after new plays → AllByRecursion IsEnded (answers_in now events so_far old after new plays) → GoWell before.stopped events (answers_in now events so_far old after new plays)
  go_well [] before so_far old after new plays caused ended = tt
  go_well (event.Extend bytes ∷ events) before so_far old after new plays caused ended = go_well events (behind (event.Extend bytes) before) plays.0 plays.1 after new plays.3 caused ended
  go_well (event.Shorten below ∷ events) before so_far old after new plays caused ended = go_well events (behind (event.Shorten below) before) plays.0 plays.1 after new plays.3 caused ended
  go_well (event.Sync target ∷ events) before so_far old after new plays caused ended =
      (good modes.Sync before (fuse_disk old).files target plays.2.0 caused.0 ended.0, go_well events before plays.0 plays.1 after new plays.3 caused.1 ended.1)
  go_well (event.Full target ∷ events) before so_far old after new plays caused ended =
      (good modes.Full before (fuse_disk old).files target plays.2.0 caused.0 ended.0, go_well events before plays.0 plays.1 after new plays.3 caused.1 ended.1)
  go_well (event.Stop call ∷ events) before so_far old after new plays caused ended = go_well events (behind (event.Stop call) before) plays.0 plays.1 after new plays.3 caused ended
  go_well (event.Crash choices ∷ events) before so_far old after new plays caused ended = go_well events (behind (event.Crash choices) before) plays.0 plays.1 after new plays.3 caused ended

-- ---- what is played

-- what the clauses of `play` say of these events, which are legal
pub record IsPlayedSo (events : List Event) (old new : FuseStore) (answers : List Status) : Type 0 where
  pub legal : AreLegal events
  pub after : Progress
  pub told : after.answers ≡ answers
  pub plays : PlaysAll drill_time events nothing_played old after new
  pub sum : length answers ≡ answer_count events
  pub log : (history : History) → IsHistoryOf events history → LogHolds events (fuse_disk new)
  pub stand : (history : History) → IsHistoryOf events history → BothStand events answers history (fuse_disk new)
  pub once : (history : History) → IsHistoryOf events history → BothHaveEachOnce events answers history (fuse_disk new)
  pub caused : (history : History) → IsHistoryOf events history → AreCaused (IsFaulty (script_of old) (faults_of old) (faults_of new)) drill_time history nothing_before events nothing_played old after new plays

module _ (number : ℕ) (old new : FuseStore) (answers : List Status) (played : IsPlayedSo (drill_events number true) old new answers) where
  abbrev events : List Event
  events = drill_events number true

  abbrev files : Files
  files = (fuse_disk new).files

  abbrev faulty : Before → Type 0
  faulty = IsFaulty (script_of old) (faults_of old) (faults_of new)

  answers_are : answers ≡ answers_in drill_time events nothing_played old played.after new played.plays
  answers_are = sym played.told ∙ told_by drill_time events nothing_played old played.after new played.plays

  -- ---- an answer that ends it

  false_true : false ≡ true → ⊥
  false_true is = cc

  module _ (fresh : IsFresh old) (unscripted : CanFail (script_of old) → ⊥) (said : AreSaid number) (place : ℕ) where
    abbrev tables : History
    tables = drill_history number 200

    all_are : extensions events ≡ map (drill_bytes number) (numbers_under 200)
    all_are = commits_are number true 200

    tables_are : IsHistoryOf events tables
    tables_are = subst (λ (l : List (List ℕ)). IsHistoryFrom 0 None l tables) (sym all_are) (are_history number said 200 (omega arith)).0

    why : (given : Status) → slice_get answers place ≡ Some given → IsAnswered faulty drill_time tables (map (drill_bytes number) (numbers_under 200)) given
    why given at =
        answered faulty drill_time tables (map (drill_bytes number) (numbers_under 200)) events false 0 nothing_before nothing_played old played.after new played.plays (plain number) played.legal.order (played.caused tables tables_are) refl (λ some. absurd (false_true some)) all_are place given
        (ap (λ (l : List Status). slice_get l place) (sym answers_are) ∙ at)

    never : (given : Status) → slice_get answers place ≡ Some given → (given ≡ status.Memory → ⊥)
        → ((before : Before) (had : Files) → before.shortened ≡ false → (before.commits ≡ [] → ⊥) → AreFirst number before.commits → (facts : TargetFacts) → Views facts → IsCauseAt facts modes.Sync drill_time tables before had (faulty before) given → ⊥) → ⊥
    never given at not_memory refuted =
        let a = why given at in
        at_target modes.Sync drill_time tables a.before a.files (faulty a.before) given a.target a.other a.cause not_memory (refuted a.before a.files a.kept a.some (a.behind, a.first))

    -- Each table has the drill's schema, so no sync of Iceberg finds the type of a column changed.
    one_schema : (entry : List ℕ × Table) → Contains tables entry → entry.1.schema ≡ drill_schema
    one_schema entry there = ap (λ (t : Table). t.schema) (table_of number entry there).1

    few : length (extensions events) ≤ 2 ^ 64
    few = let count : length (extensions events) ≡ 200 = ap (λ (l : List (List ℕ)). length l) all_are ∙ length_map (drill_bytes number) 200 in omega (arith, count)

    types : (path : List ℕ) → slice_get answers place ≡ Some (status.Unsupported (side.Target Iceberg) TypeChange path) → ⊥
    types path at =
        let given : Status = status.Unsupported (side.Target Iceberg) TypeChange path in
        types_keep drill_schema drill_time events old played.after new few played.plays played.legal.order fresh tables tables_are one_schema place given (ap (λ (l : List Status). slice_get l place) played.told ∙ at) path refl

    -- The commits fit.
    no_unfit : (kind : Kind) (feature : Feature) (path : List ℕ) → slice_get answers place ≡ Some (status.Unsupported (side.Target kind) feature path) → ⊥
    no_unfit kind feature path at =
        let given : Status = status.Unsupported (side.Target kind) feature path in
        let a = why given at in
        at_either modes.Sync drill_time tables a.before a.files (faulty a.before) given a.target a.other a.cause (λ is. cc)
        (λ t cause. hudi_fits number t a.before.commits feature path cause.1)
        (λ t cause.
        let one : feature ≡ TypeChange = iceberg_fits number t a.before.commits feature path cause.1 in
        let of : kind ≡ Iceberg = cause.0 in
        types path (subst (λ (f : Feature). slice_get answers place ≡ Some (status.Unsupported (side.Target Iceberg) f path)) one (subst (λ (k : Kind). slice_get answers place ≡ Some (status.Unsupported (side.Target k) feature path)) of at)))

    pub end_of : (given : Status) → slice_get answers place ≡ Some given → EndBefore IsEnded answers place → (IsEnded given → ⊥) → given ≡ status.Memory
    end_of status.Done at before not_ended = absurd (not_ended (inl refl))
    end_of status.Memory at before not_ended = refl
    end_of status.Usage at before not_ended = absurd (never status.Usage at (λ is. cc) (λ before had kept some first facts views c. c))
    end_of status.Absent at before not_ended = absurd (never status.Absent at (λ is. cc) (λ before had kept some first facts views c. some c))
    end_of (status.Malformed path) at before not_ended = absurd (never (status.Malformed path) at (λ is. cc) (λ before had kept some first facts views c. c))
    end_of (status.Unsupported side.Source feature path) at before not_ended =
        absurd (never (status.Unsupported side.Source feature path) at (λ is. cc) (λ before had kept some first facts views c. false_true (sym kept ∙ c.1)))
    end_of (status.Unsupported (side.Target kind) feature path) at before not_ended = absurd (no_unfit kind feature path at)
    end_of (status.Limit side.Source which n) at before not_ended =
        absurd (never (status.Limit side.Source which n) at (λ is. cc) (λ before had kept some first facts views c. source_within number said facts views modes.Sync drill_time before.commits first which n c))
    end_of (status.Limit (side.Target kind) which n) at before not_ended =
        absurd (none_at_sync number said old played.after new fresh unscripted played.plays played.legal.order place kind which n (ap (λ (l : List Status). slice_get l place) played.told ∙ at) (subst (λ (l : List Status). EndBefore IsEnded l place) (sym played.told) before))
    end_of (status.Foreign kind path) at before not_ended = absurd (never (status.Foreign kind path) at (λ is. cc) (λ before had kept some first facts views c. c))
    end_of (status.Contested kind) at before not_ended = absurd (never (status.Contested kind) at (λ is. cc) (λ before had kept some first facts views c. c))
    end_of status.StoreFault at before not_ended = absurd (not_ended (inr refl))
    end_of status.SinkFault at before not_ended = absurd (never status.SinkFault at (λ is. cc) (λ before had kept some first facts views c. c))
    end_of (status.Behind kind mark head) at before not_ended = absurd (never (status.Behind kind mark head) at (λ is. cc) (λ before had kept some first facts views c. c))
    end_of (status.Differs kind path) at before not_ended = absurd (never (status.Differs kind path) at (λ is. cc) (λ before had kept some first facts views c. c))
    end_of (status.Stale path) at before not_ended = absurd (never (status.Stale path) at (λ is. cc) (λ before had kept some first facts views c. c))

  -- the first answer that isn't one of these is want of memory
  pub first_end : IsFresh old → (CanFail (script_of old) → ⊥) → AreSaid number → (given : Status) → IsFirstRefusal answers given → given ≡ status.Memory
  first_end fresh unscripted said given is =
      end_of fresh unscripted said (length is.0) given (ap (λ (l : List Status). slice_get l (length is.0)) is.2 ∙ get_behind is.0 given is.1)
      (λ i one less at. all_at_place IsEnded is.0 i one is.3 (sym (first_get is.0 (given ∷ is.1) i less) ∙ ap (λ (l : List Status). slice_get l i) (sym is.2) ∙ at)) is.4

  -- ---- where all syncs ended as they may

  module _ (fresh : IsFresh old) (unscripted : CanFail (script_of old) → ⊥) (ended : AllByRecursion IsEnded answers) where
    folds : Folds number answers
    folds =
        drill_folds number answers
        (subst (λ (l : List Status). GoWell false events l) (sym answers_are)
        (go_well (script_of old) (faults_of old) (faults_of new) drill_time played.legal.history unscripted events nothing_before nothing_played old played.after new played.plays (played.caused played.legal.history played.legal.is)
        (subst (λ (l : List Status). AllByRecursion IsEnded l) answers_are ended)))

    may : MayLeave (fuse_disk new) files
    may path clean = refl

    abbrev commits : List (List ℕ)
    commits = map (drill_bytes number) (numbers_under 200)

    are : extensions events ≡ commits
    are = commits_are number true 200

    holds : HoldsFrom 0 commits files
    holds = subst (λ (n : ℕ). HoldsFrom n commits files) (none_removed number) (subst (λ (l : List (List ℕ)). HoldsFrom (first_from 0 events) l files) are (played.log played.legal.history played.legal.is files may))

    brought : (target : Meaning) (history : History) → StandsWithin target history (floor_of target.kind events answers) (length (extensions events)) files → floor_of target.kind events answers ≡ 200 → HasEachOnce target events answers history files
        → IsSyncedEarly target.kind 0 0 events answers → IsBrought target history files
    brought target history stands floor once early =
        let low = stands.from_there in
        let up = stands.up_to in
        let count : length (extensions events) ≡ 200 = ap (λ (l : List (List ℕ)). length l) are ∙ length_map (drill_bytes number) 200 in
        let last : stands.j ≡ 200 = omega (arith, low, up, floor, count) in
        let at : IsAt Delta target history files 200 = subst (IsAt Delta target history files) last stands.at in
        record { at = at; commits = once early 200 at }

    pub played_through : IsPlayedThrough number new
    played_through = record {
      start = old;
      fresh = fresh;
      unscripted = unscripted;
      after = played.after;
      end = new;
      plays = played.plays;
      ended = subst (λ (l : List Status). AllByRecursion IsEnded l) (sym played.told) ended;
      disk = refl;
      outside = refl;
    }

    pub leaves : LeavesDrill number files
    leaves = record {
      legal = played.legal;
      holds = λ version less. holds.holds version (drill_bytes number version) (omega arith) (numbers_at (drill_bytes number) 200 version less);
      only = λ version has.
          let within = (holds.only version has).1 in
          let count : length commits ≡ 200 = length_map (drill_bytes number) 200 in
          omega (arith, within, count);
      alone = holds.alone;
      hudi = λ history is. brought meaning_of_hudi history (played.stand history is files may).0 folds.hudi_floor (played.once history is files may).0 folds.hudi_early;
      iceberg = λ history is. brought meaning_of_iceberg history (played.stand history is files may).1 folds.iceberg_floor (played.once history is files may).1 folds.iceberg_early;
    }
