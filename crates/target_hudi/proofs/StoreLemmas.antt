-- What a commit leaves of the store, where it is refused before it writes, and where its instant is published.
use Rattle.std.proofs.Common.{◌≡◌, ◌⊎◌, inl, inr, ⊎_elim, ℕ, ◌≢◌, ◌+◌, ◌<◌, ◌≤◌, Bool, true, false, List, [], ◌∷◌, length, Contains, Option, Some, None, refl, sym, ap, subst, ◌∙◌, arith}
use Rattle.std.specs.Prelude.{Err, IsErrOf, is_some, IsSome}
use Rattle.std.specs.FinMap as map
use Rattle.std.specs.FinSet as set
use Rattle.std.specs.Cmp.Lexicographic.{slice_cmp}
use Rattle.std.specs.Ordering.{nat_cmp}
use Rattle.std.proofs.lemmas.Cmp.{eq_by_cmp_equiv, nat_list_cmp_total}
use Rattle.std.proofs.lemmas.List.{length-append}
use Rattle.std.proofs.lemmas.Map.Keys.{IsDistinct-from_sorted}
use Rattle.std.proofs.lemmas.Map.Made.{length-le_from_is_member}
use Rattle.lake_basics.specs.declared.limits.TheConstants.{MAX_NAMES}
use Rattle.lake_basics.proofs.Lists.{none_longer}
use Rattle.lake_store.specs.Disk.{Disk, Files, IsClean, MayLeave, names_in}
use Rattle.lake_store.specs.Runs.{IsEachMoment, IsIn, KeepsImage, LeavesAlone}
use Rattle.lake_store.specs.declared.store.Store.{Ghosts}
use Rattle.lake_store.specs.declared.store.StoreError.{StoreError}
use Rattle.lake_store.specs.declared.store.StoreError.TheVariants as errors
use Rattle.lake_store.proofs.DiskLaws.{is_path}
use Rattle.lake_store.proofs.MomentLaws.{both, started, weaker}
use Rattle.lake_store.proofs.OrderLaws.{names_in_listed, names_in_sorted}
use Rattle.lake_store.proofs.RunLaws.{NowOnly, alone_of_fewer}
use Rattle.table_history.specs.declared.kind.Kind.TheVariants.{Hudi}
use Rattle.table_history.specs.declared.limit.LimitKind.{LimitKind}
use Rattle.table_history.specs.declared.limit.LimitKind.TheVariants.{Names}
use Rattle.table_history.specs.declared.table.Commit.{Commit}
use Rattle.table_history.proofs.RowListLemmas.{Contains-none}
use Rattle.hudi_names.specs.Time.{IsSomeTime}
use Rattle.hudi_names.specs.declared.name.State.TheVariants as state
use Rattle.hudi_table.specs.declared.instants.CompletedInstant.{CompletedInstant}
use Rattle.hudi_groups.proofs.AnyLemmas.{any_from, any_to}
use Rattle.hudi_properties.specs.Written.{properties_text}
use Rattle.hudi_commit.specs.Names.{Inflight, IsLeftover, IsOf, IsOpenLeftover, IsThere, Requested, Stage, StaysOrGoes, claim_path, claims_folder, completed_name, completed_path, pending_path, properties_path, staged_properties_path, timeline_folder, timeline_path}
use Rattle.hudi_commit.specs.Orderly.{IsOrderly}
use Rattle.hudi_commit.specs.Runs.{HasCompleted, HasNotGrown, IsBeforeOrAfter, IsCommitted, IsKept, IsOneStep, IsOther, IsReady, IsTakenBy, LacksOrIs, NotGiven}
use Rattle.hudi_commit.specs.Settled.{IsSettled, Stands}
use Rattle.hudi_commit.proofs.NameLaws.{completed_stays}
use Rattle.hudi_commit.proofs.StepLaws.{clean_settled, in_timeline}
use Rattle.target_core.specs.Conditions.{CanPublish, Fits, GoesOn}
use Rattle.target_core.specs.Folders.{MayLeaveIn, after_crash}
use Rattle.target_core.specs.Gained.{CarriesAll}
use Rattle.target_core.specs.Outcome.{answer_of}
use Rattle.target_core.specs.OwnFiles.{AreDigits, IsHudiFile, MayNotTouch, TouchesOwn}
use Rattle.target_core.specs.Publishing.{Publishes}
use Rattle.target_core.specs.Refusals.{IsCommitRefusal}
use Rattle.target_core.specs.Step as step
use Rattle.target_core.specs.Views.{Origin}
use Rattle.target_core.specs.Written.{HasReached, IsAsLeft}
use Rattle.target_core.specs.declared.target.TargetError.{TargetError}
use Rattle.target_core.specs.declared.target.TargetError.TheVariants.{Contested, Limit}
use Rattle.target_core.proofs.OneStep.{publishes_none, publishes_one}
use Rattle.target_core.proofs.StoreAnswers.{alone_none, only_long, only_taken}
use Rattle.target_hudi.specs.Fitting.{Unfit}
use Rattle.target_hudi.specs.HudiMeaning.{hudi_meaning}
use Rattle.target_hudi.specs.Kept.{IsCounted, IsNewest, StandsFor, end_of, held_of, view_of}
use Rattle.target_hudi.specs.NewInstant.{AreGiven, IsNewInstant, IsTaken}
use Rattle.target_hudi.specs.Reading.{IsReached, IsSettledTarget, Reads, commits_in, completed_in}
use Rattle.target_hudi.specs.ReadingLemmas.{alike_reads, never_pending, orderly, own_of}
use Rattle.target_hudi.specs.SettledLemmas.{carries_own, crash_carries, crash_reads, crash_settled, kept_clean}
use Rattle.target_hudi.specs.Writes.{Writes}
use Rattle.target_hudi.specs.Writing.{Passes, TimelineEnd}
use Rattle.target_hudi.specs.TableName.{new_pairs}
use Rattle.target_hudi.specs.declared.kept.HudiKept.{HudiKept}
use Rattle.target_hudi.proofs.BesideLemmas.{IsBeside, carried_still, completed_before, completed_behind, few, reached_still}
use Rattle.target_hudi.proofs.TimelineLemmas.{AreEarlier, found_completed, new_one}
use Rattle.target_hudi.proofs.KeepsLemmas.{advanced, newest_is, passes_behind}
use Rattle.target_hudi.proofs.MomentLemmas.{AreDue, AreGivenNow, IsGrown, beside_kept, beside_stays, grown_after, grown_alike, reached_kept, still_before}
use Rattle.target_hudi.proofs.PublishLemmas.{HasFolders, due, earlier, earlier_still, folders_before, folders_behind, is_before, is_behind, stands_now}

-- ---- answers

error_same : (s t : StoreError) → IsErrOf {T = Unit {0}} (Err s) t → s ≡ t
error_same s t is = cc

answer_same : (e d : TargetError) → IsErrOf {T = Unit {0}} (Err e) d → e ≡ d
answer_same e d is = cc

only_of_names : (s : StoreError) (which : LimitKind) (number : ℕ) → answer_of Names MAX_NAMES s ≡ Limit which number → which ≡ Names
only_of_names errors.Memory which number is = absurd (cc)
only_of_names errors.Failed which number is = absurd (cc)
only_of_names (errors.TooLong n) which number is = cc
only_of_names errors.Taken which number is = absurd (cc)

module _ (s : StoreError) (e : TargetError) (gives : e ≡ answer_of Names MAX_NAMES s) where
  -- another writer is told as a contest, and so is nothing else
  pub contested_error : IsErrOf {T = Unit {0}} (Err s) errors.Taken → IsErrOf {T = Unit {0}} (Err e) Contested
  contested_error taken = ap (λ (d : TargetError). Err d) (gives ∙ ap (answer_of Names MAX_NAMES) (error_same s errors.Taken taken))

  pub taken_answer : IsErrOf {T = Unit {0}} (Err e) Contested → IsErrOf {T = Unit {0}} (Err s) errors.Taken
  taken_answer contested = ap (λ (t : StoreError). Err t) (only_taken Names MAX_NAMES s (sym gives ∙ answer_same e Contested contested))

  -- where a number is passed, a list was too long
  pub limited_by : (which : LimitKind) (number : ℕ) → IsErrOf {T = Unit {0}} (Err e) (Limit which number) → (n : ℕ) × IsErrOf {T = Unit {0}} (Err s) (errors.TooLong n)
  limited_by which number limited =
      let long = only_long Names MAX_NAMES s which number (sym gives ∙ answer_same e (Limit which number) limited) in
      (long.0, ap (λ (t : StoreError). Err t) long.1)

  -- and it is names of which there are too many
  pub only_names : (which : LimitKind) (number : ℕ) → IsErrOf {T = Unit {0}} (Err e) (Limit which number) → which ≡ Names
  only_names which number limited = only_of_names s which number (sym gives ∙ answer_same e (Limit which number) limited)

  -- the refusal is that too many claims are there
  pub refused_by : (files : Files) (end : TimelineEnd) (origin : Origin) (now : ℕ) (commit : Commit) → ((n : ℕ) → IsErrOf {T = Unit {0}} (Err s) (errors.TooLong n) → (MAX_NAMES < n) × (n ≡ length (names_in files claims_folder)))
      → IsCommitRefusal (Passes files end origin now (commit ∷ [])) e
  refused_by files end origin now commit long = subst (IsCommitRefusal (Passes files end origin now (commit ∷ []))) (sym gives) (by s long)
    where
      by : (t : StoreError) → ((n : ℕ) → IsErrOf {T = Unit {0}} (Err t) (errors.TooLong n) → (MAX_NAMES < n) × (n ≡ length (names_in files claims_folder))) → IsCommitRefusal (Passes files end origin now (commit ∷ [])) (answer_of Names MAX_NAMES t)
      by errors.Memory far = tt
      by errors.Failed far = tt
      by (errors.TooLong n) far = let is = far n refl in inl (λ none. cc, refl, refl, subst (λ (k : ℕ). MAX_NAMES < k) is.1 is.0)
      by errors.Taken far = tt

-- ---- names of claims

pub fewer_claims : (old new : Files) → HasNotGrown claims_folder old new → length (names_in new claims_folder) ≤ length (names_in old claims_folder)
fewer_claims old new fewer =
    length-le_from_is_member (eq_by_cmp_equiv nat_list_cmp_total) (names_in new claims_folder) (names_in old claims_folder) (IsDistinct-from_sorted (slice_cmp nat_cmp) (names_in new claims_folder) (names_in_sorted new claims_folder)) (λ q is.
    let at = any_to (is_path q) (names_in new claims_folder) is in
    let listed = ((names_in_listed new claims_folder).members at.0).0 at.1 in
    let still = ((names_in_listed old claims_folder).members at.0).1 (listed.0, fewer (claim_path at.0) (at.0, refl) listed.1) in
    any_from (is_path q) (names_in old claims_folder) at.0 still at.2)

-- what is passed behind the commit was passed from here on
pub passes_ahead : (name : List ℕ) (origin : Origin) (now : ℕ) (kept next : HudiKept) (commit : Commit) (instant : List ℕ) (properties : Option (List ℕ)) (text : List ℕ) → IsNewInstant (end_of name kept) origin now kept commit instant properties text next
    → (old new : Files) → HasNotGrown claims_folder old new → (commits : List Commit) (which : LimitKind) (number : ℕ) → Passes new (end_of name next) origin now commits which number → Passes old (end_of name kept) origin now (commit ∷ commits) which number
passes_ahead name origin now kept next commit instant properties text v old new fewer commits which number passes = ⊎_elim
    (λ (many : (commits ≢ []) × (which ≡ Names) × (number ≡ MAX_NAMES) × (MAX_NAMES < length (names_in new claims_folder))). let few_old = fewer_claims old new fewer in inl (λ none. cc, many.1, many.2, omega (arith, many.3, few_old)))
    (λ last. inr (passes_behind name origin now kept next commit instant properties text v commits which number last))
    passes

-- ---- nothing is done

module _ {S : Type 0} (store : Ghosts S) (only_now : NowOnly store) (s : S) (told : store.tells) where
  module _ (origin : Origin) (kept : HudiKept) (commit : Commit) (stands : StandsFor kept (store.disk s).files) (settled : IsSettledTarget (store.disk s)) where
    abbrev Left : Files → Type 0
    Left files = step.IsBefore hudi_meaning (view_of kept) (store.disk s).files files × IsSettledTarget (after_crash files)

    left_in : (image : Files) → MayLeave (store.disk s) image → MayLeaveIn timeline_folder (store.disk s) image
    left_in image may path within clean = may path clean

    left_by : (image : Files) → MayLeave (store.disk s) image → Left image
    left_by image may = (
      record {
        reads = crash_reads (store.disk s) image settled (left_in image may) (view_of kept) stands.reads;
        earlier = λ c change standing le h. crash_carries (store.disk s) image settled (left_in image may) c change standing h;
      },
      crash_settled (store.disk s) image settled (left_in image may),
    )

    pub publishes_nothing : (U : Type 0) → Publishes store hudi_meaning origin (view_of kept) (commit ∷ []) U false s s
    publishes_nothing U =
        publishes_none store hudi_meaning origin (view_of kept) commit s s told (λ c change standing le h. h) (alone_none store only_now s told (IsReached (store.disk s).files)) U
        (λ _. (record { reads = stands.reads; earlier = λ c change standing le h. h }, settled))
        (λ _. started store only_now s Left (λ t image may. left_by image may) told)

-- ---- the instant is published

-- the new instant, by equal texts
pub same_instant : (end : TimelineEnd) (origin : Origin) (now : ℕ) (kept next : HudiKept) (commit : Commit) (time t text b : List ℕ) (properties p : Option (List ℕ)) → t ≡ time → p ≡ properties → b ≡ text
    → IsNewInstant end origin now kept commit time properties text next → IsNewInstant end origin now kept commit t p b next
same_instant end origin now kept next commit time t text b properties p at_time at_properties at_text v =
    subst (λ (x : List ℕ). IsNewInstant end origin now kept commit x p b next) (sym at_time)
    (subst (λ (x : Option (List ℕ)). IsNewInstant end origin now kept commit time x b next) (sym at_properties)
    (subst (λ (x : List ℕ). IsNewInstant end origin now kept commit time properties x next) (sym at_text) v))

-- ---- a target's own files

seventeen : (instant : List ℕ) → IsSomeTime instant → AreDigits 17 instant
seventeen instant real = record { len = real.1.digits.len; numeral = real.1.digits.numeral }

leftover_touched : (files : Files) (path : List ℕ) → IsOpenLeftover files path → IsHudiFile path
leftover_touched files path (inl is) = IsHudiFile.staged_properties is
leftover_touched files path (inr (instant, real, lacking, inl is)) = IsHudiFile.claim instant (seventeen instant real) is
leftover_touched files path (inr (instant, real, lacking, inr (Requested, is))) = IsHudiFile.requested instant (seventeen instant real) is
leftover_touched files path (inr (instant, real, lacking, inr (Inflight, is))) = IsHudiFile.inflight instant (seventeen instant real) is

untouched_kept : (properties : Option (List ℕ)) (instant : List ℕ) → IsSomeTime instant → (files : Files) (path : List ℕ) → MayNotTouch Hudi path → IsKept properties instant files path
untouched_kept properties instant real files path untouched = record {
  leftover = λ left. untouched (leftover_touched files path left);
  completed = λ is. untouched (IsHudiFile.completed instant (seventeen instant real) is);
  given = not_given properties;
}
  where
    not_given : (given : Option (List ℕ)) → NotGiven given path
    not_given None = tt
    not_given (Some text) = λ is. untouched (IsHudiFile.properties is)

pub touches_own : {S : Type 0} (store : Ghosts S) (old new : S) (instant : List ℕ) (properties : Option (List ℕ)) → IsSomeTime instant → LeavesAlone store (IsKept properties instant (store.disk old).files) old new → TouchesOwn store Hudi old new
touches_own store old new instant properties real alone =
    alone_of_fewer store (IsKept properties instant (store.disk old).files) (MayNotTouch Hudi) old new (untouched_kept properties instant real (store.disk old).files) alone

-- a disk without dirty paths, or a settled one, is a settled target where its files say so of folders
settled_by : (disk : Disk) → IsSettled disk → HasFolders disk.files → IsSettledTarget disk
settled_by disk settled folders = record { timeline = settled; hive_style = folders.hive_style; url_encode = folders.url_encode }

pub folders_of : (disk : Disk) → IsSettledTarget disk → HasFolders disk.files
folders_of disk settled = record { hive_style = settled.hive_style; url_encode = settled.url_encode }

clean_after : (image : Files) → HasFolders image → IsSettledTarget (after_crash image)
clean_after image folders = settled_by (after_crash image) (clean_settled (after_crash image) (λ path. set.contains-empty (slice_cmp nat_cmp) path)) folders

module _ {S : Type 0} (store : Ghosts S) (old new : S) (told : store.tells) (name : List ℕ) (origin : Origin) (now : ℕ) (kept next : HudiKept) (commit : Commit) (instant : List ℕ) (properties : Option (List ℕ)) (text : List ℕ)
    (v : IsNewInstant (end_of name kept) origin now kept commit instant properties text next) (counted : IsCounted kept (store.disk old).files)
    (alone : LeavesAlone store (IsKept properties instant (store.disk old).files) old new) where
  abbrev entry : Files
  entry = (store.disk old).files

  abbrev exit : Files
  exit = (store.disk new).files

  given_first : AreDue properties entry
  given_first = due name origin now kept next commit instant properties text v entry counted.newest

  all_before : AreEarlier entry instant
  all_before = earlier name origin now kept next commit instant properties text v entry counted.newest

  beside_now : IsBeside instant entry exit
  beside_now = beside_kept properties instant v.real entry given_first exit alone.disk.files

  pub reached_alone : LeavesAlone store (IsReached entry) old new
  reached_alone = alone_of_fewer store (IsKept properties instant entry) (IsReached entry) old new
      (reached_kept properties instant v.real entry given_first all_before) alone

  -- the instant is there
  pub counted_now : map.get exit (completed_path instant) ≡ Some text → IsCounted next exit
  counted_now there =
      let more = completed_behind instant v.real entry all_before exit beside_now text there in
      let count : commits_in exit ≡ commits_in entry + 1 = ap length more ∙ length-append (completed_in entry) (new_one instant v.real ∷ []) in
      record {
        commits = omega (arith, count, counted.commits, v.commits);
        newest = subst (λ (o : Option (List ℕ)). IsNewest exit o) (sym (newest_is name origin now kept next commit instant properties text v)) (completed_in entry, new_one instant v.real, more, refl);
      }

  -- one commit more at most
  pub few_now : commits_in exit ≤ kept.commits + 1
  few_now =
      let at_most = few instant v.real entry all_before exit beside_now in
      omega (arith, at_most, counted.commits)

  -- The instant is completed, where there are more commits than before.
  pub come_there : kept.commits < commits_in exit → IsThere exit (completed_path instant)
  come_there later = by (map.get exit (completed_path instant)) refl
    where
      by : (o : Option (List ℕ)) → map.get exit (completed_path instant) ≡ o → IsThere exit (completed_path instant)
      by None is =
          let same : commits_in exit ≡ commits_in entry = ap length (completed_before instant v.real entry all_before exit beside_now is) in
          let count = counted.commits in
          absurd (omega (arith, later, same, count))
      by (Some bytes) is = ap is_some is

  -- Behind another writer's instant all that a crash would have shown stays.
  module _ (settled : IsSettledTarget (store.disk old)) where
    stays_clean : (path : List ℕ) → IsIn timeline_folder path → (IsLeftover path → ⊥) → IsClean (store.disk old) path
    stays_clean = kept_clean (store.disk old) settled.timeline

    module _ (image : Files) (kept_image : KeepsImage (IsKept properties instant entry) (store.disk old) image) where
      beside_image : IsBeside instant entry image
      beside_image = beside_stays properties instant v.real entry given_first image (λ path is within stays. kept_image path is (stays_clean path within stays))

      module _ (none : map.get image (completed_path instant) ≡ None) where
        same_completed : completed_in image ≡ completed_in entry
        same_completed = completed_before instant v.real entry all_before image beside_image none

        beside_exit : IsBeside instant image exit
        beside_exit = record {
          completed = λ q proper says apart. beside_now.completed q proper says apart ∙ sym (beside_image.completed q proper says apart);
          properties = λ some. beside_now.properties (λ no. some (same_completed ∙ no)) ∙ sym (beside_image.properties (λ no. some (same_completed ∙ no)));
        }

        earlier_image : AreEarlier image instant
        earlier_image c within = all_before c (subst (λ (l : List CompletedInstant). Contains l c) same_completed within)

      all_at : (map.get image (completed_path instant) ≡ None) ⊎ ((path : List ℕ) → map.get image path ≡ map.get exit path) → CarriesAll hudi_meaning image exit
      all_at one c change standing h = ⊎_elim
          (λ none. carried_still instant v.real image (earlier_image none) exit (beside_exit none) c change standing h)
          (λ same. carries_own image exit c change standing (λ path within. sym (same path)) h)
          one

      has_at : (map.get image (completed_path instant) ≡ None) ⊎ ((path : List ℕ) → map.get image path ≡ map.get exit path) → HasReached hudi_meaning exit image
      has_at one path reached = ⊎_elim (λ none. reached_still instant v.real image (earlier_image none) exit (beside_exit none) path reached) (λ same. sym (same path)) one

    pub kept_taken : IsEachMoment store old new (LacksOrIs instant (store.disk old) exit) → IsEachMoment store old new (λ image. CarriesAll hudi_meaning image exit)
    kept_taken theirs =
        let P : Files → Type 0 = KeepsImage (IsKept properties instant entry) (store.disk old) in
        let Q : Files → Type 0 = LacksOrIs instant (store.disk old) exit in
        let clean : IsClean (store.disk old) (completed_path instant) = stays_clean (completed_path instant) (in_timeline _) (completed_stays instant v.real.1.digits) in
        weaker store old new (λ image. P image × Q image) (λ image. CarriesAll hudi_meaning image exit) (λ image is. all_at image is.0 (is.1 clean)) (both store old new P Q (λ _. alone.moments) (λ _. theirs)) told

    -- No file goes or changes that a crash would have shown as reached.
    pub theirs_taken : IsEachMoment store old new (LacksOrIs instant (store.disk old) exit) → IsEachMoment store old new (HasReached hudi_meaning exit)
    theirs_taken theirs =
        let P : Files → Type 0 = KeepsImage (IsKept properties instant entry) (store.disk old) in
        let Q : Files → Type 0 = LacksOrIs instant (store.disk old) exit in
        let clean : IsClean (store.disk old) (completed_path instant) = stays_clean (completed_path instant) (in_timeline _) (completed_stays instant v.real.1.digits) in
        weaker store old new (λ image. P image × Q image) (HasReached hudi_meaning exit) (λ image is. has_at image is.0 (is.1 clean)) (both store old new P Q (λ _. alone.moments) (λ _. theirs)) told

  -- another writer was first
  pub taken_now : IsTakenBy properties instant exit → IsTaken exit (end_of name kept) now
  taken_now = ⊎_elim
      (λ there. inl (instant, v.next_time, there))
      (λ (given : IsSome properties × IsThere exit properties_path). inr (first_by properties v.given given.0, given.1))
    where
      first_by : (o : Option (List ℕ)) → AreGiven (end_of name kept) o → IsSome o → kept.newest ≡ None
      first_by None given is = absurd (cc)
      first_by (Some bytes) given is = given.0

  module _ (stands : StandsFor kept entry) where
    pub orderly_before : IsOrderly entry
    orderly_before = orderly entry (view_of kept) stands.reads

    ready_by : (o : Option (List ℕ)) → AreGiven (end_of name kept) o → Reads entry (view_of kept) → IsReady o entry
    ready_by None given (inl none) = absurd (not_first kept.newest refl counted.newest)
      where
        not_first : (o : Option (List ℕ)) → kept.newest ≡ o → IsNewest entry o → ⊥
        not_first None is at = given is
        not_first (Some time) is at = none_longer at.0 at.1 [] (sym none.0.none ∙ at.2)
    ready_by None given (inr ours) = ap is_some ours.says.holds
    ready_by (Some bytes) given reads = λ name proper says there.
        let none = subst (λ (n : Option (List ℕ)). IsNewest entry n) given.0 counted.newest in
        let own = (own_of entry (view_of kept) reads).1 name (record { proper = proper; there = there; state = state.Completed; says = says }) in
        ⊎_elim
        (λ (done : name ≡ completed_name own.0).
        let found = found_completed own.0 own.1 entry (subst (λ (n : List ℕ). IsThere entry (timeline_path n)) done there) in
        Contains-none found.0 (subst (λ (l : List CompletedInstant). Contains l found.0) none found.1))
        (λ pending. never_pending pending.0 own.0 name own.1.1.digits pending.1 says)
        own.2

    pub ready : IsReady properties entry
    ready = ready_by properties v.given stands.reads

    grown_now : IsCommitted properties instant text (store.disk old) (store.disk new) → IsGrown properties instant text entry exit
    grown_now committed = grown_alike properties instant v.real entry given_first text exit committed.stands.orderly committed.stands.alike

    text_there : (o : Option (List ℕ)) → AreGiven (end_of name kept) o → AreGivenNow o entry exit → kept.newest ≡ None → map.get exit properties_path ≡ Some (properties_text (new_pairs name kept.table.partition))
    text_there None given there first = absurd (given first)
    text_there (Some bytes) given there first = there ∙ ap (λ (b : List ℕ). Some b) given.1

    not_given : (o : Option (List ℕ)) → AreGiven (end_of name kept) o → (path : List ℕ) → (kept.newest ≡ None → path ≢ properties_path) → NotGiven o path
    not_given None given path other = tt
    not_given (Some bytes) given path other = other given.0

    some_given : (o : Option (List ℕ)) → AreGiven (end_of name kept) o → kept.newest ≡ None → IsSome o
    some_given None given first = absurd (given first)
    some_given (Some bytes) given first = refl

    -- what it writes
    module _ (committed : IsCommitted properties instant text (store.disk old) (store.disk new)) where
      all_recovered : (u : List ℕ) → IsSomeTime u → (IsThere exit (completed_path u) → ⊥) → (path : List ℕ) → IsOf u path → IsThere exit path → ⊥
      all_recovered u real not_completed path of found = not_completed (⊎_elim
          (λ (claim : path ≡ claim_path u). committed.recovered u real (subst (IsThere exit) claim found))
          (λ (pending : (stage : Stage) × (path ≡ pending_path stage u)).
          ⊎_elim (committed.recovered u real) (λ done. done) (committed.stands.orderly.claimed pending.0 u real.1.digits (subst (IsThere exit) pending.1 found)))
          of)

      pub writes : (IsSome properties → map.get exit staged_properties_path ≡ None) → ((path : List ℕ) → IsOther properties instant path → StaysOrGoes entry exit path) → Writes name kept entry origin now commit exit
      writes staged others =
          let grown = grown_now committed in
          record {
            time = instant;
            next_time = v.next_time;
            written = v.written;
            is = v.is;
            completed = grown.there ∙ ap (λ (b : List ℕ). Some b) v.text_is;
            pending = committed.pending;
            properties = text_there properties v.given grown.properties;
            recovered = all_recovered;
            claim = committed.claim;
            staged = λ first. staged (some_given properties v.given first);
            others = λ path completed pending first. others path (record { completed = completed; pending = pending; given = not_given properties v.given path first });
          }

    -- too many claims: it reads as before
    pub reads_unmoved : Stands entry (store.disk new) → Reads exit (view_of kept)
    reads_unmoved same = alike_reads entry exit (view_of kept) same.orderly same.alike stands.reads

    module _ (can : CanPublish (view_of kept) commit) (fits : Fits (Unfit (held_of kept)) kept.table.partition (commit ∷ [])) (goes : GoesOn origin.source (view_of kept)) (settled : IsSettledTarget (store.disk old)) where
      abbrev folders : HasFolders entry
      folders = folders_of (store.disk old) settled

      abbrev Either : Files → Type 0
      Either files = step.IsBeforeOrBehind hudi_meaning origin (view_of kept) entry commit (view_of next) files

      either : (files : Files) → IsBeforeOrAfter properties entry instant text files → Either files × HasFolders files
      either files is = ⊎_elim
          (λ before.
          let still = still_before properties instant v.real entry given_first all_before files before in (
            inl (is_before name origin now kept next commit instant properties text v entry counted.newest can fits goes folders stands.reads files still),
            folders_before name origin now kept next commit instant properties text v entry counted.newest can fits goes folders stands.reads files still,
          ))
          (λ after.
          let grown = grown_after properties instant v.real entry given_first text files after in (
            inr (is_behind name origin now kept next commit instant properties text v entry counted.newest can fits goes folders stands.reads files grown),
            folders_behind name origin now kept next commit instant properties text v entry counted.newest can fits goes folders stands.reads files grown,
          ))
          is

      either_left : (image : Files) → IsBeforeOrAfter properties entry instant text image → Either image × IsSettledTarget (after_crash image)
      either_left image is = let both = either image is in (both.0, clean_after image both.1)

      -- what is kept stands for the files
      pub stands_behind : IsCommitted properties instant text (store.disk old) (store.disk new) → StandsFor next exit
      stands_behind committed = stands_now name origin now kept next commit instant properties text v entry counted.newest can fits goes folders stands.reads exit (grown_now committed)

      -- and just what the commit writes has come
      pub as_left : HasCompleted properties instant text (store.disk old) (store.disk new) → IsAsLeft IsReached (λ left. Writes name kept entry origin now commit left × StandsFor next left) exit
      as_left came =
          let committed = came.committed orderly_before ready in
          (exit, (writes committed came.staged came.others, stands_behind committed), λ path reached. refl)

      pub publishes_instant : (U : Type 0) (done : Bool) → (done ≡ true → IsCommitted properties instant text (store.disk old) (store.disk new)) → (U → IsOneStep store properties instant text old new)
          → Publishes store hudi_meaning origin (view_of kept) (commit ∷ []) U done old new
      publishes_instant U done whole one_step =
          publishes_one store hudi_meaning origin (view_of kept) commit old new told
          (earlier_still name origin now kept next commit instant properties text v entry counted.newest exit beside_now)
          reached_alone U (view_of next) (advanced name origin now kept next commit instant properties text v can fits) done
          (λ is. is_behind name origin now kept next commit instant properties text v entry counted.newest can fits goes folders stands.reads exit (grown_now (whole is)))
          (λ u. let s = one_step u in let both = either exit s.disk in (both.0, settled_by (store.disk new) s.settled both.1))
          (λ u. weaker store old new (IsBeforeOrAfter properties entry instant text) (λ files. Either files × IsSettledTarget (after_crash files)) either_left (λ t. (one_step u).moments) told)
