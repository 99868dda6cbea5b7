-- What a commit leaves of the store, where it is refused before it writes, and where its version is published.
use Rattle.std.proofs.Common.{◌≡◌, ◌≢◌, ◌⊎◌, inl, inr, ⊎_elim, ℕ, ◌+◌, ◌<◌, ◌≤◌, Bool, true, false, List, [], ◌∷◌, ◌++◌, refl, sym, ◌∙◌, arith}
use Rattle.std.specs.Prelude.{Err, IfErr, IsErrOf, Ok, OnOk, Result, is_ok}
use Rattle.std.specs.FinMap as map
use Rattle.lake_store.specs.Disk.{Files, MayLeave}
use Rattle.lake_store.specs.Runs.{IsEachMoment, KeepsImage}
use Rattle.lake_store.specs.declared.store.Store.{Ghosts}
use Rattle.lake_store.proofs.MomentLaws.{started, weaker}
use Rattle.lake_store.proofs.RunLaws.{NowOnly, alone_of_fewer}
use Rattle.table_history.specs.declared.limit.LimitKind.{LimitKind}
use Rattle.table_history.specs.declared.table.Commit.{Commit}
use Rattle.iceberg_table.specs.Folder.{metadata_folder}
use Rattle.iceberg_version.specs.KeptEnd.{end_of, view_of}
use Rattle.iceberg_version.specs.declared.kept.IcebergKept.{IcebergKept}
use Rattle.iceberg_commit.specs.NextVersion.{IsNextVersion, VersionFiles}
use Rattle.iceberg_commit.specs.NewVersion.{IsVersionRefusal}
use Rattle.target_core.specs.Conditions.{CanPublish, Fits}
use Rattle.target_core.specs.Folders.{MayLeaveIn, after_crash}
use Rattle.target_core.specs.Gained.{CarriesAll}
use Rattle.target_core.specs.Outcome.{HasCome, Uncontested}
use Rattle.target_core.specs.Publishing.{Publishes}
use Rattle.target_core.specs.Refusals.{IsCommitRefusal}
use Rattle.target_core.specs.Step.{IsBefore}
use Rattle.target_core.specs.Views.{Origin}
use Rattle.target_core.specs.Written.{HasReached, IsAsLeft}
use Rattle.target_core.specs.declared.target.TargetError.{TargetError}
use Rattle.target_core.specs.declared.target.TargetError.TheVariants.{Contested, Limit, Memory, StoreFault, Unsupported}
use Rattle.target_core.proofs.OneStep.{publishes_none, publishes_one}
use Rattle.target_core.proofs.StoreAnswers.{alone_none}
use Rattle.target_iceberg.specs.CountLemmas.{commits_read}
use Rattle.target_iceberg.specs.Fitting.{Unfit, state_of}
use Rattle.target_iceberg.specs.IcebergMeaning.{iceberg_meaning}
use Rattle.target_iceberg.specs.Kept.{IsCounted, StandsFor}
use Rattle.target_iceberg.specs.KeptLemmas.{kept_counted}
use Rattle.target_iceberg.specs.Publishing.{IsNotAside, IsOther, IsPublished, PublishesVersion}
use Rattle.target_iceberg.specs.Reached.{IsReached, IsSettled}
use Rattle.target_iceberg.specs.Reading.{commits_in}
use Rattle.target_iceberg.specs.SameLemmas.{reached_back}
use Rattle.target_iceberg.specs.SettledLemmas.{crash_carries, crash_reads, crash_settled}
use Rattle.target_iceberg.specs.Writes.{Writes}
use Rattle.target_iceberg.proofs.CommitFiles as files
use Rattle.target_iceberg.proofs.CommitFiles.{carries_back, image_before}
use Rattle.target_iceberg.proofs.WrittenFiles.{carried_too}

-- ---- causes

pub done_or_later : {T : Type 0} (r : Result T TargetError) (before after : ℕ) → HasCome r before after → (is_ok r ≡ true) ⊎ (Uncontested r × (before < after))
done_or_later (Ok v) before after come = inl refl
done_or_later (Err e) before after come = inr come

one_error : {T : Type 0} (r : Result T TargetError) (e f : TargetError) → r ≡ Err e → IsErrOf r f → e ≡ f
one_error r e f is err = cc

-- A version that isn't made has met no other writer and no fault of the store.
never_contest : (passes : LimitKind → ℕ → Type 0) (e : TargetError) → IsVersionRefusal passes e → e ≡ Contested → ⊥
never_contest passes Memory h is = cc
never_contest passes (Limit which number) h is = cc
never_contest passes StoreFault h is = h
never_contest passes Contested h is = h
never_contest passes (Unsupported feature path) h is = h

never_fail : (passes : LimitKind → ℕ → Type 0) (e : TargetError) → IsVersionRefusal passes e → e ≡ StoreFault → ⊥
never_fail passes Memory h is = cc
never_fail passes (Limit which number) h is = cc
never_fail passes StoreFault h is = h
never_fail passes Contested h is = h
never_fail passes (Unsupported feature path) h is = h

pub never_contested : {T : Type 0} (passes : LimitKind → ℕ → Type 0) (r : Result T TargetError) (e : TargetError) → r ≡ Err e → IsVersionRefusal passes e → IsErrOf r Contested → ⊥
never_contested passes r e is h contested = never_contest passes e h (one_error r e Contested is contested)

pub never_fault : {T : Type 0} (passes : LimitKind → ℕ → Type 0) (r : Result T TargetError) (e : TargetError) → r ≡ Err e → IsVersionRefusal passes e → IsErrOf r StoreFault → ⊥
never_fault passes r e is h fault = never_fail passes e h (one_error r e StoreFault is fault)

-- a refusal for no number
never_number : (e : TargetError) (which : LimitKind) (number : ℕ) → IsCommitRefusal (λ which number. ⊥) e → e ≡ Limit which number → ⊥
never_number Memory which number h is = cc
never_number (Limit other more) which number h is = h
never_number StoreFault which number h is = cc
never_number Contested which number h is = cc
never_number (Unsupported feature path) which number h is = h

pub never_limited : {T : Type 0} (r : Result T TargetError) → IfErr r (IsCommitRefusal (λ which number. ⊥)) → (which : LimitKind) (number : ℕ) → IsErrOf r (Limit which number) → ⊥
never_limited (Ok v) h which number limited = absurd (cc)
never_limited (Err e) h which number limited = never_number e which number h (one_error (Err e) e (Limit which number) refl limited)

pub on_ok : {T : Type 0} (r : Result T TargetError) (P : Type 0) → (is_ok r ≡ true → P) → OnOk r P
on_ok (Ok v) P h = h refl
on_ok (Err e) P h = tt

-- what is kept of files stands for all their versions
pub never_later : (id location : List ℕ) (kept : IcebergKept) (files : Files) → StandsFor id location kept files → kept.version < commits_in files → ⊥
never_later id location kept files stands later = let same : commits_in files ≡ kept.version = commits_read files (view_of kept) stands.reads in omega (arith, later, same)

-- ---- nothing is done

module _ {S : Type 0} (store : Ghosts S) (only_now : NowOnly store) (s : S) (told : store.tells) where
  module _ (id location : List ℕ) (origin : Origin) (kept : IcebergKept) (commit : Commit) (stands : StandsFor id location kept (store.disk s).files) (settled : IsSettled (store.disk s)) where
    abbrev Left : Files → Type 0
    Left files = IsBefore (iceberg_meaning id) (view_of kept) (store.disk s).files files × IsSettled (after_crash files)

    left_in : (image : Files) → MayLeave (store.disk s) image → MayLeaveIn metadata_folder (store.disk s) image
    left_in image may path within clean = may path clean

    left_by : (image : Files) → MayLeave (store.disk s) image → Left image
    left_by image may = (
      record {
        reads = crash_reads (store.disk s) image settled (left_in image may) (view_of kept) stands.reads;
        earlier = λ number change standing le h. crash_carries (store.disk s) image settled (left_in image may) id number change standing h;
      },
      crash_settled (store.disk s) image settled (left_in image may),
    )

    pub publishes_nothing : (U : Type 0) → Publishes store (iceberg_meaning id) origin (view_of kept) (commit ∷ []) U false s s
    publishes_nothing U =
        publishes_none store (iceberg_meaning id) origin (view_of kept) commit s s told (λ number change standing le h. h) (alone_none store only_now s told (IsReached (store.disk s).files)) U
        (λ _. (record { reads = stands.reads; earlier = λ number change standing le h. h }, settled))
        (λ _. started store only_now s Left (λ t image may. left_by image may) told)

-- ---- the version is published

module _ {S : Type 0} (store : Ghosts S) (old new : S) (told : store.tells) (version : VersionFiles) (U C : Type 0) (done : Bool) (p : PublishesVersion store version U C done old new)
    (kept next : IcebergKept) (origin : Origin) (now : ℕ) (commit : Commit) (v : IsNextVersion kept origin now commit version next) where
  number : version.version ≡ kept.version + 1
  number = files.number kept next origin now commit version v

  pub writes_now : (id location : List ℕ) → StandsFor id location kept (store.disk old).files → done ≡ true → Writes (end_of kept) (store.disk old).files origin now commit (store.disk new).files
  writes_now id location stands is = files.writes_now kept next origin now commit version v id location (store.disk old).files (store.disk new).files stands (p.all is).files

  pub counted_now : IsCounted kept.version (store.disk old).files → done ≡ true → IsCounted next.version (store.disk new).files
  counted_now counted is =
      files.counted_now (store.disk old).files (store.disk new).files version (files.new_within kept next origin now commit version v) p.others.disk.files
      kept.version next.version version.metadata number v.version (p.all is).files.metadata counted

  module _ (id location : List ℕ) (plain : (front : List ℕ) → location ≢ front ++ 47 ∷ []) (can : CanPublish (view_of kept) commit) (fits : Fits (Unfit (state_of kept)) kept.table.partition (commit ∷ []))
      (stands : StandsFor id location kept (store.disk old).files) (settled : IsSettled (store.disk old)) where
    carried_on : CarriesAll (iceberg_meaning id) (store.disk old).files (store.disk new).files
    carried_on = files.carried_on kept next origin now commit version v id location plain can fits (store.disk old) stands settled (store.disk new).files p.others.disk.files

    abbrev Shown : Files → Type 0
    Shown image = KeepsImage (IsNotAside version) (store.disk old) image ⊎ IsPublished version (store.disk old).files image

    abbrev Either : Files → Type 0
    Either image = files.IsEither kept next origin now commit version v id location plain can fits (store.disk old) stands settled image

    pub publishes_version : Publishes store (iceberg_meaning id) origin (view_of kept) (commit ∷ []) U done old new
    publishes_version =
        publishes_one store (iceberg_meaning id) origin (view_of kept) commit old new told
        (λ c change standing within h. carried_on c change standing h)
        (alone_of_fewer store (IsOther version) (IsReached (store.disk old).files) old new (files.other_reached kept next origin now commit version v id location plain can fits (store.disk old) stands settled) p.others)
        U (view_of next) v.advanced done
        (λ is. files.is_behind kept next origin now commit version v id location plain can fits (store.disk old) stands settled (store.disk new).files (p.all is).files)
        (λ u. files.disk_either kept next origin now commit version v id location plain can fits (store.disk old) stands settled (store.disk new) (p.at_return u))
        (λ u. weaker store old new Shown (λ image. Either image × IsSettled (after_crash image)) (files.image_either kept next origin now commit version v id location plain can fits (store.disk old) stands settled) (λ _. p.moments u) told)

    -- Once the version is published, what is kept stands for it, and just what it writes has come.
    module _ (come : (done ≡ true) ⊎ (U × (kept.version < commits_in (store.disk new).files))) where
      published_now : IsPublished version (store.disk old).files (store.disk new).files
      published_now =
          ⊎_elim
          (λ is. (p.all is).files)
          (λ later.
          ⊎_elim
          (λ keeps.
          let same : commits_in (store.disk new).files ≡ kept.version = files.same_count kept next origin now commit version v id location plain can fits (store.disk old) stands settled (store.disk new) keeps in
          let more = later.1 in
          absurd (omega (arith, more, same)))
          (λ durable. durable.files)
          (p.at_return later.0))
          come

      pub stands_come : StandsFor id location next (store.disk new).files
      stands_come = files.stands_behind kept next origin now commit version v id location plain can fits (store.disk old) stands settled (store.disk new).files published_now

      pub as_left : IsAsLeft IsReached (λ left. Writes (end_of kept) (store.disk old).files origin now commit left × StandsFor id location next left) (store.disk new).files
      as_left = (
        (store.disk new).files,
        (files.writes_now kept next origin now commit version v id location (store.disk old).files (store.disk new).files stands published_now, stands_come),
        λ path reached. refl,
      )

    -- Behind another writer's version nothing is published.
    pub count_contested : C → commits_in (store.disk new).files ≤ kept.version + 1
    count_contested contested =
        let theirs = p.forestalled contested in
        files.count_now (store.disk old).files (store.disk new).files version (files.new_within kept next origin now commit version v) p.others.disk.files
        kept.version theirs.theirs number theirs.there (kept_counted id location kept (store.disk old).files stands)

    -- And all that a crash would have shown stays.
    pub kept_contested : C → IsEachMoment store old new (λ image. CarriesAll (iceberg_meaning id) image (store.disk new).files)
    kept_contested contested =
        let theirs = p.forestalled contested in
        weaker store old new (λ image. KeepsImage (IsNotAside version) (store.disk old) image ⊎ ((path : List ℕ) → map.get image path ≡ map.get (store.disk new).files path))
        (λ image. CarriesAll (iceberg_meaning id) image (store.disk new).files) all_at (λ _. theirs.moments) told
      where
        all_at : (image : Files) → KeepsImage (IsNotAside version) (store.disk old) image ⊎ ((path : List ℕ) → map.get image path ≡ map.get (store.disk new).files path) → CarriesAll (iceberg_meaning id) image (store.disk new).files
        all_at image (inl keeps) c change standing h =
            let alike = image_before (store.disk old) kept.version version (files.short_names kept next origin now commit version v) settled (files.free kept next origin now commit version v id location plain can fits (store.disk old) stands settled) (files.new_later kept next origin now commit version v) image keeps in
            carried_on c change standing (carries_back (store.disk old).files image alike id c change standing h)
        all_at image (inr same) c change standing h = carried_too image (store.disk new).files (λ path reached. sym (same path)) id c change standing h

    -- No file goes or changes that a crash would have shown as reached.
    pub theirs_contested : C → IsEachMoment store old new (HasReached (iceberg_meaning id) (store.disk new).files)
    theirs_contested contested =
        let theirs = p.forestalled contested in
        weaker store old new (λ image. KeepsImage (IsNotAside version) (store.disk old) image ⊎ ((path : List ℕ) → map.get image path ≡ map.get (store.disk new).files path))
        (HasReached (iceberg_meaning id) (store.disk new).files) has_at (λ _. theirs.moments) told
      where
        has_at : (image : Files) → KeepsImage (IsNotAside version) (store.disk old) image ⊎ ((path : List ℕ) → map.get image path ≡ map.get (store.disk new).files path) → HasReached (iceberg_meaning id) (store.disk new).files image
        has_at image (inl keeps) path reached =
            let alike = image_before (store.disk old) kept.version version (files.short_names kept next origin now commit version v) settled (files.free kept next origin now commit version v id location plain can fits (store.disk old) stands settled) (files.new_later kept next origin now commit version v) image keeps in
            let was = reached_back (store.disk old).files image alike.reached path reached in
            p.others.disk.files path (files.other_reached kept next origin now commit version v id location plain can fits (store.disk old) stands settled path was) ∙ sym (alike.reached.files path was)
        has_at image (inr same) path reached = sym (same path)
