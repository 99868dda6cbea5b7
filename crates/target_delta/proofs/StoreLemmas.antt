-- What a commit leaves of the store, where it is refused before it writes, and where its version is staged and published.
use Rattle.std.proofs.Common.{◌≡◌, ◌≢◌, ◌⊎◌, inl, inr, ⊎_elim, ℕ, suc, ◌+◌, ◌<◌, ◌≤◌, Bool, true, false, List, [], ◌∷◌, ◌++◌, Option, Some, None, sym, ap, subst, ◌∙◌, arith}
use Rattle.std.specs.Prelude.{Err, IsErrOf, IsSome, Ok, Result}
use Rattle.std.specs.FinMap as map
use Rattle.std.proofs.lemmas.Bool.{false≢true}
use Rattle.lake_basics.specs.declared.limits.TheConstants.{MAX_DELTA_VERSION, MAX_FILE_BYTES}
use Rattle.lake_basics.proofs.Options.{none_there}
use Rattle.lake_store.specs.Disk.{Disk, Files, IsClean, MayLeave}
use Rattle.lake_store.specs.Publication.{IsAbsentOrWhole, IsPublished, IsStaged, IsStagedImage}
use Rattle.lake_store.specs.Runs.{IsEachMoment, LeavesAlone, LeavesOnly}
use Rattle.lake_store.specs.declared.store.Store.{Ghosts}
use Rattle.lake_store.specs.declared.store.StoreError.{StoreError}
use Rattle.lake_store.specs.declared.store.StoreError.TheVariants as errors
use Rattle.lake_store.proofs.DiskLaws.{get-remove_here, get-remove_other, path_cases}
use Rattle.table_history.specs.declared.kind.Kind.TheVariants.{Delta}
use Rattle.table_history.specs.declared.limit.LimitKind.{LimitKind}
use Rattle.table_history.specs.declared.limit.LimitKind.TheVariants.{File}
use Rattle.lake_store.proofs.MomentLaws.{both, started, weaker}
use Rattle.lake_store.proofs.RunLaws.{NowOnly}
use Rattle.table_history.specs.declared.table.Commit.{Commit}
use Rattle.delta_text.specs.Writing.{commit_text}
use Rattle.delta_log.specs.declared.commit.DeltaCommit.{DeltaCommit}
use Rattle.delta_table.specs.Versions.{IsVersionPath, log_folder}
use Rattle.target_core.specs.Conditions.{CanPublish, Fits}
use Rattle.target_core.specs.Folders.{MayLeaveIn, after_crash}
use Rattle.target_core.specs.Gained.{CarriesAll}
use Rattle.target_core.specs.Outcome.{answer_of}
use Rattle.target_core.specs.OwnFiles.{IsDeltaFile, MayNotTouch, TouchesOwn}
use Rattle.target_core.specs.Publishing.{Publishes}
use Rattle.target_core.specs.Step.{IsBefore, IsBeforeOrBehind}
use Rattle.target_core.specs.Views.{Origin}
use Rattle.target_core.specs.Written.{HasReached, IsAsLeft}
use Rattle.target_core.specs.declared.target.TargetError.{TargetError}
use Rattle.target_core.specs.declared.target.TargetError.TheVariants.{Limit}
use Rattle.target_core.proofs.OneStep.{publishes_none, publishes_one}
use Rattle.target_core.proofs.StoreAnswers.{alone_none, dirty_or_clean, ok_err, only_long, three}
use Rattle.target_delta.specs.DeltaMeaning.{delta_meaning}
use Rattle.target_delta.specs.Fitting.{Unfit}
use Rattle.target_delta.specs.Kept.{StandsFor, end_of, view_of}
use Rattle.target_delta.specs.Names.{HasVersions, IsLeftover, IsReached, IsSettled, IsStagedPath, leftover_front, path_of}
use Rattle.target_delta.specs.NewVersion.{IsNewVersion, Writes}
use Rattle.target_delta.specs.Reading.{commits_in}
use Rattle.target_delta.specs.Writing.{IsWritten, LogEnd}
use Rattle.target_delta.specs.declared.kept.DeltaKept.{DeltaKept}
use Rattle.target_delta.proofs.CommitLemmas.{advanced, earlier, free_path, is_before, is_behind, stands_now}
use Rattle.target_delta.specs.CountLemmas.{count_is}
use Rattle.target_delta.specs.KeptLemmas.{versions_of_reads}
use Rattle.delta_table.specs.SameVersions.{versions_sym}
use Rattle.target_delta.specs.NameLemmas.{never_leftover, one_staged, staged_leftover}
use Rattle.target_delta.proofs.PublishLemmas.{IsBeside, image_beside, same_versions, staged_beside, versions_now}
use Rattle.target_delta.specs.ReadingLemmas.{carried_too, carries_within, crash_carries, crash_reads, crash_settled, version_clean}

-- ---- answers

-- publishing tells of no number
pub unlimited_by : {T : Type 0} (r : Result T TargetError) (e : TargetError) (s : StoreError) (which : LimitKind) (number : ℕ) → r ≡ Err e → e ≡ answer_of File MAX_FILE_BYTES s → ((n : ℕ) → s ≡ errors.TooLong n → ⊥) → IsErrOf r (Limit which number) → ⊥
unlimited_by (Ok v) e s which number is gives short limited = ok_err v e is
unlimited_by (Err x) e s which number is gives short limited =
    let same : x ≡ e = cc in
    let is_limit : x ≡ Limit which number = cc in
    let long = only_long File MAX_FILE_BYTES s which number (sym gives ∙ sym same ∙ is_limit) in
    short long.0 long.1

pub ok_taken : {T : Type 0} (x : T) (s : StoreError) → IsErrOf {T = T} (Ok x) s → ⊥
ok_taken x s is = cc

-- ---- nothing is done

module _ {S : Type 0} (store : Ghosts S) (only_now : NowOnly store) (s : S) (told : store.tells) where
  module _ (id : List ℕ) (origin : Origin) (kept : DeltaKept) (commit : Commit) (stands : StandsFor id kept (store.disk s).files) (settled : IsSettled (store.disk s)) where
    abbrev Left : Files → Type 0
    Left files = IsBefore (delta_meaning id) (view_of kept) (store.disk s).files files × IsSettled (after_crash files)

    left_in : (image : Files) → MayLeave (store.disk s) image → MayLeaveIn log_folder (store.disk s) image
    left_in image may path within clean = may path clean

    left_by : (image : Files) → MayLeave (store.disk s) image → Left image
    left_by image may = (
      record {
        reads = crash_reads (store.disk s) image settled (left_in image may) (view_of kept) stands.reads;
        earlier = λ c change standing le h. crash_carries (store.disk s) image settled (left_in image may) id c change standing h;
      },
      crash_settled image,
    )

    pub publishes_nothing : (U : Type 0) → Publishes store (delta_meaning id) origin (view_of kept) (commit ∷ []) U false s s
    publishes_nothing U =
        publishes_none store (delta_meaning id) origin (view_of kept) commit s s told (λ c change standing le h. h) (alone_none store only_now s told (IsReached (store.disk s).files)) U
        (λ _. (record { reads = stands.reads; earlier = λ c change standing le h. h }, settled))
        (λ _. started store only_now s Left (λ t image may. left_by image may) told)

-- ---- what is written

writes_files : (before after : Files) (staged name bytes : List ℕ) (version : ℕ) (end : LogEnd) (origin : Origin) (now : ℕ) (commit : Commit) (written : DeltaCommit)
    → IsStagedPath staged version → IsVersionPath name version → version ≡ end.version → IsWritten end origin commit written → bytes ≡ commit_text now written
    → map.get after name ≡ Some bytes → map.get after staged ≡ None → ((path : List ℕ) → path ≢ staged → path ≢ name → map.get after path ≡ map.get before path) → Writes end before origin now commit after
writes_files before after staged name bytes version end origin now commit written is_staged named same is text there gone others =
    let staged_end : IsStagedPath staged end.version = subst (λ (n : ℕ). IsStagedPath staged n) same is_staged in
    let named_end : IsVersionPath name end.version = subst (λ (n : ℕ). IsVersionPath name n) same named in
    record {
      text = record { written = written; is = is; holds = record { path = name; is = named_end; there = there ∙ ap (λ (b : List ℕ). Some b) text } };
      gone = λ path at. ap (λ (p : List ℕ). map.get after p) (one_staged path staged end.version at staged_end) ∙ gone;
      others = λ path off_name off_staged. others path
          (λ (is_staged_too : path ≡ staged). off_staged (subst (λ (p : List ℕ). IsStagedPath p end.version) (sym is_staged_too) staged_end))
          (λ (is_name : path ≡ name). off_name (subst (λ (p : List ℕ). IsVersionPath p end.version) (sym is_name) named_end));
    }

pub writes_now : (old new : Disk) (staged name bytes : List ℕ) (version : ℕ) (end : LogEnd) (origin : Origin) (now : ℕ) (commit : Commit) (written : DeltaCommit)
    → IsStagedPath staged version → IsVersionPath name version → version ≡ end.version → IsPublished staged name bytes old new → IsWritten end origin commit written → bytes ≡ commit_text now written
    → Writes end old.files origin now commit new.files
writes_now old new staged name bytes version end origin now commit written is_staged named same published is text =
    writes_files old.files new.files staged name bytes version end origin now commit written is_staged named same is text published.file published.gone published.others

-- ---- staged and published

version_touched : (path : List ℕ) (version : ℕ) → IsVersionPath path version → IsDeltaFile path
version_touched path version named =
    let padded = named.named.padded in
    IsDeltaFile.version padded.digits (record { len = padded.padded.len; numeral = padded.padded.numeral }) (named.split ∙ ap path_of padded.split)

staged_touched : (path : List ℕ) (version : ℕ) → IsStagedPath path version → IsDeltaFile path
staged_touched path version named =
    let padded = named.named.padded in
    IsDeltaFile.staged padded.digits (record { len = padded.padded.len; numeral = padded.padded.numeral }) (named.is ∙ ap (λ (name : List ℕ). path_of (leftover_front ++ name)) padded.split)

module _ {S : Type 0} (store : Ghosts S) (old new : S) (told : store.tells) (staged name bytes : List ℕ) (version : ℕ) (is_staged : IsStagedPath staged version) (named : IsVersionPath name version) (IsTaken : Type 0)
    (left : IsStaged staged name bytes IsTaken (store.disk old) (store.disk new)) (moments : LeavesOnly store old new (IsStagedImage staged name bytes IsTaken (store.disk old))) where
  leftover : IsLeftover staged
  leftover = staged_leftover staged version is_staged

  alone_apart : (Kept : List ℕ → Type 0) → ((path : List ℕ) → Kept path → path ≢ staged) → ((path : List ℕ) → Kept path → path ≢ name) → LeavesAlone store Kept old new
  alone_apart Kept off_staged off_name = record {
    disk = record {
      files = λ path kept. left.others path (off_staged path kept) (off_name path kept);
      clean = λ path kept clean. left.clean path (off_staged path kept) clean;
    };
    moments = weaker store old new (IsStagedImage staged name bytes IsTaken (store.disk old)) (λ image. (path : List ℕ) → Kept path → IsClean (store.disk old) path → map.get image path ≡ map.get (store.disk old).files path)
        (λ image is path kept clean. is.others path (off_staged path kept) (off_name path kept) clean) moments told;
  }

  pub touches_staged : TouchesOwn store Delta old new
  touches_staged = alone_apart (MayNotTouch Delta)
      (λ path untouched is. untouched (subst IsDeltaFile (sym is) (staged_touched staged version is_staged)))
      (λ path untouched is. untouched (subst IsDeltaFile (sym is) (version_touched name version named)))

  module _ (versions : HasVersions (store.disk old).files version) where
    free : map.get (store.disk old).files name ≡ None
    free = free_path (store.disk old).files name version named versions

    pub beside_now : IsBeside name (store.disk old).files (store.disk new).files
    beside_now = staged_beside staged name bytes version named leftover IsTaken (store.disk old) (store.disk new) left

    pub reached_alone : LeavesAlone store (IsReached (store.disk old).files) old new
    reached_alone = alone_apart (IsReached (store.disk old).files)
        (λ path reached is. never_leftover path reached.version reached.named (subst IsLeftover (sym is) leftover))
        (λ path reached is. none_there (map.get (store.disk old).files path) (ap (λ (p : List ℕ). map.get (store.disk old).files p) is ∙ free) reached.there)

    pub settled_now : IsSettled (store.disk old) → IsSettled (store.disk new)
    settled_now settled = record {
      leftovers = λ path within dirty. ⊎_elim
          (λ (same : path ≡ staged). subst IsLeftover (sym same) leftover)
          (λ (apart : path ≢ staged). ⊎_elim
          (λ was. settled.leftovers path within was)
          (λ clean. absurd (false≢true (sym (left.clean path apart clean) ∙ dirty)))
          (dirty_or_clean (store.disk old) path))
          (path_cases path staged);
    }

    -- the version is there
    pub counted_now : version ≤ MAX_DELTA_VERSION → (there_bytes : List ℕ) → map.get (store.disk new).files name ≡ Some there_bytes → HasVersions (store.disk new).files (suc version)
    counted_now within there_bytes there = versions_now name version named (store.disk old).files (store.disk new).files free beside_now versions within there_bytes there

    -- another writer's version is there
    pub count_taken : version ≤ MAX_DELTA_VERSION → (theirs : List ℕ) → map.get (store.disk new).files name ≡ Some theirs → commits_in (store.disk new).files ≤ version + 1
    count_taken within theirs there =
        let count = count_is (store.disk new).files (suc version) (versions_now name version named (store.disk old).files (store.disk new).files free beside_now versions within theirs there) in
        omega (arith, count)

  module _ (id : List ℕ) (origin : Origin) (now : ℕ) (kept next : DeltaKept) (commit : Commit) (same : version ≡ kept.commits) (v : IsNewVersion origin now kept commit bytes next)
      (can : CanPublish (view_of kept) commit) (fits : Fits (Unfit (end_of kept)) kept.table.partition (commit ∷ [])) (stands : StandsFor id kept (store.disk old).files) (settled : IsSettled (store.disk old)) where
    named_kept : IsVersionPath name kept.commits
    named_kept = subst (λ (n : ℕ). IsVersionPath name n) same named

    versions_kept : HasVersions (store.disk old).files version
    versions_kept = subst (λ (n : ℕ). HasVersions (store.disk old).files n) (sym same) (versions_of_reads (store.disk old).files (view_of kept) stands.reads)

    abbrev Either : Files → Type 0
    Either files = IsBeforeOrBehind (delta_meaning id) origin (view_of kept) (store.disk old).files commit (view_of next) files

    either : (files : Files) → IsBeside name (store.disk old).files files → (IsTaken → ⊥) → IsAbsentOrWhole name bytes IsTaken files → Either files
    either files beside untaken = three
        (λ none. inl (is_before origin now kept next commit bytes v can fits id (store.disk old).files stands name named_kept files beside none))
        (λ there. inr (is_behind origin now kept next commit bytes v can fits id (store.disk old).files stands name named_kept files beside there))
        (λ taken. absurd (untaken taken))

    either_left : (image : Files) → (IsTaken → ⊥) → IsStagedImage staged name bytes IsTaken (store.disk old) image → Either image × IsSettled (after_crash image)
    either_left image untaken is = (
      either image (image_beside staged name bytes version named leftover IsTaken (store.disk old) image settled is) untaken (is.file (version_clean (store.disk old) name version settled named)),
      crash_settled image,
    )

    pub publishes_staged : (U : Type 0) → (U → IsTaken → ⊥) → (done : Bool) → (done ≡ true → map.get (store.disk new).files name ≡ Some bytes)
        → Publishes store (delta_meaning id) origin (view_of kept) (commit ∷ []) U done old new
    publishes_staged U untaken done whole =
        publishes_one store (delta_meaning id) origin (view_of kept) commit old new told
        (earlier origin now kept next commit bytes v can fits id (store.disk old).files stands name named_kept (store.disk new).files (beside_now versions_kept))
        (reached_alone versions_kept)
        U (view_of next) (advanced origin now kept next commit bytes v) done
        (λ is. is_behind origin now kept next commit bytes v can fits id (store.disk old).files stands name named_kept (store.disk new).files (beside_now versions_kept) (whole is))
        (λ u. (either (store.disk new).files (beside_now versions_kept) (untaken u) left.file, settled_now versions_kept settled))
        (λ u. weaker store old new (IsStagedImage staged name bytes IsTaken (store.disk old)) (λ files. Either files × IsSettled (after_crash files)) (λ image is. either_left image (untaken u) is) moments told)

    -- The version is there, where there are more than before.
    come_there : (IsTaken → ⊥) → kept.commits < commits_in (store.disk new).files → map.get (store.disk new).files name ≡ Some bytes
    come_there untaken later = three
        (λ none.
        let before = is_before origin now kept next commit bytes v can fits id (store.disk old).files stands name named_kept (store.disk new).files (beside_now versions_kept) none in
        let count = count_is (store.disk new).files kept.commits (versions_of_reads (store.disk new).files (view_of kept) before.reads) in
        absurd (omega (arith, later, count)))
        (λ there. there)
        (λ taken. absurd (untaken taken))
        left.file

    pub stands_come : (IsTaken → ⊥) → kept.commits < commits_in (store.disk new).files → StandsFor id next (store.disk new).files
    stands_come untaken later =
        stands_now origin now kept next commit bytes v can fits id (store.disk old).files stands name named_kept (store.disk new).files (beside_now versions_kept) (come_there untaken later)

    -- What commits reach is then just what the commit leaves, which has no staged file.
    bare : Files
    bare = map.remove (store.disk new).files staged

    bare_version : (path : List ℕ) (n : ℕ) → IsVersionPath path n → map.get bare path ≡ map.get (store.disk new).files path
    unfolding bare
    bare_version path n is = get-remove_other (store.disk new).files staged path (λ same. never_leftover path n is (subst IsLeftover (sym same) leftover))

    bare_beside : IsBeside name (store.disk old).files bare
    unfolding bare
    bare_beside = record {
      versions = λ path n apart is. bare_version path n is ∙ (beside_now versions_kept).versions path n apart is;
      names = λ other apart there. ⊎_elim
          (λ (same : path_of other ≡ staged). absurd (none_there (map.get bare (path_of other)) (ap (λ (p : List ℕ). map.get bare p) same ∙ get-remove_here (store.disk new).files staged) there))
          (λ (ns : path_of other ≢ staged). (beside_now versions_kept).names other apart (subst (λ (o : Option (List ℕ)). IsSome o) (get-remove_other (store.disk new).files staged (path_of other) ns) there))
          (path_cases (path_of other) staged);
    }

    module _ (there : map.get (store.disk new).files name ≡ Some bytes) where
      bare_writes : Writes (end_of kept) (store.disk old).files origin now commit bare
      unfolding bare
      bare_writes = writes_files (store.disk old).files bare staged name bytes version (end_of kept) origin now commit v.written is_staged named same v.is v.text (bare_version name version named ∙ there) (get-remove_here (store.disk new).files staged)
          (λ path off_staged off_name. get-remove_other (store.disk new).files staged path off_staged ∙ left.others path off_staged off_name)

      pub as_left : IsAsLeft IsReached (λ files. Writes (end_of kept) (store.disk old).files origin now commit files × StandsFor id next files) (store.disk new).files
      as_left = (
        bare,
        (bare_writes, stands_now origin now kept next commit bytes v can fits id (store.disk old).files stands name named_kept bare bare_beside (bare_version name version named ∙ there)),
        λ path reached. sym (bare_version path reached.version reached.named),
      )

    pub as_left_come : (IsTaken → ⊥) → kept.commits < commits_in (store.disk new).files
        → IsAsLeft IsReached (λ files. Writes (end_of kept) (store.disk old).files origin now commit files × StandsFor id next files) (store.disk new).files
    as_left_come untaken later = as_left (come_there untaken later)

    -- Behind another writer's version all that a crash would have shown stays.
    module _ (theirs : List ℕ) (there : map.get (store.disk new).files name ≡ Some theirs)
        (at_name : IsEachMoment store old new (λ image. IsClean (store.disk old) name → (map.get image name ≡ None) ⊎ (map.get image name ≡ Some theirs))) where
      all_at : (image : Files) → IsStagedImage staged name bytes IsTaken (store.disk old) image → (map.get image name ≡ None) ⊎ (map.get image name ≡ Some theirs) → CarriesAll (delta_meaning id) image (store.disk new).files
      all_at image is one c change standing h =
          let beside = image_beside staged name bytes version named leftover IsTaken (store.disk old) image settled is in
          ⊎_elim
          (λ (none : map.get image name ≡ None).
          let was = carried_too image (store.disk old).files (versions_sym (store.disk old).files image (same_versions name version named (store.disk old).files image (free versions_kept) beside none)) id c change standing h in
          earlier origin now kept next commit bytes v can fits id (store.disk old).files stands name named_kept (store.disk new).files (beside_now versions_kept) c change standing
          (carries_within id (store.disk old).files (view_of kept) c change standing stands.reads was) was)
          (λ (here : map.get image name ≡ Some theirs). carried_too image (store.disk new).files
          (λ path n path_is. ⊎_elim
          (λ (same : path ≡ name). ap (λ (p : List ℕ). map.get (store.disk new).files p) same ∙ there ∙ sym here ∙ ap (λ (p : List ℕ). map.get image p) (sym same))
          (λ (apart : path ≢ name). (beside_now versions_kept).versions path n apart path_is ∙ sym (beside.versions path n apart path_is))
          (path_cases path name))
          id c change standing h)
          one

      pub kept_taken : IsEachMoment store old new (λ image. CarriesAll (delta_meaning id) image (store.disk new).files)
      kept_taken =
          let P : Files → Type 0 = IsStagedImage staged name bytes IsTaken (store.disk old) in
          let Q : Files → Type 0 = λ image. IsClean (store.disk old) name → (map.get image name ≡ None) ⊎ (map.get image name ≡ Some theirs) in
          weaker store old new (λ image. P image × Q image) (λ image. CarriesAll (delta_meaning id) image (store.disk new).files)
          (λ image is. all_at image is.0 (is.1 (version_clean (store.disk old) name version settled named))) (both store old new P Q moments (λ t. at_name)) told

      has_at : (image : Files) → IsStagedImage staged name bytes IsTaken (store.disk old) image → (map.get image name ≡ None) ⊎ (map.get image name ≡ Some theirs) → HasReached (delta_meaning id) (store.disk new).files image
      has_at image is one path reached =
          let beside = image_beside staged name bytes version named leftover IsTaken (store.disk old) image settled is in
          ⊎_elim
          (λ (same : path ≡ name). ⊎_elim
          (λ (none : map.get image name ≡ None). absurd (none_there (map.get image path) (ap (λ (p : List ℕ). map.get image p) same ∙ none) reached.there))
          (λ (here : map.get image name ≡ Some theirs). ap (λ (p : List ℕ). map.get (store.disk new).files p) same ∙ there ∙ sym here ∙ ap (λ (p : List ℕ). map.get image p) (sym same))
          one)
          (λ (apart : path ≢ name). (beside_now versions_kept).versions path reached.version apart reached.named ∙ sym (beside.versions path reached.version apart reached.named))
          (path_cases path name)

      -- No file goes or changes that a crash would have shown as reached.
      pub theirs_taken : IsEachMoment store old new (HasReached (delta_meaning id) (store.disk new).files)
      theirs_taken =
          let P : Files → Type 0 = IsStagedImage staged name bytes IsTaken (store.disk old) in
          let Q : Files → Type 0 = λ image. IsClean (store.disk old) name → (map.get image name ≡ None) ⊎ (map.get image name ≡ Some theirs) in
          weaker store old new (λ image. P image × Q image) (HasReached (delta_meaning id) (store.disk new).files)
          (λ image is. has_at image is.0 (is.1 (version_clean (store.disk old) name version settled named))) (both store old new P Q moments (λ t. at_name)) told
