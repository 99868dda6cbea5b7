-- What the files read as while a commit's version is published: as before, or with that version behind.
use Rattle.std.proofs.Common.{get_or, ◌^◌, ◌≡◌, ◌≢◌, ◌⊎◌, inl, inr, ⊎_elim, ℕ, zero, suc, ◌+◌, ◌<◌, ◌≤◌, List, [], ◌∷◌, ◌++◌, length, Contains, Option, Some, None, refl, sym, ap, subst, ◌∙◌, arith}
use Rattle.std.specs.Prelude.{IsSome, codes, nat_eq, map as map_of}
use Rattle.std.specs.Fmt.{decimal}
use Rattle.std.specs.FinMap as map
use Rattle.std.specs.FinSet as set
use Rattle.std.specs.List.{IsDistinct}
use Rattle.std.specs.Ordering.{nat_cmp}
use Rattle.std.specs.Cmp.Lexicographic.{slice_cmp}
use Rattle.std.proofs.lemmas.Bool.{cases_lt}
use Rattle.std.proofs.lemmas.Fmt.{decimal_is_IsNumeral, decimal_nonempty, first_decimal, length-decimal-le_succ}
use Rattle.std.proofs.lemmas.List.{length-map}
use Rattle.lake_basics.specs.declared.limits.TheConstants.{MAX_FILE_BYTES, MAX_ICEBERG_VERSION}
use Rattle.lake_store.specs.Disk.{Disk, Files, IsClean, IsDirty}
use Rattle.lake_store.specs.Runs.{Keeps, KeepsImage}
use Rattle.lake_store.proofs.DiskLaws.{path_cases}
use Rattle.table_history.specs.declared.table.Commit.{Commit}
use Rattle.table_history.proofs.RowListLemmas.{Contains-head}
use Rattle.iceberg_table.specs.Folder.{HasVersion, IsNewest, path_of, version_path}
use Rattle.iceberg_version.specs.KeptEnd.{end_of, view_of}
use Rattle.iceberg_version.specs.Manifests.{LiveManifest}
use Rattle.iceberg_version.specs.Names.{list_name, manifest_name, staged_name}
use Rattle.iceberg_version.specs.Writing.{front_in}
use Rattle.iceberg_version.specs.declared.kept.IcebergKept.{IcebergKept}
use Rattle.iceberg_version.specs.declared.kept.KeptManifest.{KeptManifest}
use Rattle.iceberg_commit.specs.NextVersion.{IsNextVersion, OwnEachRow, VersionFiles, version_files}
use Rattle.target_core.specs.Conditions.{CanPublish, Fits}
use Rattle.target_core.specs.Folders.{after_crash}
use Rattle.target_core.specs.Gained.{CarriesAll}
use Rattle.target_core.specs.Step.{IsBefore, IsBeforeOrBehind, IsBehind}
use Rattle.target_core.specs.Views.{Origin, View}
use Rattle.target_core.proofs.StoreAnswers.{dirty_or_clean}
use Rattle.target_iceberg.specs.CountLemmas.{commits_newest, commits_read}
use Rattle.target_iceberg.specs.Fitting.{Unfit, state_of}
use Rattle.target_iceberg.specs.IcebergMeaning.{iceberg_meaning}
use Rattle.target_iceberg.specs.Kept.{HoldsEnd, IsCounted, IsFirst, StandsFor}
use Rattle.target_iceberg.specs.Leftovers.{IsDecimal, IsLeftover, IsLeftoverName}
use Rattle.target_iceberg.specs.Publishing.{IsAside, IsDurable, IsNotAside, IsOther, IsPublished}
use Rattle.target_iceberg.specs.Reached.{CanGoOn, IsReached, IsSettled, LeavesNames}
use Rattle.target_iceberg.specs.Reading.{IsAbsent, Reads, commits_in}
use Rattle.target_iceberg.specs.SameLemmas.{SameReached, files_back, goes_on_too, newest_too, ours_too, reached_back}
use Rattle.target_iceberg.specs.SameLemmas as same
use Rattle.target_iceberg.specs.SettledLemmas.{leftover_name, name_in, never_leftover, not_both, reached_clean}
use Rattle.target_iceberg.specs.Writes.{Writes}
use Rattle.target_iceberg.proofs.FewManifests.{few_written}
use Rattle.target_iceberg.proofs.Written as behind
use Rattle.target_iceberg.proofs.Written.{IsCommitted, published_writes}
use Rattle.target_iceberg.proofs.WrittenFiles.{carried_too, version_at, version_held}
use Rattle.target_iceberg.proofs.WrittenNames.{one_version, version_list, version_manifest, version_staged}
use Rattle.target_iceberg.proofs.WrittenNext.{few_rows, few_texts}
use Rattle.target_iceberg.proofs.WrittenStart.{distinct_live, starts}

-- ---- names

one_digit : (n : ℕ) → n < 2 ^ 64 → get_or (decimal n) 0 0 ≡ 48 → length (decimal n) ≡ 1
one_digit zero small is = let most = length-decimal-le_succ 0 small in let some = decimal_nonempty 0 small in omega (arith, most, some)
one_digit (suc n) small is = let more = first_decimal (suc n) (omega arith) small in omega (arith, is, more)

is_decimal : (n : ℕ) → n < 2 ^ 64 → IsDecimal (decimal n)
is_decimal n small = record { numeral = (decimal_is_IsNumeral n small).0; plain = one_digit n small }

-- Its version and the numbers of its manifests are below 2 to the power of 64.
pub record HasShortNames (new : VersionFiles) : Type 0 where
  pub version : new.version < 2 ^ 64
  pub manifests : length new.manifests ≤ 2 ^ 64

-- what is written aside is a leftover
pub aside_leftover : (new : VersionFiles) → HasShortNames new → (path : List ℕ) → IsAside new path → IsLeftover path
aside_leftover new short path (IsAside.manifest number lt is) =
    let few = short.manifests in
    record { name = manifest_name new.version number; leftover = IsLeftoverName.manifest (decimal new.version) (decimal number) (is_decimal new.version short.version) (is_decimal number (omega (arith, lt, few))) refl; is = is }
aside_leftover new short path (IsAside.list is) = record { name = list_name new.version; leftover = IsLeftoverName.list (decimal new.version) (is_decimal new.version short.version) refl; is = is }
aside_leftover new short path (IsAside.staged is) = record { name = staged_name new.version; leftover = IsLeftoverName.staged (decimal new.version) (is_decimal new.version short.version) refl; is = is }

-- The path is that of one of the first manifests of a version.
abbrev IsManifest : ℕ → ℕ → List ℕ → Type 0
IsManifest version count path = (number : ℕ) × (number < count) × (path ≡ path_of (manifest_name version number))

manifest_cases : (version count : ℕ) (path : List ℕ) → IsManifest version count path ⊎ ¬ IsManifest version count path
manifest_cases version zero path = inr (λ is. let lt = is.1 in omega (arith, lt))
manifest_cases version (suc count) path =
    ⊎_elim
    (λ (is : IsManifest version count path). let lt = is.1 in inl (is.0, omega (arith, lt), is.2))
    (λ (none : ¬ IsManifest version count path). ⊎_elim
    (λ (here : path ≡ path_of (manifest_name version count)). inl (count, omega arith, here))
    (λ (other : path ≢ path_of (manifest_name version count)). inr (λ is. last none other is.0 is.1 is.2))
    (path_cases path (path_of (manifest_name version count))))
    (manifest_cases version count path)
  where
    last : (¬ IsManifest version count path) → path ≢ path_of (manifest_name version count) → (number : ℕ) → number < suc count → path ≡ path_of (manifest_name version number) → ⊥
    last none other number lt is =
        ⊎_elim
        (λ (less : number < count). none (number, less, is))
        (λ (most : count ≤ number). let one : number ≡ count = omega (arith, lt, most) in other (subst (λ (n : ℕ). path ≡ path_of (manifest_name version n)) one is))
        (cases_lt number count)

pub aside_cases : (new : VersionFiles) (path : List ℕ) → IsAside new path ⊎ IsNotAside new path
aside_cases new path =
    ⊎_elim
    (λ (list : path ≡ path_of (list_name new.version)). inl (IsAside.list list))
    (λ (no_list : path ≢ path_of (list_name new.version)). ⊎_elim
    (λ (staged : path ≡ path_of (staged_name new.version)). inl (IsAside.staged staged))
    (λ (no_staged : path ≢ path_of (staged_name new.version)). ⊎_elim
    (λ (manifest : IsManifest new.version (length new.manifests) path). inl (IsAside.manifest manifest.0 manifest.1 manifest.2))
    (λ (no_manifest : ¬ IsManifest new.version (length new.manifests) path). inr (none no_list no_staged no_manifest))
    (manifest_cases new.version (length new.manifests) path))
    (path_cases path (path_of (staged_name new.version))))
    (path_cases path (path_of (list_name new.version)))
  where
    none : path ≢ path_of (list_name new.version) → path ≢ path_of (staged_name new.version) → (¬ IsManifest new.version (length new.manifests) path) → IsNotAside new path
    none no_list no_staged no_manifest (IsAside.manifest number lt is) = no_manifest (number, lt, is)
    none no_list no_staged no_manifest (IsAside.list is) = no_list is
    none no_list no_staged no_manifest (IsAside.staged is) = no_staged is

version_not_aside : (new : VersionFiles) (version : ℕ) → IsNotAside new (version_path version)
version_not_aside new version (IsAside.manifest number lt is) = version_manifest version new.version number is
version_not_aside new version (IsAside.list is) = version_list version new.version is
version_not_aside new version (IsAside.staged is) = version_staged version new.version is

-- Nothing that is reached is one of a later version's files.
pub reached_other : (files : Files) (newest : ℕ) (new : VersionFiles) → LeavesNames files newest → newest < new.version → (path : List ℕ) → IsReached files path → IsOther new path
reached_other files newest new free later path reached = record {
  version = λ (is : path ≡ version_path new.version). free.metadata new.version later (subst (IsReached files) is reached);
  aside = not_aside;
}
  where
    not_aside : IsNotAside new path
    not_aside (IsAside.manifest number lt is) = free.manifests new.version number later (subst (IsReached files) is reached)
    not_aside (IsAside.list is) = free.lists new.version later (subst (IsReached files) is reached)
    not_aside (IsAside.staged is) = free.staged new.version (subst (IsReached files) is reached)

-- ---- versions

-- The file of the version behind the last one isn't there.
pub free_path : (files : Files) (version : ℕ) → version + 1 ≤ MAX_ICEBERG_VERSION → IsCounted version files → map.get files (version_path (version + 1)) ≡ None
free_path files version within counted = by (map.get files (version_path (version + 1))) refl
  where
    never : IsCounted version files → HasVersion files (version + 1) → ⊥
    never (inl h) there = h.1 (version + 1) there
    never (inr h) there = let le = h.1.last (version + 1) there in omega (arith, le)

    by : (o : Option (List ℕ)) → map.get files (version_path (version + 1)) ≡ o → map.get files (version_path (version + 1)) ≡ None
    by None is = is
    by (Some bytes) is = absurd (never counted (version_held files (version + 1) bytes within is))

module _ (before after : Files) (new : VersionFiles) (within : new.version ≤ MAX_ICEBERG_VERSION) (others : (path : List ℕ) → IsOther new path → map.get after path ≡ map.get before path) where
  -- a version is the new one, or was there
  version_cases : (version : ℕ) → HasVersion after version → (version ≡ new.version) ⊎ HasVersion before version
  version_cases version there =
      ⊎_elim
      (λ (same : version_path version ≡ version_path new.version). inl (one_version version new.version (omega (arith, within)) same))
      (λ (other : version_path version ≢ version_path new.version). inr (version_at after before version (sym (others (version_path version) (record { version = other; aside = version_not_aside new version }))) there))
      (path_cases (version_path version) (version_path new.version))

  pub newest_now : (last : ℕ) (bytes : List ℕ) → new.version ≡ last + 1 → map.get after (version_path new.version) ≡ Some bytes → IsCounted last before → IsNewest (HasVersion after) new.version
  newest_now last bytes is there counted = record {
    there = version_held after new.version bytes within there;
    last = λ other held. ⊎_elim (λ (same : other ≡ new.version). omega (arith, same)) (λ was. below counted other was) (version_cases other held);
  }
    where
      below : IsCounted last before → (other : ℕ) → HasVersion before other → other ≤ new.version
      below (inl h) other was = absurd (h.1 other was)
      below (inr h) other was = let le = h.1.last other was in omega (arith, le, is)

  pub counted_now : (last next : ℕ) (bytes : List ℕ) → new.version ≡ last + 1 → next ≡ last + 1 → map.get after (version_path new.version) ≡ Some bytes → IsCounted last before → IsCounted next after
  counted_now last next bytes is next_is there counted =
      let same : new.version ≡ next = is ∙ sym next_is in
      inr (omega (arith, next_is), subst (IsNewest (HasVersion after)) same (newest_now last bytes is there counted))

  pub count_now : (last : ℕ) (bytes : List ℕ) → new.version ≡ last + 1 → map.get after (version_path new.version) ≡ Some bytes → IsCounted last before → commits_in after ≤ last + 1
  count_now last bytes is there counted = let count = commits_newest after new.version (newest_now last bytes is there counted) in omega (arith, count, is)

-- ---- files as before

-- Each path that is reached is as before, no version has come, and no name but leftovers.
pub record IsAsBefore (before after : Files) : Type 0 where
  pub reached : SameReached before after
  pub names : (name : List ℕ) → IsSome (map.get after (path_of name)) → IsLeftoverName name ⊎ IsSome (map.get before (path_of name))

module _ (before after : Files) (alike : IsAsBefore before after) where
  absent_before : IsAbsent before → IsAbsent after
  absent_before h = record {
    versions = λ version there. h.versions version (alike.reached.versions version there);
    names = λ name proper there. ⊎_elim (λ leftover. leftover) (λ was. h.names name proper was) (alike.names name there);
  }

  pub reads_before : (view : View) → Reads before view → Reads after view
  reads_before view (inl h) = inl (absent_before h.0, h.1)
  reads_before view (inr h) = inr (ours_too before after alike.reached view h)

  pub carries_before : (id : List ℕ) → CarriesAll (iceberg_meaning id) before after
  carries_before id number change standing h = same.carried_too before after alike.reached id number change standing h

  pub carries_back : (id : List ℕ) → CarriesAll (iceberg_meaning id) after before
  carries_back id number change standing h = same.carried_too after before (files_back before after alike.reached) id number change standing h

  pub goes_on_before : ((newest : ℕ) → IsNewest (HasVersion before) newest → CanGoOn before newest) → (newest : ℕ) → IsNewest (HasVersion after) newest → CanGoOn after newest
  goes_on_before on newest is =
      let was = newest_too after before (files_back before after alike.reached) newest is in
      goes_on_too before after alike.reached newest is.there (on newest was)

-- Nothing is dirty after a crash.
pub after_settled : (image : Files) → ((newest : ℕ) → IsNewest (HasVersion image) newest → CanGoOn image newest) → IsSettled (after_crash image)
after_settled image on = record {
  leftovers = λ path within dirty. absurd (not_both (after_crash image) path (set.contains-empty (slice_cmp nat_cmp) path) dirty);
  unreached = λ path dirty reached. not_both (after_crash image) path (set.contains-empty (slice_cmp nat_cmp) path) dirty;
  goes_on = on;
}

module _ (disk : Disk) (newest : ℕ) (new : VersionFiles) (short : HasShortNames new) (settled : IsSettled disk) (free : LeavesNames disk.files newest) (later : newest < new.version) where
  -- an image of a crash in which all but what is written aside is as before
  module _ (image : Files) (keeps : KeepsImage (IsNotAside new) disk image) where
    kept_at : (path : List ℕ) → IsReached disk.files path → map.get image path ≡ map.get disk.files path
    kept_at path reached = keeps path (reached_other disk.files newest new free later path reached).aside (reached_clean disk path settled reached)

    kept_name : (name : List ℕ) → IsSome (map.get image (path_of name)) → IsLeftoverName name ⊎ IsSome (map.get disk.files (path_of name))
    kept_name name there =
        ⊎_elim
        (λ (aside : IsAside new (path_of name)). inl (leftover_name name (aside_leftover new short (path_of name) aside)))
        (λ (not : IsNotAside new (path_of name)). ⊎_elim
        (λ (dirty : IsDirty disk (path_of name)). inl (leftover_name name (settled.leftovers (path_of name) (name_in name) dirty)))
        (λ (clean : IsClean disk (path_of name)). inr (subst (λ (o : Option (List ℕ)). IsSome o) (keeps (path_of name) not clean) there))
        (dirty_or_clean disk (path_of name)))
        (aside_cases new (path_of name))

    kept_version : (version : ℕ) → HasVersion image version → HasVersion disk.files version
    kept_version version there =
        ⊎_elim
        (λ (dirty : IsDirty disk (version_path version)). absurd (never_leftover version (settled.leftovers (version_path version) (name_in (codes "v" ++ (decimal version ++ codes ".metadata.json"))) dirty)))
        (λ (clean : IsClean disk (version_path version)). version_at image disk.files version (sym (keeps (version_path version) (version_not_aside new version) clean)) there)
        (dirty_or_clean disk (version_path version))

    pub image_before : IsAsBefore disk.files image
    image_before = record { reached = record { files = kept_at; versions = kept_version }; names = kept_name }

  -- a disk on which it is
  module _ (now : Disk) (keeps : Keeps (IsNotAside new) disk now) where
    pub disk_before : IsAsBefore disk.files now.files
    disk_before = image_before now.files (λ path not clean. keeps.files path not)

    pub disk_settled : IsSettled now
    disk_settled = record {
      leftovers = λ path within dirty. ⊎_elim
          (λ (aside : IsAside new path). aside_leftover new short path aside)
          (λ (not : IsNotAside new path). ⊎_elim
          (λ was. settled.leftovers path within was)
          (λ clean. absurd (not_both now path (keeps.clean path not clean) dirty))
          (dirty_or_clean disk path))
          (aside_cases new path);
      unreached = λ path dirty reached.
          let was = reached_back disk.files now.files disk_before.reached path reached in
          not_both now path (keeps.clean path (reached_other disk.files newest new free later path was).aside (reached_clean disk path settled was)) dirty;
      goes_on = goes_on_before disk.files now.files disk_before settled.goes_on;
    }

-- ---- the version is there

-- without manifests no owner stands twice
no_owners : (manifests : List KeptManifest) → ((m : KeptManifest) → ¬ Contains manifests m) → IsDistinct nat_eq (map_of (λ (m : KeptManifest). m.owner) manifests)
unfolding IsDistinct
no_owners [] none = tt
no_owners (m ∷ manifests) none = absurd (none m (Contains-head m manifests))

module _ (kept next : IcebergKept) (origin : Origin) (now : ℕ) (commit : Commit) (new : VersionFiles) (v : IsNextVersion kept origin now commit new next) where
  abbrev made : VersionFiles
  made = version_files (end_of kept) v.written

  pub number : new.version ≡ kept.version + 1
  number = ap (λ (f : VersionFiles). f.version) v.files

  pub new_within : new.version ≤ MAX_ICEBERG_VERSION
  new_within = let within = v.within in let is = number in omega (arith, within, is)

  pub new_later : kept.version < new.version
  new_later = let is = number in omega (arith, is)

  few_made : length v.written.texts ≤ 2 ^ 64
  few_made =
      let texts = few_texts (front_in (end_of kept)) (kept.version + 1) 0 0 v.is.manifests.next v.written.texts v.written.manifests v.is.manifests.listed in
      let infos = few_rows v.written.list (map_of (λ m. m.info) v.written.manifests) v.back.list in
      let same = length-map v.written.manifests (λ (m : LiveManifest). m.info) in
      omega (arith, texts, infos, same)

  pub short_names : HasShortNames new
  short_names = record { version = let within = new_within in omega (arith, within); manifests = subst (λ (f : VersionFiles). length f.manifests ≤ 2 ^ 64) (sym v.files) few_made }

  made_by : (before after : Files) → IsPublished new before after → IsPublished made before after
  made_by before after is = subst (λ (f : VersionFiles). IsPublished f before after) v.files is

  -- what is written has come, and nothing else
  pub writes_now : (id location : List ℕ) (before after : Files) → StandsFor id location kept before → IsPublished new before after → Writes (end_of kept) before origin now commit after
  writes_now id location before after stands is =
      published_writes (end_of kept) before after origin now commit v.written v.is (made_by before after is)
      (few_written (end_of kept) commit.change v.is.schemas v.is.fields v.is.columns v.written.texts v.written.manifests v.is.manifests (distinct_live id location kept before stands))
      v.back

  -- ---- over files that stand for what is kept

  module _ (id location : List ℕ) (plain : (front : List ℕ) → location ≢ front ++ 47 ∷ []) (can : CanPublish (view_of kept) commit) (fits : Fits (Unfit (state_of kept)) kept.table.partition (commit ∷ []))
      (disk : Disk) (stands : StandsFor id location kept disk.files) (settled : IsSettled disk) where
    pub free : LeavesNames disk.files kept.version
    free = (starts id location kept disk.files settled.goes_on stands).free

    pub other_reached : (path : List ℕ) → IsReached disk.files path → IsOther new path
    other_reached path reached = reached_other disk.files kept.version new free new_later path reached

    -- Where the files of the new version alone have changed, each commit is there that was.
    pub carried_on : (after : Files) → ((path : List ℕ) → IsOther new path → map.get after path ≡ map.get disk.files path) → CarriesAll (iceberg_meaning id) disk.files after
    carried_on after others number change standing h = carried_too disk.files after (λ path reached. others path (other_reached path reached)) id number change standing h

    before_by : (after : Files) → IsAsBefore disk.files after → IsBefore (iceberg_meaning id) (view_of kept) disk.files after
    before_by after alike = record {
      reads = reads_before disk.files after alike (view_of kept) stands.reads;
      earlier = λ number change standing within h. carries_before disk.files after alike id number change standing h;
    }

    -- Where only what is written aside has changed, no version has come.
    pub same_count : (now : Disk) → Keeps (IsNotAside new) disk now → commits_in now.files ≡ kept.version
    same_count now keeps = commits_read now.files (view_of kept) (before_by now.files (disk_before disk kept.version new short_names settled free new_later now keeps)).reads

    module _ (after : Files) (is : IsPublished new disk.files after) where
      committed : IsCommitted disk after id location kept origin now commit
      unfolding writes_now published_writes
      committed = record {
        stands = stands;
        settled = settled;
        plain = plain;
        can = can;
        fits = fits;
        writes = writes_now id location disk.files after stands is;
        within = v.within;
        small = subst (λ (f : VersionFiles). length f.metadata ≤ MAX_FILE_BYTES) v.files v.short.metadata_is;
      }

      pub is_behind : IsBehind (iceberg_meaning id) origin (view_of kept) disk.files commit (view_of next) after
      is_behind = behind.is_behind disk after id location kept origin now commit committed (view_of next) v.advanced

      pub goes_on_behind : (newest : ℕ) → IsNewest (HasVersion after) newest → CanGoOn after newest
      goes_on_behind newest there = behind.goes_on_newest disk after id location kept origin now commit committed newest there

      own_before : IsFirst disk.files id location kept ⊎ HoldsEnd disk.files kept → OwnEachRow kept.links kept.manifests
      own_before (inl h) = record { distinct = no_owners kept.manifests h.manifests; only = λ owner e owns. absurd (h.links owner e owns) }
      own_before (inr h) = h.own

      pub stands_behind : StandsFor id location next after
      unfolding committed writes_now published_writes
      stands_behind = behind.stands_behind disk after id location kept origin now commit committed next
          (record { version = v.version; metadata = v.metadata; mark = v.mark; manifests = v.manifests; own = v.own (own_before stands.end) }) v.advanced

    -- ---- as before or behind

    abbrev pub IsEither : Files → Type 0
    IsEither files = IsBeforeOrBehind (iceberg_meaning id) origin (view_of kept) disk.files commit (view_of next) files

    pub image_either : (image : Files) → KeepsImage (IsNotAside new) disk image ⊎ IsPublished new disk.files image → IsEither image × IsSettled (after_crash image)
    image_either image (inl keeps) =
        let alike = image_before disk kept.version new short_names settled free new_later image keeps in
        (inl (before_by image alike), after_settled image (goes_on_before disk.files image alike settled.goes_on))
    image_either image (inr is) = (inr (is_behind image is), after_settled image (goes_on_behind image is))

    durable_settled : (now : Disk) → IsDurable new disk.files now → IsSettled now
    durable_settled now durable = record {
      leftovers = λ path within dirty. absurd (not_both now path (durable.clean path) dirty);
      unreached = λ path dirty reached. not_both now path (durable.clean path) dirty;
      goes_on = goes_on_behind now.files durable.files;
    }

    pub disk_either : (now : Disk) → Keeps (IsNotAside new) disk now ⊎ IsDurable new disk.files now → IsEither now.files × IsSettled now
    disk_either now (inl keeps) = (inl (before_by now.files (disk_before disk kept.version new short_names settled free new_later now keeps)), disk_settled disk kept.version new short_names settled free new_later now keeps)
    disk_either now (inr durable) = (inr (is_behind now.files durable.files), durable_settled now durable)
