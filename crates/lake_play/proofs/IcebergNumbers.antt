-- Reading an Iceberg target that is absent or ours passes no number but those of names, of a file's bytes and of entries.
use Rattle.std.proofs.Common.{◌≡◌, ◌⊎◌, inl, inr, ℕ, ◌+◌, ◌≤◌, ◌<◌, Bool, true, false, cond, List, ◌∷◌, [], ◌++◌, length, Contains, refl, sym, ap, subst, ◌∙◌, arith}
use Rattle.std.specs.List.{filter, list_any}
use Rattle.std.proofs.lemmas.List.{append_assoc, append_cancel_left}
use Rattle.std.proofs.lemmas.List.Elements.{Contains-append_right}
use Rattle.lake_basics.specs.declared.limits.TheConstants.{MAX_ACTIONS, MAX_FILE_BYTES, MAX_LIVE_FILES, MAX_NAMES}
use Rattle.lake_basics.specs.declared.outcome.ReadError.TheVariants as read
use Rattle.lake_store.specs.Disk.{Files, names_in}
use Rattle.table_history.specs.Rows.{HasDistinctPaths}
use Rattle.table_history.specs.Words.{limit_number}
use Rattle.table_history.specs.declared.feature.Feature.TheVariants.{SharedFile}
use Rattle.table_history.specs.declared.kind.Kind.{Kind}
use Rattle.table_history.specs.declared.kind.Kind.TheVariants.{Iceberg}
use Rattle.table_history.specs.declared.limit.LimitKind.{LimitKind}
use Rattle.table_history.specs.declared.limit.LimitKind.TheVariants.{Actions, File, Names}
use Rattle.table_history.specs.declared.table.Table.{Table}
use Rattle.table_history.proofs.Laws.{same_rows_length}
use Rattle.table_history.proofs.RowListLemmas.{Contains-head}
use Rattle.avro_value.specs.declared.api.TheConstants.{MAX_VALUES}
use Rattle.iceberg_manifest.specs.Entry.{EntryData, is_live}
use Rattle.iceberg_manifest.specs.Lists.{AreEach}
use Rattle.iceberg_manifest.specs.Scans.{infos_of}
use Rattle.iceberg_manifest.specs.declared.error.ManifestError.{ManifestError}
use Rattle.iceberg_manifest.specs.declared.error.ManifestError.TheVariants as manifest
use Rattle.iceberg_manifest.specs.declared.info.ManifestInfo.{ManifestInfo}
use Rattle.iceberg_manifest.specs.declared.partition.PartColumn.{PartColumn}
use Rattle.iceberg_manifest.proofs.SplitLaws.{Split, split_each}
use Rattle.iceberg_manifest_feeding.proofs.OrderLaws.{read_or_refused}
use Rattle.iceberg_live.specs.Live.{IsRowOf}
use Rattle.iceberg_live.specs.LiveRows.{HasFault, IsFirstFault}
use Rattle.iceberg_live.specs.declared.live.LiveRow.{LiveRow}
use Rattle.iceberg_metadata.specs.Location.{front_of}
use Rattle.iceberg_metadata.specs.Reading.{HasCause, causes}
use Rattle.iceberg_metadata.specs.declared.metadata.Metadata.{Metadata}
use Rattle.iceberg_metadata.specs.declared.metadata.Snapshot.{Snapshot}
use Rattle.iceberg_metadata_reading.proofs.ReadLemmas.{first_not_none}
use Rattle.iceberg_table.specs.Errors.{IsFileFault, IsTold, manifest_fault}
use Rattle.iceberg_table.specs.Files.{HoldsFile, SaysMetadata}
use Rattle.iceberg_table.specs.Folder.{HasVersion, IsNewest, metadata_folder, version_path}
use Rattle.iceberg_table.specs.Lists.{IsListFault, IsListed, IsRowFault, SaysList}
use Rattle.iceberg_table.specs.Manifests.{AreEntries, AreManifestsRefused, HasEntries, IsManifestFault, IsManifestOf, IsManifestRefusal, SharesFile}
use Rattle.iceberg_table.specs.Once.{counted_before, entries_once, has_path}
use Rattle.iceberg_table.specs.Plan.{IsPlanFault, part_columns}
use Rattle.iceberg_table.specs.Snapshots.{IsTableOfSnapshot}
use Rattle.iceberg_table.specs.Refusals.{IsListedRefusal, IsMetadataFault, IsSnapshotRefusal}
use Rattle.iceberg_table.specs.Tables.{AreManyRows, AreShared, rows_in, rows_of}
use Rattle.iceberg_table.specs.declared.error.Fault.{Fault}
use Rattle.iceberg_table.specs.declared.error.Fault.TheVariants as fault
use Rattle.iceberg_table.specs.declared.error.IcebergError.{IcebergError}
use Rattle.iceberg_table.specs.declared.error.IcebergError.TheVariants as error
use Rattle.iceberg_table.specs.declared.list.ManifestFile.{ManifestFile}
use Rattle.iceberg_table.specs.declared.manifest.Manifest.{Manifest}
use Rattle.iceberg_table.specs.declared.plan.Plan.{Plan}
use Rattle.iceberg_table.proofs.CountLaws.{count_one, once_more}
use Rattle.iceberg_table.proofs.EachLaws.{each_of}
use Rattle.iceberg_table.proofs.ManifestLaws.{held_once}
use Rattle.iceberg_table.proofs.OnceLaws.{newest_once, rows_once}
use Rattle.iceberg_table.proofs.PieceLaws.{as_file_fault}
use Rattle.target_core.specs.Views.{View}
use Rattle.target_iceberg.specs.FaultLemmas.{plan_or_fault, row_or_fault, stop_in}
use Rattle.target_iceberg.specs.Inspecting.{IsCrowded, IsRefusedSnapshot, IsRefusedVersion, TellsNumber}
use Rattle.target_iceberg.specs.OnceLemmas as once
use Rattle.target_iceberg.specs.Reading.{IsCurrent, IsOurs, Reads, SaysCurrent}
use Rattle.target_iceberg.proofs.WrittenLive.{live_are}

-- ---- what is left

-- The folder has too many names.
abbrev pub HasManyNames : Files → LimitKind → ℕ → Type 0
HasManyNames files which number = (which ≡ Names) × (number ≡ MAX_NAMES) × (MAX_NAMES < length (names_in files metadata_folder))

-- The file at this path has too many bytes.
abbrev pub IsLarge : Files → List ℕ → Type 0
IsLarge files path = (bytes : List ℕ) × HoldsFile files path bytes × (MAX_FILE_BYTES < length bytes)

module _ (files : Files) (m : Metadata) (current : SaysCurrent files m) (which : LimitKind) (number : ℕ) where
  -- The current snapshot's list or one of its manifests has too many bytes.
  abbrev pub HasLargeFile : Type 0
  HasLargeFile = (which ≡ File) × (number ≡ MAX_FILE_BYTES) × (IsLarge files current.plan.list ⊎ ((file : ManifestFile) × Contains current.list file × IsLarge files file.path))

  -- One of its manifests has too many entries, or all have together.
  abbrev pub HasManyEntries : Type 0
  HasManyEntries = (which ≡ Actions) × (number ≡ limit_number Iceberg Actions) × ((MAX_ACTIONS < entries_once current.manifests) ⊎ ((r : Manifest) × Contains current.manifests r × (MAX_ACTIONS < r.entries)))

-- all that isn't ruled out by what the files stand for
abbrev pub IsPast : Files → View → LimitKind → ℕ → Type 0
IsPast files v which number =
    HasManyNames files which number
    ⊎ ((ours : IsOurs files v) × (HasLargeFile files ours.metadata ours.current which number ⊎ HasManyEntries files ours.metadata ours.current which number))

-- ---- a file

-- A file that is read tells of no number, or it has too many bytes, or its bytes show that a number is passed.
data Tells (files : Files) (path bytes : List ℕ) (Shows : List ℕ → Fault → Type 0) (which : LimitKind) (number : ℕ) : Type 0 where
  is_large : which ≡ File → number ≡ MAX_FILE_BYTES → IsLarge files path → Tells files path bytes Shows which number
  is_shown : (limit : LimitKind) → which ≡ limit → number ≡ limit_number Iceberg limit → Shows bytes (fault.Limit limit) → Tells files path bytes Shows which number

told : (files : Files) (path bytes : List ℕ) (Shows : List ℕ → Fault → Type 0) (which : LimitKind) (number : ℕ) (e : IcebergError) → HoldsFile files path bytes → IsFileFault files path Shows e → TellsNumber e which number → Tells files path bytes Shows which number
told files path bytes Shows which number error.Memory holds h tells = absurd h
told files path bytes Shows which number error.StoreFault holds h tells = absurd h
told files path bytes Shows which number error.ManyNames holds h tells = absurd h
told files path bytes Shows which number (error.Missing p) holds h tells = absurd tells
told files path bytes Shows which number (error.Large p) holds h tells = Tells.is_large tells.0 tells.1 (h.1, h.2, h.3)
told files path bytes Shows which number (error.Refused p fault.Malformed) holds h tells = absurd tells
told files path bytes Shows which number (error.Refused p (fault.Unsupported feature)) holds h tells = absurd tells
told files path bytes Shows which number (error.Refused p (fault.Limit limit)) holds h tells =
    Tells.is_shown limit tells.0 tells.1 (subst (λ (bs : List ℕ). Shows bs (fault.Limit limit)) (held_once files path h.1 bytes h.2 holds) h.3)

-- What is told of what files say is a limit that they show.
told_limit : (path : List ℕ) (Shows : Fault → Type 0) (which : LimitKind) (number : ℕ) (e : IcebergError) → IsTold path Shows e → TellsNumber e which number → (limit : LimitKind) × (which ≡ limit) × (number ≡ limit_number Iceberg limit) × Shows (fault.Limit limit)
told_limit path Shows which number e (f, is, shows) tells = by f shows (subst (λ (x : IcebergError). TellsNumber x which number) is tells)
  where
    by : (f : Fault) → Shows f → TellsNumber (error.Refused path f) which number → (limit : LimitKind) × (which ≡ limit) × (number ≡ limit_number Iceberg limit) × Shows (fault.Limit limit)
    by fault.Malformed shows tells = absurd tells
    by (fault.Unsupported feature) shows tells = absurd tells
    by (fault.Limit limit) shows tells = (limit, tells.0, tells.1, shows)

-- ---- what is read of a manifest

limit_is : (a b : LimitKind) → fault.Limit a ≡ fault.Limit b → a ≡ b
limit_is a b is = cc

module _ (files : Files) (location : List ℕ) (columns : List PartColumn) (file : ManifestFile) where
  -- what it has for bytes
  bytes_of : (r : Manifest) → IsManifestOf files location columns file r → (bytes : List ℕ) × HoldsFile files file.path bytes
  bytes_of r (same, inl (zero, h)) = (h.says.bytes, subst (λ (m : ManifestFile). HoldsFile files m.path h.says.bytes) same h.says.holds)
  bytes_of r (same, inr (other, h, none)) = (h.1.says.bytes, subst (λ (m : ManifestFile). HoldsFile files m.path h.1.says.bytes) same h.1.says.holds)

  -- a row of an entry that is read has a short path
  row_or_limit : (e : EntryData) (live : LiveRow) (limit : LimitKind) → IsRowOf location file.info e live → HasFault location e (manifest.Limit limit) → ⊥
  row_or_limit e live limit is (numbers, told, (rest, place, form, long)) =
      let short = is.path.short in
      let same = ap (λ (path : List ℕ). length path) (append_cancel_left (front_of location) live.row.path rest (sym is.place ∙ place)) in
      omega (arith, long, short, same)

  limit_by : (e : EntryData) (live : LiveRow) (error : ManifestError) (limit : LimitKind) → manifest_fault error ≡ read.Fault (fault.Limit limit) → IsRowOf location file.info e live → HasFault location e error → ⊥
  limit_by e live manifest.Memory limit is row shown = absurd (let told : read.Memory ≡ read.Fault (fault.Limit limit) = is in cc)
  limit_by e live manifest.Malformed limit is row shown = absurd (let told : read.Fault fault.Malformed ≡ read.Fault (fault.Limit limit) = is in cc)
  limit_by e live manifest.Codec limit is row shown = shown
  limit_by e live manifest.RowDeletes limit is row shown = shown
  limit_by e live manifest.FileFormat limit is row shown = shown
  limit_by e live manifest.OutsideTable limit is row shown = shown.1 live.row.path row.place
  limit_by e live (manifest.Limit which) limit is row shown = row_or_limit e live which row shown

  -- Its bytes show that its entries and those before it are too many, if they show that a number is passed.
  manifest_limit : (before : ℕ) (bytes : List ℕ) (r : Manifest) (limit : LimitKind) → HoldsFile files file.path bytes → IsManifestOf files location columns file r → IsManifestFault location columns before file bytes (fault.Limit limit) → (MAX_ACTIONS < before + r.entries) × (limit ≡ Actions)
  manifest_limit before bytes r limit holds of shows = by of
    where
      of_entries : (rows : List LiveRow) → HasEntries files location columns (record { file = file; entries = r.entries; rows = rows }) → (MAX_ACTIONS < before + r.entries) × (limit ≡ Actions)
      of_entries rows h = shown shows
        where
          here : AreEntries columns bytes h.entries
          here = subst (λ (bs : List ℕ). AreEntries columns bs h.entries) (held_once files file.path h.says.bytes bytes h.says.holds holds) h.says.are

          shown : IsManifestFault location columns before file bytes (fault.Limit limit) → (MAX_ACTIONS < before + r.entries) × (limit ≡ Actions)
          shown (inl (e, refused, told)) = absurd (read_or_refused columns bytes h.entries e here refused)
          shown (inr (others, says, inl (many, told))) =
              let same = ap (λ (es : List EntryData). length es) (once.entries_once columns bytes others h.entries says here) in
              let count = h.count in
              (omega (arith, many, same, count), limit_is limit Actions told)
          shown (inr (others, says, inr (few, e, first, told))) =
              let same : others ≡ h.entries = once.entries_once columns bytes others h.entries says here in
              let at = subst (λ (es : List EntryData). IsFirstFault location file.info es e) same first in
              let there = subst (λ (es : List EntryData). Contains es at.entry) (sym at.split) (Contains-append_right at.before (at.entry ∷ at.after) at.entry (Contains-head at.entry at.after)) in
              let found = each_of (IsRowOf location file.info) (filter is_live h.entries) rows at.entry h.rows there in
              absurd (limit_by at.entry found.0 e limit told found.2 at.fault)

      by : IsManifestOf files location columns file r → (MAX_ACTIONS < before + r.entries) × (limit ≡ Actions)
      by (same, inl (zero, h)) = of_entries r.rows (subst (λ (m : ManifestFile). HasEntries files location columns (record { file = m; entries = r.entries; rows = r.rows })) same h)
      by (same, inr (other, h, none)) = of_entries h.0 (subst (λ (m : ManifestFile). HasEntries files location columns (record { file = m; entries = r.entries; rows = h.0 })) same h.1)

-- ---- the newest version

malformed_limit : (limit : LimitKind) → fault.Limit limit ≡ fault.Malformed → ⊥
malformed_limit limit is = cc

version_number : (files : Files) (version : ℕ) (m : Metadata) (which : LimitKind) (number : ℕ) (e : IcebergError) → SaysMetadata files version m → IsFileFault files (version_path version) IsMetadataFault e → TellsNumber e which number → ⊥
version_number files version m which number e says refused tells = by (told files (version_path version) says.bytes IsMetadataFault which number e says.holds refused tells)
  where
    by : Tells files (version_path version) says.bytes IsMetadataFault which number → ⊥
    by (Tells.is_large is at (bytes, holds, long)) =
        let small = says.small in
        let same = ap (λ (bs : List ℕ). length bs) (held_once files (version_path version) bytes says.bytes holds says.holds) in
        omega (arith, small, same, long)
    by (Tells.is_shown limit is at (inl (e, first, told))) = first_not_none (HasCause says.bytes) causes e first says.supported
    by (Tells.is_shown limit is at (inr (n, read_too, none, cycle, told))) = absurd (malformed_limit limit told)

-- ---- the current snapshot

shared_limit : (limit : LimitKind) → fault.Limit limit ≡ fault.Unsupported SharedFile → ⊥
shared_limit limit is = cc

module _ (files : Files) (m : Metadata) (current : SaysCurrent files m) (which : LimitKind) (number : ℕ) where
  abbrev Past : Type 0
  Past = HasLargeFile files m current which number ⊎ HasManyEntries files m current which number

  abbrev columns : List PartColumn
  columns = part_columns current.plan.columns

  abbrev Of : ManifestFile → Manifest → Type 0
  Of = IsManifestOf files m.location columns

  -- too many entries of a manifest and of those before it
  many_entries : (found : List Manifest) (r : Manifest) (rest : List Manifest) (b : Bool) → which ≡ Actions → number ≡ limit_number Iceberg Actions → current.manifests ≡ found ++ r ∷ rest → list_any (has_path r.file.path) found ≡ b
      → MAX_ACTIONS < cond b 0 (entries_once found) + r.entries → HasManyEntries files m current which number
  many_entries found r rest true is at split counted many =
      (is, at, inr (r, subst (λ (l : List Manifest). Contains l r) (sym split) (Contains-append_right found (r ∷ rest) r (Contains-head r rest)), omega (arith, many)))
  many_entries found r rest false is at split counted many =
      let one = count_one found r false counted in
      let more = once_more (found ++ r ∷ []) rest in
      let whole : entries_once ((found ++ r ∷ []) ++ rest) ≡ entries_once current.manifests = ap entries_once (append_assoc found (r ∷ []) rest ∙ sym split) in
      (is, at, inl (omega (arith, one, more, whole, many)))

  -- what a manifest shows
  shown : (item : ManifestFile) (found : List Manifest) (r : Manifest) (rest : List Manifest) (bytes : List ℕ) (limit : LimitKind) → current.manifests ≡ found ++ r ∷ rest → Of item r → HoldsFile files item.path bytes → which ≡ limit → number ≡ limit_number Iceberg limit
      → IsManifestFault m.location columns (counted_before item.path found) item bytes (fault.Limit limit) → Past
  shown item found r rest bytes limit split of holds is at shows =
      let many_shown = manifest_limit files m.location columns item (counted_before item.path found) bytes r limit holds of shows in
      let same : limit ≡ Actions = many_shown.1 in
      let many = subst (λ (f : ManifestFile). MAX_ACTIONS < counted_before f.path found + r.entries) (sym of.0) many_shown.0 in
      inr (many_entries found r rest (list_any (has_path r.file.path) found) (is ∙ same) (at ∙ ap (limit_number Iceberg) same) split refl many)

  abbrev ShownBy : ManifestFile → List Manifest → List ℕ → Fault → Type 0
  ShownBy item found = IsManifestFault m.location columns (counted_before item.path found) item

  refused_at : (item : ManifestFile) (found : List Manifest) (r : Manifest) (rest : List Manifest) (e : IcebergError) → current.manifests ≡ found ++ r ∷ rest → Contains current.list item → Of item r → IsManifestRefusal files m.location columns (counted_before item.path found) item e → TellsNumber e which number → Past
  refused_at item found r rest e split there of refused tells = by (told files item.path at.0 (ShownBy item found) which number e at.1 (as_file_fault files m.location columns (counted_before item.path found) item e refused) tells)
    where
      at : (bytes : List ℕ) × HoldsFile files item.path bytes
      at = bytes_of files m.location columns item r of

      by : Tells files item.path at.0 (ShownBy item found) which number → Past
      by (Tells.is_large is number_is large) = inl (is, number_is, inr (item, there, large))
      by (Tells.is_shown limit is number_is shows) = shown item found r rest at.0 limit split of at.1 is number_is shows

  stopped : (e : IcebergError) → AreManifestsRefused files m.location columns current.plan.list current.list e → TellsNumber e which number → Past
  stopped e stops tells = by (split_each Of stops.front stops.item stops.behind current.manifests (subst (λ (l : List ManifestFile). AreEach Of l current.manifests) stops.split current.says.are)) stops.refused.2
    where
      there : Contains current.list stops.item
      there = stop_in Of (λ found file e. (entries_once found ≤ MAX_ACTIONS) × HasDistinctPaths (rows_of found) × (IsManifestRefusal files m.location columns (counted_before file.path found) file e ⊎ SharesFile files m.location columns current.plan.list found file e)) current.list e stops

      by : Split Of stops.front stops.item current.manifests → IsManifestRefusal files m.location columns (counted_before stops.item.path stops.found) stops.item e ⊎ SharesFile files m.location columns current.plan.list stops.found stops.item e → Past
      by s (inl refused) =
          let same : stops.found ≡ s.found = once.manifests_once files m.location columns stops.front stops.found s.found stops.are s.are in
          refused_at stops.item s.found s.one s.rest e s.is there s.here (subst (λ (found : List Manifest). IsManifestRefusal files m.location columns (counted_before stops.item.path found) stops.item e) same refused) tells
      by s (inr (r, of, few, shared)) =
          let limit = told_limit current.plan.list (AreShared (rows_of stops.found ++ rows_in r.rows)) which number e shared tells in
          absurd (shared_limit limit.0 limit.3.0)

  -- the rows of the table are those of the manifests
  few_rows : (t : Table) → IsTableOfSnapshot files m current.snapshot t → HasDistinctPaths t.rows → length (rows_of current.manifests) ≡ length t.rows
  few_rows t of distinct =
      same_rows_length (rows_of current.manifests) t.rows current.says.distinct distinct
      (λ row. let live = live_are files m current row in (λ there. (of.rows row).1 (live.0 there), λ there. live.1 ((of.rows row).0 there)))

  listed : (t : Table) (e : IcebergError) → IsTableOfSnapshot files m current.snapshot t → HasDistinctPaths t.rows → length t.rows ≤ MAX_LIVE_FILES → IsListedRefusal files m current.plan e → TellsNumber e which number → Past
  listed t e of distinct few (inl refused) tells = by (told files current.plan.list says.bytes (IsListFault m) which number e says.holds refused tells)
    where
      says : SaysList files m current.plan.list current.list
      says = current.says.says

      by : Tells files current.plan.list says.bytes (IsListFault m) which number → Past
      by (Tells.is_large is at large) = inl (is, at, inl large)
      by (Tells.is_shown limit is at (inl (e, refused_too, told))) = absurd (once.stands_or_refused MAX_VALUES infos_of says.bytes says.infos e says.rows refused_too)
      by (Tells.is_shown limit is at (inr (others, are, stops))) =
          let same : others ≡ says.infos = rows_once says.bytes others says.infos are says.rows in
          let there = subst (λ (infos : List ManifestInfo). Contains infos stops.item) same (stop_in (IsListed m) (λ found. IsRowFault m) others (fault.Limit limit) stops) in
          let found_row = each_of (IsListed m) says.infos current.list stops.item says.listed there in
          absurd (row_or_fault m stops.item found_row.0 (fault.Limit limit) found_row.2 stops.refused)
  listed t e of distinct few (inr (other, lists, inl stops)) tells =
      let same : other ≡ current.list = once.list_once files m current.plan.list other current.list lists current.says.says in
      stopped e (subst (λ (l : List ManifestFile). AreManifestsRefused files m.location columns current.plan.list l e) same stops) tells
  listed t e of distinct few (inr (other, lists, inr (found, reads, (counted, many)))) tells =
      let same : other ≡ current.list = once.list_once files m current.plan.list other current.list lists current.says.says in
      let all : found ≡ current.manifests = once.manifests_once files m.location columns current.list found current.manifests (subst (λ (l : List ManifestFile). AreEach Of l found) same reads) current.says.are in
      let limit = told_limit current.plan.list (AreManyRows (rows_of found)) which number e many tells in
      let over = limit.3.1 in
      let rows = ap (λ (ms : List Manifest). length (rows_of ms)) all in
      let count = few_rows t of distinct in
      absurd (omega (arith, over, rows, count, few))

  snapshot_number : (version : ℕ) (t : Table) (e : IcebergError) → IsTableOfSnapshot files m current.snapshot t → HasDistinctPaths t.rows → length t.rows ≤ MAX_LIVE_FILES → IsSnapshotRefusal files m version current.snapshot e → TellsNumber e which number → Past
  snapshot_number version t e of distinct few (inl refused) tells =
      let limit = told_limit (version_path version) (IsPlanFault m current.snapshot) which number e refused tells in
      absurd (plan_or_fault m current.snapshot current.plan (fault.Limit limit.0) current.says.planned limit.3)
  snapshot_number version t e of distinct few (inr (other, planned, refused)) tells =
      let same : other ≡ current.plan = once.plan_once m current.snapshot other current.plan planned current.says.planned in
      listed t e of distinct few (subst (λ (p : Plan). IsListedRefusal files m p e) same refused) tells

-- ---- a target that is read

module _ (source : Kind) (files : Files) (v : View) (which : LimitKind) (number : ℕ) (few : length v.table.rows ≤ MAX_LIVE_FILES) (ours : IsOurs files v) where
  says_at : (version : ℕ) → IsNewest (HasVersion files) version → SaysMetadata files version ours.metadata
  says_at version newest = subst (λ (n : ℕ). SaysMetadata files n ours.metadata) (newest_once (HasVersion files) v.commits version ours.newest newest) ours.says

  past_version : (version : ℕ) (e : IcebergError) → IsRefusedVersion files version e → TellsNumber e which number → ⊥
  past_version version e refused tells = version_number files version ours.metadata which number e (says_at version refused.0) refused.1 tells

  past_snapshot : (e : IcebergError) → IsRefusedSnapshot source files e → TellsNumber e which number → HasLargeFile files ours.metadata ours.current which number ⊎ HasManyEntries files ours.metadata ours.current which number
  past_snapshot e h tells =
      let same : h.metadata ≡ ours.metadata = once.metadata_once files h.version h.metadata ours.metadata h.newest.1 (says_at h.version h.newest.0) in
      let at : IsCurrent ours.metadata h.snapshot = subst (λ (m : Metadata). IsCurrent m h.snapshot) same h.form.0 in
      let snapshot : h.snapshot ≡ ours.current.snapshot = once.current_once ours.metadata h.snapshot ours.current.snapshot at ours.current.current in
      let refused = subst (λ (s : Snapshot). IsSnapshotRefusal files ours.metadata h.version s e) snapshot (subst (λ (m : Metadata). IsSnapshotRefusal files m h.version h.snapshot e) same h.refused) in
      snapshot_number files ours.metadata ours.current which number h.version v.table e ours.table ours.distinct few refused tells

-- Of a target with few rows that is absent or ours, the folder has too many names, a file too many bytes, or the manifests too many entries, where
-- inspecting it passes a number.
pub crowded_by : (source : Kind) (files : Files) (v : View) (which : LimitKind) (number : ℕ) → Reads files v → length v.table.rows ≤ MAX_LIVE_FILES → IsCrowded source files which number → IsPast files v which number
crowded_by source files v which number reads few (inl names) = inl names
crowded_by source files v which number (inl none) few (inr (inl (version, e, refused, tells))) = absurd (none.0.versions version refused.0.there)
crowded_by source files v which number (inl none) few (inr (inr (e, refused, tells))) = absurd (none.0.versions refused.version refused.newest.0.there)
crowded_by source files v which number (inr ours) few (inr (inl (version, e, refused, tells))) = absurd (past_version source files v which number few ours version e refused tells)
crowded_by source files v which number (inr ours) few (inr (inr (e, refused, tells))) = inr (ours, past_snapshot source files v which number few ours e refused tells)
