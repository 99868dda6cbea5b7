-- A file of an Iceberg target that is read isn't refused too.
use Rattle.std.proofs.Common.{◌≡◌, inl, inr, ℕ, ℤ, List, ◌∷◌, ◌++◌, length, Contains, Option, Some, None, Err, refl, sym, ap, subst, ◌∙◌, append_assoc, arith}
use Rattle.std.specs.List.{filter}
use Rattle.std.proofs.lemmas.Grind.{flat_map-append}
use Rattle.std.proofs.lemmas.List.{append_cancel_left}
use Rattle.std.proofs.lemmas.List.Elements.{Contains-append_right}
use Rattle.std.proofs.lemmas.Option.{none-some}
use Rattle.lake_store.specs.Disk.{Files}
use Rattle.avro_value.specs.declared.api.TheConstants.{MAX_VALUES}
use Rattle.table_history.specs.Path.{IsPath, IsPathOfAnyLength}
use Rattle.table_history.specs.Rows.{HasDistinctPaths}
use Rattle.table_history.proofs.RowListLemmas.{Contains-head}
use Rattle.iceberg_manifest.specs.Entry.{EntryData}
use Rattle.iceberg_manifest.specs.Lists.{AreEach}
use Rattle.iceberg_live.specs.Live.{IsInherited, IsRowOf}
use Rattle.iceberg_manifest.specs.Entry.{is_live}
use Rattle.iceberg_live.specs.LiveRows.{AreLiveRows, HasFault, IsFirstFault, LacksNumber}
use Rattle.iceberg_metadata.specs.Location.{front_of}
use Rattle.iceberg_live.specs.MetadataPaths.{HasPathFault, IsMetadataPath}
use Rattle.iceberg_manifest.specs.Scans.{infos_of}
use Rattle.iceberg_manifest.specs.declared.error.ManifestError.{ManifestError}
use Rattle.iceberg_manifest.specs.declared.error.ManifestError.TheVariants as manifest
use Rattle.iceberg_manifest.specs.declared.info.ManifestInfo.{ManifestInfo}
use Rattle.iceberg_live.specs.declared.live.LiveRow.{LiveRow}
use Rattle.iceberg_manifest.specs.declared.partition.PartColumn.{PartColumn}
use Rattle.iceberg_manifest_feeding.proofs.OrderLaws.{read_or_refused}
use Rattle.iceberg_ancestry.specs.Ancestry.{FormsCycle}
use Rattle.iceberg_metadata.specs.Reading.{HasCause, causes}
use Rattle.iceberg_metadata.specs.Schemas.{HeldSchema}
use Rattle.iceberg_columns.specs.SourceColumns.{columns_of}
use Rattle.iceberg_metadata.specs.declared.metadata.Metadata.{Metadata}
use Rattle.iceberg_metadata.specs.declared.metadata.Snapshot.{Snapshot}
use Rattle.iceberg_metadata_reading.proofs.ReadLemmas.{first_not_none}
use Rattle.iceberg_table.specs.Errors.{IsFileFault, IsTold}
use Rattle.iceberg_table.specs.Files.{HoldsFile, SaysMetadata}
use Rattle.iceberg_table.specs.Folder.{version_path}
use Rattle.iceberg_table.specs.Lists.{AreRows, IsListFault, IsListed, IsRowFault, SaysList}
use Rattle.iceberg_table.specs.Manifests.{AreEntries, HasEntries, IsManifestFault, IsManifestOf, IsManifestRefusal}
use Rattle.iceberg_table.specs.Order.{StopsAt}
use Rattle.iceberg_table.specs.Plan.{IsPlanFault, IsPlanOf, snapshot_schema}
use Rattle.iceberg_table.specs.Refusals.{IsMetadataFault}
use Rattle.iceberg_table.specs.Tables.{rows_in, rows_of}
use Rattle.iceberg_table.specs.declared.error.Fault.{Fault}
use Rattle.iceberg_table.specs.declared.error.Fault.TheVariants as fault
use Rattle.iceberg_table.specs.declared.error.IcebergError.{IcebergError}
use Rattle.iceberg_table.specs.declared.error.IcebergError.TheVariants as error
use Rattle.iceberg_table.specs.declared.list.ManifestFile.{ManifestFile}
use Rattle.iceberg_table.specs.declared.manifest.Manifest.{Manifest}
use Rattle.iceberg_table.specs.declared.plan.Plan.{Plan}
use Rattle.iceberg_table.proofs.EachLaws.{each_of}
use Rattle.iceberg_table.proofs.ManifestLaws.{held_once}
use Rattle.iceberg_table.proofs.OnceLaws.{rows_once}
use Rattle.iceberg_table.proofs.PieceLaws.{as_file_fault}
use Rattle.iceberg_table.proofs.RowLaws.{distinct_front}
use Rattle.target_iceberg.specs.Inspecting.{faulty_path}
use Rattle.target_iceberg.specs.OnceLemmas.{entries_once, ok_or_err, read_once, stands_or_refused}
use Rattle.lake_basics.proofs.Options.{none_or_some, ok_once, some_once}

-- ---- what is told of a refusal

-- The fault is that of a file, and no number that is passed.
abbrev pub IsOfFile : Fault → Type 0
IsOfFile fault.Malformed = Unit {0}
IsOfFile (fault.Unsupported feature) = Unit {0}
IsOfFile (fault.Limit which) = ⊥

pub told_of_file : (path told : List ℕ) (f : Fault) → faulty_path (error.Refused path f) ≡ Some told → IsOfFile f
told_of_file path told fault.Malformed is = tt
told_of_file path told (fault.Unsupported feature) is = tt
told_of_file path told (fault.Limit which) is = none-some told is

pub told_path : (path told : List ℕ) (f : Fault) → faulty_path (error.Refused path f) ≡ Some told → told ≡ path
told_path path told fault.Malformed is = some_once (Some path) told path is refl
told_path path told (fault.Unsupported feature) is = some_once (Some path) told path is refl
told_path path told (fault.Limit which) is = absurd (none-some told is)

-- The path that is told of a file's refusal is the file's.
pub file_told : (files : Files) (path told : List ℕ) (Shows : List ℕ → Fault → Type 0) (e : IcebergError) → IsFileFault files path Shows e → faulty_path e ≡ Some told → told ≡ path
file_told files path told Shows error.Memory h is = absurd h
file_told files path told Shows error.StoreFault h is = absurd h
file_told files path told Shows error.ManyNames h is = absurd h
file_told files path told Shows (error.Missing p) h is = some_once (Some p) told p is refl ∙ h.0
file_told files path told Shows (error.Large p) h is = absurd (none-some told is)
file_told files path told Shows (error.Refused p f) h is = told_path p told f is ∙ h.0

-- A file whose bytes show nothing isn't refused.
pub shows_none : (files : Files) (path bytes told : List ℕ) (Shows : List ℕ → Fault → Type 0) (e : IcebergError) → HoldsFile files path bytes → ((f : Fault) → IsOfFile f → Shows bytes f → ⊥) → IsFileFault files path Shows e → faulty_path e ≡ Some told → ⊥
shows_none files path bytes told Shows error.Memory holds none h is = h
shows_none files path bytes told Shows error.StoreFault holds none h is = h
shows_none files path bytes told Shows error.ManyNames holds none h is = h
shows_none files path bytes told Shows (error.Missing p) holds none h is = none_or_some _ bytes h.1 holds
shows_none files path bytes told Shows (error.Large p) holds none h is = none-some told is
shows_none files path bytes told Shows (error.Refused p f) holds none h is =
    none f (told_of_file p told f is) (subst (λ (bs : List ℕ). Shows bs f) (held_once files path h.1 bytes h.2 holds) h.3)

-- What is told for a fault of what files say has this path.
pub told_at : (path told : List ℕ) (Shows : Fault → Type 0) (e : IcebergError) → IsTold path Shows e → faulty_path e ≡ Some told → told ≡ path
told_at path told Shows e h is = told_path path told h.0 (sym (ap faulty_path h.1) ∙ is)

pub told_none : (path told : List ℕ) (Shows : Fault → Type 0) (e : IcebergError) → ((f : Fault) → IsOfFile f → Shows f → ⊥) → IsTold path Shows e → faulty_path e ≡ Some told → ⊥
told_none path told Shows e none h is = none h.0 (told_of_file path told h.0 (sym (ap faulty_path h.1) ∙ is)) h.2

-- ---- metadata

module _ (files : Files) (version : ℕ) (m : Metadata) (says : SaysMetadata files version m) where
  metadata_or_fault : (f : Fault) → IsMetadataFault says.bytes f → ⊥
  metadata_or_fault f (inl (e, first, is)) = first_not_none (HasCause says.bytes) causes e first says.supported
  metadata_or_fault f (inr (n, is, none, cycle, told)) = says.acyclic (subst FormsCycle (read_once says.bytes n m is says.read) cycle)

  pub version_or_fault : (told : List ℕ) (e : IcebergError) → IsFileFault files (version_path version) IsMetadataFault e → faulty_path e ≡ Some told → ⊥
  version_or_fault told e fault is = shows_none files (version_path version) says.bytes told IsMetadataFault e says.holds (λ f _ shows. metadata_or_fault f shows) fault is

-- ---- what metadata says of a snapshot

path_or_fault : (location file path : List ℕ) (e : ManifestError) → IsMetadataPath location file path → HasPathFault location file e → ⊥
path_or_fault location file path manifest.Malformed is fault = fault.2 (subst IsPath (append_cancel_left (front_of location) path fault.0 (sym is.place ∙ fault.1)) is.form)
path_or_fault location file path manifest.OutsideTable is fault = fault.1 path is.place is.within
path_or_fault location file path manifest.Memory is fault = fault
path_or_fault location file path manifest.Codec is fault = fault
path_or_fault location file path manifest.RowDeletes is fault = fault
path_or_fault location file path manifest.FileFormat is fault = fault
path_or_fault location file path (manifest.Limit which) is fault = fault

pub plan_or_fault : (m : Metadata) (s : Snapshot) (plan : Plan) (f : Fault) → IsPlanOf m s plan → IsPlanFault m s f → ⊥
plan_or_fault m s plan f is (inl (e, path, told)) = path_or_fault m.location s.list plan.list e is.list path
plan_or_fault m s plan f is (inr (path, found, inl schema)) = ok_or_err (snapshot_schema m s) is.held f is.named schema
plan_or_fault m s plan f is (inr (path, found, inr (held, named, (e, columns, told)))) =
    let same : held ≡ is.held = ok_once (snapshot_schema m s) held is.held named is.named in
    ok_or_err (columns_of m is.held) plan.columns e is.columns (subst (λ (h : HeldSchema). columns_of m h ≡ Err e) same columns)

-- ---- lists

pub row_or_fault : (m : Metadata) (info : ManifestInfo) (file : ManifestFile) (f : Fault) → IsListed m info file → IsRowFault m info f → ⊥
row_or_fault m info file f is (inl (e, path, told)) = path_or_fault m.location info.manifest_path file.path e is.path path
row_or_fault m info file f is (inr (path, found, inl (other, told))) = other is.spec
row_or_fault m info file f is (inr (path, found, inr (same, deletes, told))) = is.deletes deletes

-- the item at which a list stops
pub stop_in : {A B E : Type 0} (Found : A → B → Type 0) (Refused : List B → A → E → Type 0) (items : List A) (e : E) (stops : StopsAt Found Refused items e) → Contains items stops.item
stop_in {A} Found Refused items e stops = subst (λ (l : List A). Contains l stops.item) (sym stops.split) (Contains-append_right stops.front (stops.item ∷ stops.behind) stops.item (Contains-head stops.item stops.behind))

rows_or_fault : (m : Metadata) (bytes : List ℕ) (infos : List ManifestInfo) (list : List ManifestFile) (f : Fault) → AreRows bytes infos → AreEach (IsListed m) infos list → IsListFault m bytes f → ⊥
rows_or_fault m bytes infos list f rows listed (inl (e, refused, told)) = stands_or_refused MAX_VALUES infos_of bytes infos e rows refused
rows_or_fault m bytes infos list f rows listed (inr (others, are, stops)) =
    let same : others ≡ infos = rows_once bytes others infos are rows in
    let there = subst (λ (is : List ManifestInfo). Contains is stops.item) same (stop_in (IsListed m) (λ found. IsRowFault m) others f stops) in
    let found = each_of (IsListed m) infos list stops.item listed there in
    row_or_fault m stops.item found.0 f found.2 stops.refused

pub list_or_fault : (files : Files) (m : Metadata) (path told : List ℕ) (list : List ManifestFile) (e : IcebergError) → SaysList files m path list → IsFileFault files path (IsListFault m) e → faulty_path e ≡ Some told → ⊥
list_or_fault files m path told list e says fault is = shows_none files path says.bytes told (IsListFault m) e says.holds (λ f _ shows. rows_or_fault m says.bytes says.infos list f says.rows says.listed shows) fault is

-- ---- manifests

inherits : (status : ℕ) (o : Option ℤ) (from n : ℤ) → IsInherited status o from n → status ≡ 0 → o ≡ None → ⊥
inherits status o from n (inl is) zero_status none = none_or_some o n none is
inherits status o from n (inr (null, one, is)) zero_status none = omega (arith, one, zero_status)

numbers_or_lacks : (location : List ℕ) (info : ManifestInfo) (e : EntryData) (live : LiveRow) → IsRowOf location info e live → LacksNumber e → ⊥
numbers_or_lacks location info e live is (existing, inl null) = inherits e.status e.snapshot info.added_snapshot_id live.snapshot is.snapshot existing null
numbers_or_lacks location info e live is (existing, inr (inl null)) = inherits e.status e.sequence info.sequence_number live.sequence is.sequence existing null
numbers_or_lacks location info e live is (existing, inr (inr null)) = inherits e.status e.file_sequence info.sequence_number is.file_sequence.0 is.file_sequence.1 existing null

row_or_entry_fault : (location : List ℕ) (info : ManifestInfo) (e : EntryData) (live : LiveRow) (f : ManifestError) → IsRowOf location info e live → HasFault location e f → ⊥
row_or_entry_fault location info e live manifest.Malformed is (inl lacks) = numbers_or_lacks location info e live is lacks
row_or_entry_fault location info e live manifest.Malformed is (inr (rest, place, none)) =
    none (subst IsPathOfAnyLength (append_cancel_left (front_of location) live.row.path rest (sym is.place ∙ place)) is.path.form)
row_or_entry_fault location info e live manifest.OutsideTable is fault = fault.1 live.row.path is.place
row_or_entry_fault location info e live (manifest.Limit which) is (numbers, told, (rest, place, form, long)) =
    let short = is.path.short in
    let same = ap (λ (path : List ℕ). length path) (append_cancel_left (front_of location) live.row.path rest (sym is.place ∙ place)) in
    omega (arith, long, short, same)
row_or_entry_fault location info e live manifest.Memory is fault = fault
row_or_entry_fault location info e live manifest.Codec is fault = fault
row_or_entry_fault location info e live manifest.RowDeletes is fault = fault
row_or_entry_fault location info e live manifest.FileFormat is fault = fault

live_or_fault : (location : List ℕ) (info : ManifestInfo) (entries : List EntryData) (rows : List LiveRow) (e : ManifestError) → AreLiveRows location info entries rows → IsFirstFault location info entries e → ⊥
live_or_fault location info entries rows e are first =
    let there = subst (λ (es : List EntryData). Contains es first.entry) (sym first.split) (Contains-append_right first.before (first.entry ∷ first.after) first.entry (Contains-head first.entry first.after)) in
    let found = each_of (IsRowOf location info) (filter is_live entries) rows first.entry are there in
    row_or_entry_fault location info first.entry found.0 e found.2 first.fault

entries_or_fault : (location : List ℕ) (columns : List PartColumn) (before : ℕ) (file : ManifestFile) (bytes : List ℕ) (entries : List EntryData) (rows : List LiveRow) (f : Fault) → IsOfFile f → AreEntries columns bytes entries → AreLiveRows location file.info entries rows
    → IsManifestFault location columns before file bytes f → ⊥
entries_or_fault location columns before file bytes entries rows f of_file are live (inl (e, refused, told)) = read_or_refused columns bytes entries e are refused
entries_or_fault location columns before file bytes entries rows f of_file are live (inr (others, says, inl (many, told))) = subst IsOfFile told of_file
entries_or_fault location columns before file bytes entries rows f of_file are live (inr (others, says, inr (few, e, first, told))) =
    let same : others ≡ entries = entries_once columns bytes others entries says are in
    live_or_fault location file.info entries rows e live (subst (λ (es : List EntryData). IsFirstFault location file.info es e) same first)

-- The path that is told of a manifest's refusal is the manifest's.
pub manifest_told : (files : Files) (location : List ℕ) (columns : List PartColumn) (before : ℕ) (file : ManifestFile) (e : IcebergError) (told : List ℕ) → IsManifestRefusal files location columns before file e → faulty_path e ≡ Some told → told ≡ file.path
manifest_told files location columns before file e told refusal is = file_told files file.path told (IsManifestFault location columns before file) e (as_file_fault files location columns before file e refusal) is

module _ (files : Files) (location : List ℕ) (columns : List PartColumn) (before : ℕ) (file : ManifestFile) (told : List ℕ) (e : IcebergError) where
  has_or_fault : (n : ℕ) (rows : List LiveRow) → HasEntries files location columns (record { file = file; entries = n; rows = rows }) → IsManifestRefusal files location columns before file e → faulty_path e ≡ Some told → ⊥
  has_or_fault n rows h fault is =
      shows_none files file.path h.says.bytes told (IsManifestFault location columns before file) e h.says.holds
      (λ f of_file shows. entries_or_fault location columns before file h.says.bytes h.entries rows f of_file h.says.are h.rows shows) (as_file_fault files location columns before file e fault) is

  pub manifest_or_fault : (r : Manifest) → IsManifestOf files location columns file r → IsManifestRefusal files location columns before file e → faulty_path e ≡ Some told → ⊥
  manifest_or_fault r (same, inl (zero, h)) fault is = has_or_fault r.entries r.rows (subst (λ (f : ManifestFile). HasEntries files location columns (record { file = f; entries = r.entries; rows = r.rows })) same h) fault is
  manifest_or_fault r (same, inr (other, h, none)) fault is = has_or_fault r.entries h.0 (subst (λ (f : ManifestFile). HasEntries files location columns (record { file = f; entries = r.entries; rows = h.0 })) same h.1) fault is

-- ---- the rows of manifests

rows_behind : (found : List Manifest) (r : Manifest) (rest : List Manifest) → rows_of (found ++ r ∷ rest) ≡ (rows_of found ++ rows_in r.rows) ++ rows_of rest
rows_behind found r rest = flat_map-append (λ (m : Manifest). rows_in m.rows) found (r ∷ rest) ∙ sym (append_assoc (rows_of found) (rows_in r.rows) (rows_of rest))

-- Of rows with distinct paths those of a first part have distinct paths.
pub shares_none : (found : List Manifest) (r : Manifest) (rest : List Manifest) → HasDistinctPaths (rows_of (found ++ r ∷ rest)) → HasDistinctPaths (rows_of found ++ rows_in r.rows)
shares_none found r rest distinct = distinct_front (rows_of found ++ rows_in r.rows) (rows_of rest) (subst HasDistinctPaths (rows_behind found r rest) distinct)
