-- What stays true of the newest version of an Iceberg target while commits are published.
use Rattle.std.proofs.Common.{◌≡◌, ◌⊎◌, inl, inr, ℕ, zero, suc, ◌+◌, ◌≤◌, ◌<◌, List, [], ◌∷◌, length, take, Contains, Ok, refl, sym, ap, subst, ◌∙◌, arith}
use Rattle.std.specs.FinMap as map
use Rattle.std.proofs.lemmas.Option.{same_Some}
use Rattle.lake_basics.specs.Outcome.{required}
use Rattle.lake_basics.specs.declared.limits.TheConstants.{MAX_ICEBERG_VERSION}
use Rattle.lake_basics.proofs.Steps.{bind_ok, required_some}
use Rattle.lake_store.specs.Disk.{Files}
use Rattle.table_history.specs.declared.feature.Feature.TheVariants as feature
use Rattle.table_history.specs.declared.table.Commit.{Commit}
use Rattle.iceberg_metadata.specs.Paths.{held_schema}
use Rattle.iceberg_metadata.specs.Reading.{IsRead}
use Rattle.iceberg_metadata.specs.Schemas.{HeldSchema}
use Rattle.iceberg_metadata.specs.Writing.{SameMetadata, metadata_text}
use Rattle.iceberg_metadata.specs.declared.metadata.Metadata.{Metadata}
use Rattle.iceberg_metadata.specs.declared.metadata.Snapshot.{Snapshot}
use Rattle.iceberg_metadata_reading.proofs.ReadLemmas.{read_found}
use Rattle.iceberg_table.specs.Files.{SaysMetadata}
use Rattle.iceberg_table.specs.Folder.{HasVersion, IsNewest, version_path}
use Rattle.iceberg_table.specs.Plan.{snapshot_schema}
use Rattle.iceberg_table.specs.declared.error.Fault.TheVariants as fault
use Rattle.iceberg_table.proofs.OnceLaws.{newest_once}
use Rattle.iceberg_table.proofs.PlanLaws.{in_schemas}
use Rattle.iceberg_version.specs.KeptEnd.{end_of, view_of}
use Rattle.iceberg_version.specs.Writing.{no_version}
use Rattle.iceberg_version.specs.declared.kept.IcebergKept.{IcebergKept}
use Rattle.iceberg_commit.specs.NextVersion.{VersionFiles, version_files}
use Rattle.target_core.specs.Views.{Origin, View}
use Rattle.target_core.specs.Written.{AreWritten}
use Rattle.target_core.proofs.Unpublished.{no_commits}
use Rattle.target_iceberg.proofs.CommitFiles.{newest_now}
use Rattle.target_iceberg.proofs.WrittenFiles.{metadata_at}
use Rattle.target_iceberg.specs.AlikeLemmas.{held_ours}
use Rattle.target_iceberg.specs.CountLemmas.{commits_read}
use Rattle.target_iceberg.specs.Kept.{HoldsEnd, IsFirst, StandsFor}
use Rattle.target_iceberg.specs.KeptLemmas.{kept_counted}
use Rattle.target_iceberg.specs.OnceLemmas.{read_once}
use Rattle.target_iceberg.specs.Publishing.{IsAside, IsOther}
use Rattle.target_iceberg.specs.Reached.{IsReached}
use Rattle.target_iceberg.specs.Reading.{IsAbsent, IsOurs, Reads}
use Rattle.target_iceberg.specs.SameLemmas.{SameReached, files_back, newest_too, version_reached}
use Rattle.target_iceberg.specs.Writes.{Writes}
use Rattle.target_iceberg.specs.declared.target.IcebergTarget.{IcebergTarget}
use Rattle.target_sync.specs.Dues.{Due, origin_of}
use Rattle.target_sync.specs.Sources.{SourceMeaning}
use Rattle.target_sync.specs.Synced.{with_columns}
use Rattle.target_sync.specs.Targets.{HaveWritten, IsKept, TargetFacts, target_facts}
use Rattle.target_sync.specs.declared.plan.Mode.{Mode}
use Rattle.lake_play.specs.Formats.{to_iceberg}
use Rattle.lake_play.proofs.Gains.{HasCome, StaysOrComes}
use Rattle.lake_play.proofs.Once.{advanced_count}

-- ---- files of one newest version

-- What the versions of the one reach the other has too, byte for byte, and its newest version is theirs.
pub record SameNewest (a b : Files) : Type 0 where
  pub files : (path : List ℕ) → IsReached a path → map.get b path ≡ map.get a path
  pub newest : (version : ℕ) → IsNewest (HasVersion b) version → IsNewest (HasVersion a) version

pub reached_newest : (a b : Files) → SameReached a b → SameNewest a b
reached_newest a b same = let back = files_back a b same in record { files = same.files; newest = λ version newest. newest_too b a back version newest }

-- What stands for files has their newest version.
pub version_by : (files : Files) (view : View) (n : ℕ) → Reads files view → IsNewest (HasVersion files) n → view.commits ≡ n
version_by files view n (inl h) newest = absurd (h.0.versions n newest.there)
version_by files view n (inr h) newest = newest_once (HasVersion files) view.commits n h.newest newest

-- So are files in which just what commits reach is left, where they have as many versions.
pub left_newest : (id location : List ℕ) (last : IcebergKept) (left files : Files) → StandsFor id location last left → ((path : List ℕ) → IsReached left path → map.get files path ≡ map.get left path) → (view : View) → Reads files view → view.commits ≡ last.version → SameNewest left files
left_newest id location last left files stands same view reads count = record { files = same; newest = λ version newest. back version newest reads stands.reads (version_by files view version reads newest) }
  where
    some_by : (version : ℕ) → IsNewest (HasVersion files) version → Reads files view → view.commits ≡ version → 0 < version
    some_by version newest (inl none) here = absurd (none.0.versions version newest.there)
    some_by version newest (inr ours) here = let some = ours.first in omega (arith, some, here)

    back : (version : ℕ) → IsNewest (HasVersion files) version → Reads files view → Reads left (view_of last) → view.commits ≡ version → IsNewest (HasVersion left) version
    back version newest shown (inl none) here =
        let some = some_by version newest shown here in
        let nothing : last.version ≡ 0 = no_commits (view_of last) none.1 in
        absurd (omega (arith, some, nothing, count, here))
    back version newest shown (inr ours) here = subst (IsNewest (HasVersion left)) (sym count ∙ here) ours.newest

-- ---- facts about the metadata of the newest version

-- The newest version, if there is one, has metadata of which this is true.
abbrev pub OfNewest : (ℕ → Metadata → Type 0) → Files → Type 0
OfNewest Q files = (version : ℕ) (m : Metadata) → IsNewest (HasVersion files) version → SaysMetadata files version m → Q version m

pub of_same : (Q : ℕ → Metadata → Type 0) (a b : Files) → SameNewest a b → OfNewest Q a → OfNewest Q b
of_same Q a b same holds version m newest says =
    let there = same.newest version newest in
    holds version m there (metadata_at b a version m (sym (same.files (version_path version) (version_reached a version there.there))) says)

pub of_none : (Q : ℕ → Metadata → Type 0) (files : Files) → IsAbsent files → OfNewest Q files
of_none Q files none version m newest says = absurd (none.versions version newest.there)

-- the order of properties doesn't count in it
abbrev pub IsAlike : (ℕ → Metadata → Type 0) → Type 0
IsAlike Q = (version : ℕ) (m n : Metadata) → SameMetadata m n → Q version n → Q version m

module _ (Q : ℕ → Metadata → Type 0) (alike : IsAlike Q) (id location : List ℕ) (first : Q 0 (no_version id location)) (kept : IcebergKept) (files : Files) (stands : StandsFor id location kept files) (holds : OfNewest Q files) where
  by_end : IsFirst files id location kept ⊎ HoldsEnd files kept → Q kept.version kept.metadata
  by_end (inl h) = subst (λ (n : ℕ). Q n kept.metadata) (sym h.version) (subst (Q 0) (sym h.metadata) first)
  by_end (inr h) = alike kept.version kept.metadata h.metadata h.same (holds kept.version h.metadata (held_ours files kept h stands.reads).newest h.says)

  -- It is true of what is kept.
  pub of_kept : Q kept.version kept.metadata
  of_kept = by_end stands.end

-- the schema that a snapshot names is held
named_in : (m : Metadata) (s : Snapshot) (held : HeldSchema) → snapshot_schema m s ≡ Ok held → Contains m.schemas held
named_in m s held is =
    let found = bind_ok (required (fault.Unsupported feature.NoSchemaId) s.schema_id) (λ id. required fault.Malformed (held_schema m.schemas id)) held is in
    in_schemas m.schemas found.0 held (required_some fault.Malformed (held_schema m.schemas found.0) held found.2)

ours_by : (kept : IcebergKept) (files : Files) → Reads files (view_of kept) → 0 < kept.version → IsOurs files (view_of kept)
ours_by kept files (inl h) some = let none : kept.version ≡ 0 = no_commits (view_of kept) h.1 in absurd (omega (arith, some, none))
ours_by kept files (inr h) some = h

-- The table has a schema that the newest version holds, where a commit is published.
pub table_held : (P : HeldSchema → Type 0) (id location : List ℕ) (kept : IcebergKept) (files : Files) → StandsFor id location kept files → OfNewest (λ version m. (s : HeldSchema) → Contains m.schemas s → P s) files → 0 < kept.version
    → (s : HeldSchema) × P s × (kept.table.schema ≡ s.1)
table_held P id location kept files stands holds some =
    let is = ours_by kept files stands.reads some in
    let planned = is.table.planned in
    (planned.held, holds kept.version is.metadata is.newest is.says planned.held (named_in is.metadata is.current.snapshot planned.held planned.named), is.table.schema ∙ planned.schema)

-- ---- one commit

module _ (id location : List ℕ) (kept : IcebergKept) (before after : Files) (origin : Origin) (now : ℕ) (commit : Commit) (stands : StandsFor id location kept before) (writes : Writes (end_of kept) before origin now commit after)
    (within : kept.version + 1 ≤ MAX_ICEBERG_VERSION) where
  abbrev made : VersionFiles
  made = version_files (end_of kept) writes.written

  others : (path : List ℕ) → IsOther made path → map.get after path ≡ map.get before path
  others path other = writes.others path other.version (λ same. other.aside (IsAside.list same)) (λ number under same. other.aside (IsAside.manifest number under same)) (λ same. other.aside (IsAside.staged same))

  pub newest_behind : IsNewest (HasVersion after) (kept.version + 1)
  newest_behind = newest_now before after made within others kept.version (metadata_text writes.written.metadata) refl writes.metadata (kept_counted id location kept before stands)

  -- its metadata is what is read of the text
  pub again_is : (m : Metadata) → SaysMetadata after (kept.version + 1) m → m ≡ writes.back.metadata.0
  again_is m says =
      let again = writes.back.metadata in
      let text = metadata_text writes.written.metadata in
      let bytes : says.bytes ≡ text = same_Some says.bytes text (sym says.holds ∙ writes.metadata) in
      read_once text m again.0 (subst (λ (b : List ℕ). IsRead b m) bytes says.read) (read_found text again.0 again.1)

  -- What is true of the metadata that is read again is true of the newest version's.
  pub of_behind : (Q : ℕ → Metadata → Type 0) → Q (kept.version + 1) writes.back.metadata.0 → OfNewest Q after
  of_behind Q is version m newest says =
      let here : kept.version + 1 ≡ version = newest_once (HasVersion after) (kept.version + 1) version newest_behind newest in
      let own : SaysMetadata after (kept.version + 1) m = subst (λ (n : ℕ). SaysMetadata after n m) (sym here) says in
      subst (λ (n : ℕ). Q n m) here (subst (Q (kept.version + 1)) (sym (again_is m own)) is)

-- ---- commits one behind the other

module _ (May : ℕ → Commit → Type 0) where
  -- Each of these commits may be published behind so many.
  abbrev pub AllMay : ℕ → List Commit → Type 0
  AllMay version [] = Unit {0}
  AllMay version (commit ∷ commits) = May version commit × AllMay (version + 1) commits

  pub first_may : (n version : ℕ) (commits : List Commit) → AllMay version commits → AllMay version (take n commits)
  first_may zero version commits all = tt
  first_may (suc n) version [] all = tt
  first_may (suc n) version (commit ∷ commits) all = (all.0, first_may n (version + 1) commits all.1)

module _ (Holds : Files → Type 0) (May : ℕ → Commit → Type 0) (id location : List ℕ) (origin : Origin) (now : ℕ) where
  -- Where that is true of files, it is true behind such a commit.
  abbrev pub IsStep : Type 0
  IsStep = (kept : IcebergKept) (before after : Files) (commit : Commit) → StandsFor id location kept before → Writes (end_of kept) before origin now commit after → kept.version + 1 ≤ MAX_ICEBERG_VERSION → May kept.version commit → Holds before → Holds after

  -- It is true behind the commits, and there is a version for each.
  pub record IsAlong (version : ℕ) (last : IcebergKept) (files : Files) : Type 0 where
    pub holds : Holds files
    pub stands : StandsFor id location last files
    pub version_is : last.version ≡ version

  pub along : IsStep → (commits : List Commit) (kept : IcebergKept) (before : Files) → StandsFor id location kept before → Holds before → AllMay May kept.version commits → kept.version + length commits ≤ MAX_ICEBERG_VERSION → (last : IcebergKept) (after : Files)
      → AreWritten (StandsFor id location) (λ here from commit to. Writes (end_of here) from origin now commit to) kept before commits last after → IsAlong (kept.version + length commits) last after
  along step [] kept before stands holds may within last after is = record {
    holds = subst Holds (sym is.1) holds;
    stands = subst (λ (files : Files). StandsFor id location last files) (sym is.1) (subst (λ (k : IcebergKept). StandsFor id location k before) (sym is.0) stands);
    version_is = let same : last.version ≡ kept.version = ap (λ (k : IcebergKept). k.version) is.0 in omega (arith, same);
  }
  along step (commit ∷ commits) kept before stands holds may within last after is =
      let next = is.0 in
      let middle = is.1 in
      let room : kept.version + 1 ≤ MAX_ICEBERG_VERSION = omega (arith, within) in
      let one : next.version ≡ kept.version + 1 = version_by middle (view_of next) (kept.version + 1) is.3.reads (newest_behind id location kept before middle origin now commit stands is.2 room) in
      let count : kept.version + length (commit ∷ commits) ≡ next.version + length commits = omega (arith, one) in
      let rest = along step commits next middle is.3 (step kept before middle commit stands is.2 room may.0 holds) (subst (λ (v : ℕ). AllMay May v commits) (sym one) may.1) (omega (arith, within, count)) last after is.4 in
      record { holds = rest.holds; stands = rest.stands; version_is = rest.version_is ∙ sym count }

-- ---- what a sync publishes

module _ (Holds : Files → Type 0) (May : ℕ → Commit → Type 0) (same_holds : (a b : Files) → SameNewest a b → Holds a → Holds b) (source : SourceMeaning) (t : IcebergTarget) (mode : Mode) (now : ℕ) (start : View) (before after : Files) (reads : Reads before start) where
  abbrev facts : TargetFacts
  facts = target_facts to_iceberg t

  room : (v : View) (n : ℕ) → Reads after v → v.commits ≡ n → n ≤ MAX_ICEBERG_VERSION
  room v n (inl nothing) same = let no = no_commits v nothing.1 in omega (arith, no, same)
  room v n (inr ours) same = let low = ours.newest.there.2.within in omega (arith, low, same)

  -- It is true behind the commits that have come.
  pub come_holds : Holds before → ((origin : Origin) → IsStep Holds May t.id t.location origin now) → ((due : Due source mode before start) (kept : IcebergKept) → StandsFor t.id t.location kept before → AllMay May kept.version due.commits) → HasCome source facts mode now start before after → Holds after
  come_holds holds step may come =
      let cs = take come.count come.due.commits in
      let left = come.left.0 in
      let all : (kept : IcebergKept) × IsKept to_iceberg t before come.due.partition kept × HaveWritten to_iceberg t kept before (origin_of come.due) now cs left = come.left.1 in
      let kept = all.0 in
      let stands : StandsFor t.id t.location kept before = all.1.0 in
      let view = come.gained.view in
      let count : view.commits ≡ start.commits + length cs = advanced_count facts.files.image (origin_of come.due) (with_columns come.due.partition start) view cs come.gained.leads in
      let first : start.commits ≡ kept.version = sym (commits_read before start reads) ∙ commits_read before (view_of kept) stands.reads in
      let end = along Holds May t.id t.location (origin_of come.due) now (step (origin_of come.due)) cs kept before stands holds (first_may May come.count kept.version come.due.commits (may come.due kept stands))
      (room view (kept.version + length cs) come.gained.stands (omega (arith, count, first))) all.2.0 left all.2.1 in
      let last = end.version_is in
      same_holds left after (left_newest t.id t.location all.2.0 left after end.stands come.left.2 view come.gained.stands (omega (arith, count, first, last))) end.holds

  -- Where each commit that is due may be published, it is true behind the sync.
  pub sync_holds : Holds before → ((origin : Origin) → IsStep Holds May t.id t.location origin now) → ((due : Due source mode before start) (kept : IcebergKept) → StandsFor t.id t.location kept before → AllMay May kept.version due.commits)
      → StaysOrComes source facts mode now start before after → Holds after
  sync_holds holds step may (inl same) = subst Holds (sym same) holds
  sync_holds holds step may (inr come) = come_holds holds step may come
