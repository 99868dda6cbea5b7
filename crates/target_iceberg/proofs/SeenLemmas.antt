-- What an Iceberg target stands at, by its names and its newest version.
use Rattle.std.proofs.Common.{◌≡◌, ◌≢◌, ◌<◌, inl, inr, ⊎_elim, ℕ, List, [], ◌∷◌, ◌++◌, Contains, Option, Some, None, refl, sym, ap, subst, ◌∙◌, arith}
use Rattle.std.specs.declared.alloc.AllocError.{AllocError}
use Rattle.std.specs.Prelude.{IfErr, IfOk, IsErrOf, MatchOption, Result, Ok, Err}
use Rattle.std.specs.Cmp.Lexicographic.{slice_cmp}
use Rattle.std.specs.Fmt.{decimal}
use Rattle.std.specs.List.{AllByRecursion}
use Rattle.std.specs.List.Sorted.{IsStrictlySortedBy}
use Rattle.std.specs.Option.{option_map}
use Rattle.std.specs.Ordering.{nat_cmp}
use Rattle.std.specs.declared.cmp.Ordering.{Ordering}
use Rattle.std.specs.declared.cmp.Ordering.TheVariants.{Less}
use Rattle.std.proofs.lemmas.List.Elements.{Contains-append_cases, Contains-append_right}
use Rattle.std.proofs.lemmas.List.Sorted.{IsPermutation-refl}
use Rattle.std.proofs.lemmas.Option.{none-some, same_Some}
use Rattle.lake_basics.specs.declared.limits.TheConstants.{MAX_NAMES}
use Rattle.lake_store.specs.Cause.{HasFault, HasNoContest}
use Rattle.lake_store.specs.Disk.{Files, ListsFolder, names_in}
use Rattle.lake_store.proofs.OrderLaws.{names_in_listed}
use Rattle.table_history.specs.declared.kind.Kind.{Kind}
use Rattle.table_history.specs.declared.limit.LimitKind.{LimitKind}
use Rattle.table_history.specs.declared.limit.LimitKind.TheVariants.{File, Names}
use Rattle.table_history.specs.declared.table.Table.{Table}
use Rattle.table_history.proofs.RowListLemmas.{Contains-cases, Contains-head, all_at}
use Rattle.partition_map.proofs.KindLemmas.{kind_exactly}
use Rattle.iceberg_ancestry.specs.Ancestry.{held_at}
use Rattle.iceberg_metadata.specs.Writing.{SameMetadata}
use Rattle.iceberg_metadata.specs.declared.metadata.Metadata.{Metadata}
use Rattle.iceberg_metadata.specs.declared.metadata.Snapshot.{Snapshot}
use Rattle.iceberg_table.specs.Errors.{IsFileFault, IsRefusal}
use Rattle.iceberg_table.specs.Files.{SaysMetadata}
use Rattle.iceberg_table.specs.Folder.{HasVersion, IsNewest, metadata_folder, path_of, version_path}
use Rattle.iceberg_table.specs.Refusals.{HasManyNames, IsMetadataFault, IsSnapshotRefusal}
use Rattle.iceberg_table.specs.Snapshots.{IsReadAs, IsTableOfSnapshot}
use Rattle.iceberg_table.specs.Tables.{IsTableOfSnapshots}
use Rattle.iceberg_table.specs.declared.error.Fault.TheVariants as fault
use Rattle.iceberg_table.specs.declared.error.IcebergError.{IcebergError}
use Rattle.iceberg_table.specs.declared.error.IcebergError.TheVariants as error
use Rattle.iceberg_table.specs.declared.snapshot.SnapshotTable.{SnapshotTable}
use Rattle.iceberg_version.specs.declared.kept.IcebergKept.{IcebergKept}
use Rattle.iceberg_version.specs.KeptEnd.{view_of}
use Rattle.target_iceberg.specs.Leftovers.{IsLeftoverName}
use Rattle.iceberg_version.specs.Writing.{mark_property}
use Rattle.target_core.specs.Conditions.{IsPublishable}
use Rattle.target_core.specs.Mark.{IsMark, IsMarkText}
use Rattle.target_core.specs.Refusals.{IsInspectRefusal, IsOfInspect}
use Rattle.target_core.specs.SeenView.{IsSeen, IsSeenSound}
use Rattle.target_core.specs.Views.{Standing, standing_of}
use Rattle.target_core.specs.declared.mark.Mark.{Mark}
use Rattle.target_core.specs.declared.target.Seen.{Seen}
use Rattle.target_core.specs.declared.target.Seen.TheVariants.{Absent, Ours, Foreign}
use Rattle.target_core.specs.declared.target.TargetError.{TargetError}
use Rattle.target_core.specs.declared.target.TargetError.TheVariants as target
use Rattle.target_core.proofs.Texts.{turned}
use Rattle.target_iceberg.specs.Inspecting.{HasForm, IsCrowded, IsFirstStray, IsForeign, IsNewestRead, IsOfThis, TellsNumber, faulty_path}
use Rattle.target_iceberg.specs.InspectSteps.{IsFirstOf, IsKeptBy, IsOursBy, IsOwnMark, IsOwnVersion, IsSeenIn, told_of}
use Rattle.target_iceberg.specs.Kept.{HoldsEnd, StandsFor}
use Rattle.target_iceberg.specs.Reading.{HasMark, IsAbsent, IsCurrent, IsOurs, Reads, SaysCurrent, property}

-- ---- the mark

module _ (source : Kind) (version : ℕ) (m : Metadata) where
  this_of : (mark : Mark) → IsOwnMark source version m mark → IsOfThis source version m
  this_of mark own = (own.first, (standing_of mark, record { mark = mark; has = own.has; at = own.at; is = refl }, own.source_is))

  own_of : (this : IsOfThis source version m) → IsOwnMark source version m this.1.1.mark
  own_of this = record {
    first = this.0;
    has = this.1.1.has;
    at = this.1.1.at;
    source_is = ap (λ (s : Standing). s.origin.source) this.1.1.is ∙ this.1.2;
  }

-- ---- a version that isn't ours

module _ (files : Files) (source : Kind) (version : ℕ) (m : Metadata) (newest : IsNewestRead files version m) where
  not_ours : ((s : Snapshot) → IsOfThis source version m × HasForm version m s → ⊥) → IsForeign source files (version_path version)
  not_ours cause = inr (inr (inl (record { version = version; metadata = m; newest = newest; is = refl; cause = cause })))

  pub unmarked : ((mark : Mark) → IsOwnVersion source version m mark → ⊥) → IsForeign source files (version_path version)
  unmarked none = not_ours (λ s both. none both.0.1.1.mark (own_of source version m both.0, both.1.1))

  pub without_current : held_at m.snapshots m.current_snapshot ≡ None → IsForeign source files (version_path version)
  without_current none = not_ours (λ s both. no_snapshot s (sym none ∙ both.1.0))
    where
      no_snapshot : (s : Snapshot) → None ≡ Some s → ⊥
      no_snapshot s e = absurd cc

  pub foreign_seen : (P : IcebergKept → Type 0) (r : Result (Seen IcebergKept) TargetError) → IfOk r (λ seen. seen ≡ Foreign (version_path version)) → IsForeign source files (version_path version) → IfOk r (IsSeen (Reads files) (IsForeign source files) view_of P source)
  foreign_seen P (Ok seen) is foreign = subst (IsSeen (Reads files) (IsForeign source files) view_of P source) (sym is) foreign
  foreign_seen P (Err e) is foreign = tt

pub foreign_sound : (source : Kind) (path : List ℕ) (r : Result (Seen IcebergKept) TargetError) → IfOk r (λ seen. seen ≡ Foreign path) → IfOk r (IsSeenSound view_of source)
foreign_sound source path (Ok seen) is = subst (IsSeenSound view_of source) (sym is) tt
foreign_sound source path (Err e) is = tt

-- ---- why it isn't read

module _ (files : Files) (source : Kind) (Shows : IcebergError → Type 0) where
  pub told_seen : ((path : List ℕ) (e : IcebergError) → Shows e → faulty_path e ≡ Some path → IsForeign source files path) → (P : IcebergKept → Type 0) (e : IcebergError) → IsRefusal Shows e → IfOk (told_of e) (IsSeen (Reads files) (IsForeign source files) view_of P source)
  told_seen foreign P error.Memory shows = tt
  told_seen foreign P error.StoreFault shows = tt
  told_seen foreign P error.ManyNames shows = tt
  told_seen foreign P (error.Missing path) shows = foreign path (error.Missing path) shows refl
  told_seen foreign P (error.Large path) shows = tt
  told_seen foreign P (error.Refused path fault.Malformed) shows = foreign path (error.Refused path fault.Malformed) shows refl
  told_seen foreign P (error.Refused path (fault.Unsupported feature)) shows = foreign path (error.Refused path (fault.Unsupported feature)) shows refl
  told_seen foreign P (error.Refused path (fault.Limit which)) shows = tt

  pub told_refusal : ((which : LimitKind) (number : ℕ) (e : IcebergError) → Shows e → TellsNumber e which number → IsCrowded source files which number) → (e : IcebergError) → IsRefusal Shows e → IfErr (told_of e) (IsInspectRefusal (IsCrowded source files))
  told_refusal crowded error.Memory shows = tt
  told_refusal crowded error.StoreFault shows = tt
  told_refusal crowded error.ManyNames shows = crowded Names MAX_NAMES error.ManyNames shows (refl, refl)
  told_refusal crowded (error.Missing path) shows = tt
  told_refusal crowded (error.Large path) shows = crowded File _ (error.Large path) shows (refl, refl)
  told_refusal crowded (error.Refused path fault.Malformed) shows = tt
  told_refusal crowded (error.Refused path (fault.Unsupported feature)) shows = tt
  told_refusal crowded (error.Refused path (fault.Limit which)) shows = crowded which _ (error.Refused path (fault.Limit which)) shows (refl, refl)

pub names_foreign : (files : Files) (source : Kind) (path : List ℕ) (e : IcebergError) → HasManyNames files e → faulty_path e ≡ Some path → IsForeign source files path
names_foreign files source path error.Memory many is = absurd many
names_foreign files source path error.StoreFault many is = absurd many
names_foreign files source path error.ManyNames many is = absurd (none-some path is)
names_foreign files source path (error.Missing p) many is = absurd many
names_foreign files source path (error.Large p) many is = absurd many
names_foreign files source path (error.Refused p f) many is = absurd many

pub names_crowded : (files : Files) (source : Kind) (which : LimitKind) (number : ℕ) (e : IcebergError) → HasManyNames files e → TellsNumber e which number → IsCrowded source files which number
names_crowded files source which number error.Memory many tells = absurd many
names_crowded files source which number error.StoreFault many tells = absurd many
names_crowded files source which number error.ManyNames many tells = inl (tells.0, tells.1, many)
names_crowded files source which number (error.Missing p) many tells = absurd many
names_crowded files source which number (error.Large p) many tells = absurd many
names_crowded files source which number (error.Refused p f) many tells = absurd many

module _ (files : Files) (source : Kind) (version : ℕ) (newest : IsNewest (HasVersion files) version) where
  pub version_foreign : (path : List ℕ) (e : IcebergError) → IsFileFault files (version_path version) IsMetadataFault e → faulty_path e ≡ Some path → IsForeign source files path
  version_foreign path e shows is = inr (inl (version, e, (newest, shows), is))

  pub version_crowded : (which : LimitKind) (number : ℕ) (e : IcebergError) → IsFileFault files (version_path version) IsMetadataFault e → TellsNumber e which number → IsCrowded source files which number
  version_crowded which number e shows tells = inr (inl (version, e, (newest, shows), tells))

module _ (files : Files) (source : Kind) (version : ℕ) (m : Metadata) (newest : IsNewestRead files version m) (mark : Mark) (own : IsOwnVersion source version m mark) (s : Snapshot) (current : IsCurrent m s) where
  pub snapshot_foreign : (path : List ℕ) (e : IcebergError) → IsSnapshotRefusal files m version s e → faulty_path e ≡ Some path → IsForeign source files path
  snapshot_foreign path e shows is = inr (inr (inr (e, record { version = version; metadata = m; newest = newest; mark = this_of source version m mark own.0; snapshot = s; form = (current, own.1); refused = shows }, is)))

  pub snapshot_crowded : (which : LimitKind) (number : ℕ) (e : IcebergError) → IsSnapshotRefusal files m version s e → TellsNumber e which number → IsCrowded source files which number
  snapshot_crowded which number e shows tells = inr (inr (e, record { version = version; metadata = m; newest = newest; mark = this_of source version m mark own.0; snapshot = s; form = (current, own.1); refused = shows }, tells))

  -- ---- ours

  module _ (read : SnapshotTable) (reads : IsReadAs files m s read) (table : IsTableOfSnapshot files m s read.table) (kept : IcebergKept) (k : IsKeptBy version m mark read kept) where
    says_current : SaysCurrent files m
    says_current = record {
      snapshot = s;
      current = current;
      plan = reads.0;
      list = reads.2.list;
      manifests = read.manifests;
      says = record { planned = reads.1; says = reads.2.says; are = reads.2.manifests; distinct = reads.2.table.distinct };
    }

    view_is : view_of kept ≡ record { commits = version; mark = Some (standing_of mark); table = read.table }
    view_is = λ i. record { commits = k.version_is i; mark = option_map standing_of (k.marked i); table = k.table i }

    ours : IsOurs files (record { commits = version; mark = Some (standing_of mark); table = read.table })
    ours = record {
      first = own.0.first;
      newest = newest.0;
      metadata = m;
      says = newest.1;
      standing = standing_of mark;
      mark = refl;
      marked = record { mark = mark; has = own.0.has; at = own.0.at; is = refl };
      form = own.1;
      current = record {
        snapshot = s;
        current = current;
        plan = reads.0;
        list = reads.2.list;
        manifests = read.manifests;
        says = record { planned = reads.1; says = reads.2.says; are = reads.2.manifests; distinct = reads.2.table.distinct };
      };
      table = table;
      distinct = reads.2.table.own;
    }

    same_metadata : SameMetadata kept.metadata m
    same_metadata = subst (λ (n : Metadata). SameMetadata n m) (sym k.metadata) (record { others = refl; properties = IsPermutation-refl m.properties })

    holds_end : HoldsEnd files kept
    holds_end = record {
      metadata = m;
      says = subst (λ (v : ℕ). SaysMetadata files v m) (sym k.version_is) newest.1;
      same = same_metadata;
      mark = mark;
      marked = k.marked;
      has = own.0.has;
      at = own.0.at ∙ ap decimal (sym k.version_is);
      current = record {
        snapshot = s;
        current = current;
        plan = reads.0;
        list = reads.2.list;
        manifests = read.manifests;
        says = record { planned = reads.1; says = reads.2.says; are = reads.2.manifests; distinct = reads.2.table.distinct };
      };
      manifests = k.linked.each;
      own = k.linked.own;
    }

    pub ours_seen : (id location : List ℕ) → IsSeen (Reads files) (IsForeign source files) view_of (λ (x : IcebergKept). StandsFor id location x files) source (Ours kept)
    ours_seen id location = (record { reads = subst (Reads files) (sym view_is) (inr ours); end = inr holds_end }, (standing_of mark, ap (λ (o : Option Mark). option_map standing_of o) k.marked, own.0.source_is))

  -- and where all that is seen is ours
  pub seen_ours : (read : SnapshotTable) → IsReadAs files m s read → IsTableOfSnapshot files m s read.table → (id location : List ℕ) (r : Result (Seen IcebergKept) TargetError) → IfOk r (IsOursBy version m mark read)
      → IfOk r (IsSeen (Reads files) (IsForeign source files) view_of (λ (x : IcebergKept). StandsFor id location x files) source)
  seen_ours read reads table id location (Ok Absent) is = absurd is
  seen_ours read reads table id location (Ok (Ours kept)) is = ours_seen read reads table kept is id location
  seen_ours read reads table id location (Ok (Foreign path)) is = absurd is
  seen_ours read reads table id location (Err e) is = tt

-- ---- what may be published

publishable : (table : Table) → IsTableOfSnapshots table → IsPublishable table
publishable table is = record {
  sound = is.sound;
  paths = is.paths;
  live_files = is.live_files;
  partition_columns = is.partition_columns;
  partition_distinct = is.partition_distinct;
  partition_kinds = λ name there. (kind_exactly table.schema name).0 (is.partition_kinds name there);
  schema = is.schema;
  size = is.size;
}

pub ours_sound : (source : Kind) (version : ℕ) (m : Metadata) (mark : Mark) (read : SnapshotTable) (kept : IcebergKept) → IsOwnMark source version m mark → IsTableOfSnapshots read.table → IsKeptBy version m mark read kept → IsSeenSound view_of source (Ours kept)
ours_sound source version m mark read kept own table k = (
  subst (λ (v : ℕ). 0 < v) (sym k.version_is) own.first,
  subst IsPublishable (sym k.table) (publishable read.table table),
  (standing_of mark, ap (λ (o : Option Mark). option_map standing_of o) k.marked, own.source_is),
)

pub all_ours_sound : (source : Kind) (version : ℕ) (m : Metadata) (mark : Mark) (read : SnapshotTable) → IsOwnMark source version m mark → IsTableOfSnapshots read.table → (r : Result (Seen IcebergKept) TargetError) → IfOk r (IsOursBy version m mark read) → IfOk r (IsSeenSound view_of source)
all_ours_sound source version m mark read own table (Ok Absent) is = absurd is
all_ours_sound source version m mark read own table (Ok (Ours kept)) is = ours_sound source version m mark read kept own table is
all_ours_sound source version m mark read own table (Ok (Foreign path)) is = absurd is
all_ours_sound source version m mark read own table (Err e) is = tt

-- ---- a folder without a version

abbrev cmp : List ℕ → List ℕ → Ordering
cmp = slice_cmp nat_cmp

sorted_behind : (front : List (List ℕ)) (name : List ℕ) (behind : List (List ℕ)) → IsStrictlySortedBy cmp (front ++ name ∷ behind) → AllByRecursion (λ z. cmp name z ≡ Less) behind
unfolding IsStrictlySortedBy
sorted_behind [] name behind sorted = sorted.0
sorted_behind (x ∷ front) name behind sorted = sorted_behind front name behind sorted.1

module _ (files : Files) (none : (v : ℕ) → HasVersion files v → ⊥) where
  abbrev listed : ListsFolder files metadata_folder (names_in files metadata_folder)
  listed = names_in_listed files metadata_folder

  absent_here : ((name : List ℕ) → Contains (names_in files metadata_folder) name → IsLeftoverName name) → IsAbsent files
  absent_here all = record { versions = none; names = λ name proper there. all name ((listed.members name).1 (proper, there)) }

  stray_here : (name : List ℕ) → IsFirstOf (names_in files metadata_folder) name → IsFirstStray files (path_of name)
  stray_here name is =
      let within : Contains (names_in files metadata_folder) name = subst (λ (l : List (List ℕ)). Contains l name) (sym is.split) (Contains-append_right is.front (name ∷ is.behind) name (Contains-head name is.behind)) in
      let there = (listed.members name).0 within in
      let behind = sorted_behind is.front name is.behind (subst (IsStrictlySortedBy cmp) is.split listed.sorted) in
      record {
        versions = none;
        name = name;
        is = refl;
        stray = record { proper = there.0; there = there.1; other = is.stray };
        first = λ other stray less. ⊎_elim
            (λ before. stray.other (is.earlier other before))
            (λ later. ⊎_elim
            (λ (same : name ≡ other). turned name name (subst (λ (o : List ℕ). cmp o name ≡ Less) (sym same) less) (subst (λ (o : List ℕ). cmp o name ≡ Less) (sym same) less))
            (λ past. turned name other (all_at (λ z. cmp name z ≡ Less) is.behind other behind past) less)
            (Contains-cases name is.behind other later))
            (Contains-append_cases is.front (name ∷ is.behind) other (subst (λ (l : List (List ℕ)). Contains l other) is.split ((listed.members other).1 (stray.proper, stray.there))));
      }

  seen_here : (source : Kind) (P : IcebergKept → Type 0) (seen : Seen IcebergKept) → IsSeenIn (names_in files metadata_folder) seen → IsSeen (Reads files) (IsForeign source files) view_of P source seen
  seen_here source P Absent is = inl (absent_here is, refl)
  seen_here source P (Ours kept) is = absurd is
  seen_here source P (Foreign path) is = inl (subst (IsFirstStray files) (sym is.2) (stray_here is.0 is.1))

  pub unpublished_here : (source : Kind) (P : IcebergKept → Type 0) (names : List (List ℕ)) → names ≡ names_in files metadata_folder → (r : Result (Seen IcebergKept) TargetError) → IfOk r (IsSeenIn names) → IfOk r (IsSeen (Reads files) (IsForeign source files) view_of P source)
  unpublished_here source P names are (Ok seen) is = seen_here source P seen (subst (λ (l : List (List ℕ)). IsSeenIn l seen) are is)
  unpublished_here source P names are (Err e) is = tt

pub unpublished_sound : (source : Kind) (names : List (List ℕ)) (r : Result (Seen IcebergKept) TargetError) → IfOk r (IsSeenIn names) → IfOk r (IsSeenSound view_of source)
unpublished_sound source names (Ok Absent) is = tt
unpublished_sound source names (Ok (Ours kept)) is = absurd is
unpublished_sound source names (Ok (Foreign path)) is = tt
unpublished_sound source names (Err e) is = tt

-- ---- want of memory

pub memory_refusal : (crowded : LimitKind → ℕ → Type 0) (r : Result (Seen IcebergKept) TargetError) → IfErr r (λ e. e ≡ target.Memory) → IfErr r (IsInspectRefusal crowded)
memory_refusal crowded (Ok seen) memory = tt
memory_refusal crowded (Err e) memory = subst (IsInspectRefusal crowded) (sym memory) tt

pub memory_few : (r : Result (Seen IcebergKept) TargetError) → IfErr r (λ e. e ≡ target.Memory) → IfErr r IsOfInspect
memory_few (Ok seen) memory = tt
memory_few (Err e) memory = subst IsOfInspect (sym memory) tt

pub no_refusal : (other : TargetError) → other ≢ target.Memory → (r : Result (Seen IcebergKept) TargetError) → IfErr r (λ e. e ≡ target.Memory) → IsErrOf r other → ⊥
no_refusal other apart (Ok seen) memory is = absurd cc
no_refusal other apart (Err e) memory is = let same : e ≡ other = cc in apart (sym same ∙ memory)

-- ---- what the store counts

module _ {S : Type 0} (count : S → ℕ) (may : S → Type 0) (old new : S) where
  -- fewer refusals have the same cause
  pub cause_of : (Refused Fewer : Type 0) → (Fewer → Refused) → HasFault count may old new Refused → HasFault count may old new Fewer
  cause_of Refused Fewer from run = record { later = run.later; still = run.still; rose = λ is. run.rose (from is); allowed = λ is. run.allowed (from is) }

  pub contest_of : (Refused Fewer : Type 0) → (Fewer → ⊥) → HasNoContest count may old new Refused → HasNoContest count may old new Fewer
  contest_of Refused Fewer none run = record { same = run.same; still = run.still; never = none }

  module _ (r : Result (Seen IcebergKept) TargetError) (memory : IfErr r (λ e. e ≡ target.Memory)) where
    no_fault : IsErrOf r target.StoreFault → ⊥
    no_fault = no_refusal target.StoreFault (λ same. absurd cc) r memory

    pub memory_cause : (Refused : Type 0) → HasFault count may old new Refused → HasFault count may old new (IsErrOf r target.StoreFault)
    memory_cause Refused run = cause_of Refused (IsErrOf r target.StoreFault) (λ is. absurd (no_fault is)) run

    pub memory_contest : (Refused : Type 0) → HasNoContest count may old new Refused → HasNoContest count may old new (IsErrOf r target.Contested)
    memory_contest Refused run = contest_of Refused (IsErrOf r target.Contested) (no_refusal target.Contested (λ same. absurd cc) r memory) run

module _ {S : Type 0} (count : S → ℕ) (may : S → Type 0) (here : S) where
  pub nothing_failed : HasFault count may here here ⊥
  nothing_failed = record { later = omega arith; still = λ m. m; rose = λ never. absurd never; allowed = λ never. absurd never }

  pub nothing_contested : HasNoContest count may here here ⊥
  nothing_contested = record { same = refl; still = λ m. m; never = λ never. never }

-- ---- the mark of a text

pub mark_read : (m : Metadata) (text : List ℕ) → property mark_property m.properties ≡ Some text → (r : Result (Option Mark) AllocError) → IfOk r (λ o. IsMark text o) → IfOk r (λ o. MatchOption o ((mark : Mark) → HasMark m mark → ⊥) (HasMark m))
mark_read m text found (Ok None) none = λ mark has. none mark (subst (λ (t : List ℕ). IsMarkText t mark) (same_Some has.text text (sym has.found ∙ found)) has.reads)
mark_read m text found (Ok (Some mark)) is = record { text = text; found = found; reads = is }
mark_read m text found (Err e) is = tt
