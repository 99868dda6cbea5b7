-- What the files of a Delta target stand for: one view at most, by the versions alone, and through a crash.
use Rattle.std.proofs.Common.{◌≡◌, ◌⊎◌, inl, inr, ⊎_elim, ℕ, suc, ◌≤◌, List, Option, Some, None, Contains, refl, sym, ap, subst, ◌∙◌, arith}
use Rattle.std.specs.Prelude.{IsSome, Ok}
use Rattle.std.proofs.lemmas.Bool.{cases_lt, false≢true}
use Rattle.std.specs.FinMap as map
use Rattle.std.specs.FinSet as set
use Rattle.std.specs.Ordering.{nat_cmp}
use Rattle.std.specs.Cmp.Lexicographic.{slice_cmp}
use Rattle.lake_store.specs.Disk.{Disk, Files, IsClean}
use Rattle.lake_store.specs.Runs.{IsIn}
use Rattle.table_history.specs.Row.{Row}
use Rattle.table_history.specs.TypeTree.{ColumnTrees}
use Rattle.table_history.specs.declared.table.Change.{Change}
use Rattle.table_history.specs.Tables.{SameTable}
use Rattle.delta_live.specs.Live.{AddsRow, PartColumns, ArePartColumns}
use Rattle.delta_change.specs.TableBehind.{Spells}
use Rattle.delta_log.specs.declared.commit.DeltaCommit.{DeltaCommit}
use Rattle.delta_log.specs.declared.commit.FileAction.{FileAction}
use Rattle.delta_log.specs.declared.commit.FileAction.TheVariants as file
use Rattle.delta_log.specs.declared.commit.MetaData.{MetaData}
use Rattle.schema_delta.specs.Delta.{delta_schema_of}
use Rattle.delta_table.specs.Log.{IsLog, SaysCommit}
use Rattle.delta_table.specs.Versions.{HasVersion, IsVersionPath, log_folder}
use Rattle.delta_table.proofs.LogLaws.{live_rows}
use Rattle.delta_table.proofs.PathLaws.{says_once}
use Rattle.target_core.specs.Changes.{SameRowChange}
use Rattle.target_core.specs.Folders.{MayLeaveIn, SameIn, after_crash}
use Rattle.target_core.specs.Views.{IsPublished, IsUnpublished, SameView, Standing, View, absent, standing_of}
use Rattle.target_core.specs.Mark.{IsMarkText}
use Rattle.target_core.specs.declared.mark.Mark.{Mark}
use Rattle.target_core.proofs.Marks.{one_mark}
use Rattle.target_core.proofs.StoreAnswers.{dirty_or_clean}
use Rattle.target_core.proofs.Unpublished.{no_commits}
use Rattle.target_delta.specs.Names.{HasVersions, IsLeftoverName, IsReached, IsSettled, path_of}
use Rattle.target_delta.specs.Reading.{HasMark, IsAbsent, IsCarried, IsMarkAt, IsOurs, Reads, mark_setting, setting}
use Rattle.delta_table.specs.Log.{IsStep}
use Rattle.delta_table.specs.SameVersions.{SameVersions, has_too, log_too, own_versions, says_too, version_in, versions_sym}
use Rattle.target_delta.specs.NameLemmas.{name_in, never_leftover, same_behind}
use Rattle.target_delta.specs.LogLemmas.{id_below, one_columns, one_table}
use Rattle.lake_basics.proofs.Options.{none_there, some_there}

-- ---- one of each

pub one_mark_of : (commit : DeltaCommit) (m n : Mark) → HasMark commit m → HasMark commit n → m ≡ n
one_mark_of commit m n h k =
    let metas : Some h.meta ≡ Some k.meta = sym h.stated ∙ k.stated in
    let meta : h.meta ≡ k.meta = cc in
    let texts : Some h.text ≡ Some k.text = sym h.found ∙ ap (λ (d : MetaData). setting mark_setting d.configuration) meta ∙ k.found in
    let text : h.text ≡ k.text = cc in
    one_mark k.text m n (subst (λ (t : List ℕ). IsMarkText t m) text h.reads) k.reads

pub one_standing : (files : Files) (version : ℕ) (s t : Standing) → IsMarkAt files version s → IsMarkAt files version t → s ≡ t
one_standing files version s t h k =
    let commits : h.commit ≡ k.commit = says_once files version h.commit k.commit h.read k.read in
    let marks : h.mark ≡ k.mark = one_mark_of k.commit h.mark k.mark (subst (λ (c : DeltaCommit). HasMark c h.mark) commits h.has) k.has in
    sym h.is ∙ ap standing_of marks ∙ k.is

pub one_count : (files : Files) (n m : ℕ) → HasVersions files n → HasVersions files m → n ≡ m
one_count files n m h k =
    elim (cases_lt n m) [
      | inl lt ↦ absurd (h.none n (omega arith) (k.there n lt))
      | inr le ↦ elim (cases_lt m n) [
        | inl lt ↦ absurd (k.none m (omega arith) (h.there m lt))
        | inr ge ↦ omega arith
      ]
    ]

pub absent_or_ours : (files : Files) (view : View) → IsAbsent files → IsOurs files view → ⊥
absent_or_ours files view none ours = none.versions ours.newest (ours.versions.there ours.newest (omega arith))

ours_one : (files : Files) (v w : View) → IsOurs files v → IsOurs files w → SameView v w
ours_one files v w a b =
    let counts : suc a.newest ≡ suc b.newest = one_count files (suc a.newest) (suc b.newest) a.versions b.versions in
    let newest : a.newest ≡ b.newest = cc in
    let table : SameTable v.table w.table = one_table files (suc b.newest) (Some v.table) (Some w.table) (subst (λ (n : ℕ). IsLog files n (Some v.table)) counts a.log) b.log in
    let standing : a.standing ≡ b.standing = one_standing files b.newest a.standing b.standing (subst (λ (n : ℕ). IsMarkAt files n a.standing) newest a.marked) b.marked in
    record {
      commits = a.count ∙ counts ∙ sym b.count;
      mark = a.mark ∙ ap (λ (s : Standing). Some s) standing ∙ sym b.mark;
      rows = table.rows;
      partition = table.partition;
      schema = table.schema;
    }

pub one_view : (files : Files) (v w : View) → Reads files v → Reads files w → SameView v w ⊎ (IsUnpublished v × IsUnpublished w)
one_view files v w (inl a) (inl b) = inr (a.1, b.1)
one_view files v w (inl a) (inr b) = absurd (absent_or_ours files w a.0 b)
one_view files v w (inr a) (inl b) = absurd (absent_or_ours files v b.0 a)
one_view files v w (inr a) (inr b) = inl (ours_one files v w a b)

-- ---- absent

pub absent_any : (files : Files) (p q : List (List ℕ)) → Reads files (absent p) → Reads files (absent q)
absent_any files p q (inl a) = inl (a.0, refl)
absent_any files p q (inr b) = absurd (let count = b.count in omega (arith, count))

pub published : (files : Files) (v : View) → Reads files v → IsUnpublished v ⊎ IsPublished v
published files v (inl a) = inl a.1
published files v (inr b) = inr (let count = b.count in omega (arith, count), (b.standing, b.mark))

-- ---- what a version carries

one_spelled : (m n : MetaData) (s t : ColumnTrees) → m ≡ n → Spells m s → Spells n t → s ≡ t
one_spelled m n s t same h k =
    let both : Ok s ≡ Ok t = sym h ∙ ap (λ (d : MetaData). delta_schema_of d.schema) same ∙ k in
    cc

adds_of : (c d : DeltaCommit) → c ≡ d → (columns others : PartColumns) → columns ≡ others → (row : Row) → (f : FileAction) × Contains c.files f × AddsRow columns f row → (f : FileAction) × Contains d.files f × AddsRow others f row
adds_of c d same columns others alike row h =
    (h.0, subst (λ (e : DeltaCommit). Contains e.files h.0) same h.1, subst (λ (cs : PartColumns). AddsRow cs h.0 row) alike h.2)

pub one_change : (new : List ℕ) (files : Files) (number : ℕ) (a b : Change) (s t : Standing) → IsCarried new files number a s → IsCarried new files number b t → SameRowChange a b × (s ≡ t)
one_change new files number a b s t h k =
    let numbers : suc h.version ≡ suc k.version = sym h.is ∙ k.is in
    let version : h.version ≡ k.version = cc in
    let read : SaysCommit files k.version h.commit = subst (λ (n : ℕ). SaysCommit files n h.commit) version h.read in
    let commits : h.commit ≡ k.commit = says_once files k.version h.commit k.commit read k.read in
    let metas : Some h.meta ≡ Some k.meta = sym h.stated ∙ ap (λ (c : DeltaCommit). c.meta) commits ∙ k.stated in
    let meta : h.meta ≡ k.meta = cc in
    let schema : h.schema ≡ k.schema = one_spelled h.meta k.meta h.schema k.schema meta h.spelled k.spelled in
    let columns : h.columns ≡ k.columns = one_columns k.schema k.meta.partition h.columns k.columns
    (subst (λ (m : MetaData). ArePartColumns k.schema m.partition h.columns) meta (subst (λ (c : ColumnTrees). ArePartColumns c h.meta.partition h.columns) schema h.kinds)) k.kinds in
    let standing : s ≡ t = one_standing files k.version s t (subst (λ (n : ℕ). IsMarkAt files n s) version h.marked) k.marked in (
      record {
        added = λ row. (
          λ is. (k.adds row).1 (adds_of h.commit k.commit commits h.columns k.columns columns row ((h.adds row).0 is)),
          λ is. (h.adds row).1 (adds_of k.commit h.commit (sym commits) k.columns h.columns (sym columns) row ((k.adds row).0 is)),
        );
        gone = λ path. (
          λ is. (k.removes path).1 (subst (λ (c : DeltaCommit). Contains c.files (file.Remove path)) commits ((h.removes path).0 is)),
          λ is. (h.removes path).1 (subst (λ (c : DeltaCommit). Contains c.files (file.Remove path)) (sym commits) ((k.removes path).0 is)),
        );
      },
      standing,
    )

pub carries_within : (new : List ℕ) (files : Files) (v : View) (number : ℕ) (change : Change) (s : Standing) → Reads files v → IsCarried new files number change s → number ≤ v.commits
carries_within new files v number change s (inl a) h = absurd (a.0.versions h.version (h.read.bytes, h.read.holds))
carries_within new files v number change s (inr b) h =
    let is = h.is in
    let count = b.count in
    elim (cases_lt h.version (suc b.newest)) [
      | inl lt ↦ omega (arith, lt, is, count)
      | inr le ↦ absurd (b.versions.none h.version le (h.read.bytes, h.read.holds))
    ]

pub newest : (new : List ℕ) (files : Files) (v : View) (change : Change) (s : Standing) → Reads files v → IsCarried new files v.commits change s → v.mark ≡ Some s
newest new files v change s (inl a) h = let none = no_commits v a.1 in let is = h.is in absurd (omega (arith, none, is))
newest new files v change s (inr b) h =
    let same : b.newest ≡ h.version = let count = b.count in let is = h.is in omega (arith, count, is) in
    b.mark ∙ ap (λ (t : Standing). Some t) (one_standing files h.version b.standing s (subst (λ (n : ℕ). IsMarkAt files n b.standing) same b.marked) h.marked)

-- ---- other files with the same versions

module _ (a b : Files) (same : SameVersions a b) where
  pub marked_too : (version : ℕ) (s : Standing) → IsMarkAt a version s → IsMarkAt b version s
  marked_too version s h = record { commit = h.commit; read = says_too a b same version h.commit h.read; mark = h.mark; has = h.has; at = h.at; is = h.is }

  pub versions_too : (n : ℕ) → HasVersions a n → HasVersions b n
  versions_too n h = record {
    within = h.within;
    there = λ version lt. has_too a b same version (h.there version lt);
    none = λ version le has. h.none version le (has_too b a (versions_sym a b same) version has);
  }

  pub ours_too : (v : View) → IsOurs a v → IsOurs b v
  ours_too v h =
      let log : IsLog b (suc h.newest) (Some v.table) = log_too a b same IsStep (suc h.newest) (Some v.table) h.log in
      record {
        newest = h.newest;
        count = h.count;
        versions = versions_too (suc h.newest) h.versions;
        log = log;
        live = live_rows b (suc h.newest) v.table log;
        standing = h.standing;
        mark = h.mark;
        marked = marked_too h.newest h.standing h.marked;
      }

  pub carried_too : (new : List ℕ) (number : ℕ) (change : Change) (s : Standing) → IsCarried new a number change s → IsCarried new b number change s
  carried_too new number change s h = record {
    version = h.version;
    is = h.is;
    commit = h.commit;
    read = says_too a b same h.version h.commit h.read;
    meta = h.meta;
    stated = h.stated;
    keeps = id_below new a b h.version h.meta.id (λ path v lt is. same path v is) h.keeps;
    schema = h.schema;
    spelled = h.spelled;
    columns = h.columns;
    kinds = h.kinds;
    adds = h.adds;
    removes = h.removes;
    marked = marked_too h.version s h.marked;
  }

  pub absent_too : IsAbsent a → ((name : List ℕ) → IsSome (map.get b (path_of name)) → IsLeftoverName name ⊎ IsSome (map.get a (path_of name))) → IsAbsent b
  absent_too h names = record {
    versions = λ version has. h.versions version (has_too b a (versions_sym a b same) version has);
    names = λ name proper there. ⊎_elim (λ left. left) (λ was. h.names name proper was) (names name there);
  }

  pub reads_too : (v : View) → ((name : List ℕ) → IsSome (map.get b (path_of name)) → IsLeftoverName name ⊎ IsSome (map.get a (path_of name))) → Reads a v → Reads b v
  reads_too v names (inl h) = inl (absent_too h.0 names, h.1)
  reads_too v names (inr h) = inr (ours_too v h)

-- ---- the same folder

pub reads_own : (a b : Files) (v : View) → SameIn log_folder a b → Reads a v → Reads b v
reads_own a b v same h = reads_too a b (own_versions a b same) v (λ name there. inr (subst (λ (o : Option (List ℕ)). IsSome o) (same (path_of name) (name_in name)) there)) h

pub carries_own : (new : List ℕ) (a b : Files) (number : ℕ) (change : Change) (s : Standing) → SameIn log_folder a b → IsCarried new a number change s → IsCarried new b number change s
carries_own new a b number change s same h = carried_too a b (own_versions a b same) new number change s h

-- ---- settled

pub version_clean : (disk : Disk) (path : List ℕ) (version : ℕ) → IsSettled disk → IsVersionPath path version → IsClean disk path
version_clean disk path version settled is =
    ⊎_elim (λ dirty. absurd (never_leftover path version is (settled.leftovers path (version_in path version is) dirty))) (λ clean. clean) (dirty_or_clean disk path)

pub reached_clean : (disk : Disk) (path : List ℕ) → IsSettled disk → IsReached disk.files path → IsClean disk path
reached_clean disk path settled h = version_clean disk path h.version settled h.named

pub settled_clean : (disk : Disk) → ((path : List ℕ) → IsIn log_folder path → IsClean disk path) → IsSettled disk
settled_clean disk clean = record { leftovers = λ path within dirty. absurd (false≢true (sym (clean path within) ∙ dirty)) }

pub settled_own : (a b : Disk) → ((path : List ℕ) → IsIn log_folder path → IsClean a path → IsClean b path) → IsSettled a → IsSettled b
settled_own a b fewer settled = record {
  leftovers = λ path within dirty. ⊎_elim (λ was. settled.leftovers path within was) (λ clean. absurd (false≢true (sym (fewer path within clean) ∙ dirty))) (dirty_or_clean a path);
}

pub crash_settled : (image : Files) → IsSettled (after_crash image)
crash_settled image = settled_clean (after_crash image) (λ path within. set.contains-empty (slice_cmp nat_cmp) path)

-- ---- through a crash

module _ (disk : Disk) (image : Files) (settled : IsSettled disk) (left : MayLeaveIn log_folder disk image) where
  pub crash_versions : SameVersions disk.files image
  crash_versions path version is = left path (version_in path version is) (version_clean disk path version settled is)

  crash_names : (name : List ℕ) → IsSome (map.get image (path_of name)) → IsLeftoverName name ⊎ IsSome (map.get disk.files (path_of name))
  crash_names name there =
      ⊎_elim
      (λ dirty.
      let is = settled.leftovers (path_of name) (name_in name) dirty in
      inl (subst (λ (n : List ℕ). IsLeftoverName n) (sym (same_behind name is.name (path_of name) refl is.is)) is.leftover))
      (λ clean. inr (subst (λ (o : Option (List ℕ)). IsSome o) (left (path_of name) (name_in name) clean) there))
      (dirty_or_clean disk (path_of name))

  pub crash_reads : (v : View) → Reads disk.files v → Reads image v
  crash_reads v h = reads_too disk.files image crash_versions v crash_names h

  pub crash_carries : (new : List ℕ) (number : ℕ) (change : Change) (s : Standing) → IsCarried new disk.files number change s → IsCarried new image number change s
  crash_carries new number change s h = carried_too disk.files image crash_versions new number change s h

-- ---- reached

pub reached_in : (files : Files) (path : List ℕ) → IsReached files path → IsIn log_folder path
reached_in files path h = version_in path h.version h.named

pub reached_stays : (a b : Files) → ((path : List ℕ) → IsReached a path → map.get b path ≡ map.get a path) → (path : List ℕ) → IsReached a path → IsReached b path
reached_stays a b same path h = record { version = h.version; named = h.named; there = subst (λ (o : Option (List ℕ)). IsSome o) (sym (same path h)) h.there }

-- a version that is reached is there
pub reached_there : (files : Files) (path : List ℕ) (h : IsReached files path) → HasVersion files h.version
reached_there files path h =
    elim (map.get files path) as (λ o. map.get files path ≡ o → HasVersion files h.version) [
      | Some bytes ↦ λ is. (bytes, record { path = path; is = h.named; there = is })
      | None ↦ λ is. absurd (none_there (map.get files path) is h.there)
    ] refl

module _ (a b : Files) (same : (path : List ℕ) → IsReached a path → map.get b path ≡ map.get a path) (none : (path : List ℕ) → IsIn log_folder path → (IsReached a path → ⊥) → map.get b path ≡ None) where
  reached_versions : SameVersions a b
  reached_versions path version is =
      elim (map.get a path) as (λ o. map.get a path ≡ o → map.get b path ≡ map.get a path) [
        | Some bytes ↦ λ at. same path (record { version = version; named = is; there = some_there (map.get a path) bytes at })
        | None ↦ λ at. none path (version_in path version is) (λ h. none_there (map.get a path) at h.there) ∙ sym at
      ] refl

  pub reached_reads : (v : View) → Reads a v → Reads b v
  reached_reads v (inr h) = inr (ours_too a b reached_versions v h)
  reached_reads v (inl h) = inl (
    record {
      versions = λ version has. h.0.versions version (has_too b a (versions_sym a b reached_versions) version has);
      names = λ name proper there. absurd (none_there (map.get b (path_of name)) (none (path_of name) (name_in name) (λ r. h.0.versions r.version (reached_there a (path_of name) r))) there);
    },
    h.1,
  )

  pub reached_carries : (new : List ℕ) (number : ℕ) (change : Change) (s : Standing) → IsCarried new a number change s → IsCarried new b number change s
  reached_carries new number change s h = carried_too a b reached_versions new number change s h
