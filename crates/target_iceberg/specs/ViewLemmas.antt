-- One view at most, and one change of each version.
use Rattle.std.proofs.Common.{◌≡◌, ◌⊎◌, inl, inr, ℕ, ◌≤◌, List, Contains, Some, refl, sym, ap, subst, ◌∙◌, arith}
use Rattle.lake_store.specs.Disk.{Files}
use Rattle.table_history.specs.Row.{Row}
use Rattle.table_history.specs.declared.table.Change.{Change}
use Rattle.table_history.specs.declared.table.Table.{Table}
use Rattle.table_history.specs.Tables.{SameTable}
use Rattle.iceberg_manifest.specs.Entry.{EntryData}
use Rattle.iceberg_manifest.specs.declared.info.ManifestInfo.{ManifestInfo}
use Rattle.iceberg_metadata.specs.declared.metadata.Metadata.{Metadata}
use Rattle.iceberg_metadata.specs.declared.metadata.Snapshot.{Snapshot}
use Rattle.iceberg_table.specs.Files.{SaysMetadata}
use Rattle.iceberg_table.specs.Folder.{HasVersion}
use Rattle.iceberg_table.specs.Snapshots.{IsTableOfSnapshot}
use Rattle.iceberg_table.specs.declared.list.ManifestFile.{ManifestFile}
use Rattle.iceberg_table.specs.declared.plan.Plan.{Plan}
use Rattle.iceberg_table.proofs.OnceLaws.{newest_once, table_once}
use Rattle.target_core.specs.Changes.{IsGone, SameRowChange}
use Rattle.target_core.specs.Views.{IsPublished, IsUnpublished, SameView, Standing, View, absent}
use Rattle.target_core.proofs.Unpublished.{no_commits}
use Rattle.target_iceberg.specs.Reading.{Adds, Deletes, IsAbsent, IsCarried, IsCurrent, IsEntryIn, IsMarked, IsOurs, Reads, SaysCurrent, SaysSnapshot}
use Rattle.target_iceberg.specs.OnceLemmas.{current_once, metadata_once, says_once, standing_once}

-- ---- absent

pub absent_or_ours : (files : Files) (view : View) → IsAbsent files → IsOurs files view → ⊥
absent_or_ours files view none ours = none.versions view.commits ours.newest.there

pub never_ours : (files : Files) (view : View) → IsUnpublished view → IsOurs files view → ⊥
never_ours files view is ours =
    let none = no_commits view is in
    let some = ours.first in omega (arith, none, some)

-- what stands for a target of which nothing is published
pub is_absent : (files : Files) (p : List (List ℕ)) → Reads files (absent p) → IsAbsent files
is_absent files p (inl h) = h.0
is_absent files p (inr h) = absurd (never_ours files (absent p) refl h)

pub absent_any : (files : Files) (p q : List (List ℕ)) → Reads files (absent p) → Reads files (absent q)
absent_any files p q h = inl (is_absent files p h, refl)

pub published : (files : Files) (v : View) → Reads files v → IsUnpublished v ⊎ IsPublished v
published files v (inl h) = inl h.1
published files v (inr h) = inr (h.first, (h.standing, h.mark))

-- ---- one view

pub one_standing : (files : Files) (version : ℕ) (m n : Metadata) (s t : Standing) → SaysMetadata files version m → SaysMetadata files version n → IsMarked m version s → IsMarked n version t → s ≡ t
one_standing files version m n s t hm hn a b = standing_once n version s t (subst (λ (x : Metadata). IsMarked x version s) (metadata_once files version m n hm hn) a) b

one_table : (files : Files) (m n : Metadata) (s t : Snapshot) (v w : Table) → m ≡ n → IsCurrent m s → IsCurrent n t → IsTableOfSnapshot files m s v → IsTableOfSnapshot files n t w → SameTable v w
one_table files m n s t v w same cs ct hv hw =
    let snapshot : s ≡ t = current_once n s t (subst (λ (x : Metadata). IsCurrent x s) same cs) ct in
    table_once files n t v w (subst (λ (u : Snapshot). IsTableOfSnapshot files n u v) snapshot (subst (λ (x : Metadata). IsTableOfSnapshot files x s v) same hv)) hw

-- the same version, and what it says
pub ours_newest : (files : Files) (v w : View) (a : IsOurs files v) (b : IsOurs files w) → v.commits ≡ w.commits
ours_newest files v w a b = newest_once (HasVersion files) v.commits w.commits a.newest b.newest

ours_one : (files : Files) (v w : View) → IsOurs files v → IsOurs files w → SameView v w
ours_one files v w a b =
    let counts = ours_newest files v w a b in
    let says = subst (λ (n : ℕ). SaysMetadata files n a.metadata) counts a.says in
    let metadata : a.metadata ≡ b.metadata = metadata_once files w.commits a.metadata b.metadata says b.says in
    let standing : a.standing ≡ b.standing = one_standing files w.commits a.metadata b.metadata a.standing b.standing says b.says (subst (λ (n : ℕ). IsMarked a.metadata n a.standing) counts a.marked) b.marked in
    let table = one_table files a.metadata b.metadata a.current.snapshot b.current.snapshot v.table w.table metadata a.current.current b.current.current a.table b.table in
    record {
      commits = counts;
      mark = a.mark ∙ ap (λ (s : Standing). Some s) standing ∙ sym b.mark;
      rows = table.rows;
      partition = table.partition;
      schema = table.schema;
    }

pub one_view : (files : Files) (v w : View) → Reads files v → Reads files w → SameView v w ⊎ (IsUnpublished v × IsUnpublished w)
one_view files v w (inl a) (inl b) = inr (a.1, b.1)
one_view files v w (inl a) (inr b) = absurd (absent_or_ours files w a.0 b)
one_view files v w (inr a) (inl b) = absurd (absent_or_ours files v b.0 a)
one_view files v w (inr a) (inr b) = inl (ours_one files v w a b)

-- ---- what a version carries

-- The same plan and list name the same entries.
entry_same : (files : Files) (p q : Plan) (l k : List ManifestFile) (info : ManifestInfo) (entry : EntryData) → p ≡ q → l ≡ k → IsEntryIn files p l info entry → IsEntryIn files q k info entry
entry_same files p q l k info entry plan list h = subst (λ (x : List ManifestFile). IsEntryIn files q x info entry) list (subst (λ (x : Plan). IsEntryIn files x l info entry) plan h)

module _ (files : Files) (number : ℕ) (m n : Metadata) (same : m ≡ n) (current : SaysCurrent files m) (other : SaysCurrent files n) where
  both : (c : SaysCurrent files n) → (c.plan ≡ current.plan) × (c.list ≡ current.list) → (info : ManifestInfo) (entry : EntryData) → IsEntryIn files current.plan current.list info entry → IsEntryIn files other.plan other.list info entry
  both c is info entry h =
      let once = says_once files n c other in
      entry_same files current.plan other.plan current.list other.list info entry (sym is.0 ∙ once.plan) (sym is.1 ∙ once.list) h

  entries_too : (info : ManifestInfo) (entry : EntryData) → IsEntryIn files current.plan current.list info entry → IsEntryIn files other.plan other.list info entry
  entries_too = both
      (record {
        snapshot = current.snapshot;
        current = subst (λ (x : Metadata). IsCurrent x current.snapshot) same current.current;
        plan = current.plan;
        list = current.list;
        manifests = current.manifests;
        says = subst (λ (x : Metadata). SaysSnapshot files x current.snapshot current.plan current.list current.manifests) same current.says;
      }) (refl, refl)

abbrev AddsIn : (files : Files) (number : ℕ) (m : Metadata) → SaysCurrent files m → Row → Type 0
AddsIn files number m current row = (info : ManifestInfo) × (entry : EntryData) × IsEntryIn files current.plan current.list info entry × Adds m.location number info entry row

abbrev DeletesIn : (files : Files) (number : ℕ) (m : Metadata) → SaysCurrent files m → List ℕ → Type 0
DeletesIn files number m current path = (info : ManifestInfo) × (entry : EntryData) × IsEntryIn files current.plan current.list info entry × Deletes m.location number entry path

module _ (files : Files) (number : ℕ) (m n : Metadata) (same : m ≡ n) (current : SaysCurrent files m) (other : SaysCurrent files n) where
  adds_too : (row : Row) → AddsIn files number m current row → AddsIn files number n other row
  adds_too row h = (h.0, h.1, entries_too files number m n same current other h.0 h.1 h.2, subst (λ (x : Metadata). Adds x.location number h.0 h.1 row) same h.3)

  deletes_too : (path : List ℕ) → DeletesIn files number m current path → DeletesIn files number n other path
  deletes_too path h = (h.0, h.1, entries_too files number m n same current other h.0 h.1 h.2, subst (λ (x : Metadata). Deletes x.location number h.1 path) same h.3)

module _ (new : List ℕ) (files : Files) (number : ℕ) (a b : Change) (s t : Standing) where
  added_too : IsCarried new files number a s → IsCarried new files number b t → (row : Row) → Contains a.added row → Contains b.added row
  added_too h k row is = (k.adds row).1 (adds_too files number h.metadata k.metadata (metadata_once files number h.metadata k.metadata h.says k.says) h.current k.current row ((h.adds row).0 is))

  removed_too : IsCarried new files number a s → IsCarried new files number b t → (path : List ℕ) → Contains a.removed path → Contains b.removed path
  removed_too h k path is = (k.removes path).1 (deletes_too files number h.metadata k.metadata (metadata_once files number h.metadata k.metadata h.says k.says) h.current k.current path ((h.removes path).0 is))

module _ (new : List ℕ) (files : Files) (number : ℕ) (a b : Change) (s t : Standing) (h : IsCarried new files number a s) (k : IsCarried new files number b t) where
  gone_too : (path : List ℕ) → IsGone a path → IsGone b path
  gone_too path is = (removed_too new files number a b s t h k path is.0, λ there. is.1 (there.0, added_too new files number b a t s k h there.0 there.1, there.2))

pub one_change : (new : List ℕ) (files : Files) (number : ℕ) (a b : Change) (s t : Standing) → IsCarried new files number a s → IsCarried new files number b t → SameRowChange a b × (s ≡ t)
one_change new files number a b s t h k = (
  record {
    added = λ row. (added_too new files number a b s t h k row, added_too new files number b a t s k h row);
    gone = λ path. (gone_too new files number a b s t h k path, gone_too new files number b a t s k h path);
  },
  one_standing files number h.metadata k.metadata s t h.says k.says h.marked k.marked,
)

pub carries_within : (new : List ℕ) (files : Files) (v : View) (number : ℕ) (change : Change) (s : Standing) → Reads files v → IsCarried new files number change s → number ≤ v.commits
carries_within new files v number change s (inl a) h = absurd (a.0.versions number h.there)
carries_within new files v number change s (inr b) h = b.newest.last number h.there

pub newest : (new : List ℕ) (files : Files) (v : View) (change : Change) (s : Standing) → Reads files v → IsCarried new files v.commits change s → v.mark ≡ Some s
newest new files v change s (inl a) h = absurd (a.0.versions v.commits h.there)
newest new files v change s (inr b) h = b.mark ∙ ap (λ (t : Standing). Some t) (one_standing files v.commits b.metadata h.metadata b.standing s b.says h.says b.marked h.marked)
