-- The commits of an Iceberg table lead along the histories that its newest metadata holds, and its table at the head is the last one there.
use Rattle.std.proofs.Common.{◌≡◌, ℕ, List, [], ◌∷◌, ◌++◌, Contains, Option, append_assoc, sym, ap, subst, ◌∙◌}
use Rattle.std.specs.Prelude.{reverse, unwrap_or}
use Rattle.lake_store.specs.Disk.{Files}
use Rattle.table_history.specs.History.{History, IsHistory, positions_of}
use Rattle.table_history.specs.Rows.{SameRows}
use Rattle.table_history.specs.TypeTree.{ColumnTrees}
use Rattle.table_history.specs.declared.table.Commit.{Commit}
use Rattle.table_history.specs.declared.table.Table.{Table}
use Rattle.table_history.proofs.Laws.{change_of_same_rows}
use Rattle.iceberg_ancestry.specs.Ancestry.{IsAncestry}
use Rattle.iceberg_metadata.specs.declared.metadata.Metadata.{Metadata}
use Rattle.iceberg_metadata.specs.declared.metadata.Snapshot.{Snapshot}
use Rattle.iceberg_table.specs.Snapshots.{IsReadAs, IsTableOfSnapshot}
use Rattle.iceberg_table.specs.declared.manifest.Manifest.{Manifest}
use Rattle.iceberg_table.specs.declared.snapshot.SnapshotTable.{SnapshotTable}
use Rattle.iceberg_table.proofs.OnceLaws.{table_once}
use Rattle.source_core.specs.Histories.{IsLast, IsLike, LeadAlong, LeadsTo}
use Rattle.table_history.specs.Tables.{SameTable}
use Rattle.source_core.specs.declared.head.Head.{Head}
use Rattle.source_iceberg.specs.Heads.{IsCurrent, IsIcebergHead, IsTableAtHead}
use Rattle.source_iceberg.specs.Histories.{AreEntriesOf, HoldsHistory, IsEntryOf}
use Rattle.source_iceberg.specs.ListLemmas.{in_positions, same_behind}
use Rattle.source_iceberg.specs.HeadLemmas.{one_current, stated_once}
use Rattle.source_iceberg.specs.Since.{AreCommits, IsReached, IsSince, Reaches}
use Rattle.source_iceberg.specs.SinceLemmas.{ancestors_once, last_ancestor}

-- ---- the entries of the kept snapshots

record SplitsAt (files : Files) (m : Metadata) (s : Snapshot) (later : List Snapshot) (entries : History) : Type 0 where
  pub front : History
  pub entry : List ℕ × Table
  pub behind : History
  pub split : entries ≡ front ++ entry ∷ behind
  pub is : IsEntryOf files m s entry
  pub rest : AreEntriesOf files m later behind

split_entries : (files : Files) (m : Metadata) (front : List Snapshot) (s : Snapshot) (later : List Snapshot) (entries : History) → AreEntriesOf files m (front ++ s ∷ later) entries → SplitsAt files m s later entries
split_entries files m [] s later entries are = record { front = []; entry = are.0; behind = are.1; split = are.2; is = are.3; rest = are.4 }
split_entries files m (f ∷ front) s later entries are =
    let more = split_entries files m front s later are.1 are.4 in
    record { front = are.0 ∷ more.front; entry = more.entry; behind = more.behind; split = are.2 ∙ ap (λ (l : History). are.0 ∷ l) more.split; is = more.is; rest = more.rest }

-- ---- the table at the head

-- The table at the head is that of the current snapshot, whoever found that one.
record IsOfCurrent (files : Files) (m : Metadata) (s : Snapshot) (table : Table) : Type 0 where
  pub is : IsTableOfSnapshot files m s table
  pub read : (t : SnapshotTable) × IsReadAs files m s t

of_current : (files : Files) (version : ℕ) (m : Metadata) (s : Snapshot) → IsCurrent files version m s → (table : Table) → IsTableAtHead files table → IsOfCurrent files m s table
of_current files version m s current table at =
    let one = one_current files at.version version at.metadata m at.snapshot s at.current current in
    let is = subst (λ (x : Metadata). IsTableOfSnapshot files x at.snapshot table) one.1 at.is in
    let read = subst (λ (x : Metadata). IsReadAs files x at.snapshot at.read.0) one.1 at.read.1 in
    record { is = subst (λ (x : Snapshot). IsTableOfSnapshot files m x table) one.2 is; read = (at.read.0, subst (λ (x : Snapshot). IsReadAs files m x at.read.0) one.2 read) }

pub one_table : (files : Files) (a b : Table) → IsTableAtHead files a → IsTableAtHead files b → SameTable a b
one_table files a b x y =
    let other = of_current files x.version x.metadata x.snapshot x.current b y in
    table_once files x.metadata x.snapshot a b x.is other.is

-- ---- the end

module _ (files : Files) (history : History) (head : Head) (holds : HoldsHistory files history) (is : IsIcebergHead files head) where
  same_metadata : holds.metadata ≡ is.metadata
  same_metadata = stated_once files holds.version is.version holds.metadata is.metadata holds.newest is.current.metadata

  last_entry : SplitsAt files is.metadata is.snapshot [] holds.kept
  last_entry =
      let are = subst (λ (m : Metadata). IsAncestry m holds.ancestors) same_metadata holds.are in
      let end = last_ancestor is.metadata is.snapshot holds.ancestors is.current.held are in
      let entries = subst (λ (m : Metadata). AreEntriesOf files m (reverse holds.ancestors) holds.kept) same_metadata holds.entries in
      split_entries files is.metadata end.0 is.snapshot [] holds.kept (subst (λ (ss : List Snapshot). AreEntriesOf files is.metadata ss holds.kept) end.1 entries)

  ends_so : history ≡ (holds.earlier ++ last_entry.front) ++ last_entry.entry ∷ []
  ends_so =
      holds.split
      ∙ ap (λ (l : History). holds.earlier ++ l) (last_entry.split ∙ ap (λ (l : History). last_entry.front ++ last_entry.entry ∷ l) last_entry.rest)
      ∙ sym (append_assoc holds.earlier last_entry.front (last_entry.entry ∷ []))

  same_table : (table : Table) → IsTableAtHead files table → SameTable table last_entry.entry.1
  same_table table at =
      let own = of_current files is.version is.metadata is.snapshot is.current table at in
      table_once files is.metadata is.snapshot table last_entry.entry.1 own.is (last_entry.is.table own.read.0 own.read.1)

pub last : (files : Files) (history : History) (head : Head) → HoldsHistory files history → IsIcebergHead files head
    → (last : List ℕ × Table) × IsLast history last × (last.0 ≡ head.position) × ((table : Table) → IsTableAtHead files table → SameTable table last.1)
last files history head holds is =
    let entry = last_entry files history head holds is in
    (entry.entry, (holds.earlier ++ entry.front, ends_so files history head holds is), entry.is.position ∙ sym is.position, same_table files history head holds is)

-- ---- what is behind an entry

module _ (files : Files) (m : Metadata) where
  leads_along : (later : List Snapshot) (held : Table) (entry : List ℕ × Table) (behind : History) (commits : List Commit) (last : Table) (read : List Manifest)
      → SameRows held.rows entry.1.rows → held.partition ≡ entry.1.partition → AreEntriesOf files m later behind → AreCommits files m held later commits last read → LeadAlong entry.1 behind commits
  leads_along [] held entry behind commits last read rows partition are made = subst (λ (h : History). LeadAlong entry.1 h commits) (sym are) made.0
  leads_along (s ∷ later) held entry behind commits last read rows partition are made =
      let next = are.0 in
      let commit = made.0 in
      let own = made.2 in
      let of = made.5 in
      let same = table_once files m s own.table next.1 of.is (are.3.table own of.read) in
      let kept : own.table.partition ≡ next.1.partition = same.partition in
      let first : LeadsTo entry.1 commit next = record {
        position = of.position ∙ sym are.3.position;
        rows = change_of_same_rows held.rows entry.1.rows own.table.rows next.1.rows commit.change.removed commit.change.added rows same.rows of.rows;
        schema = sym same.schema ∙ sym (ap (λ (o : Option ColumnTrees). unwrap_or o entry.1.schema) of.schema);
        partition = sym kept ∙ of.partition ∙ partition;
      } in
      let rest = leads_along later own.table next are.1 made.1 last made.3 same.rows kept are.4 made.6 in
      subst (λ (h : History). LeadAlong entry.1 h commits) (sym are.2) (subst (LeadAlong entry.1 (next ∷ are.1)) (sym made.4) (first, rest))

-- ---- where a position that is reached stands

module _ (files : Files) (history : History) (position : List ℕ) (version : ℕ) (m : Metadata) (later : List Snapshot) (holds : HoldsHistory files history) (reached : IsReached files position version m later) where
  same_newest : holds.metadata ≡ m
  same_newest = stated_once files holds.version version holds.metadata m holds.newest reached.metadata

  reached_entry : SplitsAt files m reached.behind.at later holds.kept
  reached_entry =
      let one = ancestors_once m holds.ancestors reached.ancestors (subst (λ (x : Metadata). IsAncestry x holds.ancestors) same_newest holds.are) reached.are in
      let entries = subst (λ (x : Metadata). AreEntriesOf files x (reverse holds.ancestors) holds.kept) same_newest holds.entries in
      split_entries files m reached.behind.front reached.behind.at later holds.kept (subst (λ (ss : List Snapshot). AreEntriesOf files m ss holds.kept) (ap reverse one ∙ reached.behind.split) entries)

  reached_split : history ≡ (holds.earlier ++ reached_entry.front) ++ reached_entry.entry ∷ reached_entry.behind
  reached_split =
      holds.split
      ∙ ap (λ (l : History). holds.earlier ++ l) reached_entry.split
      ∙ sym (append_assoc holds.earlier reached_entry.front (reached_entry.entry ∷ reached_entry.behind))

  reached_position : position ≡ reached_entry.entry.0
  reached_position = reached.behind.spelled ∙ sym reached_entry.is.position

  reached_within : Contains (positions_of history) position
  reached_within =
      subst (λ (l : History). Contains (positions_of l) position) (sym reached_split)
      (subst (Contains (positions_of ((holds.earlier ++ reached_entry.front) ++ reached_entry.entry ∷ reached_entry.behind))) (sym reached_position) (in_positions (holds.earlier ++ reached_entry.front) reached_entry.entry reached_entry.behind))

pub reached_held : (files : Files) (history : History) (position : List ℕ) → HoldsHistory files history → Reaches files position → Contains (positions_of history) position
reached_held files history position holds reached = reached_within files history position reached.0 reached.1 reached.2 holds reached.3

pub along : (files : Files) (front behind : History) (entry : List ℕ × Table) (base : Table) (commits : List Commit) → IsHistory (front ++ entry ∷ behind) → HoldsHistory files (front ++ entry ∷ behind)
    → IsLike base entry.1 → IsSince files entry.0 base commits → LeadAlong entry.1 behind commits
along files front behind entry base commits is holds like since =
    let m = since.metadata in
    let history = front ++ entry ∷ behind in
    let split = reached_entry files history entry.0 since.version m since.later holds since.reached in
    let whole = reached_split files history entry.0 since.version m since.later holds since.reached in
    let at = reached_position files history entry.0 since.version m since.later holds since.reached in
    let rest : behind ≡ split.behind = same_behind front entry behind (holds.earlier ++ split.front) split.entry split.behind is.distinct whole at in
    let made = since.over.behind in
    subst (λ (h : History). LeadAlong entry.1 h commits) (sym rest) (leads_along files m since.later base entry split.behind commits made.last made.read like.rows like.partition split.rest made.are)
