-- What is due to a target of a drill: its rows, its removed paths, its schema and its position are the drill's, and so is what its marks say of the source.
use Rattle.std.proofs.Common.{◌≡◌, ◌⊎◌, ⊎_elim, inl, inr, ℕ, zero, suc, ◌+◌, ◌^◌, ◌≤◌, ◌<◌, List, [], ◌∷◌, ◌++◌, drop, length, map, Contains, Option, Some, None, refl, sym, ap, subst, ◌∙◌, codes, arith}
use Rattle.std.specs.Prelude.{slice_get}
use Rattle.std.proofs.lemmas.List.{map-append}
use Rattle.std.proofs.lemmas.List.Elements.{Contains-append_left, Contains-append_right}
use Rattle.std.proofs.lemmas.Option.{same_Some}
use Rattle.delta_log.specs.declared.commit.DeltaCommit.{DeltaCommit}
use Rattle.delta_log.specs.declared.commit.MetaData.{MetaData}
use Rattle.delta_table.proofs.PathLaws.{says_once}
use Rattle.delta_table.specs.Log.{SaysCommit}
use Rattle.delta_table.specs.Versions.{HoldsVersion}
use Rattle.lake_store.specs.Disk.{Disk}
use Rattle.lake_store.specs.Fuse.{FuseCanBeContested, fuse_disk}
use Rattle.lake_store.specs.declared.fuse.FuseStore.{FuseStore}
use Rattle.table_history.specs.History.{History}
use Rattle.table_history.specs.Row.{Row}
use Rattle.table_history.specs.Rows.{paths_of}
use Rattle.table_history.specs.Tables.{IsDiff}
use Rattle.table_history.specs.TypeTree.{ColumnTrees}
use Rattle.table_history.specs.declared.kind.Kind.TheVariants.{Delta}
use Rattle.table_history.specs.declared.table.Commit.{Commit}
use Rattle.table_history.specs.declared.table.Table.{Table}
use Rattle.table_history.proofs.RowListLemmas.{Contains-cases, Contains-head, Contains-none, Contains-one, Contains-tail}
use Rattle.table_history.proofs.TableLemmas.{distinct_order}
use Rattle.conformance.specs.Drill.{AreSaid, drill_bytes, drill_commit, drill_meta, drill_schema, drill_time, numbers_under}
use Rattle.conformance.specs.Histories.{IsHistoryFrom}
use Rattle.conformance.proofs.Bounds.{added_paths, drill_history}
use Rattle.source_core.specs.Histories.{LeadAlong, ShowsTable}
use Rattle.source_delta.specs.Heads.{IsTableId}
use Rattle.target_core.specs.Views.{View}
use Rattle.iceberg_version.proofs.Shared.{in_drop, slice_there}
use Rattle.target_sync.specs.Dues.{Due, IsIdBehind, origin_of}
use Rattle.target_sync.specs.Targets.{TargetFacts}
use Rattle.target_sync.specs.declared.plan.Mode.TheVariants as modes
use Rattle.target_sync.specs.declared.status.Status.{Status}
use Rattle.lake_play.specs.Causes.{LeadFrom, StateSchemasOf}
use Rattle.lake_play.specs.Formats.{from_delta}
use Rattle.lake_play.specs.Playing.{Brings}
use Rattle.lake_play.proofs.Causes.{Views, due_columns, due_leads, due_shows, due_states}
use Rattle.lake_play.proofs.DrillRows.{IsDrillEntry, IsDrillRow, IsDueCommit, entry_in, entry_position, entry_row, row_path}
use Rattle.lake_play.proofs.Logs.{HoldsCommits}
use Rattle.lake_play.proofs.Targets.{IsPlayed}
use Rattle.lake_play.proofs.TextBounds.{IsShortOrigin}

module _ (number : ℕ) where
  -- what differs between rows of the drill
  due_by : (before : List Row) (entry : List ℕ × Table) (commit : Commit) → ((row : Row) → Contains before row → IsDrillRow number row) → IsDrillEntry number entry → commit.position ≡ entry.0 → IsDiff before entry.1.rows commit.change.removed commit.change.added
      → ((schema : ColumnTrees) → commit.change.schema ≡ Some schema → schema ≡ drill_schema) → IsDueCommit number commit
  due_by before entry commit rows is position diff stated = record {
    added = λ row there. entry_row number entry row is ((diff.added_rows row).0 there).0;
    distinct = distinct_order (paths_of commit.change.added) diff.added_order;
    removed = λ path there.
        let found = (diff.removed_paths path).0 there in
        subst (Contains (added_paths number 200)) found.3 (row_path number found.0 (rows found.0 found.1));
    stated = stated;
    position = let same = ap (λ (p : List ℕ). length p) position in let short = entry_position number entry is in omega (arith, same, short);
  }

  due_along : (before : Table) (history : History) (commits : List Commit) → ((row : Row) → Contains before.rows row → IsDrillRow number row) → ((entry : List ℕ × Table) → Contains history entry → IsDrillEntry number entry)
      → ((commit : Commit) (schema : ColumnTrees) → Contains commits commit → commit.change.schema ≡ Some schema → schema ≡ drill_schema) → LeadAlong before history commits → (commit : Commit) → Contains commits commit → IsDueCommit number commit
  due_along before [] commits rows entries stated along commit there = absurd (Contains-none commit (subst (λ (l : List Commit). Contains l commit) along there))
  due_along before (after ∷ history) [] rows entries stated along commit there = absurd along
  due_along before (after ∷ history) (c ∷ commits) rows entries stated along commit there =
      let is = entries after (Contains-head after history) in
      ⊎_elim
      (λ (here : c ≡ commit). subst (IsDueCommit number) here (due_by before.rows after c rows is along.0.position along.0.rows (λ schema states. stated c schema (Contains-head c commits) states)))
      (λ later.
      due_along after.1 history commits (λ row inside. entry_row number after row is inside) (λ entry inside. entries entry (Contains-tail after history entry inside)) (λ other schema inside states. stated other schema (Contains-tail c commits other inside) states) along.1 commit later)
      (Contains-cases c commits commit there)

  -- ---- what is due

  module _ (image : ColumnTrees → Option ColumnTrees) (front rest : History) (split : drill_history number 200 ≡ front ++ rest) (j : ℕ) (start : View) (shows : ShowsTable Delta image front j start) (due : List Commit) (leads : LeadFrom front j start due) (schemas : StateSchemasOf front due) where
    in_front : (entry : List ℕ × Table) → Contains front entry → IsDrillEntry number entry
    in_front entry there = entry_in number entry (subst (λ (h : History). Contains h entry) (sym split) (Contains-append_left front rest entry there))

    stated_is : (commit : Commit) (schema : ColumnTrees) → Contains due commit → commit.change.schema ≡ Some schema → schema ≡ drill_schema
    stated_is commit schema there states =
        let found = schemas commit schema there states in
        let of = in_front found.0 found.1 in
        sym found.2 ∙ sym (ap (λ (e : List ℕ × Table). e.1.schema) of.2)

    start_row : (n : ℕ) → ShowsTable Delta image front n start → (row : Row) → Contains start.table.rows row → IsDrillRow number row
    start_row zero none row there = absurd (Contains-none row (subst (λ (v : View). Contains v.table.rows row) none there))
    start_row (suc k) shown row there = entry_row number shown.0 row (in_front shown.0 (slice_there front k shown.0 shown.1)) ((shown.2.rows row).0 there)

    pub due_are : (commit : Commit) → Contains due commit → IsDueCommit number commit
    due_are commit there = by leads
      where
        by : LeadFrom front j start due → IsDueCommit number commit
        by (inl (k, entry, place, at, along)) =
            due_along entry.1 (drop (k + 1) front) due (λ row inside. entry_row number entry row (in_front entry (slice_there front k entry at)) inside) (λ other inside. in_front other (in_drop (k + 1) front other inside)) stated_is along commit there
        by (inr whole) =
            let one : whole.commit ≡ commit = Contains-one whole.commit commit (subst (λ (l : List Commit). Contains l commit) whole.only there) in
            let last : Contains front whole.entry = subst (λ (h : History). Contains h whole.entry) (sym whole.last.1) (Contains-append_right whole.last.0 (whole.entry ∷ []) whole.entry (Contains-head whole.entry [])) in
            subst (IsDueCommit number) one (due_by start.table.rows whole.entry whole.commit (start_row j shows) (in_front whole.entry last) whole.position whole.rows
            (λ schema states. stated_is whole.commit schema (subst (λ (l : List Commit). Contains l whole.commit) (sym whole.only) (Contains-head whole.commit [])) states))

-- ---- what marks say of the source

front_at : {A : Type 0} (xs : List A) (x y : A) → slice_get xs 0 ≡ Some x → slice_get (xs ++ y ∷ []) 0 ≡ Some x
front_at [] x y is = absurd cc
front_at (z ∷ xs) x y is = is

first_of : {A : Type 0} (f : ℕ → A) (n : ℕ) → slice_get (map f (numbers_under (suc n))) 0 ≡ Some (f 0)
first_of f zero = refl
first_of {A} f (suc n) = ap (λ (l : List A). slice_get l 0) (map-append f (numbers_under (suc n)) (suc n ∷ [])) ∙ front_at (map f (numbers_under (suc n))) (f 0) (f (suc n)) (first_of f n)

first_in : (xs ys : List (List ℕ)) (x : List ℕ) → 0 < length xs → slice_get (xs ++ ys) 0 ≡ Some x → slice_get xs 0 ≡ Some x
first_in [] ys x some is = absurd (omega (arith, some))
first_in (y ∷ xs) ys x some is = is

module _ (number : ℕ) (said : AreSaid number) (commits later : List (List ℕ)) (all : commits ++ later ≡ map (drill_bytes number) (numbers_under 200)) (some : 0 < length commits) (disk : Disk) (log : HoldsCommits commits 0 disk) where
  first_is : slice_get commits 0 ≡ Some (drill_bytes number 0)
  first_is = first_in commits later (drill_bytes number 0) some (ap (λ (l : List (List ℕ)). slice_get l 0) all ∙ first_of (drill_bytes number) 199)

  first_held : HoldsVersion disk.files 0 (drill_bytes number 0)
  first_held = log.holds 0 (drill_bytes number 0) (omega arith) first_is

  first_says : SaysCommit disk.files 0 (drill_commit number 0)
  first_says = record { bytes = drill_bytes number 0; holds = first_held; readable = said.says 0 (omega arith) }

  id_by : (table : Option (List ℕ)) → IsTableId disk.files table → (start : View) (id : Option (List ℕ)) → IsIdBehind from_delta disk.files start table id → id ≡ Some (codes "drill")
  id_by None none start id is = absurd (none (drill_bytes number 0, first_held))
  id_by (Some stated) of start id is =
      let commit : of.0 ≡ drill_commit number 0 = says_once disk.files 0 of.0 (drill_commit number 0) of.3 first_says in
      let meta : of.1 ≡ drill_meta = same_Some of.1 drill_meta (sym of.4 ∙ ap (λ (c : DeltaCommit). c.meta) commit) in
      is ∙ ap (λ (text : List ℕ). Some text) (of.5 ∙ ap (λ (m : MetaData). m.id) meta)

  -- The marks of what is due say of a Delta source, and of the drill's table.
  pub origin_is : (start : View) (due : Due from_delta modes.Sync disk.files start) → IsShortOrigin (origin_of due)
  origin_is start due =
      let id = id_by due.head.table due.is_head.table start due.id due.is_id in
      record {
        source = refl;
        table = λ text states. let same = ap (λ (t : List ℕ). length t) (same_Some (codes "drill") text (sym id ∙ states)) in omega (arith, same);
      }

-- ---- a sync of a drill

module _ (number : ℕ) (target : TargetFacts) (views : Views target) (old new : FuseStore) (given : Status) (brings : Brings target modes.Sync drill_time old new given) (none : FuseCanBeContested old → ⊥)
    (commits : List (List ℕ)) (log : HoldsCommits commits 0 (fuse_disk old)) (front rest : History) (made : IsHistoryFrom 0 None commits front) (few : length commits ≤ 2 ^ 64) (split : drill_history number 200 ≡ front ++ rest)
    (floor : ℕ) (was : IsPlayed target.files (front ++ rest) floor (length commits) (fuse_disk old)) (start : View) (reads : target.files.reads (fuse_disk old).files start) (due : Due from_delta modes.Sync (fuse_disk old).files start) where
  shows : ShowsTable Delta target.files.image front was.stands.j start
  shows = due_shows target views modes.Sync drill_time old new given brings none commits 0 log front rest made few floor was start reads

  -- Each commit that is due has just what the drill has.
  pub each_due : (commit : Commit) → Contains due.commits commit → IsDueCommit number commit
  each_due =
      due_are number target.files.image front rest split was.stands.j start shows due.commits (due_leads target views modes.Sync drill_time old new given brings none commits 0 log front rest made few floor was start reads due)
      (due_states target views modes.Sync drill_time old new given brings none commits 0 log front rest made few floor was start reads due)

  -- They are of the drill's partition column.
  pub due_partition : due.partition ≡ codes "d" ∷ []
  due_partition =
      let of = due_columns target views modes.Sync drill_time old new given brings none commits 0 log front rest made few floor was start reads due in
      let is = in_front number target.files.image front rest split was.stands.j start shows due.commits (due_leads target views modes.Sync drill_time old new given brings none commits 0 log front rest made few floor was start reads due)
      (due_states target views modes.Sync drill_time old new given brings none commits 0 log front rest made few floor was start reads due) of.0 of.1 in
      sym of.2 ∙ sym (ap (λ (e : List ℕ × Table). e.1.partition) is.2)
