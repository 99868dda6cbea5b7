-- Where a target stands behind a plan of what is due, and that a source stays as it is.
use Rattle.std.proofs.Common.{◌≡◌, ◌≢◌, ◌⊎◌, inl, inr, ⊎_elim, ℕ, ◌+◌, ◌<◌, ◌≤◌, Bool, true, false, List, [], ◌∷◌, length, take, Contains, Option, Some, None, refl, sym, ap, subst, ◌∙◌, arith}
use Rattle.std.proofs.Math.Seq.{take-length}
use Rattle.lake_store.specs.Disk.{Disk, Files, IsClean, MayLeave}
use Rattle.lake_store.specs.Runs.{IsEachMoment, IsIn, KeepsImage, LeavesAlone, OnlyReads}
use Rattle.lake_store.specs.declared.store.Store.{Ghosts}
use Rattle.lake_store.proofs.MomentLaws.{goes_further, weaker}
use Rattle.lake_store.proofs.RunLaws.{NowOnly, alone_by_reading, alone_further}
use Rattle.source_core.specs.Since.{EndAt}
use Rattle.source_core.specs.declared.head.Head.{Head}
use Rattle.table_history.specs.History.{History}
use Rattle.table_history.specs.Row.{Row}
use Rattle.table_history.specs.Rows.{SameRows}
use Rattle.table_history.specs.Tables.{SameTable}
use Rattle.table_history.specs.TypeTree.{ColumnTrees}
use Rattle.table_history.specs.declared.kind.Kind.{Kind}
use Rattle.table_history.specs.declared.limit.LimitKind.{LimitKind}
use Rattle.table_history.specs.declared.limit.LimitKind.TheVariants.{Names}
use Rattle.table_history.specs.declared.table.Commit.{Commit}
use Rattle.table_history.specs.declared.table.Table.{Table}
use Rattle.table_history.proofs.Laws.{change_of_same_rows}
use Rattle.table_history.proofs.SameTableLemmas.{row_after}
use Rattle.target_core.specs.Folders.{SameIn, after_crash, folder_of}
use Rattle.target_core.specs.OwnFiles.{MayNotTouch, TouchesOwn}
use Rattle.target_core.specs.Gained.{Carries, Gained, GainedSome, StillCarries}
use Rattle.target_core.specs.Meaning.{Meaning}
use Rattle.target_core.specs.Publishing.{LeavesSome, Publishes}
use Rattle.target_core.specs.Views.{IsAdvancedAll, IsPublished, IsSchemaAfter, IsUnpublished, Origin, SameView, Standing, View, absent, standing_at}
use Rattle.target_core.specs.Written.{IsAsLeft, KeepsTheirs, StayAfter}
use Rattle.target_core.proofs.Apart.{apart_untouched}
use Rattle.target_core.proofs.Same.{advanced_from, same_refl}
use Rattle.target_core.proofs.Steps.{count_taken}
use Rattle.target_sync.specs.Applied.{StayShown, position_at}
use Rattle.target_sync.specs.Dues.{AreSinceMark, Due, IsIdBehind, IsInFull, IsMarked, IsWhole, TakesCommits, origin_of}
use Rattle.target_sync.specs.Sources.{SameSource, SourceMeaning}
use Rattle.target_sync.specs.Synced.{HasTable, IsAsBefore, IsAsBeforeOrUnderway, IsAtHead, IsContested, IsLimited, IsStopped, IsUnderway, KeepsSource, Leaving, Synced, with_columns}
use Rattle.target_sync.specs.declared.plan.Mode.{Mode}
use Rattle.target_sync.specs.declared.plan.Mode.TheVariants as modes
use Rattle.target_sync.proofs.Applying.{CrashLaws}
use Rattle.target_sync.proofs.Histories.{not_marked, one_standing, unmarked}

-- ---- the source

-- What is told of a source depends on its own folder alone. It has one head, and the commits since a position end there.
pub record SourceLaws (source : SourceMeaning) : Type 0 where
  pub head_own : (a b : Files) (head : Head) → SameIn (folder_of source.kind) a b → source.is_head a head → source.is_head b head
  pub table_own : (a b : Files) (table : Table) → SameIn (folder_of source.kind) a b → source.is_table a table → source.is_table b table
  pub since_own : (a b : Files) (position : List ℕ) (base : Table) (commits : List Commit) → SameIn (folder_of source.kind) a b → source.is_since a position base commits → source.is_since b position base commits
  pub absent_own : (a b : Files) → SameIn (folder_of source.kind) a b → source.is_absent a → source.is_absent b
  pub holds_own : (a b : Files) (history : History) → SameIn (folder_of source.kind) a b → source.holds a history → source.holds b history
  pub reaches_own : (a b : Files) (position : List ℕ) → SameIn (folder_of source.kind) a b → source.reaches a position → source.reaches b position
  pub one_head : (files : Files) (a b : Head) → source.is_head files a → source.is_head files b → a ≡ b
  pub ends : (files : Files) (head : Head) (position : List ℕ) (base : Table) (commits : List Commit) → source.is_head files head → source.reaches files position → source.is_since files position base commits → EndAt head.position position commits
  pub none_at_head : (files : Files) (head : Head) (base : Table) (commits : List Commit) → source.is_head files head → source.is_since files head.position base commits → commits ≡ []

same_source : (source : SourceMeaning) → SourceLaws source → (a b : Files) → SameIn (folder_of source.kind) a b → SameSource source a b
same_source source laws a b same =
    let back : SameIn (folder_of source.kind) b a = λ path own. sym (same path own) in
    record {
      absent = λ is. laws.absent_own a b same is;
      absent_before = λ is. laws.absent_own b a back is;
      head = λ head is. laws.head_own a b head same is;
      head_before = λ head is. laws.head_own b a head back is;
      table = λ table is. laws.table_own a b table same is;
      table_before = λ table is. laws.table_own b a table back is;
      reaches = λ position is. laws.reaches_own a b position same is;
      reaches_before = λ position is. laws.reaches_own b a position back is;
      since = λ position base commits is. laws.since_own a b position base commits same is;
      since_before = λ position base commits is. laws.since_own b a position base commits back is;
      holds = λ history is. laws.holds_own a b history same is;
      holds_before = λ history is. laws.holds_own b a history back is;
    }

-- the source stays where the files at none of its paths change
pub source_left : {S : Type 0} (store : Ghosts S) (source : SourceMeaning) → SourceLaws source → (Kept : List ℕ → Type 0) → ((path : List ℕ) → IsIn (folder_of source.kind) path → Kept path) → (old new : S) → store.tells → LeavesAlone store Kept old new
    → ((path : List ℕ) → IsIn (folder_of source.kind) path → IsClean (store.disk old) path) → KeepsSource store source old new
source_left store source laws Kept kept old new told alone clean = record {
  at_return = same_source source laws (store.disk old).files (store.disk new).files (λ path own. alone.disk.files path (kept path own));
  clean = λ path own. alone.disk.clean path (kept path own) (clean path own);
  moments = weaker store old new (KeepsImage Kept (store.disk old)) (SameSource source (store.disk old).files)
      (λ image left. same_source source laws (store.disk old).files image (λ path own. left path (kept path own) (clean path own))) (λ t. alone.moments) told;
}

pub source_kept : {S : Type 0} (store : Ghosts S) (source : SourceMeaning) → SourceLaws source → (kind : Kind) → (source.kind ≡ kind → ⊥) → (old new : S) → store.tells → TouchesOwn store kind old new
    → ((path : List ℕ) → IsIn (folder_of source.kind) path → IsClean (store.disk old) path) → KeepsSource store source old new
source_kept store source laws kind apart old new told alone clean =
    source_left store source laws (MayNotTouch kind) (apart_untouched source.kind kind (λ same. apart (sym same))) old new told alone clean

-- ---- the target

-- two views of one target: the same, or both without a commit
abbrev pub AreOne : View → View → Type 0
AreOne v w = SameView v w ⊎ (IsUnpublished v × IsUnpublished w)

pub record ViewLaws (target : Meaning) : Type 0 where
  pub one_view : (files : Files) (v w : View) → target.reads files v → target.reads files w → AreOne v w
  pub absent_any : (files : Files) (p q : List (List ℕ)) → target.reads files (absent p) → target.reads files (absent q)
  pub published : (files : Files) (v : View) → target.reads files v → IsUnpublished v ⊎ IsPublished v

one_count : (v w : View) → AreOne v w → v.commits ≡ w.commits
one_count v w (inl same) = same.commits
one_count v w (inr none) = ap (λ (x : View). x.commits) none.0 ∙ sym (ap (λ (x : View). x.commits) none.1)

pub one_mark : (v w : View) → AreOne v w → v.mark ≡ w.mark
one_mark v w (inl same) = same.mark
one_mark v w (inr none) = ap (λ (x : View). x.mark) none.0 ∙ sym (ap (λ (x : View). x.mark) none.1)

one_schema : (v w : View) → AreOne v w → v.table.schema ≡ w.table.schema
one_schema v w (inl same) = same.schema
one_schema v w (inr none) = ap (λ (x : View). x.table.schema) none.0 ∙ sym (ap (λ (x : View). x.table.schema) none.1)

one_rows : (v w : View) → AreOne v w → SameRows v.table.rows w.table.rows
one_rows v w (inl same) = same.rows
one_rows v w (inr none) =
    let is : v.table.rows ≡ w.table.rows = ap (λ (x : View). x.table.rows) none.0 ∙ sym (ap (λ (x : View). x.table.rows) none.1) in
    λ row. (λ there. subst (λ (rows : List Row). Contains rows row) is there, λ there. subst (λ (rows : List Row). Contains rows row) (sym is) there)

rows_refl : (rows : List Row) → SameRows rows rows
rows_refl rows row = (λ there. there, λ there. there)

pub marked_one : (v w : View) (P : Standing → Type 0) → AreOne v w → IsMarked v P → IsMarked w P
marked_one v w P one marked = (marked.0, sym (one_mark v w one) ∙ marked.1, marked.2)

pub one_back : (v w : View) → AreOne v w → AreOne w v
one_back v w (inl same) = inl (record { commits = sym same.commits; mark = sym same.mark; rows = λ row. ((same.rows row).1, (same.rows row).0); partition = sym same.partition; schema = sym same.schema })
one_back v w (inr none) = inr (none.1, none.0)

-- with the columns of the one, the other shows the same
columns_same : (v w : View) (partition : List (List ℕ)) → AreOne v w → v.table.partition ≡ partition → SameView v (with_columns partition w)
columns_same v w partition one columns = record { commits = one_count v w one; mark = one_mark v w one; rows = one_rows v w one; partition = columns; schema = one_schema v w one }

columns_of : (v w : View) (partition : List (List ℕ)) → AreOne v w → v.table.partition ≡ partition → (partition ≡ w.table.partition) ⊎ IsUnpublished w
columns_of v w partition (inl same) columns = inl (sym columns ∙ same.partition)
columns_of v w partition (inr none) columns = inr none.1

-- where there is a mark, the tables are the same
table_one : (v w : View) (base : Table) (standing : Standing) → AreOne v w → v.mark ≡ Some standing → SameTable v.table base → SameTable w.table base
table_one v w base standing (inl same) marked is = record {
  rows = λ row. (λ there. (is.rows row).0 ((same.rows row).1 there), λ there. (same.rows row).0 ((is.rows row).1 there));
  partition = sym same.partition ∙ is.partition;
  schema = sym same.schema ∙ is.schema;
}
table_one v w base standing (inr none) marked is = absurd (not_marked v (λ s. Unit {0}) (unmarked v none.0) (standing, marked, tt))

partition_one : (v w : View) (standing : Standing) → AreOne v w → v.mark ≡ Some standing → v.table.partition ≡ w.table.partition
partition_one v w standing (inl same) marked = same.partition
partition_one v w standing (inr none) marked = absurd (not_marked v (λ s. Unit {0}) (unmarked v none.0) (standing, marked, tt))

-- ---- what is due

module _ (source : SourceMeaning) (mode : Mode) (before : Files) (v w : View) (one : AreOne v w) where
  id_one : (stated id : Option (List ℕ)) → IsIdBehind source before v stated id → IsIdBehind source before w stated id
  id_one (Some stated) id is = is
  id_one None id is = (
    λ standing marked whole. is.0 standing (one_mark v w one ∙ marked) whole,
    λ no. is.1 (λ (whole : IsMarked v (IsWhole source before)). no (marked_one v w (IsWhole source before) one whole)),
  )

  pub takes_one : TakesCommits source mode before w → TakesCommits source mode before v
  takes_one takes = (takes.0, marked_one w v (IsWhole source before) (one_back v w one) takes.1)

  since_one : (partition : List (List ℕ)) (commits : List Commit) (full : Bool) → AreSinceMark source mode before v partition commits full → AreSinceMark source mode before w partition commits full
  since_one partition commits full is = record {
    sync = is.sync;
    marked =
        let standing : Standing = is.marked.0 in
        let base : Table = is.marked.2.1.0 in
        (standing, sym (one_mark v w one) ∙ is.marked.1, (is.marked.2.0, (base, table_one v w base standing one is.marked.1 is.marked.2.1.1, is.marked.2.1.2)));
    columns = is.columns ∙ partition_one v w is.marked.0 one is.marked.1;
    way = is.way;
  }

  full_one : (head : Head) (partition : List (List ℕ)) (commits : List Commit) (full : Bool) → IsInFull source mode before v head partition commits full → IsInFull source mode before w head partition commits full
  full_one head partition commits full is = record {
    not_since = λ takes. is.not_since (takes_one takes);
    table = is.table;
    is_table = is.is_table;
    commit = is.commit;
    only = is.only;
    position = is.position;
    change = record {
      rows = change_of_same_rows v.table.rows w.table.rows is.table.rows is.table.rows is.commit.change.removed is.commit.change.added (one_rows v w one) (rows_refl is.table.rows) is.change.rows;
      schema = is.change.schema;
    };
    leads = λ row. (
      λ after. (is.leads row).0 (row_after w.table.rows v.table.rows is.commit.change row (one_rows w v (one_back v w one)) after),
      λ there. row_after v.table.rows w.table.rows is.commit.change row (one_rows v w one) ((is.leads row).1 there),
    );
    columns = is.columns;
    way = is.way;
  }

  due_one : Due source mode before v → Due source mode before w
  due_one due = record {
    head = due.head;
    is_head = due.is_head;
    id = due.id;
    is_id = id_one due.head.table due.id due.is_id;
    partition = due.partition;
    commits = due.commits;
    full = due.full;
    way = ⊎_elim (λ (is : AreSinceMark source mode before v due.partition due.commits due.full). inl (since_one due.partition due.commits due.full is))
        (λ (is : IsInFull source mode before v due.head due.partition due.commits due.full). inr (full_one due.head due.partition due.commits due.full is)) due.way;
  }

-- the position behind the last of the commits
position_behind : (image : ColumnTrees → Option ColumnTrees) (origin : Origin) (head : List ℕ) (commits : List Commit) (view last : View) → IsAdvancedAll image origin view commits last → EndAt head (position_at view.mark) commits → position_at last.mark ≡ head
position_behind image origin head [] view last same ends = ap position_at (sym same.mark) ∙ ends
position_behind image origin head (commit ∷ commits) view last leads ends =
    let next : View = leads.0 in
    let at : position_at next.mark ≡ commit.position = ap position_at leads.1.mark in
    position_behind image origin head commits next last leads.2 (subst (λ (p : List ℕ). EndAt head p commits) (sym at) ends)

-- What is due at the view that was kept is due at each view of the target, and leads to this one, also where a crash can damage the target.
pub record ToldDue (source : SourceMeaning) (target : Meaning) (mode : Mode) (v start : View) (before : Files) (head : Head) (partition : List (List ℕ)) (commits : List Commit) (full : Bool) (origin : Origin) (last : View) : Type 0 where
  pub due : Due source mode before start
  pub head_is : due.head ≡ head
  pub partition_is : due.partition ≡ partition
  pub commits_are : due.commits ≡ commits
  pub full_is : due.full ≡ full
  pub origin_is : origin_of due ≡ origin
  pub columns : (due.partition ≡ start.table.partition) ⊎ IsUnpublished start
  pub leads : IsAdvancedAll target.image (origin_of due) (with_columns due.partition start) due.commits last
  pub in_full : due.full ≡ true → HasTable source target before last
  pub position : position_at last.mark ≡ due.head.position
  pub gained : (files : Files) → Gained target origin v before commits (length commits) files → Gained target (origin_of due) (with_columns due.partition start) before due.commits (length due.commits) files

module _ (source : SourceMeaning) (own : SourceLaws source) (target : Meaning) (mode : Mode) where
  module _ (crash : CrashLaws target) where
    head_left : (start : View) (before : Files) (disk : Disk) (image : Files) → target.settled disk → MayLeave disk image → IsAtHead source target mode start before disk.files → IsAtHead source target mode start before image
    head_left start before disk image settled may is =
        let due = is.due in
        let gained = is.gained in
        let here : View = with_columns due.partition start in
        let view : View = gained.view in
        let may_in = λ (path : List ℕ) (own : IsIn (folder_of target.kind) path) (clean : IsClean disk path). may path clean in
        let count : view.commits ≡ here.commits + length due.commits = count_taken target.image (origin_of due) here due.commits (length due.commits) view gained.leads gained.within in
        record {
          due = due;
          columns = is.columns;
          gained = record {
            within = gained.within;
            view = view;
            leads = gained.leads;
            stands = crash.reads disk image view settled may_in gained.stands;
            each = λ i commit within at.
                let le : here.commits + i + 1 ≤ view.commits = omega (arith, count, within) in
                crash.carries disk image view (here.commits + i + 1) commit.change (standing_at (origin_of due) commit.position) settled may_in gained.stands le (gained.each i commit within at);
            earlier = λ c change m within was.
                let le : c ≤ view.commits = omega (arith, count, within) in
                crash.carries disk image view c change m settled may_in gained.stands le (gained.earlier c change m within was);
          };
          position = is.position;
          in_full = is.in_full;
        }

    before_left : (start : View) (disk : Disk) (image : Files) → target.settled disk → MayLeave disk image → target.reads disk.files start → IsAsBefore target start disk.files image
    before_left start disk image settled may reads = record {
      view = start;
      same = same_refl start;
      reads = crash.reads disk image start settled (λ path own clean. may path clean) reads;
      earlier = λ c change m le was. crash.carries disk image start c change m settled (λ path own clean. may path clean) reads le was;
    }

    module _ {S : Type 0} (store : Ghosts S) where
      -- nothing was written
      pub synced_idle : (start : View) (U D : Type 0) → (D → ⊥) → (old new : S) → store.tells → OnlyReads store old new → target.reads (store.disk old).files start → target.settled (store.disk old)
          → Synced store source target mode start U D old new
      synced_idle start U D never old new told reading reads settled =
          let before : Files = (store.disk old).files in
          let same : store.disk new ≡ store.disk old = reading.disk in
          record {
            at_return = λ u. subst (λ (d : Disk). IsAsBeforeOrUnderway source target mode start before d.files) (sym same) (inl (record { view = start; same = same_refl start; reads = reads; earlier = λ c change m le was. was }));
            settled = λ u. subst (λ (d : Disk). target.settled d) (sym same) settled;
            moments = λ u. weaker store old new (MayLeave (store.disk old)) (λ image. IsAsBeforeOrUnderway source target mode start before image × target.settled (after_crash image))
                (λ image may. (inl (before_left start (store.disk old) image settled may reads), crash.settled (store.disk old) image settled (λ path own clean. may path clean))) (λ t. reading.moments) told;
            done = λ d. absurd (never d);
            since = λ d. absurd (never d);
            earlier = subst (λ (d : Disk). StillCarries target start.commits before d.files) (sym same) (λ c change m le was. was);
            bytes = alone_by_reading store (target.reached before) old new reading;
          }

      -- over a run that only read
      pub synced_behind : (start : View) (U D : Type 0) (old mid new : S) → store.tells → OnlyReads store old mid → target.reads (store.disk old).files start → target.settled (store.disk old)
          → Synced store source target mode start U D mid new → Synced store source target mode start U D old new
      synced_behind start U D old mid new told reading reads settled run =
          let same : store.disk mid ≡ store.disk old = reading.disk in
          let P : Disk → Files → Type 0 = λ d image. IsAsBeforeOrUnderway source target mode start d.files image × target.settled (after_crash image) in
          record {
            at_return = λ u. subst (λ (d : Disk). IsAsBeforeOrUnderway source target mode start d.files (store.disk new).files) same (run.at_return u);
            settled = run.settled;
            moments = λ u. goes_further store old mid new (P (store.disk old))
                (weaker store old mid (MayLeave (store.disk old)) (P (store.disk old))
                (λ image may. (inl (before_left start (store.disk old) image settled may reads), crash.settled (store.disk old) image settled (λ path own clean. may path clean))) (λ t. reading.moments))
                (λ t. subst (λ (d : Disk). IsEachMoment store mid new (P d)) same (run.moments u)) told;
            done = λ d. subst (λ (k : Disk). IsAtHead source target mode start k.files (store.disk new).files) same (run.done d);
            since = λ d image left. subst (λ (k : Disk). IsAtHead source target mode start k.files image) same (run.since d image left);
            earlier = subst (λ (d : Disk). StillCarries target start.commits d.files (store.disk new).files) same run.earlier;
            bytes = alone_further store (target.reached (store.disk old).files) old mid new (λ t. alone_by_reading store (target.reached (store.disk old).files) old mid reading)
                (λ t. subst (λ (d : Disk). LeavesAlone store (target.reached d.files) mid new) same run.bytes) told;
          }

  -- what was due at the view that was kept is gained
  module _ (v : View) (before : Files) (head : Head) (is_head : source.is_head before head) (id : Option (List ℕ)) (is_id : IsIdBehind source before v head.table id) (partition : List (List ℕ)) (commits : List Commit) (full : Bool)
      (way : AreSinceMark source mode before v partition commits full ⊎ IsInFull source mode before v head partition commits full) where
    abbrev origin : Origin
    origin = record { source = source.kind; table = id }

    unfoldable pub due_here : Due source mode before v
    due_here = record {
      head = head;
      is_head = is_head;
      id = id;
      is_id = is_id;
      partition = partition;
      commits = commits;
      full = full;
      way = way;
    }

    ends_here : EndAt head.position (position_at v.mark) commits
    ends_here =
        ⊎_elim
        (λ (is : AreSinceMark source mode before v partition commits full).
        let standing : Standing = is.marked.0 in
        subst (λ (p : List ℕ). EndAt head.position p commits) (sym (ap position_at is.marked.1)) (own.ends before head standing.to is.marked.2.1.0 commits is_head is.marked.2.0.1 is.marked.2.1.2))
        (λ (f : IsInFull source mode before v head partition commits full). subst (λ (cs : List Commit). EndAt head.position (position_at v.mark) cs) (sym f.only) f.position)
        way

    module _ (columns : v.table.partition ≡ partition) where
      full_table : (f : IsInFull source mode before v head partition commits full) (last : View) → IsAdvancedAll target.image origin v (f.commit ∷ []) last → HasTable source target before last
      full_table f last leads =
          let next : View = leads.0 in
          let step = leads.1 in
          let same : SameView next last = leads.2 in
          record {
            table = f.table;
            is_table = f.is_table;
            rows = λ row. (
              λ there. (f.leads row).0 ((step.rows row).0 ((same.rows row).1 there)),
              λ there. (same.rows row).0 ((step.rows row).1 ((f.leads row).1 there)),
            );
            partition = sym same.partition ∙ step.partition ∙ columns ∙ f.columns;
            schema = subst (λ (stated : Option ColumnTrees). IsSchemaAfter target.image stated v.table.schema next.table.schema) f.change.schema step.schema ∙ ap (λ (s : ColumnTrees). Some s) same.schema;
          }

      has_table : (last : View) → IsAdvancedAll target.image origin v commits last → full ≡ true → HasTable source target before last
      has_table last leads is_full =
          ⊎_elim (λ (is : AreSinceMark source mode before v partition commits full). let no : false ≡ true = sym is.way ∙ is_full in absurd (cc no))
          (λ (f : IsInFull source mode before v head partition commits full). full_table f last (subst (λ (cs : List Commit). IsAdvancedAll target.image origin v cs last) f.only leads)) way

      module _ (start : View) (one : AreOne v start) where
        abbrev begun : View
        begun = with_columns partition start

        begun_same : SameView v begun
        begun_same = columns_same v start partition one columns

        gained_begun : (n : ℕ) (files : Files) → Gained target origin v before commits n files → Gained target origin begun before commits n files
        gained_begun n files gained = record {
          within = gained.within;
          view = gained.view;
          leads = advanced_from target.image origin v begun (take n commits) gained.view begun_same gained.leads;
          stands = gained.stands;
          each = subst (λ (c : ℕ). Carries target origin c commits n files) begun_same.commits gained.each;
          earlier = subst (λ (c : ℕ). StillCarries target c before files) begun_same.commits gained.earlier;
        }

        underway : (files : Files) → GainedSome target origin v before commits files → IsUnderway source target mode start before files
        unfolding due_one due_here
        underway files some = record {
          due = due_one source mode before v start one due_here;
          columns = columns_of v start partition one columns;
          gained = record { count = some.count; gained = gained_begun some.count files some.gained };
        }

        at_head : (files : Files) → Gained target origin v before commits (length commits) files → IsAtHead source target mode start before files
        unfolding due_one due_here gained_begun
        at_head files gained =
            let leads : IsAdvancedAll target.image origin v commits gained.view = subst (λ (cs : List Commit). IsAdvancedAll target.image origin v cs gained.view) (take-length commits) gained.leads in
            record {
              due = due_one source mode before v start one due_here;
              columns = columns_of v start partition one columns;
              gained = gained_begun (length commits) files gained;
              position = position_behind target.image origin head.position commits v gained.view leads ends_here;
              in_full = λ is_full. has_table gained.view leads is_full;
            }

        pub stopped_here : {S : Type 0} (store : Ghosts S) (leaves : Leaving) (new : S) (U : Type 0) (place : ℕ) → place ≤ length commits → StayAfter store target (leaves before partition origin (take place commits)) new
            → (U → (n : ℕ) × (place ≤ n) × (n ≤ place + 1) × Gained target origin v before commits n (store.disk new).files × IsAsLeft target.reached (leaves before partition origin (take n commits)) (store.disk new).files)
            → IsStopped store source target leaves mode start U before new
        unfolding due_one due_here
        stopped_here store leaves new U place within left gained = record {
          due = due_one source mode before v start one due_here;
          columns = columns_of v start partition one columns;
          place = place;
          within = within;
          left = left;
          gained = λ u. let some = gained u in (some.0, some.1, some.2, gained_begun some.0 (store.disk new).files some.3, some.4);
        }

        pub limited_here : {S : Type 0} (store : Ghosts S) (passes : Files → List (List ℕ) → Origin → List Commit → LimitKind → ℕ → Type 0) (leaves : Leaving) (new : S) (which : LimitKind) (number : ℕ) (place : ℕ) → place < length commits
            → passes before partition origin (take (place + 1) commits) which number → StayAfter store target (leaves before partition origin (take place commits)) new
            → Gained target origin v before commits place (store.disk new).files → (which ≢ Names → (0 < place) × leaves before partition origin (take place commits) (store.disk new).files) → IsLimited store source target passes leaves mode start before new which number
        unfolding due_one due_here
        limited_here store passes leaves new which number place within passed left gained untouched = record {
          due = due_one source mode before v start one due_here;
          columns = columns_of v start partition one columns;
          place = place;
          within = within;
          passed = passed;
          left = left;
          gained = gained_begun place (store.disk new).files gained;
          untouched = untouched;
        }

        pub contested_here : {S : Type 0} (store : Ghosts S) (leaves : Leaving) (old new : S) (place : ℕ) → place < length commits → Carries target origin v.commits commits place (store.disk new).files
            → (left : StayAfter store target (leaves before partition origin (take place commits)) new) → target.commits_in (store.disk new).files ≤ v.commits + place + 1 → IsEachMoment store old new (StayShown target origin v.commits commits (store.disk new).files)
            → KeepsTheirs store target left.middle new → IsContested store source target leaves mode start before old new
        unfolding due_one due_here
        contested_here store leaves old new place within published left newest stay theirs = record {
          due = due_one source mode before v start one due_here;
          columns = columns_of v start partition one columns;
          place = place;
          within = within;
          published = subst (λ (c : ℕ). Carries target origin c commits place (store.disk new).files) begun_same.commits published;
          left = left;
          newest = subst (λ (c : ℕ). target.commits_in (store.disk new).files ≤ c + place + 1) begun_same.commits newest;
          stay = subst (λ (c : ℕ). IsEachMoment store old new (StayShown target origin c commits (store.disk new).files)) begun_same.commits stay;
          theirs = theirs;
        }

        pub told_due : (last : View) → IsAdvancedAll target.image origin v commits last → ToldDue source target mode v start before head partition commits full origin last
        unfolding due_one due_here gained_begun
        told_due last leads = record {
          due = due_one source mode before v start one due_here;
          head_is = refl;
          partition_is = refl;
          commits_are = refl;
          full_is = refl;
          origin_is = refl;
          columns = columns_of v start partition one columns;
          leads = advanced_from target.image origin v begun commits last begun_same leads;
          in_full = λ is_full. has_table last leads is_full;
          position = position_behind target.image origin head.position commits v last leads ends_here;
          gained = λ files gained. gained_begun (length commits) files gained;
        }

        pub synced_all : {S : Type 0} (store : Ghosts S) → CrashLaws target → NowOnly store → (U D Published : Type 0) (done : Bool) (old new : S) → store.tells → (store.disk old).files ≡ before → (U → Published) → (D → Published × (done ≡ true))
            → Publishes store target origin v commits Published done old new → Synced store source target mode start U D old new
        synced_all store crash only_now U D Published done old new told is_before from from_done run =
            let some : (files : Files) → GainedSome target origin v (store.disk old).files commits files → IsAsBeforeOrUnderway source target mode start (store.disk old).files files
            = λ files gained. inr (subst (λ (b : Files). IsUnderway source target mode start b files) (sym is_before) (underway files (subst (λ (b : Files). GainedSome target origin v b commits files) is_before gained))) in
            let at_end : D → IsAtHead source target mode start (store.disk old).files (store.disk new).files
            = λ d. subst (λ (b : Files). IsAtHead source target mode start b (store.disk new).files) (sym is_before)
            (at_head (store.disk new).files (subst (λ (b : Files). Gained target origin v b commits (length commits) (store.disk new).files) is_before (run.all (from_done d).1))) in
            record {
              at_return = λ u. some (store.disk new).files (run.at_return (from u));
              settled = λ u. run.settled (from u);
              moments = λ u. weaker store old new (LeavesSome target origin v (store.disk old).files commits) (λ image. IsAsBeforeOrUnderway source target mode start (store.disk old).files image × target.settled (after_crash image))
                  (λ image left. (some image left.0, left.1)) (λ t. run.moments (from u)) told;
              done = at_end;
              since = λ d image left. head_left crash start (store.disk old).files (store.disk new) image (run.settled (from_done d).0) (only_now new image told left) (at_end d);
              earlier = subst (λ (c : ℕ). StillCarries target c (store.disk old).files (store.disk new).files) (one_count v start one) run.earlier;
              bytes = run.bytes;
            }

    -- where the mark has the head's position there is nothing to publish
    pub still_none : (start : View) (one : AreOne v start) → mode ≡ modes.Sync → IsMarked start (λ standing. IsWhole source before standing × ((other : Head) × source.is_head before other × (standing.to ≡ other.position))) → commits ≡ []
    still_none start one sync at =
        ⊎_elim
        (λ (is : AreSinceMark source mode before v partition commits full).
        let standing : Standing = is.marked.0 in
        let here : Standing = at.0 in
        let same : standing ≡ here = one_standing v standing here is.marked.1 (one_mark v start one ∙ at.1) in
        let to : standing.to ≡ at.2.1.0.position = ap (λ (s : Standing). s.to) same ∙ at.2.1.2 in
        own.none_at_head before at.2.1.0 is.marked.2.1.0 commits at.2.1.1 (subst (λ (p : List ℕ). source.is_since before p is.marked.2.1.0 commits) to is.marked.2.1.2))
        (λ (f : IsInFull source mode before v head partition commits full).
        let takes : TakesCommits source mode before start = (sync, (at.0, at.1, at.2.0)) in
        absurd (f.not_since (takes_one source mode before v start one takes)))
        way
