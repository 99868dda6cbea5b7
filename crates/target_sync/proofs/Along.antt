-- A sync takes a target along each history that the source's files hold.
use Rattle.std.proofs.Common.{◌≡◌, ◌↔◌, ◌⊎◌, inl, inr, ⊎_elim, ℕ, zero, suc, ◌+◌, ◌≤◌, ◌<◌, Bool, true, false, List, [], ◌∷◌, ◌++◌, length, take, drop, All, Contains, Option, Some, refl, sym, ap, subst, ◌∙◌, arith}
use Rattle.std.specs.Prelude.{slice_get}
use Rattle.std.proofs.lemmas.List.Elements.{All-get_or}
use Rattle.std.proofs.lemmas.Option.{get_or_from_slice_get, same_Some, slice_get_within}
use Rattle.lake_store.specs.Disk.{Files}
use Rattle.lake_store.specs.declared.store.Store.{Ghosts}
use Rattle.lake_store.proofs.MomentLaws.{weaker}
use Rattle.source_core.specs.Histories.{IsAt, IsLast, IsLike, LeadAlong, ShowsEntry, ShowsTable}
use Rattle.table_history.specs.Tables.{SameTable}
use Rattle.source_core.specs.declared.head.Head.{Head}
use Rattle.source_core.proofs.Histories.{along_length, entry_after, entry_same}
use Rattle.table_history.specs.History.{FitsColumn, History, IsHistory, IsSoundTable, column_type, positions_of}
use Rattle.table_history.specs.Rows.{HasDistinctPaths}
use Rattle.table_history.specs.TypeTree.{ColumnTrees}
use Rattle.table_history.specs.declared.table.Commit.{Commit}
use Rattle.table_history.specs.declared.kind.Kind.{Kind}
use Rattle.table_history.specs.declared.row.PartValue.{PartValue}
use Rattle.table_history.specs.declared.table.Table.{Table}
use Rattle.table_history.proofs.Laws.{change_of_same_rows}
use Rattle.target_core.specs.Gained.{Gained}
use Rattle.target_core.specs.Meaning.{Meaning}
use Rattle.target_core.specs.Views.{IsAdvanced, IsAdvancedAll, IsPublished, IsSchemaAfter, IsUnpublished, Origin, SameView, Standing, View, absent, standing_at}
use Rattle.target_core.specs.Folders.{after_crash}
use Rattle.target_core.proofs.Same.{same_refl, same_trans}
use Rattle.target_sync.specs.Along.{EndsAlong, GoesOnAlong, HasEachTable, HasEnded, HasGoneTo, IsAlong, IsAstray, IsAtLast, IsOfAnotherTable, IsToLast, IsWholeSync, LeadsAsFar, StandsFrom, StaysOrEnds}
use Rattle.target_sync.specs.Answered.{Answer, IsDone, IsReady, IsSync, IsUndisturbed}
use Rattle.target_sync.specs.Targets.{TargetFacts}
use Rattle.target_core.specs.Conditions.{GoesOn}
use Rattle.target_sync.specs.Dues.{AreSinceMark, Due, IsInFull, IsMarked, IsWhole, MayBeSame, TakesCommits, origin_of}
use Rattle.target_sync.specs.Sources.{SourceMeaning}
use Rattle.target_sync.specs.Synced.{HasTable, IsAsBefore, IsAsBeforeOrUnderway, IsAtHead, IsUnderway, Synced, with_columns}
use Rattle.target_sync.specs.declared.plan.Mode.{Mode}
use Rattle.target_sync.specs.declared.plan.Mode.TheVariants as modes
use Rattle.target_sync.proofs.Histories.{not_marked, one_standing, unmarked}
use Rattle.lake_basics.proofs.Lists.{get_pushed}

-- ---- places in a history

pub at_place : {X : Type 0} (xs : List X) (k : ℕ) (x : X) → slice_get xs k ≡ Some x → xs ≡ take k xs ++ x ∷ drop (suc k) xs
at_place [] k x is = cc is
at_place (y ∷ xs) zero x is = let one : y ≡ x = cc is in ap (λ z. z ∷ xs) one
at_place (y ∷ xs) (suc k) x is = ap (λ zs. y ∷ zs) (at_place xs k x is)

behind_place : {X : Type 0} (xs : List X) (k n m : ℕ) (x : X) → m ≡ k + n → slice_get xs k ≡ Some x → slice_get (x ∷ drop (suc k) xs) n ≡ slice_get xs m
behind_place [] k n m x at is = cc is
behind_place (y ∷ xs) zero n m x at is =
    let here : m ≡ n = omega (arith, at) in
    ap (λ z. slice_get (z ∷ xs) n) (same_Some x y (sym is)) ∙ ap (λ (i : ℕ). slice_get (y ∷ xs) i) (sym here)
behind_place (y ∷ xs) (suc k) n zero x at is = absurd (omega (arith, at))
behind_place (y ∷ xs) (suc k) n (suc m) x at is = behind_place xs k n m x (omega (arith, at)) is

-- ---- the laws

pub record HistoryLaws (source : SourceMeaning) : Type 0 where
  pub last : (files : Files) (history : History) (head : Head) → IsHistory history → source.holds files history → source.is_head files head
      → (last : List ℕ × Table) × IsLast history last × (last.0 ≡ head.position) × ((table : Table) → source.is_table files table → SameTable table last.1)
  pub along : (files : Files) (front behind : History) (entry : List ℕ × Table) (base : Table) (commits : List Commit) → IsHistory (front ++ entry ∷ behind) → source.holds files (front ++ entry ∷ behind) → IsLike base entry.1
      → source.reaches files entry.0 → source.is_since files entry.0 base commits → LeadAlong entry.1 behind commits
  pub one_head : (files : Files) (a b : Head) → source.is_head files a → source.is_head files b → a ≡ b
  pub reached_held : (files : Files) (history : History) (position : List ℕ) → source.holds files history → source.reaches files position → Contains (positions_of history) position

abbrev pub KeepsKinds : (ColumnTrees → Option ColumnTrees) → Type 0
KeepsKinds image = (schema held : ColumnTrees) → image schema ≡ Some held → (name : List ℕ) (value : PartValue) → FitsColumn (column_type schema name) value ↔ FitsColumn (column_type held name) value

-- ---- along one history

all_there : {X : Type 0} (P : X → Type 0) (xs : List X) (i : ℕ) (x : X) → All P xs → slice_get xs i ≡ Some x → P x
all_there P xs i x all is = subst P (get_or_from_slice_get xs i x x is) (All-get_or P xs i x (slice_get_within xs i x is) all)

last_length : {X : Type 0} (front : List X) (x : X) → length (front ++ x ∷ []) ≡ suc (length front)
last_length [] x = refl
last_length (y ∷ front) x = ap (λ (n : ℕ). suc n) (last_length front x)

drop_there : {X : Type 0} (xs : List X) (i j m : ℕ) → m ≡ i + j → slice_get (drop i xs) j ≡ slice_get xs m
drop_there xs zero j m at = let here : m ≡ j = omega (arith, at) in ap (λ (k : ℕ). slice_get xs k) (sym here)
drop_there [] (suc i) j m at = refl
drop_there (x ∷ xs) (suc i) j zero at = absurd (omega (arith, at))
drop_there (x ∷ xs) (suc i) j (suc m) at = drop_there xs i j m (omega (arith, at))

drop_length : {X : Type 0} (xs : List X) (k : ℕ) (x : X) → slice_get xs k ≡ Some x → suc (k + length (drop (suc k) xs)) ≡ length xs
drop_length [] k x is = cc is
drop_length (y ∷ xs) zero x is = omega arith
drop_length (y ∷ xs) (suc k) x is = let rest = drop_length xs k x is in omega (arith, rest)

-- with its own columns a view shows the same
own_columns : (partition : List (List ℕ)) (start : View) → partition ≡ start.table.partition → SameView start (with_columns partition start)
own_columns partition start same = record { commits = refl; mark = refl; rows = λ row. (λ is. is, λ is. is); partition = sym same; schema = refl }

unmarked_entry : (source : Kind) (image : ColumnTrees → Option ColumnTrees) (entry : List ℕ × Table) (view : View) → IsUnpublished view → ShowsEntry source image entry view → ⊥
unmarked_entry source image entry view none shows = not_marked view (λ s. Unit {0}) (unmarked view none) (shows.standing, shows.mark, tt)

module _ (source : SourceMeaning) (laws : HistoryLaws source) (target : Meaning) (kinds : KeepsKinds target.image) (published : (files : Files) (v : View) → target.reads files v → IsUnpublished v ⊎ IsPublished v) (mode : Mode) (before : Files) (history : History) (is : IsHistory history) (holds : source.holds before history) where
  distinct_at : (i : ℕ) (entry : List ℕ × Table) → slice_get history i ≡ Some entry → HasDistinctPaths entry.1.rows
  distinct_at i entry there = (all_there (λ (p : List ℕ × Table). IsSoundTable p.1) history i entry is.tables there).distinct

  module _ (k : ℕ) (entry : List ℕ × Table) (there : slice_get history k ≡ Some entry) (start : View) (shows : ShowsEntry source.kind target.image entry start) where
    -- the commits since the mark are those along the history
    pub since_along : (partition : List (List ℕ)) (commits : List Commit) (full : Bool) → AreSinceMark source mode before start partition commits full → LeadAlong entry.1 (drop (suc k) history) commits
    since_along partition commits full are =
        let standing = are.marked.0 in
        let base = are.marked.2.1.0 in
        let same : SameTable start.table base = are.marked.2.1.1 in
        let position : standing.to ≡ entry.0 = ap (λ (s : Standing). s.to) (one_standing start standing shows.standing are.marked.1 shows.mark) ∙ shows.position in
        let split : history ≡ take k history ++ entry ∷ drop (suc k) history = at_place history k entry there in
        let like : IsLike base entry.1 = record {
          rows = λ row. (λ held. (shows.rows row).0 ((same.rows row).1 held), λ held. (same.rows row).0 ((shows.rows row).1 held));
          partition = sym same.partition ∙ shows.partition;
          kinds = λ name in_columns value.
              let both = kinds entry.1.schema start.table.schema shows.schema name value in (
                λ fits. both.1 (subst (λ (s : ColumnTrees). FitsColumn (column_type s name) value) (sym same.schema) fits),
                λ fits. subst (λ (s : ColumnTrees). FitsColumn (column_type s name) value) same.schema (both.0 fits),
              );
        } in
        laws.along before (take k history) (drop (suc k) history) entry base commits (subst (λ (h : History). IsHistory h) split is) (subst (λ (h : History). source.holds before h) split holds) like
        (subst (λ (p : List ℕ). source.reaches before p) position are.marked.2.0.1) (subst (λ (p : List ℕ). source.is_since before p base commits) position are.marked.2.1.2)

    module _ (files : Files) (partition : List (List ℕ)) (commits : List Commit) (full : Bool) (are : AreSinceMark source mode before start partition commits full) (id : Option (List ℕ)) where
      abbrev pub origin : Origin
      origin = record { source = source.kind; table = id }

      -- behind the first n of them it stands n tables further
      pub since_at : (n : ℕ) → Gained target origin (with_columns partition start) before commits n files → IsAt source.kind target history files (suc (k + n))
      since_at n gained =
          let after = entry_after source.kind target.image origin refl entry (drop (suc k) history) commits n (with_columns partition start) gained.view (distinct_at k entry there)
          (λ i p at. distinct_at (suc k + i) p (sym (drop_there history (suc k) i (suc k + i) refl) ∙ at))
          (entry_same source.kind target.image entry start (with_columns partition start) (own_columns partition start are.columns) shows)
          (since_along partition commits full are) gained.within gained.leads in
          record { view = gained.view; reads = gained.stands; shows = (after.0, sym (behind_place history k n (k + n) entry refl there) ∙ after.1, after.2) }

      -- so behind all of them at the last one
      pub since_end : Gained target origin (with_columns partition start) before commits (length commits) files → IsAt source.kind target history files (length history)
      since_end gained =
          let many : length commits ≡ length (drop (suc k) history) = along_length entry.1 (drop (suc k) history) commits (since_along partition commits full are) in
          subst (λ (j : ℕ). IsAt source.kind target history files j) (ap (λ (n : ℕ). suc (k + n)) many ∙ drop_length history k entry there) (since_at (length commits) gained)

module _ (source : SourceMeaning) (laws : HistoryLaws source) (target : Meaning) (mode : Mode) (before : Files) (history : History) (is : IsHistory history) (holds : source.holds before history) where
  -- what shows the table at the head stands at the last one
  pub head_at : (files : Files) (head : Head) (view : View) (standing : Standing) → source.is_head before head → target.reads files view → view.mark ≡ Some standing → standing.origin.source ≡ source.kind → standing.to ≡ head.position → HasTable source target before view
      → IsAt source.kind target history files (length history)
  head_at files head view standing is_head reads marked format position has =
      let last = laws.last before history head is holds is_head in
      let front = last.1.0 in
      let split : history ≡ front ++ last.0 ∷ [] = last.1.1 in
      let same : SameTable has.table last.0.1 = last.3 has.table has.is_table in
      let at : IsAt source.kind target history files (suc (length front)) = record {
        view = view;
        reads = reads;
        shows = (
          last.0,
          ap (λ (h : History). slice_get h (length front)) split ∙ get_pushed front last.0,
          record {
            standing = standing;
            mark = marked;
            format = format;
            position = position ∙ sym last.2;
            rows = λ row. (λ held. (same.rows row).0 ((has.rows row).0 held), λ held. (has.rows row).1 ((same.rows row).1 held));
            partition = has.partition ∙ same.partition;
            schema = ap target.image (sym same.schema) ∙ has.schema;
          },
        );
      } in
      subst (λ (j : ℕ). IsAt source.kind target history files j) (sym (ap (λ (h : History). length h) split ∙ last_length front last.0)) at

  each_table : (files : Files) (head : Head) → source.is_head before head → (m : ℕ) → m ≡ length history → (at : IsAt source.kind target history files m) → HasEachTable source target before at.view
  each_table files head is_head zero all at table is_table =
      let last = laws.last before history head is holds is_head in
      let many : length history ≡ suc (length last.1.0) = ap (λ (h : History). length h) last.1.1 ∙ last_length last.1.0 last.0 in
      absurd (omega (arith, all, many))
  each_table files head is_head (suc j) all at table is_table =
      let last = laws.last before history head is holds is_head in
      let front = last.1.0 in
      let many : length history ≡ suc (length front) = ap (λ (h : History). length h) last.1.1 ∙ last_length front last.0 in
      let place : j ≡ length front = omega (arith, all, many) in
      let there : slice_get history (length front) ≡ Some last.0 = ap (λ (h : History). slice_get h (length front)) last.1.1 ∙ get_pushed front last.0 in
      let one : at.shows.0 ≡ last.0 = same_Some at.shows.0 last.0 (sym at.shows.1 ∙ ap (λ (i : ℕ). slice_get history i) place ∙ there) in
      let same : SameTable table last.0.1 = last.3 table is_table in
      let shows : ShowsEntry source.kind target.image last.0 at.view = subst (λ (e : List ℕ × Table). ShowsEntry source.kind target.image e at.view) one at.shows.2 in (
        λ row. (λ held. (same.rows row).1 ((shows.rows row).0 held), λ held. (shows.rows row).1 ((same.rows row).0 held)),
        shows.partition ∙ sym same.partition,
        ap target.image same.schema ∙ shows.schema,
      )

  -- one commit with the whole table
  pub full_at : (start : View) (head : Head) → source.is_head before head → (partition : List (List ℕ)) (commits : List Commit) (full : Bool) → IsInFull source mode before start head partition commits full → (id : Option (List ℕ))
      → (files : Files) (n : ℕ) → Gained target (record { source = source.kind; table = id }) (with_columns partition start) before commits n files → 0 < n → IsAt source.kind target history files (length history)
  full_at start head is_head partition commits full are id files zero gained some = absurd (omega (arith, some))
  full_at start head is_head partition commits full are id files (suc n) gained some =
      let origin : Origin = record { source = source.kind; table = id } in
      let leads : IsAdvancedAll target.image origin (with_columns partition start) (take (suc n) (are.commit ∷ [])) gained.view = subst (λ (cs : List Commit). IsAdvancedAll target.image origin (with_columns partition start) (take (suc n) cs) gained.view) are.only gained.leads in
      let next : View = leads.0 in
      let step : IsAdvanced target.image origin (with_columns partition start) are.commit next = leads.1 in
      let same : SameView next gained.view = all_taken origin n next gained.view leads.2 in
      let schema : IsSchemaAfter target.image (Some are.table.schema) start.table.schema next.table.schema = subst (λ (stated : Option ColumnTrees). IsSchemaAfter target.image stated start.table.schema next.table.schema) are.change.schema step.schema in
      head_at files head gained.view (standing_at origin are.commit.position) is_head gained.stands (sym same.mark ∙ step.mark) refl are.position
      (record {
        table = are.table;
        is_table = are.is_table;
        rows = λ row. (
          λ held. (are.leads row).0 ((step.rows row).0 ((same.rows row).1 held)),
          λ held. (same.rows row).0 ((step.rows row).1 ((are.leads row).1 held)),
        );
        partition = sym same.partition ∙ step.partition ∙ are.columns;
        schema = schema ∙ ap (λ (s : ColumnTrees). Some s) same.schema;
      })
    where
      all_taken : (o : Origin) (n : ℕ) (next last : View) → IsAdvancedAll target.image o next (take n []) last → SameView next last
      all_taken o zero next last is = is
      all_taken o (suc n) next last is = is

-- one commit in full leads to the last table
to_last : (source : SourceMeaning) → HistoryLaws source → (mode : Mode) (before : Files) (history : History) → IsHistory history → source.holds before history → (start : View) (head : Head) → source.is_head before head → (partition : List (List ℕ)) (commits : List Commit) (full : Bool) → IsInFull source mode before start head partition commits full → IsToLast history start commits
to_last source laws mode before history is holds start head is_head partition commits full are =
    let last = laws.last before history head is holds is_head in
    let same : SameTable are.table last.0.1 = last.3 are.table are.is_table in
    record {
      entry = last.0;
      last = last.1;
      commit = are.commit;
      only = are.only;
      position = are.position ∙ sym last.2;
      rows = change_of_same_rows start.table.rows start.table.rows are.table.rows last.0.1.rows are.commit.change.removed are.commit.change.added (λ row. (λ there. there, λ there. there)) same.rows are.change.rows;
    }

at_last : (source : SourceMeaning) → HistoryLaws source → (target : Meaning) (before : Files) (history : History) → IsHistory history → source.holds before history → (head : Head) → source.is_head before head → (files : Files) → IsAt source.kind target history files (length history) → IsAtLast source target history before files
at_last source laws target before history is holds head is_head files at = record { at = at; equals = each_table source laws target modes.Sync before history is holds files head is_head (length history) refl at }

module _ (source : SourceMeaning) (laws : HistoryLaws source) (target : Meaning) (kinds : KeepsKinds target.image) (published : (files : Files) (v : View) → target.reads files v → IsUnpublished v ⊎ IsPublished v) (mode : Mode) (before : Files) (history : History) (is : IsHistory history) (holds : source.holds before history) where
  -- a target that shows no mark has no commit
  none_still : (files : Files) (start view : View) → IsUnpublished start → start.mark ≡ view.mark → target.reads files view → IsUnpublished view
  none_still files start view none same reads = ⊎_elim (λ still. still) (λ (other : IsPublished view). absurd (not_marked view (λ s. Unit {0}) (sym same ∙ unmarked start none) (other.1.0, other.1.1, tt))) (published files view reads)

  module _ (k : ℕ) (start : View) (shows : ShowsTable source.kind target.image history k start) where
    within : k ≤ length history
    within = place k shows
      where
        place : (j : ℕ) → ShowsTable source.kind target.image history j start → j ≤ length history
        place zero none = omega arith
        place (suc i) at = let there = slice_get_within history i at.0 at.1 in omega (arith, there)

    -- as before it stands at the same table
    same_at : (files : Files) (view : View) → SameView start view → target.reads files view → IsAt source.kind target history files k
    same_at files view same reads = record { view = view; reads = reads; shows = still k shows }
      where
        still : (j : ℕ) → ShowsTable source.kind target.image history j start → ShowsTable source.kind target.image history j view
        still zero none = none_still files start view none same.mark reads
        still (suc i) at = (at.0, at.1, entry_same source.kind target.image at.0 start view same at.2)

    pub before_from : (files : Files) → IsAsBefore target start before files → StandsFrom source target mode history k start before files
    before_from files was = record { j = k; from = omega arith; within = within; at = same_at files was.view was.same was.reads; by = inl (refl, was) }

    -- no commit of the whole table is published
    none_at : (files : Files) (partition : List (List ℕ)) (view : View) → (partition ≡ start.table.partition) ⊎ IsUnpublished start → SameView (with_columns partition start) view → target.reads files view → IsAt source.kind target history files k
    none_at files partition view (inl columns) same reads = same_at files view (same_trans start (with_columns partition start) view (own_columns partition start columns) same) reads
    none_at files partition view (inr none) same reads = record { view = view; reads = reads; shows = still k shows }
      where
        still : (j : ℕ) → ShowsTable source.kind target.image history j start → ShowsTable source.kind target.image history j view
        still zero was = none_still files start view was same.mark reads
        still (suc i) at = absurd (unmarked_entry source.kind target.image at.0 start none at.2)

    module _ (files : Files) (due : Due source mode before start) where
      -- so many of them lead to the j-th table
      gone_to : (j n : ℕ) → (due.partition ≡ start.table.partition) ⊎ IsUnpublished start → Gained target (origin_of due) (with_columns due.partition start) before due.commits n files → (full : Bool) → due.full ≡ full → LeadsAsFar full history k n j
          → HasGoneTo source target mode history k j start before files
      gone_to j n columns gained full way far = record { due = due; columns = columns; count = n; gained = gained; as_far = subst (λ (f : Bool). LeadsAsFar f history k n j) (sym way) far }

      full_from : (n : ℕ) → (due.partition ≡ start.table.partition) ⊎ IsUnpublished start → IsInFull source mode before start due.head due.partition due.commits due.full → Gained target (origin_of due) (with_columns due.partition start) before due.commits n files
          → StandsFrom source target mode history k start before files
      full_from zero columns are gained = record {
        j = k;
        from = omega arith;
        within = within;
        at = none_at files due.partition gained.view columns gained.leads gained.stands;
        by = inr (gone_to k zero columns gained true are.way (inl (refl, refl)));
      }
      full_from (suc n) columns are gained =
          let one : length due.commits ≡ 1 = ap (λ (cs : List Commit). length cs) are.only in
          let within_one : suc n ≤ length due.commits = gained.within in
          let count : suc n ≡ 1 = omega (arith, one, within_one) in
          record {
            j = length history;
            from = within;
            within = omega arith;
            at = full_at source laws target mode before history is holds start due.head due.is_head due.partition due.commits due.full are due.id files (suc n) gained (omega arith);
            by = inr (gone_to (length history) (suc n) columns gained true are.way (inr (count, refl)));
          }

      since_from : (n : ℕ) → (due.partition ≡ start.table.partition) ⊎ IsUnpublished start → AreSinceMark source mode before start due.partition due.commits due.full → Gained target (origin_of due) (with_columns due.partition start) before due.commits n files
          → StandsFrom source target mode history k start before files
      since_from n columns are gained = from k shows (λ j far. gone_to j n columns gained false are.way far)
        where
          from : (m : ℕ) → ShowsTable source.kind target.image history m start → ((j : ℕ) → j ≡ m + n → HasGoneTo source target mode history m j start before files) → StandsFrom source target mode history m start before files
          from zero none by = absurd (not_marked start (λ s. Unit {0}) (unmarked start none) (are.marked.0, are.marked.1, tt))
          from (suc i) at by =
              let further : IsAt source.kind target history files (suc (i + n)) = since_at source laws target kinds published mode before history is holds i at.0 at.1 start at.2 files due.partition due.commits due.full are due.id n gained in
              let there = slice_get_within history (i + n) further.shows.0 further.shows.1 in
              record { j = suc (i + n); from = omega arith; within = omega (arith, there); at = further; by = inr (by (suc (i + n)) (omega arith)) }

      pub underway_from : (due.partition ≡ start.table.partition) ⊎ IsUnpublished start → (n : ℕ) → Gained target (origin_of due) (with_columns due.partition start) before due.commits n files → StandsFrom source target mode history k start before files
      underway_from columns n gained = ⊎_elim (λ are. since_from n columns are gained) (λ are. full_from n columns are gained) due.way

      pub end_at : Gained target (origin_of due) (with_columns due.partition start) before due.commits (length due.commits) files → IsAt source.kind target history files (length history)
      end_at gained = ⊎_elim (λ are. since_all k shows are) full_all due.way
        where
          since_all : (j : ℕ) → ShowsTable source.kind target.image history j start → AreSinceMark source mode before start due.partition due.commits due.full → IsAt source.kind target history files (length history)
          since_all zero none are = absurd (not_marked start (λ s. Unit {0}) (unmarked start none) (are.marked.0, are.marked.1, tt))
          since_all (suc i) at are = since_end source laws target kinds published mode before history is holds i at.0 at.1 start at.2 files due.partition due.commits due.full are due.id gained

          full_all : IsInFull source mode before start due.head due.partition due.commits due.full → IsAt source.kind target history files (length history)
          full_all are =
              let one : length due.commits ≡ 1 = ap (λ (cs : List Commit). length cs) are.only in
              full_at source laws target mode before history is holds start due.head due.is_head due.partition due.commits due.full are due.id files (length due.commits) gained (omega (arith, one))

    -- so it goes on along the history
    pub goes_on : {S : Type 0} (store : Ghosts S) (U D : Type 0) (old new : S) → store.tells → (store.disk old).files ≡ before → Synced store source target mode start U D old new → GoesOnAlong store source target mode history k start U D old new
    goes_on store U D old new told here synced =
        let either : (files : Files) → IsAsBeforeOrUnderway source target mode start before files → StandsFrom source target mode history k start (store.disk old).files files = λ files stands.
        subst (λ (f : Files). StandsFrom source target mode history k start f files) (sym here)
        (⊎_elim (before_from files) (λ (on : IsUnderway source target mode start before files). underway_from files on.due on.columns on.gained.count on.gained.gained) stands) in
        let end : (files : Files) → IsAtHead source target mode start before files → IsAtLast source target history (store.disk old).files files = λ files on.
        subst (λ (f : Files). IsAtLast source target history f files) (sym here) (at_last source laws target before history is holds on.due.head on.due.is_head files (end_at files on.due on.gained)) in
        record {
          at_return = λ u. either (store.disk new).files (subst (λ (f : Files). IsAsBeforeOrUnderway source target mode start f (store.disk new).files) here (synced.at_return u));
          moments = λ u. weaker store old new (λ image. IsAsBeforeOrUnderway source target mode start (store.disk old).files image × target.settled (after_crash image)) (StandsFrom source target mode history k start (store.disk old).files)
              (λ image stands. either image (subst (λ (f : Files). IsAsBeforeOrUnderway source target mode start f image) here stands.0)) (λ t. synced.moments u) told;
          done = λ d. end (store.disk new).files (subst (λ (f : Files). IsAtHead source target mode start f (store.disk new).files) here (synced.done d));
          since = λ d image left. end image (subst (λ (f : Files). IsAtHead source target mode start f image) here (synced.since d image left));
        }

  -- ---- the whole table

  module _ (start : View) (full : ¬ TakesCommits source mode before start) (absent_any : (files : Files) (p q : List (List ℕ)) → target.reads files (absent p) → target.reads files (absent q)) where
    -- no commit of it is published
    stays : (files : Files) (partition : List (List ℕ)) (origin : Origin) (commits : List Commit) → (partition ≡ start.table.partition) ⊎ IsUnpublished start → Gained target origin (with_columns partition start) before commits 0 files → IsAsBefore target start before files
    stays files partition o commits (inl columns) gained = record { view = gained.view; same = same_trans start (with_columns partition start) gained.view (own_columns partition start columns) gained.leads; reads = gained.stands; earlier = gained.earlier }
    stays files partition o commits (inr none) gained =
        let absent_now : gained.view ≡ absent gained.view.table.partition = none_still files start gained.view none gained.leads.mark gained.stands in
        record {
          view = start;
          same = same_refl start;
          reads = subst (λ (v : View). target.reads files v) (sym none) (absent_any files gained.view.table.partition start.table.partition (subst (λ (v : View). target.reads files v) absent_now gained.stands));
          earlier = gained.earlier;
        }

    due_full : (due : Due source mode before start) → IsInFull source mode before start due.head due.partition due.commits due.full
    due_full due = ⊎_elim (λ (are : AreSinceMark source mode before start due.partition due.commits due.full). absurd (full (are.sync, (are.marked.0, are.marked.1, are.marked.2.0)))) (λ are. are) due.way

    -- the one commit of it is published
    ended : (files : Files) (due : Due source mode before start) (n : ℕ) → (due.partition ≡ start.table.partition) ⊎ IsUnpublished start → Gained target (origin_of due) (with_columns due.partition start) before due.commits n files → n ≡ 1 → HasEnded source target mode history start before files
    ended files due n columns gained once =
        let are = due_full due in
        record {
          due = due;
          full = are.way;
          only = to_last source laws mode before history is holds start due.head due.is_head due.partition due.commits due.full are;
          columns = columns;
          gained = subst (λ (m : ℕ). Gained target (origin_of due) (with_columns due.partition start) before due.commits m files) once gained;
          last = at_last source laws target before history is holds due.head due.is_head files
              (full_at source laws target mode before history is holds start due.head due.is_head due.partition due.commits due.full are due.id files n gained (omega (arith, once)));
        }

    one_due : (due : Due source mode before start) → length due.commits ≡ 1
    one_due due = ap (λ (cs : List Commit). length cs) (due_full due).only

    full_or : (files : Files) (due : Due source mode before start) (n : ℕ) → (due.partition ≡ start.table.partition) ⊎ IsUnpublished start → Gained target (origin_of due) (with_columns due.partition start) before due.commits n files → StaysOrEnds source target mode history start before files
    full_or files due zero columns gained = inl (stays files due.partition (origin_of due) due.commits columns gained)
    full_or files due (suc n) columns gained =
        let one = one_due due in
        let within = gained.within in
        inr (ended files due (suc n) columns gained (omega (arith, one, within)))

    pub ends_along : {S : Type 0} (store : Ghosts S) (U D : Type 0) (old new : S) → store.tells → (store.disk old).files ≡ before → Synced store source target mode start U D old new → EndsAlong store source target mode history start U D old new
    ends_along store U D old new told here synced =
        let either : (files : Files) → IsAsBeforeOrUnderway source target mode start before files → StaysOrEnds source target mode history start (store.disk old).files files = λ files stands.
        subst (λ (f : Files). StaysOrEnds source target mode history start f files) (sym here) (⊎_elim (λ was. inl was) (λ (on : IsUnderway source target mode start before files). full_or files on.due on.gained.count on.columns on.gained.gained) stands) in
        let end : (files : Files) → IsAtHead source target mode start before files → HasEnded source target mode history start (store.disk old).files files = λ files on.
        subst (λ (f : Files). HasEnded source target mode history start f files) (sym here) (ended files on.due (length on.due.commits) on.columns on.gained (one_due on.due)) in
        record {
          at_return = λ u. either (store.disk new).files (subst (λ (f : Files). IsAsBeforeOrUnderway source target mode start f (store.disk new).files) here (synced.at_return u));
          moments = λ u. weaker store old new (λ image. IsAsBeforeOrUnderway source target mode start (store.disk old).files image × target.settled (after_crash image)) (StaysOrEnds source target mode history start (store.disk old).files)
              (λ image stands. either image (subst (λ (f : Files). IsAsBeforeOrUnderway source target mode start f image) here stands.0)) (λ t. synced.moments u) told;
          done = λ d. end (store.disk new).files (subst (λ (f : Files). IsAtHead source target mode start f (store.disk new).files) here (synced.done d));
          since = λ d image left. end image (subst (λ (f : Files). IsAtHead source target mode start f image) here (synced.since d image left));
        }

-- the history since the mark of a target that is astray isn't whole
pub astray_lost : (source : SourceMeaning) → HistoryLaws source → (files : Files) (history : History) → source.holds files history → (start : View) → IsAstray source history files start → ¬ IsMarked start (IsWhole source files)
astray_lost source laws files history holds start astray whole =
    let standing = whole.0 in
    let one : standing ≡ astray.standing = one_standing start standing astray.standing whole.1 astray.mark in
    ⊎_elim
    (λ (another : IsOfAnotherTable source files astray.standing).
    let head : whole.2.0.head ≡ another.head = laws.one_head files whole.2.0.head another.head whole.2.0.is_head another.is_head in
    another.other (subst (λ (h : Head). MayBeSame h.table astray.standing.origin.table) head (subst (λ (s : Standing). MayBeSame whole.2.0.head.table s.origin.table) one whole.2.0.table)))
    (λ (unknown : ¬ Contains (positions_of history) astray.standing.to).
    unknown (subst (λ (s : Standing). Contains (positions_of history) s.to) one (laws.reached_held files history standing.to holds whole.2.1)))
    astray.strays

-- ---- what a sync does

along_full : (source : SourceMeaning) (mode : Mode) (before : Files) (start : View) (head : Head) (partition : List (List ℕ)) (commits : List Commit) (full : Bool) → IsInFull source mode before start head partition commits full → full ≡ false → ⊥
along_full source mode before start head partition commits full are is = let both : true ≡ false = sym are.way ∙ is in cc both

since_full : (source : SourceMeaning) (mode : Mode) (before : Files) (start : View) (partition : List (List ℕ)) (commits : List Commit) (full : Bool) → AreSinceMark source mode before start partition commits full → full ≡ true → ⊥
since_full source mode before start partition commits full are is = let both : false ≡ true = sym are.way ∙ is in cc both

pub sync_along : {S : Type 0} (store : Ghosts S) (source : SourceMeaning) → HistoryLaws source → (target : TargetFacts) → KeepsKinds target.files.image → ((files : Files) (v : View) → target.files.reads files v → IsUnpublished v ⊎ IsPublished v)
    → ((files : Files) (p q : List (List ℕ)) → target.files.reads files (absent p) → target.files.reads files (absent q))
    → (other : Option Kind) (mode : Mode) (now : ℕ) (old new : S) (answer : Answer) → IsSync store source target other mode now old new answer → IsAlong store source target.files mode old new answer
sync_along store source laws target kinds published absent_any other mode now old new answer sync = record {
  goes = λ told history is holds k at settled.
      let ready : IsReady source target (store.disk old).files at.view (target.files.settled (store.disk old)) = record { reads = at.reads; goes_on = going history k at.view at.shows; settled = settled } in
      goes_on source laws target.files kinds published mode (store.disk old).files history is holds k at.view at.shows store (IsUndisturbed answer) (IsDone answer) old new told refl (sync.synced told at.view ready);
  ends = λ told history is holds start reads goes settled full.
      let ready : IsReady source target (store.disk old).files start (target.files.settled (store.disk old)) = record { reads = reads; goes_on = goes; settled = settled } in
      ends_along source laws target.files kinds published mode (store.disk old).files history is holds start full absent_any store (IsUndisturbed answer) (IsDone answer) old new told refl (sync.synced told start ready);
  astray = λ told history is holds start reads astray.
      let lost = astray_lost source laws (store.disk old).files history holds start astray in (
        lost,
        λ settled.
            let ready : IsReady source target (store.disk old).files start (target.files.settled (store.disk old)) = record { reads = reads; goes_on = inr (astray.standing, astray.mark, astray.format); settled = settled } in
            ends_along source laws target.files kinds published mode (store.disk old).files history is holds start (λ takes. lost takes.1) absent_any store (IsUndisturbed answer) (IsDone answer) old new told refl (sync.synced told start ready),
      );
  in_full = λ told history is holds start due full.
      ⊎_elim (λ (are : AreSinceMark source mode (store.disk old).files start due.partition due.commits due.full). absurd (since_full source mode (store.disk old).files start due.partition due.commits due.full are full))
      (λ (are : IsInFull source mode (store.disk old).files start due.head due.partition due.commits due.full). to_last source laws mode (store.disk old).files history is holds start due.head due.is_head due.partition due.commits due.full are) due.way;
  each_once = λ told history is holds k entry there start shows due is_since.
      ⊎_elim (λ (are : AreSinceMark source mode (store.disk old).files start due.partition due.commits due.full). subst (λ (n : ℕ). LeadAlong entry.1 (drop n history) due.commits) (one_more k)
      (since_along source laws target.files kinds published mode (store.disk old).files history is holds k entry there start shows due.partition due.commits due.full are))
      (λ (are : IsInFull source mode (store.disk old).files start due.head due.partition due.commits due.full). absurd (along_full source mode (store.disk old).files start due.head due.partition due.commits due.full are is_since)) due.way;
}
  where
    one_more : (n : ℕ) → suc n ≡ n + 1
    one_more n = omega arith

    going : (history : History) (k : ℕ) (view : View) → ShowsTable source.kind target.files.image history k view → GoesOn source.kind view
    going history zero view none = inl none
    going history (suc k) view shows = inr (shows.2.standing, shows.2.mark, shows.2.format)

-- what a sync of a source and a target that keep their laws is
pub record AlongLaws (source : SourceMeaning) (target : Meaning) : Type 0 where
  pub histories : HistoryLaws source
  pub kinds : KeepsKinds target.image
  pub published : (files : Files) (v : View) → target.reads files v → IsUnpublished v ⊎ IsPublished v
  pub absent_any : (files : Files) (p q : List (List ℕ)) → target.reads files (absent p) → target.reads files (absent q)

pub with_histories : {S : Type 0} (store : Ghosts S) (source : SourceMeaning) (target : TargetFacts) → AlongLaws source target.files → (other : Option Kind) (mode : Mode) (now : ℕ) (old new : S) (answer : Answer) → IsSync store source target other mode now old new answer
    → IsWholeSync store source target other mode now old new answer
with_histories store source target laws other mode now old new answer sync = record { sync = sync; along = sync_along store source laws.histories target laws.kinds laws.published laws.absent_any other mode now old new answer sync }
