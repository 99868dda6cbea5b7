-- The rows behind commits one after another are the live rows of all.
use Rattle.std.proofs.Common.{◌≡◌, ◌↔◌, ℕ, List, [], ◌∷◌, ◌++◌, Option, Some, None, Contains, unwrap_or, refl, sym, subst, ◌∙◌, inl, inr, ⊎_elim, append_assoc}
use Rattle.std.proofs.lemmas.List.{append-nil}
use Rattle.std.proofs.lemmas.List.Elements.{All-nil}
use Rattle.table_history.specs.First.{NoneOf}
use Rattle.table_history.specs.Row.{Row}
use Rattle.table_history.specs.Tables.{IsAfter, LeadsTo}
use Rattle.table_history.specs.TypeTree.{ColumnTrees}
use Rattle.table_history.specs.declared.table.Change.{Change}
use Rattle.table_history.specs.declared.table.Table.{Table}
use Rattle.table_history.proofs.RowListLemmas.{Contains-none}
use Rattle.delta_log.specs.declared.commit.DeltaCommit.{DeltaCommit}
use Rattle.delta_change.specs.Change.{Shows, commit_features, IsChangeOf, LeadsLive, LeadTo, LeadsThrough}
use Rattle.delta_live.specs.Live.{PartColumns, ActsOn, IsLive, IsLiveOver, IsRowBehind, ArePartColumns}
use Rattle.delta_change.specs.TableBehind.{rows_before, schema_before, partition_behind, table_before}
use Rattle.delta_change.proofs.KindLemmas.{KeepKinds, same_columns}
use Rattle.delta_live.proofs.LiveLemmas.{live_over_behind}
use Rattle.delta_change.proofs.TableLemmas.{before_rows, after_kinds, step_columns}

-- ---- one change

pub one_kind : (schema : ColumnTrees) (names : List (List ℕ)) → KeepKinds schema schema names
one_kind schema names name there o k was is = cc (sym was ∙ is)

-- A change leads live rows on.
pub leads_live : (c : DeltaCommit) (base : Option Table) (change : Change) → IsChangeOf c base change → LeadsLive c base change
leads_live c base change is columns origin commits are same row =
    let schema = unwrap_or change.schema (schema_before base) in
    let names = partition_behind c.meta base in
    let one : is.columns ≡ columns = same_columns schema schema names is.columns columns is.kinds are (one_kind schema names) in
    let live = live_over_behind columns origin (rows_before base) commits c same row in (
      λ after. live.0 (subst (λ cs. IsRowBehind cs (rows_before base) c row) one ((is.rows.rows row).0 ((is.leads row).0 after))),
      λ over. (is.leads row).1 ((is.rows.rows row).1 (subst (λ cs. IsRowBehind cs (rows_before base) c row) (sym one) (live.1 over))),
    )

-- ---- commits one after another

-- what the change leaves is what the commit leaves
one_change : (columns : PartColumns) (c : DeltaCommit) (base : Option Table) (change : Change) (next : Table) (is : IsChangeOf c base change) → is.columns ≡ columns → IsAfter (table_before c base) change next
    → (row : Row) → Contains next.rows row ↔ IsRowBehind columns (rows_before base) c row
one_change columns c base change next is same after row =
    let leads : LeadsTo (table_before c base).rows change.removed change.added is.behind = subst (λ l. LeadsTo l change.removed change.added is.behind) (sym (before_rows c base)) is.leads in
    let is_behind = is.rows.rows row in (
      λ there. subst (λ cs. IsRowBehind cs (rows_before base) c row) same (is_behind.0 ((leads row).0 ((after.rows row).0 there))),
      λ behind. (after.rows row).1 ((leads row).1 (is_behind.1 (subst (λ cs. IsRowBehind cs (rows_before base) c row) (sym same) behind))),
    )

go_on : (columns : PartColumns) (origin : List Row) (before : List DeltaCommit) (base : Option Table) (commits : List DeltaCommit) (last : Option Table)
    → ((row : Row) → Contains (rows_before base) row ↔ IsLiveOver columns origin before row) → LeadTo columns base commits last → (row : Row) → Contains (rows_before last) row ↔ IsLiveOver columns origin (before ++ commits) row
go_on columns origin before base [] last so_far leads row =
    subst (λ l. Contains (rows_before last) row ↔ IsLiveOver columns origin l row) (sym (append-nil before)) (subst (λ b. Contains (rows_before b) row ↔ IsLiveOver columns origin before row) leads (so_far row))
go_on columns origin before base (c ∷ commits) last so_far leads row =
    let step = one_change columns c base leads.0 leads.1 leads.2 leads.3 leads.4 in
    let live = live_over_behind columns origin (rows_before base) before c so_far in
    subst (λ l. Contains (rows_before last) row ↔ IsLiveOver columns origin l row) (append_assoc before (c ∷ []) commits)
    (go_on columns origin (before ++ c ∷ []) (Some leads.1) commits last (λ r. (λ h. (live r).0 ((step r).0 h), λ h. (step r).1 ((live r).1 h))) leads.5 row)

none_there : (front : List DeltaCommit) (c : DeltaCommit) (behind : List DeltaCommit) → [] ≡ front ++ c ∷ behind → ⊥
none_there [] c behind e = absurd cc
none_there (d ∷ front) c behind e = absurd cc

-- Over a table, the rows behind the commits are the live ones, and the table's own on whose paths none of them acts.
pub changes_live : (columns : PartColumns) (base : Option Table) (commits : List DeltaCommit) (last : Option Table) → LeadTo columns base commits last
    → (row : Row) → Contains (rows_before last) row ↔ IsLiveOver columns (rows_before base) commits row
changes_live columns base commits last leads = go_on columns (rows_before base) [] base commits last start leads
  where
    start : (row : Row) → Contains (rows_before base) row ↔ IsLiveOver columns (rows_before base) [] row
    start row = (
      λ there. inr (there, All-nil (λ c. ActsOn row.path c → ⊥)),
      λ over. ⊎_elim (λ live. absurd (none_there live.front live.commit live.behind live.split)) (λ old. old.0) over,
    )

-- From the first commit on, they are the live ones.
pub first_changes_live : (columns : PartColumns) (commits : List DeltaCommit) (last : Option Table) → LeadTo columns None commits last → (row : Row) → Contains (rows_before last) row ↔ IsLive columns commits row
first_changes_live columns commits last leads row =
    let over = changes_live columns None commits last leads row in
    (λ there. ⊎_elim (λ live. live) (λ old. absurd (Contains-none row old.0)) (over.0 there), λ live. over.1 (inl live))

-- ---- without a premise on the partition columns, which stay where no commit shows a feature

all_columns : (columns : PartColumns) (base : Table) (commits : List DeltaCommit) (last : Option Table) → ArePartColumns base.schema base.partition columns → LeadsThrough (Some base) commits last → LeadTo columns (Some base) commits last
all_columns columns base [] last are leads = leads
all_columns columns base (c ∷ commits) last are leads =
    let one = step_columns c base leads.0 columns leads.3 are leads.2 in
    let kinds = subst (ArePartColumns leads.1.schema leads.1.partition) one (after_kinds c (Some base) leads.0 leads.2 leads.3 leads.1 leads.4) in
    (leads.0, leads.1, leads.2, one, leads.4, all_columns columns leads.1 commits last kinds leads.5)

last_columns : (columns : PartColumns) (base : Table) (commits : List DeltaCommit) (last : Table) → ArePartColumns base.schema base.partition columns → LeadsThrough (Some base) commits (Some last) → ArePartColumns last.schema last.partition columns
last_columns columns base [] last are leads = let same : base ≡ last = cc in subst (λ (t : Table). ArePartColumns t.schema t.partition columns) same are
last_columns columns base (c ∷ commits) last are leads =
    let one = step_columns c base leads.0 columns leads.3 are leads.2 in
    let kinds = subst (ArePartColumns leads.1.schema leads.1.partition) one (after_kinds c (Some base) leads.0 leads.2 leads.3 leads.1 leads.4) in
    last_columns columns leads.1 commits last kinds leads.5

-- commits that lead through tables have the same partition columns all along
pub leads_to : (base : Option Table) (c : DeltaCommit) (commits : List DeltaCommit) (last : Option Table) (leads : LeadsThrough base (c ∷ commits) last) → LeadTo leads.2.columns base (c ∷ commits) last
leads_to base c commits last leads =
    (leads.0, leads.1, leads.2, refl, leads.4, all_columns leads.2.columns leads.1 commits last (after_kinds c base leads.0 leads.2 leads.3 leads.1 leads.4) leads.5)

columns_after : (base : Option Table) (c : DeltaCommit) (commits : List DeltaCommit) (last : Table) (leads : LeadsThrough base (c ∷ commits) (Some last)) → ArePartColumns last.schema last.partition leads.2.columns
columns_after base c commits last leads = last_columns leads.2.columns leads.1 commits last (after_kinds c base leads.0 leads.2 leads.3 leads.1 leads.4) leads.5

-- The table after the commits has the rows that are live by all of them, over the rows of the table before, with the values of its own partition columns.
pub rows_are_live : (base : Option Table) (c : DeltaCommit) (commits : List DeltaCommit) (last : Table) → LeadsThrough base (c ∷ commits) (Some last)
    → (columns : PartColumns) × ArePartColumns last.schema last.partition columns × ((row : Row) → Contains last.rows row ↔ IsLiveOver columns (rows_before base) (c ∷ commits) row)
rows_are_live base c commits last leads =
    (leads.2.columns, columns_after base c commits last leads, changes_live leads.2.columns base (c ∷ commits) (Some last) (leads_to base c commits (Some last) leads))

-- From the first commit on, it has the live ones.
pub first_rows_are_live : (c : DeltaCommit) (commits : List DeltaCommit) (last : Table) → LeadsThrough None (c ∷ commits) (Some last)
    → (columns : PartColumns) × ArePartColumns last.schema last.partition columns × ((row : Row) → Contains last.rows row ↔ IsLive columns (c ∷ commits) row)
first_rows_are_live c commits last leads =
    (leads.2.columns, columns_after None c commits last leads, first_changes_live leads.2.columns (c ∷ commits) (Some last) (leads_to None c commits (Some last) leads))

-- One commit more leads on.
pub leads_more : (base : Option Table) (commits : List DeltaCommit) (mid : Option Table) (c : DeltaCommit) (change : Change) (next : Table) → LeadsThrough base commits mid
    → IsChangeOf c mid change → NoneOf (Shows c mid) commit_features → IsAfter (table_before c mid) change next → LeadsThrough base (commits ++ c ∷ []) (Some next)
leads_more base [] mid c change next leads is supported after = subst (λ b. LeadsThrough b (c ∷ []) (Some next)) (sym leads) (change, next, is, supported, after, refl)
leads_more base (d ∷ commits) mid c change next leads is supported after =
    (leads.0, leads.1, leads.2, leads.3, leads.4, leads_more (Some leads.1) commits mid c change next leads.5 is supported after)
