-- What an instant says over a table it says over each table like it, and it takes them to tables that are alike.
use Rattle.std.proofs.Common.{◌≡◌, ◌↔◌, inl, inr, ℕ, List, [], ◌∷◌, map, Contains, Option, Some, None, refl, sym, ap, subst, ◌∙◌}
use Rattle.std.specs.Prelude.{Ok, unwrap_or}
use Rattle.std.proofs.lemmas.Option.{none-some}
use Rattle.table_history.specs.First.{NoneOf}
use Rattle.table_history.specs.History.{FitsColumn, column_type}
use Rattle.table_history.specs.Row.{Row}
use Rattle.table_history.specs.Rows.{SameRows}
use Rattle.table_history.specs.Tables.{IsAfter, IsDiff, empty_table, SameTable}
use Rattle.table_history.specs.TypeTree.{ColumnTrees}
use Rattle.table_history.specs.declared.feature.Feature.TheVariants as feature
use Rattle.table_history.specs.declared.row.PartValue.{PartValue}
use Rattle.table_history.specs.declared.table.Change.{Change}
use Rattle.table_history.specs.declared.table.Table.{Table}
use Rattle.table_history.proofs.Laws.{change_applied, change_of_same_rows}
use Rattle.table_history.proofs.RowListLemmas.{Contains-head, Contains-tail}
use Rattle.table_history.proofs.SameTableLemmas.{rows_back}
use Rattle.partition_map.specs.Columns.{HasOtherKind, LacksKinds, column_kind}
use Rattle.partition_map.specs.declared.kind.PartKind.{PartKind}
use Rattle.hudi_timeline.specs.Causes.{AreKinds, IsInForce, Shows, change_features}
use Rattle.hudi_timeline.specs.Change.{IsChangeOf}
use Rattle.hudi_timeline.specs.Live.{Completed, IsLiveAfter}
use Rattle.hudi_timeline.specs.Schemas.{schema_after, stated_schema}
use Rattle.hudi_properties.specs.declared.table.HudiTable.{HudiTable}
use Rattle.hudi_timeline.proofs.ChangeLemmas.{schema_is}
use Rattle.source_core.specs.Histories.{IsLike}
use Rattle.source_hudi.specs.Histories.{IsMadeBy, IsReadable}
use Rattle.partition_map.proofs.KindLemmas.{same_kind}

-- ---- the partition columns have one kind in two tables

abbrev SameKinds : ColumnTrees → ColumnTrees → List (List ℕ) → Type 0
SameKinds a b names = (name : List ℕ) → Contains names name → column_kind a name ≡ column_kind b name

kinds_back : (a b : ColumnTrees) (names : List (List ℕ)) → SameKinds a b names → SameKinds b a names
kinds_back a b names same name there = sym (same name there)

kinds_as : (a b : ColumnTrees) (names : List (List ℕ)) → SameKinds a b names → map (column_kind a) names ≡ map (column_kind b) names
kinds_as a b [] same = refl
kinds_as a b (name ∷ names) same =
    let first = same name (Contains-head name names) in
    let rest = kinds_as a b names (λ other there. same other (Contains-tail name names other there)) in
    λ i. first i ∷ rest i

lacks_as : (a b : ColumnTrees) (names : List (List ℕ)) → SameKinds a b names → LacksKinds b names → LacksKinds a names
lacks_as a b names same (inl twice) = inl twice
lacks_as a b names same (inr h) = inr (h.0, h.1, same h.0 h.1 ∙ h.2)

other_as : (a b c d : ColumnTrees) (names : List (List ℕ)) → SameKinds a b names → SameKinds c d names → HasOtherKind b d names → HasOtherKind a c names
other_as a b c d names same_old same_new h = record {
  name = h.name;
  named = h.named;
  old = h.old;
  was = same_old h.name h.named ∙ h.was;
  new = h.new;
  is = same_new h.name h.named ∙ h.is;
  changed = h.changed;
}

-- The schema in force after an instant that states this.
module _ (table : HudiTable) (a b : Table) (same : SameKinds a.schema b.schema table.partition) where
  in_force : (stated : Option ColumnTrees) (schema : ColumnTrees) → schema_after (Ok stated) (Some b) ≡ Some schema → (other : ColumnTrees) × (schema_after (Ok stated) (Some a) ≡ Some other) × SameKinds other schema table.partition
  in_force (Some s) schema is = (schema, is, λ name there. refl)
  in_force None schema is = let behind : b.schema ≡ schema = cc in (a.schema, refl, λ name there. same name there ∙ ap (λ (s : ColumnTrees). column_kind s name) behind)

  module _ (u : Completed) (stated : Option ColumnTrees) (states : stated_schema u.instant.schema ≡ Ok stated) where
    force : (schema : ColumnTrees) → IsInForce u (Some b) schema → (other : ColumnTrees) × IsInForce u (Some a) other × SameKinds other schema table.partition
    force schema is =
        let h = in_force stated schema (ap (λ r. schema_after r (Some b)) (sym states) ∙ is) in
        (h.0, ap (λ r. schema_after r (Some a)) states ∙ h.1, h.2)

    are_kinds : (kinds : List PartKind) → AreKinds u table (Some b) kinds → AreKinds u table (Some a) kinds
    are_kinds kinds are =
        let h = force are.schema are.in_force in
        record { schema = h.0; in_force = h.1; are = kinds_as h.0 are.schema table.partition h.2 ∙ are.are }

    no_kind_shown : Shows u table (Some b) feature.PartitionType → Shows u table (Some a) feature.PartitionType
    no_kind_shown h = let o = force h.0 h.1 in (o.0, o.1, lacks_as o.0 h.0 table.partition o.2 h.2)

    change_shown : Shows u table (Some b) feature.PartitionChange → Shows u table (Some a) feature.PartitionChange
    change_shown h =
        let o = force h.0 h.1 in
        let is : b ≡ h.2 = cc in
        (o.0, o.1, a, refl, other_as a.schema b.schema o.0 h.0 table.partition same o.2 (subst (λ (t : Table). HasOtherKind t.schema h.0 table.partition) (sym is) h.4))

    value_shown : Shows u table (Some b) feature.PartitionValue → Shows u table (Some a) feature.PartitionValue
    value_shown h = (h.0, are_kinds h.0 h.1, h.2)

    no_feature : NoneOf (Shows u table (Some a)) change_features → NoneOf (Shows u table (Some b)) change_features
    no_feature none = (
      λ h. none-some b (sym h.1),
      (
        none.1.0,
        (
          λ h. none.1.1.0 (no_kind_shown h),
          (
            λ h. none.1.1.1.0 (change_shown h),
            (
              none.1.1.1.1.0,
              (
                none.1.1.1.1.1.0,
                (
                  none.1.1.1.1.1.1.0,
                  (
                    none.1.1.1.1.1.1.1.0,
                    (
                      λ h. none.1.1.1.1.1.1.1.1.0 (value_shown h),
                      tt,
                    ),
                  ),
                ),
              ),
            ),
          ),
        ),
      ),
    )

-- ---- one instant over a table that is like the one in the history

fits_after : (stated : Option ColumnTrees) (a b next after : ColumnTrees) (name : List ℕ) (v : PartValue) → next ≡ unwrap_or stated a → after ≡ unwrap_or stated b
    → (FitsColumn (column_type a name) v ↔ FitsColumn (column_type b name) v) → FitsColumn (column_type next name) v ↔ FitsColumn (column_type after name) v
fits_after None a b next after name v is is' same = (
  λ h. subst (λ (s : ColumnTrees). FitsColumn (column_type s name) v) (sym is') (same.0 (subst (λ (s : ColumnTrees). FitsColumn (column_type s name) v) is h)),
  λ h. subst (λ (s : ColumnTrees). FitsColumn (column_type s name) v) (sym is) (same.1 (subst (λ (s : ColumnTrees). FitsColumn (column_type s name) v) is' h)),
)
fits_after (Some s) a b next after name v is is' same = (
  λ h. subst (λ (t : ColumnTrees). FitsColumn (column_type t name) v) (is ∙ sym is') h,
  λ h. subst (λ (t : ColumnTrees). FitsColumn (column_type t name) v) (is' ∙ sym is) h,
)

live_as : (table : HudiTable) (kinds : List PartKind) (u : Completed) (a b : List Row) → SameRows a b → (row : Row) → IsLiveAfter table kinds u a row → IsLiveAfter table kinds u b row
live_as table kinds u a b same row (inl written) = inl written
live_as table kinds u a b same row (inr kept) = inr ((same row).0 kept.0, kept.1)

-- What the change leads from and to in the history, and that the table made of the one that is held is like the one there.
pub record LeadsLike (base : Table) (change : Change) (next after : Table) : Type 0 where
  pub rows : IsDiff base.rows after.rows change.removed change.added
  pub schema : after.schema ≡ unwrap_or change.schema base.schema
  pub partition : after.partition ≡ base.partition
  pub like : IsLike next after

module _ (u : Completed) (table : HudiTable) (held base : Table) (change : Change) (next after : Table) (like : IsLike held base) (columns : base.partition ≡ table.partition) (is : IsChangeOf u table (Some held) change) (to : IsAfter held change next)
    (leaves : IsReadable u table (Some base) → IsMadeBy u table (Some base) after) where
  same_kinds : SameKinds held.schema base.schema table.partition
  same_kinds name there = same_kind held.schema base.schema name (like.kinds name (subst (λ (names : List (List ℕ)). Contains names name) (sym columns) there))

  made : IsMadeBy u table (Some base) after
  made = leaves (record { grammar = is.grammar; features = no_feature table held base same_kinds u change.schema is.schema is.features })

  same_live : SameRows is.after after.rows
  same_live row =
      let live = made.rows is.kinds (are_kinds table base held (kinds_back held.schema base.schema table.partition same_kinds) u change.schema is.schema is.kinds is.are_kinds) row in (
        λ h. live.1 (live_as table is.kinds u held.rows base.rows like.rows row ((is.live row).0 h)),
        λ h. (is.live row).1 (live_as table is.kinds u base.rows held.rows (rows_back held.rows base.rows like.rows) row (live.0 h)),
      )

  step_diff : IsDiff base.rows after.rows change.removed change.added
  step_diff = change_of_same_rows held.rows base.rows is.after after.rows change.removed change.added like.rows same_live is.diff

  step_rows : SameRows next.rows after.rows
  step_rows row =
      let applied = change_applied held is.after change next is.diff is.before_distinct is.distinct to row in
      (λ h. (same_live row).0 (applied.0 h), λ h. applied.1 ((same_live row).1 h))

  step_schema : after.schema ≡ unwrap_or change.schema base.schema
  step_schema = sym (schema_is table (Some base) change.schema after.schema (ap (λ r. schema_after r (Some base)) (sym is.schema) ∙ made.schema))

  step_partition : after.partition ≡ base.partition
  step_partition = made.partition ∙ sym columns

  step_like : IsLike next after
  step_like = record {
    rows = step_rows;
    partition = to.partition ∙ like.partition ∙ sym step_partition;
    kinds = λ name there v.
        fits_after change.schema held.schema base.schema next.schema after.schema name v to.schema step_schema
        (like.kinds name (subst (λ (names : List (List ℕ)). Contains names name) step_partition there) v);
  }

  pub leads_like : LeadsLike base change next after
  leads_like = record { rows = step_diff; schema = step_schema; partition = step_partition; like = step_like }

  -- The tables after it are the same where those before it were.
  pub step_same : SameTable held base → SameTable next after
  step_same same = record {
    rows = step_rows;
    partition = to.partition ∙ like.partition ∙ sym step_partition;
    schema = to.schema ∙ ap (λ (s : ColumnTrees). unwrap_or change.schema s) same.schema ∙ sym step_schema;
  }

-- ---- the same table

-- what the first instant makes of no table
pub first_same : (u : Completed) (table : HudiTable) (change : Change) (next after : Table) → IsChangeOf u table None change → IsAfter (empty_table table.partition) change next → (IsReadable u table None → IsMadeBy u table None after) → SameTable next after
first_same u table change next after is to leaves =
    let made : IsMadeBy u table None after = leaves (record { grammar = is.grammar; features = is.features }) in
    record {
      rows = λ row.
          let applied = change_applied (empty_table table.partition) is.after change next is.diff is.before_distinct is.distinct to row in
          let live = made.rows is.kinds is.are_kinds row in
          (λ h. live.1 ((is.live row).0 (applied.0 h)), λ h. applied.1 ((is.live row).1 (live.0 h)));
      partition = to.partition ∙ sym made.partition;
      schema = to.schema ∙ schema_is table None change.schema after.schema (ap (λ r. schema_after r None) (sym is.schema) ∙ made.schema);
    }
