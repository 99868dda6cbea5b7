-- The commits of a source may be published over a target that holds what its types hold of the table before them.
use Rattle.std.proofs.Common.{◌≡◌, ◌⊎◌, inl, inr, ⊎_elim, List, [], ◌∷◌, Contains, Option, Some, None, refl, sym, ap, subst, ◌∙◌}
use Rattle.std.specs.Prelude.{◌↔◌, unwrap_or}
use Rattle.table_history.specs.Rows.{HasDistinctPaths, SameRows}
use Rattle.table_history.specs.Tables.{CanApply, IsAfter, IsRowAfter, SameTable}
use Rattle.table_history.specs.TypeTree.{ColumnTrees}
use Rattle.table_history.specs.declared.row.FileRow.{FileRow}
use Rattle.table_history.specs.declared.table.Change.{Change}
use Rattle.table_history.specs.declared.table.Commit.{Commit}
use Rattle.table_history.specs.declared.table.Table.{Table}
use Rattle.table_history.proofs.SameTableLemmas.{after_same, can_apply_same, has_path_same, row_after, rows_back}
use Rattle.source_core.specs.Since.{CanApplyAll}
use Rattle.target_core.specs.Conditions.{CanPublish, CanPublishAll, IsPublishable}
use Rattle.target_core.specs.Views.{IsAdvanced, IsSchemaAfter, Origin, View}

-- The view has the table's rows and partition columns, and its schema or what the target's types hold of it.
pub record IsLike (image : ColumnTrees → Option ColumnTrees) (t : Table) (view : View) : Type 0 where
  pub rows : SameRows t.rows view.table.rows
  pub partition : t.partition ≡ view.table.partition
  pub schema : (view.table.schema ≡ t.schema) ⊎ (image t.schema ≡ Some view.table.schema)

-- the table after the change, with these rows
abbrev moved : Table → Change → List FileRow → Table
moved t change rows = record { schema = unwrap_or change.schema t.schema; partition = t.partition; rows = rows }

-- What fits a table fits another one of the same rows, partition columns and schema.
pub can_apply_all_same : (a b : Table) → SameTable a b → (commits : List Commit) → CanApplyAll a commits → CanApplyAll b commits
can_apply_all_same a b same [] can = tt
can_apply_all_same a b same (commit ∷ commits) can = (can_apply_same a b commit.change same can.0, λ after is. can.1 after (after_same a b commit.change after same is))

module _ (image : ColumnTrees → Option ColumnTrees) (origin : Origin)
    (held_publishable : (table : Table) (held : ColumnTrees) → image table.schema ≡ Some held → IsPublishable table → IsPublishable (record { schema = held; partition = table.partition; rows = table.rows })) where
  is_moved : (t : Table) (view : View) (change : Change) (rows : List FileRow) → IsLike image t view → ((row : FileRow) → Contains rows row ↔ IsRowAfter view.table.rows change.removed change.added row) → HasDistinctPaths rows → IsAfter t change (moved t change rows)
  is_moved t view change rows like after distinct = record {
    rows = λ row. (
      λ there. row_after view.table.rows t.rows change row (rows_back t.rows view.table.rows like.rows) ((after row).0 there),
      λ is. (after row).1 (row_after t.rows view.table.rows change row like.rows is),
    );
    distinct = distinct;
    schema = refl;
    partition = refl;
  }

  -- what the target's types hold of a table that may be published may be published too
  publishable_as : (stated : Option ColumnTrees) (t : Table) (view : View) (table : Table) → IsLike image t view → table.schema ≡ unwrap_or stated view.table.schema → table.partition ≡ view.table.partition
      → IsPublishable (record { schema = unwrap_or stated t.schema; partition = t.partition; rows = table.rows }) → IsPublishable table
  publishable_as (Some schema) t view table like schema_is partition_is may =
      let columns : t.partition ≡ table.partition = like.partition ∙ sym partition_is in
      let held : schema ≡ table.schema = sym schema_is in
      let same : ◌≡◌ {A = Table} (record { schema = schema; partition = t.partition; rows = table.rows }) table = λ i. record { schema = held i; partition = columns i; rows = table.rows } in
      subst IsPublishable same may
  publishable_as None t view table like schema_is partition_is may =
      let columns : t.partition ≡ table.partition = like.partition ∙ sym partition_is in
      let Held : ColumnTrees → Table = λ s. record { schema = s; partition = t.partition; rows = table.rows } in
      let held : IsPublishable (Held view.table.schema) =
      ⊎_elim
      (λ (same : view.table.schema ≡ t.schema). subst (λ (s : ColumnTrees). IsPublishable (Held s)) (sym same) may)
      (λ (is : image t.schema ≡ Some view.table.schema). held_publishable (Held t.schema) view.table.schema is may)
      like.schema in
      let schema_back : view.table.schema ≡ table.schema = sym schema_is in
      let same : ◌≡◌ {A = Table} (Held view.table.schema) table = λ i. record { schema = schema_back i; partition = columns i; rows = table.rows } in
      subst IsPublishable same held

  can_here : (t : Table) (view : View) (commit : Commit) → IsLike image t view → CanApply t commit.change → ((after : Table) → IsAfter t commit.change after → IsPublishable after) → CanPublish view commit
  can_here t view commit like can after = record {
    change = record {
      removed_distinct = can.removed_distinct;
      removed_there = λ path there. has_path_same t.rows view.table.rows path like.rows (can.removed_there path there);
      added_distinct = can.added_distinct;
      added_new = λ row there has. can.added_new row there (has_path_same view.table.rows t.rows row.path (rows_back t.rows view.table.rows like.rows) has);
    };
    after = λ table is. publishable_as commit.change.schema t view table like is.schema is.partition (after (moved t commit.change table.rows) (is_moved t view commit.change table.rows like is.rows is.distinct));
  }

  like_schema : (stated : Option ColumnTrees) (a v n : ColumnTrees) → (v ≡ a) ⊎ (image a ≡ Some v) → IsSchemaAfter image stated v n → (n ≡ unwrap_or stated a) ⊎ (image (unwrap_or stated a) ≡ Some n)
  like_schema (Some stated) a v n like is = inr is
  like_schema None a v n (inl same) is = inl (is ∙ same)
  like_schema None a v n (inr held) is = inr (held ∙ ap (λ (s : ColumnTrees). Some s) (sym is))

  next_like : (t : Table) (view : View) (commit : Commit) (next : View) → IsLike image t view → IsAdvanced image origin view commit next → IsLike image (moved t commit.change next.table.rows) next
  next_like t view commit next like step = record {
    rows = λ row. (λ there. there, λ there. there);
    partition = like.partition ∙ sym step.partition;
    schema = like_schema commit.change.schema t.schema view.table.schema next.table.schema like.schema step.schema;
  }

  can_publish_all : (commits : List Commit) (t : Table) (view : View) → IsLike image t view → CanApplyAll t commits → CanPublishAll image origin view commits
  can_publish_all [] t view like can = tt
  can_publish_all (commit ∷ commits) t view like can = (
    can_here t view commit like can.0 (λ after is. (can.1 after is).0),
    λ next step.
        let after : Table = moved t commit.change next.table.rows in
        can_publish_all commits after next (next_like t view commit next like step) (can.1 after (is_moved t view commit.change next.table.rows like step.rows step.distinct)).1,
  )

  pub can_publish_since : (view : View) (commits : List Commit) → CanApplyAll view.table commits → CanPublishAll image origin view commits
  can_publish_since view commits can = can_publish_all commits view.table view (record { rows = λ row. (λ there. there, λ there. there); partition = refl; schema = inl refl }) can
