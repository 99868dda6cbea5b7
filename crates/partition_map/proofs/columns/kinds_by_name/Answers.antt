use Rattle.std.proofs.Common.{ℕ, ◌+◌, List, drop, Option, Some, is_some, sym, ap, ◌∙◌}
use Rattle.std.specs.Option.{unwrap_or}
use Rattle.std.specs.Map.{update}
use Rattle.std.specs.Str.{bytes_eq}
use Rattle.std.proofs.lemmas.Map.Text.{hash_map_updates_str}
use Rattle.indexmap.specs.IndexMap.{get_by}
use Rattle.table_history.specs.SchemaView.{columns_view}
use Rattle.partition_map.specs.Columns.{column_kind}
use Rattle.partition_map.specs.declared.kind.PartKind.{PartKind}
use Rattle.partition_map.proofs.ColumnLemmas.{put_column, passed_column, no_column_left}
use Rattle.partition_map.proofs.columns.kinds_by_name.Goals.{then-not-contains_key+in_ok-insert, else-not-contains_key}
use Rattle.partition_map.proofs.columns.kinds_by_name.Goals as goal

pub loop-column-preserved : goal.loop-column-preserved
loop-column-preserved c = λ name.
    elim c.if-not-contains_key.branch [
      | then-not-contains_key+in_ok-insert w ↦
          put_column c.args.columns.now c.loop-column.column-index c.column-item.result c.loop-column-test.true c.column-item.is
          (λ (ds : List ℕ). get_by (λ key. bytes_eq ds key.now) c.loop-column.kinds) (λ (ds : List ℕ). get_by (λ key. bytes_eq ds key.now) c.if-not-contains_key.kinds)
          w.as_str-then-not-contains_key.result.now name w.as_str-then-not-contains_key.ensures.value
          (ap (λ (m : List ℕ). is_some (get_by (λ key. bytes_eq m key.now) c.loop-column.kinds)) (w.as_str-then-not-contains_key.ensures.value ∙ sym c.as_str.ensures.value) ∙ sym c.contains_key.ensures ∙ w.if-not-contains_key.true)
          (ap (λ kinds. get_by (λ key. bytes_eq name key.now) kinds) w.kinds-is
          ∙ hash_map_updates_str w.as_str-then-not-contains_key.result.now c.loop-column.kinds w.insert.new.self (Some w.part_kind.result) w.in_ok-insert.ensures.updates name
          ∙ ap (λ (k : Option PartKind). update bytes_eq (λ (ds : List ℕ). get_by (λ key. bytes_eq ds key.now) c.loop-column.kinds) w.as_str-then-not-contains_key.result.now (Some k) name) w.part_kind.ensures)
          (c.loop-column.invariant name)
      | else-not-contains_key w ↦
          ap (λ kinds. unwrap_or (get_by (λ key. bytes_eq name key.now) kinds) (column_kind (columns_view (drop (c.loop-column.column-index + 1) c.args.columns.now)) name)) w.kinds-is
          ∙ passed_column c.args.columns.now c.loop-column.column-index c.column-item.result c.loop-column-test.true c.column-item.is
          (λ (ds : List ℕ). get_by (λ key. bytes_eq ds key.now) c.loop-column.kinds) c.as_str.result.now name c.as_str.ensures.value
          (sym c.contains_key.ensures ∙ w.if-not-contains_key.false)
          (c.loop-column.invariant name)
    ]

pub returns : goal.returns
returns c = λ name. no_column_left c.args.columns.now c.loop-column.column-index c.loop-column-test.false (λ (ds : List ℕ). get_by (λ key. bytes_eq ds key.now) c.loop-column.kinds) name (c.loop-column.invariant name)
