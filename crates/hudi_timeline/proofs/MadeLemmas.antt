-- The last step towards a change: what it refuses, and what it makes.
use Rattle.std.proofs.Common.{◌≡◌, true, List, Ok, Option, Some, None, refl}
use Rattle.std.specs.List.{IsDistinct}
use Rattle.std.specs.Str.{bytes_eq}
use Rattle.lake_basics.specs.Outcome.{each}
use Rattle.table_history.specs.Sound.{IsSound}
use Rattle.table_history.specs.TypeTree.{ColumnTrees}
use Rattle.table_history.specs.declared.row.FileRow.{FileRow}
use Rattle.table_history.specs.declared.table.Change.{Change}
use Rattle.table_history.specs.declared.table.Table.{Table}
use Rattle.partition_map.specs.declared.kind.PartKind.{PartKind}
use Rattle.hudi_names.specs.declared.error.HudiError.{HudiError}
use Rattle.hudi_names.specs.declared.error.HudiError.TheVariants as errors
use Rattle.hudi_properties.specs.declared.table.HudiTable.{HudiTable}
use Rattle.hudi_timeline.specs.Causes.{IsRefusalOf, rows_before}
use Rattle.hudi_timeline.specs.Change.{IsChangeOf, GoesOn}
use Rattle.hudi_groups.specs.Files.{suffix_of}
use Rattle.hudi_files.specs.Stats.{bare_row, name_fault}
use Rattle.hudi_groups.specs.GroupSets.{rows_after}
use Rattle.hudi_timeline.specs.GroupChange.{IsGroupChange, PassesLimitAfter}
use Rattle.hudi_timeline.specs.Live.{Completed, AreRowsOf}
use Rattle.partition_map.specs.Columns.{HasOtherKind}
use Rattle.hudi_timeline.specs.Schemas.{stated_schema, schema_after, AreKindsOf}
use Rattle.hudi_files.specs.Values.{style_of, are_in_folders, HaveValues}
use Rattle.hudi_timeline.proofs.CauseLemmas.{not_malformed, in_force, only_schema, are_kinds, only_kinds, no_feature}
use Rattle.hudi_timeline.proofs.ChangeLemmas.{goes_on}
use Rattle.hudi_timeline.proofs.CountLemmas.{number_first, number_none}
use Rattle.hudi_timeline.proofs.LiveLemmas.{live_after}

module _ (u : Completed) (table : HudiTable) (base : Option Table) (files : List FileRow) (read : each (bare_row (suffix_of u.form)) u.instant.stats ≡ Ok files)
    (stated : Option ColumnTrees) (states : stated_schema u.instant.schema ≡ Ok stated) (schema : ColumnTrees) (after : schema_after (Ok stated) base ≡ Some schema)
    (kinds : List PartKind) (distinct : IsDistinct bytes_eq table.partition) (are : AreKindsOf schema table.partition kinds)
    (kept : (before : Table) → base ≡ Some before → HasOtherKind before.schema schema table.partition → ⊥)
    (rows : List FileRow) (names : name_fault u.form (suffix_of u.form) u.instant.stats ≡ None) (inside : are_in_folders (style_of table) table.partition files ≡ true)
    (have : HaveValues (style_of table) table.partition kinds files rows) where
  are_rows : AreRowsOf table kinds u rows
  are_rows = (files, read, have)

  pub limit_refusal : (e : HudiError) → PassesLimitAfter u.form table schema u.instant.replaced (rows_before base) rows e → IsRefusalOf u table base e
  limit_refusal errors.Memory h = tt
  limit_refusal (errors.Malformed line) h = absurd h
  limit_refusal (errors.Unsupported shown) h = absurd h
  limit_refusal (errors.Limit which) h = (
    not_malformed u table base files read stated states,
    no_feature u table base files read stated states schema after kinds distinct are kept rows names inside have,
    number_first u table base schema kinds rows (in_force u table base files read stated states schema after) (only_schema u table base files read stated states schema after)
        (are_kinds u table base files read stated states schema after kinds distinct are kept) (only_kinds u table base files read stated states schema after kinds distinct are kept) are_rows which h.distinct h.passed,
  )

  module _ (sound : (s : ColumnTrees) → stated ≡ Some s → IsSound s) (group : Change) (is : IsGroupChange u.form table schema u.instant.replaced (rows_before base) rows group) where
    abbrev pub made : Change
    made = record { schema = stated; removed = group.removed; added = group.added }

    pub is_change : IsChangeOf u table base made
    is_change = record {
      grammar = not_malformed u table base files read stated states;
      features = no_feature u table base files read stated states schema after kinds distinct are kept rows names inside have;
      numbers = number_none u table base schema kinds rows (in_force u table base files read stated states schema after) (only_schema u table base files read stated states schema after)
          (are_kinds u table base files read stated states schema after kinds distinct are kept) (only_kinds u table base files read stated states schema after kinds distinct are kept) are_rows is.few;
      schema = states;
      kinds = kinds;
      are_kinds = are_kinds u table base files read stated states schema after kinds distinct are kept;
      before_distinct = is.before_distinct;
      after = rows_after u.form u.instant.replaced (rows_before base) rows;
      distinct = is.distinct;
      live = live_after table kinds u rows are_rows (rows_before base);
      diff = is.diff;
    }

    pub made_goes_on : GoesOn table base made
    made_goes_on = goes_on u table base schema kinds rows are_rows are made (record { diff = is.diff; before_distinct = is.before_distinct; distinct = is.distinct; few = is.few }) stated refl after sound distinct kept
