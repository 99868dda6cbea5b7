-- The steps towards a change, over the parts of the instant that each is given.
use Rattle.std.proofs.Common.{◌≡◌, ℕ, true, List, length, Ok, Option, Some, None, sym, ap, subst, ◌∙◌}
use Rattle.std.specs.List.{IsDistinct}
use Rattle.std.specs.Str.{bytes_eq}
use Rattle.std.proofs.lemmas.List.{length-map}
use Rattle.lake_basics.specs.Outcome.{each}
use Rattle.table_history.specs.Sound.{IsSound}
use Rattle.table_history.specs.TypeTree.{ColumnTrees}
use Rattle.table_history.specs.declared.row.FileRow.{FileRow}
use Rattle.table_history.specs.declared.table.Change.{Change}
use Rattle.table_history.specs.declared.table.Table.{Table}
use Rattle.partition_map.specs.Columns.{column_kind, HasOtherKind}
use Rattle.partition_map.specs.declared.kind.PartKind.{PartKind}
use Rattle.hudi_names.specs.declared.error.HudiError.{HudiError}
use Rattle.hudi_groups.specs.declared.form.Form.{Form}
use Rattle.hudi_instant.specs.declared.instant.Instant.{Instant}
use Rattle.hudi_instant.specs.declared.instant.Stat.{Stat}
use Rattle.hudi_properties.specs.declared.table.HudiTable.{HudiTable}
use Rattle.hudi_timeline.specs.Causes.{IsRefusalOf, rows_before}
use Rattle.hudi_timeline.specs.Change.{IsChangeOf, LeavesLive, GoesOn}
use Rattle.hudi_groups.specs.Files.{suffix_of}
use Rattle.hudi_files.specs.Stats.{bare_row, name_fault}
use Rattle.hudi_timeline.specs.GroupChange.{IsGroupChange, PassesLimitAfter}
use Rattle.hudi_timeline.specs.Live.{Completed, completed}
use Rattle.hudi_timeline.specs.Schemas.{stated_schema, schema_after, AreKindsOf}
use Rattle.hudi_files.specs.FileFaults.{OnlyFeature, IsFileFault}
use Rattle.hudi_timeline.specs.Steps.{IsKindFault}
use Rattle.hudi_files.specs.Values.{style_of, are_in_folders, HaveValues}
use Rattle.hudi_timeline.proofs.CauseLemmas.{kind_refusal, file_refusal}
use Rattle.hudi_timeline.proofs.MadeLemmas.{limit_refusal, is_change, made_goes_on}
use Rattle.hudi_timeline.proofs.TimelineLaws.{leaves_live}

module _ (form : Form) (instant : Instant) (table : HudiTable) (base : Option Table) (stats : List Stat) (stats_is : stats ≡ instant.stats)
    (files : List FileRow) (read : each (bare_row (suffix_of form)) stats ≡ Ok files) (stated : Option ColumnTrees) (states : stated_schema instant.schema ≡ Ok stated) where
  abbrev u : Completed
  u = completed form instant

  pub read_all : each (bare_row (suffix_of form)) instant.stats ≡ Ok files
  read_all = ap (each (bare_row (suffix_of form))) (sym stats_is) ∙ read

  module _ (schema : ColumnTrees) (after : schema_after (Ok stated) base ≡ Some schema) (names : List (List ℕ)) (names_is : names ≡ table.partition) where
    pub kinds_refused : (e : HudiError) → OnlyFeature (IsKindFault schema names base) e → IsRefusalOf u table base e
    kinds_refused e h = kind_refusal u table base files read_all stated states schema after e (subst (λ l. OnlyFeature (IsKindFault schema l base) e) names_is h)

    module _ (kinds : List PartKind) (distinct : IsDistinct bytes_eq names) (are : AreKindsOf schema names kinds)
        (kept : (before : Table) → base ≡ Some before → HasOtherKind before.schema schema names → ⊥) where
      all_distinct : IsDistinct bytes_eq table.partition
      all_distinct = subst (IsDistinct bytes_eq) names_is distinct

      all_are : AreKindsOf schema table.partition kinds
      all_are = subst (λ l. AreKindsOf schema l kinds) names_is are

      all_kept : (before : Table) → base ≡ Some before → HasOtherKind before.schema schema table.partition → ⊥
      all_kept = subst (λ l. (before : Table) → base ≡ Some before → HasOtherKind before.schema schema l → ⊥) names_is kept

      pub kinds_counted : length kinds ≡ length table.partition
      kinds_counted = sym (length-map kinds Some) ∙ ap length (sym all_are) ∙ length-map table.partition (column_kind schema)

      module _ (kind_slice : List PartKind) (kind_slice_is : kind_slice ≡ kinds) where
        pub rows_refused : (e : HudiError) → OnlyFeature (IsFileFault (name_fault form (suffix_of form) stats) (style_of table) table.partition kind_slice files) e → IsRefusalOf u table base e
        rows_refused e h =
            file_refusal u table base files read_all stated states schema after kinds all_distinct all_are all_kept e
            (subst (λ l. OnlyFeature (IsFileFault (name_fault form (suffix_of form) l) (style_of table) table.partition kinds files) e) stats_is
            (subst (λ l. OnlyFeature (IsFileFault (name_fault form (suffix_of form) stats) (style_of table) table.partition l files) e) kind_slice_is h))

        module _ (rows : List FileRow) (named : name_fault form (suffix_of form) stats ≡ None) (inside : are_in_folders (style_of table) table.partition files ≡ true)
            (have : HaveValues (style_of table) table.partition kind_slice files rows) (replaced : List (List ℕ × List ℕ)) (replaced_is : replaced ≡ instant.replaced)
            (before : List FileRow) (before_is : before ≡ rows_before base) where
          all_named : name_fault form (suffix_of form) instant.stats ≡ None
          all_named = subst (λ l. name_fault form (suffix_of form) l ≡ None) stats_is named

          all_have : HaveValues (style_of table) table.partition kinds files rows
          all_have = subst (λ l. HaveValues (style_of table) table.partition l files rows) kind_slice_is have

          pub change_refused : (e : HudiError) → PassesLimitAfter form table schema replaced before rows e → IsRefusalOf u table base e
          change_refused e h =
              limit_refusal u table base files read_all stated states schema after kinds all_distinct all_are all_kept rows all_named inside all_have e
              (subst (λ l. PassesLimitAfter form table schema l (rows_before base) rows e) replaced_is (subst (λ l. PassesLimitAfter form table schema replaced l rows e) before_is h))

          module _ (sound : (s : ColumnTrees) → stated ≡ Some s → IsSound s) (group : Change) (is : IsGroupChange form table schema replaced before rows group) where
            all_is : IsGroupChange form table schema instant.replaced (rows_before base) rows group
            all_is = subst (λ l. IsGroupChange form table schema l (rows_before base) rows group) replaced_is (subst (λ l. IsGroupChange form table schema replaced l rows group) before_is is)

            abbrev change : Change
            change = record { schema = stated; removed = group.removed; added = group.added }

            pub found : IsChangeOf u table base change
            found = is_change u table base files read_all stated states schema after kinds all_distinct all_are all_kept rows all_named inside all_have sound group all_is

            pub live : LeavesLive u table base change
            live = leaves_live u table base change found

            pub goes_on : GoesOn table base change
            goes_on = made_goes_on u table base files read_all stated states schema after kinds all_distinct all_are all_kept rows all_named inside all_have sound group all_is
