-- What is true of each table that completed instants make.
use Rattle.std.proofs.Common.{◌≡◌, ℕ, List, [], ◌∷◌, ◌++◌, Option, Some, None, refl, sym, subst}
use Rattle.std.specs.Prelude.{Err, Ok, Result, unwrap_or}
use Rattle.lake_basics.specs.Outcome.{◌>>=◌}
use Rattle.lake_store.specs.Disk.{Files}
use Rattle.table_history.specs.Rows.{HasDistinctPaths}
use Rattle.table_history.specs.TypeTree.{ColumnTrees}
use Rattle.table_history.specs.declared.table.Table.{Table}
use Rattle.schema_avro.specs.Avro.{avro_schema_of}
use Rattle.schema_map.specs.Image.{wide_columns}
use Rattle.schema_map.specs.declared.fault.MapError.{MapError}
use Rattle.hudi_timeline.specs.Causes.{table_before}
use Rattle.hudi_timeline.specs.Change.{LeadsThrough}
use Rattle.hudi_timeline.specs.Live.{Timeline}
use Rattle.hudi_timeline.specs.Schemas.{stated_schema}
use Rattle.hudi_properties.specs.declared.table.HudiTable.{HudiTable}
use Rattle.hudi_groups.proofs.GroupChangeLemmas.{distinct_none}
use Rattle.hudi_table.specs.Reading.{IsLatestOf}
use Rattle.hudi_table.specs.declared.instants.CompletedInstant.{CompletedInstant}
use Rattle.hudi_table.specs.declared.reading.Latest.{Latest}
use Rattle.hudi_table.specs.declared.reading.Naming.{Naming}
use Rattle.target_hudi.specs.WideLemmas.{read_wide}

-- the schema has Hudi's types
abbrev pub IsWide : ColumnTrees → Type 0
IsWide schema = wide_columns schema ≡ schema

spelled_by : (text : List ℕ) (schema : ColumnTrees) (r : Result ColumnTrees MapError) → avro_schema_of text ≡ r → (r >>= λ s. Ok (Some s)) ≡ Ok (Some schema) → IsWide schema
spelled_by text schema (Ok s) is stated = let same : s ≡ schema = cc in subst IsWide same (read_wide text s is)
spelled_by text schema (Err e) is stated = absurd (cc)

stated_wide : (stated : Option (List ℕ)) (schema : ColumnTrees) → stated_schema stated ≡ Ok (Some schema) → IsWide schema
stated_wide None schema is = absurd (cc)
stated_wide (Some []) schema is = absurd (cc)
stated_wide (Some (b ∷ bs)) schema is = spelled_by (b ∷ bs) schema (avro_schema_of (b ∷ bs)) refl is

after_wide : (stated : Option (List ℕ)) (o : Option ColumnTrees) (before after : ColumnTrees) → stated_schema stated ≡ Ok o → after ≡ unwrap_or o before → IsWide before → IsWide after
after_wide stated None before after says is wide = subst IsWide (sym is) wide
after_wide stated (Some schema) before after says is wide = subst IsWide (sym is) (stated_wide stated schema says)

module _ (table : HudiTable) where
  leads_wide : (base : Option Table) (timeline : Timeline) (t : Table) → IsWide (table_before table base).schema → LeadsThrough table base timeline t → IsWide t.schema
  leads_wide base [] t wide leads = subst (λ (x : Table). IsWide x.schema) (sym leads) wide
  leads_wide base (u ∷ timeline) t wide leads =
      leads_wide (Some leads.1) timeline t (after_wide u.instant.schema leads.0.schema (table_before table base).schema leads.1.schema leads.2.schema leads.3.schema wide) leads.4

  leads_distinct : (base : Option Table) (timeline : Timeline) (t : Table) → HasDistinctPaths (table_before table base).rows → LeadsThrough table base timeline t → HasDistinctPaths t.rows
  leads_distinct base [] t distinct leads = subst (λ (x : Table). HasDistinctPaths x.rows) (sym leads) distinct
  leads_distinct base (u ∷ timeline) t distinct leads = leads_distinct (Some leads.1) timeline t leads.3.distinct leads.4

module _ (files : Files) (naming : Naming) (table : HudiTable) (cs : List CompletedInstant) (latest : Latest) (is : IsLatestOf files naming table cs latest) where
  pub latest_wide : IsWide latest.table.schema
  latest_wide = leads_wide table None (is.before ++ is.newest ∷ []) latest.table refl is.leads

  pub latest_distinct : HasDistinctPaths latest.table.rows
  latest_distinct = leads_distinct table None (is.before ++ is.newest ∷ []) latest.table distinct_none is.leads
