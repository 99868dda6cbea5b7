-- What is kept behind a commit's instant, against what was kept before it.
use Rattle.std.proofs.Common.{◌≡◌, ◌⊎◌, inl, inr, ⊎_elim, ◌&&◌, Bool, true, false, List, [], ◌∷◌, ℕ, Contains, Option, Some, None, refl, sym, ap, subst, ◌∙◌, arith}
use Rattle.std.specs.Prelude.{Err, Ok, Result, option_map, unwrap_or}
use Rattle.std.specs.Str.{bytes_eq}
use Rattle.std.proofs.lemmas.Bool.{and_parts, cases_Bool, cond-false}
use Rattle.std.proofs.lemmas.Slice.Eq.{bytes_eq-Decides}
use Rattle.table_history.specs.History.{column_type}
use Rattle.table_history.specs.SchemaSize.{column_count}
use Rattle.table_history.specs.Tables.{IsAfter}
use Rattle.table_history.specs.TypeTree.{ColumnTrees, TypeTree, column, no_columns}
use Rattle.table_history.specs.declared.feature.Feature.TheVariants.{AvroName, SchemaType}
use Rattle.table_history.specs.declared.limit.LimitKind.{LimitKind}
use Rattle.table_history.specs.declared.table.Commit.{Commit}
use Rattle.table_history.specs.declared.table.Table.{Table}
use Rattle.table_history.proofs.RowListLemmas.{Contains-head, Contains-none}
use Rattle.schema_avro.specs.AvroWriting.{avro_schema_text}
use Rattle.schema_map.specs.Image.{has_avro_names, have_avro_names, have_text_keys, is_avro_name, wide_columns}
use Rattle.schema_map.specs.declared.fault.MapError.{MapError}
use Rattle.schema_map.specs.declared.fault.MapError.TheVariants as map_errors
use Rattle.target_core.specs.Conditions.{CanPublish, Fits, IsPublishable}
use Rattle.target_core.specs.Views.{IsAdvanced, IsSchemaAfter, Origin, standing_at, standing_of}
use Rattle.target_core.specs.declared.mark.Mark.{Mark}
use Rattle.target_hudi.specs.Fitting.{HasNoFault, Held, Unfit, columns_of}
use Rattle.target_hudi.specs.FitLemmas.{fits_commits, fits_rest}
use Rattle.target_hudi.specs.HudiMeaning.{image}
use Rattle.target_hudi.specs.Kept.{end_of, held_of, view_of}
use Rattle.target_hudi.specs.NewInstant.{IsNewInstant}
use Rattle.target_hudi.specs.Steps.{IsBehind}
use Rattle.target_hudi.specs.WideLemmas.{schema_faults, spelled_image}
use Rattle.target_hudi.specs.Writing.{PassesLast, TimelineEnd, held_behind}
use Rattle.target_hudi.specs.declared.kept.HudiKept.{HudiKept}

-- ---- a schema that fits

module _ (held : Option Held) (partition : List (List ℕ)) (commit : Commit) (fits : Fits (Unfit held) partition (commit ∷ [])) (stated : ColumnTrees) (states : commit.change.schema ≡ Some stated) where
  fine : HasNoFault partition commit
  fine = fits_commits held partition (commit ∷ []) fits commit (Contains-head commit [])

  by_text : (r : Result (List ℕ) MapError) → avro_schema_text stated ≡ r → image stated ≡ Some (wide_columns stated)
  by_text (Ok text) is = spelled_image stated text is
  by_text (Err e) is = ⊎_elim
      (λ (type : (name : List ℕ) × (e ≡ map_errors.SchemaType name)). absurd (fine SchemaType type.0 (stated, states, is ∙ ap (λ (x : MapError). Err x) type.1)))
      (λ (name : (name : List ℕ) × (e ≡ map_errors.AvroName name)). absurd (fine AvroName name.0 (stated, states, is ∙ ap (λ (x : MapError). Err x) name.1)))
      (schema_faults stated e is)

  -- it has an image
  pub stated_image : image stated ≡ Some (wide_columns stated)
  stated_image = by_text (avro_schema_text stated) refl

  names_by : (b : Bool) → (have_text_keys stated && have_avro_names stated) ≡ b → have_avro_names stated ≡ true
  names_by true is = (and_parts (have_text_keys stated) (have_avro_names stated) is).1
  names_by false is =
      let none : image stated ≡ None = cond-false (have_text_keys stated && have_avro_names stated) (Some (wide_columns stated)) None is in
      let both : Some (wide_columns stated) ≡ None = sym stated_image ∙ none in
      absurd (cc)

  pub stated_names : have_avro_names stated ≡ true
  stated_names = names_by (have_text_keys stated && have_avro_names stated) refl

-- a top-level column of such a schema has an Avro name
pub column_name : (schema : ColumnTrees) (name : List ℕ) (t : TypeTree) → have_avro_names schema ≡ true → column_type schema name ≡ Some t → is_avro_name name ≡ true
column_name no_columns name t names there = absurd (cc)
column_name (column n u b cs) name t names there =
    let parts = and_parts (is_avro_name n) (has_avro_names u && have_avro_names cs) names in
    ⊎_elim
    (λ yes. subst (λ (m : List ℕ). is_avro_name m ≡ true) ((bytes_eq-Decides n name).0 yes) parts.0)
    (λ no. column_name cs name t (and_parts (has_avro_names u) (have_avro_names cs) parts.1).1 (sym (cond-false (bytes_eq n name) (Some u) (column_type cs name) no) ∙ there))
    (cases_Bool (bytes_eq n name))

schema_by : (o : Option ColumnTrees) (before after : ColumnTrees) → ((stated : ColumnTrees) → o ≡ Some stated → image stated ≡ Some (wide_columns stated)) → after ≡ held_behind o before → IsSchemaAfter image o before after
schema_by None before after images is = is
schema_by (Some stated) before after images is = images stated refl ∙ ap (λ (s : ColumnTrees). Some s) (sym is)

no_column : (schema : ColumnTrees) → column_count schema ≡ 0 → schema ≡ no_columns
no_column no_columns none = refl
no_column (column n t b cs) none = absurd (omega (arith, none))

pub none_of : (names : List (List ℕ)) → ((name : List ℕ) → Contains names name → ⊥) → names ≡ []
none_of [] none = refl
none_of (name ∷ names) none = absurd (none name (Contains-head name names))

-- ---- what is kept

module _ (name : List ℕ) (origin : Origin) (now : ℕ) (kept next : HudiKept) (commit : Commit) (instant : List ℕ) (properties : Option (List ℕ)) (text : List ℕ) (v : IsNewInstant (end_of name kept) origin now kept commit instant properties text next) where
  pub schema_is : next.table.schema ≡ held_behind commit.change.schema kept.table.schema
  schema_is = ap (λ (e : TimelineEnd). e.schema) v.end_is

  pub partition_is : next.table.partition ≡ kept.table.partition
  partition_is = ap (λ (e : TimelineEnd). e.partition) v.end_is

  pub newest_is : next.newest ≡ Some instant
  newest_is = ap (λ (e : TimelineEnd). e.newest) v.end_is

  pub behind : IsBehind kept.table commit.change next.table
  behind = record { rows = v.rows; distinct = v.distinct; schema = schema_is; partition = partition_is }

  pub standing_is : option_map standing_of next.mark ≡ Some (standing_at origin commit.position)
  standing_is = ap (λ (m : Option Mark). option_map standing_of m) v.mark

  -- the table behind the commit, with the schema as it is stated
  abbrev stated_table : Table
  stated_table = record { schema = unwrap_or commit.change.schema kept.table.schema; partition = kept.table.partition; rows = next.table.rows }

  stated_after : IsAfter kept.table commit.change stated_table
  stated_after = record { rows = v.rows; distinct = v.distinct; schema = refl; partition = refl }

  module _ (can : CanPublish (view_of kept) commit) where
    pub publishable : IsPublishable stated_table
    publishable = can.after stated_table stated_after

    bare : kept.table.schema ≡ no_columns → commit.change.schema ≡ None → kept.table.partition ≡ []
    bare none unstated = none_of kept.table.partition (λ key there.
        let kind = publishable.partition_kinds key there in
        let schema : unwrap_or commit.change.schema kept.table.schema ≡ no_columns = ap (λ (o : Option ColumnTrees). unwrap_or o kept.table.schema) unstated ∙ none in
        let both : None ≡ Some kind.0 = sym (ap (λ (s : ColumnTrees). column_type s key) schema) ∙ kind.2 in
        cc)

    columns_by : (o : Option (List ℕ)) → kept.newest ≡ o → (columns_of (held_of kept) ≡ Some kept.table.schema) ⊎ (commit.change.schema ≡ None → kept.table.partition ≡ [])
    columns_by None is = inr (bare (no_column kept.table.schema (kept.begun is).1))
    columns_by (Some time) is = inl (ap (λ (o : Option (List ℕ)). columns_of (option_map (λ (t : List ℕ). record { partition = kept.table.partition; columns = kept.table.schema }) o)) is)

    held_is : held_of next ≡ Some (record { partition = kept.table.partition; columns = held_behind commit.change.schema kept.table.schema })
    held_is =
        ap (λ (o : Option (List ℕ)). option_map (λ (t : List ℕ). record { partition = next.table.partition; columns = next.table.schema }) o) newest_is
        ∙ (λ i. Some (record { partition = partition_is i; columns = schema_is i }))

    -- of a list that fitted the rest fits
    pub fits_behind : (commits : List Commit) → Fits (Unfit (held_of kept)) kept.table.partition (commit ∷ commits) → Fits (Unfit (held_of next)) next.table.partition commits
    fits_behind commits fits =
        subst (λ (names : List (List ℕ)). Fits (Unfit (held_of next)) names commits) (sym partition_is)
        (subst (λ (h : Option Held). Fits (Unfit h) kept.table.partition commits) (sym held_is)
        (fits_rest (held_of kept) kept.table.schema kept.table.partition commit commits (columns_by kept.newest refl) fits))

    module _ (fits : Fits (Unfit (held_of kept)) kept.table.partition (commit ∷ [])) where
      pub advanced : IsAdvanced image origin (view_of kept) commit (view_of next)
      advanced = record {
        commits = v.commits;
        mark = standing_is;
        rows = v.rows;
        distinct = v.distinct;
        partition = partition_is;
        schema = schema_by commit.change.schema kept.table.schema next.table.schema (λ stated states. stated_image (held_of kept) kept.table.partition commit fits stated states) schema_is;
      }

      avro_by : (name : List ℕ) → Contains kept.table.partition name → kept.table.schema ≡ no_columns → (o : Option ColumnTrees) → commit.change.schema ≡ o → is_avro_name name ≡ true
      avro_by name there none None is = absurd (Contains-none name (subst (λ (l : List (List ℕ)). Contains l name) (bare none is) there))
      avro_by name there none (Some stated) is =
          let kind = publishable.partition_kinds name there in
          let schema : unwrap_or commit.change.schema kept.table.schema ≡ stated = ap (λ (o : Option ColumnTrees). unwrap_or o kept.table.schema) is in
          column_name stated name kind.0 (stated_names (held_of kept) kept.table.partition commit fits stated is) (sym (ap (λ (s : ColumnTrees). column_type s name) schema) ∙ kind.2)

      -- the partition columns of a first commit have Avro names
      pub avro_names : kept.table.schema ≡ no_columns → (name : List ℕ) → Contains kept.table.partition name → is_avro_name name ≡ true
      avro_names none name there = avro_by name there none commit.change.schema refl

  -- what is passed from here on
  pub passes_behind : (commits : List Commit) (which : LimitKind) (number : ℕ) → PassesLast (end_of name next) origin now commits which number → PassesLast (end_of name kept) origin now (commit ∷ commits) which number
  passes_behind [] which number passes = absurd passes
  passes_behind (c ∷ cs) which number passes = (instant, v.next_time, subst (λ (e : TimelineEnd). PassesLast e origin now (c ∷ cs) which number) v.end_is passes)
