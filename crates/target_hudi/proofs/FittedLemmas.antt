-- What holds of a commit that fits.
use Rattle.std.proofs.Common.{◌≡◌, inl, inr, ⊎_elim, ℕ, ◌<◌, List, [], ◌∷◌, ◌++◌, map, Contains, Option, Some, refl, sym, ap, subst, ◌∙◌, append_assoc, arith}
use Rattle.std.specs.Prelude.{Err}
use Rattle.std.proofs.lemmas.List.Elements.{Contains-append_cases}
use Rattle.lake_basics.specs.declared.limits.TheConstants.{MAX_PUBLISHED_COMMITS}
use Rattle.table_history.specs.Row.{Row}
use Rattle.table_history.specs.TypeTree.{ColumnTrees}
use Rattle.table_history.specs.declared.feature.Feature.{Feature}
use Rattle.table_history.specs.declared.feature.Feature.TheVariants.{AvroName, PartitionChange, PartitionPath, SchemaType}
use Rattle.table_history.specs.declared.table.Commit.{Commit}
use Rattle.table_history.proofs.RowListLemmas.{Contains-cases, Contains-none, Contains-one}
use Rattle.partition_map.specs.Columns.{HasOtherKind, column_kind}
use Rattle.partition_map.specs.declared.kind.PartKind.{PartKind}
use Rattle.schema_avro.specs.AvroWriting.{avro_schema_text}
use Rattle.schema_map.specs.Image.{wide_columns}
use Rattle.schema_map.specs.declared.fault.MapError.{MapError}
use Rattle.schema_map.specs.declared.fault.MapError.TheVariants as map_errors
use Rattle.target_core.specs.Conditions.{Fits}
use Rattle.target_core.specs.declared.target.TargetError.TheVariants.{Unsupported}
use Rattle.target_hudi.specs.Fitting.{ChangesPartition, HasSchemaFault, Held, IsAstray, IsCommitFault, Unfit, columns_of}
use Rattle.target_hudi.specs.WideLemmas.{schema_faults, wide_kind}

same_at : (f g : List ℕ → Option PartKind) (names : List (List ℕ)) → map f names ≡ map g names → (name : List ℕ) → Contains names name → f name ≡ g name
same_at f g [] same name there = absurd (Contains-none name there)
same_at f g (n ∷ names) same name there =
    let first : f n ≡ g n = cc in
    let rest : map f names ≡ map g names = cc in
    ⊎_elim (λ (here : n ≡ name). subst (λ m. f m ≡ g m) here first) (λ later. same_at f g names rest name later) (Contains-cases n names name there)

-- columns of the same kinds have no other kind
pub no_other_kind : (before after : ColumnTrees) (names : List (List ℕ)) → map (column_kind before) names ≡ map (column_kind after) names → HasOtherKind before after names → ⊥
no_other_kind before after names same other =
    let kinds : Some other.old ≡ Some other.new = sym other.was ∙ same_at (column_kind before) (column_kind after) names same other.name other.named ∙ other.is in
    let is : other.old ≡ other.new = cc in
    other.changed is

-- Hudi's types change no kind
pub wide_kinds : (schema : ColumnTrees) (names : List (List ℕ)) → map (column_kind schema) names ≡ map (column_kind (wide_columns schema)) names
wide_kinds schema [] = refl
wide_kinds schema (name ∷ names) = λ i. sym (wide_kind schema name) i ∷ wide_kinds schema names i

module _ (held : Option Held) (partition : List (List ℕ)) (commit : Commit) (fits : Fits (Unfit held) partition (commit ∷ [])) where
  few : MAX_PUBLISHED_COMMITS < 1 → ⊥
  few many = omega (arith, many)

  pub keeps_partition : ChangesPartition held partition (commit ∷ []) → ⊥
  keeps_partition changed = fits.never (Unsupported PartitionChange []) (Unfit.changes few changed)

  no_fault : (feature : Feature) (path : List ℕ) → IsCommitFault partition commit feature path → ⊥
  no_fault feature path at_fault =
      fits.never (Unsupported feature path) (Unfit.fault feature path few keeps_partition (record {
        front = [];
        commit = commit;
        behind = [];
        split = refl;
        fault = at_fault;
        none = λ other there. absurd (Contains-none other there);
      }))

  pub no_schema_fault : (feature : Feature) (column : List ℕ) → HasSchemaFault commit feature column → ⊥
  no_schema_fault SchemaType column at_fault = no_fault SchemaType column at_fault
  no_schema_fault AvroName column at_fault = no_fault AvroName column at_fault
  no_schema_fault _ column at_fault = absurd at_fault

  -- the schema that the commit states has a text in Avro
  pub is_spelled : (stated : ColumnTrees) (e : MapError) → commit.change.schema ≡ Some stated → avro_schema_text stated ≡ Err e → ⊥
  is_spelled stated e states refused =
      ⊎_elim
      (λ (type : (column : List ℕ) × (e ≡ map_errors.SchemaType column)). no_schema_fault SchemaType type.0 (stated, states, refused ∙ ap Err type.1))
      (λ (name : (column : List ℕ) × (e ≡ map_errors.AvroName column)). no_schema_fault AvroName name.0 (stated, states, refused ∙ ap Err name.1))
      (schema_faults stated e refused)

  -- an added row's folder carries its values
  not_astray : (front rows : List Row) → commit.change.added ≡ front ++ rows → ((other : Row) → Contains front other → IsAstray partition other → ⊥) → (row : Row) → Contains rows row → IsAstray partition row → ⊥
  not_astray front [] split none row there = absurd (Contains-none row there)
  not_astray front (r ∷ rows) split none row there =
      let here : IsAstray partition r → ⊥ = λ astray. no_fault PartitionPath r.path (no_schema_fault, record { front = front; row = r; behind = rows; split = split; here = astray; none = none; is = refl }) in
      let more : (other : Row) → Contains (front ++ r ∷ []) other → IsAstray partition other → ⊥ =
      λ other inside. ⊎_elim (λ left. none other left) (λ last. subst (λ (x : Row). IsAstray partition x → ⊥) (Contains-one r other last) here) (Contains-append_cases front (r ∷ []) other inside) in
      ⊎_elim
      (λ (is : r ≡ row). subst (λ (x : Row). IsAstray partition x → ⊥) is here)
      (λ later. not_astray (front ++ r ∷ []) rows (split ∙ sym (append_assoc front (r ∷ []) rows)) more row later)
      (Contains-cases r rows row there)

  pub carries : (row : Row) → Contains commit.change.added row → IsAstray partition row → ⊥
  carries row there = not_astray [] commit.change.added refl (λ other none. absurd (Contains-none other none)) row there

  -- the commit keeps the kinds of the columns that are held, in Hudi's types too
  pub keeps_kinds : (before stated : ColumnTrees) → columns_of held ≡ Some before → commit.change.schema ≡ Some stated → HasOtherKind before (wide_columns stated) partition → ⊥
  keeps_kinds before stated holds states other =
      keeps_partition (
        (λ e. let wrong : commit ∷ [] ≡ [] = e in absurd (cc)),
        inr (inl (before, stated, holds, states, λ same. no_other_kind before (wide_columns stated) partition (same ∙ wide_kinds stated partition) other)),
      )
