-- What is kept behind a commit: the end of the table, and what commits are to fit.
use Rattle.std.proofs.Common.{◌≡◌, inl, inr, ℕ, pos, if◌then◌else◌, Bool, true, false, List, [], ◌∷◌, ◌++◌, length, map, Option, None, Some, refl, sym, ap, subst, ◌∙◌}
use Rattle.std.specs.Prelude.{option_map, unwrap_or}
use Rattle.std.proofs.lemmas.Bool.{false≢true}
use Rattle.schema_map.specs.Image.{wide_columns}
use Rattle.table_history.specs.TypeEqLaws.{columns_eq-Decides}
use Rattle.table_history.specs.TypeTree.{ColumnTrees}
use Rattle.table_history.specs.declared.limit.LimitKind.{LimitKind}
use Rattle.table_history.specs.declared.table.Commit.{Commit}
use Rattle.iceberg_metadata.specs.Paths.{current_schema}
use Rattle.iceberg_metadata.specs.Schemas.{HeldSchema}
use Rattle.iceberg_metadata.specs.declared.metadata.Metadata.{Metadata}
use Rattle.iceberg_version.specs.KeptEnd.{end_of}
use Rattle.iceberg_version.specs.Schemas.{AreNextSchemas, Schemas}
use Rattle.iceberg_version.specs.Writing.{Passes, TableEnd, end_behind, stated_behind}
use Rattle.iceberg_version.specs.declared.kept.IcebergKept.{IcebergKept}
use Rattle.iceberg_commit.specs.NewVersion.{ChangesKinds}
use Rattle.iceberg_commit.specs.NextVersion.{IsNextVersion, VersionFiles, image}
use Rattle.iceberg_commit.proofs.NextVersionLemmas.{current_kept}
use Rattle.target_core.specs.Conditions.{Fits}
use Rattle.target_core.specs.Views.{IsSchemaAfter, Origin}
use Rattle.target_iceberg.specs.FitLemmas.{fits_alike, fits_rest}
use Rattle.target_iceberg.specs.Fitting.{HeldState, IdSchema, Unfit, held_behind, is_current, state_behind, state_of}
use Rattle.target_iceberg.proofs.FollowLemmas.{pairs_length, pairs_of}

-- ---- partition columns

-- A commit that fits leaves the kinds of the partition columns.
pub kinds_stay : (kept : IcebergKept) (commit : Commit) → Fits (Unfit (state_of kept)) kept.table.partition (commit ∷ []) → ¬ ChangesKinds kept commit.change
kinds_stay kept commit fits changes = fits_alike (state_of kept) kept.table.partition (commit ∷ []) fits (λ none. cc, inr (inl changes))

-- ---- held schemas

pairs_more : (schemas : List HeldSchema) (s : HeldSchema) → pairs_of (schemas ++ s ∷ []) ≡ pairs_of schemas ++ (s.0, s.1) ∷ []
pairs_more [] s = refl
pairs_more (t ∷ schemas) s = ap (λ (l : List IdSchema). (t.0, t.1) ∷ l) (pairs_more schemas s)

abbrev current_of : Option HeldSchema → Option ColumnTrees
current_of o = option_map (λ s. s.1) o

current_true : (o : Option HeldSchema) (schema : HeldSchema) (wide : ColumnTrees) → o ≡ Some schema → schema.1 ≡ wide → is_current (current_of o) wide ≡ true
current_true o schema wide is same = ap (λ (p : Option HeldSchema). is_current (current_of p) wide) is ∙ (columns_eq-Decides schema.1 wide).1 same

current_back : (o : Option HeldSchema) (wide : ColumnTrees) → is_current (current_of o) wide ≡ true → (schema : HeldSchema) × (o ≡ Some schema) × (schema.1 ≡ wide)
current_back None wide is = absurd (false≢true is)
current_back (Some schema) wide is = (schema, refl, (columns_eq-Decides schema.1 wide).0 is)

module _ (m : Metadata) (stated : ColumnTrees) (next : Schemas) where
  abbrev now : Bool
  now = is_current (current_of (current_schema m)) (wide_columns stated)

  abbrev more : List IdSchema
  more = pairs_of m.schemas ++ (pos (length (pairs_of m.schemas)), wide_columns stated) ∷ []

  held_by : (b : Bool) → now ≡ b → AreNextSchemas m stated next → pairs_of next.held ≡ (if b then pairs_of m.schemas else more)
  held_by true is (inl keeps) = ap pairs_of keeps.held
  held_by true is (inr adds) = let found = current_back (current_schema m) (wide_columns stated) is in absurd (adds.0 found.0 (record { held = found.1; columns = found.2 }))
  held_by false is (inl keeps) = absurd (false≢true (sym is ∙ current_true (current_schema m) next.current (wide_columns stated) keeps.current.held keeps.current.columns))
  held_by false is (inr adds) =
      let pair : (next.current.0, next.current.1) ≡ (pos (length (pairs_of m.schemas)), wide_columns stated) = ap (λ (s : HeldSchema). (s.0, s.1)) adds.1.current ∙ ap (λ (n : ℕ). (pos n, wide_columns stated)) (sym (pairs_length m.schemas)) in
      ap pairs_of adds.1.held ∙ pairs_more m.schemas next.current ∙ ap (λ (p : IdSchema). pairs_of m.schemas ++ p ∷ []) pair

  pub held_next : AreNextSchemas m stated next → pairs_of next.held ≡ (if now then pairs_of m.schemas else more)
  held_next are = held_by now refl are

-- ---- what is kept

schema_by : (o : Option ColumnTrees) (before after : ColumnTrees) → wide_columns before ≡ before → IsSchemaAfter image o before after → after ≡ wide_columns (unwrap_or o before)
schema_by None before after own is = is ∙ sym own
schema_by (Some stated) before after own is = let same : wide_columns stated ≡ after = cc is in sym same

module _ (kept next : IcebergKept) (origin : Origin) (now : ℕ) (commit : Commit) (new : VersionFiles) (v : IsNextVersion kept origin now commit new next) where
  abbrev stated : ColumnTrees
  stated = stated_behind (end_of kept) commit.change

  schema_is : next.table.schema ≡ wide_columns stated
  schema_is = schema_by commit.change.schema kept.table.schema next.table.schema ((columns_eq-Decides (wide_columns kept.table.schema) kept.table.schema).0 kept.own_image) v.advanced.schema

  -- what is kept is the table's end behind the commit
  pub end_is : end_of next ≡ end_behind (end_of kept) commit v.written
  end_is = λ i. record { version = v.version i; metadata = v.metadata i; schema = schema_is i; partition = v.advanced.partition i; manifests = v.manifests i }

  pub passes_behind : (commits : List Commit) (which : LimitKind) (limit : ℕ) → Passes (end_of next) origin now commits which limit → Passes (end_of kept) origin now (commit ∷ commits) which limit
  passes_behind [] which limit h = absurd h
  passes_behind (c ∷ cs) which limit h = (v.written, v.is, subst (λ (e : TableEnd). Passes e origin now (c ∷ cs) which limit) end_is h)

  -- ---- what commits are to fit

  abbrev schemas : Schemas
  schemas = v.is.schemas

  are_next : AreNextSchemas kept.metadata stated schemas
  are_next = v.is.layout.schemas_are

  held_is : map (λ s. (s.0, s.1)) next.metadata.schemas ≡ held_behind (state_of kept) stated
  held_is = ap (λ (m : Metadata). pairs_of m.schemas) (v.metadata ∙ v.is.metadata) ∙ held_next kept.metadata stated schemas are_next

  current_is : option_map (λ s. s.1) (current_schema next.metadata) ≡ Some (wide_columns stated)
  current_is = current_kept next kept.metadata stated schemas are_next (ap (λ (m : Metadata). m.schemas) (v.metadata ∙ v.is.metadata)) (ap (λ (m : Metadata). m.current_schema) (v.metadata ∙ v.is.metadata))

  state_is : state_of next ≡ state_behind (state_of kept) commit
  state_is = λ i. record { version = v.version i; partition = v.advanced.partition i; schema = schema_is i; held = held_is i; current = current_is i }

  -- Of a list that fitted, the rest fits behind the commit.
  pub fits_behind : (commits : List Commit) → Fits (Unfit (state_of kept)) kept.table.partition (commit ∷ commits) → Fits (Unfit (state_of next)) next.table.partition commits
  fits_behind commits fits = subst (λ (s : HeldState). Fits (Unfit s) s.partition commits) (sym state_is) (fits_rest (state_of kept) commit commits fits)
