-- Which schemas the newest version of an Iceberg target holds behind what is published.
use Rattle.std.proofs.Common.{◌≡◌, inl, inr, ⊎_elim, ℕ, ◌+◌, ◌≤◌, ◌<◌, List, [], ◌∷◌, Contains, Option, None, Some, refl, sym, ap, subst, ◌∙◌, arith}
use Rattle.std.specs.Prelude.{IsSome, unwrap_or}
use Rattle.std.proofs.lemmas.Bool.{cases_lt}
use Rattle.std.proofs.lemmas.List.Elements.{Contains-append_cases}
use Rattle.lake_basics.specs.declared.limits.TheConstants.{MAX_ICEBERG_VERSION}
use Rattle.lake_store.specs.Disk.{Files}
use Rattle.schema_map.specs.Image.{wide_columns}
use Rattle.table_history.specs.TypeTree.{ColumnTrees}
use Rattle.table_history.specs.declared.table.Commit.{Commit}
use Rattle.table_history.proofs.RowListLemmas.{Contains-head, Contains-none, Contains-one, Contains-tail}
use Rattle.iceberg_metadata.specs.Schemas.{HeldSchema}
use Rattle.iceberg_metadata.specs.declared.metadata.Metadata.{Metadata}
use Rattle.iceberg_version.specs.KeptEnd.{end_of}
use Rattle.iceberg_version.specs.Schemas.{AreNextSchemas}
use Rattle.iceberg_version.specs.Writing.{stated_behind}
use Rattle.iceberg_version.specs.declared.kept.IcebergKept.{IcebergKept}
use Rattle.target_core.specs.Views.{Origin}
use Rattle.target_iceberg.proofs.WrittenNew.{new_is}
use Rattle.target_iceberg.specs.Kept.{StandsFor}
use Rattle.target_iceberg.specs.Reading.{IsAbsent}
use Rattle.target_iceberg.specs.SameLemmas.{SameReached}
use Rattle.target_iceberg.specs.Writes.{Writes}
use Rattle.lake_play.proofs.Newest.{AllMay, IsAlike, IsStep, OfNewest, of_behind, of_kept, of_none, of_same, reached_newest, table_held}

-- Each schema that the metadata holds has these columns.
abbrev pub HasOnly : ColumnTrees → ℕ → Metadata → Type 0
HasOnly image version m = (s : HeldSchema) → Contains m.schemas s → s.1 ≡ image

-- So it is of the newest version's metadata.
abbrev pub HoldsOnly : ColumnTrees → Files → Type 0
HoldsOnly image files = OfNewest (HasOnly image) files

-- It depends on what the versions reach alone.
pub only_too : (image : ColumnTrees) (a b : Files) → SameReached a b → HoldsOnly image a → HoldsOnly image b
only_too image a b same only = of_same (HasOnly image) a b (reached_newest a b same) only

pub only_none : (image : ColumnTrees) (files : Files) → IsAbsent files → HoldsOnly image files
only_none image files none = of_none (HasOnly image) files none

alike_only : (image : ColumnTrees) → IsAlike (HasOnly image)
alike_only image version m n same only s held = only s (subst (λ (l : List HeldSchema). Contains l s) (ap (λ (x : Metadata). x.schemas) same.others) held)

-- ---- what is kept

module _ (image : ColumnTrees) (id location : List ℕ) (kept : IcebergKept) (files : Files) (stands : StandsFor id location kept files) (only : HoldsOnly image files) where
  -- The table has it too, where a commit is published.
  pub table_only : 0 < kept.version → kept.table.schema ≡ image
  table_only some = let held = table_held (λ (s : HeldSchema). s.1 ≡ image) id location kept files stands only some in held.2 ∙ held.1

  pub schemas_only : (s : HeldSchema) → Contains kept.metadata.schemas s → s.1 ≡ image
  schemas_only = of_kept (HasOnly image) (alike_only image) id location (λ s held. absurd (Contains-none s held)) kept files stands only

-- ---- one commit

module _ (image : ColumnTrees) (id location : List ℕ) (kept : IcebergKept) (before after : Files) (origin : Origin) (now : ℕ) (commit : Commit) (stands : StandsFor id location kept before) (writes : Writes (end_of kept) before origin now commit after)
    (within : kept.version + 1 ≤ MAX_ICEBERG_VERSION) (only : HoldsOnly image before) (states : wide_columns (stated_behind (end_of kept) commit.change) ≡ image) where
  next_by : AreNextSchemas kept.metadata (stated_behind (end_of kept) commit.change) writes.is.schemas → (s : HeldSchema) → Contains writes.is.schemas.held s → s.1 ≡ image
  next_by (inl keeps) s held = schemas_only image id location kept before stands only s (subst (λ (l : List HeldSchema). Contains l s) keeps.held held)
  next_by (inr adds) s held =
      ⊎_elim
      (λ old. schemas_only image id location kept before stands only s old)
      (λ last. ap (λ (x : HeldSchema). x.1) (sym (Contains-one writes.is.schemas.current s last)) ∙ ap (λ (x : HeldSchema). x.1) adds.1.current ∙ states)
      (Contains-append_cases kept.metadata.schemas (writes.is.schemas.current ∷ []) s (subst (λ (l : List HeldSchema). Contains l s) adds.1.held held))

  only_behind : HoldsOnly image after
  only_behind =
      let again = writes.back.metadata in
      of_behind id location kept before after origin now commit stands writes within (HasOnly image)
      (λ s held. next_by writes.is.layout.schemas_are s (subst (λ (l : List HeldSchema). Contains l s) (new_is (end_of kept) origin now commit writes.written writes.is again.0 again.2).schemas_are held))

-- ---- commits one behind the other

-- What the types of the target make of each stated schema has these columns.
abbrev pub StateOnly : ColumnTrees → List Commit → Type 0
StateOnly image commits = (commit : Commit) (schema : ColumnTrees) → Contains commits commit → commit.change.schema ≡ Some schema → wide_columns schema ≡ image

-- the first of all commits states a schema
abbrev pub BeginsStated : ℕ → List Commit → Type 0
BeginsStated version [] = Unit {0}
BeginsStated version (commit ∷ commits) = version ≡ 0 → IsSome commit.change.schema

pub none_stated : (o : Option ColumnTrees) → IsSome o → o ≡ None → ⊥
none_stated None is same = absurd (cc)
none_stated (Some schema) is same = cc

-- the schema behind a commit, of a target whose table has these columns where a commit is published
pub stated_image : (image : ColumnTrees) → wide_columns image ≡ image → (version : ℕ) (table : ColumnTrees) → (0 < version → table ≡ image) → (o : Option ColumnTrees) → (version ≡ 0 → IsSome o) → ((schema : ColumnTrees) → o ≡ Some schema → wide_columns schema ≡ image)
    → wide_columns (unwrap_or o table) ≡ image
stated_image image own version table is None first states =
    ⊎_elim
    (λ (none : version < 1). absurd (none_stated None (first (omega (arith, none))) refl))
    (λ (some : 1 ≤ version). ap wide_columns (is some) ∙ own)
    (cases_lt version 1)
stated_image image own version table is (Some schema) first states = states schema refl

-- Behind a first commit none needs to state a schema.
pub begins_later : (version : ℕ) (commits : List Commit) → 0 < version → BeginsStated version commits
begins_later version [] some = tt
begins_later version (commit ∷ commits) some = λ none. absurd (omega (arith, some, none))

-- A commit behind so many states these columns or none, and the first of all states them.
abbrev pub MayState : ColumnTrees → ℕ → Commit → Type 0
MayState image version commit = ((schema : ColumnTrees) → commit.change.schema ≡ Some schema → wide_columns schema ≡ image) × (version ≡ 0 → IsSome commit.change.schema)

pub all_state : (image : ColumnTrees) (version : ℕ) (commits : List Commit) → StateOnly image commits → BeginsStated version commits → AllMay (MayState image) version commits
all_state image version [] states begins = tt
all_state image version (commit ∷ commits) states begins = (
  (λ schema said. states commit schema (Contains-head commit commits) said, begins),
  all_state image (version + 1) commits (λ other schema there said. states other schema (Contains-tail commit commits other there) said) (begins_later (version + 1) commits (omega arith)),
)

-- Behind such a commit each held schema has these columns.
pub only_step : (image : ColumnTrees) → wide_columns image ≡ image → (id location : List ℕ) (origin : Origin) (now : ℕ) → IsStep (HoldsOnly image) (MayState image) id location origin now
only_step image own id location origin now kept before after commit stands writes within may only =
    let stated = stated_image image own kept.version kept.table.schema (table_only image id location kept before stands only) commit.change.schema may.1 may.0 in
    only_behind image id location kept before after origin now commit stands writes within only stated
