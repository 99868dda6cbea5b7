-- Whether commits fit what is kept: the kinds of partition columns along the commits, and the first commit with a fault.
use Rattle.std.proofs.Common.{◌≡◌, ◌≢◌, ◌⊎◌, ⊎_elim, inl, inr, ℕ, ◌+◌, ◌<◌, List, ◌∷◌, length, get_or, take, drop, Contains, Option, Some, None, Result, Err, Ok, refl, sym, ap, subst, ◌∙◌}
use lib.Pointwise.{pointwise}
use Rattle.std.specs.Prelude.{IfErr, OnOk, option_map}
use Rattle.std.specs.Option.{option_eq}
use Rattle.std.proofs.lemmas.Bool.{cases_Bool, false≢true}
use Rattle.std.proofs.lemmas.List.Elements.{Contains-append_right}
use Rattle.partition_map.specs.contracts.kind.PartKindPartialEq.TheImpl.{eq-value}
use Rattle.partition_map.specs.declared.kind.PartKind.{PartKind}
use Rattle.partition_map.proofs.EqualKinds.{kinds_decide}
use Rattle.table_history.specs.Row.{Row}
use Rattle.table_history.specs.TypeTree.{ColumnTrees}
use Rattle.table_history.specs.declared.feature.Feature.{Feature}
use Rattle.table_history.specs.declared.feature.Feature.TheVariants.{PartitionPath}
use Rattle.table_history.specs.declared.row.PartValue.{PartValue}
use Rattle.table_history.specs.declared.table.Commit.{Commit}
use Rattle.table_history.proofs.RowListLemmas.{Contains-head}
use Rattle.partition_map.specs.Folder.{CarriesValues}
use Rattle.lake_basics.specs.declared.limits.TheConstants.{MAX_PUBLISHED_COMMITS}
use Rattle.lake_basics.specs.Outcome.{GivesUnlessMemory}
use Rattle.lake_basics.proofs.Lists.{split_of}
use Rattle.lake_basics.proofs.Options.{none_or_some, some_once}
use Rattle.table_history.specs.declared.limit.LimitKind.{LimitKind}
use Rattle.schema_avro.specs.AvroWriting.{avro_schema_text}
use Rattle.schema_map.specs.Errors.{is_memory}
use Rattle.schema_map.specs.declared.fault.MapError.{MapError}
use Rattle.schema_map.specs.declared.fault.MapError.TheVariants.{BadSchema}
use Rattle.schema_map.specs.declared.fault.MapError.TheVariants as map_errors
use Rattle.target_core.specs.Conditions.{Fits}
use Rattle.target_core.specs.Refusals.{IsFitsRefusal}
use Rattle.target_core.specs.declared.target.TargetError.{TargetError}
use Rattle.target_core.specs.declared.target.TargetError.TheVariants.{Memory, StoreFault, Contested, Limit, Unsupported}
use Rattle.target_hudi.specs.Fitting.{AreKindsBehind, ChangesKinds, ChangesPartition, HasNoFault, HasSchemaFault, Held, IsAstray, IsCommitFault, IsFaultRefusal, IsFirstAstray, IsFirstFault, Unfit, columns_behind, fault, kinds_of}
use Rattle.target_hudi.specs.FitLemmas.{fits_by}
use Rattle.target_hudi.specs.WideLemmas.{schema_faults}

-- ---- equal kinds

pub kinds_cases : (a b : List (Option PartKind)) → (a ≡ b) ⊎ (a ≢ b)
kinds_cases a b =
    let decides = kinds_decide a b (pointwise (option_eq eq-value.it) a b) refl in
    ⊎_elim (λ same. inl (decides.0 same)) (λ other. inr (λ is. false≢true (sym other ∙ decides.1 is))) (cases_Bool (pointwise (option_eq eq-value.it) a b))

-- ---- along the commits

-- Behind the first commits the columns are of these kinds, and the kinds change along all of them just where they change along the rest.
pub record AtStep (names : List (List ℕ)) (kinds : Option (List (Option PartKind))) (before : Option ColumnTrees) (commits rest : List Commit) : Type 0 where
  pub here : Option ColumnTrees
  pub are : AreKindsBehind here names kinds
  pub to : ChangesKinds before names commits → ChangesKinds here names rest
  pub back : ChangesKinds here names rest → ChangesKinds before names commits

pub at_start : (names : List (List ℕ)) (kinds : Option (List (Option PartKind))) (before : Option ColumnTrees) (commits : List Commit) → AreKindsBehind before names kinds → AtStep names kinds before commits commits
at_start names kinds before commits are = record { here = before; are = are; to = λ h. h; back = λ h. h }

module _ (names : List (List ℕ)) (kinds : Option (List (Option PartKind))) (before : Option ColumnTrees) (commits : List Commit) (commit : Commit) (rest : List Commit) (s : AtStep names kinds before commits (commit ∷ rest)) where
  behind_none : commit.change.schema ≡ None → columns_behind s.here commit.change.schema ≡ s.here
  behind_none none = ap (columns_behind s.here) none

  pub step_none : commit.change.schema ≡ None → AtStep names kinds before commits rest
  step_none none = record {
    here = s.here;
    are = s.are;
    to = λ h. ⊎_elim (λ a. absurd (none_or_some commit.change.schema a.1 none a.3)) (λ later. subst (λ (b : Option ColumnTrees). ChangesKinds b names rest) (behind_none none) later) (s.to h);
    back = λ later. s.back (inr (subst (λ (b : Option ColumnTrees). ChangesKinds b names rest) (sym (behind_none none)) later));
  }

  module _ (schema : ColumnTrees) (stated : commit.change.schema ≡ Some schema) (new : List (Option PartKind)) (are : new ≡ kinds_of schema names) where
    kinds_here : (held : ColumnTrees) → s.here ≡ Some held → kinds ≡ Some (kinds_of held names)
    kinds_here held is = sym s.are ∙ ap (option_map (λ (schema : ColumnTrees). kinds_of schema names)) is

    behind_some : columns_behind s.here commit.change.schema ≡ Some schema
    behind_some = ap (columns_behind s.here) stated

    pub step_some : ((old : List (Option PartKind)) → kinds ≡ Some old → old ≡ new) → AtStep names (Some new) before commits rest
    step_some same = record {
      here = Some schema;
      are = ap Some (sym are);
      to = λ h. ⊎_elim
          (λ (a : (held : ColumnTrees) × (other : ColumnTrees) × (s.here ≡ Some held) × (commit.change.schema ≡ Some other) × (kinds_of held names ≢ kinds_of other names)).
          absurd (a.4 (same (kinds_of a.0 names) (kinds_here a.0 a.2) ∙ are ∙ ap (λ (t : ColumnTrees). kinds_of t names) (some_once commit.change.schema schema a.1 stated a.3))))
          (λ later. subst (λ (b : Option ColumnTrees). ChangesKinds b names rest) behind_some later)
          (s.to h);
      back = λ later. s.back (inr (subst (λ (b : Option ColumnTrees). ChangesKinds b names rest) (sym behind_some) later));
    }

    held_of_kinds : (here : Option ColumnTrees) (old : List (Option PartKind)) → AreKindsBehind here names kinds → kinds ≡ Some old → (held : ColumnTrees) × (here ≡ Some held) × (kinds_of held names ≡ old)
    held_of_kinds None old is there = let never : ◌≡◌ {A = Option (List (Option PartKind))} None (Some old) = is ∙ there in absurd cc
    held_of_kinds (Some held) old is there = (held, refl, let same : ◌≡◌ {A = Option (List (Option PartKind))} (Some (kinds_of held names)) (Some old) = is ∙ there in cc)

    pub step_found : (old : List (Option PartKind)) → kinds ≡ Some old → old ≢ new → ChangesKinds before names commits
    step_found old is apart =
        let held = held_of_kinds s.here old s.are is in
        s.back (inl (held.0, schema, held.1, stated, λ (same : kinds_of held.0 names ≡ kinds_of schema names). apart (sym held.2 ∙ same ∙ sym are)))

-- ---- the first that is so

carried : (partition : List (List ℕ)) (row : Row) (path : List ℕ) (values : List PartValue) → path ≡ row.path → values ≡ row.values → CarriesValues path partition values → CarriesValues row.path partition row.values
carried partition row path values path_is values_are is = subst (λ (p : List ℕ). CarriesValues p partition row.values) path_is (subst (CarriesValues path partition) values_are is)

pub astray : (partition : List (List ℕ)) (row : Row) (path : List ℕ) (values : List PartValue) → path ≡ row.path → values ≡ row.values → (CarriesValues path partition values → ⊥) → IsAstray partition row
astray partition row path values path_is values_are never is =
    never (subst (λ (p : List ℕ). CarriesValues p partition values) (sym path_is) (subst (CarriesValues row.path partition) (sym values_are) is))

pub not_astray : (partition : List (List ℕ)) (row : Row) (path : List ℕ) (values : List PartValue) → path ≡ row.path → values ≡ row.values → CarriesValues path partition values → IsAstray partition row → ⊥
not_astray partition row path values path_is values_are is never = never (carried partition row path values path_is values_are is)

module _ (partition : List (List ℕ)) where
  pub first_astray : (rows : List Row) (i : ℕ) (row : Row) → i < length rows → row ≡ get_or rows i row → ((other : Row) → Contains (take i rows) other → IsAstray partition other → ⊥) → IsAstray partition row → IsFirstAstray partition rows row.path
  first_astray rows i row within at before here = record { front = take i rows; row = row; behind = drop (i + 1) rows; split = split_of rows i row within at; here = here; none = before; is = refl }

  pub first_fault : (commits : List Commit) (i : ℕ) (commit : Commit) (feature : Feature) (path : List ℕ) → i < length commits → commit ≡ get_or commits i commit → ((other : Commit) → Contains (take i commits) other → HasNoFault partition other)
      → IsCommitFault partition commit feature path → IsFirstFault partition commits feature path
  first_fault commits i commit feature path within at before here = record { front = take i commits; commit = commit; behind = drop (i + 1) commits; split = split_of commits i commit within at; fault = here; none = before }

-- ---- the text of a schema

module _ (schema : ColumnTrees) (r : Result (List ℕ) MapError) (e : MapError) (given : GivesUnlessMemory is_memory (λ t. t) r (avro_schema_text schema)) (is : r ≡ Err e) where
  pub never_bad : e ≡ BadSchema → ⊥
  never_bad bad =
      let told : avro_schema_text schema ≡ Err BadSchema = subst (λ (x : Result (List ℕ) MapError). GivesUnlessMemory is_memory (λ t. t) x (avro_schema_text schema)) (is ∙ ap Err bad) given in
      ⊎_elim (λ key. absurd (cc)) (λ name. absurd (cc)) (schema_faults schema BadSchema told)

  pub never_limit : (which : LimitKind) → e ≡ map_errors.Limit which → ⊥
  never_limit which limit =
      let told : avro_schema_text schema ≡ Err (map_errors.Limit which) = subst (λ (x : Result (List ℕ) MapError). GivesUnlessMemory is_memory (λ t. t) x (avro_schema_text schema)) (is ∙ ap Err limit) given in
      ⊎_elim (λ key. absurd (cc)) (λ name. absurd (cc)) (schema_faults schema (map_errors.Limit which) told)

-- ---- a commit without a fault

module _ (partition : List (List ℕ)) (commit : Commit) where
  fault_cases : (feature : Feature) (path : List ℕ) → IsCommitFault partition commit feature path → IsFirstAstray partition commit.change.added path ⊎ HasSchemaFault commit feature path
  fault_cases PartitionPath path h = inl h.1
  fault_cases _ path h = inr h

  astray_there : (path : List ℕ) (first : IsFirstAstray partition commit.change.added path) → Contains commit.change.added first.row
  astray_there path first = subst (λ (l : List Row). Contains l first.row) (sym first.split) (Contains-append_right first.front (first.row ∷ first.behind) first.row (Contains-head first.row first.behind))

  pub no_fault_by : {V E : Type 0} (rows : List Row) (r : Result V E) → rows ≡ commit.change.added → ((feature : Feature) (column : List ℕ) → HasSchemaFault commit feature column → ⊥)
      → OnOk r ((row : Row) → Contains rows row → IsAstray partition row → ⊥) → OnOk r (HasNoFault partition commit)
  no_fault_by rows (Ok v) are spelled none = λ feature path h.
      ⊎_elim
      (λ (first : IsFirstAstray partition commit.change.added path). none first.row (subst (λ (l : List Row). Contains l first.row) (sym are) (astray_there path first)) first.here)
      (λ fault. spelled feature path fault)
      (fault_cases feature path h)
  no_fault_by rows (Err e) are spelled none = tt

-- ---- refusals

-- the same refusal of a wider cause
pub refusal_further : (P Q : Feature → List ℕ → Type 0) (e : TargetError) → ((feature : Feature) (path : List ℕ) → P feature path → Q feature path) → IsFaultRefusal P e → IsFaultRefusal Q e
refusal_further P Q Memory further h = h
refusal_further P Q StoreFault further h = h
refusal_further P Q Contested further h = h
refusal_further P Q (Limit which number) further h = h
refusal_further P Q (Unsupported feature path) further h = further feature path h

pub refusal_of : (P : Feature → List ℕ → Type 0) (unfit : TargetError → Type 0) (e : TargetError) → ((feature : Feature) (path : List ℕ) → P feature path → unfit (Unsupported feature path)) → IsFaultRefusal P e → IsFitsRefusal unfit e
refusal_of P unfit Memory further h = h
refusal_of P unfit StoreFault further h = h
refusal_of P unfit Contested further h = h
refusal_of P unfit (Limit which number) further h = absurd h
refusal_of P unfit (Unsupported feature path) further h = further feature path h

-- ---- the whole

module _ {V : Type 0} (held : Option Held) (partition : List (List ℕ)) (commits : List Commit) (r : Result V TargetError) (few : MAX_PUBLISHED_COMMITS < length commits → ⊥) (alike : ChangesPartition held partition commits → ⊥) where
  pub fits_as : OnOk r ((commit : Commit) → Contains commits commit → HasNoFault partition commit) → OnOk r (Fits (Unfit held) partition commits)
  fits_as none = on_ok r none
    where
      on_ok : (r : Result V TargetError) → OnOk r ((commit : Commit) → Contains commits commit → HasNoFault partition commit) → OnOk r (Fits (Unfit held) partition commits)
      on_ok (Ok v) none = record { never = fits_by held partition commits few alike none }
      on_ok (Err e) none = tt

  pub refused_as : IfErr r (IsFaultRefusal (IsFirstFault partition commits)) → IfErr r (IsFitsRefusal (Unfit held partition commits))
  refused_as is = on_err r is
    where
      on_err : (r : Result V TargetError) → IfErr r (IsFaultRefusal (IsFirstFault partition commits)) → IfErr r (IsFitsRefusal (Unfit held partition commits))
      on_err (Ok v) is = tt
      on_err (Err e) is = refusal_of (IsFirstFault partition commits) (Unfit held partition commits) e (λ feature path first. fault feature path few alike first) is
