-- What fits a Hudi target: of a list that fits, the first commit and, behind it, the rest. No commits always fit.
use Rattle.std.proofs.Common.{◌≡◌, ◌≢◌, ◌⊎◌, inl, inr, ⊎_elim, ℕ, ◌<◌, List, [], ◌∷◌, length, Contains, Option, None, Some, refl, sym, ap, subst, ◌∙◌, arith}
use Rattle.std.proofs.lemmas.List.Elements.{Contains-append_right}
use Rattle.lake_basics.specs.declared.limits.TheConstants.{MAX_PUBLISHED_COMMITS}
use Rattle.table_history.specs.TypeTree.{ColumnTrees}
use Rattle.table_history.specs.declared.feature.Feature.{Feature}
use Rattle.table_history.specs.declared.feature.Feature.TheVariants.{PartitionChange}
use Rattle.table_history.specs.declared.limit.LimitKind.TheVariants.{Publish}
use Rattle.table_history.specs.declared.table.Commit.{Commit}
use Rattle.table_history.proofs.RowListLemmas.{Contains-none, Contains-head, Contains-tail, Contains-cases}
use Rattle.schema_map.specs.Image.{wide_columns}
use Rattle.target_core.specs.Conditions.{Fits}
use Rattle.target_core.specs.declared.target.TargetError.{TargetError}
use Rattle.target_core.specs.declared.target.TargetError.TheVariants.{Limit, Unsupported}
use Rattle.target_core.proofs.Texts.{texts_cases}
use Rattle.target_hudi.specs.Fitting.{ChangesKinds, ChangesPartition, HasNoFault, Held, IsFirstFault, Unfit, columns_behind, columns_of, kinds_of, many, changes, fault}
use Rattle.target_hudi.specs.WideLemmas.{wide_kind}
use Rattle.target_hudi.specs.Writing.{held_behind}

-- ---- the first commit with a fault

module _ (partition : List (List ℕ)) where
  pub behind_one : (commit : Commit) (commits : List Commit) (feature : Feature) (path : List ℕ) → HasNoFault partition commit → IsFirstFault partition commits feature path → IsFirstFault partition (commit ∷ commits) feature path
  behind_one commit commits feature path fine first = record {
    front = commit ∷ first.front;
    commit = first.commit;
    behind = first.behind;
    split = ap (λ (l : List Commit). commit ∷ l) first.split;
    fault = first.fault;
    none = λ other there. ⊎_elim (λ (same : commit ≡ other). subst (HasNoFault partition) same fine) (λ later. first.none other later) (Contains-cases commit first.front other there);
  }

  -- Where no commit is the first one with a fault, none has any.
  pub no_first : (commits : List Commit) → ((feature : Feature) (path : List ℕ) → IsFirstFault partition commits feature path → ⊥) → (commit : Commit) → Contains commits commit → HasNoFault partition commit
  no_first [] never commit there = absurd (Contains-none commit there)
  no_first (c ∷ commits) never commit there =
      let fine : HasNoFault partition c = λ feature path here. never feature path (record { front = []; commit = c; behind = commits; split = refl; fault = here; none = λ other within. absurd (Contains-none other within) }) in
      ⊎_elim
      (λ (same : c ≡ commit). subst (HasNoFault partition) same fine)
      (λ later. no_first commits (λ feature path first. never feature path (behind_one c commits feature path fine first)) commit later)
      (Contains-cases c commits commit there)

  first_there : (commits : List Commit) (feature : Feature) (path : List ℕ) (first : IsFirstFault partition commits feature path) → Contains commits first.commit
  first_there commits feature path first =
      subst (λ (l : List Commit). Contains l first.commit) (sym first.split) (Contains-append_right first.front (first.commit ∷ first.behind) first.commit (Contains-head first.commit first.behind))

-- ---- what a list that fits has not

module _ (held : Option Held) (partition : List (List ℕ)) (commits : List Commit) (fits : Fits (Unfit held) partition commits) where
  pub fits_few : MAX_PUBLISHED_COMMITS < length commits → ⊥
  fits_few is = fits.never (Limit Publish MAX_PUBLISHED_COMMITS) (many is)

  pub fits_alike : ChangesPartition held partition commits → ⊥
  fits_alike is = fits.never (Unsupported PartitionChange []) (changes fits_few is)

  pub fits_commits : (commit : Commit) → Contains commits commit → HasNoFault partition commit
  fits_commits = no_first partition commits (λ feature path first. fits.never (Unsupported feature path) (fault feature path fits_few fits_alike first))

pub fits_by : (held : Option Held) (partition : List (List ℕ)) (commits : List Commit) → (MAX_PUBLISHED_COMMITS < length commits → ⊥) → (ChangesPartition held partition commits → ⊥)
    → ((commit : Commit) → Contains commits commit → HasNoFault partition commit) → (e : TargetError) → Unfit held partition commits e → ⊥
fits_by held partition commits few alike fine _ (many is) = few is
fits_by held partition commits few alike fine _ (changes not_many is) = alike is
fits_by held partition commits few alike fine _ (fault feature path not_many not_changed first) = fine first.commit (first_there partition commits feature path first) feature path first.fault

-- ---- the first commit

one_of : (commit : Commit) (commits : List Commit) (other : Commit) → Contains (commit ∷ []) other → Contains (commit ∷ commits) other
one_of commit commits other there =
    ⊎_elim
    (λ (same : commit ≡ other). subst (Contains (commit ∷ commits)) same (Contains-head commit commits))
    (λ none. absurd (Contains-none other none))
    (Contains-cases commit [] other there)

pub fits_first : (held : Option Held) (partition : List (List ℕ)) (commit : Commit) (commits : List Commit) → Fits (Unfit held) partition (commit ∷ commits) → Fits (Unfit held) partition (commit ∷ [])
fits_first held partition commit commits fits = record {
  never = fits_by held partition (commit ∷ [])
      (λ is. absurd (omega (arith, is)))
      (λ is. fits_alike held partition (commit ∷ commits) fits
      (λ none. cc, ⊎_elim inl (λ (kinds : ChangesKinds (columns_of held) partition (commit ∷ [])). inr (⊎_elim inl (λ never. absurd never) kinds)) is.1))
      (λ other there. fits_commits held partition (commit ∷ commits) fits other (one_of commit commits other there));
}

-- ---- none

pub fits_none : (held : Option Held) (partition : List (List ℕ)) → Fits (Unfit held) partition []
fits_none held partition = record {
  never = fits_by held partition [] (λ is. absurd (omega (arith, is))) (λ is. is.0 refl) (λ other there. absurd (Contains-none other there));
}

-- ---- the rest

wide_kinds : (schema : ColumnTrees) (names : List (List ℕ)) → kinds_of (wide_columns schema) names ≡ kinds_of schema names
wide_kinds schema [] = refl
wide_kinds schema (name ∷ names) = λ i. wide_kind schema name i ∷ wide_kinds schema names i

module _ (partition : List (List ℕ)) where
  behind_alike : (a b o : Option ColumnTrees) (commits : List Commit) → (ChangesKinds a partition commits → ChangesKinds b partition commits)
      → ChangesKinds (columns_behind a o) partition commits → ChangesKinds (columns_behind b o) partition commits
  behind_alike a b None commits along h = along h
  behind_alike a b (Some stated) commits along h = h

  -- Columns of the same kinds are as good.
  kinds_alike : (a b : ColumnTrees) → kinds_of a partition ≡ kinds_of b partition → (commits : List Commit) → ChangesKinds (Some a) partition commits → ChangesKinds (Some b) partition commits
  kinds_alike a b same [] h = h
  kinds_alike a b same (commit ∷ commits) (inl (held, stated, is, states, apart)) =
      let here : a ≡ held = cc in
      inl (b, stated, refl, states, λ (other : kinds_of b partition ≡ kinds_of stated partition). apart (ap (λ (s : ColumnTrees). kinds_of s partition) (sym here) ∙ same ∙ other))
  kinds_alike a b same (commit ∷ commits) (inr later) = inr (behind_alike (Some a) (Some b) commit.change.schema commits (kinds_alike a b same commits) later)

no_kinds : (before : Option ColumnTrees) (commits : List Commit) → ChangesKinds before [] commits → ⊥
no_kinds before [] h = h
no_kinds before (commit ∷ commits) (inl (held, stated, is, states, apart)) = apart refl
no_kinds before (commit ∷ commits) (inr later) = no_kinds (columns_behind before commit.change.schema) commits later

module _ (columns : ColumnTrees) (partition : List (List ℕ)) (commits : List Commit) where
  from_held : (before stated : Option ColumnTrees) → (before ≡ Some columns) ⊎ (stated ≡ None → partition ≡ []) → ChangesKinds (Some (held_behind stated columns)) partition commits → ChangesKinds (columns_behind before stated) partition commits
  from_held before None (inl is) h = subst (λ (b : Option ColumnTrees). ChangesKinds b partition commits) (sym is) h
  from_held before None (inr none) h = absurd (no_kinds (Some columns) commits (subst (λ (names : List (List ℕ)). ChangesKinds (Some columns) names commits) (none refl) h))
  from_held before (Some stated) either h = kinds_alike partition (wide_columns stated) stated (wide_kinds stated partition) commits h

-- Behind the first commit of a list that fits the target has these partition columns, and its columns in Hudi's types; the rest fits it.
pub fits_rest : (held : Option Held) (columns : ColumnTrees) (partition : List (List ℕ)) (commit : Commit) (commits : List Commit) → (columns_of held ≡ Some columns) ⊎ (commit.change.schema ≡ None → partition ≡ [])
    → Fits (Unfit held) partition (commit ∷ commits) → Fits (Unfit (Some (record { partition = partition; columns = held_behind commit.change.schema columns }))) partition commits
fits_rest held columns partition commit commits either fits =
    let next : Held = record { partition = partition; columns = held_behind commit.change.schema columns } in
    record {
      never = fits_by (Some next) partition commits
          (λ is. fits_few held partition (commit ∷ commits) fits (omega (arith, is)))
          (λ is. fits_alike held partition (commit ∷ commits) fits (
            λ none. cc,
            ⊎_elim
                (λ (left : (target : Held) × (Some next ≡ Some target) × (target.partition ≢ partition)). let same : next ≡ left.0 = cc in absurd (left.2 (ap (λ (t : Held). t.partition) (sym same))))
                (λ (kinds : ChangesKinds (Some next.columns) partition commits). inr (inr (from_held columns partition commits (columns_of held) commit.change.schema either kinds)))
                is.1,
          ))
          (λ other there. fits_commits held partition (commit ∷ commits) fits other (Contains-tail commit commits other there));
    }

-- ---- the partition columns

pub fits_partition : (held : Option Held) (target : Held) (partition : List (List ℕ)) (commits : List Commit) → held ≡ Some target → (commits ≡ [] → ⊥) → Fits (Unfit held) partition commits → target.partition ≡ partition
fits_partition held target partition commits is some fits =
    ⊎_elim (λ same. same) (λ apart. absurd (fits_alike held partition commits fits (some, inl (target, is, apart)))) (texts_cases target.partition partition)
