-- What fits an Iceberg target: no commits, and of a list that fits the first commit and, behind it, the rest.
use Rattle.std.proofs.Common.{◌≡◌, ◌⊎◌, inl, inr, ⊎_elim, ℕ, ◌<◌, List, [], ◌∷◌, length, refl, arith}
use Rattle.lake_basics.specs.declared.limits.TheConstants.{MAX_PUBLISHED_COMMITS}
use Rattle.table_history.specs.declared.feature.Feature.TheVariants.{PartitionChange, TypeChange}
use Rattle.table_history.specs.declared.limit.LimitKind.TheVariants.{Publish}
use Rattle.table_history.specs.declared.table.Commit.{Commit}
use Rattle.target_core.specs.Conditions.{Fits}
use Rattle.target_core.specs.declared.target.TargetError.{TargetError}
use Rattle.target_core.specs.declared.target.TargetError.TheVariants.{Limit, Unsupported}
use Rattle.target_core.proofs.Texts.{texts_cases}
use Rattle.target_iceberg.specs.Fitting.{ChangesKinds, ChangesPartition, HasTypeChange, HeldState, IsFirstChange, Unfit, changes, many, state_behind}

-- ---- what a list that fits has not

module _ (state : HeldState) (partition : List (List ℕ)) (commits : List Commit) (fits : Fits (Unfit state) partition commits) where
  pub fits_few : MAX_PUBLISHED_COMMITS < length commits → ⊥
  fits_few is = fits.never (Limit Publish MAX_PUBLISHED_COMMITS) (many is)

  pub fits_alike : ChangesPartition state partition commits → ⊥
  fits_alike is = fits.never (Unsupported PartitionChange []) (changes fits_few is)

  pub fits_types : (name : List ℕ) → IsFirstChange state commits name → ⊥
  fits_types name is = fits.never (Unsupported TypeChange name) (Unfit.type name fits_few fits_alike is)

pub fits_by : (state : HeldState) (partition : List (List ℕ)) (commits : List Commit) → (MAX_PUBLISHED_COMMITS < length commits → ⊥) → (ChangesPartition state partition commits → ⊥)
    → ((name : List ℕ) → IsFirstChange state commits name → ⊥) → (e : TargetError) → Unfit state partition commits e → ⊥
fits_by state partition commits few alike types _ (Unfit.many is) = few is
fits_by state partition commits few alike types _ (Unfit.changes not_many is) = alike is
fits_by state partition commits few alike types _ (Unfit.type name not_many not_changed is) = types name is

-- ---- no commits, the first commit, and the rest

pub fits_none : (state : HeldState) (partition : List (List ℕ)) → Fits (Unfit state) partition []
fits_none state partition = record { never = fits_by state partition [] (λ is. absurd (omega (arith, is))) (λ is. absurd (is.0 refl)) (λ name never. never) }

pub fits_first : (state : HeldState) (partition : List (List ℕ)) (commit : Commit) (commits : List Commit) → Fits (Unfit state) partition (commit ∷ commits) → Fits (Unfit state) partition (commit ∷ [])
fits_first state partition commit commits fits = record {
  never = fits_by state partition (commit ∷ [])
      (λ is. absurd (omega (arith, is)))
      (λ is. fits_alike state partition (commit ∷ commits) fits
      (λ none. cc, ⊎_elim inl (λ (kinds : ChangesKinds state partition (commit ∷ [])). inr (⊎_elim inl (λ never. absurd never) kinds)) is.1))
      (λ name is. ⊎_elim
      (λ (here : HasTypeChange state commit name). fits_types state partition (commit ∷ commits) fits name (inl here))
      (λ later. later.1)
      is);
}

pub fits_rest : (state : HeldState) (commit : Commit) (commits : List Commit) → Fits (Unfit state) state.partition (commit ∷ commits) → Fits (Unfit (state_behind state commit)) state.partition commits
fits_rest state commit commits fits = record {
  never = fits_by (state_behind state commit) state.partition commits
      (λ is. fits_few state state.partition (commit ∷ commits) fits (omega (arith, is)))
      (λ is. fits_alike state state.partition (commit ∷ commits) fits (λ none. cc, ⊎_elim (λ left. absurd (left.1 refl)) (λ kinds. inr (inr kinds)) is.1))
      (λ name is. fits_types state state.partition (commit ∷ commits) fits name (inr (λ other here. fits_types state state.partition (commit ∷ commits) fits other (inl here), is)));
}

-- ---- the partition columns

pub fits_partition : (state : HeldState) (partition : List (List ℕ)) (commits : List Commit) → (commits ≡ [] → ⊥) → Fits (Unfit state) partition commits → 0 < state.version → state.partition ≡ partition
fits_partition state partition commits some fits published =
    ⊎_elim (λ same. same) (λ apart. absurd (fits_alike state partition commits fits (some, inl (published, apart)))) (texts_cases state.partition partition)
