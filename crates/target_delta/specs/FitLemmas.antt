-- What fits a Delta target: no commits, and of a list that fits the first commit and, behind it, the rest.
use Rattle.std.proofs.Common.{◌≡◌, ◌⊎◌, inl, inr, ⊎_elim, ℕ, ◌<◌, List, [], ◌∷◌, length, Contains, refl, sym, ap, subst, arith}
use Rattle.std.proofs.lemmas.List.{append-nil}
use Rattle.std.proofs.lemmas.List.Elements.{Contains-append_left, Contains-append_right}
use Rattle.lake_basics.specs.declared.limits.TheConstants.{MAX_PUBLISHED_COMMITS}
use Rattle.table_history.specs.Row.{Row}
use Rattle.table_history.specs.declared.feature.Feature.TheVariants.{PartitionChange, ValueForm}
use Rattle.table_history.specs.declared.limit.LimitKind.TheVariants.{Publish}
use Rattle.table_history.specs.declared.table.Commit.{Commit}
use Rattle.table_history.proofs.RowListLemmas.{Contains-none, Contains-head, Contains-cases}
use Rattle.target_core.specs.Conditions.{Fits}
use Rattle.target_core.specs.declared.target.TargetError.{TargetError}
use Rattle.target_core.specs.declared.target.TargetError.TheVariants.{Limit, Unsupported}
use Rattle.target_core.proofs.Texts.{texts_cases}
use Rattle.target_delta.specs.Fitting.{ChangesKinds, ChangesPartition, HasValueForm, IsFirstValueForm, Unfit, added_rows, many, changes, form}
use Rattle.target_delta.specs.Writing.{LogEnd, end_behind}

-- ---- the first of the rows

pub behind_one : (row : Row) (rows : List Row) (path : List ℕ) → (HasValueForm row → ⊥) → IsFirstValueForm rows path → IsFirstValueForm (row ∷ rows) path
behind_one row rows path fine first = record {
  front = row ∷ first.front;
  row = first.row;
  behind = first.behind;
  split = ap (λ (l : List Row). row ∷ l) first.split;
  here = first.here;
  none = λ other there. ⊎_elim (λ (same : row ≡ other). λ has. fine (subst HasValueForm (sym same) has)) (λ later. first.none other later) (Contains-cases row first.front other there);
  is = first.is;
}

-- Where there is no first row with such a value, there is none at all.
pub no_first : (rows : List Row) → ((path : List ℕ) → IsFirstValueForm rows path → ⊥) → (row : Row) → Contains rows row → HasValueForm row → ⊥
no_first [] never row there has = Contains-none row there
no_first (r ∷ rows) never row there has =
    let fine : HasValueForm r → ⊥ = λ here. never r.path (record { front = []; row = r; behind = rows; split = refl; here = here; none = λ other within. absurd (Contains-none other within); is = refl }) in
    ⊎_elim
    (λ (same : r ≡ row). fine (subst HasValueForm (sym same) has))
    (λ later. no_first rows (λ path first. never path (behind_one r rows path fine first)) row later has)
    (Contains-cases r rows row there)

first_there : (rows : List Row) (path : List ℕ) (first : IsFirstValueForm rows path) → Contains rows first.row
first_there rows path first =
    subst (λ (l : List Row). Contains l first.row) (sym first.split) (Contains-append_right first.front (first.row ∷ first.behind) first.row (Contains-head first.row first.behind))

-- ---- what a list that fits has not

module _ (end : LogEnd) (partition : List (List ℕ)) (commits : List Commit) (fits : Fits (Unfit end) partition commits) where
  pub fits_few : MAX_PUBLISHED_COMMITS < length commits → ⊥
  fits_few is = fits.never (Limit Publish MAX_PUBLISHED_COMMITS) (many is)

  pub fits_alike : ChangesPartition end partition commits → ⊥
  fits_alike is = fits.never (Unsupported PartitionChange []) (changes fits_few is)

  pub fits_rows : (row : Row) → Contains (added_rows commits) row → HasValueForm row → ⊥
  fits_rows = no_first (added_rows commits) (λ path first. fits.never (Unsupported ValueForm path) (form path fits_few fits_alike first))

pub fits_by : (end : LogEnd) (partition : List (List ℕ)) (commits : List Commit) → (MAX_PUBLISHED_COMMITS < length commits → ⊥) → (ChangesPartition end partition commits → ⊥)
    → ((row : Row) → Contains (added_rows commits) row → HasValueForm row → ⊥) → (e : TargetError) → Unfit end partition commits e → ⊥
fits_by end partition commits few alike rows _ (many is) = few is
fits_by end partition commits few alike rows _ (changes not_many is) = alike is
fits_by end partition commits few alike rows _ (form path not_many not_changed first) = rows first.row (first_there (added_rows commits) path first) first.here

-- ---- no commits, the first commit, and the rest

pub fits_first : (end : LogEnd) (partition : List (List ℕ)) (commit : Commit) (commits : List Commit) → Fits (Unfit end) partition (commit ∷ commits) → Fits (Unfit end) partition (commit ∷ [])
fits_first end partition commit commits fits = record {
  never = fits_by end partition (commit ∷ [])
      (λ is. absurd (omega (arith, is)))
      (λ is. fits_alike end partition (commit ∷ commits) fits
      (λ none. cc, ⊎_elim inl (λ (kinds : ChangesKinds end (commit ∷ [])). inr (⊎_elim inl (λ never. absurd never) kinds)) is.1))
      (λ row there. fits_rows end partition (commit ∷ commits) fits row (Contains-append_left commit.change.added (added_rows commits) row (subst (λ (l : List Row). Contains l row) (append-nil commit.change.added) there)));
}

pub fits_none : (end : LogEnd) (partition : List (List ℕ)) → Fits (Unfit end) partition []
fits_none end partition = record { never = fits_by end partition [] (λ is. absurd (omega (arith, is))) (λ is. absurd (is.0 refl)) (λ row there. absurd (Contains-none row there)) }

pub fits_rest : (end : LogEnd) (commit : Commit) (commits : List Commit) → Fits (Unfit end) end.partition (commit ∷ commits) → Fits (Unfit (end_behind end commit)) end.partition commits
fits_rest end commit commits fits = record {
  never = fits_by (end_behind end commit) end.partition commits
      (λ is. fits_few end end.partition (commit ∷ commits) fits (omega (arith, is)))
      (λ is. fits_alike end end.partition (commit ∷ commits) fits (λ none. cc, ⊎_elim (λ left. absurd (left.1 refl)) (λ kinds. inr (inr kinds)) is.1))
      (λ row there. fits_rows end end.partition (commit ∷ commits) fits row (Contains-append_right commit.change.added (added_rows commits) row there));
}

-- ---- the partition columns

pub fits_partition : (end : LogEnd) (partition : List (List ℕ)) (commits : List Commit) → (commits ≡ [] → ⊥) → Fits (Unfit end) partition commits → 0 < end.version → end.partition ≡ partition
fits_partition end partition commits some fits published =
    ⊎_elim (λ same. same) (λ apart. absurd (fits_alike end partition commits fits (some, inl (published, apart)))) (texts_cases end.partition partition)

pub unfit_same : (end other : LogEnd) (partition : List (List ℕ)) (commits : List Commit) (e : TargetError) → end ≡ other → Unfit end partition commits e → Unfit other partition commits e
unfit_same end other partition commits e same unfit = subst (λ (l : LogEnd). Unfit l partition commits e) same unfit
