-- What inspecting a target finds that was brought to a Delta source.
use Rattle.std.proofs.Common.{◌≡◌, ◌⊎◌, inl, inr, ℕ, List, [], None, refl, ap, subst, ◌∙◌}
use Rattle.table_history.specs.declared.kind.Kind.{Kind}
use Rattle.table_history.specs.declared.kind.Kind.TheVariants.{Delta}
use Rattle.table_history.specs.declared.limit.LimitKind.{LimitKind}
use Rattle.target_core.specs.Refusals.{IsInspectRefusal}
use Rattle.target_core.specs.SeenView.{IsSeen}
use Rattle.target_core.specs.Views.{IsOfSource, IsUnpublished, SameView, View, absent}
use Rattle.target_core.specs.declared.target.Seen.{Seen}
use Rattle.target_core.specs.declared.target.Seen.TheVariants.{Absent, Ours, Foreign}
use Rattle.target_core.specs.declared.target.TargetError.{TargetError}
use Rattle.target_core.specs.declared.target.TargetError.TheVariants as target_error
use Rattle.target_sync.specs.Applied.{status_of_target}
use Rattle.target_sync.specs.declared.status.Status.{Status}
use Rattle.lake_play.specs.Drilled.{IsLookEnd, TellsOf}
use Rattle.lake_play.specs.Lines.{target_line}

-- a view with a mark isn't that of a target without a commit
unpublished_unmarked : (view : View) → IsUnpublished view → IsOfSource Delta view → ⊥
unpublished_unmarked view none of = let no : view.mark ≡ None = ap (λ (v : View). v.mark) none in let mark = of.1 in cc

-- what reads the same files is the same view, where one has a mark
pub same_marked : (v w : View) → IsOfSource Delta v → SameView v w ⊎ (IsUnpublished v × IsUnpublished w) → SameView v w
same_marked v w of (inl same) = same
same_marked v w of (inr both) = absurd (unpublished_unmarked v both.0 of)

never_absent : (v w : View) → IsOfSource Delta v → IsUnpublished w → SameView v w ⊎ (IsUnpublished v × IsUnpublished w) → ⊥
never_absent v w of none (inl same) = let no : w.mark ≡ None = ap (λ (x : View). x.mark) none in let mark = of.1 in let marks = same.mark in cc
never_absent v w of none (inr both) = unpublished_unmarked v both.0 of

-- what is seen of it is ours
module _ {K : Type 0} (reads : View → Type 0) (foreign : List ℕ → Type 0) (view : K → View) (stands : K → Type 0) (v : View) (read : reads v) (of : IsOfSource Delta v)
    (one : (w : View) → reads w → SameView v w ⊎ (IsUnpublished v × IsUnpublished w)) (none_foreign : (path : List ℕ) → foreign path → ⊥) where
  pub only_ours : (seen : Seen K) → IsSeen reads foreign view stands Delta seen → ((kept : K) → seen ≡ Ours kept → ⊥) → ⊥
  only_ours Absent is never = never_absent v (absent []) of refl (one (absent []) is)
  only_ours (Ours kept) is never = never kept refl
  only_ours (Foreign path) is never = none_foreign path is

pub seen_ours : {K : Type 0} (reads : View → Type 0) (foreign : List ℕ → Type 0) (view : K → View) (stands : K → Type 0) (seen : Seen K) (kept : K) → IsSeen reads foreign view stands Delta seen → seen ≡ Ours kept → stands kept × IsOfSource Delta (view kept)
seen_ours reads foreign view stands seen kept is same = subst (IsSeen reads foreign view stands Delta) same is

-- the line of one view is that of the other
pub tells_view : (kind : Kind) (w v : View) (text : List ℕ) → SameView w v → TellsOf (target_line kind w.commits) w.table.rows text → TellsOf (target_line kind v.commits) v.table.rows text
tells_view kind w v text same tells = (
  tells.0,
  tells.1,
  λ row. (λ there. (same.rows row).0 ((tells.2 row).0 there), λ there. (tells.2 row).1 ((same.rows row).1 there)),
  tells.3 ∙ ap (λ (n : ℕ). target_line kind n tells.0) same.commits,
)

-- why inspecting is refused by a store that never fails
pub look_end : (target : Kind) (is_crowded : LimitKind → ℕ → Type 0) (e : TargetError) (given : Status) → given ≡ status_of_target target e → IsInspectRefusal is_crowded e → (e ≡ target_error.StoreFault → ⊥) → IsLookEnd target is_crowded given
look_end target is_crowded target_error.Memory given is refusal works = inl is
look_end target is_crowded target_error.StoreFault given is refusal works = absurd (works refl)
look_end target is_crowded target_error.Contested given is refusal works = absurd refusal
look_end target is_crowded (target_error.Limit which n) given is refusal works = inr (which, n, is, refusal)
look_end target is_crowded (target_error.Unsupported feature path) given is refusal works = absurd refusal
