-- The history since a target's mark.
use Rattle.std.proofs.Common.{◌≡◌, ℕ, List, Option, Some, None, refl, sym, ap, ◌∙◌}
use Rattle.lake_store.specs.Disk.{Files}
use Rattle.target_core.specs.Views.{IsUnpublished, Standing, View}
use Rattle.target_sync.specs.Dues.{IsIdBehind, IsMarked, IsWhole}
use Rattle.target_sync.specs.Plans.{id_or, marked_id}
use Rattle.target_sync.specs.Sources.{SourceMeaning}

pub one_standing : (view : View) (a b : Standing) → view.mark ≡ Some a → view.mark ≡ Some b → a ≡ b
one_standing view a b is other = let same : ◌≡◌ {A = Option Standing} (Some a) (Some b) = sym is ∙ other in cc same

pub not_marked : (view : View) (P : Standing → Type 0) → view.mark ≡ None → IsMarked view P → ⊥
not_marked view P none marked = let same : ◌≡◌ {A = Option Standing} None (Some marked.0) = sym none ∙ marked.1 in cc same

pub unmarked : (view : View) → IsUnpublished view → view.mark ≡ None
unmarked view none = ap (λ (v : View). v.mark) none

-- the id that marks state where the history is whole
pub id_whole : (source : SourceMeaning) (files : Files) (view : View) (stated : Option (List ℕ)) → IsMarked view (IsWhole source files) → IsIdBehind source files view stated (id_or stated (marked_id view.mark))
id_whole source files view (Some id) whole = refl
id_whole source files view None whole = (λ standing marked other. ap marked_id marked, λ never. absurd (never whole))
