-- The slots of removed rows, as they are marked one by one.
use Rattle.std.proofs.Common.{◌≡◌, ◌||◌, ℕ, Bool, false, List, [], ◌∷◌, ◌++◌, Some, nat_eq, sym, ap, subst, ◌∙◌}
use Rattle.std.proofs.Math.Bool.{or-false, or_comm}
use Rattle.std.proofs.lemmas.Bool.{false_from_ne_true}
use Rattle.std.proofs.lemmas.Bool.Decides.{Decides-eqb, same_from_decides}
use Rattle.std.proofs.lemmas.List.Folds.{list_any-append}
use Rattle.std.specs.Str.{bytes_eq}
use Rattle.file_links.specs.Rows.{Finds, FindsEach, Holds, HoldsPath, OwnedRows}
use Rattle.file_links.specs.declared.slots.Held.{Held}
use Rattle.iceberg_version.specs.Manifests.{is_lost}
use Rattle.iceberg_version.specs.Removed.{MarksLost, is_marked}
use Rattle.iceberg_version.proofs.AdvanceLemmas.{lost_decides}

pub none_marked : (links : OwnedRows) (marks : List Bool) → marks ≡ [] → MarksLost links [] marks
none_marked links marks none = λ slot held just. ap (λ (ms : List Bool). is_marked ms slot) none

lost_more : (removed more : List (List ℕ)) (path : List ℕ) (held : Held) → more ≡ removed ++ path ∷ [] → is_lost more held ≡ (is_lost removed held || is_lost (path ∷ []) held)
lost_more removed more path held is = ap (λ (ps : List (List ℕ)). is_lost ps held) is ∙ list_any-append (bytes_eq held.row.path) removed (path ∷ [])

pub not_found : (links : OwnedRows) (removed more : List (List ℕ)) (path : List ℕ) (marks after : List Bool) → more ≡ removed ++ path ∷ [] → ¬ HoldsPath links path → after ≡ marks → MarksLost links removed marks → MarksLost links more after
not_found links removed more path marks after is lacking same before = λ slot held just.
    let other : is_lost (path ∷ []) held ≡ false = false_from_ne_true (is_lost (path ∷ []) held) (λ lost. lacking (slot, held, just.row, (lost_decides path held).0 lost)) in
    ap (λ (ms : List Bool). is_marked ms slot) same ∙ before slot held just ∙ sym (lost_more removed more path held is ∙ ap (λ b. is_lost removed held || b) other ∙ or-false (is_lost removed held))

pub found : (links : OwnedRows) (removed more : List (List ℕ)) (path : List ℕ) (at : ℕ) (marks after : List Bool) → more ≡ removed ++ path ∷ [] → Finds links path (Some at) → FindsEach links path (Some at) → ((slot : ℕ) → is_marked after slot ≡ (nat_eq slot at || is_marked marks slot)) → MarksLost links removed marks → MarksLost links more after
found links removed more path at marks after is finds each marks_it before = λ slot held just.
    let here : nat_eq slot at ≡ is_lost (path ∷ []) held = same_from_decides (nat_eq slot at) (is_lost (path ∷ []) held) (
      λ same.
          let mine : finds.0 ≡ held = just.only finds.0 (subst (λ (s : ℕ). Holds links s finds.0) (sym ((Decides-eqb slot at).0 same)) finds.1) in
          ap (λ (h : Held). h.row.path) (sym mine) ∙ finds.2,
      λ path_is.
          let slots : Some at ≡ Some slot = each slot held just.row path_is in
          let same : slot ≡ at = cc in
          (Decides-eqb slot at).1 same,
    )
    (lost_decides path held) in
    marks_it slot ∙ ap (λ b. b || is_marked marks slot) here ∙ ap (λ b. is_lost (path ∷ []) held || b) (before slot held just) ∙ or_comm (is_lost (path ∷ []) held) (is_lost removed held) ∙ sym (lost_more removed more path held is)
