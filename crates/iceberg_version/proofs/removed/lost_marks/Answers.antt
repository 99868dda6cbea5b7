use Rattle.std.proofs.Common.{◌≡◌, ◌+◌, ◌++◌, ◌∷◌, [], ℕ, Bool, Global, List, Some, Vec, ap, subst, sym, take, ◌∙◌}
use Rattle.std.proofs.lemmas.List.{take_all, take_more}
use Rattle.file_links.specs.Rows.{Finds, FindsEach, HoldsPath}
use Rattle.iceberg_version.specs.Removed.{MarksLost, is_marked}
use Rattle.iceberg_version.proofs.RemovedLemmas.{found, none_marked, not_found}
use Rattle.iceberg_version.proofs.removed.lost_marks.Goals.{in-Some+in_ok-mark, in_default}
use Rattle.iceberg_version.proofs.removed.lost_marks.Goals as goal

pub loop-path-init : goal.loop-path-init
loop-path-init c = none_marked c.args.links.now c.new-marks.result.items c.new-marks.ensures.items

pub loop-path-preserved : goal.loop-path-preserved
loop-path-preserved c =
    let path = c.path-item.result in
    let removed = take c.loop-path.path-index c.args.removed.now in
    let links = c.args.links.now in
    let now = take (c.loop-path.path-index + 1) c.args.removed.now in
    let bytes = c.as_bytes.ensures.value in
    let more : now ≡ removed ++ path ∷ [] = take_more c.args.removed.now c.loop-path.path-index path c.loop-path-test.true ∙ ap (λ (p : List ℕ). removed ++ p ∷ []) (sym c.path-item.is) in
    elim c.match-find.branch [
      | in-Some+in_ok-mark w ↦
          found links removed now path w.in-Some.slot c.loop-path.marks.items c.match-find.marks.items more
          (subst (λ (p : List ℕ). Finds links p (Some w.in-Some.slot)) bytes w.in-Some.ensures.found) (subst (λ (p : List ℕ). FindsEach links p (Some w.in-Some.slot)) bytes w.in-Some.ensures.each)
          (λ slot. ap (λ (v : Vec Bool Global). is_marked v.items slot) w.marks-is ∙ w.in_ok-mark.ensures slot) c.loop-path.invariant
      | in_default w ↦
          not_found links removed now path c.loop-path.marks.items c.match-find.marks.items more (subst (λ (p : List ℕ). ¬ HoldsPath links p) bytes w.in_default.ensures.found)
          (ap (λ (v : Vec Bool Global). v.items) w.marks-is) c.loop-path.invariant
    ]

pub returns : goal.returns
returns c = subst (λ (ps : List (List ℕ)). MarksLost c.args.links.now ps c.loop-path.marks.items) (take_all c.loop-path.path-index c.args.removed.now c.loop-path-test.false) c.loop-path.invariant
