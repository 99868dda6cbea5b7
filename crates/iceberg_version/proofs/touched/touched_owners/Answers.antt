use Rattle.std.proofs.Common.{◌≡◌, ◌+◌, ◌++◌, ◌∷◌, [], ℕ, BuildHasherDefault, FoldHasher, HashSet, List, Some, ap, subst, sym, take, ◌∙◌}
use Rattle.std.proofs.lemmas.List.{take_all, take_more}
use Rattle.file_links.specs.Rows.{Finds, FindsEach, HoldsPath}
use Rattle.iceberg_version.proofs.TouchedLemmas.{AreTouchedBy, found, none_touched, not_found}
use Rattle.iceberg_version.proofs.touched.touched_owners.Goals.{in-Some+in_ok-insert, in_default}
use Rattle.iceberg_version.proofs.touched.touched_owners.Goals as goal

pub loop-path-init : goal.loop-path-init
loop-path-init c = none_touched c.args.links.now c.new-owners.result.keys c.new-owners.ensures.empty

pub owner_of-requires : goal.owner_of-requires
owner_of-requires c = (c.in-Some.ensures.found.0, c.in-Some.ensures.found.1)

pub loop-path-preserved : goal.loop-path-preserved
loop-path-preserved c =
    let path = c.path-item.result in
    let removed = take c.loop-path.path-index c.args.removed.now in
    let links = c.args.links.now in
    let now = take (c.loop-path.path-index + 1) c.args.removed.now in
    let bytes = c.as_bytes.ensures.value in
    let more : take (c.loop-path.path-index + 1) c.args.removed.now ≡ removed ++ path ∷ [] = take_more c.args.removed.now c.loop-path.path-index path c.loop-path-test.true ∙ ap (λ (p : List ℕ). removed ++ p ∷ []) (sym c.path-item.is) in
    elim c.match-find.branch [
      | in-Some+in_ok-insert w ↦
          found links removed now path w.in-Some.slot w.owner_of.result c.loop-path.owners.keys c.match-find.owners.keys more
          (subst (λ (p : List ℕ). Finds links p (Some w.in-Some.slot)) bytes w.in-Some.ensures.found) (subst (λ (p : List ℕ). FindsEach links p (Some w.in-Some.slot)) bytes w.in-Some.ensures.each)
          w.owner_of.ensures (ap (λ (s : HashSet ℕ (BuildHasherDefault FoldHasher)). s.keys) w.owners-is ∙ w.in_ok-insert.ensures.keys) c.loop-path.invariant
      | in_default w ↦
          not_found links removed now path c.loop-path.owners.keys c.match-find.owners.keys more (subst (λ (p : List ℕ). ¬ HoldsPath links p) bytes w.in_default.ensures.found)
          (ap (λ (s : HashSet ℕ (BuildHasherDefault FoldHasher)). s.keys) w.owners-is) c.loop-path.invariant
    ]

pub returns : goal.returns
returns c = subst (λ (ps : List (List ℕ)). AreTouchedBy c.args.links.now ps c.loop-path.owners.keys) (take_all c.loop-path.path-index c.args.removed.now c.loop-path-test.false) c.loop-path.invariant
