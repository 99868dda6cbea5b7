use Rattle.std.proofs.Common.{◌≡◌, ◌+◌, ◌++◌, ◌∷◌, [], ℕ, List, Some, ap, subst, sym, take, ◌∙◌}
use Rattle.std.proofs.lemmas.List.{take_all, take_more}
use Rattle.file_links.specs.Rows.{Finds, FindsEach, HoldsPath, OwnedRows}
use Rattle.iceberg_version.specs.Advance.{LosesPaths}
use Rattle.iceberg_version.proofs.AdvanceLemmas.{loses_found, loses_more, loses_none, loses_unfound}
use Rattle.iceberg_version.proofs.advancing.unlink_all.Goals.{in-Some, in_default}
use Rattle.iceberg_version.proofs.advancing.unlink_all.Goals as goal

pub loop-path-init : goal.loop-path-init
loop-path-init c = loses_none c.args.links.now

pub unlink-requires : goal.unlink-requires
unlink-requires c = (c.in-Some.ensures.found.0, c.in-Some.ensures.found.1)

pub loop-path-preserved : goal.loop-path-preserved
loop-path-preserved c =
    let path : List ℕ = c.path-item.result in
    let i : ℕ = c.loop-path.path-index in
    let removed : List (List ℕ) = c.args.removed.now in
    let v : OwnedRows = c.args.links.now in
    let w : OwnedRows = c.loop-path.links in
    let bytes = c.as_bytes.ensures.value in
    let more : take (i + 1) removed ≡ take i removed ++ path ∷ [] = take_more removed i path c.loop-path-test.true ∙ ap (λ (p : List ℕ). take i removed ++ p ∷ []) (sym c.path-item.is) in
    elim c.match-find.branch [
      | in-Some b ↦
          subst (λ (after : OwnedRows). LosesPaths (take (i + 1) removed) v after) (sym b.links-is)
          (loses_more (take i removed) (take (i + 1) removed) path v w b.unlink.new.self more
          (loses_found w b.unlink.new.self path b.in-Some.slot b.unlink.result
          (subst (λ (p : List ℕ). Finds w p (Some b.in-Some.slot)) bytes b.in-Some.ensures.found) (subst (λ (p : List ℕ). FindsEach w p (Some b.in-Some.slot)) bytes b.in-Some.ensures.each)
          b.unlink.ensures.row b.unlink.ensures.rest)
          c.loop-path.invariant)
      | in_default b ↦
          subst (λ (after : OwnedRows). LosesPaths (take (i + 1) removed) v after) (sym b.links-is)
          (loses_more (take i removed) (take (i + 1) removed) path v w w more
          (loses_unfound w path (subst (λ (p : List ℕ). ¬ HoldsPath w p) bytes b.in_default.ensures.found)) c.loop-path.invariant)
    ]

pub returns : goal.returns
returns c = subst (λ (ps : List (List ℕ)). LosesPaths ps c.args.links.now c.loop-path.links) (take_all c.loop-path.path-index c.args.removed.now c.loop-path-test.false) c.loop-path.invariant
