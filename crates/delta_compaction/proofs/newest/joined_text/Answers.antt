use Rattle.std.proofs.Common.{rules, ◌≡◌, ℕ, List, map, Bor, ◌∙◌}
use Rattle.std.specs.Map.{values_of}
use Rattle.std.proofs.lemmas.Map.Iter.{iter_end}
use Rattle.delta_compaction.proofs.KeyLemmas.{text_more, text_whole}
use Rattle.delta_compaction.proofs.newest.joined_text.Goals as goal

pub loop-line-init : goal.loop-line-init
loop-line-init c = c.new-text.ensures.items

pub loop-line-preserved : goal.loop-line-preserved
loop-line-preserved c = text_more c.loop-line.yielded c.in-Some.line _ _ _ c.loop-line.invariant c.in_ok-extend_from_slice.ensures.items c.in_ok-push.ensures.items

pub returns : goal.returns
returns c =
    let shown : map (λ (v : Bor (Bor (List ℕ))). v.now) c.loop-line.yielded ≡ values_of c.args.lines.now.entries = search (rules, iter_end) in
    c.from_vec.ensures ∙ text_whole c.loop-line.yielded c.args.lines.now.entries _ shown c.loop-line.invariant
