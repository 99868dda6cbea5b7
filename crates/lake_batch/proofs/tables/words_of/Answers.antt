use Rattle.std.proofs.Common.{◌++◌, ◌∷◌, [], List, ℕ, map, ◌∙◌, ap}
use Rattle.std.specs.Prelude.{string_bytes}
use Rattle.std.proofs.lemmas.List.{take_all}
use Rattle.lake_batch.proofs.TopLaws.{words_more}
use Rattle.lake_batch.proofs.tables.words_of.Goals as goal

pub loop-word-init : goal.loop-word-init
loop-word-init c =
    let both = c.in_ok-push.ensures.items ∙ ap (λ l. l ++ c.in_ok-place_in.field-0 ∷ []) c.new-words.ensures.items in
    ap (map string_bytes) both ∙ ap (λ (text : List ℕ). text ∷ []) c.in_ok-place_in.ensures

pub loop-word-preserved : goal.loop-word-preserved
loop-word-preserved c =
    ap (map string_bytes) c.in_ok-push-2.ensures.items
    ∙ words_more (c.args.place.now ++ 47 ∷ c.args.item.now.folder) c.loop-word.words.items c.in_ok-from_str.field-0 c.as_slice-word-items.result.now c.loop-word.word-index c.word-item.result c.loop-word-test.true
    (c.in_ok-from_str.ensures.ok ∙ c.as_str.ensures.value ∙ c.word-item.is) c.loop-word.invariant

pub returns : goal.returns
returns c =
    c.loop-word.invariant
    ∙ ap (λ (l : List (List ℕ)). (c.args.place.now ++ 47 ∷ c.args.item.now.folder) ∷ l) (take_all c.loop-word.word-index c.as_slice-word-items.result.now c.loop-word-test.false ∙ c.as_slice-word-items.ensures)
