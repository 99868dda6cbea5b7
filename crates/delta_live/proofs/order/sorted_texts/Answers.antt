use Rattle.std.proofs.Common.{rules}
use Rattle.std.proofs.lemmas.List.Sorted.{answers_always}
use Rattle.delta_live.proofs.OrderedLemmas.{text_below, text_below-order, texts_rise}
use Rattle.delta_live.proofs.order.sorted_texts.Goals as goal

pub returns-clause-order : goal.returns-clause-order
returns-clause-order c =
    texts_rise c.args.texts.items c.sort_by.new.self.items c.in_ok-sort_by.ensures.permutation c.requires (c.in_ok-sort_by.ensures.sorted text_below text_below-order (answers_always _ _ _ (λ f a r f' h. search rules)))
