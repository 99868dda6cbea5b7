use Rattle.std.proofs.Common.{rules}
use Rattle.std.proofs.lemmas.List.Sorted.{answers_always, length_permutation}
use Rattle.hudi_instant.specs.InstantText.{stat_cmp}
use Rattle.hudi_instant.specs.declared.instant.Stat.{Stat}
use Rattle.target_hudi.proofs.OrderLemmas.{rises, stat_below, stat_below-order, stat_total, stats_tied}
use Rattle.target_hudi.proofs.stats.sorted_stats.Goals as goal

pub returns-clause-order : goal.returns-clause-order
returns-clause-order c =
    rises stat_cmp stat_total (λ (s : Stat). s.path) stats_tied c.args.stats.items c.sort_by.new.self.items c.in_ok-sort_by.ensures.permutation c.requires
    (c.in_ok-sort_by.ensures.sorted stat_below stat_below-order (answers_always _ _ _ (λ f a r f' h. search rules)))

pub returns-clause-sorted : goal.returns-clause-sorted
returns-clause-sorted c = c.in_ok-sort_by.ensures.sorted stat_below stat_below-order (answers_always _ _ _ (λ f a r f' h. search rules))

pub returns-clause-len : goal.returns-clause-len
returns-clause-len c = length_permutation _ _ c.in_ok-sort_by.ensures.permutation
