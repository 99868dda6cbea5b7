use Rattle.std.proofs.Common.{rules, ℕ, List}
use Rattle.std.proofs.lemmas.List.Sorted.{answers_always, length_permutation}
use Rattle.hudi_groups.specs.Group.{joined}
use Rattle.hudi_instant.specs.InstantText.{replaced_cmp}
use Rattle.target_hudi.proofs.OrderLemmas.{ids_tied, replaced_below, replaced_below-order, replaced_total, rises}
use Rattle.target_hudi.proofs.replaced.sorted_ids.Goals as goal

pub returns-clause-order : goal.returns-clause-order
returns-clause-order c =
    rises replaced_cmp replaced_total (λ (p : List ℕ × List ℕ). joined p.0 p.1) ids_tied c.args.ids.items c.sort_by.new.self.items c.in_ok-sort_by.ensures.permutation c.requires
    (c.in_ok-sort_by.ensures.sorted replaced_below replaced_below-order (answers_always _ _ _ (λ f a r f' h. search rules)))

pub returns-clause-sorted : goal.returns-clause-sorted
returns-clause-sorted c = c.in_ok-sort_by.ensures.sorted replaced_below replaced_below-order (answers_always _ _ _ (λ f a r f' h. search rules))

pub returns-clause-len : goal.returns-clause-len
returns-clause-len c = length_permutation _ _ c.in_ok-sort_by.ensures.permutation
