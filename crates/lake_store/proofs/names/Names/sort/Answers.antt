use Rattle.lake_store.proofs.OrderLaws.{same_members, sorted_once}
use Rattle.lake_store.proofs.names.Names.sort.Goals as goal

pub invariant_of-result : goal.invariant_of-result
invariant_of-result c = sorted_once c.args.content.items c.sort_unstable.new.self.items c.dedup.new.self.items c.sort_unstable.ensures.permutation c.dedup.ensures.filtered c.sort_unstable.ensures.sorted

pub returns : goal.returns
returns c = same_members c.args.content.items c.sort_unstable.new.self.items c.dedup.new.self.items c.sort_unstable.ensures.permutation c.dedup.ensures.filtered
