use Rattle.hudi_groups.proofs.grouped_table.GroupedTable.with_owned_change.Goals as goal

pub invariant_of-result : goal.invariant_of-result
invariant_of-result c = c.in_ok-next.ensures c.self.inside.table c.apply_owned.new.self c.self.invariant c.in_ok-apply_owned.ensures.ok
