use Rattle.std.proofs.Common.{◌≤◌, ◌-◌, ◌+◌, length, subst}
use Rattle.lake_basics.specs.declared.limits.TheConstants.{MAX_LIVE_FILES}
use Rattle.iceberg_change.proofs.behind.change_within.Goals as goal

pub returns-clause-within : goal.returns-clause-within
returns-clause-within c = subst (λ n. (c.args.count - n) + length c.args.came.now.rows ≤ MAX_LIVE_FILES) c.len.ensures.len (subst (λ n. (c.args.count - c.len.result) + n ≤ MAX_LIVE_FILES) c.len-2.ensures.len (c.is_within.ensures c.if-not-is_within.false))
