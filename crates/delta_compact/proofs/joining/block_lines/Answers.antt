use Rattle.std.proofs.Common.{◌⊎◌, ◌<◌, ◌≤◌, inl, inr, refl, subst}
use Rattle.lake_basics.specs.declared.limits.TheConstants.{MAX_ACTIONS}
use Rattle.delta_compact.specs.Refusals.{HaveManyActions, IsUnjoined}
use Rattle.delta_compact.proofs.Joins.{cause_weaker, tells_among, unjoined_of}
use Rattle.delta_compact.proofs.joining.block_lines.Goals as goal

pub join_fault-requires-clause-among : goal.join_fault-requires-clause-among
join_fault-requires-clause-among c = tells_among c.args.commits.now 10 c.in-Err.error c.requires.count c.in-Err.ensures.refused

pub returns-in-Err-clause-refused : goal.returns-in-Err-clause-refused
returns-in-Err-clause-refused c =
    let commits = c.args.commits.now in
    cause_weaker (IsUnjoined c.args.block commits) (λ e. IsUnjoined c.args.block commits e ⊎ HaveManyActions commits e) (λ e h. inl h) c.join_fault.result
    (unjoined_of c.args.block commits c.in-Err.error c.join_fault.result c.in-Err.ensures.refused c.join_fault.ensures.told)

pub returns-then-count-gt-MAX_ACTIONS-clause-refused : goal.returns-then-count-gt-MAX_ACTIONS-clause-refused
returns-then-count-gt-MAX_ACTIONS-clause-refused c =
    let taken = c.in-Ok.ensures.taken in
    let is = c.file_count-count.ensures in
    let many = c.if-count-gt-MAX_ACTIONS.true in
    inr (record { said = taken.0; taken = taken.1; entries = c.in-Ok.lines; newest = c.in-Ok.ensures.newest; many = subst (λ n. MAX_ACTIONS < n) is many; told = refl })

pub returns-clause-few : goal.returns-clause-few
returns-clause-few c =
    let is = c.file_count-count.ensures in
    subst (λ n. n ≤ MAX_ACTIONS) is c.if-count-gt-MAX_ACTIONS.false
