use Rattle.std.proofs.Common.{sym, ◌∙◌}
use Rattle.iceberg_ancestry.proofs.AncestryLemmas.{cycle_found, no_cycle}
use Rattle.iceberg_ancestry.proofs.ancestors.ancestry.Goals as goal

pub returns-then-is_held_at-clause-malformed : goal.returns-then-is_held_at-clause-malformed
returns-then-is_held_at-clause-malformed c = λ _.
    cycle_found c.args.metadata.now c.as_slice-snapshots.result.now c.in_ok-ancestors.ancestors c.in_ok-ancestors.next c.as_slice-snapshots.ensures
    c.in_ok-ancestors.ensures.chain c.in_ok-ancestors.ensures.stops (sym c.is_held_at.ensures ∙ c.if-is_held_at.true)

pub returns-clause-refused : goal.returns-clause-refused
returns-clause-refused c =
    no_cycle c.args.metadata.now c.as_slice-snapshots.result.now c.in_ok-ancestors.ancestors c.in_ok-ancestors.next c.as_slice-snapshots.ensures
    c.in_ok-ancestors.ensures.chain (sym c.is_held_at.ensures ∙ c.if-is_held_at.false)
