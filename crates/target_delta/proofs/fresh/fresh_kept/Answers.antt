use Rattle.std.proofs.Common.{ap, refl, None}
use Rattle.table_history.specs.declared.table.Table.{Table}
use Rattle.target_core.specs.Views.{View}
use Rattle.target_delta.specs.KeptLemmas.{fresh_stands}
use Rattle.target_delta.proofs.fresh.fresh_kept.Goals as goal

pub returns-clause-stands : goal.returns-clause-stands
returns-clause-stands c =
    fresh_stands c.args.id.now _ c.args.partition.now (ap (λ (t : Table). let v : View = record { commits = 0; mark = None; table = t } in v) c.in_ok-empty.ensures) c.in_ok-id.ensures refl
