use Rattle.std.proofs.Common.{ap}
use Rattle.table_history.specs.Row.{Row}
use Rattle.target_hudi.proofs.StatLemmas.{sound_stat}
use Rattle.target_hudi.proofs.stats.stat_of.Goals as goal

pub returns-clause-sound : goal.returns-clause-sound
returns-clause-sound c =
    sound_stat c.args.instant.now c.args.row.now c.row.inside.path _ (ap (λ (r : Row). r.path) c.row.view_is) c.in_ok-stat_path.ensures c.row.invariant.0 c.row.invariant.1
