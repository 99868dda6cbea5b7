use Rattle.std.proofs.Common.{ℕ, List, ap, subst}
use Rattle.std.specs.Prelude.{string_bytes}
use Rattle.lake_store.specs.Memory.{disk_of}
use Rattle.table_history.specs.Row.{Row}
use Rattle.table_history.specs.declared.kind.Kind.{Kind}
use Rattle.table_history.specs.declared.table.Table.{Table}
use Rattle.lake_play.specs.Drilled.{TellsOf}
use Rattle.lake_play.specs.Lines.{target_line}
use Rattle.lake_play.proofs.Looking.{same_marked, tells_view}
use Rattle.lake_play.proofs.drilling.line_of.Goals as goal

pub returns-in-Ok-target_line-clause-line : goal.returns-in-Ok-target_line-clause-line
returns-in-Ok-target_line-clause-line g c view reads =
    let target = g.T.Target in
    let t = c.args.target.now in
    let files = (disk_of c.args.store.now).files in
    let held = target.view t c.in-Ok.kept in
    let read = c.in-Ok.ensures.view in
    let text = string_bytes c.in-Ok-target_line.line in
    let same = same_marked held view read.1 (g.met.T.Target.one_view t files held view read.0 reads) in
    tells_view (target.kind t) held view text same
    (subst (λ (rows : List Row). TellsOf (target_line (target.kind t) held.commits) rows text) (ap (λ (table : Table). table.rows) c.table.ensures)
    (subst (λ (n : ℕ). TellsOf (target_line (target.kind t) n) c.table.result.now.rows text) c.commits.ensures
    (subst (λ (k : Kind). TellsOf (target_line k c.commits.result) c.table.result.now.rows text) c.kind.ensures c.in-Ok-target_line.ensures)))
