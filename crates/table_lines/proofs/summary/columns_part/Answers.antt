use Rattle.std.proofs.Common.{◌≡◌, sym, ap, ◌∙◌, length, rules}
use Rattle.table_lines.specs.TableLines.{width}
use Rattle.table_lines.proofs.Widths.{width_is}
use Rattle.table_lines.proofs.summary.columns_part.Goals as goal

pub returns : goal.returns
returns c =
    let wide : width c.args.table.now.schema ≡ length c.columns.result.now = ap width (sym c.columns.ensures) ∙ width_is c.columns.result.now in
    rw wide (search rules)
