use Rattle.std.proofs.Common.{◌++◌, ap, ◌∙◌}
use Rattle.iceberg_table.specs.Tables.{rows_in}
use Rattle.iceberg_change.specs.declared.joining.Joining.{Joining}
use Rattle.iceberg_change.proofs.JoiningLaws.{joins_new}
use Rattle.iceberg_change.proofs.joining.Joining.put_new.Goals as goal

pub returns-clause-joined : goal.returns-clause-joined
returns-clause-joined c = λ columns rows fit is.
    let old = c.args.self.now in
    let mid : Joining = record { held = old.held; manifests = old.manifests; counted = old.counted; came = c.push_rows.new.rows } in
    let put = c.put.ensures in
    joins_new columns rows old mid c.put.new.self c.args.manifest c.put.result put.manifests put.held put.came
    (c.in_ok-push_rows.ensures ∙ ap (λ l. old.came.items ++ rows_in l) c.as_slice.ensures)
    (put.counts is.counts) fit is
