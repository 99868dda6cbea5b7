use Rattle.std.proofs.Common.{map}
use Rattle.std.specs.List.{zip}
use Rattle.std.proofs.lemmas.Result.{IfOk-weaker}
use Rattle.hudi_files.specs.Values.{with_values}
use Rattle.hudi_files.proofs.FolderLemmas.{have_inside}
use Rattle.hudi_files.proofs.rows.values_in_folders.Goals as goal

pub returns-clause-inside : goal.returns-clause-inside
returns-clause-inside c =
    IfOk-weaker c.all_values-values.result _ _
    (λ values h. have_inside c.args.style c.args.names.now c.args.kinds.now c.args.files.now (map with_values (zip c.args.files.now values.items)) h)
    c.all_values-values.ensures.ok
