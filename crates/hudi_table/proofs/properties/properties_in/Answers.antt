use Rattle.std.proofs.Common.{◌≡◌, ◌⊎◌, sym, subst, IfErr, Result}
use Rattle.std.proofs.lemmas.Result.{err_from_is_err_and}
use Rattle.hudi_names.specs.declared.error.HudiError.{HudiError}
use Rattle.hudi_names.specs.declared.error.HudiError.TheVariants.{Memory}
use Rattle.hudi_table.specs.Files.{HasFault}
use Rattle.hudi_table.specs.declared.properties.Properties.{Properties}
use Rattle.hudi_table.proofs.FileLaws.{table_refused}
use Rattle.hudi_table.proofs.properties.properties_in.Goals as goal

pub returns-in_err-table-clause-refused : goal.returns-in_err-table-clause-refused
returns-in_err-table-clause-refused c =
    let exit = err_from_is_err_and c.from_residual-in_err-table.result c.from_residual-in_err-table.ensures.1 in
    let refused = table_refused c.args.bytes.now c.in_ok-pairs.pairs c.in_err-table.field-0.0 c.in_ok-pairs.ensures.exact c.in_err-table.ensures.exact in
    subst (λ (r : Result Properties HudiError). IfErr r (λ e. (e ≡ Memory) ⊎ HasFault c.args.bytes.now e)) (sym exit.1)
    (subst (λ (e : HudiError). (e ≡ Memory) ⊎ HasFault c.args.bytes.now e) (sym exit.2) refused)
