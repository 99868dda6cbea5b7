use Rattle.std.proofs.Common.{IfErr, sym, ap, subst, ◌∙◌}
use Rattle.hudi_groups.specs.Files.{suffix_of}
use Rattle.hudi_files.specs.Stats.{name_fault}
use Rattle.hudi_files.specs.FileFaults.{OnlyFeature, IsFolderFault}
use Rattle.hudi_files.specs.Values.{style_of}
use Rattle.hudi_files.proofs.StatLemmas.{folders_only}
use Rattle.hudi_files.proofs.rows.rows_of.Goals as goal

pub returns-clause-refused : goal.returns-clause-refused
returns-clause-refused c =
    folders_only (name_fault c.args.form.now (suffix_of c.args.form.now) c.args.stats.now) (style_of c.args.table.now) c.args.table.now.partition c.args.kinds.now c.args.files c.rows_in_folders.result
    (sym (c.name_fault.ensures ∙ ap (λ suffix. name_fault c.args.form.now suffix c.args.stats.now) (c.as_slice.ensures.value ∙ c.in_ok-suffix.ensures)) ∙ c.in_default.is)
    (subst (λ style. IfErr c.rows_in_folders.result (OnlyFeature (IsFolderFault style c.args.table.now.partition c.args.kinds.now c.args.files))) c.style_of.ensures
    (subst (λ names. IfErr c.rows_in_folders.result (OnlyFeature (IsFolderFault c.style_of.result names c.args.kinds.now c.args.files))) c.as_slice-2.ensures c.rows_in_folders.ensures.refused))
