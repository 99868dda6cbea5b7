use Rattle.std.proofs.Common.{length, refl, sym, ap, subst, ◌∙◌}
use Rattle.std.specs.Option.{option_copied}
use Rattle.std.proofs.lemmas.Result.{err_from_is_err_and}
use Rattle.lake_basics.specs.Outcome.{each, FailsUnlessMemory}
use Rattle.hudi_names.specs.Errors.{is_memory}
use Rattle.hudi_files.specs.Stats.{bare_row}
use Rattle.hudi_groups.specs.Files.{suffix_of}
use Rattle.hudi_timeline.specs.Causes.{rows_before}
use Rattle.hudi_timeline.specs.Live.{completed}
use Rattle.hudi_timeline.proofs.CauseLemmas.{stat_refusal, text_refusal, no_schema}
use Rattle.hudi_timeline.proofs.StepLemmas.{kinds_refused, kinds_counted, rows_refused, change_refused, found, live, goes_on}
use Rattle.hudi_timeline.proofs.change.change_of.Goals as goal

pub returns-in_err-files-clause-found : goal.returns-in_err-files-clause-found
returns-in_err-files-clause-found c = let p = err_from_is_err_and c.from_residual.result c.from_residual.ensures.1 in rw p.1 tt

pub returns-in_err-files-clause-live : goal.returns-in_err-files-clause-live
returns-in_err-files-clause-live c = let p = err_from_is_err_and c.from_residual.result c.from_residual.ensures.1 in rw p.1 tt

pub returns-in_err-files-clause-refused : goal.returns-in_err-files-clause-refused
returns-in_err-files-clause-refused c =
    let p = err_from_is_err_and c.from_residual.result c.from_residual.ensures.1 in
    rw (p.1, p.2) (stat_refusal (completed c.args.form.now c.args.instant.now) c.args.table.now (option_copied c.args.base) c.in_err-files.field-0.0
    (subst (λ l. FailsUnlessMemory (is_memory c.in_err-files.field-0.0) c.in_err-files.field-0.0 (each (bare_row (suffix_of c.args.form.now)) l)) c.as_slice-stats.ensures c.in_err-files.ensures))

pub returns-in_err-files-clause-goes_on : goal.returns-in_err-files-clause-goes_on
returns-in_err-files-clause-goes_on c = let p = err_from_is_err_and c.from_residual.result c.from_residual.ensures.1 in rw p.1 tt

pub returns-in_err-stated-clause-found : goal.returns-in_err-stated-clause-found
returns-in_err-stated-clause-found c = let p = err_from_is_err_and c.from_residual-in_err-stated.result c.from_residual-in_err-stated.ensures.1 in rw p.1 tt

pub returns-in_err-stated-clause-live : goal.returns-in_err-stated-clause-live
returns-in_err-stated-clause-live c = let p = err_from_is_err_and c.from_residual-in_err-stated.result c.from_residual-in_err-stated.ensures.1 in rw p.1 tt

pub returns-in_err-stated-clause-refused : goal.returns-in_err-stated-clause-refused
returns-in_err-stated-clause-refused c =
    let p = err_from_is_err_and c.from_residual-in_err-stated.result c.from_residual-in_err-stated.ensures.1 in
    rw (p.1, p.2) (text_refusal (completed c.args.form.now c.args.instant.now) c.args.table.now (option_copied c.args.base) c.in_ok-files.files
    (ap (each (bare_row (suffix_of c.args.form.now))) (sym c.as_slice-stats.ensures) ∙ c.in_ok-files.ensures) c.in_err-stated.field-0.0 c.in_err-stated.ensures.refused)

pub returns-in_err-stated-clause-goes_on : goal.returns-in_err-stated-clause-goes_on
returns-in_err-stated-clause-goes_on c = let p = err_from_is_err_and c.from_residual-in_err-stated.result c.from_residual-in_err-stated.ensures.1 in rw p.1 tt

pub returns-in_err-schema-clause-found : goal.returns-in_err-schema-clause-found
returns-in_err-schema-clause-found c = let p = err_from_is_err_and c.from_residual-in_err-schema.result c.from_residual-in_err-schema.ensures.1 in rw p.1 tt

pub returns-in_err-schema-clause-live : goal.returns-in_err-schema-clause-live
returns-in_err-schema-clause-live c = let p = err_from_is_err_and c.from_residual-in_err-schema.result c.from_residual-in_err-schema.ensures.1 in rw p.1 tt

pub returns-in_err-schema-clause-refused : goal.returns-in_err-schema-clause-refused
returns-in_err-schema-clause-refused c =
    let p = err_from_is_err_and c.from_residual-in_err-schema.result c.from_residual-in_err-schema.ensures.1 in
    rw (p.1, p.2, c.in_err-schema.ensures.refused.0) (no_schema (completed c.args.form.now c.args.instant.now) c.args.table.now (option_copied c.args.base) c.in_ok-files.files
    (ap (each (bare_row (suffix_of c.args.form.now))) (sym c.as_slice-stats.ensures) ∙ c.in_ok-files.ensures) c.in_ok-stated.stated c.in_ok-stated.ensures.ok
    c.in_err-schema.ensures.refused.1)

pub returns-in_err-schema-clause-goes_on : goal.returns-in_err-schema-clause-goes_on
returns-in_err-schema-clause-goes_on c = let p = err_from_is_err_and c.from_residual-in_err-schema.result c.from_residual-in_err-schema.ensures.1 in rw p.1 tt

pub returns-in_err-kinds-clause-found : goal.returns-in_err-kinds-clause-found
returns-in_err-kinds-clause-found c = let p = err_from_is_err_and c.from_residual-in_err-kinds.result c.from_residual-in_err-kinds.ensures.1 in rw p.1 tt

pub returns-in_err-kinds-clause-live : goal.returns-in_err-kinds-clause-live
returns-in_err-kinds-clause-live c = let p = err_from_is_err_and c.from_residual-in_err-kinds.result c.from_residual-in_err-kinds.ensures.1 in rw p.1 tt

pub returns-in_err-kinds-clause-refused : goal.returns-in_err-kinds-clause-refused
returns-in_err-kinds-clause-refused c =
    let p = err_from_is_err_and c.from_residual-in_err-kinds.result c.from_residual-in_err-kinds.ensures.1 in
    rw (p.1, p.2) (kinds_refused c.args.form.now c.args.instant.now c.args.table.now (option_copied c.args.base) c.as_slice-stats.result.now c.as_slice-stats.ensures c.in_ok-files.files c.in_ok-files.ensures
    c.in_ok-stated.stated c.in_ok-stated.ensures.ok c.in_ok-schema.schema.now c.in_ok-schema.ensures.found c.as_slice.result.now c.as_slice.ensures c.in_err-kinds.field-0.0 c.in_err-kinds.ensures.refused)

pub returns-in_err-kinds-clause-goes_on : goal.returns-in_err-kinds-clause-goes_on
returns-in_err-kinds-clause-goes_on c = let p = err_from_is_err_and c.from_residual-in_err-kinds.result c.from_residual-in_err-kinds.ensures.1 in rw p.1 tt

pub rows_of-requires : goal.rows_of-requires
rows_of-requires c = record {
  counted = ap length c.as_slice-2.ensures.value
      ∙ kinds_counted c.args.form.now c.args.instant.now c.args.table.now (option_copied c.args.base) c.as_slice-stats.result.now c.as_slice-stats.ensures c.in_ok-files.files c.in_ok-files.ensures
      c.in_ok-stated.stated c.in_ok-stated.ensures.ok c.in_ok-schema.schema.now c.in_ok-schema.ensures.found c.as_slice.result.now c.as_slice.ensures
      c.in_ok-kinds.kinds.items c.in_ok-kinds.ensures.distinct c.in_ok-kinds.ensures.kinds c.in_ok-kinds.ensures.kept;
}

pub returns-in_err-rows-clause-found : goal.returns-in_err-rows-clause-found
returns-in_err-rows-clause-found c = let p = err_from_is_err_and c.from_residual-in_err-rows.result c.from_residual-in_err-rows.ensures.1 in rw p.1 tt

pub returns-in_err-rows-clause-live : goal.returns-in_err-rows-clause-live
returns-in_err-rows-clause-live c = let p = err_from_is_err_and c.from_residual-in_err-rows.result c.from_residual-in_err-rows.ensures.1 in rw p.1 tt

pub returns-in_err-rows-clause-refused : goal.returns-in_err-rows-clause-refused
returns-in_err-rows-clause-refused c =
    let p = err_from_is_err_and c.from_residual-in_err-rows.result c.from_residual-in_err-rows.ensures.1 in
    rw (p.1, p.2) (rows_refused c.args.form.now c.args.instant.now c.args.table.now (option_copied c.args.base) c.as_slice-stats.result.now c.as_slice-stats.ensures c.in_ok-files.files c.in_ok-files.ensures
    c.in_ok-stated.stated c.in_ok-stated.ensures.ok c.in_ok-schema.schema.now c.in_ok-schema.ensures.found c.as_slice.result.now c.as_slice.ensures
    c.in_ok-kinds.kinds.items c.in_ok-kinds.ensures.distinct c.in_ok-kinds.ensures.kinds c.in_ok-kinds.ensures.kept
    c.as_slice-2.result.now c.as_slice-2.ensures.value c.in_err-rows.field-0.0 c.in_err-rows.ensures.refused)

pub returns-in_err-rows-clause-goes_on : goal.returns-in_err-rows-clause-goes_on
returns-in_err-rows-clause-goes_on c = let p = err_from_is_err_and c.from_residual-in_err-rows.result c.from_residual-in_err-rows.ensures.1 in rw p.1 tt

pub returns-in_err-change-clause-found : goal.returns-in_err-change-clause-found
returns-in_err-change-clause-found c = let p = err_from_is_err_and c.from_residual-in_err-change.result c.from_residual-in_err-change.ensures.1 in rw p.1 tt

pub returns-in_err-change-clause-live : goal.returns-in_err-change-clause-live
returns-in_err-change-clause-live c = let p = err_from_is_err_and c.from_residual-in_err-change.result c.from_residual-in_err-change.ensures.1 in rw p.1 tt

pub returns-in_err-change-clause-refused : goal.returns-in_err-change-clause-refused
returns-in_err-change-clause-refused c =
    let p = err_from_is_err_and c.from_residual-in_err-change.result c.from_residual-in_err-change.ensures.1 in
    rw (p.1, p.2) (change_refused c.args.form.now c.args.instant.now c.args.table.now (option_copied c.args.base) c.as_slice-stats.result.now c.as_slice-stats.ensures c.in_ok-files.files c.in_ok-files.ensures
    c.in_ok-stated.stated c.in_ok-stated.ensures.ok c.in_ok-schema.schema.now c.in_ok-schema.ensures.found c.as_slice.result.now c.as_slice.ensures
    c.in_ok-kinds.kinds.items c.in_ok-kinds.ensures.distinct c.in_ok-kinds.ensures.kinds c.in_ok-kinds.ensures.kept
    c.as_slice-2.result.now c.as_slice-2.ensures.value
    c.in_ok-rows.rows c.in_ok-rows.ensures.names c.in_ok-rows.ensures.inside c.in_ok-rows.ensures.values c.as_slice-3.result.now c.as_slice-3.ensures (rows_before (option_copied c.args.base)) refl
    c.in_err-change.field-0.0 c.in_err-change.ensures.refused)

pub returns-in_err-change-clause-goes_on : goal.returns-in_err-change-clause-goes_on
returns-in_err-change-clause-goes_on c = let p = err_from_is_err_and c.from_residual-in_err-change.result c.from_residual-in_err-change.ensures.1 in rw p.1 tt

pub returns-clause-found : goal.returns-clause-found
returns-clause-found c =
    found c.args.form.now c.args.instant.now c.args.table.now (option_copied c.args.base) c.as_slice-stats.result.now c.as_slice-stats.ensures c.in_ok-files.files c.in_ok-files.ensures
    c.in_ok-stated.stated c.in_ok-stated.ensures.ok c.in_ok-schema.schema.now c.in_ok-schema.ensures.found c.as_slice.result.now c.as_slice.ensures
    c.in_ok-kinds.kinds.items c.in_ok-kinds.ensures.distinct c.in_ok-kinds.ensures.kinds c.in_ok-kinds.ensures.kept
    c.as_slice-2.result.now c.as_slice-2.ensures.value
    c.in_ok-rows.rows c.in_ok-rows.ensures.names c.in_ok-rows.ensures.inside c.in_ok-rows.ensures.values c.as_slice-3.result.now c.as_slice-3.ensures (rows_before (option_copied c.args.base)) refl
    c.in_ok-stated.ensures.sound c.in_ok-change.change c.in_ok-change.ensures.change

pub returns-clause-live : goal.returns-clause-live
returns-clause-live c =
    live c.args.form.now c.args.instant.now c.args.table.now (option_copied c.args.base) c.as_slice-stats.result.now c.as_slice-stats.ensures c.in_ok-files.files c.in_ok-files.ensures
    c.in_ok-stated.stated c.in_ok-stated.ensures.ok c.in_ok-schema.schema.now c.in_ok-schema.ensures.found c.as_slice.result.now c.as_slice.ensures
    c.in_ok-kinds.kinds.items c.in_ok-kinds.ensures.distinct c.in_ok-kinds.ensures.kinds c.in_ok-kinds.ensures.kept
    c.as_slice-2.result.now c.as_slice-2.ensures.value
    c.in_ok-rows.rows c.in_ok-rows.ensures.names c.in_ok-rows.ensures.inside c.in_ok-rows.ensures.values c.as_slice-3.result.now c.as_slice-3.ensures (rows_before (option_copied c.args.base)) refl
    c.in_ok-stated.ensures.sound c.in_ok-change.change c.in_ok-change.ensures.change

pub returns-clause-goes_on : goal.returns-clause-goes_on
returns-clause-goes_on c =
    goes_on c.args.form.now c.args.instant.now c.args.table.now (option_copied c.args.base) c.as_slice-stats.result.now c.as_slice-stats.ensures c.in_ok-files.files c.in_ok-files.ensures
    c.in_ok-stated.stated c.in_ok-stated.ensures.ok c.in_ok-schema.schema.now c.in_ok-schema.ensures.found c.as_slice.result.now c.as_slice.ensures
    c.in_ok-kinds.kinds.items c.in_ok-kinds.ensures.distinct c.in_ok-kinds.ensures.kinds c.in_ok-kinds.ensures.kept
    c.as_slice-2.result.now c.as_slice-2.ensures.value
    c.in_ok-rows.rows c.in_ok-rows.ensures.names c.in_ok-rows.ensures.inside c.in_ok-rows.ensures.values c.as_slice-3.result.now c.as_slice-3.ensures (rows_before (option_copied c.args.base)) refl
    c.in_ok-stated.ensures.sound c.in_ok-change.change c.in_ok-change.ensures.change
