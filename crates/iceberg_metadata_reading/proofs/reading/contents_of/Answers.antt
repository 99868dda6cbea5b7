use Rattle.std.proofs.lemmas.Result.{err_from_is_err_and}
use Rattle.serde_json.specs.View.{view, items_view}
use Rattle.iceberg_schemas.proofs.SchemaListLemmas.{told_inconsistent}
use Rattle.iceberg_metadata_reading.proofs.reading.contents_of.Goals as goal

pub returns-in_err-consistent-clause-read : goal.returns-in_err-consistent-clause-read
returns-in_err-consistent-clause-read c =
    let p = err_from_is_err_and c.from_residual-in_err-consistent.result c.from_residual-in_err-consistent.ensures.1 in
    rw (p.1, p.2) (told_inconsistent (view c.args.value.now) (items_view c.in_ok-listed.listed.now.items) c.in_ok-schemas.schemas c.in_ok-metadata.metadata c.as_slice.result.now c.in_err-consistent.field-0.0
    c.in_ok-version_two.ensures c.in_ok-listed.ensures c.in_ok-schemas.ensures.exact c.in_ok-metadata.ensures.read c.in_ok-unkept.ensures c.as_slice.ensures c.in_err-consistent.ensures)
