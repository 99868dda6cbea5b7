use Rattle.std.proofs.Common.{◌≤◌, List, length, map, subst}
use Rattle.std.specs.Prelude.{Err}
use Rattle.std.proofs.lemmas.Result.{err_from_is_err_and}
use Rattle.toml.specs.View.{table_view}
use Rattle.lake_batch.specs.Batch.{AreApart, AreFolders, IsJudgedSo, folder_of}
use Rattle.lake_batch.specs.declared.batch.Item.{Item}
use Rattle.lake_batch.proofs.BatchReads.{a_batch, no_batch, no_form}
use Rattle.lake_batch.proofs.batch.read_tables.Goals as goal

pub returns-in_err-tables : goal.returns-in_err-tables
returns-in_err-tables c =
    let p = err_from_is_err_and c.from_residual-in_err-tables.result c.from_residual-in_err-tables.ensures.1 in
    rw (p.1, p.2) (no_form c.args.location.now c.args.bytes.now c.if-bytes-gt-MAX_BATCH_BYTES.false (table_view c.in_ok-document.document) c.in_ok-document.ensures.ok c.in_err-tables.field-0.0 c.in_err-tables.ensures)

pub returns-in_err-judge : goal.returns-in_err-judge
returns-in_err-judge c =
    let p = err_from_is_err_and c.from_residual-in_err-judge.result c.from_residual-in_err-judge.ensures.1 in
    rw (p.1, p.2) (no_batch c.args.location.now c.args.bytes.now c.if-bytes-gt-MAX_BATCH_BYTES.false (table_view c.in_ok-document.document) c.in_ok-document.ensures.ok c.in_ok-tables.tables c.in_ok-tables.ensures c.in_err-judge.field-0.0
    (subst (λ (tables : List Item). IsJudgedSo c.args.location.now tables (Err c.in_err-judge.field-0.0)) c.as_slice.ensures c.in_err-judge.ensures))

pub returns : goal.returns
returns c = a_batch c.args.location.now c.args.bytes.now c.if-bytes-gt-MAX_BATCH_BYTES.false (table_view c.in_ok-document.document) c.in_ok-document.ensures.ok c.in_ok-tables.tables c.in_ok-tables.ensures
    (subst (λ (tables : List Item). (length tables ≤ 1000) × AreFolders (length c.args.location.now) tables × AreApart (map folder_of tables)) c.as_slice.ensures c.in_ok-judge.ensures)
