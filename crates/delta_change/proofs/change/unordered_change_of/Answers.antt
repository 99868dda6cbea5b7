use Rattle.std.proofs.Common.{subst, sym}
use Rattle.std.specs.Option.{option_copied}
use Rattle.std.proofs.lemmas.Result.{err_from_is_err_and}
use Rattle.delta_live.specs.Live.{PartColumns}
use Rattle.delta_log.specs.Sound.{HaveDistinctNames}
use Rattle.delta_change.specs.TableBehind.{rows_before}
use Rattle.delta_change.proofs.ColumnLemmas.{columns_given, columns_told}
use Rattle.delta_change.proofs.ChangeLemmas.{over_these, told_these, distinct_columns, found_by, follows_by, goes_on_by, refused_by}
use Rattle.delta_change.proofs.change.unordered_change_of.Goals as goal

pub change_over-requires-clause-names : goal.change_over-requires-clause-names
change_over-requires-clause-names c =
    let commit = c.args.commit.now in
    let base = option_copied c.args.base in
    let stated = c.in_ok-columns.columns.stated in
    let columns = c.in_ok-columns.columns.columns in
    subst (λ (cs : PartColumns). HaveDistinctNames cs) (sym c.as_slice.ensures) (distinct_columns commit base stated columns c.requires (columns_given commit base stated columns c.in_ok-columns.ensures))

pub returns : goal.returns
returns c =
    let commit = c.args.commit.now in
    let base = option_copied c.args.base in
    let stated = c.in_ok-columns.columns.stated in
    let columns = c.in_ok-columns.columns.columns in
    let r = c.change_over.result in
    let cols = columns_given commit base stated columns c.in_ok-columns.ensures in
    let over = over_these r c.as_slice.result.now columns c.rows_before.result.now (rows_before base) c.as_slice-2.result.now commit.files stated c.as_slice.ensures c.rows_before.ensures c.as_slice-2.ensures c.change_over.ensures.ok in
    let told = told_these r c.as_slice.result.now columns c.rows_before.result.now (rows_before base) c.as_slice-2.result.now commit.files c.as_slice.ensures c.rows_before.ensures c.as_slice-2.ensures c.change_over.ensures.refused in
    record {
      found = found_by commit base stated columns c.requires cols r over;
      follows = follows_by commit base stated columns c.requires cols r over;
      goes_on = goes_on_by commit base stated columns c.requires cols r over;
      refused = refused_by commit base stated columns c.requires cols r told;
    }

pub returns-in_err-columns-clause-refused : goal.returns-in_err-columns-clause-refused
returns-in_err-columns-clause-refused c =
    let p = err_from_is_err_and c.from_residual.result c.from_residual.ensures.1 in
    rw (p.1, p.2) (columns_told c.args.commit.now (option_copied c.args.base) c.in_err-columns.field-0.0 c.in_err-columns.ensures)
