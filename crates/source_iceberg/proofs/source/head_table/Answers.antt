use Rattle.std.proofs.Common.{sym, ap, ◌∙◌}
use Rattle.std.specs.Option.{option_copied}
use Rattle.lake_store.proofs.RunLaws.{reading_begins}
use Rattle.source_core.proofs.Answers.{errs}
use Rattle.source_iceberg.proofs.AtHead.{table_read, table_refused}
use Rattle.source_iceberg.proofs.LaterLaws.{head_got, head_held}
use Rattle.source_iceberg.proofs.source.head_table.Goals as goal

pub returns-in-Some-clause-table : goal.returns-in-Some-clause-table
returns-in-Some-clause-table g c told =
    let files = (g.S.Store.disk c.args.store.now).files in
    let version = c.args.newest.now.version in
    let m = c.args.newest.now.metadata in
    let newest = c.requires.newest told in
    let first = sym c.get.ensures ∙ ap option_copied c.in-Some.is in
    let held = head_held files version m newest c.args.head.now (c.requires.head told) c.in_ok-ancestors.ancestors c.in_ok-ancestors.ensures.found c.in-Some.snapshot.now first in
    table_read files version m newest c.in-Some.snapshot.now held c.table_of.result (c.table_of.ensures.table told) (c.table_of.ensures.read told)

pub returns-in-Some-clause-refused : goal.returns-in-Some-clause-refused
returns-in-Some-clause-refused g c told =
    let files = (g.S.Store.disk c.args.store.now).files in
    let version = c.args.newest.now.version in
    let m = c.args.newest.now.metadata in
    let newest = c.requires.newest told in
    let first = sym c.get.ensures ∙ ap option_copied c.in-Some.is in
    let held = head_held files version m newest c.args.head.now (c.requires.head told) c.in_ok-ancestors.ancestors c.in_ok-ancestors.ensures.found c.in-Some.snapshot.now first in
    errs c.table_of.result _ _ (table_refused files version m newest c.in-Some.snapshot.now held) (c.table_of.ensures.refused told)

pub returns-clause-refused : goal.returns-clause-refused
returns-clause-refused g c told =
    let files = (g.S.Store.disk c.args.store.now).files in
    let version = c.args.newest.now.version in
    let m = c.args.newest.now.metadata in
    absurd (head_got files version m (c.requires.newest told) c.args.head.now (c.requires.head told) c.in_ok-ancestors.ancestors c.in_ok-ancestors.ensures.found (sym c.get.ensures ∙ ap option_copied c.in-None.is))

pub returns-in_err-ancestors-clause-only_reads : goal.returns-in_err-ancestors-clause-only_reads
returns-in_err-ancestors-clause-only_reads g c = reading_begins g.S.Store g.met.S.Store.only_now c.args.store.now

pub returns-clause-only_reads : goal.returns-clause-only_reads
returns-clause-only_reads g c = reading_begins g.S.Store g.met.S.Store.only_now c.args.store.now
