use Rattle.std.proofs.Common.{sym, ◌∙◌}
use Rattle.lake_store.proofs.RangeLaws.{made}
use Rattle.lake_store.proofs.files.range_of.Goals as goal

pub returns : goal.returns
returns c = made c.args.folder.now (sym c.is_empty.ensures ∙ c.if-is_empty.false) c.in_ok-from.from c.in_ok-end.end c.in_ok-from.ensures c.in_ok-end.ensures
