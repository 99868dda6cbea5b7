use Rattle.std.proofs.Common.{sym, ap, subst, ◌∙◌}
use Rattle.table_history.specs.Tables.{CanApply, empty_table}
use Rattle.hudi_rows.proofs.changes.set_after.Goals as goal

pub apply-requires : goal.apply-requires
apply-requires c = subst (λ t. CanApply t c.args.change.now) (sym (c.in_ok-base.ensures ∙ ap empty_table c.as_slice.ensures)) c.requires.fits
