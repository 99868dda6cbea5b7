use Rattle.std.proofs.Common.{OnOk, sym, subst}
use Rattle.table_history.specs.Tables.{CanApply, IsAfter, change_of}
use Rattle.table_history.proofs.table.Table.apply_owned.Goals as goal

pub make-requires : goal.make-requires
make-requires c = subst (CanApply c.args.self.now) (sym (λ i. change_of c.args.change.schema (c.as_slice.ensures i) (c.into_vec.ensures i))) c.requires

pub returns-clause-ok : goal.returns-clause-ok
returns-clause-ok c =
    subst (λ change. OnOk c.make.result (IsAfter c.args.self.now change c.make.new.self)) (λ i. change_of c.args.change.schema (c.as_slice.ensures i) (c.into_vec.ensures i)) c.make.ensures.ok
