use Rattle.target_iceberg.proofs.inspect.own_mark.Goals as goal

pub returns-in_default : goal.returns-in_default
returns-in_default c = λ mark own. (rw c.in_default.is at c.in_ok-mark.ensures) mark own.has
