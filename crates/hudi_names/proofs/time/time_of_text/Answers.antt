use Rattle.hudi_names.proofs.TimeLemmas.{no_time_of_day}
use Rattle.hudi_names.proofs.time.time_of_text.Goals as goal

pub returns-in_default : goal.returns-in_default
returns-in_default c = no_time_of_day c.args.text.now c.in_ok-number.number c.in_ok-number.ensures.digits.1 c.in_default.ensures
