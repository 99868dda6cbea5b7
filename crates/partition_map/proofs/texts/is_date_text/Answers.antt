use Rattle.std.proofs.Common.{sym, subst}
use Rattle.partition_map.specs.Stands.{IsDateText}
use Rattle.partition_map.proofs.StandsLemmas.{date_same, no_date}
use Rattle.partition_map.proofs.texts.is_date_text.Goals as goal

pub returns-in-Some : goal.returns-in-Some
returns-in-Some c =
    date_same c.args.text.now c.in-Some.read c.args.days c.ranges.days (subst (λ t. IsDateText t c.in-Some.read) c.as_bytes.ensures.value c.in-Some.ensures)

pub returns-in-None : goal.returns-in-None
returns-in-None c = no_date c.args.text.now c.args.days (λ z h. c.in-None.ensures z (subst (λ t. IsDateText t z) (sym c.as_bytes.ensures.value) h))
