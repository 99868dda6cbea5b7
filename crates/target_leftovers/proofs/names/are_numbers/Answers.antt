use Rattle.std.proofs.Common.{◌+◌, ℕ, List, subst}
use Rattle.std.specs.Prelude.{◌↔◌, IsTrue}
use Rattle.std.proofs.lemmas.Bool.{false≢true}
use Rattle.target_leftovers.proofs.NameLemmas.{hyphen_lacks, no_numbers, numbers_by}
use Rattle.target_leftovers.specs.Names.{IsDecimal}
use Rattle.target_leftovers.proofs.names.are_numbers.Goals as goal
use Rattle.lake_basics.proofs.Lists.{behind_place}

pub returns-then-is_decimal : goal.returns-then-is_decimal
returns-then-is_decimal c = numbers_by c.args.bytes.now c.in-Some.place c.in-Some.ensures c.is_decimal.result c.is_decimal.ensures c.if-is_decimal.true c.is_decimal-then-is_decimal.result (subst (λ (l : List ℕ). IsTrue c.is_decimal-then-is_decimal.result ↔ IsDecimal l) (behind_place (c.in-Some.place + 1) c.args.bytes.now) c.is_decimal-then-is_decimal.ensures)

pub returns-else-is_decimal : goal.returns-else-is_decimal
returns-else-is_decimal c = no_numbers c.args.bytes.now c.in-Some.place c.in-Some.ensures c.is_decimal.result c.is_decimal.ensures c.if-is_decimal.false

pub returns-in-None : goal.returns-in-None
returns-in-None c = (λ no. absurd (false≢true no), λ are. absurd (hyphen_lacks c.args.bytes.now c.in-None.ensures are))
