use Rattle.target_leftovers.proofs.NameLemmas.{counted_digits}
use Rattle.target_leftovers.proofs.names.are_so_many_digits.Goals as goal

pub returns-then-bytes-count : goal.returns-then-bytes-count
returns-then-bytes-count c = counted_digits c.args.bytes.now c.args.count c.are_digits.result c.requires c.if-bytes-count.true c.are_digits.ensures
