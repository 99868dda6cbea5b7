use Rattle.std.proofs.Common.{arith}
use Rattle.target_iceberg.proofs.linking.link_all.Goals as goal

pub link_each-requires-clause-owners : goal.link_each-requires-clause-owners
link_each-requires-clause-owners c = let fits = c.in-Ok.ensures in let len = c.len.ensures in omega (arith, fits, len)
