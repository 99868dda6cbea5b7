use Rattle.std.proofs.Common.{arith}
use Rattle.target_delta.proofs.PastLemmas.{refused_behind}
use Rattle.target_delta.proofs.inspect.seen_in.Goals as goal

pub returns-clause-refusal : goal.returns-clause-refusal
returns-clause-refusal c = refused_behind c.args.newest c.args.longer (omega arith) c.behind_last.result c.behind_last.ensures.refusal
