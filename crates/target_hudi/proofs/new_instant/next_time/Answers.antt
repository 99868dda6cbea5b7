use Rattle.target_hudi.proofs.RankLemmas.{not_unreal}
use Rattle.target_hudi.proofs.new_instant.next_time.Goals as goal

pub unreachable-requires : goal.unreachable-requires
unreachable-requires c = not_unreal c.args.kept.now.newest c.in-Some.last c.as_bytes.result.now c.args.kept.now.newest_real c.in-Some.is c.as_bytes.ensures.value (λ ms is. c.in-None.ensures ms is)
