use Rattle.std.proofs.Common.{refl}
use Rattle.delta_log.proofs.LineLemmas.{one_more_path}
use Rattle.delta_log.proofs.reading.Reading.with_file.Goals as goal

pub invariant_of-result : goal.invariant_of-result
invariant_of-result c = λ q. one_more_path q _ c.self.inside.commit.files _ c.args.file _ _ refl c.in_ok-put_file.ensures.files (c.self.invariant q) (c.in_ok-put_file.ensures.paths q)
