use Rattle.std.proofs.Common.{map, arith}
use Rattle.std.proofs.lemmas.Bool.{false≢true}
use Rattle.partition_map.proofs.FolderLemmas.{now_of, too_few}
use Rattle.partition_map.proofs.folder.each_carries.Goals as goal

pub returns-then-values-columns : goal.returns-then-values-columns
returns-then-values-columns c = (
  λ f. absurd (false≢true f),
  λ h. absurd (too_few c.args.columns.now (map now_of c.args.components.now) c.args.values.now (omega arith) h),
)
