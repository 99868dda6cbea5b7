use Rattle.std.proofs.Common.{◌≡◌, All, map, take}
use Rattle.hudi_instant.specs.InstantText.{IsSoundStat}
use Rattle.target_hudi.specs.Writing.{stat_of}
use Rattle.target_hudi.proofs.stats.stats_of.Given as goal

abbrev pub invariant-loop-row : goal.invariant-loop-row
invariant-loop-row l = record {
  are : l.stats.items ≡ map (stat_of l.instant) (take l.row-index l.added);
  sound : All IsSoundStat l.stats.items;
}
