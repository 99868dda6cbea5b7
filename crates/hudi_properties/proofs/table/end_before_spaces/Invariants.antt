use Rattle.std.proofs.Common.{◌≡◌, ◌+◌, ◌≤◌, ◌<◌, length, take, get_or}
use Rattle.std.specs.List.{suffix_len}
use Rattle.hudi_properties.specs.TableProperties.{is_space}
use Rattle.hudi_properties.proofs.table.end_before_spaces.Given as goal

abbrev pub invariant-loop-end : goal.invariant-loop-end
invariant-loop-end l = record {
  within : l.end ≤ length l.bytes;
  passed : l.end + suffix_len is_space l.bytes ≡ length l.bytes + suffix_len is_space (take l.end l.bytes);
  next : l.end < length l.bytes → get_or l.bytes l.end 0 ≡ 32;
}

abbrev pub decreases-loop-end : goal.decreases-loop-end
decreases-loop-end l = l.end
